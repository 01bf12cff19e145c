-- The forms that the statements' queries and their terms have.
use Rattle.std.proofs.Common.{None, [], ◌∷◌, List, ℕ, pos, negsuc, true, false}
use Rattle.sqlite.specs.Collation.{Collation}
use Rattle.sqlite_sql.specs.declared.ops.UnaryOp.TheVariants.{Not}
use Rattle.sqlite_value.specs.declared.keys.Key.{Key}
use Rattle.acvp_store.proofs.Words.{And, ascending, Binary, col, Compare, end, Eq, Ge, inner, Int, Le, lit, op1, op2}
use Rattle.acvp_store.proofs.Words.{Query, Term}

-- ---- terms

-- the column is the parameter
abbrev pub equals : ℕ → ℕ → Term
equals at parameter = op2 (Compare Eq Binary) (col 1 at) (col 0 parameter)

-- the column is BETWEEN the first and the second parameter
abbrev pub within : ℕ → List Term
within place =
    op2 (Compare Ge Binary) (col 1 place) (col 0 0) ∷ op2 (Compare Le Binary) (col 1 place) (col 0 1) ∷ []

-- the column at a place NOT BETWEEN these two
abbrev pub not_between : ℕ → ℕ → ℕ → Term
not_between place first last =
    let least = op2 (Compare Ge Binary) (col 1 place) (lit (Int (pos first))) in
    let most = op2 (Compare Le Binary) (col 1 place) (lit (Int (pos last))) in
    op1 Not (op2 And least most)

-- ---- queries

-- SELECT project FROM the table in the tree WHERE terms, with the collations of the columns where they are asked for
abbrev pub collated : List Collation → ℕ → List Term → List Term → Query
collated collations tree terms project = record {
  from = inner tree end;
  filter = terms;
  group = None;
  project = project;
  distinct = false;
  collations = collations;
  order = [];
  limit = lit (Int (negsuc 0));
  offset = lit (Int (pos 0));
}

-- the same without collations; of an UPDATE the rows that it writes
abbrev pub simple : ℕ → List Term → List Term → Query
simple = collated []

-- the same in an order, with a LIMIT
abbrev pub sorted_by : List (Term × Key) → Term → ℕ → List Term → List Term → Query
sorted_by order limit tree terms project = record (simple tree terms project) { order = order; limit = limit }

-- in the order of a column
abbrev pub ordered_by : ℕ → ℕ → List Term → List Term → Query
ordered_by at = sorted_by ((col 1 at, ascending Binary) ∷ []) (lit (Int (negsuc 0)))

-- the same, with LIMIT ?3
abbrev pub paging : ℕ → List Term → List Term → ℕ → Query
paging tree terms project place = sorted_by ((col 1 place, ascending Binary) ∷ []) (col 0 2) tree terms project

abbrev pub descending : Key
descending = record { collation = Binary; descending = true }

-- SELECT the column FROM the table in the tree WHERE terms ORDER BY the column DESC LIMIT 1
abbrev pub newest : ℕ → List Term → ℕ → Query
newest tree terms place =
    sorted_by ((col 1 place, descending) ∷ []) (lit (Int (pos 1))) tree terms (col 1 place ∷ [])

-- SELECT the column at a place FROM the table in the tree WHERE the term LIMIT 1
abbrev pub first_where : ℕ → ℕ → Term → Query
first_where tree place term = record (simple tree (term ∷ []) (col 1 place ∷ [])) { limit = lit (Int (pos 1)) }

-- of the rows' numbers
abbrev pub outside : ℕ → ℕ → ℕ → Query
outside tree first last = first_where tree 0 (not_between 0 first last)
