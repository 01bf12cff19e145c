-- A text that is a SELECT has no RETURNING, whatever the schema.
use Rattle.std.proofs.Common.{◌≡◌, ℕ, ◌+◌, inl, inr, List, true, Option, None, Ok, Err, refl, sym, ap}
use Rattle.std.proofs.Common.{subst, ◌∙◌}
use Rattle.sqlite_ast.specs.declared.Statement.{Statement}
use Rattle.sqlite_ast.specs.declared.Statement.TheVariants as written
use Rattle.sqlite_syntax.specs.declared.statement.Parsed.{Parsed}
use Rattle.sqlite_schema.specs.declared.schema.Schema.{Schema}
use Rattle.sqlite_resolve.specs.Lowering.{Checked, and_then}
use Rattle.sqlite_resolve.specs.Compile.{compiled, planned, meaning, returning, timed}
use Rattle.sqlite_resolve.specs.declared.compiled.Compiled.{Compiled}
use Rattle.sqlite.specs.Listing.{understood}
use Rattle.sqlite.specs.State.{CommitsShowing}
use Rattle.sqlite_trees.specs.Tree.{Trees}
use Rattle.acvp_store.specs.Private.Queries.{asks, asks_by, IsQuery}
use Rattle.acvp_store.proofs.Words.{cases_Bool, command, first, if_select, is_select, listing_schema, reads_listing}
use Rattle.acvp_store.proofs.Words.{Row, small, State}

-- a step that follows another was given its value
through : {A B : Type 0} (a : Checked A) (f : A → Checked B) (b : B) → and_then a f ≡ Ok b → (x : A) × (a ≡ Ok x)
    × (f x ≡ Ok b)
through (Ok x) f b h = (x, refl, h)
through (Err e) f b h = absurd (cc)

same_ok : {A : Type 0} {a b : A} → ◌≡◌ {A = Checked A} (Ok a) (Ok b) → a ≡ b
same_ok e = cc

returns_nothing : (schema : Schema) (base : ℕ) (s : Statement) → asks_by s ≡ true → returning schema base s ≡ Ok None
unfolding returning
returns_nothing schema base (written.Select s) h = refl
returns_nothing schema base _ h = absurd (cc)

asked : (text : List ℕ) (p : Parsed) → first text ≡ Ok p → IsQuery text → asks_by p.statement ≡ true
asked text p is h = sym (ap asks is) ∙ h

pub compiled_silent : (schema : Schema) (text : List ℕ) (c : Compiled) → IsQuery text
    → compiled schema text ≡ Ok c → c.returning ≡ None
unfolding compiled planned meaning
compiled_silent schema text c h is =
    let one = through (first text) _ c is in
    let p = one.0 in
    let two = through (planned schema p) _ c one.2 in
    let three = through (meaning schema p (small p.names + small (timed schema p.formats p.statement))) _ two.0 two.1 in
    let four = through (returning schema (small p.names + small (timed schema p.formats p.statement)) p.statement) _
    three.0 three.1 in
    let five = through (command schema p.formats
    (small p.names + small (timed schema p.formats p.statement)) p.statement) _ three.0 four.2 in
    let none : four.0 ≡ None = same_ok (sym four.1 ∙ returns_nothing schema _ p.statement (asked text p one.1 h)) in
    ap (λ (k : Compiled). k.returning) (sym (same_ok two.2))
    ∙ ap (λ (q : _ × (_ × Option _)). q.1.1) (sym (same_ok three.2))
    ∙ ap (λ (q : _ × Option _). q.1) (sym (same_ok five.2)) ∙ none

selected_silent : (r : Checked Compiled) (c : Compiled) → ((d : Compiled) → r ≡ Ok d → d.returning ≡ None)
    → if_select r ≡ Ok c → c.returning ≡ None
selected_silent (Ok d) c silent h = elim (cases_Bool (is_select d.command)) [
  | inl picks ↦ let same : d ≡ c = same_ok (rw picks at h) in
      subst (λ (k : Compiled). k.returning ≡ None) same (silent d refl)
  | inr other ↦ absurd (let e = rw other at h in cc)
]
selected_silent (Err e) c silent h = absurd (cc)

pub silent : (schema : Schema) (text : List ℕ) (c : Compiled) → IsQuery text → understood schema text ≡ Ok c
    → c.returning ≡ None
unfolding understood
silent schema text c h is = elim (cases_Bool (reads_listing schema text)) [
  | inl listed ↦ selected_silent (compiled listing_schema text) c (λ d e. compiled_silent listing_schema text d h e)
      (rw listed at is)
  | inr plain ↦ compiled_silent schema text c h (rw plain at is)
]

-- so it commits nothing
pub commits_nothing : (text : List ℕ) (params : Row) (s : State) (db : Trees) → IsQuery text
    → ¬ CommitsShowing text params s db
unfolding CommitsShowing
commits_nothing text params s db h shows = let none = silent s.now.schema text shows.0 h shows.1.is in
    absurd (let some = rw none at shows.2 in cc)
