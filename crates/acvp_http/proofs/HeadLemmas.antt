-- Lemmas on the block of a head: how many lines it has.
use Rattle.std.proofs.Common.{◌≡◌, ◌≤◌, ℕ, ◌+◌, List, [], ◌∷◌, ◌++◌, length, Bool, true, false, ◌||◌, ◌==◌}
use Rattle.std.proofs.Common.{if◌then◌else◌, count_by, arith, refl, ap, ◌∙◌, lit≤, append-nil, append_assoc}
use Rattle.std.specs.Prelude.{IsTrue}
use Rattle.std.proofs.lemmas.List.Elements.{All-head}
use Rattle.std.proofs.lemmas.Bool.Decides.{nat_tests}
use Rattle.std.proofs.lemmas.List.Sums.{sum_by-append}
use Rattle.std.specs.List.{flat_map}
use Rattle.httparse.specs.Grammar.{LineEnd, crlf, lf, print_end, print_blank, Field, print_field, print_section}
use Rattle.httparse.specs.Grammar.{print_version, RequestHead, print_request, IsRequestHead, ReadsRequest, IsToken}
use Rattle.httparse.specs.Grammar.{is_token_byte}
use Rattle.httparse.proofs.GrammarLemmas.{cons-append}
use Rattle.httparse.proofs.PieceLemmas.{token_is_no_newline}
use Rattle.acvp_http.specs.Asks.{starts_empty, line_count}

-- how many line feeds
abbrev feeds : List ℕ → ℕ
feeds text = count_by (λ b. b == 10) text

feeds-append : (a b : List ℕ) → feeds (a ++ b) ≡ feeds a + feeds b
feeds-append a b = sum_by-append (λ b. if b == 10 then 1 else 0) a b

feeds-print_end : (e : LineEnd) → feeds (print_end e) ≡ 1
feeds-print_end crlf = refl
feeds-print_end lf = refl

feeds-print_blank : (ends : List LineEnd) → feeds (print_blank ends) ≡ length ends
feeds-print_blank [] = refl
feeds-print_blank (e ∷ es) = omega (
  arith,
  feeds-append (print_end e) (print_blank es),
  feeds-print_end e,
  feeds-print_blank es,
)

feeds-print_field : (f : Field) → 1 ≤ feeds (print_field f)
feeds-print_field f = omega (arith, feeds-append (f.name ++ 58 ∷ f.raw) (print_end f.end), feeds-print_end f.end)

feeds-print_fields : (fields : List Field) → length fields ≤ feeds (flat_map print_field fields)
feeds-print_fields [] = omega arith
feeds-print_fields (f ∷ fs) = omega (
  arith,
  feeds-append (print_field f) (flat_map print_field fs),
  feeds-print_field f,
  feeds-print_fields fs,
)

feeds-print_request : (h : RequestHead) → length h.blank + length h.fields + 2 ≤ feeds (print_request h)
unfolding print_request
feeds-print_request h =
    omega (
      arith,
      feeds-append (print_blank h.blank ++ h.method ++ 32 ∷ h.target ++ 32
          ∷ print_version h.minor ++ print_end h.line_end) (print_section h.fields h.last),
      feeds-append (flat_map print_field h.fields) (print_end h.last),
      feeds-append (print_blank h.blank ++ h.method ++ 32 ∷ h.target ++ 32
          ∷ print_version h.minor) (print_end h.line_end),
      feeds-append (print_blank h.blank ++ h.method ++ 32 ∷ h.target) (32 ∷ print_version h.minor),
      feeds-append (print_blank h.blank ++ h.method) (32 ∷ h.target),
      feeds-append (print_blank h.blank) h.method,
      feeds-print_end h.line_end,
      feeds-print_end h.last,
      feeds-print_blank h.blank,
      feeds-print_fields h.fields,
    )

-- a text that begins with a byte of a token begins with no empty line
starts_empty-token : (m : ℕ) (ms : List ℕ) → is_token_byte m ≡ true → starts_empty (m ∷ ms) ≡ false
starts_empty-token m ms token =
    let plain : (m == 13 || m == 10) ≡ false = token_is_no_newline m token in
    grind (arith, nat_tests)

starts_empty-method : (method rest : List ℕ) → IsToken method → starts_empty (method ++ rest) ≡ false
starts_empty-method [] rest token = absurd (omega (arith, token.0))
starts_empty-method (m ∷ ms) rest token =
    starts_empty-token m (ms ++ rest) (All-head (λ b. IsTrue (is_token_byte b)) m ms token.1)

one_at_most : (b : Bool) → (if b then 1 else 0) ≤ 1
one_at_most true = lit≤ tt
one_at_most false = lit≤ tt

-- what follows the method
abbrev after_method : RequestHead → List ℕ
after_method h = 32 ∷ (h.target
    ++ (32 ∷ (print_version h.minor ++ (print_end h.line_end ++ print_section h.fields h.last))))

-- without an empty line in front, a head begins with its method
print_request-plain : (h : RequestHead) → h.blank ≡ [] → print_request h ≡ h.method ++ after_method h
unfolding print_request
print_request-plain h is = rw is (simp (append_assoc, cons-append))

starts_plain : (h : RequestHead) → h.blank ≡ [] → IsToken h.method → starts_empty (print_request h) ≡ false
starts_plain h is token = ap starts_empty (print_request-plain h is)
    ∙ starts_empty-method h.method (after_method h) token

-- a head whose block has few lines has few fields
fields_by_lines : (h : RequestHead) (blank : List LineEnd) → h.blank ≡ blank → IsRequestHead h
    → length h.fields + 2 ≤ line_count (print_request h)
fields_by_lines h (e ∷ es) is head =
    let some : length h.blank ≡ length (e ∷ es) = ap length is in
    omega (arith, feeds-print_request h, one_at_most (starts_empty (print_request h)))
fields_by_lines h [] is head =
    let plain : starts_empty (print_request h) ≡ false = starts_plain h is head.method in
    rw plain (omega (arith, feeds-print_request h))

pub fields_few : (block : List ℕ) (h : RequestHead) → ReadsRequest block h [] → line_count block ≤ 66
    → length h.fields ≤ 64
fields_few block h reads few =
    let all : block ≡ print_request h = reads.1 ∙ append-nil (print_request h) in
    let few' : line_count (print_request h) ≤ 66 = rw all at few in
    omega (arith, fields_by_lines h h.blank refl reads.0)
