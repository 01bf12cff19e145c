-- What a parsed head asks.
use Rattle.std.proofs.Common.{◌≡◌, ◌<◌, ◌≤◌, ◌∙◌, ℕ, List, length, take, false, true, inr, Option, Result, Ok, Err}
use Rattle.std.proofs.Common.{refl, sym, ap, subst, append-nil, arith}
use Rattle.std.proofs.lemmas.Bool.{le-leb}
use Rattle.std.proofs.lemmas.List.{length-take, length-take-le}
use Rattle.std.proofs.lemmas.Bool.Decides.{nat_tests}
use Rattle.std.specs.Prelude.{nat_le}
use Rattle.httparse.specs.Grammar.{print_request}
use Rattle.httparse.specs.Spans.{span_bytes}
use Rattle.acvp_policy.specs.declared.rule.Rule.{Rule}
use Rattle.acvp_policy.specs.declared.rule.Rule.TheVariants.{Truncated}
use Rattle.acvp_http.specs.declared.head.Head.{Head}
use Rattle.acvp_http.specs.declared.path.Path.{Path}
use Rattle.acvp_http.specs.Paths.{Names}
use Rattle.acvp_http.specs.Target.{path_of}
use Rattle.acvp_http.specs.Asks.{IsBlockEnd, ParsedRequest, AsksBlock, ReadsBlock, asked_path, refused, window}
use Rattle.acvp_http.specs.Private.Head.{IsParsed, ParsesBlock, ParsesInput}

reads_parsed : (block : List ℕ) (parsed : Head) (p : IsParsed block parsed)
    → ReadsBlock block (Ok (record { head = p.head; size = parsed.size }))
reads_parsed block parsed p = (p.few, p.at.reads, p.size)

-- the spans of a head end where its block does
pub block_length : (block : List ℕ) (parsed : Head) → IsParsed block parsed → parsed.spans.len ≡ length block
block_length block parsed p = p.at.parts.len ∙ sym (ap length (p.at.reads.1 ∙ append-nil (print_request p.head)))

window_within : (bytes : List ℕ) (n : ℕ) → n ≤ length (window bytes) → n ≤ length bytes
unfolding window
window_within bytes n low = omega (arith, length-take 16384 bytes)

-- the body isn't there
pub asks_short : (block rest : List ℕ) (parsed : Head) → IsParsed block parsed → length rest < parsed.size
    → AsksBlock block rest (refused Truncated)
asks_short block rest parsed p short =
    let none : nat_le parsed.size (length rest) ≡ false = grind (arith, nat_tests) in
    (Ok (record { head = p.head; size = parsed.size }), reads_parsed block parsed p, rw none refl)

-- the body is there, and the head asks what its path says
pub asks_named : (block rest path : List ℕ) (parsed : Head) (named : Option Path) (asked : ParsedRequest)
    (p : IsParsed block parsed)
    → parsed.size ≤ length rest → path ≡ path_of (span_bytes block parsed.spans.path) → Names path named
    → asked ≡ asked_path p.head (take parsed.size rest) named → AsksBlock block rest asked
asks_named block rest path parsed named asked p low to names is =
    let there : nat_le parsed.size (length rest) ≡ true = le-leb parsed.size (length rest) low in
    let names' : Names (path_of p.head.target) named = (rw (to, p.at.parts.path) at names) in
    (Ok (record { head = p.head; size = parsed.size }), reads_parsed block parsed p, rw there (named, names', is))

-- what is parsed out of the block of an input is parsed out of the input
pub parses_input : (bytes : List ℕ) (n : ℕ) (parsed : Result Head Rule) → IsBlockEnd (window bytes) n
    → ParsesBlock (take n bytes) parsed
    → ParsesInput bytes parsed
parses_input bytes n (Err rule) end reads = inr (n, end, (Err rule, reads, refl))
parses_input bytes n (Ok head) end p =
    let low : n ≤ length bytes = window_within bytes n end.0 in
    let long : head.spans.len ≡ n = block_length (take n bytes) head p ∙ length-take-le n bytes low in (
      subst (λ (m : ℕ). IsBlockEnd (window bytes) m) (sym long) end,
      subst (λ (m : ℕ). IsParsed (take m bytes) head) (sym long) p,
    )
