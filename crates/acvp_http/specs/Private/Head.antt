-- What the parsed spans say of a block.
use Rattle.std.specs.Prelude.{◌≡◌, ℕ, ◌-◌, List, [], take, false, nat_lt, Result, Ok, Err}
use Rattle.acvp_policy.specs.declared.rule.Rule.{Rule}
use Rattle.acvp_desk.specs.Request.{request_value}
use Rattle.acvp_desk.specs.declared.request.TypedRequest.{TypedRequest}
use Rattle.acvp_http.specs.Asks.{Asks, IsBlockEnd, ParsedRequest, ReadsBlock, line_count, refused, told_size, typed}
use Rattle.acvp_http.specs.Asks.{window, wrong_method}
use Rattle.acvp_http.specs.declared.head.Head.{Head}
use Rattle.acvp_http.specs.declared.request.Refusal.{Refusal}
use Rattle.acvp_http.specs.declared.request.Refusal.TheVariants as why
use Rattle.httparse.specs.Grammar.{RequestHead, ReadsRequest}
use Rattle.httparse.specs.Spans.{IsRequestAt, IsRequestWithin}
use Rattle.httparse.specs.declared.spans.HeaderSpan.{HeaderSpan}
use Rattle.httparse.specs.declared.spans.RequestSpans.{RequestSpans}

-- the block isn't a request head
abbrev pub IsNoHead : List ℕ → Type 0
IsNoHead block = (head : RequestHead) → ReadsRequest block head [] → ⊥

-- the whole block is that head, and the spans cover its parts
pub record IsHeadAt (block : List ℕ) (headers : List HeaderSpan) (spans : RequestSpans)
    (head : RequestHead) : Type 0 where
  pub reads : ReadsRequest block head []
  pub parts : IsRequestAt block headers spans head
  pub within : IsRequestWithin block headers spans

abbrev pub IsWholeHead : List ℕ → List HeaderSpan → RequestSpans → Type 0
IsWholeHead block headers spans = (head : RequestHead) × IsHeadAt block headers spans head

-- the block is the head that was parsed out of it, with the size of its body
pub record IsParsed (block : List ℕ) (parsed : Head) : Type 0 where
  pub few : nat_lt 64 (line_count block - 2) ≡ false
  pub head : RequestHead
  pub at : IsHeadAt block parsed.headers parsed.spans head
  pub size : told_size head ≡ Ok parsed.size

-- what the code parses out of a block
abbrev pub ParsesBlock : List ℕ → Result Head Rule → Type 0
ParsesBlock block (Err rule) = ReadsBlock block (Err rule)
ParsesBlock block (Ok parsed) = IsParsed block parsed

-- and out of an input
abbrev pub ParsesInput : List ℕ → Result Head Rule → Type 0
ParsesInput bytes (Err rule) = Asks bytes (refused rule)
ParsesInput bytes (Ok parsed) =
    IsBlockEnd (window bytes) parsed.spans.len × IsParsed (take parsed.spans.len bytes) parsed

-- what an answer of the code says that is asked: a request, or a refusal
abbrev pub parsed_of : Result TypedRequest Refusal → ParsedRequest
parsed_of (Err (why.ByRule rule)) = refused rule
parsed_of (Err (why.WrongMethod path)) = wrong_method path
parsed_of (Ok r) = typed (request_value r)
