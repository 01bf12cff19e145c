-- What an input asks is what the front of it asks that its request needs.
use Rattle.std.proofs.Common.{◌≡◌, ◌<◌, ◌≤◌, ⊎_elim, inl, inr, ℕ, zero, suc, ◌+◌, ◌-◌, min, List, [], ◌∷◌, ◌++◌, length}
use Rattle.std.proofs.Common.{take, drop, Bool, true, false, Option, None, Some, IfSome, Result, Ok, Err, refl, sym, ap}
use Rattle.std.proofs.Common.{◌∙◌, arith, subst, below_more, take-take, take_all, length-append, append-nil}
use Rattle.std.proofs.Common.{append_assoc}
use Rattle.std.specs.Prelude.{nat_lt, nat_le, MatchBool, ◌≢◌}
use Rattle.std.specs.Io.KnownBytes.{Consumes}
use Rattle.std.proofs.Math.Seq.{take-append_seam, take-append-add, take-length}
use Rattle.std.proofs.lemmas.Bool.{lt-ltb, le-ltb}
use Rattle.std.proofs.lemmas.Bool.Decides.{nat_tests}
use Rattle.std.proofs.lemmas.List.{length-take, drop-take, take-append-le}
use Rattle.acvp_desk.specs.Answer.{end_of_moments}
use Rattle.acvp_desk.specs.declared.keys.Keys.{Keys}
use Rattle.acvp_policy.specs.declared.rule.Rule.{Rule}
use Rattle.acvp_policy.specs.declared.rule.Rule.TheVariants.{Truncated, ClockOutOfRange}
use Rattle.acvp_tables.specs.Content.{Content}
use Rattle.acvp_tables.specs.Meaning.{Meaning}
use Rattle.acvp_http.specs.Asks.{FramedHead, ParsedRequest, ReadsBlock, refused, Asks, AsksBlock, AskedBy, IsBlockEnd}
use Rattle.acvp_http.specs.Asks.{HasNoEmptyLine, asked_path, ends_empty, head_limit, headless, window}
use Rattle.acvp_http.specs.Connection.{AnswersInput, TakesWithin}
use Rattle.acvp_http.specs.Event.{request, replied}
use Rattle.acvp_http.specs.Needed.{IsNeeded, IsNeededAt, IsShortOfHead, IsWithinNeeded, NeedsBody, needed_size}
use Rattle.acvp_http.specs.Paths.{Names}
use Rattle.acvp_http.specs.Target.{path_of}
use Rattle.acvp_http.specs.declared.path.Path.{Path}
use Rattle.acvp_http.specs.declared.head.Head.{Head}
use Rattle.acvp_http.specs.Private.Head.{IsParsed, ParsesInput}
use Rattle.acvp_http.specs.Private.Receiving.{IsHeadBegun, IsHeadTaken, IsBodyTaken, TakesFew, TakesOfHead}
use Rattle.acvp_http.specs.Reply.{refusal, IsDateOf}
use Rattle.acvp_http.specs.Serve.{IsRefused, LeavesNext, RefusesAtOnce, RequestTaken, ShowsRequest, StaysOpen, Takes}
use Rattle.acvp_http.specs.Source.{InputStream, Gives}
use Rattle.acvp_http.proofs.AsksLemmas.{end_or_none, end_unique, read_unique}
use Rattle.acvp_http.proofs.RequestLemmas.{block_length}
use Rattle.acvp_http.proofs.KnownLemmas.{consumes_consumes, consumes_nothing}

-- ---- the block

-- a front that long has as much of the body as the whole has
as_much : (size : ℕ) (rest : List ℕ) → nat_le size (length (take size rest)) ≡ nat_le size (length rest)
as_much size rest =
    let some : length (take size rest) ≡ min size (length rest) = length-take size rest in
    grind (arith, nat_tests)

asked_there : (f : FramedHead) (rest : List ℕ) (parsed : ParsedRequest) (there : Bool)
    → MatchBool there
    ((named : Option Path) × Names (path_of f.head.target) named
    × (parsed ≡ asked_path f.head (take f.size (take f.size rest)) named))
    (parsed ≡ refused Truncated)
    → MatchBool there
    ((named : Option Path) × Names (path_of f.head.target) named
    × (parsed ≡ asked_path f.head (take f.size rest) named))
    (parsed ≡ refused Truncated)
asked_there f rest parsed true (named, names, is) =
    (named, names, is ∙ ap (λ body. asked_path f.head body named) (take-take f.size f.size rest (omega arith)))
asked_there f rest parsed false is = is

-- what is asked with as much of the rest as is needed is asked with all of it
asked_of : (rest : List ℕ) (read : Result FramedHead Rule) (parsed : ParsedRequest)
    → AskedBy (take (needed_size read) rest) read parsed → AskedBy rest read parsed
asked_of rest (Err rule) parsed asked = asked
asked_of rest (Ok f) parsed asked =
    asked_there f rest parsed (nat_le f.size (length rest))
    (subst (λ (there : Bool). MatchBool there
    ((named : Option Path) × Names (path_of f.head.target) named
    × (parsed ≡ asked_path f.head (take f.size (take f.size rest)) named))
    (parsed ≡ refused Truncated)) (as_much f.size rest) asked)

asks_block : (block rest : List ℕ) (size : ℕ) (parsed : ParsedRequest) → NeedsBody block size
    → AsksBlock block (take size rest) parsed
    → AsksBlock block rest parsed
asks_block block rest size parsed needs (read, reads, asked) =
    let is : size ≡ needed_size read = needs.2 ∙ ap needed_size (read_unique block needs.0 read needs.1 reads) in
    (read, reads, asked_of rest read parsed (subst (λ (n : ℕ). AskedBy (take n rest) read parsed) is asked))

-- ---- the input

-- the first bytes of a front are those of the whole
fronts : (input : List ℕ) (n size k : ℕ) → n ≤ head_limit → k ≤ n
    → take k (window (take (n + size) input)) ≡ take k (window input)
unfolding window
fronts input n size k low within =
    take-take k 16384 (take (n + size) input) (omega arith) ∙ take-take k (n + size) input (omega arith)
    ∙ sym (take-take k 16384 input (omega arith))

window_low : (input : List ℕ) (n : ℕ) → n ≤ length (window input) → (n ≤ head_limit) × (n ≤ length input)
unfolding window
window_low input n low = (omega (arith, length-take 16384 input), omega (arith, length-take 16384 input))

window_high : (input : List ℕ) (n size : ℕ) → n ≤ head_limit → n ≤ length input
    → n ≤ length (window (take (n + size) input))
unfolding window
window_high input n size low there =
    omega (arith, length-take 16384 (take (n + size) input), length-take (n + size) input)

-- a front that has the block has its end
front_end : (input : List ℕ) (n size : ℕ) → IsBlockEnd (window input) n → IsBlockEnd (window (take (n + size) input)) n
front_end input n size (low, ends, first) =
    let lows = window_low input n low in (
      window_high input n size lows.0 lows.1,
      ap ends_empty (fronts input n size n lows.0 (omega arith)) ∙ ends,
      λ k below. ap ends_empty (fronts input n size k lows.0 (omega arith)) ∙ first k below,
    )

asks_front : (input : List ℕ) (n size : ℕ) (parsed : ParsedRequest) → IsBlockEnd (window input) n
    → NeedsBody (take n input) size
    → Asks (take (n + size) input) parsed → Asks input parsed
asks_front input n size parsed end needs asks =
    let front = take (n + size) input in
    let front_ends : IsBlockEnd (window front) n = front_end input n size end in
    let block : take n front ≡ take n input = take-take n (n + size) input (omega arith) in
    let body : drop n front ≡ take size (drop n input) = drop-take n size input in
    ⊎_elim (λ none. absurd (end_or_none (window front) n none.0 front_ends))
    (λ q. let here : AsksBlock (take n front) (drop n front) parsed =
    subst (λ (m : ℕ). AsksBlock (take m front) (drop m front) parsed)
    (end_unique (window front) q.0 n q.1 front_ends) q.2 in
    let there : AsksBlock (take n input) (take size (drop n input)) parsed =
    subst (λ (rest : List ℕ). AsksBlock (take n input) rest parsed) body
    (subst (λ (b : List ℕ). AsksBlock b (drop n front) parsed) block here) in
    inr (n, end, asks_block (take n input) (drop n input) size parsed needs there)) asks

window_twice : (input : List ℕ) → window (window input) ≡ window input
unfolding window
window_twice input = take-take 16384 16384 input (omega arith)

asks_window : (input : List ℕ) (parsed : ParsedRequest) → HasNoEmptyLine (window input) → Asks (window input) parsed
    → Asks input parsed
asks_window input parsed none asks =
    ⊎_elim (λ q. inl (none, subst (λ (w : List ℕ). parsed ≡ refused (headless w)) (window_twice input) q.1))
    (λ q. absurd (end_or_none (window input) q.0 none
    (subst (λ (w : List ℕ). IsBlockEnd w q.0) (window_twice input) q.1))) asks

pub asks_needed : (input front : List ℕ) (parsed : ParsedRequest) → IsNeeded input front → Asks front parsed
    → Asks input parsed
asks_needed input front parsed needed asks =
    ⊎_elim (λ none. asks_window input parsed none.0 (subst (λ (f : List ℕ). Asks f parsed) none.1 asks))
    (λ b. asks_front input b.0 b.1 parsed b.2 b.3 (subst (λ (f : List ℕ). Asks f parsed) b.4 asks)) needed

-- ---- what is read of a known input

-- as much as there may be, or all that there is
full : (most : ℕ) (text rest : List ℕ) → length text ≤ most → (length text < most → rest ≡ [])
    → take most (text ++ rest) ≡ text
full zero [] rest low whole = refl
full zero (x ∷ text) rest low whole = absurd (omega arith)
full (suc most) [] rest low whole = rw (whole (omega arith)) refl
full (suc most) (x ∷ text) rest low whole =
    ap (λ l. x ∷ l) (full most text rest (omega arith) (λ less. whole (omega (arith, less))))

pub needed_window : (input left : Option (List ℕ)) (text : List ℕ) → Consumes input left text → IsHeadTaken left text
    → ends_empty text ≡ false
    → IfSome input (λ bytes. IsNeeded bytes text)
unfolding window
needed_window None left text consumed taken none = tt
needed_window (Some xs) None text consumed taken none = absurd consumed
needed_window (Some xs) (Some ys) text consumed taken none =
    let all : ends_empty (take (length text) text) ≡ false = ap ends_empty (take-length text) ∙ none in
    let is : window xs ≡ text = ap (λ l. take 16384 l) consumed ∙ full 16384 text ys taken.few (taken.whole none) in
    let lacks : HasNoEmptyLine text =
    λ k low. below_more (λ k. ends_empty (take k text) ≡ false) (length text) taken.first all k (omega arith) in
    inl (subst HasNoEmptyLine (sym is) lacks, sym is)

block_front : (text ys : List ℕ) (k : ℕ) → length text ≤ head_limit → k ≤ length text
    → take k (window (text ++ ys)) ≡ take k text
unfolding window
block_front text ys k low within = take-take k 16384 (text ++ ys) (omega arith) ∙ take-append-le k text ys within

block_low : (text ys : List ℕ) → length text ≤ head_limit → length text ≤ length (window (text ++ ys))
unfolding window
block_low text ys low = omega (arith, length-take 16384 (text ++ ys), length-append text ys)

-- the block that was taken ends there
block_ends : (text ys : List ℕ) (left : Option (List ℕ)) → IsHeadTaken left text → ends_empty text ≡ true
    → IsBlockEnd (window (text ++ ys)) (length text)
block_ends text ys left taken ends = (
  block_low text ys taken.few,
  ap ends_empty (block_front text ys (length text) taken.few (omega arith) ∙ take-length text) ∙ ends,
  λ k below. ap ends_empty (block_front text ys k taken.few (omega arith)) ∙ taken.first k below,
)

needed_block : (text part rest : List ℕ) (size : ℕ) (left : Option (List ℕ)) → IsHeadTaken left text
    → ends_empty text ≡ true → NeedsBody text size
    → length part ≤ size → (length part < size → rest ≡ []) → IsNeeded (text ++ (part ++ rest)) (text ++ part)
needed_block text part rest size left taken ends needs few whole =
    let ys = part ++ rest in
    let end = block_ends text ys left taken ends in
    let front : text ++ part ≡ take (length text + size) (text ++ ys) =
    sym (take-append-add text ys size ∙ ap (λ l. text ++ l) (full size part rest few whole)) in
    inr (length text, size, end, subst (λ (b : List ℕ). NeedsBody b size) (sym (take-append_seam text ys)) needs, front)

needed_whole : (input left after : Option (List ℕ)) (text part : List ℕ) (size : ℕ) → Consumes input left text
    → Consumes left after part
    → IsHeadTaken left text → ends_empty text ≡ true → NeedsBody text size → IsBodyTaken size after part
    → IfSome input (λ bytes. IsNeeded bytes (text ++ part))
needed_whole None left after text part size consumed more taken ends needs body = tt
needed_whole (Some xs) None after text part size consumed more taken ends needs body = absurd consumed
needed_whole (Some xs) (Some ys) None text part size consumed more taken ends needs body = absurd more
needed_whole (Some xs) (Some ys) (Some zs) text part size consumed more taken ends needs body =
    subst (λ (input : List ℕ). IsNeeded input (text ++ part)) (sym (consumed ∙ ap (λ l. text ++ l) more))
    (needed_block text part zs size (Some ys) taken ends needs body.few body.whole)

-- the block and what was taken behind it
pub received : (input left after : Option (List ℕ)) (text part bytes : List ℕ) (size : ℕ) → Consumes input left text
    → Consumes left after part
    → bytes ≡ text ++ part → IsHeadTaken left text → ends_empty text ≡ true → NeedsBody text size
    → IsBodyTaken size after part
    → Consumes input after bytes × IfSome input (λ whole. IsNeeded whole bytes)
received input left after text part bytes size consumed more is taken ends needs body = rw is (
  consumes_consumes input left after text part consumed more,
  needed_whole input left after text part size consumed more taken ends needs body,
)

-- ---- what was parsed of it

window_all : (text : List ℕ) → length text ≤ head_limit → window text ≡ text
unfolding window
window_all text few = take_all 16384 text few

-- there is no empty line in what was taken
pub asks_headless : (left : Option (List ℕ)) (text : List ℕ) → IsHeadTaken left text → ends_empty text ≡ false
    → Asks text (refused (headless text))
asks_headless left text taken none =
    let all : ends_empty (take (length text) text) ≡ false = ap ends_empty (take-length text) ∙ none in
    let is : window text ≡ text = window_all text taken.few in
    let lacks : HasNoEmptyLine text =
    λ k low. below_more (λ k. ends_empty (take k text) ≡ false) (length text) taken.first all k (omega arith) in
    inl (subst HasNoEmptyLine (sym is) lacks, ap (λ w. refused (headless w)) (sym is))

-- the block is refused, whatever follows it
pub asks_refused : (left : Option (List ℕ)) (text : List ℕ) (rule : Rule) → IsHeadTaken left text
    → ends_empty text ≡ true → ReadsBlock text (Err rule)
    → Asks text (refused rule)
asks_refused left text rule taken ends reads =
    let end : IsBlockEnd (window text) (length text) =
    subst (λ (l : List ℕ). IsBlockEnd (window l) (length text)) (append-nil text)
    (block_ends text [] left taken ends) in
    inr (
      length text,
      end,
      (
        Err rule,
        subst (λ (b : List ℕ). ReadsBlock b (Err rule)) (sym (take-length text)) reads,
        refl,
      ),
    )

-- so nothing more is needed of it
pub received_refused : (input left : Option (List ℕ)) (text : List ℕ) (rule : Rule) → Consumes input left text
    → IsHeadTaken left text → ends_empty text ≡ true
    → ReadsBlock text (Err rule) → IfSome input (λ whole. IsNeeded whole text)
received_refused input left text rule consumed taken ends reads =
    (received input left left text [] text 0 consumed (consumes_nothing left) (sym (append-nil text)) taken ends
    (Err rule, reads, refl)
    (record { few = omega arith; whole = λ below. absurd (omega arith) })).1

pub needs_parsed : (text : List ℕ) (parsed : Head) → IsParsed text parsed → NeedsBody text parsed.size
needs_parsed text parsed p = (Ok (record { head = p.head; size = parsed.size }), (p.few, p.at.reads, p.size), refl)

-- the head was parsed out of the block, and its body was taken behind it
pub parses_whole : (left : Option (List ℕ)) (text part bytes : List ℕ) (parsed : Head) → bytes ≡ text ++ part
    → IsHeadTaken left text → ends_empty text ≡ true
    → IsParsed text parsed → ParsesInput bytes (Ok parsed)
parses_whole left text part bytes parsed is taken ends p =
    let long : parsed.spans.len ≡ length text = block_length text parsed p in
    let ends_there : IsBlockEnd (window bytes) (length text) =
    subst (λ (l : List ℕ). IsBlockEnd (window l) (length text)) (sym is) (block_ends text part left taken ends) in
    let block : take (length text) bytes ≡ text = ap (λ l. take (length text) l) is ∙ take-append_seam text part in
    let p' : IsParsed (take (length text) bytes) parsed = subst (λ (b : List ℕ). IsParsed b parsed) (sym block) p in (
      subst (λ (n : ℕ). IsBlockEnd (window bytes) n) (sym long) ends_there,
      subst (λ (n : ℕ). IsParsed (take n bytes) parsed) (sym long) p',
    )

-- ---- what is taken where the bytes aren't whole

begins : (n : ℕ) (part ys : List ℕ) → length part ≤ n → (rest : List ℕ) × (take n (part ++ ys) ≡ part ++ rest)
begins n part ys low =
    let is : n ≡ length part + (n - length part) = omega arith in
    (take (n - length part) ys, ap (λ m. take m (part ++ ys)) is ∙ take-append-add part ys (n - length part))

-- a head that has begun is no longer than the block that it is of
begun_low : (part ys : List ℕ) (n : ℕ) → IsHeadBegun part → IsBlockEnd (window (part ++ ys)) n → length part ≤ n
begun_low part ys n begun end =
    let late : n < length part → ⊥ = λ below.
    let is : ends_empty (take n part) ≡ true = ap ends_empty (sym (block_front part ys n begun.few (omega arith)))
    ∙ end.1 in
    let other : ends_empty (take n part) ≡ false = begun.first n below in
    cc in
    omega (arith, late)

head_begins : (part ys : List ℕ) → IsHeadBegun part → IsWithinNeeded (part ++ ys) part
unfolding window
head_begins part ys begun front needed =
    ⊎_elim (λ none. subst (λ (f : List ℕ). (rest : List ℕ) × (f ≡ part ++ rest)) (sym none.1)
    (begins 16384 part ys begun.few))
    (λ q. subst (λ (f : List ℕ). (rest : List ℕ) × (f ≡ part ++ rest)) (sym q.4)
    (let low = begun_low part ys q.0 begun q.2 in begins (q.0 + q.1) part ys (omega arith))) needed

pub head_within : (a b : InputStream) → TakesOfHead a b → TakesWithin a b
head_within a b (part, taken, begun) = (part, taken, go a.held b.held taken)
  where
    go : (input left : Option (List ℕ)) → Consumes input left part → IfSome input (λ bytes. IsWithinNeeded bytes part)
    go None left took = tt
    go (Some xs) None took = absurd took
    go (Some xs) (Some ys) took = subst (λ (l : List ℕ). IsWithinNeeded l part) (sym took) (head_begins part ys begun)

-- no block needs bodies of two sizes
size_unique : (block : List ℕ) (n m : ℕ) → NeedsBody block n → NeedsBody block m → n ≡ m
size_unique block n m is other = is.2 ∙ ap needed_size (read_unique block is.0 other.0 is.1 other.1) ∙ sym other.2

body_begins : (text part ys : List ℕ) (size : ℕ) (left : Option (List ℕ)) → IsHeadTaken left text
    → ends_empty text ≡ true → NeedsBody text size
    → length part ≤ size → IsWithinNeeded (text ++ (part ++ ys)) (text ++ part)
body_begins text part ys size left taken ends needs few front needed =
    let end = block_ends text (part ++ ys) left taken ends in
    ⊎_elim (λ none. absurd (end_or_none (window (text ++ (part ++ ys))) (length text) none.0 end))
    (λ q.
    let at : q.0 ≡ length text = end_unique (window (text ++ (part ++ ys))) q.0 (length text) q.2 end in
    let block : take q.0 (text ++ (part ++ ys)) ≡ text =
    ap (λ m. take m (text ++ (part ++ ys))) at ∙ take-append_seam text (part ++ ys) in
    let same : q.1 ≡ size = size_unique text q.1 size (subst (λ (b : List ℕ). NeedsBody b q.1) block q.3) needs in
    let (rest, is) = begins size part ys few in (
      rest,
      q.4 ∙ ap (λ m. take m (text ++ (part ++ ys))) (ap (λ n. n + q.1) at ∙ ap (λ n. length text + n) same)
          ∙ take-append-add text (part ++ ys) size ∙ ap (λ l. text ++ l) is ∙ sym (append_assoc text part rest),
    )) needed

pub body_within : (a b c : InputStream) (text : List ℕ) (size : ℕ) → Gives a b text → IsHeadTaken b.held text
    → ends_empty text ≡ true → NeedsBody text size
    → TakesFew size b c → TakesWithin a c
body_within a b c text size consumed taken ends needs (part, more, few) = (
  text ++ part,
  consumes_consumes a.held b.held c.held text part consumed more,
  go a.held b.held c.held consumed taken more,
)
  where
    go : (input left after : Option (List ℕ)) → Consumes input left text → IsHeadTaken left text
        → Consumes left after part
        → IfSome input (λ bytes. IsWithinNeeded bytes (text ++ part))
    go None left after consumed taken more = tt
    go (Some xs) None after consumed taken more = absurd consumed
    go (Some xs) (Some ys) None consumed taken more = absurd more
    go (Some xs) (Some ys) (Some zs) consumed taken more =
        subst (λ (input : List ℕ). IsWithinNeeded input (text ++ part)) (sym (consumed ∙ ap (λ l. text ++ l) more))
        (body_begins text part zs size (Some ys) taken ends needs few)

-- ---- what is served

module _ {T : Type 0} (meaning : Meaning T) (keys : Keys) (m : ℕ) (input front reply : List ℕ) where
  abbrev IsNeededBy : Bool → Type 0
  IsNeededBy b = MatchBool b (IsNeeded input front) (front ≡ [])

  refuses_by : (b : Bool) → IsNeededBy b
      → MatchBool b ((parsed : ParsedRequest) × (date : List ℕ) × Asks front parsed × IsDateOf m date
      × IsRefused date parsed reply)
      (reply ≡ refusal None ClockOutOfRange)
      → MatchBool b ((parsed : ParsedRequest) × (date : List ℕ) × Asks input parsed × IsDateOf m date
      × IsRefused date parsed reply)
      (reply ≡ refusal None ClockOutOfRange)
  refuses_by true needed (parsed, date, asks, dated, is) =
      (parsed, date, asks_needed input front parsed needed asks, dated, is)
  refuses_by false needed is = is

  refuses : IsNeededAt m input front → RefusesAtOnce m front reply → RefusesAtOnce m input reply
  unfolding RefusesAtOnce
  refuses needed given = refuses_by (nat_lt m end_of_moments) needed given

  in_time : m < end_of_moments → IsNeededAt m input front → IsNeeded input front
  in_time early needed = rw (lt-ltb m end_of_moments early) at needed

  takes_by : (unavailable : Bool) (c next : Content) → IsNeededAt m input front
      → Takes keys (record { event = request m front; unavailable = unavailable }) c next (replied reply)
      → Takes keys (record { event = request m input; unavailable = unavailable }) c next (replied reply)
  takes_by true c next needed (same, ((r, (early, asks)), is)) =
      (same, ((r, (early, asks_needed input front _ (in_time early needed) asks)), is))
  takes_by false c next needed serves = elim serves [
    | inl (same, given) ↦ inl (same, refuses needed given)
    | inr (r, (early, asks), answered) ↦ inr (
      r,
      (early, asks_needed input front _ (in_time early needed) asks),
      answered,
    )
  ]

  left_by : (unavailable : Bool) (next : Content) (new : T) → IsNeededAt m input front
      → LeavesNext meaning keys (record { event = request m front; unavailable = unavailable }) next new
      → LeavesNext meaning keys (record { event = request m input; unavailable = unavailable }) next new
  left_by true next new needed (other, (r, (early, asks), is), left) =
      (other, (r, (early, asks_needed input front _ (in_time early needed) asks), is), left)
  left_by false next new needed left = left

  -- what is served of the front is served of the whole
  pub taken_needed : (old new : T) → IsNeededAt m input front → RequestTaken meaning keys m front reply old new
      → RequestTaken meaning keys m input reply old new
  taken_needed old new needed (unavailable, goes, leaves, idle) = (
    unavailable,
    λ clean c kept h.
        let (next, takes, stands_after, kept_after) = goes clean c kept h in
        (next, takes_by unavailable c next needed takes, stands_after, kept_after),
    λ clean live c kept h.
        let (next, takes, kept_after, left) = leaves clean live c kept h in
        (next, takes_by unavailable c next needed takes, kept_after, left_by unavailable next new needed left),
    λ clean off c kept. takes_by unavailable c c needed (idle clean off c kept),
  )

-- ---- what a connection is answered

module _ {T : Type 0} (meaning : Meaning T) (keys : Keys) (m : ℕ) (reply : List ℕ) (old new : T) where
  abbrev IsAnsweredBy : Option (List ℕ) → List ℕ → Type 0
  IsAnsweredBy held front =
      IfSome held (λ bytes. IsNeededAt m bytes front × RequestTaken meaning keys m bytes reply old new)

  late_by : (held : Option (List ℕ)) → end_of_moments ≤ m → RequestTaken meaning keys m [] reply old new
      → IsAnsweredBy held []
  late_by None late taken = tt
  late_by (Some bytes) late taken =
      let needed : IsNeededAt m bytes [] = rw (le-ltb m end_of_moments late) refl in
      (needed, taken_needed meaning keys m bytes [] reply old new needed taken)

  -- at a moment that isn't served nothing is needed
  pub answers_late : (input : InputStream) → end_of_moments ≤ m → RequestTaken meaning keys m [] reply old new
      → ShowsRequest meaning m [] reply old new → StaysOpen meaning (replied reply) old new
      → AnswersInput meaning keys m input input reply old new
  answers_late input late taken shows lasts =
      inl ([], consumes_nothing input.held, taken, late_by input.held late taken, shows, lasts)

  early_by : (held : Option (List ℕ)) (front : List ℕ) → m < end_of_moments
      → IfSome held (λ bytes. IsNeeded bytes front)
      → RequestTaken meaning keys m front reply old new → IsAnsweredBy held front
  early_by None front early needed taken = tt
  early_by (Some bytes) front early needed taken =
      let needed_then : IsNeededAt m bytes front = rw (lt-ltb m end_of_moments early) needed in
      (needed_then, taken_needed meaning keys m bytes front reply old new needed_then taken)

  pub answers_early : (input left : InputStream) (front : List ℕ) → m < end_of_moments → Gives input left front
      → IfSome input.held (λ bytes. IsNeeded bytes front) → RequestTaken meaning keys m front reply old new
      → ShowsRequest meaning m front reply old new → StaysOpen meaning (replied reply) old new
      → AnswersInput meaning keys m input left reply old new
  answers_early input left front early consumed needed taken shows lasts =
      inl (front, consumed, taken, early_by input.held front early needed taken, shows, lasts)

-- ---- whatever comes behind

window_front : (bytes rest : List ℕ) (k : ℕ) → k ≤ length (window bytes)
    → take k (window (bytes ++ rest)) ≡ take k (window bytes)
unfolding window
window_front bytes rest k low =
    let lows = window_low bytes k low in
    take-take k 16384 (bytes ++ rest) lows.0 ∙ take-append-le k bytes rest lows.1 ∙ sym (take-take k 16384 bytes lows.0)

window_longer : (bytes rest : List ℕ) (n : ℕ) → n ≤ length (window bytes) → n ≤ length (window (bytes ++ rest))
unfolding window
window_longer bytes rest n low =
    omega (arith, length-take 16384 bytes, length-take 16384 (bytes ++ rest), length-append bytes rest)

-- the block that is there is that of all that may come
pub needs_more : (bytes rest : List ℕ) (n size : ℕ) → IsBlockEnd (window bytes) n → NeedsBody (take n bytes) size
    → IsNeeded (bytes ++ rest) (take (n + size) (bytes ++ rest))
needs_more bytes rest n size (low, ends, first) needs =
    let lows = window_low bytes n low in
    let end : IsBlockEnd (window (bytes ++ rest)) n = (
      window_longer bytes rest n low,
      ap ends_empty (window_front bytes rest n low) ∙ ends,
      λ k below. ap ends_empty (window_front bytes rest k (omega arith)) ∙ first k below,
    ) in
    inr (n, size, end, subst (λ (b : List ℕ). NeedsBody b size) (sym (take-append-le n bytes rest lows.1)) needs, refl)

pub needs_none_more : (bytes rest : List ℕ) (n : ℕ) (rule : Rule) → IsBlockEnd (window bytes) n
    → ReadsBlock (take n bytes) (Err rule)
    → IsNeeded (bytes ++ rest) (take n (bytes ++ rest))
needs_none_more bytes rest n rule end reads =
    subst (λ (m : ℕ). IsNeeded (bytes ++ rest) (take m (bytes ++ rest))) (omega arith)
    (needs_more bytes rest n 0 end (Err rule, reads, refl))

pub needs_window : (bytes rest : List ℕ) → HasNoEmptyLine (window bytes) → length (window bytes) ≡ head_limit
    → IsNeeded (bytes ++ rest) (take head_limit (bytes ++ rest))
unfolding window
needs_window bytes rest none full_window =
    let same : window (bytes ++ rest) ≡ window bytes =
    take-append-le 16384 bytes rest (omega (arith, length-take 16384 bytes)) in
    inl (subst HasNoEmptyLine (sym same) none, refl)

pub short_of_head : (bytes : List ℕ) → HasNoEmptyLine (window bytes) → length (window bytes) ≢ head_limit
    → IsShortOfHead bytes
unfolding window
short_of_head bytes none other =
    let few : length bytes < 16384 = omega (arith, length-take 16384 bytes, other) in
    (subst HasNoEmptyLine (take_all 16384 bytes (omega arith)) none, few)
