-- Lemmas on what a decision on a certification needs.
use Rattle.std.proofs.Common.{◌≡◌, ℕ, suc, ◌+◌, List, [], ◌++◌, Result, Ok, Err, Option, None, Some, Bool, true, refl}
use Rattle.std.specs.Prelude.{option_and_then, option_map}
use Rattle.std.proofs.Common.{sym, ap, ◌∙◌, subst, inl, inr, drop, arith}
use Rattle.acvp_answers.specs.declared.verdict.Verdict.{Verdict}
use Rattle.acvp_caps.specs.Capability.{CapabilityValue}
use Rattle.acvp_tables.specs.Content.{Content, set_summary, set_verdicts}
use Rattle.acvp_tables.specs.declared.rows.Certification.{Certification}
use Rattle.acvp_tables.specs.declared.rows.SetRow.{SetRow}
use Rattle.acvp_tables.specs.declared.summary.SetSummary.{SetSummary}
use Rattle.acvp_tables.specs.Meaning.{Meaning}
use Rattle.acvp_tables.specs.State.{first_of_session, state_of}
use Rattle.acvp_policy.specs.declared.rule.Rule.{Rule}
use Rattle.acvp_desk.specs.Answer.{accepted_change, answer, asker_of, change_by, change_on, content_after}
use Rattle.acvp_desk.specs.Answer.{Gives, Refuses, content_effect, found_of, spare}
use Rattle.acvp_desk.specs.Data.{Data}
use Rattle.acvp_desk.specs.Request.{RequestValue}
use Rattle.acvp_desk.specs.Kept.{IsKept}
use Rattle.acvp_desk.specs.Serves.{Holds, Looks, Serves, result_of}
use Rattle.acvp_desk.specs.declared.desk.DeskReply.{DeskReply}
use Rattle.acvp_desk.specs.declared.desk.DeskReply.TheVariants.{Given, Denied}
use Rattle.acvp_desk.specs.declared.keys.Keys.{Keys}
use Rattle.acvp_desk.specs.declared.wish.SessionWish.TheVariants as on_session
use Rattle.acvp_desk.specs.declared.wish.RegistryWish.TheVariants as on_registry
use Rattle.acvp_desk.specs.declared.wish.Wish.{Wish}
use Rattle.acvp_desk.specs.declared.wish.Wish.TheVariants as wish
use Rattle.acvp_desk.proofs.WalkedRows.{looks_twice}
use Rattle.acvp_view.proofs.EscapeLemmas.{takes_shown_both}
use Rattle.acvp_view.specs.Decision.{AreRowTexts, AreSetTexts, AreTextsAt, AreTextsTo, IsBodyText, Shows, ShowsRead}
use Rattle.acvp_view.specs.Decision.{asks_with, body_told, is_reading, named_reads, read_body}
use Rattle.acvp_view.specs.Escaped.{TakesShown}
use Rattle.acvp_view.specs.declared.fault.ViewFault.{ViewFault}
use Rattle.acvp_view.specs.declared.form.Form.{Form}

-- the texts of a row are those of what was read of it
pub row_texts : (form : Form) (row : Option SetRow) (set : SetSummary) (capability : CapabilityValue)
    (verdicts : Option (List Verdict)) (texts : List (List ℕ)) → Some set ≡ option_map set_summary row
    → Some capability ≡ option_map (λ row. row.capability) row → verdicts ≡ option_and_then set_verdicts row
    → AreSetTexts form set capability verdicts texts → AreRowTexts form row texts
row_texts form None set capability verdicts texts of_set of_capability of_verdicts are = absurd (cc)
row_texts form (Some row) set capability verdicts texts of_set of_capability of_verdicts are =
    let same_set : set ≡ set_summary row = cc in
    let same_capability : capability ≡ row.capability = cc in
    rw (same_set, same_capability, of_verdicts) at are

module _ {L T : Type 0} (form : Form) (takes : L → List ℕ → L → Type 0) (meaning : Meaning T) where
  open meaning use {is_open, is_clean, leaves, stands}

  -- ---- vector sets

  -- the tables were looked at, and the texts of the sets at so many places were handed on
  abbrev pub IsShownTo : ℕ → ℕ → T → T → L → L → Type 0
  IsShownTo session places old new before after = Looks meaning {X = ℕ} {E = ViewFault} (Ok 0) old new
      × Shows form takes meaning {X = ℕ} {E = ViewFault} (Ok 0) old new before after (AreTextsTo form session places)

  -- no text yet
  pub shown_none : ((t : T) (c d : Content) → is_open t → stands t c → leaves t c d) → (session : ℕ) (old : T)
      (before : L) → IsShownTo session 0 old old before before
  unfolding AreTextsTo
  shown_none rests session old before = (
    record {
      was_open = λ live. live;
      was_clean = λ clean. clean;
      stays_open = λ clean live. live;
      same = λ live c h. h;
      left = λ clean live c d h. rests old c d live h;
      kept = λ clean c d left. left;
    },
    λ live c well h. ([], refl, refl),
  )

  -- those of one place more
  pub shown_next : {X : Type 0} (x : X) (session places n more : ℕ) (old mid new : T) (before between after : L)
      → n ≡ first_of_session session + places → more ≡ places + 1
      → IsShownTo session places old mid before between → Looks meaning {X = X} {E = ViewFault} (Ok x) mid new
      → Shows form takes meaning {X = X} {E = ViewFault} (Ok x) mid new between after (AreTextsAt form n)
      → IsShownTo session more old new before after
  unfolding AreTextsTo
  shown_next x session places n more old mid new before between after next one so_far looks shows =
      let count : more ≡ suc places = omega (arith, one) in
      rw count (
        looks_twice meaning 0 x 0 old mid new so_far.0 looks,
        λ live c well h.
            let up = looks.was_open live in
            let (front, first, taken) = so_far.1 up c well h in
            let (behind, second, more) = shows live c well (so_far.0.same up c h) in (
              front ++ behind,
              (front, behind, first, rw (sym next) second, refl),
              takes_shown_both form takes front behind before between after taken more,
            ),
      )

  -- ---- what is read

  -- some texts, and then others
  pub read_both : {X Y : Type 0} (x : X) (result : Result Y ViewFault) (seeds : List (List ℕ)) (old mid new : T)
      (before between after : L) (f g : Content → List (List ℕ)) → (is_clean new → is_clean mid)
      → ShowsRead form takes meaning {X = X} {E = ViewFault} seeds (Ok x) old mid before between f
      → ShowsRead form takes meaning seeds result mid new between after g
      → ShowsRead form takes meaning seeds result old new before after (λ c. f c ++ g c)
  read_both x (Err e) seeds old mid new before between after f g was first second = λ clean. tt
  read_both x (Ok y) seeds old mid new before between after f g was first second = λ clean c kept h.
      let (taken, stands) = first (was clean) c kept h in
      let (more, left) = second clean c kept stands in
      (takes_shown_both form takes (f c) (g c) before between after taken more, left)

-- what is read, by other names of the keys and the tokens
pub named_as : {L : Type 0} (form : Form) (takes : L → List ℕ → L → Type 0) (k keys : Keys) (moment : ℕ)
    (b bound o own : List ℕ) (it : Certification) (vendor : Option ℕ) (c : Content) (before after : L) → k ≡ keys
    → b ≡ bound → o ≡ own → TakesShown form takes (named_reads form k moment b o it vendor c) before after
    → TakesShown form takes (named_reads form keys moment bound own it vendor c) before after
named_as form takes k keys moment b bound o own it vendor c before after of_keys of_bound of_own taken =
    subst (λ (k : Keys). TakesShown form takes (named_reads form k moment bound own it vendor c) before after) of_keys
    (subst (λ (b : List ℕ). TakesShown form takes (named_reads form k moment b own it vendor c) before after) of_bound
    (subst (λ (o : List ℕ). TakesShown form takes (named_reads form k moment b o it vendor c) before after) of_own
    taken))

-- a request makes no change where none is asked for
without_change : (keys : Keys) (moment : ℕ) (r : RequestValue) (c : Content)
    → change_by keys moment r (asker_of keys moment r) (state_of c) ≡ None → content_effect keys moment r c ≡ c
unfolding accepted_change
without_change keys moment r c none = rw none (go (answer keys moment r (state_of c)))
  where
    go : (told : Result (Option Data) Rule) → content_after (change_on told None) c ≡ c
    go (Ok reply) = refl
    go (Err rule) = refl

-- what only reads changes nothing
pub reads_change_nothing : (keys : Keys) (moment : ℕ) (token : List ℕ) (it : Wish) (c : Content)
    → is_reading it ≡ true → content_effect keys moment (asks_with token it) c ≡ c
unfolding found_of
reads_change_nothing keys moment token it c reads =
    without_change keys moment (asks_with token it) c (none it reads)
  where
    none : (it : Wish) → is_reading it ≡ true
        → change_by keys moment (asks_with token it) (asker_of keys moment (asks_with token it)) (state_of c) ≡ None
    none (wish.Session n on_session.Read) reads = refl
    none (wish.Session n on_session.Results) reads = refl
    none (wish.Registry (on_registry.Read registry n)) reads = refl
    none _ reads = absurd (cc)

module _ {T : Type 0} (meaning : Meaning T) where
  open meaning use {is_open, is_clean}

  -- the text of a reply's body is what is read, and the tables stand for what they stood for
  pub told_body : (reply : DeskReply) (changed : Bool) (old new : T) (keys : Keys) (moment : ℕ) (token : List ℕ)
      (it : Wish) (text : List ℕ) → is_reading it ≡ true
      → Serves meaning (result_of reply changed) old new keys moment (asks_with token it) → IsBodyText reply text
      → is_clean new → (c : Content) → IsKept keys.seed c → Holds meaning old c
      → (text ≡ read_body keys moment token it c) × Holds meaning new c
  unfolding read_body
  told_body (Given reply) changed old new keys moment token it text reads serves is clean c kept h =
      let given = serves.given clean c kept h in (
        is ∙ go (answer keys moment (asks_with token it) (state_of c)) given.0,
        subst (λ next. Holds meaning new next) (reads_change_nothing keys moment token it c reads) given.1,
      )
    where
      go : (told : Result (Option Data) Rule) → Gives reply.items told → drop spare reply.items ≡ body_told told
      go (Ok None) gives = absurd gives
      go (Ok (Some shown)) gives = gives.1
      go (Err rule) gives = absurd gives
  told_body (Denied rule) changed old new keys moment token it text reads serves is clean c kept h =
      (by (serves.denied clean c kept h), λ live. serves.same live c (h (serves.was_open live)))
    where
      by : Refuses rule (answer keys moment (asks_with token it) (state_of c))
          → text ≡ body_told (answer keys moment (asks_with token it) (state_of c))
      by (inl gone) = absurd (is.0 gone)
      by (inr told) = is.1 ∙ ap body_told (sym told)
