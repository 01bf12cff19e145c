-- The exits of serving, each once for all actions.
use Rattle.std.proofs.Common.{◌≡◌, ◌⊎◌, ℕ, List, length, Option, None, Some, Ok, Err, inl, inr, refl, sym, ap, subst}
use Rattle.std.proofs.Common.{◌∙◌, Vec, true, false, is_some, ◌≤◌, ◌<◌, arith}
use Rattle.std.specs.Global.{Global}
use Rattle.std.specs.Prelude.{[], ◌∷◌, if◌then◌else◌, nat_lt, option_map, option_and_then, IfSome, IsSome}
use Rattle.acvp_json.specs.Data.{Data}
use Rattle.acvp_mac.specs.Conditions.{first_broken}
use Rattle.acvp_policy.specs.declared.rule.Rule.{Rule}
use Rattle.acvp_policy.specs.declared.rule.Rule.TheVariants as rule
use Rattle.acvp_tables.specs.Calls.{Changes}
use Rattle.acvp_tables.specs.Changes.{after}
use Rattle.acvp_tables.specs.Content.{Content}
use Rattle.acvp_tables.specs.Meaning.{Meaning}
use Rattle.acvp_tables.specs.State.{state_of}
use Rattle.acvp_tables.specs.declared.change.Change.{Change}
use Rattle.acvp_tables.specs.declared.change.Change.TheVariants.{UseStep}
use Rattle.acvp_desk.specs.Answer.{end_of_moments, first_conditions, asker_of, found_of, later_conditions}
use Rattle.acvp_desk.specs.Answer.{own_conditions, policy_conditions, reply_of, answer, accepted_change, change_of}
use Rattle.acvp_desk.specs.Answer.{content_after, content_effect, first_conditions_on, spare, who, who_of, Gives}
use Rattle.acvp_desk.specs.Answer.{IsReply}
use Rattle.acvp_desk.specs.Kept.{IsKept}
use Rattle.acvp_desk.specs.Serves.{Looks, Serves}
use Rattle.acvp_desk.specs.Login.{login_step}
use Rattle.acvp_desk.specs.Private.Changeable.{IfChangeable}
use Rattle.acvp_desk.specs.declared.ask.Asker.{Asker}
use Rattle.acvp_desk.specs.declared.found.Found.{Found}
use Rattle.acvp_desk.specs.declared.found.Found.TheVariants.{Login, Caller}
use Rattle.acvp_desk.specs.declared.keys.Keys.{Keys}
use Rattle.acvp_desk.specs.Request.{RequestValue}
use Rattle.acvp_desk.proofs.AnswerParts.{refused_first, refused_later, answered, makes}
use Rattle.acvp_desk.proofs.FirstBroken.{back_held, front_broken}

-- what is given has room for its head
roomy : (buffer : List ℕ) (shown : Option Data) → IsReply buffer shown → spare ≤ length buffer
roomy buffer None reply = absurd reply
roomy buffer (Some shown) reply = reply.0

if_there : {X Y : Type 0} (f : X → Option Y) (x : Option X) (y : Y) (P : Type 0) → Some y ≡ option_and_then f x
    → IfSome x (λ _. P) → P
if_there f None y P is said = absurd (cc)
if_there f (Some x) y P is said = said

-- where a change is made, what is said wherever one can be made holds
was_changeable : (keys : Keys) (m : ℕ) (body : List ℕ) (f : Found) (P : Type 0) (made : Change)
    → Some made ≡ change_of keys m body f → IfChangeable f P → P
was_changeable keys m body (Login login account) P made is said =
    if_there (λ row. option_map (λ step. UseStep (record { account = row.number; step = step }))
    (login_step m login row)) account made P is said
was_changeable keys m body (Caller it) P made is said = said

-- what is asked by a request of nobody names no account
nobody_asks : (keys : Keys) (m : ℕ) (r : RequestValue) (it : Asker) → first_broken (first_conditions m r) ≡ None
    → asker_of keys m r ≡ Some it → who_of keys m r ≡ None → who it ≡ None
nobody_asks keys m r it held asked none = sym (ap (option_and_then who) asked)
    ∙ go (first_broken (first_conditions_on r.ask r)) first none
  where
    first : first_broken (first_conditions_on r.ask r) ≡ None
    first = back_held ((nat_lt m end_of_moments, rule.ClockOutOfRange) ∷ []) (first_conditions_on r.ask r) held

    go : (b : Option Rule) → b ≡ None → (if is_some b then None else option_and_then who (asker_of keys m r)) ≡ None
        → option_and_then who (asker_of keys m r) ≡ None
    go None e named = named
    go (Some refusal) e named = absurd (cc)

somebody : (w : Option ℕ) → IsSome w → w ≡ None → ⊥
somebody None some none = cc
somebody (Some u) some none = cc

module _ {T : Type 0} (meaning : Meaning T) (keys : Keys) (m : ℕ) (r : RequestValue)
    (stay : (c : Content) → IsKept keys.seed c → IsKept keys.seed (content_effect keys m r c)) where
  open meaning use {stands, is_open, is_clean, leaves}

  -- refused before anything is looked at
  pub refused_at_once : (rests : (t : T) (c d : Content) → is_open t → stands t c → leaves t c d) (told : Rule)
      (old : T)
      → (end_of_moments ≤ m → told ≡ rule.ClockOutOfRange) → (told ≡ rule.Unavailable)
      ⊎ (first_broken (first_conditions m r) ≡ Some told)
      → Serves meaning (Err told) old old keys m r
  refused_at_once rests told old late why = record {
    was_open = λ live. live;
    was_clean = λ clean. clean;
    clock = λ past. ap (λ rule. Err rule) (late past);
    late = λ past. refl;
    nobody = λ none. refl;
    room = tt;
    given = tt;
    denied = λ clean c kept h.
        elim why [ inl fault ↦ inl fault | inr broken ↦ inr (refused_first keys m r (state_of c) told broken) ];
    same = λ live c h. h;
    settled = tt;
    unsettled = λ clean live c kept h. rests old c (content_effect keys m r c) live h;
    stays_open = inr (λ clean live. live);
    kept = inr (λ clean c d left. left);
    shut = λ clean off c d left. left;
  }

  -- refused on the caller, before anything is looked at that the path names
  pub refused_caller : m < end_of_moments → (it : Asker) → first_broken (first_conditions m r) ≡ None
      → asker_of keys m r ≡ Some it → (old mid : T) (told : Rule) {X : Type 0}
      → Looks meaning {X = X} {E = Rule} (Err told) old mid → (who it ≡ None → mid ≡ old)
      → (told ≡ rule.Unavailable) ⊎ ((is_clean mid → is_open old → is_open mid)
      × (is_clean mid → (seeds : List (List ℕ)) (c : Content) → IsKept seeds c → (is_open old → stands old c)
      → first_broken (policy_conditions m (found_of seeds r.body it (state_of c))) ≡ Some told))
      → Serves meaning (Err told) old mid keys m r
  refused_caller served it held asked old mid told looks alone why = record {
    was_open = looks.was_open;
    was_clean = looks.was_clean;
    clock = λ past. absurd (omega (arith, served, past));
    late = λ past. absurd (omega (arith, served, past));
    nobody = λ none. alone (nobody_asks keys m r it held asked none);
    room = tt;
    given = tt;
    denied = λ clean c kept h.
        elim why [
          | inl fault ↦ inl fault
          | inr refusal ↦ inr (refused_later keys m r (state_of c) it held asked
              (found_of keys.seed r.body it (state_of c)) refl told
              (front_broken (policy_conditions m (found_of keys.seed r.body it (state_of c)))
              (own_conditions keys.seed r.body (found_of keys.seed r.body it (state_of c))) told
              (refusal.1 clean keys.seed c kept h)))
        ];
    same = λ live c h. looks.same live c h;
    settled = tt;
    unsettled = λ clean live c kept h. looks.left clean live c (content_effect keys m r c) h;
    stays_open = elim why [ inl fault ↦ inl fault | inr refusal ↦ inr refusal.0 ];
    kept = inr looks.kept;
    shut = λ clean off. looks.kept clean;
  }

  module _ (served : m < end_of_moments) (it : Asker) (held : first_broken (first_conditions m r) ≡ None)
      (asked : asker_of keys m r ≡ Some it) (old mid : T) (f : Found) {E : Type 0}
      (looks : Looks meaning {X = Found} {E = E} (Ok f) old mid) (alone : who it ≡ None → mid ≡ old)
      (finds : is_clean mid → (seeds : List (List ℕ)) (c : Content) → IsKept seeds c → (is_open old → stands old c)
      → f ≡ found_of seeds r.body it (state_of c)) where
    -- refused on what was found
    pub refused : (told : Rule) → (told ≡ rule.Unavailable)
        ⊎ (first_broken (later_conditions keys.seed m r.body f) ≡ Some told)
        → Serves meaning (Err told) old mid keys m r
    refused told why = record {
      was_open = looks.was_open;
      was_clean = looks.was_clean;
      clock = λ past. absurd (omega (arith, served, past));
      late = λ past. absurd (omega (arith, served, past));
      nobody = λ none. alone (nobody_asks keys m r it held asked none);
      room = tt;
      given = tt;
      denied = λ clean c kept h.
          elim why [
            | inl fault ↦ inl fault
            | inr broken ↦ inr
                (refused_later keys m r (state_of c) it held asked f (finds clean keys.seed c kept h) told broken)
          ];
      same = λ live c h. looks.same live c h;
      settled = tt;
      unsettled = λ clean live c kept h. looks.left clean live c (content_effect keys m r c) h;
      stays_open = inr looks.stays_open;
      kept = inr looks.kept;
      shut = λ clean off. looks.kept clean;
    }

    module _ (bytes : Vec ℕ Global) (none : first_broken (later_conditions keys.seed m r.body f) ≡ None)
        (reply : IsReply bytes.items (reply_of keys m r.body f)) where
      gives : is_clean mid → (c : Content) → IsKept keys.seed c → (is_open old → stands old c)
          → Gives bytes.items (answer keys m r (state_of c))
      gives clean c kept h = subst (λ a. Gives bytes.items a)
          (sym (answered keys m r (state_of c) it held asked f (finds clean keys.seed c kept h) none)) reply

      accepts : (made : Option Change) → made ≡ change_of keys m r.body f → is_clean mid → (c : Content)
          → IsKept keys.seed c → (is_open old → stands old c)
          → accepted_change keys m r (state_of c) ≡ made
      accepts made is clean c kept h = makes keys m r (state_of c) it held asked f (finds clean keys.seed c kept h) none
          ∙ sym is

      becomes : (made : Option Change) → made ≡ change_of keys m r.body f → is_clean mid → (c : Content)
          → IsKept keys.seed c → (is_open old → stands old c)
          → content_effect keys m r c ≡ content_after made c
      becomes made is clean c kept h = ap (λ x. content_after x c) (accepts made is clean c kept h)

      -- given with no change
      pub given_read : None ≡ change_of keys m r.body f
          → Serves meaning (Ok (record { reply = bytes; changed = false })) old mid keys m r
      given_read is = record {
        was_open = looks.was_open;
        was_clean = looks.was_clean;
        clock = λ past. absurd (omega (arith, served, past));
        late = λ past. absurd (omega (arith, served, past));
        nobody = λ none. alone (nobody_asks keys m r it held asked none);
        room = roomy bytes.items (reply_of keys m r.body f) reply;
        given = λ clean c kept h. (
          gives clean c kept h,
          λ live. subst (λ d. stands mid d) (sym (becomes None is clean c kept h))
              (looks.same live c (h (looks.was_open live))),
          stay c kept,
          ap is_some (sym (accepts None is clean c kept h)),
        );
        denied = tt;
        settled = λ clean live c d kept h.
            subst (λ e. leaves mid e d) (sym (becomes None is clean c kept (λ _. h))) (looks.left clean live c d h);
        same = tt;
        unsettled = tt;
        stays_open = looks.stays_open;
        kept = λ unchanged. looks.kept;
        shut = λ clean off. looks.kept clean;
      }

      module _ (it_changes : Change) (is : Some it_changes ≡ change_of keys m r.body f)
          (said : IfChangeable f (is_clean mid → is_open old)) (named : IfChangeable f (IsSome (who it)))
          (new : T) {X Fault : Type 0} (faults : Fault → Type 0) where
        -- given with its change
        pub given_changed : (x : X) → Changes faults meaning {X = X} (Ok x) mid new (after it_changes)
            → Serves meaning (Ok (record { reply = bytes; changed = true })) old new keys m r
        given_changed x changes = record {
          was_open = λ live. looks.was_open (changes.was_open live);
          was_clean = λ clean. looks.was_clean (changes.was_clean clean);
          clock = λ past. absurd (omega (arith, served, past));
          late = λ past. absurd (omega (arith, served, past));
          nobody = λ none. absurd (somebody (who it)
              (was_changeable keys m r.body f (IsSome (who it)) it_changes is named)
              (nobody_asks keys m r it held asked none));
          room = roomy bytes.items (reply_of keys m r.body f) reply;
          given = λ clean c kept h. let before = changes.was_clean clean in (
            gives before c kept h,
            λ live. let up = changes.was_open live in
                subst (λ d. stands new d) (sym (becomes (Some it_changes) is before c kept h))
                (changes.ok live c kept.sound (looks.same up c (h (looks.was_open up)))),
            stay c kept,
            ap is_some (sym (accepts (Some it_changes) is before c kept h)),
          );
          denied = tt;
          settled = λ clean live c d kept h. let before = changes.was_clean clean in
              let up = looks.stays_open before live in
              subst (λ e. leaves new e d) (sym (becomes (Some it_changes) is before c kept (λ _. h)))
              (changes.settled clean up c d kept.sound (looks.same up c h));
          same = tt;
          unsettled = tt;
          stays_open = λ clean live. changes.stays_open clean (looks.stays_open (changes.was_clean clean) live);
          kept = λ unchanged. absurd (cc);
          shut = λ clean off. absurd
              (off (was_changeable keys m r.body f (is_clean mid → is_open old) it_changes is said
              (changes.was_clean clean)));
        }

        -- the change failed
        pub failed : (e : Fault) → Changes faults meaning {X = X} (Err e) mid new (after it_changes)
            → Serves meaning (Err rule.Unavailable) old new keys m r
        failed e changes = record {
          was_open = λ live. looks.was_open (changes.was_open live);
          was_clean = λ clean. looks.was_clean (changes.was_clean clean);
          clock = λ past. absurd (omega (arith, served, past));
          late = λ past. absurd (omega (arith, served, past));
          nobody = λ none. absurd (somebody (who it)
              (was_changeable keys m r.body f (IsSome (who it)) it_changes is named)
              (nobody_asks keys m r it held asked none));
          room = tt;
          given = tt;
          denied = λ clean c kept h. inl refl;
          same = λ live c h. changes.err live c (looks.same (changes.was_open live) c h);
          settled = tt;
          stays_open = inl refl;
          kept = inl refl;
          shut = λ clean off. absurd
              (off (was_changeable keys m r.body f (is_clean mid → is_open old) it_changes is said
              (changes.was_clean clean)));
          unsettled = λ clean live c kept h. let before = changes.was_clean clean in
              let up = looks.stays_open before live in
              subst (λ e. leaves new c e) (sym (becomes (Some it_changes) is before c kept (λ _. h)))
              (changes.unsettled clean up c kept.sound (looks.same up c h));
        }
