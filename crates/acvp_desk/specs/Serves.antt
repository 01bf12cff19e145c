-- What serving a request does to what the tables stand for.
use Rattle.std.specs.Prelude.{◌≡◌, ◌⊎◌, ◌≤◌, false, ℕ, List, length, Result, Ok, Err, OnOk, OnErr, IfOk, IfErr, Bool}
use Rattle.std.specs.Prelude.{is_some, None, ⊤}
use Rattle.acvp_policy.specs.declared.rule.Rule.{Rule}
use Rattle.acvp_policy.specs.declared.rule.Rule.TheVariants.{ClockOutOfRange, Unavailable}
use Rattle.acvp_tables.specs.Content.{Content}
use Rattle.acvp_tables.specs.Meaning.{Meaning}
use Rattle.acvp_tables.specs.State.{state_of}
use Rattle.acvp_desk.specs.Answer.{end_of_moments, answer, accepted_change, content_effect, spare, who_of, Gives}
use Rattle.acvp_desk.specs.Answer.{Refuses}
use Rattle.acvp_desk.specs.Kept.{IsKept}
use Rattle.acvp_desk.specs.declared.desk.DeskReply.{DeskReply}
use Rattle.acvp_desk.specs.declared.desk.DeskReply.TheVariants.{Given, Denied}
use Rattle.acvp_desk.specs.declared.keys.Keys.{Keys}
use Rattle.acvp_desk.specs.Request.{RequestValue}
use Rattle.acvp_desk.specs.declared.serve.Served.{Served}

-- what is given, with whether a change was made
abbrev pub result_of : DeskReply → Bool → Result Served Rule
result_of (Given reply) changed = Ok (record { reply = reply; changed = changed })
result_of (Denied rule) changed = Err rule

-- what is said of a denial
abbrev pub IfDenied : DeskReply → Type 0 → Type 0
IfDenied (Given reply) P = ⊤
IfDenied (Denied rule) P = P

-- what is said unless it is unavailable
abbrev pub IfLasting : Result Served Rule → Type 0 → Type 0
IfLasting (Ok served) P = P
IfLasting (Err rule) P = (rule ≡ Unavailable) ⊎ P

-- what is said where no change was made, unless it is unavailable
abbrev pub IfUnchanged : Result Served Rule → Type 0 → Type 0
IfUnchanged (Ok served) P = served.changed ≡ false → P
IfUnchanged (Err rule) P = (rule ≡ Unavailable) ⊎ P

module _ {T : Type 0} (meaning : Meaning T) where
  open meaning use {stands, is_open, is_clean, leaves}

  -- The tables stand for the content, if they are open. Of tables that are shut this says nothing.
  abbrev pub Holds : T → Content → Type 0
  Holds t c = is_open t → stands t c

  -- The tables are looked at, or left alone: as a read, but that nothing need be asked of them.
  pub record Looks {X E : Type 0} (result : Result X E) (old new : T) : Type 0 where
    pub was_open : is_open new → is_open old
    pub was_clean : is_clean new → is_clean old
    pub stays_open : OnOk result (is_clean new → is_open old → is_open new)
    pub same : is_open new → (c : Content) → stands old c → stands new c
    pub left : is_clean new → is_open old → (c d : Content) → stands old c → leaves new c d
    pub kept : is_clean new → (c d : Content) → leaves old c d → leaves new c d

  -- What is seen is what is selected of each content that the tables stood for, whatever the seeds that it is kept
  -- under.
  abbrev pub Sees : {X E : Type 0} → Result X E → T → T → (List (List ℕ) → Content → X) → Type 0
  Sees result old new selected = is_open new → IfOk result (λ found. (seeds : List (List ℕ)) (c : Content)
      → IsKept seeds c → stands old c → found ≡ selected seeds c)

  -- What is seen while the disk is clean, whether the tables are open or shut: of tables that are shut nothing is
  -- read.
  abbrev pub Knows : {X E : Type 0} → Result X E → T → T → (List (List ℕ) → Content → X) → Type 0
  Knows result old new selected = is_clean new → IfOk result (λ found. (seeds : List (List ℕ)) (c : Content)
      → IsKept seeds c → Holds old c → found ≡ selected seeds c)

  -- While the disk is clean, and for every content that the tables stand for if they are open: the reply is given,
  -- and the content after the request's effect stands and holds what holds at all times; or the request is refused, and
  -- all stands as it did. So of tables that are shut either nothing is told that the records decide, or it is
  -- unavailable. A crash finds the effect of what was given; and of what was refused, what there was or that with the
  -- effect. Past the last moment that is served nothing else is looked at, and the tables are left as they are; so they
  -- are by a request that is nobody's.
  pub record Serves (result : Result Served Rule) (old new : T) (keys : Keys) (moment : ℕ)
      (r : RequestValue) : Type 0 where
    pub was_open : is_open new → is_open old
    pub was_clean : is_clean new → is_clean old
    pub clock : end_of_moments ≤ moment → result ≡ Err ClockOutOfRange
    pub late : end_of_moments ≤ moment → new ≡ old
    pub nobody : who_of keys moment r ≡ None → new ≡ old
    -- there is room for the head of what is given, whatever the tables stand for
    pub room : IfOk result (λ served. spare ≤ length served.reply.items)
    pub given : IfOk result (λ served. is_clean new → (c : Content) → IsKept keys.seed c → Holds old c
        → Gives served.reply.items (answer keys moment r (state_of c)) × Holds new (content_effect keys moment r c)
        × IsKept keys.seed (content_effect keys moment r c)
        × (served.changed ≡ is_some (accepted_change keys moment r (state_of c))))
    pub denied : IfErr result (λ rule. is_clean new → (c : Content) → IsKept keys.seed c → Holds old c
        → Refuses rule (answer keys moment r (state_of c)))
    pub same : OnErr result (is_open new → (c : Content) → stands old c → stands new c)
    pub settled : OnOk result (is_clean new → is_open old → (c d : Content) → IsKept keys.seed c → stands old c
        → leaves new (content_effect keys moment r c) d)
    pub unsettled : OnErr result (is_clean new → is_open old → (c : Content) → IsKept keys.seed c → stands old c
        → leaves new c (content_effect keys moment r c))
    -- unless it is unavailable, an open store stays open, and where no change was made a crash finds what it found
    -- before
    pub stays_open : IfLasting result (is_clean new → is_open old → is_open new)
    pub kept : IfUnchanged result (is_clean new → (c d : Content) → leaves old c d → leaves new c d)
    -- of tables that were shut already a crash finds what it found, whatever is answered
    pub shut : is_clean new → (is_open old → ⊥) → (c d : Content) → leaves old c d → leaves new c d
