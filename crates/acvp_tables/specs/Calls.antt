-- What a call does to what a store stands for, whatever the store is.
use Rattle.std.specs.Prelude.{◌≡◌, Result, IfErr, IfOk, OnOk, OnErr}
use Rattle.acvp_tables.specs.Content.{Content}
use Rattle.acvp_tables.specs.Meaning.{Meaning}
use Rattle.acvp_tables.specs.State.{AreWellNumbered}

module _ {T : Type 0} (meaning : Meaning T) where
  open meaning use {stands, is_open}

  -- What is found is what is selected of each content that the store stood for.
  abbrev pub Finds : {X Y E : Type 0} → (X → Y) → Result X E → T → T → (Content → Y) → Type 0
  Finds shown result old new selected =
      is_open new → IfOk result (λ found. (c : Content) → AreWellNumbered c → stands old c → shown found ≡ selected c)

module _ {T E : Type 0} (faults : E → Type 0) (meaning : Meaning T) where
  open meaning use {stands, is_open, is_clean, leaves}

  -- A read. It succeeds of an open store alone, which stays open. A store that is open stands for the same as before.
  -- After a crash an open finds that alone: `leaves new c d` holds for every d. Open or not, it leaves to a crash what
  -- was left before.
  pub record Reads {X : Type 0} (result : Result X E) (old new : T) : Type 0 where
    pub fault : IfErr result faults
    pub was_open : is_open new → is_open old
    pub was_clean : is_clean new → is_clean old
    pub stays_open : OnOk result (is_clean new → is_open old × is_open new)
    pub same : is_open new → (c : Content) → stands old c → stands new c
    pub left : is_clean new → is_open old → (c d : Content) → stands old c → leaves new c d
    pub kept : is_clean new → (c d : Content) → leaves old c d → leaves new c d

  -- A change. It is made of well numbered rows where it succeeds, and an open store stays open; else the content stays.
  -- After a crash an open finds the changed content alone where it succeeded; else what was there, or that with the
  -- change.
  pub record Changes {X : Type 0} (result : Result X E) (old new : T) (change : Content → Content) : Type 0 where
    pub fault : IfErr result faults
    pub was_open : is_open new → is_open old
    pub was_clean : is_clean new → is_clean old
    pub stays_open : OnOk result (is_clean new → is_open old → is_open new)
    pub ok : OnOk result (is_open new → (c : Content) → AreWellNumbered c → stands old c → stands new (change c))
    pub err : OnErr result (is_open new → (c : Content) → stands old c → stands new c)
    pub settled : OnOk result
        (is_clean new → is_open old → (c d : Content) → AreWellNumbered c → stands old c → leaves new (change c) d)
    pub unsettled : OnErr result
        (is_clean new → is_open old → (c : Content) → AreWellNumbered c → stands old c → leaves new c (change c))
