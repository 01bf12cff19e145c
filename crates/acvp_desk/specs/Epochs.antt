-- What every run keeps of the epochs under which vector sets were made.
use Rattle.std.specs.Prelude.{◌≡◌, List, Bool, true, not, ◌==◌, ◌||◌, nat_le, nat_lt}
use Rattle.std.specs.List.{list_all}
use Rattle.acvp_tables.specs.Content.{Content}
use Rattle.acvp_tables.specs.State.{owner_of}
use Rattle.acvp_tables.specs.declared.rows.SetRow.{SetRow}

-- The second vector set is another account's, or of an earlier session, or its epoch is no earlier than the first
-- one's. So two sets of one session have one epoch.
abbrev pub is_no_earlier : SetRow → SetRow → Bool
is_no_earlier first second =
    not (owner_of first.session == owner_of second.session) || nat_lt second.session first.session
    || nat_le first.epoch second.epoch

-- its epoch is no earlier than that of any of these that is of its session or of an earlier one of its account
abbrev pub is_in_its_epoch : List SetRow → SetRow → Bool
is_in_its_epoch sets set = list_all (λ other. is_no_earlier other set) sets

pub record AreInEpochs (c : Content) : Type 0 where
  pub rising : list_all (is_in_its_epoch c.sets) c.sets ≡ true
