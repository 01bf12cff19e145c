-- What a path names by its numbers alone, before anything is looked up there.
use Rattle.std.specs.Prelude.{ℕ, Bool, false, Option, None}
use Rattle.acvp_policy.specs.declared.facts.Facts.{Facts}
use Rattle.acvp_policy.specs.declared.facts.Subject.{Subject}
use Rattle.acvp_policy.specs.declared.facts.Subject.TheVariants as subject
use Rattle.acvp_tables.specs.declared.rows.AccountRow.{AccountRow}
use Rattle.acvp_desk.specs.Answer.{facts_on_caller, facts_on_login}
use Rattle.acvp_desk.specs.Registries.{row_subject}
use Rattle.acvp_desk.specs.declared.ask.Asker.{Asker}
use Rattle.acvp_desk.specs.declared.ask.Asker.TheVariants as ask
use Rattle.acvp_desk.specs.declared.wish.RegistryWish.{RegistryWish}
use Rattle.acvp_desk.specs.declared.wish.RegistryWish.TheVariants as on
use Rattle.acvp_desk.specs.declared.wish.Wish.{Wish}
use Rattle.acvp_desk.specs.declared.wish.Wish.TheVariants as wish

abbrev pub unfound_row : RegistryWish → Subject
unfound_row (on.Read of n) = row_subject of (record { number = n; found = false })
unfound_row (on.ReadRequest n) = subject.Request (record { number = n; found = false })
unfound_row (on.New of) = subject.Account
unfound_row (on.List of page) = subject.Account
unfound_row (on.ListRequests page) = subject.Account

abbrev pub unfound : Wish → Subject
unfound (wish.Account it) = subject.Account
unfound (wish.Algorithm n) = subject.Algorithm n
unfound (wish.Session n it) = subject.Session (record { session = n; found = None })
unfound (wish.Reviewer n m) = subject.Reviewer (record { session = n; reviewer = m; found = None })
unfound (wish.Set session n it) = subject.Set (record { session = session; set = n; found = None })
unfound wish.NewSession = subject.Account
unfound (wish.CancelSet session n) = subject.Set (record { session = session; set = n; found = None })
unfound (wish.ListSessions page) = subject.Account
unfound (wish.Certify n) = subject.Session (record { session = n; found = None })
unfound (wish.Registry it) = unfound_row it

-- what the policy is asked about it
abbrev pub unfound_facts : ℕ → Asker → Option AccountRow → Bool → Facts
unfound_facts moment (ask.Login login) account reviewer = facts_on_login moment login account
unfound_facts moment (ask.Caller caller) account reviewer =
    facts_on_caller moment caller.token account reviewer (unfound caller.wish)
