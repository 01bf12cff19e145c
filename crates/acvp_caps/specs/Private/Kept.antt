-- What is kept of a capability.
use Rattle.std.specs.Prelude.{◌≡◌, ℕ, List}
use Rattle.acvp_caps.specs.declared.algorithm.Algorithm.{Algorithm}
use Rattle.acvp_caps.specs.declared.capability.Domains.{Domains}
use Rattle.acvp_caps.specs.declared.capability.Domains.TheVariants.{Message, KeyAndMac}
use Rattle.acvp_caps.specs.declared.given.Given.{Given}
use Rattle.acvp_caps.specs.declared.given.Given.TheVariants.{MessageItems, KeyAndMacItems}
use Rattle.acvp_caps.specs.declared.item.Item.{Item}
use Rattle.acvp_caps.specs.Members.{members}
use Rattle.acvp_caps.specs.Capability.{AreDomainsOf}
use Rattle.acvp_caps.specs.Private.DomainItems.{AreDomainItems}

-- the items are kept, and have these members
pub record IsGivenBy (xs : List ℕ) (items : List Item) : Type 0 where
  pub kept : AreDomainItems items
  pub same : members items ≡ xs

-- the domains of the same parameters are given by these items
abbrev pub AreGivenBy : Domains → Given → Type 0
AreGivenBy (Message message) (MessageItems items) = IsGivenBy message items
AreGivenBy (Message message) (KeyAndMacItems key mac) = ⊥
AreGivenBy (KeyAndMac key mac) (MessageItems items) = ⊥
AreGivenBy (KeyAndMac key mac) (KeyAndMacItems key_items mac_items) = IsGivenBy key key_items × IsGivenBy mac mac_items

-- what is kept of a capability: domains of its algorithm, and the items that give them
pub record AreKept (a : Algorithm) (domains : Domains) (given : Given) : Type 0 where
  pub fit : AreDomainsOf a domains
  pub by : AreGivenBy domains given
