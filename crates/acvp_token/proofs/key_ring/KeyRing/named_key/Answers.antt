-- The key that a header names is the one at the one place that it names.
use Rattle.serde_json.specs.View.{view}
use Rattle.acvp_token.specs.Private.Places.{NamesPlace, NamesNoPlace}
use Rattle.acvp_token.proofs.Places.{named-is, named-nothing}
use Rattle.acvp_token.proofs.key_ring.KeyRing.named_key.Goals as goal

pub returns-in-Some : goal.returns-in-Some
returns-in-Some c =
    let ring = c.entries-entries.ensures.ring in
    let names : NamesPlace (view c.args.header.now) c.in-Some.place = c.in-Some.ensures in
    let named = named-is (view c.args.header.now) c.in-Some.place c.args.self.now names.within ring.most names.named in
    rw (named, ← c.entries-entries.ensures.value) c.key_at.ensures

pub returns-in-None : goal.returns-in-None
returns-in-None c =
    let ring = c.entries-entries.ensures.ring in
    let none : NamesNoPlace (view c.args.header.now) = c.in-None.ensures in
    named-nothing (view c.args.header.now) c.args.self.now ring.most none
