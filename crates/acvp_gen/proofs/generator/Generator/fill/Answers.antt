use Rattle.std.proofs.Common.{refl, ap, ◌∙◌, length, ◌<◌, ◌^◌}
use Rattle.acvp_gen.proofs.WordLemmas.{filled}
use Rattle.acvp_gen.proofs.generator.Generator.fill.Goals as goal

pub invariant_of-self : goal.invariant_of-self
invariant_of-self c =
    let below : c.self.inside.words.word_pos < 2 ^ 32 = rw (← c.self.view_is) at c.requires.place in
    let both = filled c.self.inside.seed c.self.inside.words c.fill_bytes_via_u32.new.rng (length c.args.bytes.now)
    c.fill_bytes_via_u32.new.dst c.self.invariant below c.requires.size c.fill_bytes_via_u32.ensures in
    ap (λ g. g.key) both.1 ∙ c.self.invariant

pub returns-clause-value : goal.returns-clause-value
returns-clause-value c =
    let below : c.self.inside.words.word_pos < 2 ^ 32 = rw (← c.self.view_is) at c.requires.place in
    let both = filled c.self.inside.seed c.self.inside.words c.fill_bytes_via_u32.new.rng (length c.args.bytes.now)
    c.fill_bytes_via_u32.new.dst c.self.invariant below c.requires.size c.fill_bytes_via_u32.ensures in
    rw (← c.self.view_is) both.0

pub returns-clause-moved : goal.returns-clause-moved
returns-clause-moved c =
    let below : c.self.inside.words.word_pos < 2 ^ 32 = rw (← c.self.view_is) at c.requires.place in
    let both = filled c.self.inside.seed c.self.inside.words c.fill_bytes_via_u32.new.rng (length c.args.bytes.now)
    c.fill_bytes_via_u32.new.dst c.self.invariant below c.requires.size c.fill_bytes_via_u32.ensures in
    rw (← c.self.view_is, both.1) refl
