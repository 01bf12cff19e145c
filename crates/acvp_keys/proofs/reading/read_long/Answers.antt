use Rattle.std.proofs.Common.{◌≡◌, true, false}
use Rattle.acvp_keys.proofs.KeysLemmas.{ring_read, seeds_read}
use Rattle.acvp_keys.proofs.reading.read_long.Goals as goal

pub returns-then-not-is_empty : goal.returns-then-not-is_empty
returns-then-not-is_empty c = λ ring seeds h.
    let entries = ring_read c.args.text.now c.read_ring-entry_count.result.1.now c.read_ring-entry_count.result.0
    c.read_ring-entry_count.new.entries ring seeds c.read_ring-entry_count.ensures.room
    c.read_ring-entry_count.auto.entries c.read_ring-entry_count.ensures.lines c.read_ring-entry_count.ensures.all h in
    let kept = seeds_read c.read_ring-entry_count.result.1.now c.read_seeds-seed_count.result.1.now
    c.read_seeds-seed_count.result.0 c.read_seeds-seed_count.new.seeds seeds c.read_seeds-seed_count.ensures.room
    c.read_seeds-seed_count.auto.seeds c.read_seeds-seed_count.ensures.lines c.read_seeds-seed_count.ensures.all
    entries.1 h.6 in
    let wrong : false ≡ true = rw kept.1 at c.if-not-is_empty.ensures in
    cc

pub returns-in_err-_token : goal.returns-in_err-_token
returns-in_err-_token c = rw c.from_residual.ensures (λ ring seeds h.
    let entries = ring_read c.args.text.now c.read_ring-entry_count.result.1.now c.read_ring-entry_count.result.0
    c.read_ring-entry_count.new.entries ring seeds c.read_ring-entry_count.ensures.room
    c.read_ring-entry_count.auto.entries c.read_ring-entry_count.ensures.lines c.read_ring-entry_count.ensures.all h in
    c.in_err-_token.ensures (rw entries.0 h.5))

pub returns-in_err-_seed : goal.returns-in_err-_seed
returns-in_err-_seed c = rw c.from_residual-in_err-_seed.ensures (λ ring seeds h.
    let entries = ring_read c.args.text.now c.read_ring-entry_count.result.1.now c.read_ring-entry_count.result.0
    c.read_ring-entry_count.new.entries ring seeds c.read_ring-entry_count.ensures.room
    c.read_ring-entry_count.auto.entries c.read_ring-entry_count.ensures.lines c.read_ring-entry_count.ensures.all h in
    let kept = seeds_read c.read_ring-entry_count.result.1.now c.read_seeds-seed_count.result.1.now
    c.read_seeds-seed_count.result.0 c.read_seeds-seed_count.new.seeds seeds c.read_seeds-seed_count.ensures.room
    c.read_seeds-seed_count.auto.seeds c.read_seeds-seed_count.ensures.lines c.read_seeds-seed_count.ensures.all
    entries.1 h.6 in
    c.in_err-_seed.ensures (rw kept.0 h.6))
