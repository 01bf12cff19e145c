use Rattle.std.proofs.Common.{◌≡◌, ◌++◌, ℕ, List, [], take, replicate, ap, ◌∙◌, arith}
use Rattle.acvp_mac.specs.Hash.{digest_of}
use Rattle.acvp_mac.specs.Hmac.{xor_each}
use Rattle.acvp_mac.proofs.HmacLemmas.{take-map-xor}
use Rattle.acvp_mac.proofs.keyed_hash.padded_hash.Goals as goal

pub returns-clause-value : goal.returns-clause-value
returns-clause-value g c =
    let H = g.H.HashFunction in
    let block = c.args.block.now in
    let fed = c.update-2.ensures _ (c.update.ensures [] c.start-state.ensures) in
    let padded : take c.BLOCK.result c.masked-padded.result ≡ xor_each (take H.BLOCK block)
    (replicate H.BLOCK c.args.pad) =
    rw (c.BLOCK.ensures, c.masked-padded.ensures)
    (take-map-xor H.BLOCK c.args.pad block (omega (arith, g.met.H.HashFunction.block_fits))) in
    c.finish.ensures.value _ fed ∙ ap (λ (m : List ℕ). digest_of H.name (m ++ c.args.text.now)) padded
