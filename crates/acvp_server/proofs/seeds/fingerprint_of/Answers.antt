use Rattle.std.proofs.Common.{◌++◌, codes, take, ap, ◌∙◌, append-nil}
use Rattle.std.specs.Int.{from_be_bytes, w32}
use Rattle.acvp_mac.specs.Hash.{digest_of}
use Rattle.acvp_mac.specs.declared.HashName.TheVariants.{Sha256}
use Rattle.acvp_server.specs.Fingerprints.{fingerprint_of}
use Rattle.acvp_server.proofs.seeds.fingerprint_of.Goals as goal

pub returns : goal.returns
unfolding fingerprint_of
returns c =
    let front = c.copy_from_slice.ensures.after ∙ ap (take 4) (c.as_slice.ensures.value
    ∙ (c.hash_pieces-digest.ensures.value
    ∙ ap (λ seed. digest_of Sha256 (codes "acvp_server seed" ++ seed)) (append-nil c.args.seed.now))) in
    c.from_be_bytes.ensures ∙ ap (from_be_bytes w32) front
