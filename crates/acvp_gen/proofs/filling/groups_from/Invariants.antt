use Rattle.std.proofs.Common.{◌≡◌, ◌≤◌, ◌+◌, ◌*◌, ◌++◌, drop}
use Rattle.acvp_gen.specs.Private.Filling.{groups_from}
use Rattle.acvp_gen.proofs.filling.groups_from.Given as goal

abbrev pub invariant-loop-shape : goal.invariant-loop-shape
invariant-loop-shape l = record {
  listed : l.groups.items
      ++ groups_from l.fn.words.seed l.fn.words.vs l.group l.number l.words.place (drop l.shape-index l.shapes)
      ≡ groups_from l.fn.words.seed l.fn.words.vs 1 1 l.fn.words.place l.shapes;
  grouped : l.group ≡ 1 + l.shape-index;
  numbered : l.number ≤ 1 + 26 * l.shape-index;
  seed : l.words.seed ≡ l.fn.words.seed;
  vs : l.words.vs ≡ l.fn.words.vs;
  most : l.words.place ≤ 16 + 479232 * l.shape-index;
}
