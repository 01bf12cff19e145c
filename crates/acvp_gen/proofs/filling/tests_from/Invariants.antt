use Rattle.std.proofs.Common.{◌≡◌, ◌≤◌, ◌+◌, ◌*◌, ◌++◌, drop, take}
use Rattle.std.specs.List.{sum_by}
use Rattle.acvp_gen.specs.Prompts.{words_of_test}
use Rattle.acvp_gen.specs.Private.Filling.{tests_from}
use Rattle.acvp_gen.specs.Private.Generator.{moved}
use Rattle.acvp_gen.proofs.filling.tests_from.Given as goal

abbrev pub invariant-loop-shape : goal.invariant-loop-shape
invariant-loop-shape l = record {
  listed : l.tests.items
      ++ tests_from l.fn.words.seed l.fn.words.vs l.number l.words.place (drop l.shape-index l.shapes)
      ≡ tests_from l.fn.words.seed l.fn.words.vs l.fn.number l.fn.words.place l.shapes;
  numbered : l.number ≡ l.fn.number + l.shape-index;
  moved : l.words ≡ moved l.fn.words (sum_by words_of_test (take l.shape-index l.shapes));
  most : l.words.place ≤ l.fn.words.place + 18432 * l.shape-index;
}
