use Rattle.std.proofs.Common.{◌≡◌, ◌+◌, ◌-◌, ◌%◌, ◌++◌, length}
use Rattle.std.specs.List.{filter_map, slice_get, range_with_len}
use Rattle.acvp_gen.specs.Words.{word_of}
use Rattle.acvp_gen.specs.Choice.{drawn}
use Rattle.acvp_gen.specs.Private.Generator.{moved}
use Rattle.acvp_gen.proofs.lengths.draw.Given as goal

abbrev pub invariant-loop : goal.invariant-loop
invariant-loop l = record {
  listed : l.lengths.items
      ++ filter_map (λ place. slice_get l.domain (word_of l.fn.words.seed l.fn.words.vs place % length l.domain))
      (range_with_len l.counter (l.draws - l.counter))
      ≡ l.fn.lengths.items ++ drawn l.fn.words.seed l.fn.words.vs l.fn.draws l.domain;
  longer : length l.lengths.items ≡ length l.fn.lengths.items + l.counter;
  moved : l.words ≡ moved l.fn.words l.counter;
}
