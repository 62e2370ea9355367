use Rattle.std.proofs.Common.{◌≡◌, ◌-◌, take, drop, []}
use Rattle.net_fields.specs.FieldSpecs.{pattern, total}
use Rattle.pipe_fields.specs.Layout.{field_specs, bit_count, field_count}
use Rattle.prog_gen.specs.Choices.{numbers_drawn, word_behind}
use Rattle.prog_gen.proofs.valuations.draw_fields.Given as goal

abbrev pub invariant-loop-j : goal.invariant-loop-j
invariant-loop-j l = record {
  numbers : numbers_drawn l.v (field_count - l.j) (take l.j l.numbers) l.draws ≡ numbers_drawn l.v field_count [] l.fn.draws;
  word : word_behind (field_count - l.j) l.draws ≡ word_behind field_count l.fn.draws;
  place : l.first ≡ total (take l.j field_specs);
  bits : take l.first l.out ≡ pattern (take l.j field_specs) (take l.j l.numbers) [];
  behind : drop bit_count l.out ≡ drop bit_count l.fn.out;
}
