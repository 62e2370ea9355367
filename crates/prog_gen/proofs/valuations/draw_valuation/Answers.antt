use Rattle.std.proofs.Common.{◌≡◌, ◌-◌, ℕ, ◌∙◌, ◌++◌, [], ap, length, take, drop}
use Rattle.net_fields.specs.FieldSpecs.{pattern}
use Rattle.pipe_fields.specs.Layout.{field_specs, bit_count, field_count}
use Rattle.prog_gen.specs.Choices.{word_behind, truths_drawn, numbers_drawn}
use Rattle.prog_gen.proofs.Fields.{drawn_whole}
use Rattle.prog_gen.proofs.valuations.draw_valuation.Goals as goal

pub returns : goal.returns
returns c =
    let same : length c.draw_fields.new.out ≡ length c.args.out.now = c.draw_fields.auto.out in
    drawn_whole c.args.v c.args.word c.draw_fields.new.draws (length c.args.out.now - bit_count) c.draw_fields.new.out c.args.out.now c.draw_truths.new.out
    (c.draw_fields.ensures.bits ∙ ap (λ (w : ℕ). pattern field_specs (numbers_drawn c.args.v field_count [] w) [] ++ drop bit_count c.args.out.now) c.from-draws.ensures)
    (c.draw_fields.ensures.after ∙ ap (word_behind field_count) c.from-draws.ensures)
    (c.draw_truths.ensures ∙ ap (λ (n : ℕ). take bit_count c.draw_fields.new.out ++ truths_drawn (n - bit_count) c.draw_fields.new.draws) same)
