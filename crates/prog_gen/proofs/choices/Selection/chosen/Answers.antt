use Rattle.std.proofs.Common.{ℕ, List, ◌^◌, ◌∙◌, ap, arith}
use Rattle.prog_gen.proofs.Chosen.{filter_same}
use Rattle.prog_gen.proofs.Spanned.{small}
use Rattle.prog_gen.proofs.choices.Selection.chosen.Goals as goal
use Rattle.prog_gen.specs.Choices.{chosen}
use Rattle.prog_gen.specs.Spans.{is_selected}

pub returns-in_default : goal.returns-in_default
returns-in_default c may h =
    let same = filter_same (is_selected c.args.self) may (2 ^ c.args.bits) (λ n lt. h n (omega (arith, lt, small c.args.bits c.requires))) in
    c.at_position.ensures ∙ ap (λ (xs : List ℕ). chosen xs c.args.position) (c.as_slice.ensures.value ∙ (c.numbers-some.ensures ∙ same))
