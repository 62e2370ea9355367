use Rattle.prog_gen.proofs.Placed.{at_place}
use Rattle.prog_gen.proofs.choices.kind.Goals as goal
use Rattle.prog_gen.specs.Choices.{kind_tests}
use Rattle.prog_gen.specs.Spans.{is_in}

pub returns-in-1 : goal.returns-in-1
returns-in-1 c = at_place kind_tests c.args.i 1 (is_in c.below-in-1.result) c.in-1.is c.below-in-1.ensures

pub returns-in-2 : goal.returns-in-2
returns-in-2 c = at_place kind_tests c.args.i 2 (is_in c.below-in-2.result) c.in-2.is c.below-in-2.ensures
