use Rattle.pipe_fields.specs.Layout.{fields_by}
use Rattle.prog_gen.proofs.Placed.{at_place}
use Rattle.prog_gen.proofs.choices.write.Goals as goal
use Rattle.prog_gen.specs.Choices.{write_tests}
use Rattle.prog_gen.specs.Spans.{is_selected}
use Rattle.y86_isa.specs.Table.{row}

pub returns-in-1 : goal.returns-in-1
returns-in-1 c =
    at_place (write_tests c.args.v (row c.args.v (fields_by c.args.before.now).w.icode) (fields_by c.args.before.now).w) c.args.i 1 (is_selected c.write_icode.result) c.in-1.is (rw (c.at-kind.ensures, c.at-in-1.ensures) at c.write_icode.ensures)
