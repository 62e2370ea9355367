use Rattle.std.proofs.Common.{length}
use Rattle.pipe_fields.specs.Layout.{fields_by}
use Rattle.prog_gen.proofs.Placed.{at_place}
use Rattle.prog_gen.proofs.choices.decode.Goals as goal
use Rattle.prog_gen.specs.Choices.{decode_tests}
use Rattle.prog_gen.specs.Spans.{is_in}
use Rattle.y86_isa.specs.Table.{rows, row}

pub returns-in-1 : goal.returns-in-1
returns-in-1 c =
    at_place (decode_tests (length (rows c.args.v)) (row c.args.v (fields_by c.args.before.now).d.icode) (fields_by c.args.before.now).d) c.args.i 1 (is_in c.icode.result) c.in-1.is (rw (c.icode_count.ensures, c.at-kind.ensures, c.at-status.ensures) at c.icode.ensures)
