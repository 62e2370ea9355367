use Rattle.std.proofs.Common.{length}
use Rattle.pipe_fields.specs.Layout.{fields_by}
use Rattle.prog_gen.proofs.Placed.{at_place}
use Rattle.prog_gen.proofs.choices.fetch.Goals as goal
use Rattle.prog_gen.specs.Choices.{fetch_tests}
use Rattle.prog_gen.specs.Spans.{is_selected}
use Rattle.y86_isa.specs.Table.{rows, row}

pub returns-in-1 : goal.returns-in-1
returns-in-1 c =
    at_place (fetch_tests (length (rows c.args.v)) (row c.args.v (fields_by c.args.before.now).f.icode) (fields_by c.args.before.now).f) c.args.i 1 (is_selected c.fetched_icode.result) c.in-1.is (rw c.at-error.ensures at c.fetched_icode.ensures)
