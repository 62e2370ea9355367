use Rattle.std.proofs.Common.{true, false, arith}
use Rattle.cert_writer.proofs.Steps.{and_call, and_next, cases_next}
use Rattle.cert_writer.proofs.claims.ClaimWriter.+and.Goals as goal

pub and-requires : goal.and-requires
and-requires t c =
    let x =
    and_call c.args.self.now c.args.a c.args.b c.args.c c.first_variable-var.result false c.part_of.result c.part_of-else-is_plain_and.result c.part_of-else-is_plain_and-2.result
    c.requires.ranks c.requires.ordered c.requires.is c.first_variable-var.ensures c.part_of.ensures c.part_of-else-is_plain_and.ensures c.part_of-else-is_plain_and-2.ensures in
    (omega (arith, c.decreases, x.0), x.1)

pub and-requires-else-is_plain_and : goal.and-requires-else-is_plain_and
and-requires-else-is_plain_and t c =
    let x =
    and_next c.args.self.now c.and.new.self c.args.a c.args.b c.args.c c.first_variable-var.result true c.part_of-else-is_plain_and-3.result c.part_of-else-is_plain_and-4.result c.part_of-else-is_plain_and-5.result
    c.in_ok-low.ensures.kept c.requires.ranks c.requires.ordered c.requires.is c.first_variable-var.ensures c.part_of-else-is_plain_and-3.ensures c.part_of-else-is_plain_and-4.ensures c.part_of-else-is_plain_and-5.ensures in
    (omega (arith, c.decreases, x.0), x.1)

pub push-requires-else-is_plain_and : goal.push-requires-else-is_plain_and
push-requires-else-is_plain_and t c =
    cases_next c.args.self.now c.and.new.self c.and-else-is_plain_and.new.self c.args.a c.args.b c.args.c c.first_variable-var.result c.in_ok-low.low c.in_ok-high.high
    c.part_of.result c.part_of-else-is_plain_and.result c.part_of-else-is_plain_and-2.result c.part_of-else-is_plain_and-3.result c.part_of-else-is_plain_and-4.result c.part_of-else-is_plain_and-5.result
    c.in_ok-low.ensures.kept c.in_ok-high.ensures.kept c.requires.is c.first_variable-var.ensures
    c.part_of.ensures c.part_of-else-is_plain_and.ensures c.part_of-else-is_plain_and-2.ensures c.part_of-else-is_plain_and-3.ensures c.part_of-else-is_plain_and-4.ensures c.part_of-else-is_plain_and-5.ensures
    c.in_ok-low.ensures.claim c.in_ok-high.ensures.claim
