use Rattle.std.proofs.Common.{sym, ◌∙◌}
use Rattle.cosimulation.proofs.Alike.{go_none, go_one}
use Rattle.cosimulation.proofs.lockstep.go_both.Goals as goal

pub returns-in-None-clause-both : goal.returns-in-None-clause-both
returns-in-None-clause-both g c =
    go_none c.args.v c.args.p.now c.args.m.now c.cycle.new.self c.cycle.result c.cycle.ensures.cycle (sym c.record_of.ensures ∙ c.in-None.is)

pub returns-then-is_record-clause-both : goal.returns-then-is_record-clause-both
returns-then-is_record-clause-both g c =
    go_one c.args.v c.args.p.now c.args.m.now c.cycle.new.self c.step-wanted.new.m c.cycle.result c.in-Some.record c.step-wanted.result c.cycle.ensures.cycle
    (sym c.record_of.ensures ∙ c.in-Some.is) c.step-wanted.ensures.record (c.is_record.ensures.0 c.if-is_record.true) c.step-wanted.ensures.machine
