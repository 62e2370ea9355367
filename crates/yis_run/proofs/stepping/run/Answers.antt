use Rattle.std.proofs.Common.{ap, sym, length, arith}
use Rattle.y86_isa.specs.Machine.{is_aok}
use Rattle.y86_isa.specs.Step.{step}
use Rattle.y86_isa.proofs.Runs.{advance-stopped, is_aok-from_not, records_from-none, retired-going, retired-stopped, run_from-none}
use Rattle.yis_run.proofs.Runs.{machine_after_step, machine_at_end, records_after_step, records_at_end}
use Rattle.yis_run.proofs.stepping.run.Goals as goal

pub loop-steps-init : goal.loop-steps-init
loop-steps-init c = record {
  within = omega arith;
  machine = sym (run_from-none c.args.v c.args.m.now);
  records = sym (ap length (records_from-none c.args.v c.args.m.now));
}

pub loop-steps-preserved : goal.loop-steps-preserved
loop-steps-preserved c =
    let l = c.loop-steps in
    record {
      within = omega arith;
      machine = machine_after_step c.args.v c.args.m.now l.m l.steps l.invariant.machine c.do_step.new.m c.do_step.ensures;
      records = records_after_step c.args.v c.args.m.now l.m l.steps l.invariant.machine (step c.args.v l.m).1 (retired-going c.args.v l.m (ap is_aok c.in-Aok.is)) l.invariant.records;
    }

pub returns-in_default : goal.returns-in_default
returns-in_default c =
    let l = c.loop-steps in
    let h = is_aok-from_not l.m.stat c.in_default.not-Aok in
    let none = retired-stopped c.args.v l.m h in
    record {
      machine = machine_at_end c.args.v c.args.m.now l.m l.steps l.invariant.machine c.args.limit l.m l.invariant.within none (sym (advance-stopped c.args.v l.m h));
      steps = records_at_end c.args.v c.args.m.now l.m l.steps l.invariant.machine c.args.limit l.invariant.within none l.invariant.records;
      within = l.invariant.within;
      fewer_only_where_stopped = λ _. c.in_default.not-Aok;
    }
