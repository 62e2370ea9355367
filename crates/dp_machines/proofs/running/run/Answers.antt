use Rattle.std.proofs.Common.{◌≡◌, false, refl, arith}
use Rattle.y86_isa.specs.Machine.{is_aok}
use Rattle.dp_machines.proofs.After.{calls_more, calls_at_end, stopped_is}
use Rattle.dp_machines.proofs.running.run.Goals as goal

pub loop-steps-preserved : goal.loop-steps-preserved
loop-steps-preserved g c =
    let so_far = c.loop-steps.invariant.calls in
    record {
      within = omega arith;
      calls = calls_more g.M.ClockedMachine.step c.args.machine.now c.loop-steps.steps c.loop-steps.machine c.cycle.new.self c.in-Some.field-0 so_far.0 so_far.1 c.in-Some.ensures.step so_far.2;
    }

pub returns-in-None-clause-calls : goal.returns-in-None-clause-calls
returns-in-None-clause-calls g c =
    let so_far = c.loop-steps.invariant.calls in
    let over : is_aok (g.M.ClockedMachine.stat c.loop-steps.machine) ≡ false = stopped_is _ (c.in-None.ensures.stopped.0 refl) in
    let same = g.met.M.ClockedMachine.stays c.loop-steps.machine c.cycle.new.self over c.in-None.ensures.step in (
      so_far.0,
      calls_at_end g.M.ClockedMachine.step c.args.machine.now c.loop-steps.steps c.args.limit c.loop-steps.machine c.cycle.new.self so_far.0 so_far.1 c.loop-steps.invariant.within c.in-None.ensures.step same,
      so_far.2,
    )
