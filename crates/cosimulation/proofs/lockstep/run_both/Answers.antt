use Rattle.std.proofs.Common.{sym, ap, ◌∙◌, arith}
use Rattle.y86_isa.specs.Machine.{is_aok}
use Rattle.cosimulation.proofs.Alike.{first_different, more_so_far, none_so_far}
use Rattle.cosimulation.proofs.lockstep.run_both.Goals as goal

pub loop-k-init : goal.loop-k-init
loop-k-init g c = record { so_far = none_so_far c.args.v c.args.p.now c.args.m.now; cycles = omega arith }

pub returns-in-Err : goal.returns-in-Err
returns-in-Err g c =
    first_different c.args.v c.args.p.now c.args.m.now c.loop-k.k c.loop-k.steps c.args.limit c.loop-k.p c.go_both.new.p c.loop-k.m c.in-Err.retired c.in-Err.wanted c.loop-k.invariant.so_far
    (sym (c.is_aok_stat.ensures ∙ ap is_aok c.status.ensures) ∙ c.if-not-is_aok_stat.false) c.loop-k-test.true c.in-Err.ensures.both

pub loop-k-preserved : goal.loop-k-preserved
loop-k-preserved g c =
    record {
      so_far = more_so_far c.args.v c.args.p.now c.args.m.now c.loop-k.k c.loop-k.steps c.loop-k.p c.go_both.new.p c.loop-k.m c.go_both.new.m c.in-Ok.count c.loop-k.invariant.so_far
          (sym (c.is_aok_stat.ensures ∙ ap is_aok c.status.ensures) ∙ c.if-not-is_aok_stat.false) c.in-Ok.ensures.both;
      cycles = omega (arith, c.loop-k.invariant.cycles, c.in-Ok.ensures.counted);
    }
