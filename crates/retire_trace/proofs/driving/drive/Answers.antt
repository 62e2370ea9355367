use Rattle.std.proofs.Common.{refl, sym, ap, ◌∙◌, arith}
use Rattle.y86_isa.specs.Machine.{is_aok}
use Rattle.retire_trace.proofs.Driven.{driven_none, driven_more, failed}
use Rattle.retire_trace.proofs.driving.drive.Goals as goal

pub loop-k-init : goal.loop-k-init
loop-k-init g c = record { driven = driven_none _ _ _; few = omega arith; fewer = omega arith; no_fault = refl }

pub returns-in-Err-clause-failed : goal.returns-in-Err-clause-failed
returns-in-Err-clause-failed g c =
    failed _ _ c.loop-k.k c.loop-k.p _ c.args.trace _ _ _ c.loop-k.retired c.in-Err.failed c.loop-k-test.true
    c.loop-k.invariant.driven (sym (c.is_aok_stat.ensures ∙ ap is_aok c.status.ensures) ∙ c.if-not-is_aok_stat.false) c.in-Err.ensures.traced

pub loop-k-preserved : goal.loop-k-preserved
loop-k-preserved g c =
    record {
      driven = driven_more _ c.loop-k.k c.loop-k.p _ c.args.trace _ _ _ c.loop-k.retired c.in-Ok.more c.loop-k.invariant.driven
          (sym (c.is_aok_stat.ensures ∙ ap is_aok c.status.ensures) ∙ c.if-not-is_aok_stat.false) c.in-Ok.ensures.traced;
      few = omega arith;
      fewer = omega (arith, c.in-Ok.ensures.few);
      no_fault = c.in-Ok.ensures.counts.no_fault_at_ok ∙ c.loop-k.invariant.no_fault;
    }
