use Rattle.std.proofs.Common.{refl, ◌∙◌, arith}
use Rattle.yis_run.proofs.Each.{took_none, took_each, part_each}
use Rattle.yis_run.proofs.lines.put_memory.Goals as goal

pub loop-n-init : goal.loop-n-init
loop-n-init g c = record { taken = took_none _ _; no_fault = refl }

pub returns-in-Err-clause-puts : goal.returns-in-Err-clause-puts
returns-in-Err-clause-puts g c = part_each _ _ _ c.loop-n.n _ _ (omega arith) c.loop-n.invariant.taken c.in-Err.ensures.puts

pub loop-n-preserved : goal.loop-n-preserved
loop-n-preserved g c = record {
  taken = took_each _ _ _ _ _ c.loop-n.invariant.taken c.in-Ok.ensures.puts;
  no_fault = c.in-Ok.ensures.counts.no_fault_at_ok ∙ c.loop-n.invariant.no_fault;
}
