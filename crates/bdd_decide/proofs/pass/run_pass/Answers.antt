use Rattle.std.proofs.Common.{◌∙◌, arith}
use Rattle.bdd_decide.proofs.pass.run_pass.Goals as goal

pub loop-k-init : goal.loop-k-init
loop-k-init c = record {
  vars = c.bounded-store.ensures.vars ∙ c.vars.ensures;
  known = c.in_ok-built.ensures c.bounded-store.result;
  earlier = λ j lt. absurd (omega (arith, lt));
}
