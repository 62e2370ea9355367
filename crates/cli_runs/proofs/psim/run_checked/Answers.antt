use Rattle.std.proofs.Common.{subst}
use Rattle.cli_runs.specs.Answers.{checked_plan}
use Rattle.cli_verdicts.specs.Verdicts.{IsPipeVerdictText}
use Rattle.cli_verdicts.proofs.Verdicts.{not_told, said_denied}
use Rattle.cli_plans.proofs.Does.{one_ends, one_goes_on, one_refuses}
use Rattle.cli_runs.proofs.psim.run_checked.Goals as goal

pub returns-then-not-request : goal.returns-then-not-request
unfolding checked_plan
returns-then-not-request g c = rw c.if-not-request.true c.run_object.ensures

pub returns-in-Ok-Yes : goal.returns-in-Ok-Yes
unfolding checked_plan
returns-in-Ok-Yes g c =
    rw c.if-not-request.false
    (one_goes_on _ _ c.in-Ok-Yes.text.items _ _ _ _ _ _
    (subst (IsPipeVerdictText c.args.request.run.variant c.args.bound.ordered.design.terms) c.in-Ok-Yes.field-0-is c.in-Ok-Yes.ensures.verdict)
    (rw c.as_slice.ensures.value at c.run_object-in-Ok-Yes.ensures))

pub returns-in-Ok-No : goal.returns-in-Ok-No
unfolding checked_plan
returns-in-Ok-No g c =
    rw c.if-not-request.false
    (one_ends _ _ _ _ _ _ _
    (said_denied _ _ _ c.in-Ok-No.text.items _ _ _
    (subst (IsPipeVerdictText c.args.request.run.variant c.args.bound.ordered.design.terms) c.in-Ok-No.field-0-is c.in-Ok-No.ensures.verdict)
    (rw c.as_slice-in-Ok-No.ensures.value at c.write_answer.ensures)))

pub returns : goal.returns
unfolding checked_plan
returns g c = rw c.if-not-request.false (one_refuses _ _ _ _ _ _ (not_told _ _ _ _ c.in-Err.ensures.refused))
