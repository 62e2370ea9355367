use Rattle.std.proofs.Common.{ap}
use Rattle.std.proofs.lemmas.Result.{IfOk-weaker}
use Rattle.ctl_rules.proofs.Kept.{asked_as}
use Rattle.pipe_stage_gates.proofs.Joined.{truth_told}
use Rattle.ctl_picks.proofs.Inside.{inside_more}
use Rattle.nets.specs.Nets.{agree}
use Rattle.ctl_atoms.specs.Leaves.{leaf_holds}
use Rattle.pipe_stage_gates.proofs.execute.truth_where.Goals as goal

pub returns-clause-has_truth : goal.returns-clause-has_truth
returns-clause-has_truth c =
    IfOk-weaker c.equal.result _ _ (λ _ made. asked_as
    (truth_told c.args.name c.in_ok-want.want (inside_more c.and.ensures.extends c.requires.inside) c.requires.known c.truth-told.ensures c.equal.ensures.extends made)
    (λ w α cv. ap (λ x. agree x (leaf_holds α (cv c.args.name))) (c.in_ok-want.ensures.has_truth.is w)))
    c.equal.ensures.has_truth
