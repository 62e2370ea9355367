use Rattle.std.proofs.Common.{◌&&◌, refl}
use Rattle.std.proofs.lemmas.Result.{IfOk-weaker}
use Rattle.ctl_rules.proofs.Kept.{asked_as}
use Rattle.pipe_stage_gates.proofs.Joined.{then_asked}
use Rattle.pipe_stage_gates.proofs.memory.values_written.Goals as goal

pub returns-clause-has_truth : goal.returns-clause-has_truth
returns-clause-has_truth c =
    IfOk-weaker c.and.result _ _ (λ _ made. asked_as
    (then_asked (λ a b. a && b) c.requires.inside c.picks_leaf.ensures.extends c.in_ok-val_e.ensures.has_truth c.picks_leaf-2.ensures.extends c.in_ok-val_m.ensures.has_truth c.and.ensures.extends made)
    (λ w α cv. refl))
    c.and.ensures.has_truth
