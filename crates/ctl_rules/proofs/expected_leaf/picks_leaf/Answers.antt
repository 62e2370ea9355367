use Rattle.std.proofs.lemmas.Result.{IfOk-weaker}
use Rattle.ctl_rules.proofs.Kept.{asked_picks}
use Rattle.ctl_rules.proofs.expected_leaf.picks_leaf.Goals as goal

pub returns-clause-has_truth : goal.returns-clause-has_truth
returns-clause-has_truth c = IfOk-weaker c.one_taken.result _ _ (λ _ made. asked_picks c.args.want c.one_taken.ensures.extends c.requires.inside c.requires.known c.picks.ensures made) c.one_taken.ensures.has_truth
