use Rattle.std.proofs.Common.{if◌then◌else◌, ap, ◌∙◌}
use Rattle.std.proofs.lemmas.Result.{IfOk-weaker}
use Rattle.nets.specs.Nets.{truth}
use Rattle.nets.proofs.Truths.{begins_more}
use Rattle.ctl_picks.proofs.Inside.{inside_more}
use Rattle.ctl_atoms.specs.Leaves.{leaf_eq}
use Rattle.ctl_rules.specs.ControlGates.{leaf_expected}
use Rattle.ctl_rules.proofs.Kept.{asked_two, asked_more, asked_as, eq_if}
use Rattle.ctl_rules.proofs.expected_leaf.picks_leaf_if.Goals as goal

pub returns-clause-has_truth : goal.returns-clause-has_truth
returns-clause-has_truth c =
    let i = inside_more c.picks_leaf.ensures.extends c.requires.inside in
    let up = begins_more c.picks_leaf.ensures.extends c.picks_leaf-2.ensures.extends in
    IfOk-weaker c.choose.result _ _ (λ _ made. asked_as
    (asked_two (λ w x y. if truth c.picks_leaf-2.new.b c.args.when w then x else y) c.choose.ensures.extends (inside_more c.picks_leaf-2.ensures.extends i)
    (asked_more c.picks_leaf-2.ensures.extends i c.in_ok-first.ensures.has_truth) c.in_ok-second.ensures.has_truth made)
    (λ w α cv. ap (λ b. if b then leaf_eq (cv c.args.name) (leaf_expected w c.args.yes) else leaf_eq (cv c.args.name) (leaf_expected w c.args.no)) (up.same _ w c.requires.gate)
    ∙ eq_if (truth c.args.b.now c.args.when w) (cv c.args.name) (leaf_expected w c.args.yes) (leaf_expected w c.args.no)))
    c.choose.ensures.has_truth
