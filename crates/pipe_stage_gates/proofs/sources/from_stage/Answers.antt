use Rattle.std.proofs.Common.{ap, if◌then◌else◌}
use Rattle.std.proofs.lemmas.Result.{IfOk-weaker}
use Rattle.nets.specs.Nets.{truth}
use Rattle.nets.proofs.Truths.{begins_more}
use Rattle.ctl_picks.proofs.Inside.{inside_more}
use Rattle.ctl_atoms.specs.declared.leaf.Leaf.TheVariants.{Name}
use Rattle.net_fields.specs.Spelling.{spelt}
use Rattle.ctl_rules.specs.ColumnDemands as words
use Rattle.ctl_rules.proofs.Kept.{asked_two, asked_more, asked_as}
use Rattle.pipe_stage_gates.proofs.sources.from_stage.Goals as goal

pub returns-clause-has_truth : goal.returns-clause-has_truth
returns-clause-has_truth c =
    let i = inside_more c.picks_leaf.ensures.extends c.requires.inside in
    let up = begins_more c.picks_leaf.ensures.extends c.picks_leaf-2.ensures.extends in
    IfOk-weaker c.choose.result _ _ (λ _ made. asked_as
    (asked_two (λ w x y. if x then y else truth c.picks_leaf-2.new.b c.args.older w) c.choose.ensures.extends (inside_more c.picks_leaf-2.ensures.extends i)
    (asked_more c.picks_leaf-2.ensures.extends i c.in_ok-here.ensures.has_truth) c.in_ok-taken.ensures.has_truth made)
    (λ w α cv. ap (λ z. if words.is_number cv c.args.operand.source (spelt w c.args.at.first c.args.at.bits) then words.picks_leaf cv c.args.operand.word (Name c.args.leaf) else z) (up.same _ w c.requires.older_in)))
    c.choose.ensures.has_truth
