use Rattle.std.proofs.Common.{if◌then◌else◌, ap, ◌∙◌}
use Rattle.std.proofs.lemmas.Result.{IfOk-weaker}
use Rattle.ctl_rules.proofs.Kept.{asked_as}
use Rattle.pipe_stage_gates.proofs.Joined.{lost_if}
use Rattle.pipe_fields.specs.Layout.{fields_of}
use Rattle.ctl_atoms.specs.declared.leaf.Leaf.TheVariants.{Number}
use Rattle.ctl_rules.specs.ColumnDemands.{picks_leaf}
use Rattle.y86_isa.specs.Table.{row, no_register}
use Rattle.pipe_stage_gates.proofs.execute.late_destination_is.Goals as goal

pub returns-clause-has_truth : goal.returns-clause-has_truth
unfolding fields_of
returns-clause-has_truth c =
    IfOk-weaker c.picks_leaf_if.result _ _ (λ _ made. asked_as made
    (λ w α cv.
    let n = (fields_of w).e in
    ap (λ l. picks_leaf cv c.args.name l)
    (ap (λ x. if x then Number no_register else Number n.dst_e) (c.in_ok-lost.ensures.has_truth.is w) ∙ lost_if (row c.args.v n.icode).conditional n.cnd n.dst_e)))
    c.picks_leaf_if.ensures.has_truth
