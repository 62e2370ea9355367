use Rattle.std.proofs.Common.{◌&&◌, ◌||◌, not, if◌then◌else◌, ap}
use Rattle.std.proofs.lemmas.Result.{IfOk-weaker}
use Rattle.ctl_rules.proofs.Kept.{asked_as, asked_gate, asked_more, asked_two}
use Rattle.pipe_stage_gates.proofs.Joined.{either_by}
use Rattle.nets.proofs.Truths.{begins_more}
use Rattle.ctl_picks.proofs.Inside.{inside_more}
use Rattle.pipe_fields.specs.Layout.{fields_of}
use Rattle.ctl_atoms.specs.declared.leaf.Leaf.TheVariants.{Name}
use Rattle.dp_signals.specs.PipeNames.{e_valA, m_valM, E_valA}
use Rattle.ctl_rules.specs.ColumnDemands.{picks_leaf}
use Rattle.y86_isa.specs.RowTests.{select_a_is_val_a, select_a_is_val_p}
use Rattle.y86_isa.specs.Table.{row}
use Rattle.pipe_stage_gates.proofs.execute.obligation_16.Goals as goal

pub returns-clause-has_truth : goal.returns-clause-has_truth
unfolding fields_of
returns-clause-has_truth c =
    let i = inside_more c.word_comes_late.ensures.extends c.requires.has.inside in
    let up = begins_more c.word_comes_late.ensures.extends c.picks_leaf_if.ensures.extends in
    IfOk-weaker c.implies.result _ _ (λ _ made. asked_as
    (asked_two (λ w a b. not a || b) c.implies.ensures.extends (inside_more c.alu_passes_target.ensures.extends (inside_more c.picks_leaf_if.ensures.extends i))
    (asked_gate c.in_ok-carried.ensures.has_truth) (asked_more c.alu_passes_target.ensures.extends (inside_more c.picks_leaf_if.ensures.extends i) c.in_ok-taken.ensures.has_truth) made)
    (λ w α cv. either_by
    (ap (λ x. not (x && (select_a_is_val_a (row c.args.inputs.now.variant (fields_of w).e.icode) || select_a_is_val_p (row c.args.inputs.now.variant (fields_of w).e.icode)))) (up.same c.args.inputs.now.flow.now.e.good w c.requires.has.flow.e.good))
    (ap (λ x. picks_leaf cv e_valA (if x then Name m_valM else Name E_valA)) (c.in_ok-late.ensures.has_truth.is w))))
    c.implies.ensures.has_truth
