use Rattle.std.proofs.Common.{◌||◌, ◌&&◌, not, ap}
use Rattle.std.proofs.lemmas.Result.{IfOk-weaker}
use Rattle.nets.proofs.Truths.{begins_more}
use Rattle.dp_signals.specs.PipeNames as names
use Rattle.ctl_atoms.specs.declared.leaf.Leaf.TheVariants.{Name}
use Rattle.ctl_picks.proofs.Inside.{inside_more}
use Rattle.pipe_fields.specs.Layout.{fields_of}
use Rattle.ctl_rules.specs.ColumnDemands as words
use Rattle.ctl_rules.proofs.Kept.{asked_two, asked_more, asked_as, asked_gate}
use Rattle.pipe_obligations.specs.FileSettings.{alu_passes_target}
use Rattle.pipe_obligations.specs.StageFlows.{is_jump, flow_of}
use Rattle.hazard_rules.proofs.early_gates.carries_gate.Goals as goal

pub returns-clause-has_truth : goal.returns-clause-has_truth
unfolding fields_of alu_passes_target flow_of
returns-clause-has_truth c = λ s.
    let i1 = c.requires.inside in
    let k2 = c.spells.ensures.extends in
    let i2 = inside_more k2 i1 in
    let k3 = c.target_gate.ensures.extends in
    let target = asked_as c.in_ok-target.ensures.has_truth (λ w α cv.
    ap (λ z. not (z && is_jump c.args.v (fields_of w).e.stat (fields_of w).e.icode)
    || (words.picks_leaf cv names.aluA (Name names.E_valC) && (words.is_number cv names.aluB 0 && words.is_number cv names.alufun 0))) (c.in_ok-good.ensures.has_truth.is w)) in
    IfOk-weaker c.implies.result _ _ (λ _ made. asked_two (λ w x y. not x || y) c.implies.ensures.extends (inside_more k3 i2) (asked_more (begins_more k2 k3) i1 (asked_gate c.requires.fits)) target made)
    c.implies.ensures.has_truth
