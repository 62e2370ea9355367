use Rattle.std.proofs.Common.{◌&&◌, ◌||◌, ◌∙◌, if◌then◌else◌, ap}
use Rattle.std.proofs.lemmas.Result.{IfOk-weaker}
use Rattle.nets.proofs.Truths.{begins_more, gate_kept}
use Rattle.ctl_atoms.specs.declared.leaf.Leaf.TheVariants.{Name}
use Rattle.dp_signals.specs.PipeNames as names
use Rattle.ctl_picks.proofs.Inside.{inside_more}
use Rattle.y86_base.specs.Words.{set}
use Rattle.pipe_fields.specs.Layout.{fields_of}
use Rattle.pipe_motion.proofs.Kept.{flow_kept}
use Rattle.ctl_rules.specs.ColumnDemands as words
use Rattle.ctl_rules.proofs.Kept.{asked_more, asked_as, tells_less}
use Rattle.pipe_obligations.specs.StageFlows.{is_jump}
use Rattle.pipe_motion_gates.proofs.Codes.{youngest_by}
use Rattle.pipe_motion_gates.proofs.fetch.right_pc.Goals as goal

pub returns-clause-has_truth : goal.returns-clause-has_truth
returns-clause-has_truth c =
    let i0 = c.requires.has.inside in
    let k1 = c.constant.ensures.extends in
    let i1 = inside_more k1 i0 in
    let k2 = c.right_after_e.ensures.extends in
    let i2 = inside_more k2 i1 in
    let k3 = c.right_after_m.ensures.extends in
    let i3 = inside_more k3 i2 in
    let k4 = c.goes_to.ensures.extends in
    let i4 = inside_more k4 i3 in
    let k5 = c.of_youngest.ensures.extends in
    let to2 = begins_more k1 k2 in
    let to3 = begins_more to2 k3 in
    let never = gate_kept (begins_more k2 (begins_more k3 k4)) c.in_ok-never.ensures.has_truth in
    let e = asked_more (begins_more k3 k4) i2 c.in_ok-e.ensures.has_truth in
    let m = asked_more k4 i3 (asked_as c.in_ok-m.ensures.has_truth (λ w α cv.
    ap (λ z. (is_jump c.args.inputs.now.variant (fields_of w).m.stat (fields_of w).m.icode
    && (if set (fields_of w).m.cnd then c.args.inputs.now.settings.now.tv && words.picks_leaf cv names.f_pc (Name names.M_valE) else words.picks_leaf cv names.f_pc (Name names.M_valA)))
    || (z && words.picks_leaf cv names.f_pc (Name names.m_valM))) (to2.same c.args.inputs.now.flow.now.m.ret w c.requires.has.flow.m.ret))) in
    let last = asked_as c.in_ok-w.ensures.has_truth (λ w α cv. ap (λ z. z && words.picks_leaf cv names.f_pc (Name names.W_valM)) (to3.same c.args.inputs.now.flow.now.w.ret w c.requires.has.flow.w.ret)) in
    IfOk-weaker c.of_youngest.result _ _ (λ _ made. record {
      within = made.within;
      is = λ w α cv t.
          let u = tells_less k5 i4 t in
          made.is w ∙ youngest_by _ _ _ _ _ _ _ _ _ _ (flow_kept (begins_more to3 k4) c.args.inputs.now.flow.now w c.requires.has.flow) (never.is w) (e.is w α cv u) (m.is w α cv u) (last.is w α cv u);
    })
    c.of_youngest.ensures.has_truth
