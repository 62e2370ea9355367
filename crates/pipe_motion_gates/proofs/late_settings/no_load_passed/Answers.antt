use Rattle.std.proofs.Common.{◌∙◌, ◌==◌, not}
use Rattle.std.proofs.lemmas.Result.{IfOk-weaker}
use Rattle.y86_isa.specs.Table.{row}
use Rattle.y86_isa.specs.RowTests.{stores_val_a}
use Rattle.ctl_picks.proofs.Inside.{inside_more}
use Rattle.pipe_fields.specs.Layout.{fields_of}
use Rattle.pipe_motion.proofs.Kept.{flow_kept}
use Rattle.ctl_rules.proofs.Kept.{tells_less}
use Rattle.pipe_motion_gates.proofs.Shows.{load_by}
use Rattle.pipe_motion_gates.proofs.late_settings.no_load_passed.Goals as goal

pub returns-clause-has_truth : goal.returns-clause-has_truth
unfolding fields_of
returns-clause-has_truth c =
    let i0 = c.requires.ready.has.inside in
    let k1 = c.picks_leaf.ensures.extends in
    let i1 = inside_more k1 i0 in
    let k2 = c.no_late_load.ensures.extends in
    IfOk-weaker c.no_late_load.result _ _ (λ _ made. record {
      within = made.within;
      is = λ w α cv t.
          let u = tells_less k2 i1 t in
          made.is w ∙ load_by (stores_val_a (row c.args.inputs.now.variant (fields_of w).d.icode).memory) (not ((fields_of w).e.dst_m == 15)) _ _ _ _ _ _ _ _ (flow_kept k1 c.args.inputs.now.flow.now w c.requires.ready.has.flow)
          (c.in_ok-equal.ensures.has_truth.is w α cv u) (c.register_controls_of-controls.ensures.encodes c.picks_leaf.new.b w α cv u) (k1.same c.args.plain w c.requires.plain_in);
    })
    c.no_late_load.ensures.has_truth

pub no_late_load-requires-clause-controls : goal.no_late_load-requires-clause-controls
no_late_load-requires-clause-controls c = c.register_controls_of-controls.ensures.inside c.picks_leaf.new.b (inside_more c.picks_leaf.ensures.extends c.requires.ready.has.inside)
