use Rattle.std.proofs.Common.{◌∙◌, ap}
use Rattle.nets.proofs.Truths.{begins_more}
use Rattle.pipe_motion.proofs.Kept.{stage_flow_kept, is_stage_flow_kept, control_kept, moved_by, flow_by}
use Rattle.pipe_motion.specs.Flow.{moved_flow, entering_w}
use Rattle.pipe_motion.proofs.motion.move_flow.Goals as goal

pub returns-clause-has_truth : goal.returns-clause-has_truth
unfolding moved_flow
returns-clause-has_truth c =
    let to_1 = c.moved_stage.ensures.extends in
    let to_2 = begins_more to_1 c.moved_stage-2.ensures.extends in
    let to_3 = begins_more to_2 c.moved_stage-3.ensures.extends in
    let to_4 = begins_more to_3 c.for_w.ensures.extends in
    let past_3 = begins_more c.for_w.ensures.extends c.moved_stage-4.ensures.extends in
    let past_2 = begins_more c.moved_stage-3.ensures.extends past_3 in
    let past_1 = begins_more c.moved_stage-2.ensures.extends past_2 in
    let d = is_stage_flow_kept past_1 c.in_ok-d.ensures.has_truth in
    let e = is_stage_flow_kept past_2 c.in_ok-e.ensures.has_truth in
    let m = is_stage_flow_kept past_3 c.in_ok-m.ensures.has_truth in
    record {
      within = record { d = d.within; e = e.within; m = m.within; w = c.in_ok-w.ensures.has_truth.within };
      is = λ w.
          let f = c.in_ok-from_m.ensures.has_truth.is w ∙ ap entering_w (stage_flow_kept to_3 c.args.v.now.m w c.requires.flow_in.m) in
          flow_by _ _ _ _ _ _ _ _ (d.is w)
          (e.is w ∙ moved_by _ _ _ _ _ _ (control_kept to_1 c.args.k.now.e w c.requires.controls_in.e) (stage_flow_kept to_1 c.args.v.now.e w c.requires.flow_in.e) (stage_flow_kept to_1 c.args.v.now.d w c.requires.flow_in.d))
          (m.is w ∙ moved_by _ _ _ _ _ _ (control_kept to_2 c.args.k.now.m w c.requires.controls_in.m) (stage_flow_kept to_2 c.args.v.now.m w c.requires.flow_in.m) (stage_flow_kept to_2 c.args.v.now.e w c.requires.flow_in.e))
          (c.in_ok-w.ensures.has_truth.is w ∙ moved_by _ _ _ _ _ _ (control_kept to_4 c.args.k.now.w w c.requires.controls_in.w) (stage_flow_kept to_4 c.args.v.now.w w c.requires.flow_in.w) f);
    }
