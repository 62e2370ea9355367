use Rattle.std.proofs.Common.{◌∙◌}
use Rattle.std.proofs.lemmas.Result.{IfOk-weaker}
use Rattle.nets.proofs.Truths.{begins_more}
use Rattle.pipe_motion.proofs.Kept.{flow_kept, controls_kept, next_by, moved_flow_by}
use Rattle.pipe_motion.proofs.obligations.obligation_25.Goals as goal

pub returns-clause-has_truth : goal.returns-clause-has_truth
returns-clause-has_truth c =
    let to_1 = c.fetched_flow.ensures.extends in
    let to_2 = begins_more to_1 c.move_flow.ensures.extends in
    IfOk-weaker c.next_right.result _ _ (λ g made. record {
      within = made.within;
      is = λ w.
          let next = c.in_ok-next.ensures.has_truth.is w ∙ moved_flow_by _ _ _ _ _ _ (controls_kept to_1 c.args.k.now w c.requires.controls_in) (c.in_ok-fetched.ensures.has_truth.is w) (flow_kept to_1 c.args.v.now w c.requires.flow_in) in
          made.is w ∙ next_by c.args.s.now.je c.args.s.now.rm _ _ _ _ _ _ _ _ (controls_kept to_2 c.args.k.now w c.requires.controls_in) (to_2.same _ w c.requires.good_in)
          (flow_kept to_2 c.args.v.now w c.requires.flow_in) next;
    }) c.next_right.ensures.has_truth
