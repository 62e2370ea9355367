use Rattle.std.proofs.Common.{◌∙◌}
use Rattle.std.proofs.lemmas.Result.{IfOk-weaker}
use Rattle.nets.proofs.Truths.{begins_more}
use Rattle.pipe_motion.proofs.Kept.{flow_kept, controls_kept, kept_by}
use Rattle.pipe_motion.proofs.obligations.next_right.Goals as goal

pub returns-clause-has_truth : goal.returns-clause-has_truth
returns-clause-has_truth c =
    let to_3 = begins_more c.flow_legal_gate.ensures.extends (begins_more c.or.ensures.extends c.not.ensures.extends) in
    let to_4 = begins_more to_3 c.path_gate.ensures.extends in
    let to_5 = begins_more to_4 c.path_gate-2.ensures.extends in
    let past_none = begins_more c.path_gate.ensures.extends (begins_more c.path_gate-2.ensures.extends c.path_kept.ensures.extends) in
    let past_laws = begins_more c.or.ensures.extends (begins_more c.not.ensures.extends (begins_more past_none c.and.ensures.extends)) in
    IfOk-weaker c.and-2.result _ _ (λ g made. record {
      within = made.within;
      is = λ w.
          let wrong_m = c.flow_legal_gate.ensures.extends.same _ w c.requires.next_in.m.wrong in
          let wrong_w = c.flow_legal_gate.ensures.extends.same _ w c.requires.next_in.w.wrong in
          let none = rw (c.in_ok-wrong.ensures.has_truth.is w, wrong_m, wrong_w) at (c.in_ok-none_wrong.ensures.has_truth.is w) in
          let now = rw (flow_kept to_3 c.args.v.now w c.requires.flow_in) at (c.in_ok-now.ensures.has_truth.is w) in
          let later = rw (flow_kept to_4 c.args.next.now w c.requires.next_in) at (c.in_ok-later.ensures.has_truth.is w) in
          let kept = c.in_ok-kept.ensures.has_truth.is w ∙ kept_by _ _ _ _ _ _ _ _ (controls_kept to_5 c.args.k.now w c.requires.controls_in) (to_5.same _ w c.requires.good_in)
          (c.path_gate-2.ensures.extends.same _ w c.in_ok-now.ensures.has_truth.within ∙ now) later in
          rw (past_laws.same _ w c.in_ok-lawful.ensures.has_truth.within, c.in_ok-lawful.ensures.has_truth.is w, c.in_ok-last_two.ensures.has_truth.is w, past_none.same _ w c.in_ok-none_wrong.ensures.has_truth.within, none, kept)
          at (made.is w);
    }) c.and-2.ensures.has_truth
