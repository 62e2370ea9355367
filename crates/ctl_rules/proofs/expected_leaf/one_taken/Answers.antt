use Rattle.std.proofs.Common.{◌||◌, ap, sym, ◌∙◌}
use Rattle.nets.specs.Nets.{truth}
use Rattle.nets.proofs.Truths.{begins_more}
use Rattle.ctl_atoms.specs.Leaves.{leaf_eq}
use Rattle.ctl_rules.specs.ControlGates.{leaf_expected}
use Rattle.ctl_rules.proofs.Kept.{some_from, within_from, some_joined}
use Rattle.ctl_rules.proofs.expected_leaf.one_taken.Goals as goal

pub loop-pick-preserved : goal.loop-pick-preserved
loop-pick-preserved c =
    let up = begins_more c.leaf_is.ensures.extends c.and.ensures.extends in
    let old = begins_more c.loop-pick.invariant.begins c.leaf_is.ensures.extends in
    let parts = within_from _ c.args.picks.now c.loop-pick.pick-index c.loop-pick-test.true c.loop-pick.invariant.left in
    record {
      within = c.in_ok-any-2.ensures.has_truth.within;
      begins = begins_more c.loop-pick.invariant.begins (begins_more up c.or.ensures.extends);
      left = parts.1;
      are = λ w. some_joined _ _ _ _ _ _ _ _ _ _ (up.same _ w c.loop-pick.invariant.within) (old.same _ w parts.0) (c.in_ok-same.ensures.has_truth.is w)
          (c.in_ok-here.ensures.has_truth.is w) (c.in_ok-any-2.ensures.has_truth.is w)
          (ap (λ b. truth c.loop-pick.b c.loop-pick.any w || b) (sym (some_from c.args.b.now w (λ leaf. leaf_eq leaf (leaf_expected w c.args.want)) c.args.picks.now c.loop-pick.pick-index c.loop-pick-test.true)) ∙ c.loop-pick.invariant.are w);
    }
