use Rattle.std.proofs.Common.{◌<◌, ◌&&◌, length, get_or, ◌∙◌}
use Rattle.ctl_picks.specs.declared.controls.Pick.{Pick}
use Rattle.nets.specs.Nets.{truth}
use Rattle.ctl_picks.specs.TakenPicks.{at}
use Rattle.ctl_terms.specs.Pairs.{row_listed, row_holds}
use Rattle.nets.proofs.Truths.{begins_more}
use Rattle.ctl_picks.proofs.Steps.{or_more, or_same, and_same, within_next, each_next, some_next, none}
use Rattle.ctl_picks.proofs.Inside.{within_more}
use Rattle.ctl_terms.proofs.Pairs.{row_kept}
use Rattle.ctl_terms.proofs.scope.Scope.pairs.Goals as goal

pub loop-p-preserved : goal.loop-p-preserved
loop-p-preserved c =
    let ps = c.args.ps.now in
    let qs = c.args.qs.now in
    let i = c.loop-p.p-index in
    let inside : i < length ps = c.loop-p-test.true in
    let gates = within_next (length c.args.b.now.gates) ps i inside c.loop-p.invariant.left in
    let here = begins_more c.loop-p.invariant.begins c.in_ok-row.ensures.extends in
    let later = begins_more c.in_ok-row.ensures.extends c.in_ok-here.ensures.extends in
    record {
      begins = begins_more here (begins_more c.in_ok-here.ensures.extends c.in_ok-g-2.ensures.extends);
      within = c.in_ok-g-2.ensures.has_truth.within;
      left = gates.1;
      listed = (each_next (λ (p : Pick). row_listed c.args.self.now.atoms.now c.args.op p.leaf qs) ps i none inside c.loop-p.invariant.listed).1;
      is = λ w α h.
          or_more _ (truth c.loop-p.b c.loop-p.g w) (truth c.args.b.now (get_or ps i none).gate w && row_holds (at c.args.b.now w) α c.args.op (get_or ps i none).leaf qs) _ _ _
          (c.in_ok-g-2.ensures.has_truth.is w ∙ or_same _ _ _ _ (later.same c.loop-p.g w c.loop-p.invariant.within)
          (c.in_ok-here.ensures.has_truth.is w ∙ and_same _ _ _ _ (here.same (get_or ps i none).gate w gates.0)
          (c.in_ok-row.ensures.is w α h ∙ row_kept c.loop-p.invariant.begins w α c.args.op (get_or ps i none).leaf qs c.requires.right)))
          (some_next (λ (p : Pick). truth c.args.b.now p.gate w && row_holds (at c.args.b.now w) α c.args.op p.leaf qs) ps i none inside)
          (c.loop-p.invariant.is w α h);
    }

pub against-requires-clause-gates : goal.against-requires-clause-gates
against-requires-clause-gates c = within_more (length c.args.b.now.gates) (length c.loop-p.b.gates) c.args.qs.now c.loop-p.invariant.begins.more c.requires.right
