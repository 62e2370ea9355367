use Rattle.std.proofs.Common.{◌<◌, ◌&&◌, length, get_or, ◌∙◌}
use Rattle.ctl_picks.specs.declared.controls.Pick.{Pick}
use Rattle.nets.specs.Nets.{truth}
use Rattle.ctl_atoms.specs.Leaves.{is_listed, leaf_cmp, open_atom}
use Rattle.nets.proofs.Truths.{begins_more}
use Rattle.ctl_picks.proofs.Steps.{or_more, or_same, and_same, within_next, each_next, some_next, none}
use Rattle.ctl_terms.proofs.scope.Scope.against.Goals as goal

pub loop-q-preserved : goal.loop-q-preserved
loop-q-preserved c =
    let qs = c.args.qs.now in
    let i = c.loop-q.q-index in
    let inside : i < length qs = c.loop-q-test.true in
    let gates = within_next (length c.args.b.now.gates) qs i inside c.loop-q.invariant.gates in
    let here = begins_more c.loop-q.invariant.begins c.in_ok-c.ensures.extends in
    let later = begins_more c.in_ok-c.ensures.extends c.in_ok-here.ensures.extends in
    record {
      begins = begins_more here (begins_more c.in_ok-here.ensures.extends c.in_ok-g-2.ensures.extends);
      within = c.in_ok-g-2.ensures.has_truth.within;
      gates = gates.1;
      listed = (each_next (λ (q : Pick). is_listed c.args.self.now.atoms.now (open_atom c.args.op c.args.x q.leaf)) qs i none inside c.loop-q.invariant.listed).1;
      is = λ w α h.
          or_more _ (truth c.loop-q.b c.loop-q.g w) (truth c.args.b.now (get_or qs i none).gate w && leaf_cmp α c.args.op c.args.x (get_or qs i none).leaf) _ _ _
          (c.in_ok-g-2.ensures.has_truth.is w ∙ or_same _ _ _ _ (later.same c.loop-q.g w c.loop-q.invariant.within)
          (c.in_ok-here.ensures.has_truth.is w ∙ and_same _ _ _ _ (here.same (get_or qs i none).gate w gates.0) (c.in_ok-c.ensures.is w α h)))
          (some_next (λ (q : Pick). truth c.args.b.now q.gate w && leaf_cmp α c.args.op c.args.x q.leaf) qs i none inside)
          (c.loop-q.invariant.is w α h);
    }
