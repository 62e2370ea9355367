use Rattle.std.proofs.Common.{◌<◌, ◌+◌, ◌&&◌, ◌||◌, length, List, get_or, ap, ◌∙◌, sym, refl, drop}
use Rattle.std.proofs.lemmas.List.{drop_more}
use Rattle.ctl_atoms.specs.declared.leaf.Leaf.{Leaf}
use Rattle.ctl_picks.specs.declared.controls.Pick.{Pick}
use Rattle.nets.specs.Nets.{truth}
use Rattle.ctl_atoms.specs.Leaves.{leaf_eq}
use Rattle.ctl_picks.specs.TakenPicks.{at, leaf_taken}
use Rattle.ctl_picks.specs.Picks.{leaves_of}
use Rattle.ctl_atoms.specs.TermAtoms.{joined}
use Rattle.nets.proofs.Truths.{begins_more}
use Rattle.ctl_picks.proofs.Chosen.{taken_kept}
use Rattle.ctl_picks.proofs.Steps.{none, within_next, or_same, and_same}
use Rattle.ctl_picks.proofs.Inside.{within_more}
use Rattle.ctl_picks.proofs.Taken.{one_more}
use Rattle.ctl_picks.proofs.picking.add_all.Goals as goal

pub add-requires-clause-within : goal.add-requires-clause-within
add-requires-clause-within c = within_more (length c.loop-p.b.gates) (length c.and.new.self.gates) c.loop-p.out.items c.in_ok-g.ensures.extends.more c.loop-p.invariant.within

pub loop-p-preserved : goal.loop-p-preserved
loop-p-preserved c =
    let ps = c.args.ps.now in
    let i = c.loop-p.p-index in
    let inside : i < length ps = c.loop-p-test.true in
    let more = within_next (length c.args.b.now.gates) ps i inside c.loop-p.invariant.more in
    let p : Pick = get_or ps i none in
    let begins = c.loop-p.invariant.begins in
    record {
      begins = begins_more begins (begins_more c.in_ok-g.ensures.extends c.in-Ok.ensures.extends);
      within = c.in-Ok.ensures.within;
      more = more.1;
      leaves = ap (λ (ls : List Leaf). joined ls (leaves_of (drop (i + 1) ps))) c.in-Ok.ensures.leaves
          ∙ (ap (λ (xs : List Pick). joined (leaves_of c.loop-p.out.items) (leaves_of xs)) (sym (drop_more ps i none inside)) ∙ c.loop-p.invariant.leaves);
      is = λ w y.
          or_same _ _ _ _ (c.in-Ok.ensures.is w y) refl
          ∙ (one_more (leaf_taken (at c.loop-p.b w) c.loop-p.out.items y) (truth c.args.b.now c.args.here w) (leaf_eq p.leaf y) (truth c.args.b.now p.gate w) (leaf_taken (at c.args.b.now w) (drop (i + 1) ps) y)
          (leaf_taken (at c.and.new.self w) c.loop-p.out.items y) (truth c.and.new.self c.in_ok-g.g w)
          (taken_kept c.in_ok-g.ensures.extends w c.loop-p.out.items c.loop-p.invariant.within y)
          (c.in_ok-g.ensures.has_truth.is w ∙ and_same _ _ _ _ (begins.same c.args.here w c.requires.gate) (begins.same p.gate w more.0))
          ∙ (ap (λ (xs : List Pick). leaf_taken (at c.loop-p.b w) c.loop-p.out.items y || (truth c.args.b.now c.args.here w && leaf_taken (at c.args.b.now w) xs y)) (sym (drop_more ps i none inside))
          ∙ c.loop-p.invariant.is w y));
    }
