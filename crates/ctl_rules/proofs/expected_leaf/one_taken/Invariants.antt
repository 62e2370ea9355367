use Rattle.std.proofs.Common.{◌≡◌, ◌<◌, ◌||◌, length, drop, List, Bool}
use Rattle.nets.specs.Nets.{truth, ExtendsNet}
use Rattle.ctl_atoms.specs.Leaves.{leaf_eq}
use Rattle.ctl_picks.specs.Picks.{Within, some_pick}
use Rattle.ctl_rules.specs.ControlGates.{leaf_expected}
use Rattle.ctl_rules.proofs.expected_leaf.one_taken.Given as goal

abbrev pub invariant-loop-pick : goal.invariant-loop-pick
invariant-loop-pick l = record {
  within : l.any < length l.b.gates;
  begins : ExtendsNet l.fn.b l.b;
  left : Within (length l.fn.b.gates) (drop l.pick-index l.picks);
  are : (w : List Bool) → (truth l.b l.any w || some_pick l.fn.b w (λ leaf. leaf_eq leaf (leaf_expected w l.want)) (drop l.pick-index l.picks)) ≡ some_pick l.fn.b w (λ leaf. leaf_eq leaf (leaf_expected w l.want)) l.picks;
}
