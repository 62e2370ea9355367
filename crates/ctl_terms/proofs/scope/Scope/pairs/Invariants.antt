use Rattle.std.proofs.Common.{◌≡◌, ◌<◌, ◌||◌, Bool, List, drop, length, IsTrue}
use Rattle.nets.specs.Nets.{ExtendsNet, truth}
use Rattle.ctl_atoms.specs.Leaves.{Assignment}
use Rattle.ctl_terms.specs.Translatable.{ScopeAtomsAre}
use Rattle.ctl_picks.specs.TakenPicks.{at}
use Rattle.ctl_terms.specs.Pairs.{pairs_listed, pairs_hold}
use Rattle.ctl_picks.specs.Picks.{Within}
use Rattle.ctl_terms.proofs.scope.Scope.pairs.Given as goal

abbrev pub invariant-loop-p : goal.invariant-loop-p
invariant-loop-p l = record {
  begins : ExtendsNet l.fn.b l.b;
  within : l.g < length l.b.gates;
  left : Within (length l.fn.b.gates) (drop l.p-index l.ps);
  listed : IsTrue (pairs_listed l.self.atoms.now l.op (drop l.p-index l.ps) l.qs);
  is : (w : List Bool) (α : Assignment) → ScopeAtomsAre l.self w α →
      truth l.b l.g w || pairs_hold (at l.fn.b w) α l.op (drop l.p-index l.ps) l.qs ≡ pairs_hold (at l.fn.b w) α l.op l.ps l.qs;
}
