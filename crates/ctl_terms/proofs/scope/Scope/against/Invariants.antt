use Rattle.std.proofs.Common.{◌≡◌, ◌<◌, ◌||◌, Bool, List, drop, length, IsTrue}
use Rattle.nets.specs.Nets.{ExtendsNet, truth}
use Rattle.ctl_atoms.specs.Leaves.{Assignment}
use Rattle.ctl_terms.specs.Translatable.{ScopeAtomsAre}
use Rattle.ctl_picks.specs.TakenPicks.{at}
use Rattle.ctl_terms.specs.Pairs.{row_listed, row_holds}
use Rattle.ctl_picks.specs.Picks.{Within}
use Rattle.ctl_terms.proofs.scope.Scope.against.Given as goal

abbrev pub invariant-loop-q : goal.invariant-loop-q
invariant-loop-q l = record {
  begins : ExtendsNet l.fn.b l.b;
  within : l.g < length l.b.gates;
  gates : Within (length l.fn.b.gates) (drop l.q-index l.qs);
  listed : IsTrue (row_listed l.self.atoms.now l.op l.x (drop l.q-index l.qs));
  is : (w : List Bool) (α : Assignment) → ScopeAtomsAre l.self w α →
      truth l.b l.g w || row_holds (at l.fn.b w) α l.op l.x (drop l.q-index l.qs) ≡ row_holds (at l.fn.b w) α l.op l.x l.qs;
}
