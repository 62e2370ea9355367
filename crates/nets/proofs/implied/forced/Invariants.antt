use Rattle.std.proofs.Common.{◌≡◌, ◌<◌, ℕ, List, Bool, false, get_or, length}
use Rattle.nets.specs.Nets.{truth}
use Rattle.nets.specs.Substitution.{AreSources}
use Rattle.nets.specs.Forcing.{SubstituteAgrees}
use Rattle.nets.proofs.implied.forced.Given as goal

abbrev pub invariant-loop-i : goal.invariant-loop-i
invariant-loop-i l = record {
  size : length l.to.items ≡ l.n.vars;
  sources : AreSources l.n.vars l.to.items;
  settle : (k : ℕ) → k < length l.gates → (u : List Bool) → truth l.n (get_or l.gates k 0) u ≡ false → SubstituteAgrees l.to.items u;
}
