use Rattle.std.proofs.Common.{◌≡◌, ◌++◌, ℕ, Bool, drop, filter}
use Rattle.pipe_requirements.specs.Requirements.{unread}
use Rattle.pipe_requirements.specs.Flows.{at_now}
use Rattle.motion_repairs.specs.declared.pairs.Pair.{Pair}
use Rattle.motion_repairs.specs.Pairs.{is_met_by_both}
use Rattle.motion_repairs.proofs.pairs.both_repairs.Given as goal

abbrev pub invariant-loop-pair : goal.invariant-loop-pair
invariant-loop-pair l =
    let repaired : Pair → Bool = at_now is_met_by_both l.n unread l.n.leaves.now in
    l.out.items ++ filter repaired (drop l.pair-index l.pair-items) ≡ filter repaired l.pair-items
