use Rattle.std.proofs.Common.{◌≡◌, ◌++◌, ℕ, Bool, drop, filter}
use Rattle.pipe_requirements.specs.Requirements.{unread}
use Rattle.pipe_requirements.specs.Flows.{at_now}
use Rattle.motion_repairs.specs.Changes.{is_pc_repair}
use Rattle.motion_repairs.proofs.changes.pc_repairs.Given as goal

abbrev pub invariant-loop-source : goal.invariant-loop-source
invariant-loop-source l =
    let repaired : ℕ → Bool = at_now is_pc_repair l.n unread l.n.leaves.now in
    l.out.items ++ filter repaired (drop l.source-index l.source-items) ≡ filter repaired l.source-items
