use Rattle.std.proofs.Common.{◌≡◌, ◌++◌, ℕ, Bool, drop, filter}
use Rattle.control_values.specs.Given.{at}
use Rattle.pipe_requirements.specs.Requirements.{unread}
use Rattle.pipe_requirements.specs.Flows.{at_now}
use Rattle.motion_repairs.specs.Changes.{is_signal_repair}
use Rattle.motion_repairs.proofs.changes.signal_repairs.Given as goal

abbrev pub invariant-loop-signal : goal.invariant-loop-signal
invariant-loop-signal l =
    let repaired : ℕ → Bool = at_now is_signal_repair l.n unread (at l.n.leaves.now) in
    l.out.items ++ filter repaired (drop l.signal-index l.signal-items) ≡ filter repaired l.signal-items
