use Rattle.std.proofs.Common.{◌+◌}
use Rattle.bdd_core.proofs.store.Store.+apply.Given as goal

abbrev pub decreases-apply : goal.decreases-apply
decreases-apply l = l.key.left + l.key.right
