use Rattle.std.proofs.Common.{◌≡◌, ◌++◌, drop}
use Rattle.std.specs.Vec.Iter.{into_iter_items, into_iter_len}
use Rattle.cli_plans.proofs.calls.words_behind.Given as goal

abbrev pub invariant-words : goal.invariant-words
invariant-words l = l.words.items ++ into_iter_items l.args ≡ drop 1 (into_iter_items l.fn.args)

abbrev pub decreases-words : goal.decreases-words
decreases-words l = into_iter_len l.args
