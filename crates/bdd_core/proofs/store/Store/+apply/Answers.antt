use Rattle.bdd_core.proofs.Applying.{answer_kept}
use Rattle.bdd_core.proofs.store.Store.+apply.Goals as goal

pub finish-requires-clause-low : goal.finish-requires-clause-low
finish-requires-clause-low t c = answer_kept c.apply.ensures.reduced_after c.apply-2.ensures.kept c.in_ok-low.ensures.answer
