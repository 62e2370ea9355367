use Rattle.std.proofs.Common.{subst, sym}
use Rattle.bdd_core.specs.Diagrams.{Diagrams}
use Rattle.bdd_core.specs.Answers.{IsAnswer}
use Rattle.bdd_core.proofs.Applying.{finished}
use Rattle.bdd_core.proofs.store.Store.finish.Goals as goal

pub keep-requires : goal.keep-requires
keep-requires c = finished c.vars.ensures.reduced_after c.make.ensures.reduced_after c.make.ensures.kept c.requires.key c.requires.split c.requires.low c.requires.high c.in_ok-d.ensures.has_truth

pub returns-clause-answer : goal.returns-clause-answer
returns-clause-answer c =
    subst (λ (s : Diagrams). IsAnswer s c.args.key c.in_ok-d.d) (sym c.keep.ensures)
    (finished c.vars.ensures.reduced_after c.make.ensures.reduced_after c.make.ensures.kept c.requires.key c.requires.split c.requires.low c.requires.high c.in_ok-d.ensures.has_truth)
