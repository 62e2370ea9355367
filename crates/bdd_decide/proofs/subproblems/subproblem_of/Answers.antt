use Rattle.std.proofs.Common.{List, ℕ, ◌∙◌, subst}
use Rattle.nets.specs.Substitution.{AreCopies}
use Rattle.nets.specs.declared.copies.Replacement.{Replacement}
use Rattle.bdd_decide.specs.Splitting.{AreChosen, AreSourcesIn}
use Rattle.bdd_decide.proofs.Sources.{stand_for}
use Rattle.bdd_decide.proofs.subproblems.subproblem_of.Goals as goal

pub returns : goal.returns
returns c =
    let sources = subst (λ (vars : ℕ). AreSourcesIn c.args.part.bits c.args.part.number vars c.in_ok-to.to.items) c.vars.ensures c.in_ok-to.ensures in
    let copies = subst (λ (xs : List Replacement). AreCopies c.args.net.now c.in_ok-copy.copy.net xs c.in_ok-copy.copy.gates) c.as_slice.ensures.value c.in_ok-copy.ensures.copies in
    let picked = subst (λ (xs : List ℕ). AreChosen xs c.args.gates.now c.args.count c.in_ok-gates.gates) c.items.ensures c.in_ok-gates.ensures in
    stand_for c.args.part.bits c.args.part.number c.args.net.now c.in_ok-to.to.items sources c.requires.bits c.requires.part c.in_ok-copy.copy.net c.in_ok-copy.copy.gates c.args.gates.now c.in_ok-gates.gates c.args.count
    copies c.in_ok-copy.ensures.size (c.in_ok-copy.ensures.vars ∙ c.vars-2.ensures) c.requires.gates c.requires.within picked
