use Rattle.std.proofs.Common.{List, ℕ, ◌∙◌, subst}
use Rattle.nets.specs.Forcing.{IsForced}
use Rattle.nets.specs.Substitution.{AreCopies}
use Rattle.nets.specs.declared.copies.Replacement.{Replacement}
use Rattle.bdd_decide.proofs.Forced.{stand_still}
use Rattle.bdd_decide.proofs.subproblems.with_forced.Goals as goal

pub returns : goal.returns
returns c =
    let part = c.args.part in
    let copy = c.in_ok-copy.copy in
    let to = c.in_ok-to.to.items in
    let forced = subst (λ (xs : List ℕ). IsForced part.net xs to) c.items.ensures c.in_ok-to.ensures.forced in
    let copies = subst (λ (xs : List Replacement). AreCopies part.net copy.net xs copy.gates) c.as_slice-2.ensures.value c.in_ok-copy.ensures.copies in
    let picked = rw (c.items-2.ensures, c.items-3.ensures, c.items-count.ensures) at c.in_ok-gates.ensures in
    stand_still part copy.net to copy.gates c.in_ok-gates.gates forced c.in_ok-to.ensures.size copies c.in_ok-copy.ensures.size (c.in_ok-copy.ensures.vars ∙ c.vars.ensures) c.requires picked
