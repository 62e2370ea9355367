use Rattle.std.proofs.Common.{List, ℕ, ◌<◌, sym, ap, ◌∙◌, subst}
use Rattle.nets.specs.Substitution.{AreCopies, behind}
use Rattle.nets.specs.declared.copies.Replacement.{Replacement}
use Rattle.bdd_decide.specs.Splitting.{AreSourcesIn, IsLeastIn}
use Rattle.bdd_decide.proofs.Sources.{least_there, none_there, tells_of}
use Rattle.bdd_decide.proofs.least.least_in.Goals as goal

pub returns-in-Some : goal.returns-in-Some
returns-in-Some c =
    let n = c.args.net.now in
    let to = c.in_ok-to.to.items in
    let sources = subst (λ (vars : ℕ). AreSourcesIn c.args.part.bits c.args.part.number vars to) c.vars.ensures c.in_ok-to.ensures in
    let copies = subst (λ (xs : List Replacement). AreCopies n c.in_ok-copy.copy.net xs c.in_ok-copy.copy.gates) c.as_slice.ensures.value c.in_ok-copy.ensures.copies in
    let inside = subst (λ (k : ℕ). c.args.gate < k) (sym c.in_ok-copy.ensures.size) c.requires.gate in
    let bits = c.in_ok-w-in-Some.ensures ∙ ap (λ (xs : List Replacement). behind xs c.in-Some.u.bits) c.as_slice-in-Some.ensures.value in
    subst (IsLeastIn n c.args.gate c.args.part.bits c.args.part.number) (sym bits)
    (least_there c.args.part.bits c.args.part.number n to sources c.requires.bits c.requires.part c.in_ok-copy.copy.net c.args.gate _
    (tells_of n c.in_ok-copy.copy.net to c.in_ok-copy.copy.gates c.items.result.now c.args.gate copies c.items.ensures inside)
    (c.in_ok-copy.ensures.vars ∙ c.vars-2.ensures) c.in-Some.u.bits (rw c.in-Some.is at c.in_ok-u.ensures))

pub returns : goal.returns
returns c =
    let n = c.args.net.now in
    let to = c.in_ok-to.to.items in
    let sources = subst (λ (vars : ℕ). AreSourcesIn c.args.part.bits c.args.part.number vars to) c.vars.ensures c.in_ok-to.ensures in
    let copies = subst (λ (xs : List Replacement). AreCopies n c.in_ok-copy.copy.net xs c.in_ok-copy.copy.gates) c.as_slice.ensures.value c.in_ok-copy.ensures.copies in
    let inside = subst (λ (k : ℕ). c.args.gate < k) (sym c.in_ok-copy.ensures.size) c.requires.gate in
    none_there c.args.part.bits c.args.part.number n to sources c.requires.bits c.requires.part c.in_ok-copy.copy.net c.args.gate _
    (tells_of n c.in_ok-copy.copy.net to c.in_ok-copy.copy.gates c.items.result.now c.args.gate copies c.items.ensures inside)
    (c.in_ok-copy.ensures.vars ∙ c.vars-2.ensures) (rw c.in-None.is at c.in_ok-u.ensures)
