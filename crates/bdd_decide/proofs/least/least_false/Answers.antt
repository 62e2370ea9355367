use Rattle.std.proofs.Common.{List, Bool, ◌≡◌, false, ◌<◌, ℕ, sym, ap, ◌∙◌, subst}
use Rattle.nets.specs.Nets.{truth}
use Rattle.nets.specs.Substitution.{AreCopies, behind}
use Rattle.nets.specs.declared.copies.Replacement.{Replacement}
use Rattle.bdd_decide.specs.Decisions.{IsLeastOf}
use Rattle.bdd_decide.proofs.Overlaid.{least_false, none_false}
use Rattle.bdd_decide.proofs.Sources.{tells_of}
use Rattle.bdd_decide.proofs.least.least_false.Goals as goal

pub returns-in-Some : goal.returns-in-Some
returns-in-Some c =
    let n = c.args.net.now in
    let to = c.in_ok-to.to.items in
    let copies = subst (λ (xs : List Replacement). AreCopies n c.in_ok-copy.copy.net xs c.in_ok-copy.copy.gates) c.as_slice.ensures.value c.in_ok-copy.ensures.copies in
    let inside = subst (λ (k : ℕ). c.args.gate < k) (sym c.in_ok-copy.ensures.size) c.requires in
    let vars = c.build.ensures.stay.vars ∙ (c.new-store.ensures.vars ∙ (c.vars-2.ensures ∙ (c.in_ok-copy.ensures.vars ∙ c.vars.ensures))) in
    let bits = c.in_ok-w-in-Some.ensures ∙ ap (λ (xs : List Replacement). behind xs c.in-Some.u.bits) c.as_slice-in-Some.ensures.value in
    subst (λ (w : List Bool). IsLeastOf n.vars (λ u. truth n c.args.gate u ≡ false) w) (sym bits)
    (least_false n c.args.gate to c.in_ok-to.ensures c.in_ok-copy.copy.net _ (tells_of n c.in_ok-copy.copy.net to c.in_ok-copy.copy.gates c.items.result.now c.args.gate copies c.items.ensures inside)
    c.build.new.self c.in_ok-diagram.diagram vars c.in_ok-diagram.ensures.built c.in-Some.u.bits (rw c.in-Some.is at c.in_ok-u.ensures))

pub returns : goal.returns
returns c =
    let n = c.args.net.now in
    let to = c.in_ok-to.to.items in
    let copies = subst (λ (xs : List Replacement). AreCopies n c.in_ok-copy.copy.net xs c.in_ok-copy.copy.gates) c.as_slice.ensures.value c.in_ok-copy.ensures.copies in
    let inside = subst (λ (k : ℕ). c.args.gate < k) (sym c.in_ok-copy.ensures.size) c.requires in
    let vars = c.build.ensures.stay.vars ∙ (c.new-store.ensures.vars ∙ (c.vars-2.ensures ∙ (c.in_ok-copy.ensures.vars ∙ c.vars.ensures))) in
    none_false n c.args.gate to c.in_ok-to.ensures c.in_ok-copy.copy.net _ (tells_of n c.in_ok-copy.copy.net to c.in_ok-copy.copy.gates c.items.result.now c.args.gate copies c.items.ensures inside)
    c.build.new.self c.in_ok-diagram.diagram vars c.in_ok-diagram.ensures.built (rw c.in-None.is at c.in_ok-u.ensures)
