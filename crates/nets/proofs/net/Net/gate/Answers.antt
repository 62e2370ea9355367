use Rattle.std.proofs.Common.{◌≡◌, subst, sym, ap, ◌∙◌, get_or, slice_get, Some}
use Rattle.std.proofs.lemmas.Option.{slice_get-get_or}
use Rattle.nets.specs.Nets.{Gates, IsNet}
use Rattle.nets.proofs.Added.{added_gate}
use Rattle.nets.proofs.net.Net.gate.Goals as goal

pub returns-clause-meaning : goal.returns-clause-meaning
returns-clause-meaning c =
    let gate = c.index.result.now in
    let read = subst (λ (n : Gates). get_or n.gates c.args.i gate ≡ gate) c.self.view_is (sym c.index.ensures) in
    (added_gate (subst IsNet c.self.view_is c.self.invariant) (slice_get-get_or c.args.self.now.gates c.args.i gate c.requires ∙ ap Some read)).is
