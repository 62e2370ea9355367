use Rattle.std.proofs.Common.{rules, ◌≡◌, slice_get, Some, List, subst}
use Rattle.std.proofs.lemmas.Result.{IfOk-weaker}
use Rattle.nets.specs.Nets.{Gates, ExtendsNet, IsNet}
use Rattle.nets.specs.declared.net.Gate.{Gate}
use Rattle.nets.proofs.Added.{added_gate, added_begins, added_net}
use Rattle.nets.proofs.net.Net.add.Goals as goal

pub returns-clause-extends : goal.returns-clause-extends
returns-clause-extends c =
    subst (λ (n : Gates). ExtendsNet n record { vars = c.self.inside.vars; gates = c.place.new.gates.items }) c.self.view_is
    (added_begins c.self.inside.vars c.self.inside.gates.items c.place.new.gates.items c.args.gate c.place.ensures.grows)

pub returns-clause-meaning : goal.returns-clause-meaning
returns-clause-meaning c =
    let gates : List Gate = c.place.new.gates.items in
    let net : IsNet record { vars = c.self.inside.vars; gates = gates } = search (rules, added_net) in
    IfOk-weaker c.place.result (λ i. slice_get gates i ≡ Some c.args.gate) _ (λ i is. added_gate net is) c.place.ensures.found
