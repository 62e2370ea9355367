use Rattle.std.proofs.Common.{arith, ◌≡◌, ◌<◌, ◌∙◌, subst, sym}
use Rattle.bdd_core.specs.Diagrams.{Diagrams, at, count}
use Rattle.bdd_core.proofs.Truths.{at_list}
use Rattle.bdd_core.proofs.nodes.Nodes.node.Goals as goal

pub returns-in_default : goal.returns-in_default
returns-in_default c =
    let inside : Diagrams = record { vars = c.self.inside.vars; nodes = c.self.inside.list.items } in
    let below : c.args.d < count inside = subst (λ (s : Diagrams). c.args.d < count s) (sym c.self.view_is) c.requires in
    subst (λ (s : Diagrams). c.index.result.now ≡ at s c.args.d) c.self.view_is
    (c.index.ensures ∙ at_list inside c.args.d c.index.result.now (omega arith) below)
