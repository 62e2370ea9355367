use Rattle.std.proofs.Common.{◌≡◌, ◌∙◌, ◌-◌, subst, sym, ap, List, Some, slice_get}
use Rattle.bdd_core.specs.Diagrams.{Diagrams}
use Rattle.bdd_core.specs.declared.nodes.ChoiceNode.{ChoiceNode}
use Rattle.bdd_core.proofs.Tables.{search_sound}
use Rattle.bdd_core.proofs.nodes.Nodes.find.Goals as goal

pub returns-in-Present : goal.returns-in-Present
returns-in-Present c =
    let found = search_sound c.as_slice.result.now c.args.c c.as_slice-2.result.now c.in-Present.d (sym c.in-Present.ensures.search) in
    let same : c.as_slice.result.now ≡ c.args.self.now.nodes = c.as_slice.ensures.value ∙ ap (λ (s : Diagrams). s.nodes) c.self.view_is in
    (found.0, subst (λ (xs : List ChoiceNode). slice_get xs (c.in-Present.d - 2) ≡ Some c.args.c) same found.1)
