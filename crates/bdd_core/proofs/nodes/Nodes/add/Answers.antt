use Rattle.std.proofs.Common.{rules, arith, ◌≡◌, ◌+◌, subst, sym, List, [], ◌∷◌, ◌++◌, ℕ, length, take, drop}
use Rattle.std.proofs.lemmas.List.{take_at}
use Rattle.bdd_core.specs.Diagrams.{Diagrams, IsBranch}
use Rattle.bdd_core.specs.Tables.{IsTable, IsUnique, IsNewIn, AreNodes}
use Rattle.bdd_core.specs.declared.nodes.ChoiceNode.{ChoiceNode}
use Rattle.bdd_core.proofs.Making.{unique_pushed, nodes_pushed}
use Rattle.bdd_core.proofs.nodes.Nodes.add.Goals as goal

pub put-requires-clause-unique : goal.put-requires-clause-unique
put-requires-clause-unique c =
    let list : List ChoiceNode = c.self.inside.list.items in
    let longer : c.as_slice-2.result.now ≡ list ++ c.args.c ∷ [] = search rules in
    let table : IsTable list c.with_room.new.places.items = search rules in
    let absent : IsNewIn list c.args.c = subst (λ (s : Diagrams). IsNewIn s.nodes c.args.c) (sym c.self.view_is) c.requires.absent in
    subst IsUnique (sym longer) (unique_pushed list c.args.c c.with_room.new.places.items table absent)

pub invariant_of-self-2 : goal.invariant_of-self-2
invariant_of-self-2 c =
    let list : List ChoiceNode = c.self.inside.list.items in
    let inside : Diagrams = record { vars = c.self.inside.vars; nodes = list } in
    let pushed : c.push.new.self.items ≡ list ++ c.args.c ∷ [] = search rules in
    let slice : c.as_slice-2.result.now ≡ list ++ c.args.c ∷ [] = search rules in
    let absent : IsNewIn list c.args.c = subst (λ (s : Diagrams). IsNewIn s.nodes c.args.c) (sym c.self.view_is) c.requires.absent in
    let branch : IsBranch inside c.args.c = subst (λ (s : Diagrams). IsBranch s c.args.c) (sym c.self.view_is) c.requires.branch in
    let n : c.len-at.result ≡ length list = search rules in
    let table : IsTable (take (c.len-at.result + 1) (list ++ c.args.c ∷ [])) c.put.new.places =
    subst (λ (xs : List ChoiceNode). IsTable (take (c.len-at.result + 1) xs) c.put.new.places) slice c.put.ensures.table in
    let size : length c.put.new.places ≡ c.with_room.new.places.len = search rules in
    let places : take c.with_room.new.places.len (c.put.new.places ++ drop (length c.put.new.places) c.with_room.new.places.items) ≡ c.put.new.places =
    take_at c.put.new.places (drop (length c.put.new.places) c.with_room.new.places.items) c.with_room.new.places.len size in
    subst (λ (xs : List ChoiceNode). AreNodes c.self.inside.vars xs (take c.with_room.new.places.len (c.put.new.places ++ drop (length c.put.new.places) c.with_room.new.places.items))) (sym pushed)
    (subst (λ (ps : List ℕ). AreNodes c.self.inside.vars (list ++ c.args.c ∷ []) ps) (sym places)
    (nodes_pushed c.self.inside.vars list c.self.inside.places.items c.put.new.places c.args.c c.len-at.result c.self.invariant branch absent n (omega arith) table))
