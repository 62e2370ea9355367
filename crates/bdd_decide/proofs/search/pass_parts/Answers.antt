use Rattle.std.proofs.Common.{◌≡◌, ◌∙◌, ℕ, List, ap, length, subst, sym}
use Rattle.bdd_decide.specs.Splitting.{IsSearched}
use Rattle.bdd_decide.specs.declared.pass.PassResult.TheVariants as pass
use Rattle.bdd_decide.proofs.Mirrors.{pass_mirrored}
use Rattle.bdd_decide.proofs.Searching.{searched_false, searched_true}
use Rattle.bdd_decide.proofs.search.pass_parts.Goals as goal

pub returns-then-found-items : goal.returns-then-found-items
returns-then-found-items c =
    let copy = c.in_ok-copy.copy in
    let found = c.in_ok-found.found in
    let cut = c.split_of-cut.result in
    let searched = subst (λ (xs : List ℕ). IsSearched copy.net xs cut.bits cut.parts found.place found.part) c.items.ensures c.in_ok-found.ensures in
    let all : found.place ≡ length copy.gates = c.if-found-items.true ∙ ap length c.items-2.ensures in
    pass_mirrored c.args.net.now c.args.gates.now copy c.in_ok-copy.ensures pass.True
    (searched_true copy.net copy.gates cut.bits cut.parts found.place found.part c.split_of-cut.ensures.parts searched all)

pub returns : goal.returns
returns c =
    let copy = c.in_ok-copy.copy in
    let found = c.in_ok-found.found in
    let cut = c.split_of-cut.result in
    let searched = subst (λ (xs : List ℕ). IsSearched copy.net xs cut.bits cut.parts found.place found.part) c.items.ensures c.in_ok-found.ensures in
    pass_mirrored c.args.net.now c.args.gates.now copy c.in_ok-copy.ensures (pass.False found.place)
    (searched_false copy.net copy.gates cut.bits cut.parts found.place found.part c.split_of-cut.ensures.parts searched (λ all. c.if-found-items.false (all ∙ sym (ap length c.items-2.ensures))))
