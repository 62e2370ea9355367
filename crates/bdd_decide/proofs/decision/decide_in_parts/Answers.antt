use Rattle.std.proofs.Common.{ℕ, subst}
use Rattle.bdd_decide.specs.Splitting.{IsSearched}
use Rattle.bdd_decide.proofs.Searching.{all_true}
use Rattle.bdd_decide.proofs.decision.decide_in_parts.Goals as goal

pub returns-then-found-gates : goal.returns-then-found-gates
returns-then-found-gates g c =
    let cut = c.split_of-cut.result in
    let found = c.in_ok-found.found in
    let searched = subst (λ (upto : ℕ). IsSearched c.args.net.now c.args.gates.now cut.bits upto found.place found.part) c.split_of-cut.ensures.parts c.in_ok-found.ensures in
    all_true c.args.net.now c.args.gates.now cut.bits found.place found.part searched c.if-found-gates.true
