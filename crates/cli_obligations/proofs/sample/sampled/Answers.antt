use Rattle.std.proofs.Common.{arith}
use Rattle.cli_obligations.proofs.Samples.{sampled}
use Rattle.cli_obligations.proofs.sample.sampled.Goals as goal

pub first_false-requires-clause-fields : goal.first_false-requires-clause-fields
first_false-requires-clause-fields c = let vars = c.in-Ok.ensures.rules.are_rules.vars in omega (arith, vars)

pub first_false-requires-clause-atoms : goal.first_false-requires-clause-atoms
first_false-requires-clause-atoms c =
    let rules = c.in-Ok.ensures.rules.are_rules in
    let vars = rules.vars in
    let few = rules.are.few in
    omega (arith, vars, few)

pub first_false-requires-clause-gates : goal.first_false-requires-clause-gates
first_false-requires-clause-gates c = λ k x at. (c.in-Ok.ensures.rules.are_rules.gates k x at).within

pub returns-in-Ok-first_false-clause-found : goal.returns-in-Ok-first_false-clause-found
returns-in-Ok-first_false-clause-found c =
    sampled c.args.request.variant c.args.bound.now.ordered.design.terms c.args.bound.now.ordered.order.ids c.requires.order c.in-Ok.rules c.in-Ok.ensures.rules c.args.request.seed c.args.request.count
    c.in-Ok-first_false.found c.in-Ok-first_false.ensures
