use Rattle.cert_writer.proofs.Nodes.{high_call, low_call, one_is, push_call, pushed_is, term_stays, zero_is}
use Rattle.cert_writer.proofs.terms.TermWriter.+term.Goals as goal

pub term-requires : goal.term-requires
term-requires t c = low_call c.args.self.now c.args.d c.in-Choice.low c.in-Choice.high c.in-Choice.var c.args.least t c.node.ensures.written c.in-Choice.ensures.node c.requires.least c.decreases

pub term-requires-in-Choice : goal.term-requires-in-Choice
term-requires-in-Choice t c =
    high_call c.args.self.now c.term.new.self c.args.d c.in-Choice.low c.in-Choice.high c.in-Choice.var c.args.least t c.node.ensures.written c.term.ensures.terms_grow c.in-Choice.ensures.node c.requires.least c.decreases

pub push-requires : goal.push-requires
push-requires t c =
    push_call c.args.self.now c.term.new.self c.term-in-Choice.new.self c.args.d c.in-Choice.low c.in-Choice.high c.in-Choice.var c.in_ok-l-in-Choice.l c.in_ok-h-in-Choice.h c.variable.result
    c.variable.ensures.written c.term.ensures.terms_grow c.term-in-Choice.ensures.terms_grow c.in-Choice.ensures.node c.in_ok-l-in-Choice.ensures.term c.in_ok-h-in-Choice.ensures.term c.variable.ensures.variable

pub remember-requires : goal.remember-requires
remember-requires t c =
    pushed_is c.args.self.now c.term.new.self c.term-in-Choice.new.self c.push.new.self c.args.d c.in-Choice.low c.in-Choice.high c.in-Choice.var c.in_ok-l-in-Choice.l c.in_ok-h-in-Choice.h c.variable.result c.in_ok-t-in-Choice.t
    c.variable.ensures.written c.term.ensures.terms_grow c.term-in-Choice.ensures.terms_grow c.in-Choice.ensures.node c.in_ok-l-in-Choice.ensures.term c.in_ok-h-in-Choice.ensures.term c.variable.ensures.variable
    c.push.ensures.terms_grow c.in_ok-t-in-Choice.ensures.term.0 c.in_ok-t-in-Choice.ensures.term.1

pub returns-in-False-clause-term : goal.returns-in-False-clause-term
returns-in-False-clause-term t c = zero_is c.args.self.now.store c.args.self.now.order c.args.self.now.terms c.args.d c.node.ensures.written.vars c.in-False.ensures.node

pub returns-in-True-clause-term : goal.returns-in-True-clause-term
returns-in-True-clause-term t c = one_is c.args.self.now.store c.args.self.now.order c.args.self.now.terms c.args.d c.node.ensures.written.vars c.in-True.ensures.node

pub returns-in_ok-t-in-Choice-clause-term : goal.returns-in_ok-t-in-Choice-clause-term
returns-in_ok-t-in-Choice-clause-term t c =
    term_stays c.push.new.self c.remember.new.self c.args.d c.in_ok-t-in-Choice.t c.remember.ensures.terms_grow
    (pushed_is c.args.self.now c.term.new.self c.term-in-Choice.new.self c.push.new.self c.args.d c.in-Choice.low c.in-Choice.high c.in-Choice.var c.in_ok-l-in-Choice.l c.in_ok-h-in-Choice.h c.variable.result c.in_ok-t-in-Choice.t
    c.variable.ensures.written c.term.ensures.terms_grow c.term-in-Choice.ensures.terms_grow c.in-Choice.ensures.node c.in_ok-l-in-Choice.ensures.term c.in_ok-h-in-Choice.ensures.term c.variable.ensures.variable
    c.push.ensures.terms_grow c.in_ok-t-in-Choice.ensures.term.0 c.in_ok-t-in-Choice.ensures.term.1)
