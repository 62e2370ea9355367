use Rattle.hcl_types.specs.Terms.{at, value, word_meaning}
use Rattle.hcl_compile.proofs.Rooted.{root_at, root_ends}
use Rattle.hcl_compile.proofs.machine.CompiledSignalEval.eval.Goals as goal

pub bounds-items-def : goal.bounds-items-def
bounds-items-def c =
    rw c.items.ensures
    (root_at c.args.self.now.constants c.args.self.now.terms c.args.self.now.nodes c.requires.asks.0 c.args.self.now.roots c.args.def c.requires.asks.2.0 c.requires.asks.1 c.requires.asks.2.1).0

pub walk-requires : goal.walk-requires
walk-requires c =
    rw (c.items.ensures, c.items-2.ensures, c.items-3.ensures) (record {
      ends = (
        value word_meaning (at c.args.vals.now) c.requires.asks.2.0,
        root_ends c.args.self.now.constants c.args.self.now.terms c.args.self.now.nodes c.requires.asks.0 c.args.self.now.roots c.args.vals.now c.args.def c.requires.asks.2.0 c.requires.asks.1
            c.requires.assumed c.requires.asks.2.1 c.requires.asks.2.2,
      );
    })

pub returns-clause-value : goal.returns-clause-value
returns-clause-value c terms t evaluates found within =
    c.walk.ensures (value word_meaning (at c.args.vals.now) t)
    (rw (c.items.ensures, c.items-2.ensures, c.items-3.ensures)
    (root_ends c.args.self.now.constants c.args.self.now.terms c.args.self.now.nodes terms c.args.self.now.roots c.args.vals.now c.args.def t evaluates c.requires.assumed found within))
