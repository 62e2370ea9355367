use Rattle.std.proofs.Common.{length, refl}
use Rattle.dp_signals.specs.PipeEquations.{constants, given, state_words}
use Rattle.dp_signals.proofs.Assumed.{may_assume}
use Rattle.dp_signals.proofs.PipeRules.{given_constants, pipe_computes, pipe_keeps, pipe_size, pipe_solves_over}
use Rattle.dp_signals.proofs.pipe_values.solve_pipe_in.Goals as goal

pub fill-requires-clause-computed : goal.fill-requires-clause-computed
fill-requires-clause-computed g c =
    rw c.new-hardware.ensures
    (pipe_computes c.args.variant c.args.p.now c.args.ordered.now.design.terms c.args.ordered.now.order.ids (length c.args.values.now)
    (pipe_size c.args.p.now c.args.values.now c.requires.given) c.requires.bound c.requires.ordered)

pub fill-requires-clause-fits : goal.fill-requires-clause-fits
unfolding given
fill-requires-clause-fits g c = λ fits.
    rw c.new-hardware.ensures
    (may_assume _ constants (state_words c.args.p.now) (given c.args.p.now) c.requires.given.0 c.args.values.now (c.requires.fits fits) refl c.requires.given.2)

pub returns-clause-solves : goal.returns-clause-solves
returns-clause-solves g c =
    rw (c.fill.ensures.values, c.new-hardware.ensures, c.requires.given.2)
    (pipe_solves_over c.args.variant c.args.p.now c.args.ordered.now.design.terms c.args.ordered.now.order.ids c.requires.given.0 c.requires.given.1 c.requires.bound c.requires.ordered)

pub returns-clause-constants : goal.returns-clause-constants
returns-clause-constants g c =
    rw (c.fill.ensures.values, c.new-hardware.ensures)
    (given_constants c.args.p.now _
    (pipe_keeps c.args.variant c.args.p.now c.args.ordered.now.design.terms c.args.ordered.now.order.ids c.args.values.now c.requires.bound c.requires.ordered c.requires.given))
