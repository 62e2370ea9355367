use Rattle.std.proofs.Common.{length, refl, ◌∙◌}
use Rattle.dp_signals.specs.PipeEquations.{constants}
use Rattle.dp_signals.proofs.Assumed.{may_assume}
use Rattle.dp_sequential.proofs.Rules.{computes, given_constants, given_size, keeps, solves_over}
use Rattle.dp_sequential.proofs.values.solve_in.Goals as goal

pub fill-requires-clause-computed : goal.fill-requires-clause-computed
fill-requires-clause-computed g c =
    let laws = g.met.S.Sequential.lawful in
    rw (c.new-hardware.ensures, c.FIRST.ensures, g.met.S.Sequential.first)
    (computes _ _ laws c.args.variant c.args.s.now c.args.ordered.now.design.terms c.args.ordered.now.order.ids c.requires.bound c.requires.ordered (length c.put_given.new.values)
    (given_size _ _ laws c.args.s.now c.put_given.new.values c.put_given.ensures))

pub fill-requires-clause-fits : goal.fill-requires-clause-fits
fill-requires-clause-fits g c = λ fits.
    let laws = g.met.S.Sequential.lawful in
    rw c.new-hardware.ensures
    (may_assume _ constants (g.S.Sequential.path.words c.args.s.now) (g.S.Sequential.path.given c.args.s.now) c.put_given.ensures.0 c.put_given.new.values (c.requires.fits fits) (laws.given c.args.s.now) c.put_given.ensures.2)

pub returns-clause-solves : goal.returns-clause-solves
returns-clause-solves g c =
    rw (c.fill.ensures.values, c.new-hardware.ensures, c.FIRST.ensures, g.met.S.Sequential.first, c.put_given.ensures.2)
    (solves_over _ _ g.met.S.Sequential.lawful c.args.variant c.args.s.now c.args.ordered.now.design.terms c.args.ordered.now.order.ids c.requires.bound c.requires.ordered
    c.put_given.ensures.0 c.put_given.ensures.1)

pub returns-clause-constants : goal.returns-clause-constants
returns-clause-constants g c =
    let laws = g.met.S.Sequential.lawful in
    rw (c.fill.ensures.values, c.new-hardware.ensures, c.FIRST.ensures, g.met.S.Sequential.first)
    (given_constants _ _ laws c.args.s.now _
    (keeps _ _ laws c.args.variant c.args.s.now c.args.ordered.now.design.terms c.args.ordered.now.order.ids c.requires.bound c.requires.ordered c.put_given.new.values c.put_given.ensures))

pub returns-clause-size : goal.returns-clause-size
returns-clause-size g c =
    let laws = g.met.S.Sequential.lawful in
    rw (c.fill.ensures.values, c.new-hardware.ensures, c.FIRST.ensures, g.met.S.Sequential.first)
    (given_size _ _ laws c.args.s.now _
    (keeps _ _ laws c.args.variant c.args.s.now c.args.ordered.now.design.terms c.args.ordered.now.order.ids c.requires.bound c.requires.ordered c.put_given.new.values c.put_given.ensures))
