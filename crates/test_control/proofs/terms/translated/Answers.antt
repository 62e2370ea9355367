use Rattle.std.proofs.Common.{◌<◌, ◌≤◌, length, sym, ap, subst, arith}
use Rattle.hcl_types.specs.Tables.{IsSound}
use Rattle.dp_signals.specs.SeqTable.{seq_rows}
use Rattle.dp_signals.proofs.Sound.{seq_sound}
use Rattle.ctl_atoms.specs.Atoms.{AreAtoms}
use Rattle.ctl_atoms.proofs.Solved.{atoms_one}
use Rattle.ctl_picks.specs.Picks.{Covers}
use Rattle.ctl_given.specs.Places.{HavePlaces}
use Rattle.seq_obligations.specs.Designed.{ready_by, places_stand}
use Rattle.test_control.proofs.terms.translated.Goals as goal

pub atoms-requires-clause-sound : goal.atoms-requires-clause-sound
atoms-requires-clause-sound c = subst IsSound (sym c.in-Ok.ensures) seq_sound

pub translate-requires-clause-sound : goal.translate-requires-clause-sound
translate-requires-clause-sound c = subst IsSound (sym c.in-Ok.ensures) seq_sound

pub translate-requires-clause-places : goal.translate-requires-clause-places
translate-requires-clause-places c =
    let le : 19 ≤ c.new-b.result.vars = omega (arith, c.new-b.ensures.vars) in
    subst (λ rows. HavePlaces rows c.places.result.now c.new-b.result.vars) (sym c.in-Ok.ensures)
    (subst (λ ps. HavePlaces seq_rows ps c.new-b.result.vars) (sym c.places.ensures) (places_stand c.new-b.result.vars le))

pub translate-requires-clause-vars : goal.translate-requires-clause-vars
translate-requires-clause-vars c = λ listed are.
    let at = subst (λ rows. AreAtoms rows c.args.ordered.now.design.terms listed) c.in-Ok.ensures are in
    let own = subst (λ rows. AreAtoms rows c.args.ordered.now.design.terms c.in-Ok-atoms.listed.items) c.in-Ok.ensures c.in-Ok-atoms.ensures in
    let e = ap length (atoms_one seq_rows c.args.ordered.now.design.terms c.args.ordered.now.order.ids listed c.in-Ok-atoms.listed.items c.requires.ordered at own) in
    omega (arith, e, c.len.ensures, c.new-b.ensures.vars)

pub truth-gate-requires : goal.truth-gate-requires
truth-gate-requires c =
    let le : 19 ≤ c.translate.new.b.vars = omega (arith, c.new-b.ensures.vars, c.translate.ensures.extends.vars) in
    (ready_by c.translate.new.b.vars c.in-Ok-translate.ctl le (subst (λ rows. Covers rows c.in-Ok-translate.ctl) c.in-Ok.ensures c.in-Ok-translate.ensures.covers)).shared.set_cc

pub returns-in-Ok-translate : goal.returns-in-Ok-translate
returns-in-Ok-translate c =
    let le : 19 ≤ c.translate.new.b.vars = omega (arith, c.new-b.ensures.vars, c.translate.ensures.extends.vars) in
    let has = (ready_by c.translate.new.b.vars c.in-Ok-translate.ctl le (subst (λ rows. Covers rows c.in-Ok-translate.ctl) c.in-Ok.ensures c.in-Ok-translate.ensures.covers)).shared.set_cc in
    subst (λ net. c.truth-gate.result < length net.gates) (sym c.finish-net.ensures)
    (subst (λ g. g < length c.translate.new.b.gates) (sym c.truth-gate.ensures) (c.in-Ok-translate.ensures.inside.gates_in 59 has))
