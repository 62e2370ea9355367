use Rattle.std.proofs.Common.{◌≡◌, ◌+◌, ◌≤◌, length, sym, ap, subst, arith}
use Rattle.hcl_types.specs.Tables.{IsSound}
use Rattle.dp_signals.specs.PipeTable.{pipe_rows}
use Rattle.dp_signals.proofs.Sound.{pipe_sound}
use Rattle.ctl_atoms.specs.Atoms.{AreAtoms}
use Rattle.ctl_atoms.proofs.Solved.{atoms_one}
use Rattle.ctl_given.specs.Places.{HavePlaces}
use Rattle.hazard_rules.proofs.Designed.{places_stand, told_design}
use Rattle.hazard_rules.proofs.design.translated.Goals as goal
use Rattle.pipe_fields.specs.Layout.{bit_count}

pub atoms-requires-clause-sound : goal.atoms-requires-clause-sound
atoms-requires-clause-sound c = subst IsSound (sym c.in-Ok.ensures) pipe_sound

pub translate-requires-clause-sound : goal.translate-requires-clause-sound
translate-requires-clause-sound c = subst IsSound (sym c.in-Ok.ensures) pipe_sound

pub translate-requires-clause-places : goal.translate-requires-clause-places
translate-requires-clause-places c =
    let le : bit_count ≤ c.new-b.result.vars = omega (arith, c.new-b.ensures.vars) in
    subst (λ rows. HavePlaces rows c.places.result.now c.new-b.result.vars) (sym c.in-Ok.ensures)
    (subst (λ ps. HavePlaces pipe_rows ps c.new-b.result.vars) (sym c.places.ensures) (places_stand c.new-b.result.vars le))

pub translate-requires-clause-vars : goal.translate-requires-clause-vars
translate-requires-clause-vars c = λ listed are.
    let at = subst (λ rows. AreAtoms rows c.args.ordered.now.design.terms listed) c.in-Ok.ensures are in
    let own = subst (λ rows. AreAtoms rows c.args.ordered.now.design.terms c.in_ok-listed.listed.items) c.in-Ok.ensures c.in_ok-listed.ensures in
    let e = ap length (atoms_one pipe_rows c.args.ordered.now.design.terms c.args.ordered.now.order.ids listed c.in_ok-listed.listed.items c.requires.ordered at own) in
    omega (arith, e, c.len.ensures, c.new-b.ensures.vars)

pub returns-clause-has_truth : goal.returns-clause-has_truth
returns-clause-has_truth c =
    let size : c.new-b.result.vars ≡ bit_count + length c.in_ok-listed.listed.items = omega (arith, c.len.ensures, c.new-b.ensures.vars) in
    told_design c.args.ordered.now.design.terms c.in-Ok.t.rows c.places.result.now c.in_ok-ctl.ctl c.in_ok-listed.listed.items c.new-b.result.vars
    c.in-Ok.ensures c.places.ensures c.in_ok-listed.ensures size c.translate.ensures.extends.vars c.in_ok-ctl.ensures.inside c.in_ok-ctl.ensures.covers c.in_ok-ctl.ensures.encodes
