use Rattle.std.proofs.Common.{List, not, refl, sym, subst, true, ◌∙◌}
use Rattle.nets.specs.Nets.{ExtendsNet}
use Rattle.pipe_motion.specs.declared.settings.Settings.{Settings}
use Rattle.ctl_atoms.specs.declared.leaf.Atom.{Atom}
use Rattle.hazard_rules.specs.Parts.{AreLateGates}
use Rattle.pipe_gates.specs.GateTruths.{IsTruthGate}
use Rattle.pipe_obligations.specs.FileSettings.{witnesses_je, witnesses_lf, witnesses_rm}
use Rattle.hazard_rules.proofs.Designed.{belongs_more, late_of, told_of_three}
use Rattle.hazard_rules.proofs.parts.pipe_late.Goals as goal

pub returns-clause-late : goal.returns-clause-late
returns-clause-late c = λ terms h.
    let e = c.as_slice.ensures.value in
    let s : Settings = record { pt = c.args.pt; pb = c.args.pb; tv = c.args.tv; lf = true; je = true; rm = true } in
    let new = c.late_gates-late.new.b in
    let v = c.args.p.now.variant in
    let ctl = c.args.p.now.ctl in
    let begins = subst (λ net. ExtendsNet net new) (c.resume-b.ensures ∙ c.replace.ensures.value) c.late_gates-late.ensures.extends in
    told_of_three c.late_gates-late.result c.late_gates-late.ensures.late c.late_gates-late.ensures.jump c.late_gates-late.ensures.ret
    (λ r late jump ret. subst (λ net. AreLateGates v terms c.args.pt c.args.pb c.args.tv net r.lf r.je r.rm) (sym c.finish.ensures)
    (late_of v terms ctl _ c.args.pt c.args.pb c.args.tv s r.lf r.je r.rm refl h.names begins
    (subst (λ (xs : List Atom). IsTruthGate new ctl xs r.lf (λ z α cv. not (witnesses_lf v s xs z α cv))) e late)
    (subst (λ (xs : List Atom). IsTruthGate new ctl xs r.je (λ z α cv. not (witnesses_je v s xs z α cv))) e jump)
    (subst (λ (xs : List Atom). IsTruthGate new ctl xs r.rm (λ z α cv. not (witnesses_rm v s xs z α cv))) e ret)))

pub returns-clause-belong : goal.returns-clause-belong
returns-clause-belong c = λ terms h.
    let begins = subst (λ net. ExtendsNet net c.late_gates-late.new.b) (c.resume-b.ensures ∙ c.replace.ensures.value) c.late_gates-late.ensures.extends in
    belongs_more terms c.args.p.now _ h (subst (λ net. ExtendsNet c.args.p.now.net net) (sym c.finish.ensures) begins) refl
