use Rattle.std.proofs.Common.{List, sym, subst, true, false}
use Rattle.ctl_atoms.specs.declared.leaf.Atom.{Atom}
use Rattle.hazard_rules.specs.Designs.{IsTranslated}
use Rattle.hazard_rules.specs.Parts.{AreEarlyGates, ArePredictionGates}
use Rattle.pipe_gates.specs.GateTruths.{IsTruthGate}
use Rattle.pipe_obligations.specs.FileSettings.{alu_passes_target}
use Rattle.hazard_rules.proofs.Designed.{closed_of, names_more}
use Rattle.hazard_rules.proofs.parts.pipe_parts.Goals as goal

pub returns-in-Ok-clause-belong : goal.returns-in-Ok-clause-belong
returns-in-Ok-clause-belong c =
    let e = c.as_slice.ensures.value in
    let gates = c.in-Ok.gates in
    let made = c.in_ok-made.made in
    let k = c.early_formulas.ensures.extends in
    record {
      names = subst (λ net. IsTranslated c.args.ordered.now.design.terms net made.ctl made.listed.items) (sym c.finish.ensures) (names_more k c.in_ok-made.ensures.has_truth);
      settings = subst (λ net. AreEarlyGates c.args.v c.args.ordered.now.design.terms net gates.pt gates.pb gates.tv) (sym c.finish.ensures)
          (closed_of c.args.v c.args.ordered.now.design.terms made.ctl _ gates.pt gates.pb gates.tv c.in_ok-made.ensures.has_truth k
          (subst (λ (xs : List Atom). ArePredictionGates c.args.v c.early_formulas.new.b made.ctl xs false gates.pt 7) e c.in-Ok.ensures.forward)
          (subst (λ (xs : List Atom). ArePredictionGates c.args.v c.early_formulas.new.b made.ctl xs true gates.pb 7) e c.in-Ok.ensures.backward)
          (λ s. subst (λ (xs : List Atom). IsTruthGate c.early_formulas.new.b made.ctl xs gates.tv (alu_passes_target c.args.v s)) e (c.in-Ok.ensures.target s)));
    }
