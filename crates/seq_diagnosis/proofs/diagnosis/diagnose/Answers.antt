use Rattle.std.proofs.Common.{◌∙◌, ℕ, List, map, sym, ap, subst}
use Rattle.hcl_types.specs.declared.term.Term.{Term}
use Rattle.ctl_atoms.specs.declared.leaf.Leaf.{Leaf}
use Rattle.ctl_equations.specs.Controls.{AreControls}
use Rattle.control_values.specs.Given.{assigned, at, field_at}
use Rattle.net_fields.specs.FieldSpecs.{total}
use Rattle.findings.specs.Findings.{are_right, finding}
use Rattle.findings.specs.declared.requirement.Requirement.{Requirement}
use Rattle.findings.proofs.EachMet.{atoms_given}
use Rattle.seq_plus.specs.Datapaths.{rows_of}
use Rattle.seq_check.specs.Datapaths.{defined_of, spots_of}
use Rattle.seq_requirements.specs.Requirements.{requirements}
use Rattle.seq_diagnosis.specs.Diagnosis.{numbers_at, truths_at}
use Rattle.seq_diagnosis.proofs.OneWrong.{one_wrong}
use Rattle.seq_diagnosis.proofs.diagnosis.diagnose.Goals as goal

pub returns : goal.returns
returns c =
    let which = c.args.file.now.which in
    let terms = c.args.file.now.ordered.now.design.terms in
    let atoms = c.args.atoms.now in
    let w = c.args.bits.now in
    let v = c.args.file.now.variant in
    let i = c.args.number in
    let α = truths_at which atoms w in
    let ls = c.of.result in
    let controls = subst (λ (xs : List Leaf). AreControls (rows_of which) terms (field_at (spots_of which) w) α (at xs)) (sym c.of.ensures) c.in_ok-leaves.ensures in
    let given = atoms_given (rows_of which) terms c.args.file.now.ordered.now.order.ids atoms (total (spots_of which)) w c.requires.ordered c.requires.atoms in
    let same = c.as_slice.ensures.value ∙ sym c.of.ensures in
    let all = requirements which v (numbers_at which w) i in
    let here = c.as_slice.result.now in
    let findings = c.of-2.ensures ∙ (c.in_ok-findings.ensures
    ∙ (ap (λ (n : ℕ). map (finding n c.items.result.now (assigned atoms c.bit_count.result w) (at here)) c.as_slice-2.result.now) c.first_defined.ensures
    ∙ (ap (λ (n : ℕ). map (finding (defined_of which) c.items.result.now (assigned atoms n w) (at here)) c.as_slice-2.result.now) c.bit_count.ensures
    ∙ (ap (λ (ts : List Term). map (finding (defined_of which) ts α (at here)) c.as_slice-2.result.now) c.items.ensures
    ∙ (ap (λ (rs : List Requirement). map (finding (defined_of which) terms α (at here)) rs) (c.as_slice-2.ensures.value ∙ c.in_ok-all.ensures)
    ∙ ap (λ (xs : List Leaf). map (finding (defined_of which) terms α (at xs)) all) same))))) in
    let false_there = c.requires.fails α (at ls) given controls in
    record {
      diagnosis = record {
        atoms_are = given;
        controls = controls;
        false_there = false_there;
        findings = findings;
        one_wrong = ap are_right findings ∙ one_wrong which v terms i w α (at ls) false_there;
      };
    }
