-- From the decision on the rules of a design to the verdict on the design.
use Rattle.std.proofs.Common.{◌≡◌, ℕ, zero, ◌+◌, ◌-◌, ◌<◌, ◌≤◌, Bool, true, false, List, [], length, slice_get, Option, Some, None, sym, ap, ◌∙◌, subst, arith}
use Rattle.std.proofs.lemmas.Bool.{false≢true}
use Rattle.std.proofs.lemmas.Option.{slice_get_within}
use Rattle.y86_base.proofs.Lists.{element_at}
use Rattle.nets.specs.Nets.{Gates, truth}
use Rattle.hcl_types.specs.Tables.{IsOrderOf}
use Rattle.hcl_types.specs.declared.term.Term.{Term}
use Rattle.ctl_atoms.proofs.Solved.{leaves_exist}
use Rattle.ctl_atoms.specs.Atoms.{AreAtoms}
use Rattle.ctl_atoms.specs.Leaves.{Assignment, AtomsAre}
use Rattle.ctl_atoms.specs.declared.leaf.Atom.{Atom}
use Rattle.ctl_atoms.specs.declared.leaf.Leaf.{Leaf}
use Rattle.ctl_equations.specs.Controls.{AreControls}
use Rattle.ctl_equations.specs.Laws.{HasControls}
use Rattle.ctl_equations.proofs.Solved.{controls_exist}
use Rattle.net_fields.specs.FieldSpecs.{InRange, number_among, pattern, total}
use Rattle.net_fields.proofs.Patterns.{decoded_range, pattern_of}
use Rattle.ctl_rules.specs.declared.rules.Rule.{Rule}
use Rattle.bdd_decide.specs.Decisions.{IsAlwaysTrue, IsLeastOf}
use Rattle.ctl_verdicts.specs.Decisions.{IsRuleDecision, IsFirstFalseRule}
use Rattle.ctl_verdicts.specs.ObligationSet.{ObligationSet, AreRulesOfSet, MeetsObligationSet, IsFalseAtBits, IsLeastFalseOf, IsVerdict, numbers_of}
use Rattle.ctl_verdicts.specs.declared.decision.FailedRule.{FailedRule}
use Rattle.ctl_verdicts.proofs.AtomBits.{AreApart, apart_added, bits_are, length-truth_bits, told_are, told_by, truth_bits}

-- a least list with one property is the least with another property that the same lists have
least_for : (vars size : ℕ) (F G : List Bool → Type 0) (w : List Bool) → vars ≡ size → ((u : List Bool) → length u ≡ vars → F u → G u) →
    ((u : List Bool) → length u ≡ vars → G u → F u) → IsLeastOf vars F w → IsLeastOf size G w
least_for vars size F G w e to from h =
    record {
      size = h.size ∙ e;
      holds = to w h.size h.holds;
      least = λ u s g y lt same zero. h.least u (s ∙ sym e) (from u (s ∙ sym e) g) y (subst (λ n. y < n) (sym e) lt) same zero;
    }

-- the atoms of the rules differ
pub rules_apart : (q : ObligationSet) (terms : List Term) (net : Gates) (list : List Rule) (rules : AreRulesOfSet q terms net list) (ids : List ℕ) → IsOrderOf q.rows terms ids → AreApart rules.atoms
rules_apart q terms net list rules ids o =
    let some = leaves_exist q.rows terms ids o in
    subst AreApart (sym (rules.are.are some.0 some.1)) (apart_added [] _ tt)

module _ (q : ObligationSet) (terms : List Term) (net : Gates) (list : List Rule) (rules : AreRulesOfSet q terms net list) (apart : AreApart rules.atoms)
    (exists : (field : ℕ → ℕ) (α : Assignment) → HasControls q.rows terms field α) where
  abbrev atoms : List Atom
  atoms = rules.atoms

  pub accepted : ((k : ℕ) (r : Rule) → slice_get list k ≡ Some r → IsAlwaysTrue net r.gate) → MeetsObligationSet q terms
  accepted always = record { holds = λ i c α cv l h range controls. at_line i c α cv l h range controls }
    where
      at_line : (i : ℕ) (c : List ℕ) (α : Assignment) (cv : ℕ → Leaf) → 1 ≤ i → i ≤ q.count → InRange q.spots c →
          AreControls q.rows terms (number_among q.spots c) α cv → q.asks i c α cv ≡ true
      at_line i c α cv l h range controls =
          let w : List Bool = pattern q.spots c (truth_bits α atoms) in
          let law = pattern_of q.spots c (truth_bits α atoms) range in
          let spelt : numbers_of q w ≡ c = law.spells in
          let are : AtomsAre atoms (total q.spots) w α = λ k a at. law.behind k ∙ bits_are α atoms k a at in
          let size : length w ≡ net.vars = law.size ∙ (ap (λ n. total q.spots + n) (length-truth_bits α atoms) ∙ sym rules.vars) in
          let rule = element_at list (i - 1) (omega (arith, l, h, rules.count)) in
          let number : i - 1 + 1 ≡ i = omega (arith, l) in
          let one = rules.each (i - 1) rule.0 rule.1 in
          let told = one.is w α cv are (subst (λ x. AreControls q.rows terms (number_among q.spots x) α cv) (sym spelt) controls) in
          subst (λ n. q.asks n c α cv ≡ true) number
          (subst (λ x. q.asks (i - 1 + 1) x α cv ≡ true) spelt (sym told ∙ always (i - 1) rule.0 rule.1 w size))

  fails_at : (k : ℕ) (r : Rule) (w : List Bool) → slice_get list k ≡ Some r → truth net r.gate w ≡ false → IsFalseAtBits q terms atoms (k + 1) w
  fails_at k r w at e =
      let α = told_by atoms (total q.spots) w in
      let controls = exists (number_among q.spots (numbers_of q w)) α in
      let are = told_are atoms (total q.spots) w apart in
      record {
        truths = α;
        values = controls.0;
        atoms_are = are;
        controls = controls.1;
        fails = sym ((rules.each k r at).is w α controls.0 are controls.1) ∙ e;
      }

  false_at : (k : ℕ) (r : Rule) (w : List Bool) → slice_get list k ≡ Some r → IsFalseAtBits q terms atoms (k + 1) w → truth net r.gate w ≡ false
  false_at k r w at h = (rules.each k r at).is w h.truths h.values h.atoms_are h.controls ∙ h.fails

  pub rejected : (i : ℕ) (w : List Bool) → 1 ≤ i → i ≤ q.count → IsFalseAtBits q terms atoms i w → MeetsObligationSet q terms → ⊥
  rejected i w l h f a = false≢true (sym f.fails ∙ a.holds i (numbers_of q w) f.truths f.values l h (decoded_range q.spots 0 w) f.controls)

  pub first_false : (k : ℕ) (r : Rule) (w : List Bool) → IsFirstFalseRule net list k r w → IsLeastFalseOf q terms atoms r.number w
  first_false k r w h =
      let number : r.number ≡ k + 1 = (rules.each k r h.there).number in
      let within : k < q.count = omega (arith, slice_get_within list k r h.there, rules.count) in
      record {
        from_one = omega (arith, number);
        to_last = omega (arith, number, within);
        least = subst (λ n. IsLeastOf (total q.spots + length atoms) (IsFalseAtBits q terms atoms n) w) (sym number)
            (least_for net.vars (total q.spots + length atoms) (λ u. truth net r.gate u ≡ false) (IsFalseAtBits q terms atoms (k + 1)) w rules.vars
            (λ u s e. fails_at k r u h.there e) (λ u s f. false_at k r u h.there f) h.least);
        earlier = λ i u l lt size f. before i u l (omega (arith, lt, number)) size f;
      }
    where
      before : (i : ℕ) (u : List Bool) → 1 ≤ i → i < k + 1 → length u ≡ total q.spots + length atoms → IsFalseAtBits q terms atoms i u → ⊥
      before i u l lt size f =
          let rule = element_at list (i - 1) (omega (arith, l, lt, slice_get_within list k r h.there)) in
          let back : i ≡ i - 1 + 1 = omega (arith, l) in
          false≢true (sym (false_at (i - 1) rule.0 u rule.1 (subst (λ n. IsFalseAtBits q terms atoms n u) back f))
          ∙ h.earlier (i - 1) rule.0 (omega (arith, l, lt)) rule.1 u (size ∙ sym rules.vars))

  -- what a first false rule says about the design
  pub no_by : (failure : FailedRule) → IsRuleDecision net list (Some failure) →
      (MeetsObligationSet q terms → ⊥) × (xs : List Atom) × AreAtoms q.rows terms xs × IsLeastFalseOf q terms xs failure.rule failure.valuation.bits
  no_by failure d =
      let told = subst (λ n. IsLeastFalseOf q terms atoms n failure.valuation.bits) (sym (d.3)) (first_false d.0 d.1 failure.valuation.bits d.2) in
      (rejected failure.rule failure.valuation.bits told.from_one told.to_last told.least.holds, atoms, rules.are, told)

-- the decision on the rules of a design is the verdict on it
pub verdict_by : (q : ObligationSet) (terms : List Term) (net : Gates) (list : List Rule) (ids : List ℕ) → IsOrderOf q.rows terms ids → AreRulesOfSet q terms net list
    → (o : Option FailedRule) → IsRuleDecision net list o → IsVerdict q terms o
verdict_by q terms net list ids ordered rules None d =
    accepted q terms net list rules (rules_apart q terms net list rules ids ordered) (λ field α. controls_exist q.rows terms ids field α ordered) d
verdict_by q terms net list ids ordered rules (Some f) d =
    no_by q terms net list rules (rules_apart q terms net list rules ids ordered) (λ field α. controls_exist q.rows terms ids field α ordered) f d
