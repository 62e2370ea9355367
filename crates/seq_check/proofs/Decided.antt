-- From the decision on the rules of a sequential datapath to the verdict on the design.
use Rattle.std.proofs.Common.{◌≡◌, ℕ, ◌≤◌, List, Some, None, sym, subst, ◌∙◌, Bool}
use Rattle.std.proofs.lemmas.Bool.{false≢true}
use Rattle.y86_base.specs.declared.parts.Variant.{Variant}
use Rattle.nets.specs.Nets.{Gates}
use Rattle.hcl_types.specs.Tables.{IsBound, IsOrderOf}
use Rattle.hcl_types.specs.declared.term.Term.{Term}
use Rattle.ctl_atoms.specs.declared.leaf.Atom.{Atom}
use Rattle.net_fields.proofs.Patterns.{decoded_range}
use Rattle.ctl_rules.specs.declared.rules.Rule.{Rule}
use Rattle.seq_obligations.specs.Fields as seq
use Rattle.seq_obligations.specs.Fields.{fields_of as seq_fields_of}
use Rattle.seq_obligations.specs.Obligations.{rule_count}
use Rattle.seq_refinement.proofs.Refining.{refines as seq_refines}
use Rattle.ctl_verdicts.specs.Decisions.{HaveGatesOfNet, IsRuleDecision}
use Rattle.ctl_verdicts.specs.ObligationSet.{AreRulesOfSet, IsFalseAtBits, MeetsObligationSet}
use Rattle.ctl_verdicts.specs.declared.decision.FailedRule.{FailedRule}
use Rattle.ctl_verdicts.proofs.Answered.{verdict_by}
use Rattle.seq_check.proofs.Runs.{refines as plus_refines}
use Rattle.seq_plus.specs.Datapaths.{rows_of}
use Rattle.seq_check.specs.Datapaths.{questions_of}
use Rattle.seq_check.specs.Fields as plus
use Rattle.seq_check.specs.Fields.{fields_of as plus_fields_of}
use Rattle.seq_check.specs.Rules.{AreRulesOf}
use Rattle.seq_check.specs.Verdicts.{Accepted, Accepts, Refines, Rejects}
use Rattle.hcl_types.specs.declared.table.SequentialDatapath.{SequentialDatapath}
use Rattle.hcl_types.specs.declared.table.SequentialDatapath.TheVariants.{Seq, SeqPlus}

-- the rules as those of the datapath's obligations
pub own_rules : (which : SequentialDatapath) (v : Variant) (terms : List Term) (net : Gates) (list : List Rule) → AreRulesOf which v terms net list → AreRulesOfSet (questions_of which v) terms net list
unfolding seq_fields_of plus_fields_of
own_rules Seq v terms net list r =
    record { atoms = r.atoms; are = r.are; vars = r.vars; count = r.count; each = λ k x e. record { number = (r.each k x e).number; within = (r.each k x e).within; is = (r.each k x e).is } }
own_rules SeqPlus v terms net list r =
    record { atoms = r.atoms; are = r.are; vars = r.vars; count = r.count; each = λ k x e. record { number = (r.each k x e).number; within = (r.each k x e).within; is = (r.each k x e).is } }

accepted_by : (which : SequentialDatapath) (v : Variant) (terms : List Term) → MeetsObligationSet (questions_of which v) terms → Accepted which v terms
accepted_by Seq v terms a = record { holds = λ i c α cv l h range controls. a.holds i (seq.numbers c) α cv l h range controls }
accepted_by SeqPlus v terms a = record { holds = λ i c α cv l h range controls. a.holds i (plus.numbers c) α cv l h range controls }

-- a design with an obligation that is false somewhere isn't accepted
rejected_by : (which : SequentialDatapath) (v : Variant) (terms : List Term) (atoms : List Atom) (i : ℕ) (w : List Bool) → 1 ≤ i → i ≤ rule_count → IsFalseAtBits (questions_of which v) terms atoms i w → Accepted which v terms → ⊥
unfolding seq_fields_of plus_fields_of
rejected_by Seq v terms atoms i w l h f a = false≢true (sym f.fails ∙ a.holds i (seq_fields_of w) f.truths f.values l h (decoded_range seq.spots 0 w) f.controls)
rejected_by SeqPlus v terms atoms i w l h f a = false≢true (sym f.fails ∙ a.holds i (plus_fields_of w) f.truths f.values l h (decoded_range plus.spots 0 w) f.controls)

-- the machine of an accepted design runs as the instructions do
pub refines : (which : SequentialDatapath) (v : Variant) (terms : List Term) (ids : List ℕ) → IsBound (rows_of which) terms → IsOrderOf (rows_of which) terms ids → Accepts which v terms → Refines which v terms
refines Seq v terms ids bound ordered a = seq_refines v terms ids bound ordered a.holds
refines SeqPlus v terms ids bound ordered a = plus_refines v terms ids bound ordered a.holds

module _ (which : SequentialDatapath) (v : Variant) (terms : List Term) (net : Gates) (list : List Rule) (ids : List ℕ) (ordered : IsOrderOf (rows_of which) terms ids) (rules : AreRulesOf which v terms net list) where
  abbrev pub own : AreRulesOfSet (questions_of which v) terms net list
  own = own_rules which v terms net list rules

  pub gates_of : HaveGatesOfNet net list
  gates_of = λ k r at. (own.each k r at).within

  pub accepts : IsRuleDecision net list None → Accepts which v terms
  accepts d = record {
    atoms = own.atoms;
    are = own.are;
    holds = accepted_by which v terms (verdict_by (questions_of which v) terms net list ids ordered own None d);
  }

  pub rejects : (failure : FailedRule) → IsRuleDecision net list (Some failure) → Rejects which v terms failure.rule failure.valuation.bits
  rejects failure d =
      let no = verdict_by (questions_of which v) terms net list ids ordered own (Some failure) d in
      record {
        atoms = no.1;
        are = no.2;
        refused = rejected_by which v terms no.1 failure.rule failure.valuation.bits no.3.from_one no.3.to_last no.3.least.holds;
        least = no.3;
      }

  -- the same for the list that is decided, if it is that of the rules
  module _ (decided : List Rule) (same : decided ≡ list) where
    pub decided_gates : HaveGatesOfNet net decided
    decided_gates = subst (HaveGatesOfNet net) (sym same) gates_of

    pub decided_accepts : IsRuleDecision net decided None → Accepts which v terms
    decided_accepts d = accepts (subst (λ (xs : List Rule). IsRuleDecision net xs None) same d)

    pub decided_refines : IsBound (rows_of which) terms → IsRuleDecision net decided None → Refines which v terms
    decided_refines bound d = refines which v terms ids bound ordered (decided_accepts d)
