-- The obligations of a datapath on a design, and what a verdict says about the design.
use Rattle.std.specs.Prelude.{◌≡◌, ◌≢◌, ℕ, ◌+◌, ◌<◌, ◌≤◌, Bool, true, false, List, length, slice_get, Option, Some, None}
use Rattle.nets.specs.Nets.{Gates, truth}
use Rattle.hcl_types.specs.declared.table.Row.{Row}
use Rattle.hcl_types.specs.declared.term.Term.{Term}
use Rattle.ctl_atoms.specs.Atoms.{AreAtoms, IsCtlFault}
use Rattle.ctl_atoms.specs.Leaves.{Assignment, AtomsAre}
use Rattle.ctl_atoms.specs.declared.leaf.Atom.{Atom}
use Rattle.ctl_atoms.specs.declared.fault.CtlFault.TheVariants as ctl
use Rattle.ctl_atoms.specs.declared.leaf.Leaf.{Leaf}
use Rattle.ctl_equations.specs.Controls.{AreControls}
use Rattle.net_fields.specs.FieldSpecs.{InRange, decoded, number_among, total}
use Rattle.net_fields.specs.declared.field_specs.FieldSpec.{FieldSpec}
use Rattle.ctl_rules.specs.declared.rules.Rule.{Rule}
use Rattle.bdd_decide.specs.Decisions.{IsLeastOf}
use Rattle.ctl_verdicts.specs.declared.decision.FailedRule.{FailedRule}
use Rattle.ctl_verdicts.specs.declared.fault.CheckFault.{CheckFault}
use Rattle.ctl_verdicts.specs.declared.fault.CheckFault.TheVariants as fault

-- the rows of the datapath's table, the fields of a valuation, the number of obligations, and what obligation i, from 1
-- on, demands at the numbers of the fields
pub record ObligationSet : Type 0 where
  pub rows : List Row
  pub spots : List FieldSpec
  pub count : ℕ
  pub asks : ℕ → List ℕ → Assignment → (ℕ → Leaf) → Bool

-- the numbers of the fields that bits spell
abbrev pub numbers_of : ObligationSet → List Bool → List ℕ
numbers_of q w = decoded q.spots 0 w

-- a rule of the net whose gate is obligation i at every pattern of bits, whatever truths the atoms have
pub record IsRuleOfSet (q : ObligationSet) (terms : List Term) (atoms : List Atom) (net : Gates) (i : ℕ) (x : Rule) : Type 0 where
  pub number : x.number ≡ i
  pub within : x.gate < length net.gates
  pub is :
      (w : List Bool) (α : Assignment) (cv : ℕ → Leaf) → AtomsAre atoms (total q.spots) w α → AreControls q.rows terms (number_among q.spots (numbers_of q w)) α cv
      → truth net x.gate w ≡ q.asks i (numbers_of q w) α cv

-- the rules of a design in their order, over a net with a variable for each bit of a field and for each atom
pub record AreRulesOfSet (q : ObligationSet) (terms : List Term) (net : Gates) (list : List Rule) : Type 0 where
  pub atoms : List Atom
  pub are : AreAtoms q.rows terms atoms
  pub vars : net.vars ≡ total q.spots + length atoms
  pub count : length list ≡ q.count
  pub each : (k : ℕ) (x : Rule) → slice_get list k ≡ Some x → IsRuleOfSet q terms atoms net (k + 1) x

-- every obligation holds at every control valuation
pub record MeetsObligationSet (q : ObligationSet) (terms : List Term) : Type 0 where
  pub holds : (i : ℕ) (xs : List ℕ) (α : Assignment) (cv : ℕ → Leaf) → 1 ≤ i → i ≤ q.count → InRange q.spots xs →
      AreControls q.rows terms (number_among q.spots xs) α cv → q.asks i xs α cv ≡ true

-- obligation i is false at the valuation with the bits w: they spell its fields, and the truths of the atoms follow
pub record IsFalseAtBits (q : ObligationSet) (terms : List Term) (atoms : List Atom) (i : ℕ) (w : List Bool) : Type 0 where
  pub truths : Assignment
  pub values : ℕ → Leaf
  pub atoms_are : AtomsAre atoms (total q.spots) w truths
  pub controls : AreControls q.rows terms (number_among q.spots (numbers_of q w)) truths values
  pub fails : q.asks i (numbers_of q w) truths values ≡ false

-- the first obligation that is false at some valuation, and the least valuation at which it is false
pub record IsLeastFalseOf (q : ObligationSet) (terms : List Term) (atoms : List Atom) (rule : ℕ) (w : List Bool) : Type 0 where
  pub from_one : 1 ≤ rule
  pub to_last : rule ≤ q.count
  pub least : IsLeastOf (total q.spots + length atoms) (IsFalseAtBits q terms atoms rule) w
  pub earlier : (i : ℕ) (u : List Bool) → 1 ≤ i → i < rule → length u ≡ total q.spots + length atoms → IsFalseAtBits q terms atoms i u → ⊥

-- None: every obligation holds at every valuation. Some: one doesn't, and the first such obligation is given with its
-- least valuation.
abbrev pub IsVerdict : ObligationSet → List Term → Option FailedRule → Type 0
IsVerdict q terms None = MeetsObligationSet q terms
IsVerdict q terms (Some f) =
    (MeetsObligationSet q terms → ⊥) × (atoms : List Atom) × AreAtoms q.rows terms atoms × IsLeastFalseOf q terms atoms f.rule f.valuation.bits

-- the fault of the design's control values; running out of memory is a fault of its own
abbrev pub IsFault : List Row → List Term → CheckFault → Type 0
IsFault rows terms (fault.Ctl f) = IsCtlFault rows terms f × (f ≢ ctl.Memory)
IsFault rows terms fault.Memory = Unit {0}
