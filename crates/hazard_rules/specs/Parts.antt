-- The gates of a file's formulas: those that decide its settings, and its rules.
use Rattle.std.specs.Prelude.{ℕ, ◌≡◌, ◌+◌, ◌<◌, Bool, true, false, not, List, length, get_or, slice_get, Some}
use Rattle.y86_base.specs.declared.parts.Variant.{Variant}
use Rattle.nets.specs.Nets.{Gates, truth}
use Rattle.hcl_types.specs.declared.term.Term.{Term}
use Rattle.dp_signals.specs.PipeTable.{pipe_rows}
use Rattle.ctl_atoms.specs.declared.leaf.Leaf.{Leaf}
use Rattle.ctl_atoms.specs.declared.leaf.Atom.{Atom}
use Rattle.ctl_atoms.specs.Leaves.{Assignment, AtomsAre}
use Rattle.ctl_atoms.specs.Atoms.{AreAtoms}
use Rattle.ctl_picks.specs.declared.controls.Entry.{Entry}
use Rattle.pipe_fields.specs.Layout.{bit_count, fields_of}
use Rattle.pipe_motion.specs.declared.settings.Settings.{Settings}
use Rattle.ctl_rules.specs.declared.rules.Rule.{Rule}
use Rattle.pipe_gates.specs.GateTruths.{IsTruthGate}
use Rattle.pipe_obligations.specs.Rules.{obligation, rule_count}
use Rattle.pipe_obligations.specs.FileSettings.{PipeControls, ValuationTruth, picks_target, alu_passes_target, witnesses_lf, witnesses_je, witnesses_rm}

-- the gate has the truth f of the valuation that the bits spell, for the truths of atoms that they encode, and its
-- control values
pub record IsDesignGate (terms : List Term) (atoms : List Atom) (net : Gates) (g : ℕ) (f : ValuationTruth) : Type 0 where
  pub within : g < length net.gates
  pub is : (w : List Bool) (α : Assignment) (cv : ℕ → Leaf) → AtomsAre atoms bit_count w α → PipeControls terms (fields_of w) α cv
      → truth net g w ≡ f (fields_of w) α cv

-- the gates that decide pt, pb and tv: a setting holds if its gate is true at every valuation
pub record AreEarlyGates (v : Variant) (terms : List Term) (net : Gates) (pt pb : List ℕ) (tv : ℕ) : Type 0 where
  pub atoms : List Atom
  pub are : AreAtoms pipe_rows terms atoms
  pub vars : net.vars ≡ bit_count + length atoms
  pub forward : (i : ℕ) → i < 7 → IsDesignGate terms atoms net (get_or pt i 0) (picks_target v atoms i false)
  pub backward : (i : ℕ) → i < 7 → IsDesignGate terms atoms net (get_or pb i 0) (picks_target v atoms i true)
  pub target : (s : Settings) → IsDesignGate terms atoms net tv (alu_passes_target v s)

-- the gates that decide lf, je and rm, given pt, pb and tv: a setting holds if its gate is false at some valuation
pub record AreLateGates (v : Variant) (terms : List Term) (pt pb : List Bool) (tv : Bool) (net : Gates) (lf je rm : ℕ) : Type 0 where
  pub atoms : List Atom
  pub are : AreAtoms pipe_rows terms atoms
  pub vars : net.vars ≡ bit_count + length atoms
  pub late : (s : Settings) → s.pt ≡ pt → s.pb ≡ pb → s.tv ≡ tv → IsDesignGate terms atoms net lf (λ c α cv. not (witnesses_lf v s atoms c α cv))
  pub jump : (s : Settings) → s.pt ≡ pt → s.pb ≡ pb → s.tv ≡ tv → IsDesignGate terms atoms net je (λ c α cv. not (witnesses_je v s atoms c α cv))
  pub ret : (s : Settings) → s.pt ≡ pt → s.pb ≡ pb → s.tv ≡ tv → IsDesignGate terms atoms net rm (λ c α cv. not (witnesses_rm v s atoms c α cv))

-- the 27 obligations at settings, in their order
pub record AreRules (v : Variant) (terms : List Term) (s : Settings) (net : Gates) (list : List Rule) : Type 0 where
  pub atoms : List Atom
  pub are : AreAtoms pipe_rows terms atoms
  pub vars : net.vars ≡ bit_count + length atoms
  pub count : length list ≡ rule_count
  pub numbers : (k : ℕ) (x : Rule) → slice_get list k ≡ Some x → x.number ≡ k + 1
  pub gates : (k : ℕ) (x : Rule) → slice_get list k ≡ Some x → IsDesignGate terms atoms net x.gate (obligation v s atoms (k + 1))

-- rule k + 1 of a list is its obligation
pub record IsRuleGate (v : Variant) (s : Settings) (net : Gates) (ctl : List Entry) (atoms : List Atom) (k : ℕ) (x : Rule) : Type 0 where
  pub number : x.number ≡ k + 1
  pub told : IsTruthGate net ctl atoms x.gate (obligation v s atoms (k + 1))

abbrev pub AreRuleGates : Variant → Settings → Gates → List Entry → List Atom → List Rule → Type 0
AreRuleGates v s net ctl atoms list = (k : ℕ) (x : Rule) → slice_get list k ≡ Some x → IsRuleGate v s net ctl atoms k x

-- the first n gates of a list decide whether jumps with the ifuns below n, which go back or not, are predicted as taken
abbrev pub ArePredictionGates : Variant → Gates → List Entry → List Atom → Bool → List ℕ → ℕ → Type 0
ArePredictionGates v net ctl atoms back gates n = (i : ℕ) → i < n → IsTruthGate net ctl atoms (get_or gates i 0) (picks_target v atoms i back)
