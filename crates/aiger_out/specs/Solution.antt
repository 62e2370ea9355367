-- The values of variables, line after line: what solves the equations of a text.
use Rattle.std.specs.Prelude.{◌≡◌, ℕ, zero, suc, ◌+◌, ◌-◌, ◌≤◌, ◌<◌, Bool, true, false, ◌&&◌, if◌then◌else◌, List, length, get_or}
use Rattle.nets.specs.Nets.{Gates, IsGate, truth}
use Rattle.aiger_out.specs.declared.form.Header.{Header}
use Rattle.aiger_out.specs.declared.form.AagLine.{AagLine}
use Rattle.aiger_out.specs.declared.form.AagLine.TheVariants.{Input, Output, And, Other}
use Rattle.aiger_out.specs.Form.{defines, may_be_defined, outputs_from, rest_from}
use Rattle.aiger_out.specs.Values.{literal_value, output_literal}

-- the value of the variable that a line defines
abbrev pub line_value : List Bool → (ℕ → Bool) → ℕ → AagLine → Bool
line_value bits env j (Input x) = get_or bits (j - 1) false
line_value bits env j (And a) = literal_value env a.rhs0 && literal_value env a.rhs1
line_value bits env j (Output x) = false
line_value bits env j Other = false

abbrev pub with_line : Header → List Bool → (ℕ → Bool) → ℕ → AagLine → ℕ → Bool
with_line h bits env j line v = if defines h line v then line_value bits env j line else env v

-- the values after the given number of lines
unfoldable pub solution : Header → (ℕ → AagLine) → List Bool → ℕ → ℕ → Bool
solution h at bits zero v = false
solution h at bits (suc j) v = with_line h bits (solution h at bits j) j (at j) v

-- the values of the gates for variables, and of the gate for those that have none
abbrev pub gate_values : Gates → List ℕ → ℕ → List Bool → ℕ → Bool
gate_values net gates none bits v = truth net (get_or gates v none) bits

-- a line can be built: its literal may define a variable, and an input is one of the net's variables
abbrev pub MayBuild : Header → ℕ → ℕ → AagLine → Type 0
MayBuild h vars j (Input x) = (may_be_defined h x ≡ true) × (1 ≤ j) × (j ≤ vars)
MayBuild h vars j (And a) = may_be_defined h a.lhs ≡ true
MayBuild h vars j (Output x) = Unit {0}
MayBuild h vars j Other = Unit {0}

-- each variable has a gate
pub record HasGates (h : Header) (net : Gates) (gates : List ℕ) (none : ℕ) : Type 0 where
  pub size : length gates ≡ h.most + 1
  pub within : (v : ℕ) → get_or gates v none < length net.gates

-- a line is built onto gates
pub record IsBuilt (h : Header) (old : Gates) (before : List ℕ) (none j : ℕ) (line : AagLine) (new : Gates) (after : List ℕ) : Type 0 where
  pub has : HasGates h new after none
  pub values : (bits : List Bool) (v : ℕ) → gate_values new after none bits v ≡ with_line h bits (gate_values old before none bits) j line v

-- `count` lines are built
pub record AreBuilt (h : Header) (at : ℕ → AagLine) (count : ℕ) (net : Gates) (gates : List ℕ) (none : ℕ) : Type 0 where
  pub has : HasGates h net gates none
  pub values : (bits : List Bool) (v : ℕ) → gate_values net gates none bits v ≡ solution h at bits count v

-- `count` outputs have gates
pub record AreOutputs (h : Header) (at : ℕ → AagLine) (values : List Bool → ℕ → Bool) (count : ℕ) (net : Gates) (outs : List ℕ) : Type 0 where
  pub size : length outs ≡ count
  pub gates : (i : ℕ) → i < count → IsGate net (get_or outs i 0) (λ bits. literal_value (values bits) (output_literal (at (outputs_from h + i))))

-- an input's line is at a place of inputs
abbrev pub InputsFollow : Header → (ℕ → AagLine) → Type 0
InputsFollow h at = (j x : ℕ) → at j ≡ Input x → (1 ≤ j) × (j ≤ h.inputs)

-- a net over the inputs, with a gate for each output
pub record IsNetOf (h : Header) (at : ℕ → AagLine) (net : Gates) (outs : List ℕ) : Type 0 where
  pub vars : net.vars ≡ h.inputs
  pub outputs : AreOutputs h at (λ bits. solution h at bits (rest_from h)) h.outputs net outs
