-- The values of the outputs of an AIGER text, with its lines as equations.
use Rattle.std.specs.Prelude.{◌≡◌, ℕ, ◌+◌, ◌-◌, ◌/◌, ◌%◌, ◌<◌, Bool, true, false, not, ◌&&◌, ◌==◌, if◌then◌else◌, List, length, get_or}
use Rattle.nets.specs.Nets.{Gates, truth}
use Rattle.aiger_out.specs.declared.form.Header.{Header}
use Rattle.aiger_out.specs.declared.form.AagLine.{AagLine}
use Rattle.aiger_out.specs.declared.form.AagLine.TheVariants.{Input, Output, And, Other}
use Rattle.aiger_out.specs.Lines.{ended}
use Rattle.aiger_out.specs.Form.{line_at, outputs_from, rest_from, is_defined, IsAag}

-- the value of a literal if variables have these values
abbrev pub literal_value : (ℕ → Bool) → ℕ → Bool
literal_value env x = if x % 2 == 1 then not (env (x / 2)) else env (x / 2)

-- a line's equation on the values of variables, at these bits of the inputs in the order of their lines
abbrev pub IsMet : List Bool → (ℕ → Bool) → ℕ → AagLine → Type 0
IsMet bits env j (Input x) = env (x / 2) ≡ get_or bits (j - 1) false
IsMet bits env j (And a) = env (a.lhs / 2) ≡ (literal_value env a.rhs0 && literal_value env a.rhs1)
IsMet bits env j (Output x) = Unit {0}
IsMet bits env j Other = Unit {0}

-- the equations of all lines hold
pub record AreValues (at : ℕ → AagLine) (bits : List Bool) (env : ℕ → Bool) : Type 0 where
  pub constant : env 0 ≡ false
  pub met : (j : ℕ) → IsMet bits env j (at j)

-- they have one solution: each defined variable has one value
pub record HaveOneSolution (h : Header) (at : ℕ → AagLine) (bits : List Bool) : Type 0 where
  pub some : (env : ℕ → Bool) × AreValues at bits env
  pub one : (env other : ℕ → Bool) → AreValues at bits env → AreValues at bits other
      → (v : ℕ) → is_defined h at (rest_from h) v ≡ true → env v ≡ other v

-- the literal of an output
abbrev pub output_literal : AagLine → ℕ
output_literal (Output x) = x
output_literal (Input x) = 0
output_literal (And a) = 0
output_literal Other = 0

-- Out(text, i, bits): an output has this value at these bits
pub record Out (h : Header) (text : List ℕ) (i : ℕ) (bits : List Bool) (value : Bool) : Type 0 where
  pub is : (env : ℕ → Bool) → AreValues (line_at h (ended text)) bits env
      → literal_value env (output_literal (line_at h (ended text) (outputs_from h + i))) ≡ value

-- a net has a gate for each output of a text
pub record IsNetOfText (limit : ℕ) (text : List ℕ) (net : Gates) (outs : List ℕ) (h : Header) : Type 0 where
  pub form : IsAag limit text h
  pub inputs : net.vars ≡ h.inputs
  pub outputs : length outs ≡ h.outputs
  pub within : (i : ℕ) → i < length outs → get_or outs i 0 < length net.gates
  pub truths : (i : ℕ) → i < h.outputs → (bits : List Bool) → Out h text i bits (truth net (get_or outs i 0) bits)
