-- The lines of the writer by their places.
use Rattle.std.specs.Prelude.{◌≡◌, ℕ, ◌+◌, ◌*◌, ◌/◌, ◌^◌, ◌<◌, Bool, not, List, length, get_or, map, ◌++◌, ◌∷◌}
use Rattle.aiger_out.specs.declared.form.AndLine.{AndLine}
use Rattle.aiger_out.specs.declared.form.Header.{Header}
use Rattle.aiger_out.specs.declared.graph.And as code
use Rattle.ctl_rules.specs.declared.rules.Rule.{Rule}
use Rattle.aiger_out.specs.Values.{literal_value}
use Rattle.aiger_out.specs.Graphs.{and_at}
use Rattle.aiger_out.specs.Written.{and_text, decimal, each, header_text, input_symbol, output_symbol}

-- the AND at a place
abbrev pub and_line_of : ℕ → List code.And → ℕ → AndLine
and_line_of inputs ands k = record { lhs = 2 * (inputs + (k + 1)); rhs0 = (and_at ands k).first; rhs1 = (and_at ands k).second }

abbrev pub output_symbol_of : List ℕ → ℕ → List ℕ
output_symbol_of numbers k = output_symbol k (get_or numbers k 0)

-- the gates and the numbers of rules
abbrev pub gate_of : Rule → ℕ
gate_of rule = rule.gate

abbrev pub number_of : Rule → ℕ
number_of rule = rule.number

abbrev pub gates_of : List Rule → List ℕ
gates_of rules = map gate_of rules

abbrev pub numbers_of : List Rule → List ℕ
numbers_of rules = map number_of rules

-- the header for a net with these numbers of variables, outputs and ANDs; its literals fit in words
pub record IsHeaderOf (h : Header) (vars outs_count ands_count : ℕ) : Type 0 where
  pub most : h.most ≡ vars + ands_count
  pub inputs : h.inputs ≡ vars
  pub latches : h.latches ≡ 0
  pub outputs : h.outputs ≡ outs_count
  pub ands : h.ands ≡ ands_count
  pub fits : 2 * h.most + 1 < 2 ^ 64
  pub few : h.outputs < 2 ^ 64

-- a literal is the negation of a gate's
pub record IsNegated (literals : List ℕ) (gate x : ℕ) : Type 0 where
  pub variable : x / 2 ≡ get_or literals gate 0 / 2
  pub negated : (env : ℕ → Bool) → literal_value env x ≡ not (literal_value env (get_or literals gate 0))

-- `count` literals are the negations of those of gates
pub record AreNegated (count : ℕ) (gates literals outs : List ℕ) : Type 0 where
  pub size : length outs ≡ count
  pub all : (k : ℕ) → k < count → IsNegated literals (get_or gates k 0) (get_or outs k 0)

-- all lines
abbrev pub written_lines : Header → List ℕ → List code.And → List ℕ → List (List ℕ)
written_lines h outs ands numbers =
    header_text h ∷ (each (λ k. decimal (2 * (k + 1))) h.inputs ++ (each (λ k. decimal (get_or outs k 0)) h.outputs
    ++ (each (λ k. and_text (and_line_of h.inputs ands k)) h.ands ++ (each input_symbol h.inputs ++ each (output_symbol_of numbers) h.outputs))))
