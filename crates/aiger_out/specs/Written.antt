-- The lines that the writer writes, and what they mean.
use Rattle.std.specs.Prelude.{◌≡◌, ℕ, zero, suc, ◌+◌, ◌*◌, Bool, not, codes, List, [], ◌∷◌, ◌++◌, length, get_or, slice_get, Some, max, ◌<◌, ◌≤◌}
use Rattle.nets.specs.Nets.{Gates, truth}
use Rattle.y86_base.specs.Numeral.{numeral}
use Rattle.aiger_out.specs.declared.form.AndLine.{AndLine}
use Rattle.aiger_out.specs.declared.form.Header.{Header}
use Rattle.aiger_out.specs.declared.form.AagLine.TheVariants.{Input}
use Rattle.aiger_out.specs.Lines.{ended}
use Rattle.aiger_out.specs.Form.{IsAag, line_at, rest_from}
use Rattle.aiger_out.specs.Values.{Out}

-- a number in decimal
abbrev pub decimal : ℕ → List ℕ
decimal n = numeral 10 1 n

-- a number after a blank
abbrev pub spaced : ℕ → List ℕ
spaced n = 32 ∷ decimal n

abbrev pub header_text : Header → List ℕ
header_text h = codes "aag" ++ (spaced h.most ++ (spaced h.inputs ++ (spaced h.latches ++ (spaced h.outputs ++ spaced h.ands))))

abbrev pub and_text : AndLine → List ℕ
and_text a = decimal a.lhs ++ (spaced a.rhs0 ++ spaced a.rhs1)

-- `iN xN`
abbrev pub input_symbol : ℕ → List ℕ
input_symbol k = 105 ∷ (decimal k ++ (32 ∷ 120 ∷ decimal k))

-- `oN OK`, with the number of a rule
abbrev pub output_symbol : ℕ → ℕ → List ℕ
output_symbol k number = 111 ∷ (decimal k ++ (32 ∷ 79 ∷ decimal number))

-- the given number of lines, by their places
abbrev pub each : (ℕ → List ℕ) → ℕ → List (List ℕ)
each line zero = []
each line (suc n) = each line n ++ line n ∷ []

-- The text of a net with one output for each of some gates, named by a number. It has the form, except for the bound
-- of a million, and at most as many variables as the net has variables and gates. Its inputs are the variables in
-- their order, each output is 1 exactly if its gate is false, and the symbols name all of them.
pub record IsAagOf (net : Gates) (gates numbers : List ℕ) (text : List ℕ) (h : Header) : Type 0 where
  pub form : IsAag (max h.most h.outputs) text h
  pub small : h.most ≤ net.vars + length net.gates
  pub inputs : h.inputs ≡ net.vars
  pub outputs : h.outputs ≡ length gates
  pub in_order : (k : ℕ) → k < h.inputs → line_at h (ended text) (1 + k) ≡ Input (2 * (k + 1))
  pub values : (i : ℕ) → i < length gates → (bits : List Bool) → Out h text i bits (not (truth net (get_or gates i 0) bits))
  pub input_names : (k : ℕ) → k < h.inputs → slice_get (ended text) (rest_from h + k) ≡ Some (input_symbol k)
  pub output_names : (i : ℕ) → i < length gates → slice_get (ended text) (rest_from h + h.inputs + i) ≡ Some (output_symbol i (get_or numbers i 0))
  pub last : length (ended text) ≡ rest_from h + h.inputs + length gates
