-- A net as an and-inverter graph: variable 0 is the constant, then come the net's variables, then one for each AND.
use Rattle.std.specs.Prelude.{◌≡◌, ℕ, ◌+◌, ◌*◌, ◌/◌, ◌<◌, ◌≤◌, Bool, true, false, not, ◌&&◌, List, [], ◌∷◌, ◌++◌, length, get_or}
use Rattle.nets.specs.Nets.{values}
use Rattle.nets.specs.declared.net.Gate.{Gate}
use Rattle.nets.specs.declared.net.Gate.TheVariants.{Const, Var, Not, And}
use Rattle.aiger_out.specs.declared.graph.And as code
use Rattle.aiger_out.specs.Values.{literal_value}

abbrev pub doubled : ℕ → ℕ
doubled n = 2 * n

-- the AND at a place
abbrev pub and_at : List code.And → ℕ → code.And
and_at ands k = get_or ands k (record { first = 0; second = 0 })

-- values of variables that solve the equations of a graph, at these bits of the net's variables
pub record IsGraphSolution (vars : ℕ) (bits : List Bool) (ands : List code.And) (env : ℕ → Bool) : Type 0 where
  pub constant : env 0 ≡ false
  pub inputs : (k : ℕ) → k < vars → env (k + 1) ≡ get_or bits k false
  pub joins : (k : ℕ) → k < length ands → env (vars + (k + 1)) ≡ (literal_value env (and_at ands k).first && literal_value env (and_at ands k).second)

-- the literal of a gate, from those of the earlier ones; a conjunction has an AND of its own, other gates have none
abbrev pub IsLiteralOf : ℕ → Gate → List ℕ → List code.And → List code.And → ℕ → Type 0
IsLiteralOf vars (Const true) literals old new x = (x ≡ 1) × (new ≡ old)
IsLiteralOf vars (Const false) literals old new x = (x ≡ 0) × (new ≡ old)
IsLiteralOf vars (Var v) literals old new x = (x ≡ 2 * (v + 1)) × (new ≡ old)
IsLiteralOf vars (Not a) literals old new x =
    ((env : ℕ → Bool) → literal_value env x ≡ not (literal_value env (get_or literals a 0))) × (x / 2 ≡ get_or literals a 0 / 2) × (new ≡ old)
IsLiteralOf vars (And a b) literals old new x =
    (x ≡ 2 * (vars + (length old + 1))) × (new ≡ old ++ record { first = get_or literals a 0; second = get_or literals b 0 } ∷ [])

-- each gate has a literal with its truth, over variables that come before it, and there are no more ANDs than gates
pub record IsGraphOf (vars : ℕ) (gates : List Gate) (literals : List ℕ) (ands : List code.And) : Type 0 where
  pub size : length literals ≡ length gates
  pub few : length ands ≤ length gates
  pub within : (g : ℕ) → g < length literals → get_or literals g 0 / 2 ≤ vars + length ands
  pub first : (k : ℕ) → k < length ands → (and_at ands k).first / 2 ≤ vars + k
  pub second : (k : ℕ) → k < length ands → (and_at ands k).second / 2 ≤ vars + k
  pub values_are : (bits : List Bool) (env : ℕ → Bool) → IsGraphSolution vars bits ands env
      → (g : ℕ) → g < length literals → literal_value env (get_or literals g 0) ≡ get_or (values bits [] gates) g false
