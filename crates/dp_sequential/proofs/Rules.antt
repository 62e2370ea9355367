-- The values of a sequential datapath that are computed along an order solve the equations of the cycle.
use Rattle.std.proofs.Common.{◌≡◌, ℕ, ◌+◌, ◌-◌, List, ◌++◌, length, replicate, sym, ap, ◌∙◌, subst, arith, length-append}
use Rattle.std.proofs.lemmas.List.{append_assoc, length-replicate}
use Rattle.std.specs.List.{AllByRecursion}
use Rattle.y86_base.specs.declared.parts.Variant.{Variant}
use Rattle.hcl_types.specs.Tables.{IsBound, IsOrderOf}
use Rattle.hcl_types.specs.Signals.{Starts}
use Rattle.hcl_types.specs.Terms.{at}
use Rattle.hcl_types.specs.declared.term.Term.{Term}
use Rattle.dp_signals.specs.Equations.{values_along, IsComputed, IsOver}
use Rattle.dp_signals.specs.PipeEquations.{constants}
use Rattle.dp_signals.specs.Tables.{constant_count}
use Rattle.dp_signals.proofs.Assumed.{over_along, put_given, put_words}
use Rattle.dp_signals.proofs.Bits.{constants_count}
use Rattle.dp_signals.proofs.Rules.{along_solves, one_solution, order_computes}
use Rattle.dp_sequential.specs.Laws.{IsSequential}
use Rattle.dp_sequential.specs.Path.{AreGivenIn, SequentialPath, Solves, rule_in}
use Rattle.dp_signals.specs.declared.sequential_rows.SignalRows.{SignalRows}

module _ {S : Type 0} (rows : SignalRows) (path : SequentialPath S) (laws : IsSequential rows path) where
  -- ---- the given values, in their rows

  pub state_put : (s : S) (values : List ℕ) → Starts constants values → length values ≡ path.count → AreGivenIn path s (put_words constant_count (path.words s) values)
  state_put s values h size =
      let sizes : length constants + length (path.words s) ≡ path.hardware = sym (length-append constants (path.words s)) ∙ (ap length (sym (laws.given s)) ∙ laws.given_size s) in
      subst (λ g. IsOver g (path.count - path.hardware) (put_words constant_count (path.words s) values)) (sym (laws.given s))
      (subst (λ n. IsOver (constants ++ path.words s) (path.count - path.hardware) (put_words n (path.words s) values)) constants_count
      (put_given constants (path.words s) values (path.count - path.hardware) h (omega (arith, size, sizes, laws.front))))

  pub given_constants : (s : S) (values : List ℕ) → AreGivenIn path s values → Starts constants values
  given_constants s values h = (path.words s ++ h.0, h.2 ∙ (ap (λ g. g ++ h.0) (laws.given s) ∙ append_assoc constants (path.words s) h.0))

  pub given_size : (s : S) (values : List ℕ) → AreGivenIn path s values → length values ≡ path.count
  given_size s values h = rw h.2 (length-append (path.given s) h.0 ∙ omega (arith, laws.given_size s, h.1, laws.front))

  -- ---- computing along an order

  module _ (v : Variant) (s : S) (terms : List Term) (ids : List ℕ) (bound : IsBound path.table terms) (o : IsOrderOf path.table terms ids) where
    pub computes : (entries : ℕ) → entries ≡ path.count → AllByRecursion (λ id. IsComputed (length (path.given s)) path.first terms entries id) ids
    computes entries e =
        subst (λ n. AllByRecursion (λ id. IsComputed (length (path.given s)) path.first terms n id) ids) (laws.size ∙ sym e)
        (order_computes path.table laws.givens laws.units laws.defines path.hardware path.first laws.layout (path.given s) (path.block v s) terms (laws.given_size s) (laws.reads v s) bound ids o)

    -- the given values stay
    pub keeps : (values : List ℕ) → AreGivenIn path s values → AreGivenIn path s (values_along (rule_in path v terms s) values ids)
    keeps values h =
        over_along (path.given s) path.first terms (path.count - path.hardware) (length values) (rule_in path v terms s) ids values
        (computes (length values) (given_size s values h)) h

    -- whatever comes after the given values
    pub solves_over : (rest : List ℕ) → length rest ≡ path.count - path.hardware → Solves path v terms s (at (values_along (rule_in path v terms s) (path.given s ++ rest) ids))
    solves_over rest size =
        along_solves path.table laws.givens laws.units laws.defines path.hardware path.first laws.layout (path.given s) (path.block v s) terms (laws.given_size s) (laws.reads v s) bound rest ids
        (omega (arith, size, laws.given_size s, laws.size, laws.front)) o

    pub solution_there : (f : ℕ → ℕ) × Solves path v terms s f
    solution_there =
        let rest = replicate (path.count - path.hardware) 0 in
        (at (values_along (rule_in path v terms s) (path.given s ++ rest) ids), solves_over rest (length-replicate (path.count - path.hardware) 0))

    pub solution_alone : (f h : ℕ → ℕ) → Solves path v terms s f → Solves path v terms s h → (n : ℕ) → f n ≡ h n
    solution_alone = one_solution path.table laws.givens laws.units laws.defines path.hardware path.first laws.layout (path.given s) (path.block v s) terms (laws.given_size s) (laws.reads v s) bound ids o
