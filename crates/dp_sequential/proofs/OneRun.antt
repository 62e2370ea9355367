-- A design with an order has exactly one run: each cycle has one solution of its equations.
use Rattle.std.proofs.Common.{◌≡◌, ℕ, zero, suc, Bool, true, false, List, [], ◌++◌, Option, Some, None, refl, sym, ap, ◌∙◌, subst, arith}
use Rattle.std.specs.Option.{option_to_list}
use Rattle.y86_base.specs.declared.parts.Variant.{Variant}
use Rattle.y86_isa.specs.Machine.{is_aok}
use Rattle.y86_isa.specs.declared.machine.Rec.{Rec}
use Rattle.hcl_types.specs.Tables.{IsBound, IsOrderOf}
use Rattle.hcl_types.specs.declared.term.Term.{Term}
use Rattle.dp_sequential.specs.Laws.{IsSequential}
use Rattle.dp_sequential.specs.Path.{IsCycle, RunFrom, SequentialPath, Solves}
use Rattle.dp_signals.specs.declared.sequential_rows.SignalRows.{SignalRows}
use Rattle.dp_sequential.proofs.Rules.{solution_alone, solution_there}

module _ {S : Type 0} (rows : SignalRows) (path : SequentialPath S) (laws : IsSequential rows path) (v : Variant) (terms : List Term) (ids : List ℕ)
    (bound : IsBound path.table terms) (o : IsOrderOf path.table terms ids) where
  one_solution : (s : S) (f h : ℕ → ℕ) → Solves path v terms s f → Solves path v terms s h → f ≡ h
  one_solution s f h a b = λ i n. solution_alone rows path laws v s terms ids bound o f h a b n i

  -- ---- a cycle

  cycle_there : (s : S) (b : Bool) → is_aok (path.stat s) ≡ b → (r : Option Rec) × (t : S) × IsCycle path v terms s r t
  cycle_there s true e =
      let f = solution_there rows path laws v s terms ids bound o in
      (Some (path.told s f.0), path.next s f.0, record { ended = λ over. absurd (grind (arith, over, e)); goes = λ going. (f.0, f.1, refl, refl) })
  cycle_there s false e = (None, s, record { ended = λ over. (refl, refl); goes = λ going. absurd (grind (arith, e, going)) })

  cycle_alone : (s : S) (r x : Option Rec) (t u : S) → IsCycle path v terms s r t → IsCycle path v terms s x u → (b : Bool) → is_aok (path.stat s) ≡ b → (t ≡ u) × (r ≡ x)
  cycle_alone s r x t u h k true e =
      let f = h.goes e in
      let g = k.goes e in
      let same : f.0 ≡ g.0 = one_solution s f.0 g.0 f.1 g.1 in
      (f.2 ∙ ap (path.next s) same ∙ sym g.2, f.3 ∙ ap (λ y. Some (path.told s y)) same ∙ sym g.3)
  cycle_alone s r x t u h k false e =
      let f = h.ended e in
      let g = k.ended e in
      (f.0 ∙ sym g.0, f.1 ∙ sym g.1)

  -- ---- the run

  pub run_there : (m : S) (k : ℕ) → (t : S) × (records : List Rec) × RunFrom path v terms m k t records
  run_there m zero = (m, [], (refl, refl))
  run_there m (suc k) =
      let q = run_there m k in
      let c = cycle_there q.0 (is_aok (path.stat q.0)) refl in
      (c.1, q.1 ++ option_to_list c.0, (q.0, q.1, c.0, q.2, c.2, refl))

  pub run_alone : (m : S) (k : ℕ) (t u : S) (rs xs : List Rec) → RunFrom path v terms m k t rs → RunFrom path v terms m k u xs → (t ≡ u) × (rs ≡ xs)
  run_alone m zero t u rs xs h k = (h.0 ∙ sym k.0, h.1 ∙ sym k.1)
  run_alone m (suc n) t u rs xs h k =
      let before = run_alone m n h.0 k.0 h.1 k.1 h.3 k.3 in
      let moved : IsCycle path v terms h.0 k.2 u = subst (λ s. IsCycle path v terms s k.2 u) (sym before.0) k.4 in
      let c = cycle_alone h.0 h.2 k.2 t u h.4 moved (is_aok (path.stat h.0)) refl in
      (c.0, h.5 ∙ ap (λ ys. ys ++ option_to_list h.2) before.1 ∙ ap (λ y. k.1 ++ option_to_list y) c.1 ∙ sym k.5)
