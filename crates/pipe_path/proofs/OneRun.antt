-- A design with an order has exactly one run: each cycle has one solution of its equations.
use Rattle.std.proofs.Common.{◌≡◌, ℕ, zero, suc, Bool, true, false, List, ◌++◌, refl, sym, ap, ◌∙◌, subst, replicate, arith}
use Rattle.y86_base.specs.declared.parts.Variant.{Variant}
use Rattle.y86_isa.specs.Machine.{is_aok}
use Rattle.hcl_types.specs.Tables.{IsBound, IsOrderOf}
use Rattle.hcl_types.specs.Terms.{at}
use Rattle.hcl_types.specs.declared.term.Term.{Term}
use Rattle.dp_signals.specs.Equations.{values_along}
use Rattle.dp_signals.specs.PipeEquations.{Solves, given, pipe_rule}
use Rattle.dp_signals.specs.PipeRun.{IsPipeCycle, PipeHistory, PipeRun, after_cycle, start_pipe}
use Rattle.dp_signals.specs.PipeTable.{pipe_rows}
use Rattle.dp_signals.specs.declared.pipe_state.PipeState.{PipeState}
use Rattle.dp_signals.proofs.PipeRules.{pipe_solves, pipe_unique}

pub solution_there : (v : Variant) (p : PipeState) (terms : List Term) (ids : List ℕ) → IsBound pipe_rows terms → IsOrderOf pipe_rows terms ids → (f : ℕ → ℕ) × Solves v terms p f
solution_there v p terms ids bound o = (at (values_along (pipe_rule v terms p) (given p ++ replicate 50 0) ids), pipe_solves v p terms ids bound o)

module _ (v : Variant) (terms : List Term) (ids : List ℕ) (bound : IsBound pipe_rows terms) (o : IsOrderOf pipe_rows terms ids) where
  pub one_solution : (p : PipeState) (f h : ℕ → ℕ) → Solves v terms p f → Solves v terms p h → f ≡ h
  one_solution p f h a b = λ i n. pipe_unique v p terms ids bound o f h a b n i

  -- ---- a cycle

  cycle_there : (p : PipeHistory) (b : Bool) → is_aok p.end ≡ b → (q : PipeHistory) × IsPipeCycle v terms p q
  cycle_there p true e =
      let f = solution_there v p.state terms ids bound o in
      (after_cycle p f.0, record { ended = λ over. absurd (grind (arith, over, e)); goes = λ going. (f.0, f.1, refl) })
  cycle_there p false e = (p, record { ended = λ over. refl; goes = λ going. absurd (grind (arith, e, going)) })

  cycle_alone : (p q r : PipeHistory) → IsPipeCycle v terms p q → IsPipeCycle v terms p r → (b : Bool) → is_aok p.end ≡ b → q ≡ r
  cycle_alone p q r h k true e =
      let f = h.goes e in
      let g = k.goes e in
      f.2 ∙ ap (after_cycle p) (one_solution p.state f.0 g.0 f.1 g.1) ∙ sym g.2
  cycle_alone p q r h k false e = h.ended e ∙ sym (k.ended e)

  -- ---- the run

  pub run_there : (image : List ℕ) (k : ℕ) → (p : PipeHistory) × PipeRun v terms image k p
  run_there image zero = (start_pipe image, refl)
  run_there image (suc k) =
      let before = run_there image k in
      let c = cycle_there before.0 (is_aok before.0.end) refl in
      (c.0, (before.0, before.1, c.1))

  pub run_alone : (image : List ℕ) (k : ℕ) (p q : PipeHistory) → PipeRun v terms image k p → PipeRun v terms image k q → p ≡ q
  run_alone image zero p q h k = h ∙ sym k
  run_alone image (suc n) p q h k =
      let before = run_alone image n h.0 k.0 h.1 k.1 in
      let moved : IsPipeCycle v terms h.0 q = subst (λ m. IsPipeCycle v terms m q) (sym before) k.2 in
      cycle_alone h.0 p q h.2 moved (is_aok h.0.end) refl
