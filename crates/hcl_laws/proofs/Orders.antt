-- If no row depends on itself, the rows have an order: the next row is one that isn't done and needs only rows that are
-- done.
use Rattle.std.proofs.Common.{◌≡◌, ◌⊎◌, ℕ, zero, suc, ◌+◌, ◌<◌, ◌≤◌, Bool, true, false, List, [], ◌∷◌, ◌++◌, length, set, refl, sym, ap, ◌∙◌, subst, inl, inr, arith, add-one}
use Rattle.std.proofs.lemmas.List.{get_or_past}
use Rattle.hcl_types.specs.Equations.{IsTopologicalOrder, is_known, needs_of}
use Rattle.hcl_types.specs.Lists.{IsIn}
use Rattle.hcl_types.specs.Tables.{IsBound, IsOrderOf, IsSound, known, needs}
use Rattle.hcl_types.specs.declared.table.Row.{Row}
use Rattle.hcl_types.specs.declared.term.Term.{Term}
use Rattle.hcl_order.specs.Arranging.{IsArranged, IsPassed, undone}
use Rattle.hcl_order.specs.Dependence.{Depends}
use Rattle.hcl_order.specs.Layers.{IsWithin}
use Rattle.hcl_order.proofs.Arranging.{arranged_begin, arranged_more, arranges_stuck, arranges_whole, passed_hit, passed_miss, passed_none}
use Rattle.hcl_order.proofs.Members.{le_or}
use Rattle.hcl_order.proofs.Sound.{known-length, needs-length, within}

-- all of some rows are done, or one isn't
abbrev AllDone : List Bool → List ℕ → Type 0
AllDone done rows = ((m : ℕ) → IsIn m rows → is_known done m ≡ true) ⊎ ((m : ℕ) × IsIn m rows × (is_known done m ≡ false))

all_done : (done : List Bool) (rows : List ℕ) → AllDone done rows
all_done done [] = inl (λ m i. absurd i)
all_done done (n ∷ rows) = by (is_known done n) refl (all_done done rows)
  where
    by : (b : Bool) → is_known done n ≡ b → AllDone done rows → AllDone done (n ∷ rows)
    by false e rest = inr (n, inl refl, e)
    by true e (inl all) = inl (λ m i. elim i [ inl s ↦ subst (λ x. is_known done x ≡ true) (sym s) e | inr j ↦ all m j ])
    by true e (inr some) = inr (some.0, inr some.1, some.2)

-- a row that comes next
record Next (rows : List (List ℕ)) (done : List Bool) : Type 0 where
  row : ℕ
  inside : row < length rows
  waits : is_known done row ≡ false
  ready : (m : ℕ) → IsIn m (needs_of rows row) → is_known done m ≡ true
  fewer : undone (set done row true) < undone done

module _ (rows : List (List ℕ)) (start : List Bool) (inside : IsWithin rows) (acyclic : (n : ℕ) → Depends (needs_of rows) n n → ⊥) where
  -- a next row among the first n, or none of them is one
  next : (done : List Bool) → length done ≡ length rows → (n : ℕ) → n ≤ length rows → Next rows done ⊎ IsPassed (needs_of rows) n done done false
  next done size zero h = inr (passed_none (needs_of rows) done)
  next done size (suc n) h = by (next done size n (omega (arith, h))) (is_known done n) refl (all_done done (needs_of rows n))
    where
      by : Next rows done ⊎ IsPassed (needs_of rows) n done done false → (b : Bool) → is_known done n ≡ b → AllDone done (needs_of rows n) →
          Next rows done ⊎ IsPassed (needs_of rows) (suc n) done done false
      by (inl found) b e all = inl found
      by (inr p) true e all = inr (subst (λ k. IsPassed (needs_of rows) k done done false) (add-one n) (passed_miss (needs_of rows) n done done false p (inl e)))
      by (inr p) false e (inr some) = inr (subst (λ k. IsPassed (needs_of rows) k done done false) (add-one n) (passed_miss (needs_of rows) n done done false p (inr some)))
      by (inr p) false e (inl all) =
          let hit = passed_hit (needs_of rows) n done done (set done n true) false p (omega (arith, size, h)) e refl in
          inl (record { row = n; inside = omega (arith, h); waits = e; ready = all; fewer = hit.fewer refl })

  -- if there is no next row, all are done
  all_known : (done : List Bool) → length done ≡ length rows → IsPassed (needs_of rows) (length rows) done done false → (n : ℕ) → is_known done n ≡ true
  all_known done size p n = by (is_known done n) refl (le_or (length rows) n)
    where
      by : (b : Bool) → is_known done n ≡ b → (length rows ≤ n) ⊎ (n < length rows) → is_known done n ≡ true
      by true e o = e
      by false e (inl past) = get_or_past done n true (omega (arith, size, past))
      by false e (inr lt) = let stuck = arranges_stuck rows done done inside p n lt e in absurd (acyclic stuck.0 stuck.1)

  -- an order is reached from any point at which at most fuel rows aren't done
  abbrev Reaches : ℕ → Type 0
  Reaches fuel = (done : List Bool) (ids : List ℕ) → IsArranged rows start done ids → undone done ≤ fuel → (order : List ℕ) × IsTopologicalOrder rows start order

  none_left : Reaches 0
  none_left done ids a few = by (next done a.size (length rows) (omega arith))
    where
      by : Next rows done ⊎ IsPassed (needs_of rows) (length rows) done done false → (order : List ℕ) × IsTopologicalOrder rows start order
      by (inr p) = (ids, arranges_whole rows start done ids a (all_known done a.size p))
      by (inl n) = absurd (omega (arith, few, n.fewer))

  one_more : (fuel : ℕ) → Reaches fuel → Reaches (suc fuel)
  one_more fuel rest done ids a few = by (next done a.size (length rows) (omega arith))
    where
      by : Next rows done ⊎ IsPassed (needs_of rows) (length rows) done done false → (order : List ℕ) × IsTopologicalOrder rows start order
      by (inr p) = (ids, arranges_whole rows start done ids a (all_known done a.size p))
      by (inl n) =
          rest (set done n.row true) (ids ++ n.row ∷ [])
          (arranged_more rows start done (set done n.row true) ids (ids ++ n.row ∷ []) n.row a n.inside n.waits n.ready refl refl)
          (omega (arith, few, n.fewer))

  reaches : (fuel : ℕ) → Reaches fuel
  reaches zero = none_left
  reaches (suc fuel) = one_more fuel (reaches fuel)

pub order_there : (rows : List Row) (terms : List Term) → IsSound rows → IsBound rows terms → ((n : ℕ) → Depends (needs_of (needs rows terms)) n n → ⊥) →
    (ids : List ℕ) × IsOrderOf rows terms ids
order_there rows terms sound bound acyclic =
    let size : length (known rows) ≡ length (needs rows terms) = known-length rows ∙ sym (needs-length rows terms) in
    reaches (needs rows terms) (known rows) (within rows terms sound bound) acyclic (undone (known rows)) (known rows) []
    (arranged_begin (needs rows terms) (known rows) [] size refl) (omega arith)
