-- The least of the rows with a mark, among those read so far.
use Rattle.std.proofs.Common.{◌≡◌, ◌≢◌, ◌+◌, ◌<◌, ◌≤◌, ◌⊎◌, inl, inr, ℕ, min, List, length, slice_index, sym, ap, subst, ◌∙◌, arith}
use borrow.Author.Count.{below_more}
use Rattle.hcl_types.specs.Lists.{IsIn}
use Rattle.hcl_order.proofs.Members.{in_at, each_at, le_or}

pub record IsLeast (needs marks : List ℕ) (mark index least : ℕ) : Type 0 where
  pub within : least ≤ length marks
  pub has : (least ≡ length marks) ⊎ IsIn least needs
  pub marked : least < length marks → slice_index marks least ≡ mark
  pub so_far : (k : ℕ) → k < index → slice_index marks (slice_index needs k) ≡ mark → least ≤ slice_index needs k

pub least_miss : (needs marks : List ℕ) (mark index least : ℕ) → IsLeast needs marks mark index least → slice_index marks (slice_index needs index) ≢ mark
    → IsLeast needs marks mark (index + 1) least
least_miss needs marks mark index least h d = record {
  within = h.within;
  has = h.has;
  marked = h.marked;
  so_far = below_more (λ k. slice_index marks (slice_index needs k) ≡ mark → least ≤ slice_index needs k) index h.so_far (λ e. absurd (d e));
}

pub least_hit : (needs marks : List ℕ) (mark index least next : ℕ) → IsLeast needs marks mark index least → index < length needs → slice_index needs index < length marks
    → slice_index marks (slice_index needs index) ≡ mark → next ≡ min least (slice_index needs index) → IsLeast needs marks mark (index + 1) next
least_hit needs marks mark index least next h i w e n = elim (le_or least (slice_index needs index)) [
  | inl l ↦ (let s : next ≡ least = omega arith in record {
    within = omega (arith, h.within);
    has = subst (λ x. (x ≡ length marks) ⊎ IsIn x needs) (sym s) h.has;
    marked = subst (λ x. x < length marks → slice_index marks x ≡ mark) (sym s) h.marked;
    so_far = below_more (λ k. slice_index marks (slice_index needs k) ≡ mark → next ≤ slice_index needs k) index (λ k b f. omega (arith, h.so_far k b f)) (λ f. omega arith);
  })
  | inr l ↦ (let s : next ≡ slice_index needs index = omega arith in record {
    within = omega arith;
    has = inr (subst (λ x. IsIn x needs) (sym s) (in_at needs index i));
    marked = λ b. ap (slice_index marks) s ∙ e;
    so_far = below_more (λ k. slice_index marks (slice_index needs k) ≡ mark → next ≤ slice_index needs k) index (λ k b f. omega (arith, h.so_far k b f)) (λ f. omega arith);
  })
]

pub least_of_all : (needs marks : List ℕ) (mark index least : ℕ) → IsLeast needs marks mark index least → length needs ≤ index
    → (n : ℕ) → IsIn n needs → slice_index marks n ≡ mark → least ≤ n
least_of_all needs marks mark index least h b = each_at (λ n. slice_index marks n ≡ mark → least ≤ n) needs (λ k i. h.so_far k (omega arith))
