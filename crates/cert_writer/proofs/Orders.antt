-- Orders of variables.
use Rattle.std.proofs.Common.{◌≡◌, ⊎_elim, ℕ, ◌+◌, ◌<◌, ◌≤◌, List, length, get_or, sym, ap, ◌∙◌, subst, zero-add, arith}
use Rattle.std.proofs.lemmas.Bool.{cases_lt}
use Rattle.std.specs.List.{range_with_len}
use Rattle.std.proofs.lemmas.List.FromFn.{length-range_with_len, get_or-range_with_len}
use Rattle.cert_writer.specs.Nodes.{IsVariableOrder}

-- so far two lists are inverse to each other
pub record AreInverse (order ranks : List ℕ) (n : ℕ) : Type 0 where
  pub there : (x : ℕ) → x < n → get_or order x 0 < length order
  pub back : (x : ℕ) → x < n → get_or ranks (get_or order x 0) 0 ≡ x
  pub below : (v : ℕ) → v < n → get_or ranks v 0 < length order
  pub forth : (v : ℕ) → v < n → get_or order (get_or ranks v 0) 0 ≡ v

upto : (P : ℕ → Type 0) (n : ℕ) → ((k : ℕ) → k < n → P k) → P n → (k : ℕ) → k < n + 1 → P k
upto P n old new k h = ⊎_elim (old k) (λ more. subst P (let e : n ≡ k = omega (arith, h, more) in e) new) (cases_lt k n)

pub inverse_none : (order ranks : List ℕ) → AreInverse order ranks 0
inverse_none order ranks = record {
  there = λ x h. absurd (omega (arith, h));
  back = λ x h. absurd (omega (arith, h));
  below = λ x h. absurd (omega (arith, h));
  forth = λ x h. absurd (omega (arith, h));
}

pub inverse_more : (order ranks : List ℕ) (i : ℕ) → AreInverse order ranks i → get_or order i 0 < length order → get_or ranks i 0 < length order → get_or ranks (get_or order i 0) 0 ≡ i → get_or order (get_or ranks i 0) 0 ≡ i →
    AreInverse order ranks (i + 1)
inverse_more order ranks i a v x e f = record {
  there = upto (λ k. get_or order k 0 < length order) i a.there v;
  back = upto (λ k. get_or ranks (get_or order k 0) 0 ≡ k) i a.back e;
  below = upto (λ k. get_or ranks k 0 < length order) i a.below x;
  forth = upto (λ k. get_or order (get_or ranks k 0) 0 ≡ k) i a.forth f;
}

pub inverse_all : (order ranks : List ℕ) (i : ℕ) → length ranks ≡ length order → length order ≤ i → AreInverse order ranks i → IsVariableOrder order ranks
inverse_all order ranks i size h a = record {
  size = size;
  there = λ x l. a.there x (omega (arith, h, l));
  back = λ x l. a.back x (omega (arith, h, l));
  below = λ x l. a.below x (omega (arith, h, l));
  forth = λ x l. a.forth x (omega (arith, h, l));
}

-- ---- the order by number

pub numbers_size : (order : List ℕ) (n : ℕ) → order ≡ range_with_len 0 n → length order ≡ n
numbers_size order n e = ap length e ∙ length-range_with_len 0 n

number_at : (order : List ℕ) (n : ℕ) → order ≡ range_with_len 0 n → (x : ℕ) → x < n → get_or order x 0 ≡ x
number_at order n e x h = ap (λ (xs : List ℕ). get_or xs x 0) e ∙ (get_or-range_with_len 0 n x 0 h ∙ zero-add x)

pub numbers_order : (order ranks : List ℕ) (n : ℕ) → order ≡ range_with_len 0 n → ranks ≡ range_with_len 0 n → IsVariableOrder order ranks
numbers_order order ranks n o r = record {
  size = numbers_size ranks n r ∙ sym (numbers_size order n o);
  there = λ x h. subst (λ (k : ℕ). k < length order) (sym (number_at order n o x (below x h))) h;
  back = λ x h. ap (λ (k : ℕ). get_or ranks k 0) (number_at order n o x (below x h)) ∙ number_at ranks n r x (below x h);
  below = λ v h. subst (λ (k : ℕ). k < length order) (sym (number_at ranks n r v (below v h))) h;
  forth = λ v h. ap (λ (k : ℕ). get_or order k 0) (number_at ranks n r v (below v h)) ∙ number_at order n o v (below v h);
}
  where
    below : (x : ℕ) → x < length order → x < n
    below x h = subst (λ (k : ℕ). x < k) (numbers_size order n o) h
