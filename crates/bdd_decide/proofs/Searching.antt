-- The search through the parts.
use Rattle.std.proofs.Common.{◌≡◌, ℕ, ◌+◌, ◌^◌, ◌<◌, ◌≤◌, inl, inr, Bool, true, false, List, length, get_or, refl, sym, ◌∙◌, subst, arith}
use Rattle.std.proofs.lemmas.Bool.{cases_eq, cases_lt, false≢true}
use Rattle.nets.specs.Nets.{Gates, truth}
use Rattle.net_fields.specs.Spelling.{spelt}
use Rattle.net_fields.proofs.Patterns.{spelt_lt}
use Rattle.bdd_decide.specs.Decisions.{IsAlwaysTrue, IsFirstFalseGate, IsLeastOf}
use Rattle.bdd_decide.specs.Splitting.{AreTrueTo, IsGateFalseAt, IsLeastIn, IsPass, IsSearched, IsTrueWhere, IsSubproblemOf}
use Rattle.bdd_decide.specs.declared.subproblems.Subproblem.{Subproblem}
use Rattle.bdd_decide.specs.declared.pass.PassResult.TheVariants as pass
use Rattle.bdd_decide.proofs.Bits.{lower, same_part}

pub search_start : (n : Gates) (gates : List ℕ) (k : ℕ) → IsSearched n gates k 0 (length gates) 0
search_start n gates k = record {
  within = omega arith;
  earlier = λ j lt q none. absurd (omega (arith, none));
  small = λ lt. absurd (omega (arith, lt));
  before = λ lt. absurd (omega (arith, lt));
  fails = λ lt. absurd (omega (arith, lt));
}

module _ (n : Gates) (gates : List ℕ) (k p m part : ℕ) (so_far : IsSearched n gates k p m part) where
  pub search_zero : m ≡ 0 → IsSearched n gates k (p + 1) m part
  search_zero e = record { within = so_far.within; earlier = λ j lt. absurd (omega (arith, lt, e)); small = so_far.small; before = so_far.before; fails = so_far.fails }

  -- gates that are true in another part too
  one_more : (l : ℕ) → l ≤ m → ((j : ℕ) → j < l → IsTrueWhere n (get_or gates j 0) k p) → (j : ℕ) → j < l → (q : ℕ) → q < p + 1 → IsTrueWhere n (get_or gates j 0) k q
  one_more l le here j lt q less = elim (cases_eq q p) [
    | inl e ↦ subst (IsTrueWhere n (get_or gates j 0) k) (sym e) (here j lt)
    | inr ne ↦ so_far.earlier j (omega (arith, lt, le)) q (below ne)
  ]
    where
      below : (q ≡ p → ⊥) → q < p
      below ne = grind (arith, ne, less)

  pub search_none : (c : Subproblem) → IsSubproblemOf n gates m k p c → AreTrueTo c.net c.gates (length c.gates) → IsSearched n gates k (p + 1) m part
  search_none c stand always = record {
    within = so_far.within;
    earlier = one_more m (omega arith) (λ j lt. stand.yes j lt (always j (let z = stand.size in omega (arith, lt, z))));
    small = so_far.small;
    before = so_far.before;
    fails = so_far.fails;
  }

  pub search_some : (c : Subproblem) (l : ℕ) → p < 2 ^ k → IsSubproblemOf n gates m k p c → l < length c.gates → AreTrueTo c.net c.gates l → (w : List Bool) → IsGateFalseAt c.net (get_or c.gates l 0) w →
      IsSearched n gates k (p + 1) l p
  search_some c l small stand lt always w fails =
      let less : l < m = (let z = stand.size in omega (arith, lt, z)) in
      record {
        within = (let z = so_far.within in omega (arith, less, z));
        earlier = one_more l (omega (arith, less)) (λ j at. stand.yes j (omega (arith, at, less)) (always j at));
        small = λ at. small;
        before = λ at q before. so_far.earlier l less q before;
        fails = λ at. stand.no l less w fails;
      }

-- ---- after all parts

pub all_true : (n : Gates) (gates : List ℕ) (k m p : ℕ) → IsSearched n gates k (2 ^ k) m p → m ≡ length gates → (j : ℕ) → j < length gates → IsAlwaysTrue n (get_or gates j 0)
all_true n gates k m p h e j lt w size = h.earlier j (omega (arith, e, lt)) (spelt w 0 k) (spelt_lt w 0 k) w size refl

-- the result of a pass over the gates
pub searched_true : (n : Gates) (gates : List ℕ) (k upto m p : ℕ) → upto ≡ 2 ^ k → IsSearched n gates k upto m p → m ≡ length gates → AreTrueTo n gates (length gates)
searched_true n gates k upto m p all h e j lt = all_true n gates k m p (subst (λ (u : ℕ). IsSearched n gates k u m p) all h) e j lt

pub searched_false : (n : Gates) (gates : List ℕ) (k upto m p : ℕ) → upto ≡ 2 ^ k → IsSearched n gates k upto m p → (m ≡ length gates → ⊥) → IsPass n gates (pass.False m)
searched_false n gates k upto m p all h ne =
    let lt : m < length gates = (let z = h.within in grind (arith, ne, z)) in
    let f = h.fails lt in
    (lt, earlier (subst (λ (u : ℕ). IsSearched n gates k u m p) all h), f.0, record { size = f.1.size; fails = f.1.fails })
  where
    earlier : IsSearched n gates k (2 ^ k) m p → AreTrueTo n gates m
    earlier h j lt w size = h.earlier j lt (spelt w 0 k) (spelt_lt w 0 k) w size refl

-- the least valuation of the first part in which there is one is the least of all
least_of_all : (n : Gates) (gate k p : ℕ) (w : List Bool) → ((q : ℕ) → q < p → IsTrueWhere n gate k q) → IsLeastIn n gate k p w → IsLeastOf n.vars (λ u. truth n gate u ≡ false) w
least_of_all n gate k p w before h =
    record { size = h.size; holds = h.holds.1; least = λ z size fails y lt same off. at z size fails y lt same off }
  where
    by : (z : List Bool) → length z ≡ n.vars → truth n gate z ≡ false → (y : ℕ) → y < k → ((x : ℕ) → x < y → get_or w x false ≡ get_or z x false) →
        get_or z y false ≡ false → (b : Bool) → get_or w y false ≡ b → b ≡ false
    by z size fails y lt same off false one = refl
    by z size fails y lt same off true one =
        absurd (false≢true (sym fails ∙ before (spelt z 0 k) (let less = lower k z w y lt same off one in let e = h.holds.0 in omega (arith, less, e)) z size refl))

    at : (z : List Bool) → length z ≡ n.vars → truth n gate z ≡ false → (y : ℕ) → y < n.vars → ((x : ℕ) → x < y → get_or w x false ≡ get_or z x false) →
        get_or z y false ≡ false → get_or w y false ≡ false
    at z size fails y lt same off = elim (cases_lt y k) [
      | inl l ↦ by z size fails y l same off (get_or w y false) refl
      | inr le ↦ h.least z size (same_part k z w (λ x l. sym (same x (omega (arith, l, le)))) ∙ h.holds.0, fails) y lt same off
    ]

pub first_found : (n : Gates) (gates : List ℕ) (k m p : ℕ) (w : List Bool) → IsSearched n gates k (2 ^ k) m p → m < length gates → IsLeastIn n (get_or gates m 0) k p w → IsFirstFalseGate n gates m w
first_found n gates k m p w h lt least = record {
  within = lt;
  earlier = λ j less u size. h.earlier j less (spelt u 0 k) (spelt_lt u 0 k) u size refl;
  least = least_of_all n (get_or gates m 0) k p w (h.before lt) least;
}

-- a part in which a gate is false has a least valuation at which it is false
pub not_none : (n : Gates) (gates : List ℕ) (k m p : ℕ) → IsSearched n gates k (2 ^ k) m p → m < length gates → IsTrueWhere n (get_or gates m 0) k p → ⊥
not_none n gates k m p h lt always =
    let f = h.fails lt in
    false≢true (sym f.1.fails ∙ always f.0 f.1.size f.1.starts)
