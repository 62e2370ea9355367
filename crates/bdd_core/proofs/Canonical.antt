-- Two ordered diagrams with the same truth are the same.
use Rattle.std.proofs.Common.{◌≡◌, ◌≢◌, ◌⊎◌, inl, inr, ℕ, zero, suc, ◌+◌, ◌<◌, ◌≤◌, min, Bool, true, false, cond, List, length, replicate, set, get_or, refl, sym, ap, ◌∙◌, subst, arith}
use Rattle.std.proofs.lemmas.Bool.{cases_eq, cases_order, cases_lt, eq-eqb, ne_eqb, true≢false, false≢true}
use Rattle.std.proofs.lemmas.List.{get_or-set_same, length-set, length-replicate}
use Rattle.bdd_core.specs.Diagrams.{child, reach, cofactor_of, IsOrdered}
use Rattle.bdd_core.proofs.Reaching.{reach_first, reach_second, reach_step, reach_free, child_below, child_rises, child_within}
use Rattle.bdd_core.specs.declared.nodes.ChoiceNode.{ChoiceNode}

-- the truth of a diagram
abbrev pub walk : (ℕ → ChoiceNode) → ℕ → List Bool → Bool
walk node d v = reach node d d v

-- a valuation at which two truths are not the same
pub record Differ (vars : ℕ) (node : ℕ → ChoiceNode) (a b : ℕ) : Type 0 where
  pub at : List Bool
  pub size : length at ≡ vars
  pub differ : walk node a at ≢ walk node b at

-- a part: the side of the node, or the diagram itself
pub part_here : (node : ℕ → ChoiceNode) (x : ℕ) (b : Bool) (d : ℕ) → (node d).var ≡ x → cofactor_of node x b d ≡ child (node d) b
part_here node x b d e = ap (λ t. cond t (child (node d) b) d) (eq-eqb (node d).var x e)

pub part_behind : (node : ℕ → ChoiceNode) (x : ℕ) (b : Bool) (d : ℕ) → ((node d).var ≡ x → ⊥) → cofactor_of node x b d ≡ d
part_behind node x b d e = ap (λ t. cond t (child (node d) b) d) (ne_eqb (node d).var x e)

module _ {vars n : ℕ} {node : ℕ → ChoiceNode} (o : IsOrdered vars n node) where
  pub var_most : (d : ℕ) → d < n → (node d).var ≤ vars
  var_most zero h = let e = ap (λ (c : ChoiceNode). c.var) o.first in omega (arith, e)
  var_most (suc zero) h = let e = ap (λ (c : ChoiceNode). c.var) o.second in omega (arith, e)
  var_most (suc (suc d)) h = let below = o.within (suc (suc d)) (omega arith) h in omega (arith, below)

  pub branches : (d : ℕ) → d < n → (node d).var < vars → 2 ≤ d
  branches zero h i = let e = ap (λ (c : ChoiceNode). c.var) o.first in absurd (omega (arith, e))
  branches (suc zero) h i = let e = ap (λ (c : ChoiceNode). c.var) o.second in absurd (omega (arith, e))
  branches (suc (suc d)) h i = omega arith

  pub part_within : (x : ℕ) (b : Bool) (d : ℕ) → d < n → cofactor_of node x b d < n
  part_within x b d h = by (cases_eq (node d).var x)
    where
      by : ((node d).var ≡ x) ⊎ ((node d).var ≡ x → ⊥) → cofactor_of node x b d < n
      by (inl e) = let p = part_here node x b d e in let c = child_within o d b h in omega (arith, p, c)
      by (inr e) = let p = part_behind node x b d e in omega (arith, p)

  -- where the valuation has b, a part has the truth of the whole
  pub part_truth : (x : ℕ) (b : Bool) (d : ℕ) (v : List Bool) → d < n → get_or v x false ≡ b → walk node (cofactor_of node x b d) v ≡ walk node d v
  part_truth x b d v h is = by (cases_eq (node d).var x)
    where
      by : ((node d).var ≡ x) ⊎ ((node d).var ≡ x → ⊥) → walk node (cofactor_of node x b d) v ≡ walk node d v
      by (inl e) =
          ap (λ a. walk node a v) (part_here node x b d e ∙ ap (λ c. child (node d) c) (sym is ∙ ap (λ y. get_or v y false) (sym e)))
          ∙ sym (reach_step o d v h)
      by (inr e) = ap (λ a. walk node a v) (part_behind node x b d e)

  -- a part is decided by later variables
  pub part_rises : (x : ℕ) (b : Bool) (d : ℕ) → d < n → x < vars → x ≤ (node d).var → x < (node (cofactor_of node x b d)).var
  part_rises x b d h under first = by (cases_eq (node d).var x)
    where
      by : ((node d).var ≡ x) ⊎ ((node d).var ≡ x → ⊥) → x < (node (cofactor_of node x b d)).var
      by (inl e) =
          let r : (node d).var < (node (child (node d) b)).var = child_rises o d b (branches d h (omega arith)) h in
          subst (λ a. x < (node a).var) (sym (part_here node x b d e)) (omega (arith, r))
      by (inr e) =
          let more : x < (node d).var = elim (cases_order x (node d).var) [ inl q ↦ absurd (e (sym q)) | inr q ↦ elim q [ inl r ↦ r | inr r ↦ absurd (omega (arith, r)) ] ] in
          subst (λ a. x < (node a).var) (sym (part_behind node x b d e)) more

  -- a part has the truth of the whole at the valuation with b written to it
  pub part_set : (x : ℕ) (b : Bool) (d : ℕ) (v : List Bool) → d < n → x < vars → x ≤ (node d).var → x < length v → walk node (cofactor_of node x b d) v ≡ walk node d (set v x b)
  part_set x b d v h under first inside =
      let p : ℕ = cofactor_of node x b d in
      sym (reach_free o p p x b v (part_within x b d h) (part_rises x b d h under first))
      ∙ part_truth x b d (set v x b) h (get_or-set_same v x b false inside)

  part_least : (x : ℕ) (b : Bool) (d : ℕ) → d < n → x < vars → cofactor_of node x b d ≤ d
  part_least x b d h under = by (cases_eq (node d).var x)
    where
      by : ((node d).var ≡ x) ⊎ ((node d).var ≡ x → ⊥) → cofactor_of node x b d ≤ d
      by (inl e) = let p = part_here node x b d e in let c = child_below o d b (branches d h (omega arith)) h in omega (arith, p, c)
      by (inr e) = let p = part_behind node x b d e in omega (arith, p)

  part_less : (x : ℕ) (b : Bool) (d : ℕ) → d < n → x < vars → (node d).var ≡ x → cofactor_of node x b d < d
  part_less x b d h under e = let p = part_here node x b d e in let c = child_below o d b (branches d h (omega arith)) h in omega (arith, p, c)

  -- the parts of two diagrams under the first variable of either have a smaller sum of numbers
  pub parts_fall : (x : ℕ) (b : Bool) (d e : ℕ) → d < n → e < n → x < vars → x ≡ min (node d).var (node e).var → cofactor_of node x b d + cofactor_of node x b e < d + e
  parts_fall x b d e h i under is = by (cases_eq (node d).var x)
    where
      ld : cofactor_of node x b d ≤ d
      ld = part_least x b d h under

      le : cofactor_of node x b e ≤ e
      le = part_least x b e i under

      by : ((node d).var ≡ x) ⊎ ((node d).var ≡ x → ⊥) → cofactor_of node x b d + cofactor_of node x b e < d + e
      by (inl q) = let less = part_less x b d h under q in omega (arith, less, le)
      by (inr q) =
          let here : (node e).var ≡ x = elim (cases_eq (node e).var x) [ inl r ↦ r | inr r ↦ absurd (omega (arith, is, q, r)) ] in
          let less = part_less x b e i under here in omega (arith, less, ld)

  -- a difference of the parts is one of the wholes
  whole_differs : (x : ℕ) (b : Bool) (d e : ℕ) → d < n → e < n → x < vars → x ≤ (node d).var → x ≤ (node e).var → Differ vars node (cofactor_of node x b d) (cofactor_of node x b e) → Differ vars node d e
  whole_differs x b d e h i under p q f = record {
    at = set f.at x b;
    size = length-set f.at x b ∙ f.size;
    differ = λ same.
        let inside : x < length f.at = let s = f.size in omega (arith, s) in
        f.differ (part_set x b d f.at h under p inside ∙ (same ∙ sym (part_set x b e f.at i under q inside)));
  }

  -- equal parts make equal diagrams
  same_parts : (x d e : ℕ) → d < n → e < n → x < vars → x ≡ min (node d).var (node e).var
      → cofactor_of node x false d ≡ cofactor_of node x false e → cofactor_of node x true d ≡ cofactor_of node x true e → d ≡ e
  same_parts x d e h i under is low high = by (cases_eq (node d).var x) (cases_eq (node e).var x)
    where
      merged : (a c : ℕ) → a < n → (node a).var ≡ x → ((node c).var ≡ x → ⊥) → cofactor_of node x false a ≡ cofactor_of node x false c → cofactor_of node x true a ≡ cofactor_of node x true c → ⊥
      merged a c k q r l m =
          o.reduced a (branches a k (omega arith)) k
          ((sym (part_here node x false a q) ∙ (l ∙ part_behind node x false c r)) ∙ sym (sym (part_here node x true a q) ∙ (m ∙ part_behind node x true c r)))

      by : ((node d).var ≡ x) ⊎ ((node d).var ≡ x → ⊥) → ((node e).var ≡ x) ⊎ ((node e).var ≡ x → ⊥) → d ≡ e
      by (inl q) (inl r) =
          let vs : (node d).var ≡ (node e).var = q ∙ sym r in
          let ls : (node d).low ≡ (node e).low = sym (part_here node x false d q) ∙ (low ∙ part_here node x false e r) in
          let hs : (node d).high ≡ (node e).high = sym (part_here node x true d q) ∙ (high ∙ part_here node x true e r) in
          o.alone d e (branches d h (omega arith)) (branches e i (omega arith)) h i (λ j. record { var = vs j; low = ls j; high = hs j })
      by (inl q) (inr r) = absurd (merged d e h q r low high)
      by (inr q) (inl r) = absurd (merged e d i r q (sym low) (sym high))
      by (inr q) (inr r) = absurd (omega (arith, is, q, r))

  ends_differ : (d e : ℕ) → d < 2 → e < 2 → (d ≡ e) ⊎ Differ vars node d e
  ends_differ zero zero h i = inl refl
  ends_differ (suc zero) (suc zero) h i = inl refl
  ends_differ zero (suc zero) h i = inr (record { at = replicate vars false; size = length-replicate vars false; differ = λ same. false≢true (sym (reach_first o 0 (replicate vars false)) ∙ (same ∙ reach_second o 1 (replicate vars false))) })
  ends_differ (suc zero) zero h i = inr (record { at = replicate vars false; size = length-replicate vars false; differ = λ same. true≢false (sym (reach_second o 1 (replicate vars false)) ∙ (same ∙ reach_first o 0 (replicate vars false))) })
  ends_differ (suc (suc d)) e h i = absurd (omega arith)
  ends_differ zero (suc (suc e)) h i = absurd (omega arith)
  ends_differ (suc zero) (suc (suc e)) h i = absurd (omega arith)

  ends : (d : ℕ) → d < n → vars ≤ (node d).var → d < 2
  ends zero h i = omega arith
  ends (suc zero) h i = omega arith
  ends (suc (suc d)) h i = let w = o.within (suc (suc d)) (omega arith) h in absurd (omega (arith, w))

  step : (m a b x : ℕ) → ((c d : ℕ) → c + d ≤ m → c < n → d < n → (c ≡ d) ⊎ Differ vars node c d) → a + b ≤ suc m → a < n → b < n
      → x ≡ min (node a).var (node b).var → (x < vars) ⊎ (vars ≤ x) → (a ≡ b) ⊎ Differ vars node a b
  step m a b x shorter h i j is (inr past) = ends_differ a b (ends a i (omega (arith, is))) (ends b j (omega (arith, is)))
  step m a b x shorter h i j is (inl under) = both (side false) (side true)
    where
      p : x ≤ (node a).var
      p = omega (arith, is)

      q : x ≤ (node b).var
      q = omega (arith, is)

      side : (c : Bool) → (cofactor_of node x c a ≡ cofactor_of node x c b) ⊎ Differ vars node (cofactor_of node x c a) (cofactor_of node x c b)
      side c =
          let falls = parts_fall x c a b i j under is in
          shorter (cofactor_of node x c a) (cofactor_of node x c b) (omega (arith, falls)) (part_within x c a i) (part_within x c b j)

      both : (cofactor_of node x false a ≡ cofactor_of node x false b) ⊎ Differ vars node (cofactor_of node x false a) (cofactor_of node x false b)
          → (cofactor_of node x true a ≡ cofactor_of node x true b) ⊎ Differ vars node (cofactor_of node x true a) (cofactor_of node x true b) → (a ≡ b) ⊎ Differ vars node a b
      both (inr f) r = inr (whole_differs x false a b i j under p q f)
      both (inl e) (inr f) = inr (whole_differs x true a b i j under p q f)
      both (inl e) (inl f) = inl (same_parts x a b i j under is e f)

  -- two diagrams are the same, or their truths differ somewhere
  pub differ : (m a b : ℕ) → a + b ≤ m → a < n → b < n → (a ≡ b) ⊎ Differ vars node a b
  differ zero a b h i j = ends_differ a b (omega arith) (omega arith)
  differ (suc m) a b h i j = step m a b (min (node a).var (node b).var) (differ m) h i j refl (cases_lt (min (node a).var (node b).var) vars)

  -- if the truths are the same everywhere, so are the diagrams
  pub canonical : (a b : ℕ) → a < n → b < n → ((v : List Bool) → length v ≡ vars → walk node a v ≡ walk node b v) → a ≡ b
  canonical a b i j same = elim (differ (a + b) a b (omega arith) i j) [ inl e ↦ e | inr f ↦ absurd (f.differ (same f.at f.size)) ]
