-- Walks down a diagram: how many steps they need, and which bits they read.
use Rattle.std.proofs.Common.{◌≡◌, ℕ, zero, suc, ◌<◌, ◌≤◌, Bool, true, false, List, set, get_or, refl, sym, ap, ◌∙◌, arith}
use Rattle.std.proofs.lemmas.List.{get_or-set_other}
use Rattle.bdd_core.specs.Diagrams.{end, child, reach, IsOrdered}
use Rattle.bdd_core.specs.declared.nodes.ChoiceNode.{ChoiceNode}

child_end : (vars d : ℕ) (b : Bool) → child (end vars d) b ≡ d
child_end vars d true = refl
child_end vars d false = refl

module _ {vars n : ℕ} {node : ℕ → ChoiceNode} (o : IsOrdered vars n node) where
  child_first : (b : Bool) → child (node 0) b ≡ 0
  child_first b = ap (λ (c : ChoiceNode). child c b) o.first ∙ child_end vars 0 b

  child_second : (b : Bool) → child (node 1) b ≡ 1
  child_second b = ap (λ (c : ChoiceNode). child c b) o.second ∙ child_end vars 1 b

  pub reach_first : (m : ℕ) (v : List Bool) → reach node m 0 v ≡ false
  unfolding reach
  reach_first zero v = refl
  reach_first (suc m) v = ap (λ d. reach node m d v) (child_first (get_or v (node 0).var false)) ∙ reach_first m v

  pub reach_second : (m : ℕ) (v : List Bool) → reach node m 1 v ≡ true
  unfolding reach
  reach_second zero v = refl
  reach_second (suc m) v = ap (λ d. reach node m d v) (child_second (get_or v (node 1).var false)) ∙ reach_second m v

  pub child_below : (d : ℕ) (b : Bool) → 2 ≤ d → d < n → child (node d) b < d
  child_below d true h i = o.high_below d h i
  child_below d false h i = o.low_below d h i

  pub child_rises : (d : ℕ) (b : Bool) → 2 ≤ d → d < n → (node d).var < (node (child (node d) b)).var
  child_rises d true h i = o.high_rises d h i
  child_rises d false h i = o.low_rises d h i

  -- more steps than the number of a diagram lead to the same end
  pub reach_same : (m k d : ℕ) (v : List Bool) → d ≤ m → d ≤ k → d < n → reach node m d v ≡ reach node k d v
  unfolding reach
  reach_same m k zero v h i j = reach_first m v ∙ sym (reach_first k v)
  reach_same m k (suc zero) v h i j = reach_second m v ∙ sym (reach_second k v)
  reach_same zero k (suc (suc d)) v h i j = absurd (omega arith)
  reach_same (suc m) zero (suc (suc d)) v h i j = absurd (omega arith)
  reach_same (suc m) (suc k) (suc (suc d)) v h i j =
      let b : Bool = get_or v (node (suc (suc d))).var false in
      let below : child (node (suc (suc d))) b < suc (suc d) = child_below (suc (suc d)) b (omega arith) j in
      reach_same m k (child (node (suc (suc d))) b) v (omega (arith, below)) (omega (arith, below)) (omega (arith, below))

  child_least : (d : ℕ) (b : Bool) → d < n → child (node d) b ≤ d
  child_least zero b h = let e = child_first b in omega (arith, e)
  child_least (suc zero) b h = let e = child_second b in omega (arith, e)
  child_least (suc (suc d)) b h = let below = child_below (suc (suc d)) b (omega arith) h in omega (arith, below)

  pub child_within : (d : ℕ) (b : Bool) → d < n → child (node d) b < n
  child_within d b h = let least = child_least d b h in omega (arith, least)

  -- a diagram's truth is that of the part that the valuation chooses
  pub reach_step : (d : ℕ) (v : List Bool) → d < n → let e = child (node d) (get_or v (node d).var false) in reach node d d v ≡ reach node e e v
  unfolding reach
  reach_step d v h =
      let e : ℕ = child (node d) (get_or v (node d).var false) in
      let least : e ≤ d = child_least d (get_or v (node d).var false) h in
      reach_same d (suc d) d v (omega arith) (omega arith) h ∙ reach_same d e e v least (omega arith) (omega (arith, least))

  -- later nodes change nothing
  pub reach_kept : {other : ℕ → ChoiceNode} → ((d : ℕ) → d < n → other d ≡ node d) → (m d : ℕ) (v : List Bool) → d < n → reach other m d v ≡ reach node m d v
  unfolding reach
  reach_kept {other} same zero d v h = refl
  reach_kept {other} same (suc m) d v h =
      ap (λ (c : ChoiceNode). reach other m (child c (get_or v c.var false)) v) (same d h)
      ∙ reach_kept {other = other} same m (child (node d) (get_or v (node d).var false)) v (child_within d (get_or v (node d).var false) h)

  -- no variable before that of a diagram decides its truth
  pub reach_free : (m d x : ℕ) (b : Bool) (v : List Bool) → d < n → x < (node d).var → reach node m d (set v x b) ≡ reach node m d v
  unfolding reach
  reach_free m zero x b v h i = reach_first m (set v x b) ∙ sym (reach_first m v)
  reach_free m (suc zero) x b v h i = reach_second m (set v x b) ∙ sym (reach_second m v)
  reach_free zero (suc (suc d)) x b v h i = refl
  reach_free (suc m) (suc (suc d)) x b v h i =
      let e : ℕ = suc (suc d) in
      let c : Bool = get_or v (node e).var false in
      let rises : (node e).var < (node (child (node e) c)).var = child_rises e c (omega arith) h in
      ap (λ a. reach node m (child (node e) a) (set v x b)) (get_or-set_other v x (node e).var b false (λ q. absurd (omega (arith, q))))
      ∙ reach_free m (child (node e) c) x b v (child_within e c h) (omega (arith, rises))
