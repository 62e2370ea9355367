-- One more node keeps the diagrams ordered.
use Rattle.std.proofs.Common.{◌≡◌, ◌⊎◌, inl, inr, ℕ, ◌+◌, ◌-◌, ◌<◌, ◌≤◌, [], ◌∷◌, ◌++◌, Some, refl, sym, ap, ◌∙◌, subst, arith}
use Rattle.std.proofs.lemmas.Bool.{cases_lt}
use Rattle.std.proofs.lemmas.List.{length_push}
use Rattle.std.proofs.lemmas.Option.{slice_get-get_or}
use Rattle.bdd_core.specs.Diagrams.{Diagrams, at, count, IsOrdered, IsReduced, IsBranch, Keeps}
use Rattle.bdd_core.specs.Tables.{IsNewIn}
use Rattle.bdd_core.proofs.Truths.{at_list, at_pushed, at_last}
use Rattle.bdd_core.specs.declared.nodes.ChoiceNode.{ChoiceNode}

module _ {vars n : ℕ} {node other : ℕ → ChoiceNode} (o : IsOrdered vars n node) (c : ChoiceNode)
    (same : (d : ℕ) → d < n → other d ≡ node d) (last : other n ≡ c) where
  -- a property of the earlier nodes and of the new one is one of all
  each : (P : ℕ → ChoiceNode → Type 0) → ((d : ℕ) → 2 ≤ d → d < n → P d (node d)) → P n c → (d : ℕ) → 2 ≤ d → d < n + 1 → P d (other d)
  each P old new d h i =
      elim (cases_lt d n) [
        | inl p ↦ subst (P d) (sym (same d p)) (old d h p)
        | inr p ↦ (let e : n ≡ d = omega arith in subst (λ (k : ℕ). P k (other k)) e (subst (P n) (sym last) new))
      ]

  module _ (var : c.var < vars) (low : c.low < n) (high : c.high < n) (low_later : c.var < (node c.low).var) (high_later : c.var < (node c.high).var)
      (differ : c.low ≡ c.high → ⊥) (new : (d : ℕ) → 2 ≤ d → d < n → node d ≡ c → ⊥) where
    rises : (x d : ℕ) → d < n → x < (node d).var → x < (other d).var
    rises x d h i = subst (λ (e : ChoiceNode). x < e.var) (sym (same d h)) i

    alone : (d e : ℕ) → 2 ≤ d → 2 ≤ e → d < n + 1 → e < n + 1 → other d ≡ other e → d ≡ e
    alone d e h i j k q = by (cases_lt d n) (cases_lt e n)
      where
        by : (d < n) ⊎ (n ≤ d) → (e < n) ⊎ (n ≤ e) → d ≡ e
        by (inl p) (inl r) = o.alone d e h i p r (sym (same d p) ∙ (q ∙ same e r))
        by (inl p) (inr r) = let z : e ≡ n = omega arith in absurd (new d h p (sym (same d p) ∙ (q ∙ (ap other z ∙ last))))
        by (inr p) (inl r) = let z : d ≡ n = omega arith in absurd (new e i r (sym (same e r) ∙ (sym q ∙ (ap other z ∙ last))))
        by (inr p) (inr r) = omega arith

    pub added_ordered : IsOrdered vars (n + 1) other
    added_ordered = record {
      two = let t = o.two in omega arith;
      first = same 0 (let t = o.two in omega arith) ∙ o.first;
      second = same 1 (let t = o.two in omega arith) ∙ o.second;
      within = each (λ d e. e.var < vars) o.within var;
      low_below = each (λ d e. e.low < d) o.low_below low;
      high_below = each (λ d e. e.high < d) o.high_below high;
      low_rises = each (λ d e. e.var < (other e.low).var)
          (λ d h i. rises (node d).var (node d).low (let b = o.low_below d h i in omega arith) (o.low_rises d h i)) (rises c.var c.low low low_later);
      high_rises = each (λ d e. e.var < (other e.high).var)
          (λ d h i. rises (node d).var (node d).high (let b = o.high_below d h i in omega arith) (o.high_rises d h i)) (rises c.var c.high high high_later);
      reduced = each (λ d e. e.low ≡ e.high → ⊥) o.reduced differ;
      alone = alone;
    }

pub pushed_well : (s : Diagrams) (c : ChoiceNode) → IsReduced s → IsBranch s c → IsNewIn s.nodes c → IsReduced record { vars = s.vars; nodes = s.nodes ++ c ∷ [] }
pushed_well s c well b new =
    let t : Diagrams = record { vars = s.vars; nodes = s.nodes ++ c ∷ [] } in
    let absent : (d : ℕ) → 2 ≤ d → d < count s → at s d ≡ c → ⊥ =
    λ d h i e. new (d - 2) (slice_get-get_or s.nodes (d - 2) c (omega arith) ∙ ap Some (at_list s d c h i ∙ e)) in
    let n : count s + 1 ≡ count t = omega (arith, length_push s.nodes c) in
    subst (λ (k : ℕ). IsOrdered s.vars k (at t)) n
    (added_ordered well c (at_pushed s c) (at_last s c) b.var b.low b.high b.low_later b.high_later b.differ absent)

pub pushed_keeps : (s : Diagrams) (c : ChoiceNode) → Keeps s record { vars = s.vars; nodes = s.nodes ++ c ∷ [] }
pushed_keeps s c = record { vars = refl; more = omega (arith, length_push s.nodes c); nodes = at_pushed s c }

-- no nodes
pub none_well : (vars : ℕ) → IsReduced record { vars = vars; nodes = [] }
unfolding at
none_well vars = record {
  two = omega arith;
  first = refl;
  second = refl;
  within = λ d h i. absurd (omega arith);
  low_below = λ d h i. absurd (omega arith);
  high_below = λ d h i. absurd (omega arith);
  low_rises = λ d h i. absurd (omega arith);
  high_rises = λ d h i. absurd (omega arith);
  reduced = λ d h i e. absurd (omega arith);
  alone = λ d e h i j k q. absurd (omega arith);
}
