-- The walk to the least falsifying valuation.
use Rattle.std.proofs.Common.{◌≡◌, inl, inr, ℕ, ◌<◌, ◌≤◌, Bool, true, false, List, length, replicate, set, get_or, refl, sym, ap, ◌∙◌, subst, arith}
use Rattle.std.proofs.lemmas.Bool.{cases_lt, cases_order, false≢true}
use Rattle.std.proofs.lemmas.List.{get_or-set_other, get_or-set_same, length-set, length-replicate, get_or-replicate, get_or_past}
use Rattle.bdd_core.specs.Diagrams.{Diagrams, at, count, reach, dia_truth, child, IsReduced}
use Rattle.bdd_core.specs.Meaning.{IsDia, truth_of, Agree, IsLeastFalsifying}
use Rattle.bdd_core.proofs.Applying.{first_truth, second_truth}
use Rattle.bdd_core.proofs.Reaching.{reach_step}
use Rattle.bdd_core.specs.declared.nodes.ChoiceNode.{ChoiceNode}
use Rattle.bdd_core.specs.declared.store.Dia.{Dia}

-- the walk has reached diagram e, and its bits before the variable of e are chosen
pub record IsDown (s : Diagrams) (d : Dia) (e : ℕ) (bits : List Bool) : Type 0 where
  pub size : length bits ≡ s.vars
  pub within : e < count s
  pub open_yet : e ≡ 1 → ⊥
  pub reaches : (w : List Bool) → length w ≡ s.vars → Agree (at s e).var bits w → truth_of s d w ≡ dia_truth s e w
  pub rest : (i : ℕ) → (at s e).var ≤ i → get_or bits i false ≡ false
  pub least : (w : List Bool) → length w ≡ s.vars → truth_of s d w ≡ false
      → (y : ℕ) → y < (at s e).var → Agree y bits w → get_or w y false ≡ false → get_or bits y false ≡ false

pub down_start : (s : Diagrams) (d : Dia) (e : ℕ) (bits : List Bool) → IsDia s d → (d.id ≡ 1 → ⊥) → e ≡ d.id → bits ≡ replicate s.vars false → IsDown s d e bits
down_start s d e bits h other is zeros = record {
  size = ap length zeros ∙ length-replicate s.vars false;
  within = omega (arith, h, is);
  open_yet = λ q. other (sym is ∙ q);
  reaches = λ w k a. ap (λ (x : ℕ). dia_truth s x w) (sym is);
  rest = λ i m. none i;
  least = λ w k f y m a z. none y;
}
  where
    none : (i : ℕ) → get_or bits i false ≡ false
    none i = ap (λ (xs : List Bool). get_or xs i false) zeros ∙
        elim (cases_lt i s.vars) [ inl p ↦ get_or-replicate s.vars i false false p | inr p ↦ get_or_past (replicate s.vars false) i false (subst (λ (n : ℕ). n ≤ i) (sym (length-replicate s.vars false)) p) ]

module _ {s : Diagrams} {d : Dia} {e : ℕ} {bits : List Bool} (well : IsReduced s) (two : 2 ≤ e) (down : IsDown s d e bits) where
  -- the truth of a diagram is that of the side that the valuation has
  side : (w : List Bool) (b : Bool) → get_or w (at s e).var false ≡ b → dia_truth s e w ≡ dia_truth s (child (at s e) b) w
  unfolding dia_truth
  side w b is =
      reach_step well e w down.within
      ∙ ap (λ (x : Bool). reach (at s) (child (at s e) x) (child (at s e) x) w) is

  low_rises : (at s e).var < (at s (at s e).low).var
  low_rises = well.low_rises e two down.within

  high_rises : (at s e).var < (at s (at s e).high).var
  high_rises = well.high_rises e two down.within

  pub down_low : ((at s e).low ≡ 1 → ⊥) → IsDown s d (at s e).low bits
  down_low other = record {
    size = down.size;
    within = let b = well.low_below e two down.within in let w = down.within in omega (arith, b, w);
    open_yet = other;
    reaches = λ w k a.
        down.reaches w k (λ i m. a i (omega (arith, m, low_rises)))
        ∙ side w false (sym (a (at s e).var low_rises) ∙ down.rest (at s e).var (omega arith));
    rest = λ i m. down.rest i (omega (arith, m, low_rises));
    least = λ w k f y m a z. elim (cases_lt y (at s e).var) [ inl p ↦ down.least w k f y p a z | inr p ↦ down.rest y p ];
  }

  pub down_high : (at s e).low ≡ 1 → IsDown s d (at s e).high (set bits (at s e).var true)
  down_high valid = record {
    size = length-set bits x true ∙ down.size;
    within = let b = well.high_below e two down.within in let w = down.within in omega (arith, b, w);
    open_yet = λ q. well.reduced e two down.within (valid ∙ sym q);
    reaches = λ w k a. down.reaches w k (before w a) ∙ side w true (sym (a x high_rises) ∙ here);
    rest = λ i m. other i (omega (arith, m, high_rises)) ∙ down.rest i (omega (arith, m, high_rises));
    least = least;
  }
    where
      x : ℕ
      x = (at s e).var

      inside : x < length bits
      inside = let u = well.within e two down.within in let z = down.size in omega (arith, u, z)

      here : get_or (set bits x true) x false ≡ true
      here = get_or-set_same bits x true false inside

      other : (i : ℕ) → (x < i) → get_or (set bits x true) i false ≡ get_or bits i false
      other i m = get_or-set_other bits x i true false (λ q. absurd (omega (arith, q, m)))

      earlier : (i : ℕ) → (i < x) → get_or (set bits x true) i false ≡ get_or bits i false
      earlier i m = get_or-set_other bits x i true false (λ q. absurd (omega (arith, q, m)))

      before : (w : List Bool) → Agree (at s (at s e).high).var (set bits x true) w → Agree x bits w
      before w a i m = sym (earlier i m) ∙ a i (omega (arith, m, high_rises))

      least : (w : List Bool) → length w ≡ s.vars → truth_of s d w ≡ false
          → (y : ℕ) → y < (at s (at s e).high).var → Agree y (set bits x true) w → get_or w y false ≡ false → get_or (set bits x true) y false ≡ false
      least w k f y m a z =
          elim (cases_order y x) [
            | inl q ↦ absurd (false≢true (sym f
                ∙ (down.reaches w k (λ i n. sym (earlier i n) ∙ a i (omega (arith, n, q)))
                ∙ (side w false (ap (λ (j : ℕ). get_or w j false) (sym q) ∙ z)
                ∙ (ap (λ (j : ℕ). dia_truth s j w) valid ∙ second_truth s w well)))))
            | inr q ↦ elim q [
              | inl r ↦ earlier y r ∙ down.least w k f y r (λ i n. sym (earlier i (omega (arith, n, r))) ∙ a i n) z
              | inr r ↦ other y r ∙ down.rest y (omega (arith, r))
            ]
          ]

pub down_end : (s : Diagrams) (d : Dia) (e : ℕ) (bits : List Bool) → IsReduced s → IsDown s d e bits → e < 2 → IsLeastFalsifying s d bits
down_end s d e bits well down h =
    let none : e ≡ 0 = let o = down.open_yet in elim (cases_order e 0) [ inl q ↦ q | inr q ↦ elim q [ inl r ↦ absurd (omega (arith, r)) | inr r ↦ absurd (o (omega (arith, r, h))) ] ] in
    let behind : (at s e).var ≡ s.vars = ap (λ (k : ℕ). (at s k).var) none ∙ ap (λ (c : ChoiceNode). c.var) well.first in
    record {
      size = down.size;
      fails = down.reaches bits down.size (λ i m. refl) ∙ (ap (λ (k : ℕ). dia_truth s k bits) none ∙ first_truth s bits well);
      least = λ w k f y m a z. down.least w k f y (omega (arith, m, behind)) a z;
    }
