-- What ordered terms depend on.
use Rattle.std.proofs.Common.{◌≡◌, ◌≢◌, ◌⊎◌, inl, inr, ⊎_elim, ℕ, zero, suc, ◌+◌, ◌-◌, ◌<◌, ◌≤◌, Bool, true, false, cond, ltb, List, length, replicate, get_or, slice_get, Option, Some, None, refl, sym, ap, ◌∙◌, subst, arith}
use Rattle.std.proofs.Math.ListN.{set}
use Rattle.std.proofs.lemmas.Bool.{cases_eq, cases_lt, eq-eqb, ne_eqb, lt-ltb, le-ltb, false≢true, true≢false}
use Rattle.std.proofs.lemmas.List.{get_or-set_other, get_or-set_same, length-set, length-replicate}
use Rattle.std.proofs.lemmas.Option.{slice_get_cases}
use Rattle.cert_checker.specs.declared.known.TermDef.{TermDef}
use Rattle.cert_checker.specs.Meaning.{cert_value}
use Rattle.cert_checker.specs.Rules.{made_at, part, part_by}
use Rattle.cert_checker.proofs.Values.{AreMade, value_made, value_one, value_zero}
use Rattle.cert_writer.specs.Terms.{AreOrdered, AreRanks, rank_by, rank_of}

-- a term is 0, 1, or was made
pub data Kinds (terms : List TermDef) (t : ℕ) : Type 0 where
  falsehood : t ≡ 0 → Kinds terms t
  truth : t ≡ 1 → Kinds terms t
  made : (k : ℕ) (m : TermDef) → t ≡ k + 2 → slice_get terms k ≡ Some m → made_at terms t ≡ Some m → Kinds terms t

made_is : (terms : List TermDef) (k : ℕ) (m : TermDef) → slice_get terms k ≡ Some m → made_at terms (k + 2) ≡ Some m
made_is terms k m e =
    let large : ltb (k + 2) 2 ≡ false = le-ltb (k + 2) 2 (omega arith) in
    let back : k + 2 - 2 ≡ k = omega arith in
    ap (λ b. cond b None (slice_get terms (k + 2 - 2))) large ∙ ap (slice_get terms) back ∙ e

pub kind_of : (terms : List TermDef) (t : ℕ) → t < length terms + 2 → Kinds terms t
kind_of terms zero h = falsehood refl
kind_of terms (suc zero) h = truth refl
kind_of terms (suc (suc k)) h = by (slice_get_cases terms k).1
  where
    two : suc (suc k) ≡ k + 2
    two = omega arith

    by : ((x : TermDef) × (k < length terms) × (slice_get terms k ≡ Some x) × (get_or terms k x ≡ x)) ⊎ ((length terms ≤ k) × (slice_get terms k ≡ None)) → Kinds terms (suc (suc k))
    by (inl found) = made k found.0 two found.2 (ap (made_at terms) two ∙ made_is terms k found.0 found.2)
    by (inr past) = absurd (let b = past.0 in omega (arith, h))

less_from : (a b : ℕ) → a ≤ b → (a ≡ b → ⊥) → a < b
less_from a b h apart = ⊎_elim (λ less. less) (λ more. absurd (apart (let e : a ≡ b = omega (arith, h, more) in e))) (cases_lt a b)

module _ (ranks : List ℕ) (terms : List TermDef) (o : AreOrdered ranks terms) where
  are_made : AreMade terms
  are_made = record { low = o.low; high = o.high }

  pub rank_is : (t : ℕ) (m : TermDef) → made_at terms t ≡ Some m → rank_of ranks terms t ≡ get_or ranks m.var 0
  rank_is t m e = ap (rank_by ranks) e

  value_is : (t k : ℕ) (m : TermDef) → t ≡ k + 2 → slice_get terms k ≡ Some m → (w : List Bool) →
      cert_value terms t w ≡ cond (get_or w m.var false) (cert_value terms m.high w) (cert_value terms m.low w)
  value_is t k m e is w = ap (λ n. cert_value terms n w) e ∙ value_made terms are_made k m is w

  -- a term is free of the variables with smaller ranks
  free_below : (n t y : ℕ) (b : Bool) (w : List Bool) → t < n → t < length terms + 2 → get_or ranks y 0 < rank_of ranks terms t → cert_value terms t (set w y b) ≡ cert_value terms t w
  free_below zero t y b w less h early = absurd (omega (arith, less))
  free_below (suc n) t y b w less h early = by (kind_of terms t h) (λ s. free_below n s y b w)
    where
      by : Kinds terms t → ((s : ℕ) → s < n → s < length terms + 2 → get_or ranks y 0 < rank_of ranks terms s → cert_value terms s (set w y b) ≡ cert_value terms s w) →
          cert_value terms t (set w y b) ≡ cert_value terms t w
      by (falsehood e) ih = ap (λ n. cert_value terms n (set w y b)) e ∙ value_zero terms (set w y b) ∙ sym (value_zero terms w) ∙ ap (λ n. cert_value terms n w) (sym e)
      by (truth e) ih = ap (λ n. cert_value terms n (set w y b)) e ∙ value_one terms (set w y b) ∙ sym (value_one terms w) ∙ ap (λ n. cert_value terms n w) (sym e)
      by (made k m e is at) ih =
          let before : get_or ranks y 0 < get_or ranks m.var 0 = (let r = rank_is t m at in omega (arith, early, r)) in
          let other : m.var ≢ y = λ same. (let r = ap (λ v. get_or ranks v 0) same in omega (arith, before, r)) in
          let bit : get_or (set w y b) m.var false ≡ get_or w m.var false = get_or-set_other w y m.var b false other in
          let low = ih m.low (let x = o.low k m is in omega (arith, less, e, x)) (let x = o.low k m is in omega (arith, h, e, x)) (let x = o.low_later k m is in omega (arith, before, x)) in
          let high = ih m.high (let x = o.high k m is in omega (arith, less, e, x)) (let x = o.high k m is in omega (arith, h, e, x)) (let x = o.high_later k m is in omega (arith, before, x)) in
          value_is t k m e is (set w y b) ∙ (λ i. cond (bit i) (high i) (low i)) ∙ sym (value_is t k m e is w)

  pub free : (t y : ℕ) (b : Bool) (w : List Bool) → t < length terms + 2 → get_or ranks y 0 < rank_of ranks terms t → cert_value terms t (set w y b) ≡ cert_value terms t w
  free t y b w h early = free_below (suc t) t y b w (omega arith) h early

  -- the part of a term on its own variable, and on an earlier one
  own_part : (t v k : ℕ) (m : TermDef) (b : Bool) (w : List Bool) → t < length terms + 2 → v < length ranks → length w ≡ length ranks →
      t ≡ k + 2 → slice_get terms k ≡ Some m → made_at terms t ≡ Some m → m.var ≡ v → cert_value terms (part terms v b t) w ≡ cert_value terms t (set w v b)
  own_part t v k m b w h inside size e is at same = by b
    where
      part_is : (b : Bool) → part terms v b t ≡ cond b m.high m.low
      part_is b = ap (λ (q : Option TermDef). part_by q v b t) at ∙ ap (λ (y : Bool). cond y (cond b m.high m.low) t) (eq-eqb m.var v same)

      whole : (b : Bool) → cert_value terms t (set w v b) ≡ cond b (cert_value terms m.high (set w v b)) (cert_value terms m.low (set w v b))
      whole b =
          value_is t k m e is (set w v b)
          ∙ ap (λ x. cond x (cert_value terms m.high (set w v b)) (cert_value terms m.low (set w v b)))
          (ap (λ n. get_or (set w v b) n false) same ∙ get_or-set_same w v b false (omega (arith, inside, size)))

      low : get_or ranks v 0 < rank_of ranks terms m.low
      low = subst (λ n. get_or ranks n 0 < rank_of ranks terms m.low) same (o.low_later k m is)

      high : get_or ranks v 0 < rank_of ranks terms m.high
      high = subst (λ n. get_or ranks n 0 < rank_of ranks terms m.high) same (o.high_later k m is)

      by : (b : Bool) → cert_value terms (part terms v b t) w ≡ cert_value terms t (set w v b)
      by true =
          ap (λ n. cert_value terms n w) (part_is true) ∙ sym (free m.high v true w (let x = o.high k m is in omega (arith, h, e, x)) high) ∙ sym (whole true)
      by false =
          ap (λ n. cert_value terms n w) (part_is false) ∙ sym (free m.low v false w (let x = o.low k m is in omega (arith, h, e, x)) low) ∙ sym (whole false)

  -- at a variable's value, the value of a term is that of its part
  pub part_set : AreRanks ranks → (t v : ℕ) (b : Bool) (w : List Bool) → t < length terms + 2 → v < length ranks → length w ≡ length ranks →
      get_or ranks v 0 ≤ rank_of ranks terms t → cert_value terms (part terms v b t) w ≡ cert_value terms t (set w v b)
  part_set r t v b w h inside size first = by (kind_of terms t h)
    where
      none : (n : ℕ) → t ≡ n → n < 2 → part terms v b t ≡ t
      none n e small = ap (λ (x : Bool). part_by (cond x None (slice_get terms (t - 2))) v b t) (lt-ltb t 2 (omega (arith, e, small)))

      other_part : (m : TermDef) → made_at terms t ≡ Some m → (m.var ≡ v → ⊥) → part terms v b t ≡ t
      other_part m at f = ap (λ (q : Option TermDef). part_by q v b t) at ∙ ap (λ (y : Bool). cond y (cond b m.high m.low) t) (ne_eqb m.var v f)

      other : (k : ℕ) (m : TermDef) → slice_get terms k ≡ Some m → made_at terms t ≡ Some m → (m.var ≡ v → ⊥) → cert_value terms (part terms v b t) w ≡ cert_value terms t (set w v b)
      other k m is at f =
          let apart : get_or ranks v 0 ≢ get_or ranks m.var 0 = λ same. f (sym (r.own v m.var inside (o.within k m is) same)) in
          let early : get_or ranks v 0 < rank_of ranks terms t = (let x = rank_is t m at in less_from (get_or ranks v 0) (rank_of ranks terms t) first (λ same. apart (same ∙ x))) in
          ap (λ n. cert_value terms n w) (other_part m at f) ∙ sym (free t v b w h early)

      by : Kinds terms t → cert_value terms (part terms v b t) w ≡ cert_value terms t (set w v b)
      by (falsehood e) = ap (λ n. cert_value terms n w) (none 0 e (omega arith) ∙ e) ∙ value_zero terms w ∙ sym (value_zero terms (set w v b)) ∙ ap (λ n. cert_value terms n (set w v b)) (sym e)
      by (truth e) = ap (λ n. cert_value terms n w) (none 1 e (omega arith) ∙ e) ∙ value_one terms w ∙ sym (value_one terms (set w v b)) ∙ ap (λ n. cert_value terms n (set w v b)) (sym e)
      by (made k m e is at) = ⊎_elim (own_part t v k m b w h inside size e is at) (other k m is at) (cases_eq m.var v)

  -- a term that was made depends on its variable
  depends : (t k : ℕ) (m : TermDef) → t < length terms + 2 → t ≡ k + 2 → slice_get terms k ≡ Some m →
      ((w : List Bool) → length w ≡ length ranks → cert_value terms t (set w m.var false) ≡ cert_value terms t (set w m.var true)) → ⊥
  depends t k m h e is same = o.differ k m is (λ w size. sym (low w size) ∙ same w size ∙ high w size)
    where
      at : made_at terms t ≡ Some m
      at = ap (made_at terms) e ∙ made_is terms k m is

      part_low : part terms m.var false t ≡ m.low
      part_low = ap (λ (q : Option TermDef). part_by q m.var false t) at ∙ ap (λ (y : Bool). cond y m.low t) (eq-eqb m.var m.var refl)

      part_high : part terms m.var true t ≡ m.high
      part_high = ap (λ (q : Option TermDef). part_by q m.var true t) at ∙ ap (λ (y : Bool). cond y m.high t) (eq-eqb m.var m.var refl)

      low : (w : List Bool) → length w ≡ length ranks → cert_value terms t (set w m.var false) ≡ cert_value terms m.low w
      low w size = sym (own_part t m.var k m false w h (o.within k m is) size e is at refl) ∙ ap (λ n. cert_value terms n w) part_low

      high : (w : List Bool) → length w ≡ length ranks → cert_value terms t (set w m.var true) ≡ cert_value terms m.high w
      high w size = sym (own_part t m.var k m true w h (o.within k m is) size e is at refl) ∙ ap (λ n. cert_value terms n w) part_high

  some_pattern : List Bool
  some_pattern = replicate (length ranks) false

  -- a term with one value at every pattern is 0 or 1
  pub constant : (t : ℕ) (b : Bool) → t < length terms + 2 → ((w : List Bool) → length w ≡ length ranks → cert_value terms t w ≡ b) → t ≡ cond b 1 0
  constant t b h all = by b (kind_of terms t h) all
    where
      by : (b : Bool) → Kinds terms t → ((w : List Bool) → length w ≡ length ranks → cert_value terms t w ≡ b) → t ≡ cond b 1 0
      by true (falsehood e) f = absurd (false≢true (sym (value_zero terms (replicate (length ranks) false)) ∙ ap (λ n. cert_value terms n (replicate (length ranks) false)) (sym e) ∙ f (replicate (length ranks) false) (length-replicate (length ranks) false)))
      by true (truth e) f = e
      by true (made k m e is at) f = absurd (depends t k m h e is (λ w size. f (set w m.var false) (length-set w m.var false ∙ size) ∙ sym (f (set w m.var true) (length-set w m.var true ∙ size))))
      by false (falsehood e) f = e
      by false (truth e) f = absurd (true≢false (sym (value_one terms (replicate (length ranks) false)) ∙ ap (λ n. cert_value terms n (replicate (length ranks) false)) (sym e) ∙ f (replicate (length ranks) false) (length-replicate (length ranks) false)))
      by false (made k m e is at) f = absurd (depends t k m h e is (λ w size. f (set w m.var false) (length-set w m.var false ∙ size) ∙ sym (f (set w m.var true) (length-set w m.var true ∙ size))))

  -- a term that is free of all earlier variables has no earlier rank
  pub rank_from : (t n : ℕ) → t < length terms + 2 → n ≤ length ranks →
      ((y : ℕ) (b : Bool) (w : List Bool) → y < length ranks → get_or ranks y 0 < n → length w ≡ length ranks → cert_value terms t (set w y b) ≡ cert_value terms t w) → n ≤ rank_of ranks terms t
  rank_from t n h most same = by (kind_of terms t h)
    where
      none : (n : ℕ) → t ≡ n → n < 2 → rank_of ranks terms t ≡ length ranks
      none n e small = ap (λ (x : Bool). rank_by ranks (cond x None (slice_get terms (t - 2)))) (lt-ltb t 2 (omega (arith, e, small)))

      by : Kinds terms t → n ≤ rank_of ranks terms t
      by (falsehood e) = (let x = none 0 e (omega arith) in omega (arith, most, x))
      by (truth e) = (let x = none 1 e (omega arith) in omega (arith, most, x))
      by (made k m e is at) = ⊎_elim
          (λ less. absurd (depends t k m h e is (λ w size.
          (let before : get_or ranks m.var 0 < n = (let x = rank_is t m at in omega (arith, less, x)) in
          same m.var false w (o.within k m is) before size ∙ sym (same m.var true w (o.within k m is) before size)))))
          (λ more. more) (cases_lt (rank_of ranks terms t) n)
