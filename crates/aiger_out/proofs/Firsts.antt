-- The first line that defines a variable, line after line.
use Rattle.std.proofs.Common.{◌≡◌, ◌≢◌, ◌⊎◌, inl, inr, ℕ, zero, suc, ◌+◌, ◌<◌, ◌≤◌, Bool, true, false, ◌&&◌, ◌||◌, ◌==◌, nat_lt, if◌then◌else◌, List, ◌++◌, length, take, drop, get_or, set, replicate, refl, sym, ap, ◌∙◌, arith, add-one}
use Rattle.std.proofs.lemmas.Bool.{cases_lt, cases_eq}
use Rattle.std.proofs.lemmas.Bool.Decides.{nat_tests}
use Rattle.std.proofs.lemmas.List.{get_or-set_same, get_or-set_other, length-replicate, take-append-le, take_all}
use Rattle.std.proofs.Math.ListN.{length-set}
use Rattle.aiger_out.specs.declared.form.Header.{Header}
use Rattle.aiger_out.specs.declared.form.AagLine.{AagLine}
use Rattle.aiger_out.specs.declared.form.AagLine.TheVariants.{Other}
use Rattle.aiger_out.specs.Form.{defines, is_defined}
use Rattle.aiger_out.specs.Rows.{AreFirsts, first_at, nowhere}

pub defined_next : (h : Header) (at : ℕ → AagLine) (j v : ℕ) → is_defined h at (j + 1) v ≡ (is_defined h at j v || defines h (at j) v)
unfolding is_defined
defined_next h at j v = rw add-one refl

-- the place that is kept
abbrev pub kept : Bool → ℕ → ℕ → ℕ
kept d o j = if d && o == nowhere then j else o

earlier : (d : Bool) (o j i : ℕ) → i ≤ j → j < nowhere → nat_lt o i ≡ nat_lt (kept d o j) i
earlier true o j i h s = grind (arith, nat_tests)
earlier false o j i h s = refl

this : (d : Bool) (o j : ℕ) → j < nowhere → (o < j) ⊎ (o ≡ nowhere) → (nat_lt o j || d) ≡ nat_lt (kept d o j) (j + 1)
this true o j s (inl h) = grind (arith, nat_tests)
this true o j s (inr e) = grind (arith, nat_tests)
this false o j s (inl h) = grind (arith, nat_tests)
this false o j s (inr e) = grind (arith, nat_tests)

place : (d : Bool) (o j : ℕ) → (o < j) ⊎ (o ≡ nowhere) → (kept d o j < j + 1) ⊎ (kept d o j ≡ nowhere)
place true o j (inl h) = grind (arith, nat_tests)
place true o j (inr e) = grind (arith, nat_tests)
place false o j (inl h) = inl (omega (arith, h))
place false o j (inr e) = inr e

place_told : (f n : ℕ) → (f < n) ⊎ (f ≡ nowhere) → f ≢ nowhere → f < n
place_told f n (inl l) ne = l
place_told f n (inr e) ne = absurd (ne e)

place_cases : (f n : ℕ) → (f ≢ nowhere → f < n) → (f < n) ⊎ (f ≡ nowhere)
place_cases f n h = by (cases_eq f nowhere)
  where
    by : (f ≡ nowhere) ⊎ (f ≢ nowhere) → (f < n) ⊎ (f ≡ nowhere)
    by (inl e) = inr e
    by (inr ne) = inl (h ne)

pub firsts_more : (h : Header) (at : ℕ → AagLine) (j : ℕ) (old new : List ℕ) → AreFirsts h at j old → 1 ≤ j → j < nowhere → length new ≡ length old
    → ((v : ℕ) → first_at new v ≡ kept (defines h (at j) v) (first_at old v) j) → AreFirsts h at (j + 1) new
firsts_more h at j old new a some small size is = record {
  size = size ∙ a.size;
  places = λ v. place_told (first_at new v) (j + 1) (by_place v (place (defines h (at j) v) (first_at old v) j (told v)));
  defined = λ i v from to. by i v from to (cases_lt i (j + 1));
}
  where
    told : (v : ℕ) → (first_at old v < j) ⊎ (first_at old v ≡ nowhere)
    told v = place_cases (first_at old v) j (a.places v)

    by_place : (v : ℕ) → (kept (defines h (at j) v) (first_at old v) j < j + 1) ⊎ (kept (defines h (at j) v) (first_at old v) j ≡ nowhere) → (first_at new v < j + 1) ⊎ (first_at new v ≡ nowhere)
    by_place v (inl l) = inl (omega (arith, is v, l))
    by_place v (inr e) = inr (is v ∙ e)

    by : (i v : ℕ) → 1 ≤ i → i ≤ j + 1 → (i < j + 1) ⊎ (j + 1 ≤ i) → is_defined h at i v ≡ nat_lt (first_at new v) i
    by i v from to (inl low) =
        a.defined i v from (omega (arith, low))
        ∙ (earlier (defines h (at j) v) (first_at old v) j i (omega (arith, low)) small ∙ sym (ap (λ (n : ℕ). nat_lt n i) (is v)))
    by i v from to (inr le) =
        let e : i ≡ j + 1 = omega (arith, to, le) in
        ap (λ (n : ℕ). is_defined h at n v) e
        ∙ (defined_next h at j v
        ∙ (ap (λ (b : Bool). b || defines h (at j) v) (a.defined j v some (omega arith))
        ∙ (this (defines h (at j) v) (first_at old v) j small (told v)
        ∙ (sym (ap (λ (n : ℕ). nat_lt n (j + 1)) (is v)) ∙ sym (ap (λ (n : ℕ). nat_lt (first_at new v) n) e)))))

all_nowhere : (n v : ℕ) → get_or (replicate n nowhere) v nowhere ≡ nowhere
all_nowhere zero v = refl
all_nowhere (suc n) zero = refl
all_nowhere (suc n) (suc v) = all_nowhere n v

nothing : (h : Header) (line : AagLine) (v : ℕ) → line ≡ Other → defines h line v ≡ false
nothing h line v e = ap (λ (x : AagLine). defines h x v) e

first_defined : (h : Header) (at : ℕ → AagLine) (v : ℕ) → at 0 ≡ Other → is_defined h at 1 v ≡ ((v == 0) || false)
unfolding is_defined
first_defined h at v e = ap (λ (b : Bool). (v == 0) || b) (nothing h (at 0) v e)

pub firsts_start : (h : Header) (at : ℕ → AagLine) (n : ℕ) → at 0 ≡ Other → n ≡ h.most + 1 → AreFirsts h at 1 (set (replicate n nowhere) 0 0)
firsts_start h at n e size = record {
  size = length-set (replicate n nowhere) 0 0 ∙ (length-replicate n nowhere ∙ size);
  places = λ v. place_told (first_at (set (replicate n nowhere) 0 0) v) 1 (by_place v (cases_eq v 0));
  defined = λ j v from to. ap (λ (i : ℕ). is_defined h at i v) (one j from to) ∙ (first_defined h at v e ∙ (by v (cases_eq v 0) ∙ sym (ap (λ (i : ℕ). nat_lt (first_at start v) i) (one j from to))));
}
  where
    start : List ℕ
    start = set (replicate n nowhere) 0 0

    one : (j : ℕ) → 1 ≤ j → j ≤ 1 → j ≡ 1
    one j from to = omega (arith, from, to)

    at_zero : get_or (set (replicate n nowhere) 0 0) 0 nowhere ≡ 0
    at_zero = get_or-set_same (replicate n nowhere) 0 0 nowhere (omega (arith, length-replicate n nowhere, size))

    at_other : (v : ℕ) → v ≢ 0 → get_or (set (replicate n nowhere) 0 0) v nowhere ≡ nowhere
    at_other v ne = get_or-set_other (replicate n nowhere) 0 v 0 nowhere ne ∙ all_nowhere n v

    by_place : (v : ℕ) → (v ≡ 0) ⊎ (v ≢ 0) → (first_at (set (replicate n nowhere) 0 0) v < 1) ⊎ (first_at (set (replicate n nowhere) 0 0) v ≡ nowhere)
    by_place v (inl z) = inl (omega (arith, ap (λ (i : ℕ). get_or (set (replicate n nowhere) 0 0) i nowhere) z, at_zero))
    by_place v (inr ne) = inr (at_other v ne)

    by : (v : ℕ) → (v ≡ 0) ⊎ (v ≢ 0) → ((v == 0) || false) ≡ nat_lt (first_at (set (replicate n nowhere) 0 0) v) 1
    by v (inl z) = let f : first_at (set (replicate n nowhere) 0 0) v ≡ 0 = ap (λ (i : ℕ). get_or (set (replicate n nowhere) 0 0) i nowhere) z ∙ at_zero in grind (arith, nat_tests)
    by v (inr ne) = let f : first_at (set (replicate n nowhere) 0 0) v ≡ nowhere = at_other v ne in grind (arith, nat_tests)

-- a slice of a vector that was borrowed whole and returned
pub lent : (n : ℕ) (new old : List ℕ) → length new ≡ n → take n (new ++ drop (length new) old) ≡ new
lent n new old size = take-append-le n new (drop (length new) old) (omega (arith, size)) ∙ take_all n new (omega (arith, size))
