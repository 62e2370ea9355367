-- The sweep for bad bytes: what it passes, and two kinds of lines for which its result is obvious.
use Rattle.std.proofs.Common.{◌≡◌, ◌+◌, ◌<◌, ◌≤◌, ap, sym, ◌∙◌, ℕ, zero, suc, ◌-◌, Bool, true, false, cond, List, [], ◌∷◌, ◌++◌, length, drop, refl, arith}
use Rattle.std.specs.Prelude.{nat_eq, not, ◌&&◌, ◌||◌, ◌==◌, codes}
use Rattle.std.specs.List.{list_all, starts_with}
use Rattle.std.proofs.lemmas.Bool.{false≢true, not-true, eqb-true, and_parts, and_right, or_right}
use Rattle.std.proofs.lemmas.Bool.Decides.{nat_tests}
use Rattle.yas_asm.specs.Comments.{close_length, comment_length, is_good, bad_outside}
use Rattle.yas_asm.specs.Laws.{begins_no_comment, CloseIsFirst, SweepPassesComments}
use Rattle.yas_asm.proofs.CommentLemmas.{bad_outside-comment, bad_outside-plain}
use Rattle.yas_laws.proofs.SpacingLemmas.{no_comment}

pub all_good : (inside : ℕ) (text : List ℕ) → list_all is_good text ≡ true → bad_outside inside text ≡ false
unfolding bad_outside
all_good zero [] e = refl
all_good (suc inside) [] e = refl
all_good zero (byte ∷ bytes) e =
    let two = and_parts (is_good byte) (list_all is_good bytes) e in
    by (comment_length (byte ∷ bytes) == 0) (is_good byte) two.0 (all_good zero bytes two.1) (all_good (comment_length (byte ∷ bytes) - 1) bytes two.1)
  where
    by : (plain good : Bool) → good ≡ true → bad_outside 0 bytes ≡ false → bad_outside (comment_length (byte ∷ bytes) - 1) bytes ≡ false
        → cond plain (not good || bad_outside 0 bytes) (bad_outside (comment_length (byte ∷ bytes) - 1) bytes) ≡ false
    by true true g next behind = next
    by true false g next behind = absurd (false≢true g)
    by false good g next behind = behind
all_good (suc inside) (byte ∷ bytes) e = all_good inside bytes (and_parts (is_good byte) (list_all is_good bytes) e).1

pub at_byte : (byte : ℕ) (bytes : List ℕ) → comment_length (byte ∷ bytes) ≡ 0 → bad_outside 0 (byte ∷ bytes) ≡ (not (is_good byte) || bad_outside 0 bytes)
at_byte byte bytes e = bad_outside-plain (byte ∷ bytes) bytes byte 0 (sym e) (omega arith) refl

-- a bad byte begins no comment
bad_begins : (byte : ℕ) (bytes : List ℕ) → is_good byte ≡ false → comment_length (byte ∷ bytes) ≡ 0
bad_begins byte bytes e = no_comment byte bytes (other 35 refl) (other 47 refl)
  where
    other : (c : ℕ) → is_good c ≡ true → (byte == c) ≡ false
    other c good = by (byte == c) refl
      where
        by : (b : Bool) → (byte == c) ≡ b → b ≡ false
        by true t = absurd (false≢true (sym e ∙ ap is_good (eqb-true byte c t) ∙ good))
        by false t = refl

first_bad : (before after : List ℕ) (byte : ℕ) → list_all begins_no_comment before ≡ true → is_good byte ≡ false → bad_outside 0 (before ++ byte ∷ after) ≡ true
first_bad [] after byte e bad = at_byte byte after (bad_begins byte after bad) ∙ ap (λ good. not good || bad_outside 0 after) bad
first_bad (x ∷ before) after byte e bad =
    let two = and_parts (begins_no_comment x) (list_all begins_no_comment before) e in
    let here = and_parts (not (x == 35)) (not (x == 47)) two.0 in
    at_byte x (before ++ byte ∷ after) (no_comment x (before ++ byte ∷ after) (not-true (x == 35) here.0) (not-true (x == 47) here.1))
    ∙ ap (λ rest. not (is_good x) || rest) (first_bad before after byte two.1 bad) ∙ or_right (not (is_good x)) true refl

pub sweep_passes_comments : SweepPassesComments
sweep_passes_comments = record {
  comment = λ text some. sym (bad_outside-comment text (drop (comment_length text) text) (comment_length text) refl some refl);
  plain = at_byte;
  good = all_good 0;
  bad = first_bad;
}

-- where a text begins with `*/`
star_slash : (text : List ℕ) → starts_with nat_eq text (codes "*/") ≡ true → text ≡ 42 ∷ 47 ∷ drop 2 text
star_slash [] e = absurd (false≢true e)
star_slash (a ∷ []) e = absurd (false≢true (sym (and_right (nat_eq 42 a) false refl) ∙ e))
star_slash (a ∷ b ∷ text) e =
    let two = and_parts (nat_eq 42 a) (nat_eq 47 b && true) e in
    let next = and_parts (nat_eq 47 b) true two.1 in
    λ i. sym (eqb-true 42 a two.0) i ∷ sym (eqb-true 47 b next.0) i ∷ text

module _ (byte : ℕ) (bytes : List ℕ) where
  close_there : (here : Bool) (n : ℕ) → starts_with nat_eq (byte ∷ bytes) (codes "*/") ≡ here
      → (0 < n → (2 ≤ n) × (drop (n - 2) bytes ≡ 42 ∷ 47 ∷ drop n bytes)) → 0 < cond here 2 (cond (n == 0) 0 (n + 1))
      → (2 ≤ cond here 2 (cond (n == 0) 0 (n + 1)))
      × (drop (cond here 2 (cond (n == 0) 0 (n + 1)) - 2) (byte ∷ bytes) ≡ 42 ∷ 47 ∷ drop (cond here 2 (cond (n == 0) 0 (n + 1))) (byte ∷ bytes))
  close_there true n s later some = (omega arith, star_slash (byte ∷ bytes) s)
  close_there false zero s later some = absurd (omega arith)
  close_there false (suc n) s later some = behind (suc n == 0) (grind (arith, nat_tests)) some
    where
      behind : (b : Bool) → b ≡ false → 0 < cond b 0 (suc n + 1)
          → (2 ≤ cond b 0 (suc n + 1)) × (drop (cond b 0 (suc n + 1) - 2) (byte ∷ bytes) ≡ 42 ∷ 47 ∷ drop (cond b 0 (suc n + 1)) (byte ∷ bytes))
      behind true e some = absurd (false≢true (sym e))
      behind false e some =
          let h = later (omega arith) in
          let at : suc n + 1 - 2 ≡ suc (suc n - 2) = omega (arith, h.0) in
          let end : suc n + 1 ≡ suc (suc n) = omega arith in
          (omega arith, ap (λ k. drop k (byte ∷ bytes)) at ∙ h.1 ∙ ap (λ k. 42 ∷ 47 ∷ drop k (byte ∷ bytes)) (sym end))

  close_first : (here : Bool) (n m : ℕ) → (0 < n) × (n ≤ m + 2) → (0 < cond here 2 (cond (n == 0) 0 (n + 1))) × (cond here 2 (cond (n == 0) 0 (n + 1)) ≤ m + 3)
  close_first true n m h = (omega arith, omega arith)
  close_first false n m h = by (n == 0) (grind (arith, nat_tests, h.0))
    where
      by : (b : Bool) → b ≡ false → (0 < cond b 0 (n + 1)) × (cond b 0 (n + 1) ≤ m + 3)
      by true e = absurd (false≢true (sym e))
      by false e = (omega arith, omega (arith, h.1))

found_there : (text : List ℕ) → 0 < close_length text → (2 ≤ close_length text) × (drop (close_length text - 2) text ≡ 42 ∷ 47 ∷ drop (close_length text) text)
unfolding close_length
found_there [] some = absurd (omega arith)
found_there (byte ∷ bytes) some = close_there byte bytes (starts_with nat_eq (byte ∷ bytes) (codes "*/")) (close_length bytes) refl (found_there bytes) some

found_first : (before after : List ℕ) → (0 < close_length (before ++ 42 ∷ 47 ∷ after)) × (close_length (before ++ 42 ∷ 47 ∷ after) ≤ length before + 2)
unfolding close_length
found_first [] after = (omega arith, omega arith)
found_first (byte ∷ before) after =
    let two = close_first byte (before ++ 42 ∷ 47 ∷ after) (starts_with nat_eq (byte ∷ before ++ 42 ∷ 47 ∷ after) (codes "*/")) (close_length (before ++ 42 ∷ 47 ∷ after)) (length before) (found_first before after) in
    (two.0, omega (arith, two.1))

pub close_is_first : CloseIsFirst
close_is_first = record { there = found_there; first = found_first }
