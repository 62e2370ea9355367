-- The sweep for bad bytes finds one exactly if there is one outside the comments.
use Rattle.std.proofs.Common.{◌≡◌, ◌⊎◌, inl, inr, ap, sym, ◌∙◌, ℕ, zero, suc, ◌<◌, ◌≤◌, Bool, true, false, List, [], ◌∷◌, length, drop, refl, arith, length-drop}
use Rattle.std.specs.Prelude.{not, ◌||◌}
use Rattle.std.proofs.lemmas.Bool.{false≢true, or_right}
use Rattle.std.proofs.lemmas.Bool.Decides.{nat_tests}
use Rattle.yas_asm.specs.Comments.{bad_outside, comment_length, is_good}
use Rattle.yas_laws.proofs.SweepLaw.{sweep_passes_comments}
use Rattle.yas_language.specs.Tokens.{IsComment, hash, slashes, closed}
use Rattle.yas_language.specs.BadBytes.{HasBadByte, here, behind_byte, behind_comment, IsGoodByte}
use Rattle.yas_language.proofs.Comments.{comment_found, comment_measured}

good_allowed : (byte : ℕ) → is_good byte ≡ false → IsGoodByte byte → ⊥
good_allowed byte e (inl t) = by byte t e
  where
    by : (byte : ℕ) → byte ≡ 9 → is_good byte ≡ false → ⊥
    by byte t e = absurd (false≢true (sym e ∙ ap is_good t))
good_allowed byte e (inr (inl t)) = absurd (false≢true (sym e ∙ ap is_good t))
good_allowed byte e (inr (inr two)) = by two.0 two.1 e
  where
    by : 32 ≤ byte → byte ≤ 126 → is_good byte ≡ false → ⊥
    by l m e = grind (arith, nat_tests)

not_good : (byte : ℕ) → (IsGoodByte byte → ⊥) → is_good byte ≡ false
not_good byte none = by (is_good byte) refl
  where
    allowed : is_good byte ≡ true → IsGoodByte byte
    allowed e = grind (arith, nat_tests)

    by : (b : Bool) → is_good byte ≡ b → b ≡ false
    by true e = absurd (none (allowed e))
    by false e = refl

zero_or : (n : ℕ) → (n ≡ 0) ⊎ (0 < n)
zero_or zero = inl refl
zero_or (suc n) = inr (omega arith)

-- if no comment begins here, its length is 0
no_length : (text : List ℕ) → ((rest : List ℕ) → IsComment text rest → ⊥) → comment_length text ≡ 0
no_length text none = by (zero_or (comment_length text))
  where
    by : (comment_length text ≡ 0) ⊎ (0 < comment_length text) → comment_length text ≡ 0
    by (inl e) = e
    by (inr lt) = absurd (none (drop (comment_length text) text) (comment_found text lt))

no_comment : (byte : ℕ) (bytes : List ℕ) → is_good byte ≡ false → (rest : List ℕ) → IsComment (byte ∷ bytes) rest → ⊥
no_comment byte bytes bad rest is = at (byte ∷ bytes) rest is byte bytes refl bad
  where
    first : (x y : ℕ) (xs ys : List ℕ) → x ∷ xs ≡ y ∷ ys → x ≡ y
    first x y xs ys e = cc

    at : (text rest : List ℕ) → IsComment text rest → (byte : ℕ) (bytes : List ℕ) → text ≡ byte ∷ bytes → is_good byte ≡ false → ⊥
    at _ _ (hash t) byte bytes e bad = false≢true (sym bad ∙ ap is_good (sym (first 35 byte t bytes e)))
    at _ _ (slashes t) byte bytes e bad = false≢true (sym bad ∙ ap is_good (sym (first 47 byte (47 ∷ t) bytes e)))
    at _ _ (closed inside rest none) byte bytes e bad = false≢true (sym bad ∙ ap is_good (sym (first 47 byte _ bytes e)))

pub bad_read : (text : List ℕ) → HasBadByte text → bad_outside 0 text ≡ true
bad_read _ (here byte bytes none) =
    let bad : is_good byte ≡ false = not_good byte none in
    sweep_passes_comments.plain byte bytes (no_length (byte ∷ bytes) (no_comment byte bytes bad)) ∙ ap (λ b. not b || bad_outside 0 bytes) bad
bad_read _ (behind_byte byte bytes none h) =
    sweep_passes_comments.plain byte bytes (no_length (byte ∷ bytes) none) ∙ ap (λ b. not (is_good byte) || b) (bad_read bytes h) ∙ or_right (not (is_good byte)) true refl
bad_read _ (behind_comment text rest is h) =
    let m = comment_measured text rest is in
    sweep_passes_comments.comment text m.some ∙ ap (bad_outside 0) m.behind_is ∙ bad_read rest h

found_within : (most : ℕ) (text : List ℕ) → length text ≤ most → bad_outside 0 text ≡ true → HasBadByte text
unfolding bad_outside
found_within most [] fits e = absurd (false≢true e)
found_within zero (byte ∷ bytes) fits e = absurd (omega arith)
found_within (suc most) (byte ∷ bytes) fits e =
    by (zero_or (comment_length (byte ∷ bytes))) (found_within most bytes (omega arith)) (found_within most (drop (comment_length (byte ∷ bytes)) (byte ∷ bytes)))
  where
    plain : (b : Bool) → is_good byte ≡ b → comment_length (byte ∷ bytes) ≡ 0 → (bad_outside 0 bytes ≡ true → HasBadByte bytes) → (not b || bad_outside 0 bytes) ≡ true → HasBadByte (byte ∷ bytes)
    plain true g n later f = behind_byte byte bytes (λ rest is. zero_not (comment_measured (byte ∷ bytes) rest is).some n) (later f)
      where
        zero_not : 0 < comment_length (byte ∷ bytes) → comment_length (byte ∷ bytes) ≡ 0 → ⊥
        zero_not lt z = omega (arith, lt, z)
    plain false g n later f = here byte bytes (good_allowed byte g)

    by : (comment_length (byte ∷ bytes) ≡ 0) ⊎ (0 < comment_length (byte ∷ bytes)) → (bad_outside 0 bytes ≡ true → HasBadByte bytes)
        → (length (drop (comment_length (byte ∷ bytes)) (byte ∷ bytes)) ≤ most → bad_outside 0 (drop (comment_length (byte ∷ bytes)) (byte ∷ bytes)) ≡ true
        → HasBadByte (drop (comment_length (byte ∷ bytes)) (byte ∷ bytes)))
        → HasBadByte (byte ∷ bytes)
    by (inl n) later behind = plain (is_good byte) refl n later (sym (sweep_passes_comments.plain byte bytes n) ∙ e)
    by (inr lt) later behind =
        let short : length (drop (comment_length (byte ∷ bytes)) (byte ∷ bytes)) ≤ most = rw (length-drop (comment_length (byte ∷ bytes)) (byte ∷ bytes)) (omega (arith, lt, fits)) in
        behind_comment (byte ∷ bytes) (drop (comment_length (byte ∷ bytes)) (byte ∷ bytes)) (comment_found (byte ∷ bytes) lt) (behind short (sym (sweep_passes_comments.comment (byte ∷ bytes) lt) ∙ e))

pub bad_found : (text : List ℕ) → bad_outside 0 text ≡ true → HasBadByte text
bad_found text e = found_within (length text) text (omega arith) e
