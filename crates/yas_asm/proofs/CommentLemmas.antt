-- Comments: which bytes are skipped, and that after a `/*` that isn't closed no later `/*` is closed.
use Rattle.std.proofs.Common.{◌≡◌, ◌<◌, ◌≤◌, sym, ap, ◌∙◌, ℕ, zero, suc, ◌+◌, ◌-◌, Bool, true, false, cond, List, [], ◌∷◌, drop, refl, arith}
use Rattle.std.specs.Prelude.{nat_eq, codes, not, ◌||◌, ◌==◌}
use Rattle.std.specs.List.{starts_with}
use Rattle.std.proofs.lemmas.Bool.Decides.{nat_tests}
use Rattle.yas_asm.specs.Comments.{close_length, comment_length, is_good, bad_outside}

-- the bytes of a comment that has begun are skipped
pub bad_outside-skip : (n : ℕ) (bytes : List ℕ) → bad_outside n bytes ≡ bad_outside 0 (drop n bytes)
unfolding bad_outside
bad_outside-skip zero [] = refl
bad_outside-skip zero (byte ∷ bytes) = refl
bad_outside-skip (suc n) [] = refl
bad_outside-skip (suc n) (byte ∷ bytes) = bad_outside-skip n bytes

later : (found : Bool) (n : ℕ) → cond found 2 (cond (n == 0) 0 (n + 1)) ≡ 0 → n ≡ 0
later true n e = cc
later false n e = grind (arith, nat_tests)

-- if there is no `*/`, there is none further on
pub close_length-drop : (text : List ℕ) → close_length text ≡ 0 → close_length (drop 1 text) ≡ 0
unfolding close_length
close_length-drop [] e = refl
close_length-drop (byte ∷ bytes) e = later (starts_with nat_eq (byte ∷ bytes) (codes "*/")) (close_length bytes) e

pub no_close_behind : (text : List ℕ) → close_length (drop 2 text) ≡ 0 → close_length (drop 2 (drop 1 text)) ≡ 0
unfolding close_length
no_close_behind [] e = refl
no_close_behind (a ∷ []) e = refl
no_close_behind (a ∷ b ∷ text) e = close_length-drop text e

at_comment : (n byte : ℕ) (bytes : List ℕ) → 0 < n → cond (n == 0) (not (is_good byte) || bad_outside 0 bytes) (bad_outside (n - 1) bytes) ≡ bad_outside 0 (drop n (byte ∷ bytes))
at_comment zero byte bytes h = absurd (omega arith)
at_comment (suc n) byte bytes h =
    let e : (suc n == 0) ≡ false = grind (arith, nat_tests) in
    let m : suc n - 1 ≡ n = omega arith in
    rw (e, m) (bad_outside-skip n bytes)

-- the sweep continues after a comment
pub bad_outside-comment : (text rest : List ℕ) (n : ℕ) → n ≡ comment_length text → 0 < n → rest ≡ drop n text → bad_outside 0 rest ≡ bad_outside 0 text
unfolding bad_outside
bad_outside-comment [] rest zero e h f = absurd (omega arith)
bad_outside-comment [] rest (suc n) e h f = rw f refl
bad_outside-comment (byte ∷ bytes) rest n e h f = rw (f, ← e) (sym (at_comment n byte bytes h))

at_plain : (n byte : ℕ) (bytes : List ℕ) → n ≤ 0 → cond (n == 0) (not (is_good byte) || bad_outside 0 bytes) (bad_outside (n - 1) bytes) ≡ (not (is_good byte) || bad_outside 0 bytes)
at_plain zero byte bytes h = refl
at_plain (suc n) byte bytes h = absurd (omega arith)

-- if no comment begins here, the byte counts
pub bad_outside-plain : (text bytes : List ℕ) (byte n : ℕ) → n ≡ comment_length text → n ≤ 0 → text ≡ byte ∷ bytes → bad_outside 0 text ≡ (not (is_good byte) || bad_outside 0 bytes)
unfolding bad_outside
bad_outside-plain text bytes byte n e h f = rw f (rw (← f, ← e) (at_plain n byte bytes h))

pub plain_bad : (text bytes : List ℕ) (byte n : ℕ) (good : Bool) → n ≡ comment_length text → n ≤ 0 → text ≡ byte ∷ bytes → good ≡ is_good byte → good ≡ false → true ≡ bad_outside 0 text
plain_bad text bytes byte n good e h f g b = sym (bad_outside-plain text bytes byte n e h f ∙ ap (λ x. not x || bad_outside 0 bytes) (sym g ∙ b))

pub plain_good : (text bytes : List ℕ) (byte n : ℕ) (good : Bool) → n ≡ comment_length text → n ≤ 0 → text ≡ byte ∷ bytes → good ≡ is_good byte → good ≡ true → bad_outside 0 bytes ≡ bad_outside 0 text
plain_good text bytes byte n good e h f g b = sym (bad_outside-plain text bytes byte n e h f ∙ ap (λ x. not x || bad_outside 0 bytes) (sym g ∙ b))

pub bad_outside-empty : (text : List ℕ) → text ≡ [] → bad_outside 0 text ≡ false
unfolding bad_outside
bad_outside-empty text e = rw e refl

pub ruleset sweeps = (bad_outside-comment, bad_outside-empty)
