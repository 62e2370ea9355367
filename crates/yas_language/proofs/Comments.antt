-- Comments as a relation, which agrees with the lengths that the assembler computes.
use Rattle.std.proofs.Common.{◌≡◌, ap, sym, subst, ◌∙◌, ℕ, zero, suc, ◌+◌, ◌-◌, ◌<◌, ◌≤◌, Bool, true, false, cond, List, [], ◌∷◌, ◌++◌, length, take, drop, take_while, refl, arith, length-append, length-drop, length-take}
use Rattle.yas_laws.proofs.SpacingLemmas.{ends_at-none}
use Rattle.std.specs.Prelude.{nat_eq, not, ◌&&◌, ◌||◌, ◌==◌, codes}
use Rattle.std.specs.List.{list_all, starts_with}
use Rattle.std.proofs.lemmas.Bool.{eqb-true}
use Rattle.std.proofs.lemmas.Bool.Decides.{nat_tests}
use Rattle.std.proofs.lemmas.List.{append_assoc, append-nil, take-append-drop}
use Rattle.std.proofs.Math.Seq.{drop-append_seam, drop-length}
use Rattle.y86_base.specs.Text.{begins, behind, is_blank}
use Rattle.y86_base.proofs.Runs.{behind-run, list_all-append, run_and_rest, run_passes}
use Rattle.yas_asm.specs.Comments.{close_length, comment_length, ends, ends_at}
use Rattle.yas_laws.proofs.SweepLaw.{close_is_first}
use Rattle.yas_language.specs.Tokens.{IsComment, hash, slashes, closed, IsEnd, plain, commented, NoClose}

-- no `*/` is at the front of the text before the first `*/`
close_here : (byte : ℕ) (inside rest : List ℕ) → NoClose (byte ∷ (inside ++ 42 ∷ [])) → starts_with nat_eq (byte ∷ (inside ++ 42 ∷ 47 ∷ rest)) (codes "*/") ≡ false
close_here byte [] rest none = by (nat_eq 42 byte)
  where
    by : (b : Bool) → (b && (nat_eq 47 42 && true)) ≡ false
    by true = refl
    by false = refl
close_here byte (next ∷ inside) rest none = by (nat_eq 42 byte) (nat_eq 47 next) refl refl
  where
    by : (a b : Bool) → nat_eq 42 byte ≡ a → nat_eq 47 next ≡ b → (a && (b && true)) ≡ false
    by false b e f = refl
    by true false e f = refl
    by true true e f =
        absurd (none [] (inside ++ 42 ∷ []) (λ i. sym (eqb-true 42 byte e) i ∷ sym (eqb-true 47 next f) i ∷ (inside ++ 42 ∷ [])))

two_more : (m : ℕ) → (m + 2 == 0) ≡ false
two_more m = grind (arith, nat_tests)

not_zero : (n m : ℕ) → n ≡ m + 2 → cond (n == 0) 0 (n + 1) ≡ m + 1 + 2
not_zero n m e = rw e (ap (λ b. cond b 0 (m + 2 + 1)) (two_more m) ∙ omega arith)

close_is : (inside rest : List ℕ) → NoClose (inside ++ 42 ∷ []) → close_length (inside ++ 42 ∷ 47 ∷ rest) ≡ length inside + 2
unfolding close_length
close_is [] rest none = refl
close_is (byte ∷ inside) rest none =
    let later : NoClose (inside ++ 42 ∷ []) = λ before after e. none (byte ∷ before) after (ap (λ t. byte ∷ t) e) in
    ap (λ b. cond b 2 (cond (close_length (inside ++ 42 ∷ 47 ∷ rest) == 0) 0 (close_length (inside ++ 42 ∷ 47 ∷ rest) + 1))) (close_here byte inside rest none)
    ∙ not_zero (close_length (inside ++ 42 ∷ 47 ∷ rest)) (length inside) (close_is inside rest later) ∙ omega arith

drop_two : (n a b : ℕ) (t : List ℕ) → drop (2 + n) (a ∷ b ∷ t) ≡ drop n t
drop_two n a b t = let e : 2 + n ≡ suc (suc n) = omega arith in ap (λ k. drop k (a ∷ b ∷ t)) e

-- a comment has a length, which gives the rest after it
pub record IsMeasured (text rest : List ℕ) : Type 0 where
  pub some : 0 < comment_length text
  pub behind_is : drop (comment_length text) text ≡ rest

behind_closed : (inside rest : List ℕ) → drop (length inside + 2) (inside ++ 42 ∷ 47 ∷ rest) ≡ rest
behind_closed inside rest =
    ap (λ t. drop (length inside + 2) t) (sym (append_assoc inside (42 ∷ 47 ∷ []) rest))
    ∙ ap (λ n. drop n ((inside ++ 42 ∷ 47 ∷ []) ++ rest)) (two inside) ∙ drop-append_seam (inside ++ 42 ∷ 47 ∷ []) rest
  where
    two : (inside : List ℕ) → length inside + 2 ≡ length (inside ++ 42 ∷ 47 ∷ [])
    two [] = refl
    two (x ∷ inside) = omega (arith, two inside)

pub comment_measured : (text rest : List ℕ) → IsComment text rest → IsMeasured text rest
unfolding comment_length
comment_measured _ _ (hash text) = record { some = omega arith; behind_is = drop-length (35 ∷ text) }
comment_measured _ _ (slashes text) = record { some = omega arith; behind_is = drop-length (47 ∷ 47 ∷ text) }
comment_measured _ _ (closed inside rest none) =
    let n : close_length (inside ++ 42 ∷ 47 ∷ rest) ≡ length inside + 2 = close_is inside rest none in
    let m : cond (not (close_length (inside ++ 42 ∷ 47 ∷ rest) == 0)) (2 + close_length (inside ++ 42 ∷ 47 ∷ rest)) 0 ≡ 2 + (length inside + 2) =
    ap (λ k. cond (not (k == 0)) (2 + k) 0) n ∙ ap (λ b. cond (not b) (2 + (length inside + 2)) 0) (two_more (length inside)) in
    record {
      some = subst (λ k. 0 < k) (sym m) (omega arith);
      behind_is = ap (λ k. drop k (47 ∷ 42 ∷ (inside ++ 42 ∷ 47 ∷ rest))) m ∙ drop_two (length inside + 2) 47 42 (inside ++ 42 ∷ 47 ∷ rest) ∙ behind_closed inside rest;
    }

-- and conversely: a text in front that has a length as a comment is one
body_of : (inner : List ℕ) → 0 < close_length inner → IsComment (47 ∷ 42 ∷ inner) (drop (close_length inner) inner)
body_of inner some =
    let n = close_length inner in
    let there = close_is_first.there inner some in
    let inside : List ℕ = take (n - 2) inner in
    let rest : List ℕ = drop n inner in
    let whole : inner ≡ inside ++ 42 ∷ 47 ∷ rest = sym (take-append-drop (n - 2) inner) ∙ ap (λ t. inside ++ t) there.1 in
    let size : length inner ≡ length inside + length (42 ∷ 47 ∷ rest) = ap length whole ∙ length-append inside (42 ∷ 47 ∷ rest) in
    let long : length inside ≡ n - 2 = long_enough inner n there.0 there.1 in
    let none : NoClose (inside ++ 42 ∷ []) = λ before after e.
    let again : inner ≡ before ++ 42 ∷ 47 ∷ (after ++ 47 ∷ rest) =
    whole ∙ sym (append_assoc inside (42 ∷ []) (47 ∷ rest)) ∙ ap (λ t. t ++ 47 ∷ rest) e ∙ append_assoc before (42 ∷ 47 ∷ after) (47 ∷ rest) in
    let least : close_length inner ≤ length before + 2 = subst (λ t. close_length t ≤ length before + 2) (sym again) (close_is_first.first before (after ++ 47 ∷ rest)).1 in
    let short : length inside + 1 ≡ length before + length (42 ∷ 47 ∷ after) = sym (length-append inside (42 ∷ [])) ∙ ap length e ∙ length-append before (42 ∷ 47 ∷ after) in
    omega (arith, least, short, long, there.0) in
    subst (λ t. IsComment (47 ∷ 42 ∷ t) rest) (sym whole) (closed inside rest none)
  where
    long_enough : (inner : List ℕ) (n : ℕ) → 2 ≤ n → drop (n - 2) inner ≡ 42 ∷ 47 ∷ drop n inner → length (take (n - 2) inner) ≡ n - 2
    long_enough inner n two e =
        let size : length inner - (n - 2) ≡ length (42 ∷ 47 ∷ drop n inner) = sym (length-drop (n - 2) inner) ∙ ap length e in
        length-take (n - 2) inner ∙ omega (arith, size)

abbrev length_by : ℕ → ℕ → List ℕ → Bool → Bool → Bool → Bool → ℕ
length_by byte next bytes h s t u =
    cond (h || (s && (t && true))) (length (byte ∷ next ∷ bytes)) (cond ((s && (u && true)) && not (close_length bytes == 0)) (2 + close_length bytes) 0)

pub comment_found : (text : List ℕ) → 0 < comment_length text → IsComment text (drop (comment_length text) text)
unfolding comment_length
comment_found [] some = absurd (omega (arith, some))
comment_found (byte ∷ []) some = by (byte == 35) refl (nat_eq 47 byte) some
  where
    by : (h : Bool) → (byte == 35) ≡ h → (s : Bool)
        → 0 < cond (h || (s && false)) 1 (cond ((s && false) && not (close_length [] == 0)) (2 + close_length []) 0)
        → IsComment (byte ∷ []) (drop (cond (h || (s && false)) 1 (cond ((s && false) && not (close_length [] == 0)) (2 + close_length []) 0)) (byte ∷ []))
    by true e s lt = subst (λ b. IsComment (b ∷ []) []) (sym (eqb-true byte 35 e)) (hash [])
    by false e true lt = absurd (omega (arith, lt))
    by false e false lt = absurd (omega (arith, lt))
comment_found (byte ∷ next ∷ bytes) some = by (byte == 35) (nat_eq 47 byte) (nat_eq 47 next) (nat_eq 42 next) refl refl refl refl some
  where
    at_close : (c : Bool) → (close_length bytes == 0) ≡ c → 47 ≡ byte → 42 ≡ next → 0 < cond (not c) (2 + close_length bytes) 0
        → IsComment (byte ∷ next ∷ bytes) (drop (cond (not c) (2 + close_length bytes) 0) (byte ∷ next ∷ bytes))
    at_close true e p q lt = absurd (omega (arith, lt))
    at_close false e p q lt =
        subst (λ r. IsComment (byte ∷ next ∷ bytes) r) (sym (drop_two (close_length bytes) byte next bytes))
        (subst (λ b. IsComment (b ∷ next ∷ bytes) (drop (close_length bytes) bytes)) p
        (subst (λ b. IsComment (47 ∷ b ∷ bytes) (drop (close_length bytes) bytes)) q (body_of bytes (grind (arith, nat_tests)))))

    by : (h s t u : Bool) → (byte == 35) ≡ h → nat_eq 47 byte ≡ s → nat_eq 47 next ≡ t → nat_eq 42 next ≡ u → 0 < length_by byte next bytes h s t u
        → IsComment (byte ∷ next ∷ bytes) (drop (length_by byte next bytes h s t u) (byte ∷ next ∷ bytes))
    by true s t u e f g k lt =
        subst (λ r. IsComment (byte ∷ next ∷ bytes) r) (sym (drop-length (byte ∷ next ∷ bytes)))
        (subst (λ b. IsComment (b ∷ next ∷ bytes) []) (sym (eqb-true byte 35 e)) (hash (next ∷ bytes)))
    by false true true u e f g k lt =
        subst (λ r. IsComment (byte ∷ next ∷ bytes) r) (sym (drop-length (byte ∷ next ∷ bytes)))
        (subst (λ b. IsComment (b ∷ next ∷ bytes) []) (eqb-true 47 byte f) (subst (λ b. IsComment (47 ∷ b ∷ bytes) []) (eqb-true 47 next g) (slashes bytes)))
    by false true false true e f g k lt = at_close (close_length bytes == 0) refl (eqb-true 47 byte f) (eqb-true 42 next k) lt
    by false true false false e f g k lt = absurd (omega (arith, lt))
    by false false t u e f g k lt = absurd (omega (arith, lt))

-- the end of a line
-- a comment begins with no blank
pub no_blank : (comment rest : List ℕ) → IsComment comment rest → begins is_blank comment ≡ false
no_blank _ _ (hash text) = refl
no_blank _ _ (slashes text) = refl
no_blank _ _ (closed inside rest none) = refl

pub end_read : (text : List ℕ) → IsEnd text → ends text ≡ true
unfolding ends comment_length
end_read text (plain blank) = subst (λ t. ends_at t ≡ true) (sym nothing) ends_at-none
  where
    nothing : behind is_blank text ≡ []
    nothing = ap (behind is_blank) (sym (append-nil text)) ∙ behind-run is_blank text [] blank refl
end_read text (commented blanks comment rest whole blank is rest_blank) =
    let m = comment_measured comment rest is in
    let there : behind is_blank text ≡ comment = ap (behind is_blank) whole ∙ behind-run is_blank blanks comment blank (no_blank comment rest is) in
    ap ends_at there ∙ ap (list_all is_blank) m.behind_is ∙ rest_blank

pub end_found : (text : List ℕ) → ends text ≡ true → IsEnd text
unfolding ends
end_found text e = by (comment_length (behind is_blank text)) refl
  where
    by : (n : ℕ) → comment_length (behind is_blank text) ≡ n → IsEnd text
    by zero z =
        let rest : list_all is_blank (behind is_blank text) ≡ true = ap (λ n. list_all is_blank (drop n (behind is_blank text))) (sym z) ∙ e in
        plain (ap (list_all is_blank) (run_and_rest is_blank text) ∙ list_all-append is_blank (take_while is_blank text) (behind is_blank text) (run_passes is_blank text) rest)
    by (suc n) z =
        commented (take_while is_blank text) (behind is_blank text) (drop (comment_length (behind is_blank text)) (behind is_blank text))
        (run_and_rest is_blank text) (run_passes is_blank text) (comment_found (behind is_blank text) (omega (arith, z))) e
