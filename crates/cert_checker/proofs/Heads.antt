-- The first two lines: the settings that they state are read from the places of the digits.
use Rattle.std.proofs.Common.{◌≡◌, ℕ, ◌-◌, ◌≤◌, Bool, true, false, cond, eqb, List, [], ◌∷◌, ◌++◌, length, take, drop, refl, sym, ap, ◌∙◌, subst, inr, append_assoc, length-append, arith}
use Rattle.std.proofs.lemmas.Bool.{and_parts, and_from, eqb-true, eq-eqb, false≢true}
use Rattle.std.proofs.lemmas.List.{take_at, take-append-drop, drop-drop, take_rest}
use Rattle.std.specs.List.{starts_with}
use Rattle.std.specs.Cmp.Lexicographic.{pointwise}
use Rattle.std.specs.Prelude.{nat_eq}
use Rattle.pipe_motion.specs.declared.settings.Settings.{Settings}
use Rattle.verdict_text.specs.PipeLines.{digit, pipe_yes}
use Rattle.cert_checker.specs.declared.fault.CertWhy.TheVariants as why
use Rattle.cert_checker.specs.Certificates.{AreSeven, HasNoHead, StatesSettings, first_line, head_text, settings_at}

same_points : (xs ys : List ℕ) → pointwise nat_eq xs ys ≡ true → xs ≡ ys
same_points [] [] e = refl
same_points [] (y ∷ ys) e = absurd (false≢true e)
same_points (x ∷ xs) [] e = absurd (false≢true e)
same_points (x ∷ xs) (y ∷ ys) e =
    let p = and_parts (nat_eq x y) (pointwise nat_eq xs ys) e in
    let first : x ≡ y = eqb-true x y p.0 in
    let rest : xs ≡ ys = same_points xs ys p.1 in
    λ i. first i ∷ rest i

points_same : (xs : List ℕ) → pointwise nat_eq xs xs ≡ true
points_same [] = refl
points_same (x ∷ xs) = and_from (nat_eq x x) (pointwise nat_eq xs xs) (eq-eqb x x refl) (points_same xs)

pub begins_true : (xs needle : List ℕ) → starts_with nat_eq xs needle ≡ true → xs ≡ needle ++ drop (length needle) xs
begins_true xs needle e =
    sym (take-append-drop (length needle) xs) ∙ ap (λ (ys : List ℕ). ys ++ drop (length needle) xs) (sym (same_points needle (take (length needle) xs) e))

pub begins_false : (xs needle rest : List ℕ) → starts_with nat_eq xs needle ≡ false → xs ≡ needle ++ rest → ⊥
begins_false xs needle rest e whole =
    let front : take (length needle) xs ≡ needle = ap (take (length needle)) whole ∙ take_at needle rest (length needle) refl in
    false≢true (sym e ∙ ap (pointwise nat_eq needle) front ∙ points_same needle)

-- ---- the `yes`

digit_is : (b : Bool) → digit b ≡ cond b 49 48 ∷ []
digit_is true = refl
digit_is false = refl

is_digit_of : (b : Bool) → eqb (cond b 49 48) 49 ≡ b
is_digit_of true = refl
is_digit_of false = refl

yes_parts : (pt pb : List Bool) (tv lf je rm : Bool) (more : List ℕ) → length pt ≡ 7 → length pb ≡ 7 →
    (settings_at (pipe_yes (record { pt = pt; pb = pb; tv = tv; lf = lf; je = je; rm = rm }) ++ more) ≡ record { pt = pt; pb = pb; tv = tv; lf = lf; je = je; rm = rm })
    × (length (pipe_yes (record { pt = pt; pb = pb; tv = tv; lf = lf; je = je; rm = rm })) ≡ 46)
unfolding settings_at pipe_yes
yes_parts (a ∷ b ∷ c ∷ d ∷ e ∷ f ∷ g ∷ []) (h ∷ i ∷ j ∷ k ∷ l ∷ m ∷ n ∷ []) tv lf je rm more p q = (simp (digit_is, is_digit_of) refl, simp digit_is refl)
yes_parts pt pb tv lf je rm more p q = absurd (omega (arith, p, q))

pub yes_read : (s : Settings) (more : List ℕ) → AreSeven s → settings_at (pipe_yes s ++ more) ≡ s
yes_read s more seven = (yes_parts s.pt s.pb s.tv s.lf s.je s.rm more seven.0 seven.1).0

pub yes_length : (s : Settings) → AreSeven s → length (pipe_yes s) ≡ 46
yes_length s seven = (yes_parts s.pt s.pb s.tv s.lf s.je s.rm [] seven.0 seven.1).1

seven_at : (t : List ℕ) → AreSeven (settings_at t)
unfolding settings_at
seven_at t = (refl, refl)

behind_first : (text : List ℕ) → take (length text - 10) (drop 10 text) ≡ drop 10 text
behind_first text = take_rest text 10

pub states_none : (text line : List ℕ) (settings : Settings) → starts_with nat_eq text first_line ≡ true → settings ≡ settings_at (take (length text - 10) (drop 10 text)) →
    line ≡ pipe_yes settings → starts_with nat_eq (take (length text - 10) (drop 10 text)) line ≡ false → HasNoHead text (record { line = 2; why = why.Syntax })
states_none text line settings first read told other = record {
  why = refl;
  line = inr (refl, only, (drop 10 text, begins_true text first_line first));
}
  where
    only : (rest : List ℕ) → text ≡ first_line ++ rest → (s : Settings) (more : List ℕ) → AreSeven s → rest ≡ pipe_yes s ++ more → ⊥
    only rest whole s more seven e =
        let rest_is : take (length text - 10) (drop 10 text) ≡ rest = behind_first text ∙ ap (drop 10) whole in
        let same : settings ≡ s = read ∙ ap settings_at (rest_is ∙ e) ∙ yes_read s more seven in
        begins_false (take (length text - 10) (drop 10 text)) line more other (rest_is ∙ e ∙ ap (λ (x : Settings). pipe_yes x ++ more) (sym same) ∙ ap (λ (xs : List ℕ). xs ++ more) (sym told))

pub states_some : (text line : List ℕ) (settings : Settings) → starts_with nat_eq text first_line ≡ true → settings ≡ settings_at (take (length text - 10) (drop 10 text)) →
    line ≡ pipe_yes settings → starts_with nat_eq (take (length text - 10) (drop 10 text)) line ≡ true → StatesSettings text settings (drop 56 text) × (56 ≤ length text)
unfolding head_text
states_some text line settings first read told begins =
    let rest : List ℕ = drop 10 text in
    let seven : AreSeven settings = subst AreSeven (sym read) (seven_at (take (length text - 10) (drop 10 text))) in
    let size : length line ≡ 46 = ap length told ∙ yes_length settings seven in
    let second : rest ≡ line ++ drop 46 rest =
    sym (behind_first text) ∙ begins_true (take (length text - 10) (drop 10 text)) line begins
    ∙ (λ i. line ++ drop (size i) (behind_first text i)) in
    let whole : text ≡ head_text settings ++ drop 56 text =
    begins_true text first_line first
    ∙ ap (λ (xs : List ℕ). first_line ++ xs) (second ∙ (λ i. told i ++ drop-drop 46 10 text i))
    ∙ sym (append_assoc first_line (pipe_yes settings) (drop 56 text)) in (
      record { seven = seven; whole = whole },
      omega (arith, ap length whole, length-append first_line (pipe_yes settings ++ drop 56 text), length-append (pipe_yes settings) (drop 56 text), ap length told, size),
    )
