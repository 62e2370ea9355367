-- The values of terms: those of earlier terms stay, and that of a term comes from those that it was made of.
use Rattle.std.proofs.Common.{◌≡◌, ℕ, ◌+◌, ◌<◌, Bool, true, false, cond, List, [], ◌∷◌, ◌++◌, length, take, drop, get_or, slice_get, Some, refl, sym, ap, ◌∙◌, arith}
use Rattle.std.proofs.lemmas.List.{take-append-drop, get_or_append_left, get_or_push, length_push, take_more, length-take}
use Rattle.std.proofs.lemmas.Option.{slice_get_within, get_or_from_slice_get}
use Rattle.cert_checker.specs.declared.known.TermDef.{TermDef}
use Rattle.cert_checker.specs.Meaning.{made_value, term_values, cert_value}

values_append : (w e : List Bool) (xs ys : List TermDef) → term_values w e (xs ++ ys) ≡ term_values w (term_values w e xs) ys
unfolding term_values
values_append w e [] ys = refl
values_append w e (x ∷ xs) ys = values_append w (e ++ made_value w e x ∷ []) xs ys

values_length : (w e : List Bool) (xs : List TermDef) → length (term_values w e xs) ≡ length e + length xs
unfolding term_values
values_length w e [] = omega arith
values_length w e (x ∷ xs) = omega (arith, values_length w (e ++ made_value w e x ∷ []) xs, length_push e (made_value w e x))

values_kept : (w e : List Bool) (xs : List TermDef) (i : ℕ) → i < length e → get_or (term_values w e xs) i false ≡ get_or e i false
unfolding term_values
values_kept w e [] i h = refl
values_kept w e (x ∷ xs) i h =
    let more : i < length (e ++ made_value w e x ∷ []) = omega (arith, length_push e (made_value w e x)) in
    values_kept w (e ++ made_value w e x ∷ []) xs i more ∙ get_or_append_left e (made_value w e x ∷ []) false i h

ends : List Bool
ends = false ∷ true ∷ []

pub value_zero : (terms : List TermDef) (w : List Bool) → cert_value terms 0 w ≡ false
unfolding cert_value
value_zero terms w = values_kept w (false ∷ true ∷ []) terms 0 (omega arith)

pub value_one : (terms : List TermDef) (w : List Bool) → cert_value terms 1 w ≡ true
unfolding cert_value
value_one terms w = values_kept w (false ∷ true ∷ []) terms 1 (omega arith)

-- an earlier term keeps its value
pub value_kept : (terms more : List TermDef) (t : ℕ) (w : List Bool) → t < length terms + 2 → cert_value (terms ++ more) t w ≡ cert_value terms t w
unfolding cert_value
value_kept terms more t w h =
    let inside : t < length (term_values w (false ∷ true ∷ []) terms) = omega (arith, values_length w (false ∷ true ∷ []) terms) in
    ap (λ (xs : List Bool). get_or xs t false) (values_append w (false ∷ true ∷ []) terms more)
    ∙ values_kept w (term_values w (false ∷ true ∷ []) terms) more t inside

-- the value of the last term, from those of the others
pub value_last : (terms : List TermDef) (m : TermDef) (w : List Bool) →
    cert_value (terms ++ m ∷ []) (length terms + 2) w ≡ cond (get_or w m.var false) (cert_value terms m.high w) (cert_value terms m.low w)
unfolding cert_value term_values
value_last terms m w =
    let e : List Bool = term_values w (false ∷ true ∷ []) terms in
    ap (λ (xs : List Bool). get_or xs (length terms + 2) false) (values_append w (false ∷ true ∷ []) terms (m ∷ []))
    ∙ get_or_push e (made_value w e m) false (length terms + 2) (omega (arith, values_length w (false ∷ true ∷ []) terms))

-- terms are made of earlier ones
pub record AreMade (terms : List TermDef) : Type 0 where
  pub low : (k : ℕ) (m : TermDef) → slice_get terms k ≡ Some m → m.low < k + 2
  pub high : (k : ℕ) (m : TermDef) → slice_get terms k ≡ Some m → m.high < k + 2

-- the value of a term, from those that it was made of
pub value_made : (terms : List TermDef) → AreMade terms → (k : ℕ) (m : TermDef) → slice_get terms k ≡ Some m → (w : List Bool) →
    cert_value terms (k + 2) w ≡ cond (get_or w m.var false) (cert_value terms m.high w) (cert_value terms m.low w)
value_made terms made k m is w =
    let h : k < length terms = slice_get_within terms k m is in
    let front : List TermDef = take k terms in
    let size : length front ≡ k = omega (arith, length-take {A = TermDef}) in
    let first : take (k + 1) terms ≡ front ++ m ∷ [] = take_more terms k m h ∙ ap (λ (x : TermDef). front ++ x ∷ []) (get_or_from_slice_get terms k m m is) in
    let whole : terms ≡ (front ++ m ∷ []) ++ drop (k + 1) terms = sym (take-append-drop (k + 1) terms) ∙ ap (λ (xs : List TermDef). xs ++ drop (k + 1) terms) first in
    let short : terms ≡ front ++ drop k terms = sym (take-append-drop k terms) in
    let low : cert_value terms m.low w ≡ cert_value front m.low w =
    ap (λ (xs : List TermDef). cert_value xs m.low w) short ∙ value_kept front (drop k terms) m.low w (let b = made.low k m is in omega arith) in
    let high : cert_value terms m.high w ≡ cert_value front m.high w =
    ap (λ (xs : List TermDef). cert_value xs m.high w) short ∙ value_kept front (drop k terms) m.high w (let b = made.high k m is in omega arith) in
    ap (λ (xs : List TermDef). cert_value xs (k + 2) w) whole
    ∙ value_kept (front ++ m ∷ []) (drop (k + 1) terms) (k + 2) w (omega (arith, length_push front m))
    ∙ ap (λ (n : ℕ). cert_value (front ++ m ∷ []) (n + 2) w) (sym size)
    ∙ value_last front m w
    ∙ ap (λ (b : Bool). cond (get_or w m.var false) b (cert_value front m.low w)) (sym high)
    ∙ ap (λ (b : Bool). cond (get_or w m.var false) (cert_value terms m.high w) b) (sym low)
