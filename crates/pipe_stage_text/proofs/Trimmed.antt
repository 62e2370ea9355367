-- Trimming a text: without the blanks in front and at its end.
use Rattle.std.proofs.Common.{◌≡◌, ℕ, ◌-◌, ◌≤◌, ◌<◌, Bool, true, false, List, [], ◌∷◌, ◌++◌, length, take, drop, refl, sym, ap, ◌∙◌, subst, take_while, arith}
use Rattle.std.specs.Prelude.{reverse}
use Rattle.std.specs.List.{list_all, prefix_len}
use Rattle.std.proofs.Math.Seq.{drop-append_seam}
use Rattle.std.proofs.lemmas.List.{length-drop, length-reverse, reverse-append, reverse-reverse, take-append-drop}
use Rattle.std.proofs.lemmas.List.Sums.{prefix_len-le-length}
use Rattle.std.proofs.lemmas.Bool.{and_parts}
use Rattle.y86_base.specs.Text.{begins, behind, is_blank}
use Rattle.y86_base.proofs.Runs.{behind-run, list_all-append, run_and_rest, run_passes, run_stops}
use Rattle.pipe_stage_text.specs.Listed.{IsBetween, without_end}

-- the last elements are the first ones of the reversed text
dropped : (text : List ℕ) (n : ℕ) → n ≤ length text → drop n (reverse text) ≡ reverse (take (length text - n) text)
dropped text n within =
    let front : List ℕ = take (length text - n) text in
    let back : List ℕ = drop (length text - n) text in
    let parts : reverse text ≡ reverse back ++ reverse front = ap reverse (sym (take-append-drop (length text - n) text)) ∙ reverse-append front back in
    let rest : length text - (length text - n) ≡ n = omega (arith, within) in
    let size : length (reverse back) ≡ n = length-reverse back ∙ length-drop (length text - n) text ∙ rest in
    ap (drop n) parts ∙ ap (λ m. drop m (reverse back ++ reverse front)) (sym size) ∙ drop-append_seam (reverse back) (reverse front)

pub cut_end : (text : List ℕ) (n : ℕ) → n ≡ prefix_len is_blank (reverse text) → take (length text - n) text ≡ without_end text
cut_end text n is =
    let within : n ≤ length text = subst (λ m. n ≤ m) (length-reverse text) (subst (λ m. m ≤ length (reverse text)) (sym is) (prefix_len-le-length is_blank (reverse text))) in
    sym (reverse-reverse (take (length text - n) text)) ∙ ap reverse (sym (dropped text n within)) ∙ ap (λ m. reverse (drop m (reverse text))) is

-- ---- the trimmed text is between blanks

one_passes : (p : ℕ → Bool) (x : ℕ) → p x ≡ true → list_all p (x ∷ []) ≡ true
one_passes p x e = rw e refl

all_backward : (p : ℕ → Bool) (xs : List ℕ) → list_all p xs ≡ true → list_all p (reverse xs) ≡ true
all_backward p [] h = refl
all_backward p (x ∷ xs) h =
    let both = and_parts (p x) (list_all p xs) h in
    subst (λ ys. list_all p ys ≡ true) (sym (reverse-append (x ∷ []) xs))
    (list_all-append p (reverse xs) (x ∷ []) (all_backward p xs both.1) (one_passes p x both.0))

begins_shorter : (p : ℕ → Bool) (xs ys : List ℕ) → begins p (xs ++ ys) ≡ false → begins p xs ≡ false
begins_shorter p [] ys e = refl
begins_shorter p (x ∷ xs) ys e = e

begins_longer : (p : ℕ → Bool) (xs ys : List ℕ) → 0 < length xs → begins p xs ≡ false → begins p (xs ++ ys) ≡ false
begins_longer p [] ys some e = absurd (omega (arith, some))
begins_longer p (x ∷ xs) ys some e = e

pub is_between : (whole : List ℕ) → IsBetween whole (without_end (behind is_blank whole))
is_between whole =
    let text : List ℕ = behind is_blank whole in
    let last : List ℕ = take_while is_blank (reverse text) in
    let inner : List ℕ = behind is_blank (reverse text) in
    let parts : text ≡ reverse inner ++ reverse last =
    sym (reverse-reverse text) ∙ ap reverse (run_and_rest is_blank (reverse text)) ∙ reverse-append last inner in
    record {
      front = take_while is_blank whole;
      back = reverse last;
      parts = run_and_rest is_blank whole ∙ ap (λ xs. take_while is_blank whole ++ xs) parts;
      front_blank = run_passes is_blank whole;
      back_blank = all_backward is_blank last (run_passes is_blank (reverse text));
      starts = begins_shorter is_blank (reverse inner) (reverse last) (subst (λ xs. begins is_blank xs ≡ false) parts (run_stops is_blank whole));
      ends = subst (λ xs. begins is_blank xs ≡ false) (sym (reverse-reverse inner)) (run_stops is_blank (reverse text));
    }

-- and no other text is, unless it is empty
pub between_is : (whole text : List ℕ) → 0 < length text → IsBetween whole text → without_end (behind is_blank whole) ≡ text
between_is whole text some h =
    let dark : begins is_blank (text ++ h.back) ≡ false = begins_longer is_blank text h.back some h.starts in
    let behind_front : behind is_blank whole ≡ text ++ h.back = ap (behind is_blank) h.parts ∙ behind-run is_blank h.front (text ++ h.back) h.front_blank dark in
    let backward : behind is_blank (reverse (text ++ h.back)) ≡ reverse text =
    ap (behind is_blank) (reverse-append text h.back) ∙ behind-run is_blank (reverse h.back) (reverse text) (all_backward is_blank h.back h.back_blank) h.ends in
    ap without_end behind_front ∙ ap reverse backward ∙ reverse-reverse text
