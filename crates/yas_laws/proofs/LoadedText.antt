-- The memory after a load, line after line.
use Rattle.std.proofs.Common.{◌≡◌, ℕ, ◌+◌, ◌<◌, ◌≤◌, List, [], ◌∷◌, ◌++◌, length, get_or, replicate, All, Some, Result, Ok, Err, refl, ap, sym, subst, ◌∙◌, inl, inr, arith}
use Rattle.std.proofs.lemmas.List.{length-replicate}
use Rattle.std.proofs.lemmas.List.Elements.{All-nil, All-cons, All-head, All-tail}
use Rattle.y86_base.specs.Text.{lines}
use Rattle.yo_object.specs.declared.object.YoWhy.{YoWhy}
use Rattle.yo_object.specs.declared.object.YoFault.{YoFault}
use Rattle.y86_base.specs.Image.{with_bytes}
use Rattle.yo_object.specs.ObjectText.{after_line, put_line, put_lines}
use Rattle.yo_object.specs.LoadedText.{PutsBytes, IsGood, HasFault, PutsNoneAt, IsFirstFault, AcceptsGoodLines, RefusesFirstFault, HasItsSize, LastLineWins, IsZeroWithoutLine}
use Rattle.yo_object.proofs.Texts.{text_start, text_end, text_more}
use Rattle.yas_laws.proofs.LoadedLines.{IsPut, is_put, is_faulty, line_put, line_skipped}
use Rattle.yas_laws.proofs.PrintedLines.{size_kept}
use Rattle.yas_laws.proofs.Images.{missed_at, put_inside, zeros_are_zero}

ok_is : {E : Type 0} (x y : List ℕ) (r : Result (List ℕ) E) → r ≡ Ok x → r ≡ Ok y → x ≡ y
ok_is x y r e f = cc

err_is : (x y : YoFault) (r : Result (List ℕ) YoFault) → r ≡ Err x → r ≡ Err y → x ≡ y
err_is x y r e f = cc

not_ok : {E : Type 0} (x : List ℕ) (fault : E) → Err fault ≡ Ok x → ⊥
not_ok x fault e = cc

not_err : {E : Type 0} (x : List ℕ) (fault : E) → Ok x ≡ Err fault → ⊥
not_err x fault e = cc

-- a line of an accepted text

is_good : (size : ℕ) (memory line after : List ℕ) → IsPut size memory line after → IsGood size line
is_good size memory line after (inl h) = inl h.0
is_good size memory line after (inr h) = inr h.0

put_size : (size : ℕ) (memory line after : List ℕ) → length memory ≡ size → IsPut size memory line after → length after ≡ size
put_size size memory line after long (inl h) = ap length h.1 ∙ long
put_size size memory line after long (inr (p, after_is)) =
    ap length after_is ∙ size_kept memory p.bytes (Some p.address) (λ some. omega (arith, p.inside some)) ∙ long

put_elsewhere : (size address : ℕ) (memory line after : List ℕ) → length memory ≡ size → IsPut size memory line after → PutsNoneAt size address line →
    get_or after address 0 ≡ get_or memory address 0
put_elsewhere size address memory line after long (inl h) none = ap (λ m. get_or m address 0) h.1
put_elsewhere size address memory line after long (inr (p, after_is)) none =
    ap (λ m. get_or m address 0) after_is ∙ missed_at memory p.bytes (Some p.address) address (λ some. omega (arith, p.inside some)) (none p)

record IsStep (number : ℕ) (memory line : List ℕ) (rest : List (List ℕ)) (image : List ℕ) : Type 0 where
  after : List ℕ
  here : put_line memory line ≡ Ok after
  there : put_lines (number + 1) after rest ≡ Ok image

step : (number : ℕ) (memory line : List ℕ) (rest : List (List ℕ)) (image : List ℕ) → put_lines number memory (line ∷ rest) ≡ Ok image →
    IsStep number memory line rest image
unfolding put_lines
step number memory line rest image e = by (put_line memory line) refl e
  where
    by : (r : Result (List ℕ) YoWhy) → put_line memory line ≡ r → after_line number (λ after. put_lines (number + 1) after rest) r ≡ Ok image →
        IsStep number memory line rest image
    by (Ok after) here e = record { after = after; here = here; there = e }
    by (Err why) here e = absurd (not_ok image _ e)

-- the lines of an accepted text

record IsAccepted (size : ℕ) (lines : List (List ℕ)) (image : List ℕ) : Type 0 where
  good : All (IsGood size) lines
  long : length image ≡ size

accepted : (size number : ℕ) (memory image : List ℕ) (lines : List (List ℕ)) → length memory ≡ size → put_lines number memory lines ≡ Ok image →
    IsAccepted size lines image
accepted size number memory image [] long e =
    record { good = All-nil (IsGood size); long = ap length (ok_is image memory _ e (text_end number memory [] refl)) ∙ long }
accepted size number memory image (line ∷ rest) long e =
    let s = step number memory line rest image e in
    let put = is_put size memory line s.after long s.here in
    let later = accepted size (number + 1) s.after image rest (put_size size memory line s.after long put) s.there in
    record { good = All-cons (IsGood size) line rest (is_good size memory line s.after put) later.good; long = later.long }

elsewhere : (size number address : ℕ) (memory image : List ℕ) (lines : List (List ℕ)) → length memory ≡ size → put_lines number memory lines ≡ Ok image →
    All (PutsNoneAt size address) lines → get_or image address 0 ≡ get_or memory address 0
elsewhere size number address memory image [] long e none = ap (λ m. get_or m address 0) (ok_is image memory _ e (text_end number memory [] refl))
elsewhere size number address memory image (line ∷ rest) long e none =
    let s = step number memory line rest image e in
    let put = is_put size memory line s.after long s.here in
    elsewhere size (number + 1) address s.after image rest (put_size size memory line s.after long put) s.there (All-tail (PutsNoneAt size address) line rest none)
    ∙ put_elsewhere size address memory line s.after long put (All-head (PutsNoneAt size address) line rest none)

last_line : (size number : ℕ) (memory image : List ℕ) (before after : List (List ℕ)) (line : List ℕ) (p : PutsBytes size line) (k : ℕ) → length memory ≡ size →
    put_lines number memory (before ++ line ∷ after) ≡ Ok image → k < length p.bytes → All (PutsNoneAt size (p.address + k)) after →
    get_or image (p.address + k) 0 ≡ get_or p.bytes k 0
last_line size number memory image [] after line p k long e lt none =
    let s = step number memory line after image e in
    let put = is_put size memory line s.after long s.here in
    let fits : p.address + length p.bytes ≤ length memory = omega (arith, p.inside (omega arith)) in
    elsewhere size (number + 1) (p.address + k) s.after image after (put_size size memory line s.after long put) s.there none
    ∙ (ap (λ m. get_or m (p.address + k) 0) (ok_is s.after (with_bytes memory p.address p.bytes) _ s.here (line_put size memory line p long))
    ∙ put_inside memory p.bytes p.address k fits lt)
last_line size number memory image (other ∷ before) after line p k long e lt none =
    let s = step number memory other (before ++ line ∷ after) image e in
    last_line size (number + 1) s.after image before after line p k (put_size size memory other s.after long (is_put size memory other s.after long s.here)) s.there lt none

-- lines that are good are accepted

good_put : (size : ℕ) (memory line : List ℕ) → length memory ≡ size → IsGood size line → (after : List ℕ) × (put_line memory line ≡ Ok after)
good_put size memory line long (inl skipped) = (memory, line_skipped memory line skipped)
good_put size memory line long (inr p) = (with_bytes memory p.address p.bytes, line_put size memory line p long)

all_put : (size number : ℕ) (memory : List ℕ) (lines : List (List ℕ)) → length memory ≡ size → All (IsGood size) lines →
    (image : List ℕ) × (put_lines number memory lines ≡ Ok image)
all_put size number memory [] long good = (memory, text_end number memory [] refl)
all_put size number memory (line ∷ rest) long good =
    let first = good_put size memory line long (All-head (IsGood size) line rest good) in
    let later = all_put size (number + 1) first.0 rest (put_size size memory line first.0 long (is_put size memory line first.0 long first.1)) (All-tail (IsGood size) line rest good) in
    (later.0, text_more number memory first.0 line (line ∷ rest) rest refl first.1 ∙ later.1)

-- the lines of a text that is refused

refused : (size number : ℕ) (memory : List ℕ) (lines : List (List ℕ)) (fault : YoFault) → length memory ≡ size → put_lines number memory lines ≡ Err fault →
    IsFirstFault size number lines fault
unfolding put_lines
refused size number memory [] fault long e = absurd (not_err memory fault e)
refused size number memory (line ∷ rest) fault long e =
    by (put_line memory line) refl e (λ after same. refused size (number + 1) after rest fault same)
  where
    by : (r : Result (List ℕ) YoWhy) → put_line memory line ≡ r → after_line number (λ after. put_lines (number + 1) after rest) r ≡ Err fault →
        ((after : List ℕ) → length after ≡ size → put_lines (number + 1) after rest ≡ Err fault → IsFirstFault size (number + 1) rest fault) →
        IsFirstFault size number (line ∷ rest) fault
    by (Err why) here e later =
        let same : fault ≡ record { line = number; why = why } = sym (err_is _ fault _ refl e) in
        record {
          before = [];
          line = line;
          after = rest;
          parts = refl;
          numbered = ap (λ (f : YoFault). f.line) same ∙ omega arith;
          good = All-nil (IsGood size);
          faulty = subst (λ (f : YoFault). HasFault size line f.why) (sym same) (is_faulty size memory line why long here);
        }
    by (Ok after) here e later =
        let put = is_put size memory line after long here in
        let found = later after (put_size size memory line after long put) e in
        record {
          before = line ∷ found.before;
          line = found.line;
          after = found.after;
          parts = ap (λ ls. line ∷ ls) found.parts;
          numbered = omega (arith, found.numbered);
          good = All-cons (IsGood size) line found.before (is_good size memory line after put) found.good;
          faulty = found.faulty;
        }

-- a text

starts : (size : ℕ) → length (replicate {A = ℕ} size 0) ≡ size
starts size = length-replicate size 0

pub refuses_first_fault : RefusesFirstFault
refuses_first_fault text size fault e = refused size 1 (replicate size 0) (lines text) fault (starts size) (text_start text size ∙ e)

pub accepts_good_lines : AcceptsGoodLines
accepts_good_lines text size = (
  (λ accepted_. (accepted size 1 (replicate size 0) accepted_.0 (lines text) (starts size) (text_start text size ∙ accepted_.1)).good),
  (λ good. let put = all_put size 1 (replicate size 0) (lines text) (starts size) good in (put.0, sym (text_start text size) ∙ put.1)),
)

pub has_its_size : HasItsSize
has_its_size text size image e = (accepted size 1 (replicate size 0) image (lines text) (starts size) (text_start text size ∙ e)).long

pub last_line_wins : LastLineWins
last_line_wins text size image e before after line split p k lt none =
    last_line size 1 (replicate size 0) image before after line p k (starts size)
    (ap (put_lines 1 (replicate size 0)) (sym split) ∙ (text_start text size ∙ e)) lt none

pub is_zero_without_line : IsZeroWithoutLine
is_zero_without_line text size image e address none =
    elsewhere size 1 address (replicate size 0) image (lines text) (starts size) (text_start text size ∙ e) none ∙ zeros_are_zero size address
