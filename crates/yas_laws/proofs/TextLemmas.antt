-- The place of each line's text in the source, and the address to which `.align` leads.
use Rattle.std.proofs.Common.{◌≡◌, ◌+◌, ◌-◌, ◌*◌, ◌/◌, ◌%◌, ◌<◌, ◌≤◌, ap, sym, ◌∙◌, ℕ, Bool, true, false, cond, List, [], ◌∷◌, length, take, drop, map, Result, Ok, Err, refl, arith, slice_range}
use Rattle.std.specs.List.{position_or_len}
use Rattle.std.proofs.Math.Nat.{mul-mod_left, mul-le-mul_left}
use Rattle.std.proofs.lemmas.Grind.{common_steps}
use Rattle.std.proofs.lemmas.List.Folds.{length-prefix_len}
use Rattle.std.proofs.lemmas.Bool.Decides.{nat_tests}
use Rattle.std.specs.Prelude.{not, ◌==◌, nat_le}
use Rattle.y86_base.specs.declared.parts.Variant.{Variant}
use Rattle.y86_base.specs.Text.{lines, is_line_feed}
use Rattle.y86_base.proofs.Lines.{lines-first}
use Rattle.yas_asm.specs.declared.fault.AsmWhy.{AsmWhy}
use Rattle.yas_asm.specs.declared.statement.Parsed.{Parsed}
use Rattle.yas_asm.specs.Grammar.{read_line}
use Rattle.yas_asm.specs.Assembly.{placed, source_lines, labels, address_after, listing, listed}
use Rattle.yas_asm.specs.Laws.{AlignIsLeast, TextsStandThere}
use Rattle.yas_asm.proofs.Parts.{head_is, tail_is, no_cons}
use Rattle.yas_laws.proofs.LawLemmas.{accepted}

-- the next multiple of a number that does not divide the address
next_is_multiple : (n address : ℕ) → 0 < n → (address + (n - address % n)) % n ≡ 0
next_is_multiple n address h =
    let same : address + (n - address % n) ≡ (address / n + 1) * n = omega arith in
    ap (λ x. x % n) same ∙ mul-mod_left (address / n + 1) n

least_multiple : (n address m : ℕ) → 0 < n → (address % n ≡ 0 → ⊥) → m % n ≡ 0 → address ≤ m → address + (n - address % n) ≤ m
least_multiple n address m h e d l = by (nat_le (m / n) (address / n)) refl
  where
    by : (b : Bool) → nat_le (m / n) (address / n) ≡ b → address + (n - address % n) ≤ m
    by true t =
        let k : m / n ≤ address / n = grind (arith, nat_tests) in
        absurd (e (omega (arith, mul-le-mul_left n k)))
    by false t =
        let k : address / n + 1 ≤ m / n = grind (arith, nat_tests) in
        omega (arith, mul-le-mul_left n k)

pub align_is_least : AlignIsLeast
align_is_least n address h = by (address % n == 0) refl
  where
    by : (b : Bool) → (address % n == 0) ≡ b
        → (cond b address (address + (n - address % n)) % n ≡ 0) × (address ≤ cond b address (address + (n - address % n))) × ((m : ℕ) → m % n ≡ 0 → address ≤ m → cond b address (address + (n - address % n)) ≤ m)
    by true e = (grind (arith, nat_tests), omega arith, λ m d l. l)
    by false e = (next_is_multiple n address h, omega arith, λ m d l. least_multiple n address m h (not_zero e) d l)
      where
        not_zero : (address % n == 0) ≡ false → address % n ≡ 0 → ⊥
        not_zero e z = grind (arith, nat_tests)

drop_twice : (n m : ℕ) (bytes : List ℕ) → drop m (drop n bytes) ≡ drop (n + m) bytes
drop_twice n m bytes = grind (arith, common_steps)

length_first : (bytes : List ℕ) → length (take (position_or_len is_line_feed bytes) bytes) ≡ position_or_len is_line_feed bytes
length_first bytes = length-prefix_len (λ byte. not (is_line_feed byte)) bytes

-- the first line of a text is its beginning, and the other lines are those of the text after its line feed
first_text : (bytes text : List ℕ) (texts : List (List ℕ)) → lines bytes ≡ text ∷ texts
    → (take (length text) bytes ≡ text) × (lines (drop (length text + 1) bytes) ≡ texts)
first_text [] text texts e = absurd (no_cons text texts e)
first_text (byte ∷ bytes) text texts e =
    let all : List ℕ = byte ∷ bytes in
    let parts = sym (lines-first all (omega arith)) ∙ e in
    let front : take (position_or_len is_line_feed all) all ≡ text = head_is _ _ _ _ parts in
    let n : length text ≡ position_or_len is_line_feed all = sym (ap length front) ∙ length_first all in (
      ap (λ k. take k all) n ∙ front,
      ap (λ k. lines (drop (k + 1) all)) n ∙ sym (ap lines (drop_twice (position_or_len is_line_feed all) 1 all)) ∙ tail_is _ _ _ _ parts,
    )

text_of-listed : (variant : Variant) (size : ℕ) (table : List (List ℕ × ℕ)) (from to address : ℕ) (read : Result Parsed AsmWhy) (source : List ℕ)
    → slice_range source (listed variant size table from to address read).from (listed variant size table from to address read).to ≡ slice_range source from to
unfolding listed
text_of-listed variant size table from to address (Ok parsed) source = refl
text_of-listed variant size table from to address (Err why) source = refl

texts_from : (variant : Variant) (size : ℕ) (table : List (List ℕ × ℕ)) (from address : ℕ) (source : List ℕ) (texts : List (List ℕ)) → lines (drop from source) ≡ texts
    → map (λ line. slice_range source line.from line.to) (listing variant size table from (placed variant size address texts)) ≡ texts
unfolding listing placed
texts_from variant size table from address source [] e = refl
texts_from variant size table from address source (text ∷ texts) e =
    let first = first_text (drop from source) text texts e in
    let width : from + length text - from ≡ length text = omega arith in
    let next : lines (drop (from + length text + 1) source) ≡ texts = ap (λ k. lines (drop k source)) (omega arith) ∙ sym (ap lines (drop_twice from (length text + 1) source)) ∙ first.1 in
    let here : slice_range source from (from + length text) ≡ text = ap (λ k. take k (drop from source)) width ∙ first.0 in
    ap (λ t. t ∷ map (λ line. slice_range source line.from line.to) (listing variant size table (from + length text + 1) (placed variant size (address_after variant size address (read_line variant text)) texts)))
    (text_of-listed variant size table from (from + length text) address (read_line variant text) source ∙ here)
    ∙ ap (λ ts. text ∷ ts) (texts_from variant size table (from + length text + 1) (address_after variant size address (read_line variant text)) source texts next)

pub texts_stand_there : TextsStandThere
unfolding source_lines
texts_stand_there variant source size lines' e =
    let good = accepted variant source size lines' e in
    ap (map (λ line. slice_range source line.from line.to)) (sym good.1)
    ∙ texts_from variant size (labels (source_lines variant size source)) 0 0 source (lines source) refl
