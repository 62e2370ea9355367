-- The image of an accepted source: the bytes of its lines, and zeros elsewhere.
use Rattle.std.proofs.Common.{◌≡◌, ◌+◌, ◌-◌, ◌<◌, ◌≤◌, ap, sym, subst, ◌∙◌, ℕ, Bool, true, false, cond, List, [], ◌∷◌, ◌++◌, length, take, drop, fold, Option, None, Some, Result, Ok, Err, refl, arith, get_or}
use Rattle.std.specs.Prelude.{is_some, nat_le, nat_lt, ◌&&◌, ◌||◌, replicate, unwrap_or}
use Rattle.std.specs.List.{list_any}
use Rattle.std.proofs.lemmas.Bool.{false≢true, or_parts}
use Rattle.std.proofs.lemmas.Bool.Decides.{nat_tests}
use Rattle.std.proofs.lemmas.Grind.{elements, common_steps}
use Rattle.y86_base.specs.declared.parts.Variant.{Variant}
use Rattle.y86_isa.specs.Table.{row}
use Rattle.yas_asm.specs.declared.fault.AsmWhy.{AsmWhy}
use Rattle.yas_asm.specs.declared.listing.Line.{Line}
use Rattle.yas_asm.specs.declared.statement.Statement.{Statement}
use Rattle.yas_asm.specs.declared.statement.Statement.TheVariants as statements
use Rattle.yas_asm.specs.declared.statement.Parsed.{Parsed}
use Rattle.yas_asm.specs.Grammar.{bytes_of}
use Rattle.yas_asm.specs.Assembly.{Placed, source_lines, labels, first_fault, listing, listed, line_fault, place, destination, bytes_at, shown_at, value_of}
use Rattle.yas_asm.specs.Laws.{emits_at, emits, put_at, image, ImageHasLines, ImageIsZeroElsewhere}
use Rattle.y86_base.specs.Text.{lines}
use Rattle.yas_asm.specs.Sound.{IsSound}
use Rattle.yas_asm.proofs.SoundGrammar.{IsSoundRead}
use Rattle.yas_asm.proofs.SoundLemmas.{sound_known, within}
use Rattle.yas_asm.proofs.PassLemmas.{faultless}
use Rattle.yas_laws.proofs.LawLemmas.{no_fault, accepted}
use Rattle.yas_laws.proofs.ByteLemmas.{AllSound, all_sound, bytes_have_one_line, emits_within, row_length, length-data}

-- the byte at an address after bytes were stored in a memory
put-inside : (memory bytes : List ℕ) (first a : ℕ) → first + length bytes ≤ length memory → first ≤ a → a < first + length bytes
    → get_or (take first memory ++ (bytes ++ drop (first + length bytes) memory)) a 0 ≡ get_or bytes (a - first) 0
put-inside memory bytes first a f h k = grind (arith, elements)

put-before : (memory bytes : List ℕ) (first a : ℕ) → first + length bytes ≤ length memory → a < first
    → get_or (take first memory ++ (bytes ++ drop (first + length bytes) memory)) a 0 ≡ get_or memory a 0
put-before memory bytes first a f h = grind (arith, elements)

put-behind : (memory bytes : List ℕ) (first a : ℕ) → first + length bytes ≤ length memory → first + length bytes ≤ a
    → get_or (take first memory ++ (bytes ++ drop (first + length bytes) memory)) a 0 ≡ get_or memory a 0
put-behind memory bytes first a f h = grind (arith, elements)

length-put : (memory bytes : List ℕ) (first : ℕ) → first + length bytes ≤ length memory
    → length (take first memory ++ (bytes ++ drop (first + length bytes) memory)) ≡ length memory
length-put memory bytes first f = grind (arith, elements)

-- the bytes of a line are within a size
abbrev pub FitsAt : ℕ → Option ℕ → ℕ → Type 0
FitsAt size None count = Unit {0}
FitsAt size (Some first) count = first + count ≤ size

length-put_at : (size : ℕ) (addr : Option ℕ) (bytes memory : List ℕ) → FitsAt size addr (length bytes) → length memory ≡ size → length (put_at addr bytes memory) ≡ size
length-put_at size None bytes memory f e = e
length-put_at size (Some first) bytes memory f e = length-put memory bytes first (omega arith) ∙ e

put_at-inside : (size : ℕ) (addr : Option ℕ) (bytes memory : List ℕ) (a : ℕ) → FitsAt size addr (length bytes) → length memory ≡ size → emits_at addr (length bytes) a ≡ true
    → get_or (put_at addr bytes memory) a 0 ≡ get_or bytes (a - unwrap_or addr 0) 0
put_at-inside size None bytes memory a f e h = absurd (false≢true h)
put_at-inside size (Some first) bytes memory a f e h =
    let two = emits_within first (length bytes) a h in
    put-inside memory bytes first a (omega arith) two.0 two.1

put_at-outside : (size : ℕ) (addr : Option ℕ) (bytes memory : List ℕ) (a : ℕ) → FitsAt size addr (length bytes) → length memory ≡ size → emits_at addr (length bytes) a ≡ false
    → get_or (put_at addr bytes memory) a 0 ≡ get_or memory a 0
put_at-outside size None bytes memory a f e h = refl
put_at-outside size (Some first) bytes memory a f e h = by (nat_le first a) (nat_lt a (first + length bytes)) refl refl h
  where
    by : (b c : Bool) → nat_le first a ≡ b → nat_lt a (first + length bytes) ≡ c → (b && c) ≡ false
        → get_or (take first memory ++ (bytes ++ drop (first + length bytes) memory)) a 0 ≡ get_or memory a 0
    by true true s t h = absurd (false≢true (sym h))
    by true false s t h = put-behind memory bytes first a (omega arith) (grind (arith, nat_tests))
    by false c s t h = put-before memory bytes first a (omega arith) (grind (arith, nat_tests))

AllFit : ℕ → List Line → Type 0
AllFit size [] = Unit {0}
AllFit size (line ∷ lines) = FitsAt size line.addr (length line.bytes.items) × AllFit size lines

length-fold : (size : ℕ) (lines : List Line) (memory : List ℕ) → AllFit size lines → length memory ≡ size
    → length (fold (λ memory line. put_at line.addr line.bytes.items memory) memory lines) ≡ size
unfolding AllFit
length-fold size [] memory f e = e
length-fold size (line ∷ lines) memory f e =
    length-fold size lines (put_at line.addr line.bytes.items memory) f.1 (length-put_at size line.addr line.bytes.items memory f.0 e)

fold-kept : (size a : ℕ) (lines : List Line) (memory : List ℕ) → AllFit size lines → length memory ≡ size → list_any (λ line. emits line a) lines ≡ false
    → get_or (fold (λ memory line. put_at line.addr line.bytes.items memory) memory lines) a 0 ≡ get_or memory a 0
unfolding AllFit
fold-kept size a [] memory f e n = refl
fold-kept size a (line ∷ lines) memory f e n =
    let two = or_parts (emits line a) (list_any (λ line. emits line a) lines) n in
    fold-kept size a lines (put_at line.addr line.bytes.items memory) f.1 (length-put_at size line.addr line.bytes.items memory f.0 e) two.1
    ∙ put_at-outside size line.addr line.bytes.items memory a f.0 e two.0

fits-place : (size n : ℕ) → FitsAt size (cond (nat_le n size) (Some n) None) 0
fits-place size n = by (nat_le n size) refl
  where
    by : (b : Bool) → nat_le n size ≡ b → FitsAt size (cond b (Some n) None) 0
    by true e = grind (arith, nat_tests)
    by false e = tt

fits-label : (size address : ℕ) (b : Bool) → address ≤ size → FitsAt size (cond b (Some address) None) 0
fits-label size address true h = omega arith
fits-label size address false h = tt

fits-listed : (variant : Variant) (size : ℕ) (table : List (List ℕ × ℕ)) (from to address : ℕ) (parsed : Parsed) → IsSound variant parsed.statement → is_some (place variant size address parsed.statement) ≡ true
    → FitsAt size (listed variant size table from to address (Ok parsed)).addr (length (listed variant size table from to address (Ok parsed)).bytes.items)
unfolding listed bytes_at place destination
fits-listed variant size table from to address parsed sound e = by parsed.statement sound e
  where
    by : (s : Statement) → IsSound variant s → is_some (place variant size address s) ≡ true
        → FitsAt size (shown_at parsed.label address (place variant size address s) s) (length (bytes_at table s))
    by statements.Nothing sound e = fits-label size address (is_some parsed.label) (within size address e)
    by (statements.Instruction icode ifun x y constant) sound e =
        subst (λ (n : ℕ). address + n ≤ size) (sym (row_length variant icode ifun x y (value_of table constant) (sound_known variant table icode ifun x y constant sound))) (within size (address + (row variant icode).length) e)
    by (statements.Data width value) sound e =
        subst (λ (n : ℕ). address + n ≤ size) (sym (length-data width (value_of table value))) (within size (address + bytes_of width) e)
    by (statements.Position n) sound e = fits-place size n
    by (statements.Align n) sound e = fits-place size (destination variant address (statements.Align n))
    by statements.Wide sound e = tt

fits-line : (variant : Variant) (size : ℕ) (table known : List (List ℕ × ℕ)) (used : List ℕ) (from to address : ℕ) (read : Result Parsed AsmWhy)
    → IsSoundRead variant read → line_fault variant size table known used address read ≡ None
    → FitsAt size (listed variant size table from to address read).addr (length (listed variant size table from to address read).bytes.items)
unfolding line_fault listed
fits-line variant size table known used from to address (Err why) sound e = tt
fits-line variant size table known used from to address (Ok parsed) sound e =
    fits-listed variant size table from to address parsed sound (faultless variant size table known used address parsed e).emits.inside

-- in an accepted source all bytes are within the size
all_fit : (variant : Variant) (size : ℕ) (table : List (List ℕ × ℕ)) (before rest : List Placed) (from : ℕ) → AllSound variant rest → first_fault variant size table before rest ≡ None → AllFit size (listing variant size table from rest)
unfolding first_fault listing AllFit
all_fit variant size table before [] from sound e = tt
all_fit variant size table before (line ∷ rest) from sound e =
    let two = no_fault _ _ _ e in
    (fits-line variant size table _ _ from (from + length line.text) line.address line.read sound.0 two.0, all_fit variant size table (before ++ line ∷ []) rest (from + length line.text + 1) sound.1 two.1)

zero_bytes : ℕ → List ℕ
zero_bytes size = replicate size 0

zeros : (size a : ℕ) → get_or (zero_bytes size) a 0 ≡ 0
unfolding zero_bytes
zeros size a = grind (arith, common_steps)

length-zeros : (size : ℕ) → length (zero_bytes size) ≡ size
unfolding zero_bytes
length-zeros size = grind (arith, common_steps)

pub image_is_zero_elsewhere : ImageIsZeroElsewhere
unfolding image zero_bytes source_lines
image_is_zero_elsewhere variant source size listed_lines e a h none =
    let good = accepted variant source size listed_lines e in
    let fit = subst (AllFit size) good.1 (all_fit variant size (labels (source_lines variant size source)) [] (source_lines variant size source) 0 (all_sound variant size 0 (lines source)) good.0) in
    fold-kept size a listed_lines (zero_bytes size) fit (length-zeros size) none ∙ zeros size a

none_emits : (a : ℕ) (lines : List Line) → ((between after : List Line) (other : Line) → lines ≡ between ++ other ∷ after → emits other a ≡ true → ⊥) → list_any (λ line. emits line a) lines ≡ false
none_emits a [] none = refl
none_emits a (line ∷ lines) none =
    by (emits line a) (none [] lines line refl) (none_emits a lines (λ between after other e. none (line ∷ between) after other (ap (λ xs. line ∷ xs) e)))
  where
    by : (b : Bool) → (b ≡ true → ⊥) → list_any (λ line. emits line a) lines ≡ false → (b || list_any (λ line. emits line a) lines) ≡ false
    by true never rest = absurd (never refl)
    by false never rest = rest

fold-parts : (before after : List Line) (line : Line) (memory : List ℕ)
    → fold (λ memory line. put_at line.addr line.bytes.items memory) memory (before ++ line ∷ after)
    ≡ fold (λ memory line. put_at line.addr line.bytes.items memory)
    (put_at line.addr line.bytes.items (fold (λ memory line. put_at line.addr line.bytes.items memory) memory before)) after
fold-parts [] after line memory = refl
fold-parts (other ∷ before) after line memory = fold-parts before after line (put_at other.addr other.bytes.items memory)

fit-parts : (size : ℕ) (before after : List Line) (line : Line) → AllFit size (before ++ line ∷ after) → AllFit size before × FitsAt size line.addr (length line.bytes.items) × AllFit size after
unfolding AllFit
fit-parts size [] after line f = (tt, f.0, f.1)
fit-parts size (other ∷ before) after line f = let rest = fit-parts size before after line f.1 in ((f.0, rest.0), rest.1, rest.2)

pub image_has_lines : ImageHasLines
unfolding image zero_bytes source_lines
image_has_lines variant source size listed_lines e before after line a split x =
    let good = accepted variant source size listed_lines e in
    let fit = subst (AllFit size) (good.1 ∙ split) (all_fit variant size (labels (source_lines variant size source)) [] (source_lines variant size source) 0 (all_sound variant size 0 (lines source)) good.0) in
    let parts = fit-parts size before after line fit in
    let memory = fold (λ memory line. put_at line.addr line.bytes.items memory) (zero_bytes size) before in
    let long = length-fold size before (zero_bytes size) parts.0 (length-zeros size) in
    let none = none_emits a after (λ between rest other f y. bytes_have_one_line variant source size listed_lines e before between rest line other a (split ∙ ap (λ xs. before ++ line ∷ xs) f) x y) in
    rw split (rw (fold-parts before after line (zero_bytes size))
    (fold-kept size a after (put_at line.addr line.bytes.items memory) parts.2 (length-put_at size line.addr line.bytes.items memory parts.1 long) none
    ∙ put_at-inside size line.addr line.bytes.items memory a parts.1 long x))
