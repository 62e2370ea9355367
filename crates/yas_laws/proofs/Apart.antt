-- The lines of an accepted source don't overlap, and their bytes are inside the size for which it was assembled.
use Rattle.std.proofs.Common.{◌≡◌, ◌⊎◌, ℕ, suc, ◌+◌, ◌-◌, ◌<◌, ◌≤◌, true, List, [], ◌∷◌, ◌++◌, length, take, drop, replicate, get_or, All, IfSome, Option, Some, None, Result, Ok, Err, refl, ap, sym, subst, ◌∙◌, inl, inr, arith, drop-cons}
use Rattle.std.specs.Prelude.{is_some, slice_index}
use Rattle.std.proofs.lemmas.Bool.{cases_lt, le-leb, lt-ltb}
use Rattle.std.proofs.lemmas.List.{take-append-drop}
use Rattle.std.proofs.lemmas.List.Elements.{All-nil, All-cons}
use Rattle.y86_base.specs.declared.parts.Variant.{Variant}
use Rattle.yas_asm.specs.declared.fault.AsmWhy.{AsmWhy}
use Rattle.yas_asm.specs.declared.listing.Line.{Line}
use Rattle.yas_asm.specs.declared.statement.Statement.{Statement}
use Rattle.yas_asm.specs.declared.statement.Statement.TheVariants as statements
use Rattle.yas_asm.specs.declared.statement.Parsed.{Parsed}
use Rattle.yas_asm.specs.Assembly.{Placed, place, destination, width_of, source_lines, labels, bytes_at, shown_at, line_fault, first_fault, listed, listing, assembled}
use Rattle.yas_asm.specs.Laws.{emits}
use Rattle.yas_asm.proofs.SoundLemmas.{within}
use Rattle.yas_laws.proofs.LawLemmas.{accepted, no_fault}
use Rattle.yas_asm.proofs.PassLemmas.{free_without_fault}
use Rattle.y86_base.specs.Text.{lines}
use Rattle.yas_laws.proofs.ByteLemmas.{AllSound, all_sound, emits-listed, bytes_have_one_line}
use Rattle.yas_asm.proofs.SoundGrammar.{IsSoundRead}
use Rattle.yas_laws.proofs.ListingImage.{image_same}
use Rattle.yo_object.specs.ReadBack.{IsInside, IsAddressed, EmitsAtAddresses, HasNoByteAt, FitsItsSize, HasItsBytes}
use Rattle.yas_laws.proofs.Images.{zeros_inside, byte_kept}

-- a property of each line with any lines before and after it holds for all lines
from_parts : (P : Line → Type 0) (lines : List Line) → ((before after : List Line) (line : Line) → lines ≡ before ++ line ∷ after → P line) → All P lines
from_parts P lines each k d lt =
    each (take k lines) (drop (suc k) lines) (get_or lines k d) (sym (take-append-drop k lines) ∙ ap (λ rest. take k lines ++ rest) (drop-cons lines k d lt))

-- a line that has a byte

emits_its : (line : Line) (first a : ℕ) → line.addr ≡ Some first → first ≤ a → a < first + length line.bytes.items → emits line a ≡ true
emits_its line first a at le lt = rw (at, le-leb first a le, lt-ltb a (first + length line.bytes.items) lt) refl

misses_at : (addr : Option ℕ) (n a : ℕ) → ((first : ℕ) → addr ≡ Some first → first ≤ a → a < first + n → ⊥) → IfSome addr (λ first. (a < first) ⊎ (first + n ≤ a))
misses_at None n a none = tt
misses_at (Some first) n a none =
    elim (cases_lt a first) [
      | inl lt ↦ inl lt
      | inr le ↦ (elim (cases_lt a (first + n)) [ inl lt ↦ absurd (none first refl le lt) | inr past ↦ inr past ])
    ]

-- after a line that has a byte at an address, no line has one there
later_miss : (variant : Variant) (source : List ℕ) (size : ℕ) (before after : List Line) (line : Line) (first k : ℕ) →
    assembled variant source size ≡ Ok (before ++ line ∷ after) → line.addr ≡ Some first → k < length line.bytes.items → All (HasNoByteAt (first + k)) after
later_miss variant source size before after line first k e at lt = from_parts (HasNoByteAt (first + k)) after (λ between rest other split.
    misses_at other.addr (length other.bytes.items) (first + k) (λ start there le below.
    bytes_have_one_line variant source size (before ++ line ∷ after) e before between rest line other (first + k)
    (ap (λ behind. before ++ line ∷ behind) split) (emits_its line first (first + k) at (omega arith) (omega arith)) (emits_its other start (first + k) there le below)))

-- a line that emits bytes stays within the size

width_fits : (variant : Variant) (size address : ℕ) (statement : Statement) → is_some (place variant size address statement) ≡ true → 0 < width_of variant statement →
    address + width_of variant statement ≤ size
unfolding place destination width_of
width_fits variant size address statements.Nothing e some = absurd (omega arith)
width_fits variant size address (statements.Instruction icode ifun a b constant) e some = within size _ e
width_fits variant size address (statements.Data width value) e some = within size _ e
width_fits variant size address (statements.Position n) e some = absurd (omega arith)
width_fits variant size address (statements.Align n) e some = absurd (omega arith)
width_fits variant size address statements.Wide e some = absurd (omega arith)

no_why : (why : AsmWhy) → Some why ≡ None → ⊥
no_why why e = cc

no_address : (first : ℕ) → None ≡ Some first → ⊥
no_address first e = cc

-- a line without an address has no bytes
unaddressed : (variant : Variant) (size : ℕ) (table : List (List ℕ × ℕ)) (from to address : ℕ) (read : Result Parsed AsmWhy) →
    IsAddressed (listed variant size table from to address read)
unfolding listed bytes_at
unaddressed variant size table from to address (Err why) e = refl
unaddressed variant size table from to address (Ok parsed) e = by parsed.statement e
  where
    by : (s : Statement) → shown_at parsed.label address (place variant size address s) s ≡ None → bytes_at table s ≡ []
    by statements.Nothing e = refl
    by (statements.Instruction icode ifun a b constant) e = absurd (no_address address (sym e))
    by (statements.Data width value) e = absurd (no_address address (sym e))
    by (statements.Position n) e = refl
    by (statements.Align n) e = refl
    by statements.Wide e = refl

inside_at : (addr : Option ℕ) (n size : ℕ) → ((first : ℕ) → addr ≡ Some first → 0 < n → first + n ≤ size) → IfSome addr (λ first. 0 < n → first + n ≤ size)
inside_at None n size f = tt
inside_at (Some first) n size f = f first refl

emitted_inside : (variant : Variant) (size : ℕ) (table known : List (List ℕ × ℕ)) (used : List ℕ) (from to address : ℕ) (read : Result Parsed AsmWhy) →
    IsSoundRead variant read → line_fault variant size table known used address read ≡ None → IsInside size (listed variant size table from to address read)
unfolding line_fault
emitted_inside variant size table known used from to address (Err why) sound e = absurd (no_why why e)
emitted_inside variant size table known used from to address (Ok parsed) sound e =
    let line : Line = listed variant size table from to address (Ok parsed) in
    let tests = free_without_fault variant size table known used address parsed e in
    inside_at line.addr (length line.bytes.items) size (λ first at some.
    let last : ℕ = first + length line.bytes.items - 1 in
    let two = emits-listed variant size table from to address last parsed sound (emits_its line first last at (omega arith) (omega arith)) in
    let fits = width_fits variant size address parsed.statement tests.inside (omega (arith, two.0, two.1)) in
    omega (arith, two.0, two.1, fits))

-- the lines of an accepted source

-- a property of each line without a fault holds for all
from_faultless : (P : Line → Type 0) (variant : Variant) (size : ℕ) (table : List (List ℕ × ℕ)) (seen rest : List Placed) (from : ℕ) →
    ((known : List (List ℕ × ℕ)) (used : List ℕ) (from to address : ℕ) (read : Result Parsed AsmWhy) →
    IsSoundRead variant read → line_fault variant size table known used address read ≡ None → P (listed variant size table from to address read)) →
    AllSound variant rest → first_fault variant size table seen rest ≡ None → All P (listing variant size table from rest)
unfolding listing first_fault
from_faultless P variant size table seen [] from each sound e = All-nil P
from_faultless P variant size table seen (line ∷ rest) from each sound e =
    let two = no_fault _ _ (first_fault variant size table (seen ++ (line ∷ [])) rest) e in
    All-cons P _ _ (each _ _ from (from + length line.text) line.address line.read sound.0 two.0)
    (from_faultless P variant size table (seen ++ (line ∷ [])) rest (from + length line.text + 1) each sound.1 two.1)

from_source : (P : Line → Type 0) (variant : Variant) (source : List ℕ) (size : ℕ) (listing : List Line) → assembled variant source size ≡ Ok listing →
    ((table known : List (List ℕ × ℕ)) (used : List ℕ) (from to address : ℕ) (read : Result Parsed AsmWhy) →
    IsSoundRead variant read → line_fault variant size table known used address read ≡ None → P (listed variant size table from to address read)) → All P listing
unfolding source_lines
from_source P variant source size listing' e each =
    let good = accepted variant source size listing' e in
    let table : List (List ℕ × ℕ) = labels (source_lines variant size source) in
    subst (All P) good.1 (from_faultless P variant size table [] (source_lines variant size source) 0 (each table) (all_sound variant size 0 (lines source)) good.0)

pub emits_at_addresses : EmitsAtAddresses
emits_at_addresses variant source size lines e =
    from_source IsAddressed variant source size lines e (λ table known used from to address read sound none. unaddressed variant size table from to address read)

pub fits_its_size : FitsItsSize
fits_its_size variant source size lines e = from_source (IsInside size) variant source size lines e (emitted_inside variant size)

pub has_its_bytes : HasItsBytes
has_its_bytes variant source assembled_size size before after line e inside first k at lt =
    ap (λ memory. slice_index memory (first + k)) (sym (image_same (before ++ line ∷ after) size))
    ∙ byte_kept (replicate size 0) before after line first k (zeros_inside size (before ++ line ∷ after) inside) at lt
    (later_miss variant source assembled_size before after line first k e at lt)
