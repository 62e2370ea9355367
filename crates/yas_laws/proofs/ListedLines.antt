-- The lines of the listing of an accepted source: their texts are lines of the source, their bytes are below 256, and
-- their addresses are at most the size.
use Rattle.std.proofs.Common.{◌≡◌, ℕ, zero, suc, ◌+◌, ◌-◌, ◌*◌, ◌<◌, ◌≤◌, Bool, true, false, cond, eqb, not, nat_le, List, [], ◌∷◌, length, take, drop, All, IfSome, Option, Some, None, Result, Ok, Err, refl, ap, sym, subst, ◌∙◌, arith, length-take, length-drop, drop-drop, leb-true}
use Rattle.std.specs.Prelude.{unwrap_or}
use Rattle.std.specs.List.{list_all, position_or_len}
use Rattle.std.specs.Int.{to_le_bytes, bytes_low_first, byte_at, w64}
use Rattle.std.proofs.Math.Numerals.{one-add}
use Rattle.std.proofs.lemmas.List.Elements.{All-nil, All-cons, All-take, All-append}
use Rattle.y86_base.specs.declared.parts.Variant.{Variant}
use Rattle.y86_base.specs.Image.{AreBytes}
use Rattle.y86_base.specs.Text.{is_line_feed, lines}
use Rattle.y86_base.proofs.Lines.{lines-first}
use Rattle.y86_isa.specs.declared.columns.Row.{Row}
use Rattle.y86_isa.specs.declared.encoding.Instr.{Instr}
use Rattle.y86_isa.specs.Table.{row}
use Rattle.y86_isa.specs.Encoding.{IsValid, encoded, widest}
use Rattle.y86_isa.proofs.Rows.{ifun_top-le}
use Rattle.y86_isa.proofs.Encodings.{field_most}
use Rattle.yas_asm.specs.declared.fault.AsmWhy.{AsmWhy}
use Rattle.yas_asm.specs.declared.fault.AsmFault.{AsmFault}
use Rattle.yas_asm.specs.declared.listing.Line.{Line}
use Rattle.yas_asm.specs.declared.statement.Statement.{Statement}
use Rattle.yas_asm.specs.declared.statement.Statement.TheVariants as statements
use Rattle.yas_asm.specs.declared.statement.Parsed.{Parsed}
use Rattle.yas_asm.specs.Grammar.{bytes_of, read_line}
use Rattle.yas_asm.specs.Sound.{IsSound}
use Rattle.yas_asm.specs.Assembly.{placed, place, destination, address_after, source_lines, labels, value_of, bytes_at, shown_at, listed, listing, listing_unless, first_fault, assembled, assembled_with}
use Rattle.yas_asm.proofs.SoundLemmas.{sound_instruction}
use Rattle.yas_asm.proofs.SoundGrammar.{IsSoundRead, read_sound}
use Rattle.yo_object.specs.Printed.{text_of}
use Rattle.yas_laws.proofs.PrintedLines.{is_plain}

-- the first line of a text

bounded : (b : Bool) (n most : ℕ) → n ≤ most → cond (not b) (1 + n) 0 ≤ suc most
bounded true n most h = omega arith
bounded false n most h = omega arith

position_inside : (text : List ℕ) → position_or_len is_line_feed text ≤ length text
position_inside [] = omega arith
position_inside (byte ∷ text) = bounded (is_line_feed byte) (position_or_len is_line_feed text) (length text) (position_inside text)

first_plain : (text : List ℕ) → list_all is_plain (take (position_or_len is_line_feed text) text) ≡ true
first_plain [] = refl
first_plain (byte ∷ text) = by (is_line_feed byte) refl (first_plain text)
  where
    by : (b : Bool) → is_line_feed byte ≡ b → list_all is_plain (take (position_or_len is_line_feed text) text) ≡ true →
        list_all is_plain (take (cond (not b) (1 + position_or_len is_line_feed text) 0) (byte ∷ text)) ≡ true
    by true e h = refl
    by false e h = rw (one-add, e) h

-- its bytes

abbrev IsByte : ℕ → Type 0
IsByte byte = byte < 256

byte_small : (i n : ℕ) → byte_at i n < 256
byte_small zero n = omega arith
byte_small (suc i) n = omega arith

low_bytes : (i count n : ℕ) → AreBytes (bytes_low_first i count n)
low_bytes i zero n = All-nil IsByte
low_bytes i (suc count) n = All-cons IsByte (byte_at i n) (bytes_low_first (suc i) count n) (byte_small i n) (low_bytes (suc i) count n)

word_bytes : (n : ℕ) → AreBytes (to_le_bytes w64 n)
word_bytes n = low_bytes 0 8 n

where_some : (b : Bool) (bytes : List ℕ) → AreBytes bytes → AreBytes (cond b bytes [])
where_some true bytes h = h
where_some false bytes h = All-nil IsByte

written_small : (b : Bool) (top : ℕ) → top ≤ 15 → cond b 0 top ≤ 15
written_small true top h = omega arith
written_small false top h = h

encoded_bytes : (i : Instr) → IsValid widest i → AreBytes (encoded i)
unfolding encoded
encoded_bytes i valid =
    let r : Row = row widest i.icode in
    let known : i.icode < 16 = omega (arith, valid.known) in
    let small : i.ifun ≤ 15 = omega (arith, valid.fits.ifun, written_small (eqb r.ifun_top 15) r.ifun_top (ifun_top-le widest i.icode)) in
    let a : i.r_a ≤ 15 = field_most r.uses_a i.r_a valid.fits.field_a in
    let b : i.r_b ≤ 15 = field_most r.uses_b i.r_b valid.fits.field_b in
    let second : AreBytes ((16 * i.r_a + i.r_b) ∷ []) = All-cons IsByte (16 * i.r_a + i.r_b) [] (omega arith) (All-nil IsByte) in
    All-cons IsByte (16 * i.icode + i.ifun) _ (omega arith)
    (All-append IsByte _ _ (where_some r.has_byte ((16 * i.r_a + i.r_b) ∷ []) second) (where_some r.has_const (to_le_bytes w64 i.val_c) (word_bytes i.val_c)))

statement_bytes : (variant : Variant) (table : List (List ℕ × ℕ)) (statement : Statement) → IsSound variant statement → AreBytes (bytes_at table statement)
unfolding bytes_at
statement_bytes variant table statements.Nothing sound = All-nil IsByte
statement_bytes variant table (statements.Instruction icode ifun a b constant) sound =
    encoded_bytes _ (sound_instruction variant table (statements.Instruction icode ifun a b constant) icode ifun a b constant (value_of table constant) refl refl sound)
statement_bytes variant table (statements.Data width value) sound = All-take IsByte (bytes_of width) (to_le_bytes w64 (value_of table value)) (word_bytes (value_of table value))
statement_bytes variant table (statements.Position n) sound = All-nil IsByte
statement_bytes variant table (statements.Align n) sound = All-nil IsByte
statement_bytes variant table statements.Wide sound = All-nil IsByte

-- its address

place_most : (variant : Variant) (size address : ℕ) (statement : Statement) → IfSome (place variant size address statement) (λ next. next ≤ size)
unfolding place
place_most variant size address statement = by (nat_le (destination variant address statement) size) refl
  where
    by : (b : Bool) → nat_le (destination variant address statement) size ≡ b →
        IfSome (cond b (Some (destination variant address statement)) None) (λ next. next ≤ size)
    by true e = leb-true (destination variant address statement) size e
    by false e = tt

shown_most : (label : Option (List ℕ)) (address size : ℕ) (next : Option ℕ) (statement : Statement) → address ≤ size → IfSome next (λ a. a ≤ size) →
    IfSome (shown_at label address next statement) (λ a. a ≤ size)
shown_most None address size next statements.Nothing h k = tt
shown_most (Some label) address size next statements.Nothing h k = h
shown_most label address size next (statements.Instruction icode ifun a b constant) h k = h
shown_most label address size next (statements.Data width value) h k = h
shown_most label address size next (statements.Position n) h k = k
shown_most label address size next (statements.Align n) h k = k
shown_most label address size next statements.Wide h k = tt

either_most : (next : Option ℕ) (address size : ℕ) → address ≤ size → IfSome next (λ a. a ≤ size) → unwrap_or next address ≤ size
either_most None address size h k = h
either_most (Some next) address size h k = k

after_most : (variant : Variant) (size address : ℕ) (read : Result Parsed AsmWhy) → address ≤ size → address_after variant size address read ≤ size
unfolding address_after
after_most variant size address (Err why) h = h
after_most variant size address (Ok parsed) h =
    either_most (place variant size address parsed.statement) address size h (place_most variant size address parsed.statement)

-- a line of a listing

pub record IsListed (source : List ℕ) (size : ℕ) (line : Line) : Type 0 where
  pub plain : list_all is_plain (text_of source line.from line.to) ≡ true
  pub bytes : AreBytes line.bytes.items
  pub within : IfSome line.addr (λ address. address ≤ size)

one_listed : (variant : Variant) (size : ℕ) (table : List (List ℕ × ℕ)) (source text : List ℕ) (from to address : ℕ) (read : Result Parsed AsmWhy) →
    read_line variant text ≡ read → address ≤ size → list_all is_plain (text_of source from to) ≡ true →
    IsListed source size (listed variant size table from to address read)
unfolding listed
one_listed variant size table source text from to address (Err why) e h plain = record { plain = plain; bytes = All-nil IsByte; within = tt }
one_listed variant size table source text from to address (Ok parsed) e h plain = record {
  plain = plain;
  bytes = statement_bytes variant table parsed.statement (subst (IsSoundRead variant) e (read_sound variant text));
  within = shown_most parsed.label address size (place variant size address parsed.statement) parsed.statement h (place_most variant size address parsed.statement);
}

-- the listed lines of a text that begins at a place of the source
lines_listed : (variant : Variant) (size : ℕ) (table : List (List ℕ × ℕ)) (source : List ℕ) (most from address : ℕ) (text : List ℕ) →
    length text ≤ most → drop from source ≡ text → address ≤ size →
    All (IsListed source size) (listing variant size table from (placed variant size address (lines text)))
unfolding listing placed
lines_listed variant size table source most from address [] fits begins h = All-nil (IsListed source size)
lines_listed variant size table source zero from address (byte ∷ bytes) fits begins h = absurd (omega arith)
lines_listed variant size table source (suc most) from address (byte ∷ bytes) fits begins h =
    let text : List ℕ = byte ∷ bytes in
    let place_of : ℕ = position_or_len is_line_feed text in
    let first : List ℕ = take place_of text in
    let rest : List ℕ = drop 1 (drop place_of text) in
    let long : length first ≡ place_of = omega (arith, position_inside text, length-take place_of text) in
    let width : from + length first - from ≡ place_of = omega (arith, long) in
    let same : text_of source from (from + length first) ≡ first = λ i. take (width i) (begins i) in
    let plain : list_all is_plain (text_of source from (from + length first)) ≡ true = ap (list_all is_plain) same ∙ first_plain text in
    let next : from + length first + 1 ≡ from + (place_of + 1) = omega (arith, long) in
    let goes_on : drop (from + length first + 1) source ≡ rest =
    ap (λ n. drop n source) next ∙ (sym (drop-drop (place_of + 1) from source) ∙ (sym (drop-drop 1 place_of (drop from source)) ∙ ap (λ t. drop 1 (drop place_of t)) begins)) in
    subst (λ (ls : List (List ℕ)). All (IsListed source size) (listing variant size table from (placed variant size address ls))) (sym (lines-first text (omega arith)))
    (All-cons (IsListed source size) _ _
    (one_listed variant size table source first from (from + length first) address (read_line variant first) refl h plain)
    (lines_listed variant size table source most (from + length first + 1) (address_after variant size address (read_line variant first)) rest
    (omega (arith, fits, length-drop 1 (drop place_of text), length-drop place_of text)) goes_on (after_most variant size address (read_line variant first) h)))

listing_of : (fault : Option AsmFault) (all lines : List Line) → listing_unless fault all ≡ Ok lines → all ≡ lines
listing_of None all lines e = cc
listing_of (Some fault) all lines e = absurd (cc)

pub assembled_lines : (variant : Variant) (source : List ℕ) (size : ℕ) (lines : List Line) → assembled variant source size ≡ Ok lines →
    All (IsListed source size) lines
unfolding assembled assembled_with source_lines
assembled_lines variant source size found e =
    let table : List (List ℕ × ℕ) = labels (source_lines variant size source) in
    subst (All (IsListed source size)) (listing_of (first_fault variant size table [] (source_lines variant size source)) (listing variant size table 0 (source_lines variant size source)) found e)
    (lines_listed variant size table source (length source) 0 0 source (omega arith) refl (omega arith))
