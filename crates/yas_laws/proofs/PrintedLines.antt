-- A printed line is read as its address and its bytes, and the printed lines are the lines of the text.
use Rattle.std.proofs.Common.{◌≡◌, ℕ, zero, suc, ◌+◌, ◌-◌, ◌^◌, ◌<◌, ◌≤◌, Bool, true, not, List, [], ◌∷◌, ◌++◌, length, codes, take, drop, fold, replicate, All, IfSome, Option, Some, None, Ok, refl, ap, sym, subst, ◌∙◌, arith, append_assoc, length-append, length-take, length-drop}
use Rattle.std.specs.List.{list_all, flat_map}
use Rattle.std.proofs.lemmas.Bool.{not-true, and_parts}
use Rattle.std.proofs.lemmas.Bool.Decides.{nat_tests}
use Rattle.std.proofs.lemmas.List.Elements.{All-head, All-tail}
use Rattle.y86_base.specs.Image.{AreBytes}
use Rattle.y86_base.specs.Text.{is_blank, is_hex, is_line_feed, lines}
use Rattle.y86_base.specs.Numeral.{numeral}
use Rattle.yas_asm.specs.declared.listing.Line.{Line}
use Rattle.yas_asm.specs.Laws.{put_at}
use Rattle.yo_object.specs.ObjectText.{after_prefix, put_line, put_lines}
use Rattle.yo_object.specs.Grammar.{IsObjectLine, BeginsObjectLine}
use Rattle.yo_object.specs.Printed.{hex_bytes, front, text_of, printed_line}
use Rattle.yo_object.specs.ReadBack.{IsInside}
use Rattle.yas_laws.proofs.ListingImage.{with_line}
use Rattle.yo_object.proofs.Bytes.{grouped, put_nothing}
use Rattle.yas_laws.proofs.LoadedLines.{line_put, line_skipped}
use Rattle.yo_object.proofs.Texts.{text_end, text_more}
use Rattle.y86_base.proofs.Runs.{behind-run, list_all-append}
use Rattle.yas_laws.proofs.Grammar.{begin_read}
use Rattle.yas_laws.proofs.HexDigits.{numeral_is_hex, hex_bytes_are_pairs}

-- lines without line feeds

abbrev pub is_plain : ℕ → Bool
is_plain byte = not (is_line_feed byte)

hex_plain : (byte : ℕ) → is_hex byte ≡ true → is_plain byte ≡ true
hex_plain byte h = grind (arith, nat_tests)

all_plain : (digits : List ℕ) → list_all is_hex digits ≡ true → list_all is_plain digits ≡ true
all_plain [] h = refl
all_plain (digit ∷ digits) h =
    let b = and_parts (is_hex digit) (list_all is_hex digits) h in
    rw (hex_plain digit b.0, all_plain digits b.1) refl

blanks_plain : (count : ℕ) → list_all is_plain (replicate count 32) ≡ true
blanks_plain zero = refl
blanks_plain (suc count) = blanks_plain count

-- the text up to a line feed is the first line, and the lines after it are the others
next_line : (line rest : List ℕ) → list_all is_plain line ≡ true → lines (line ++ (10 ∷ rest)) ≡ line ∷ lines rest
next_line [] rest h = refl
next_line (byte ∷ line) rest h =
    let b = and_parts (is_plain byte) (list_all is_plain line) h in
    rw (not-true (is_line_feed byte) b.0, next_line line rest b.1) refl

-- the text of a line

blanks_blank : (count : ℕ) → list_all is_blank (replicate count 32) ≡ true
blanks_blank zero = refl
blanks_blank (suc count) = blanks_blank count

regroup : (digits pairs trail text : List ℕ) →
    48 ∷ 120 ∷ (((digits ++ (58 ∷ 32 ∷ [])) ++ (pairs ++ trail)) ++ (32 ∷ 124 ∷ 32 ∷ text))
    ≡ 48 ∷ 120 ∷ (digits ++ (58 ∷ 32 ∷ (pairs ++ ((trail ++ (32 ∷ [])) ++ (124 ∷ 32 ∷ text)))))
regroup digits pairs trail text = simp append_assoc

-- hex digits of an address and of bytes, between the fixed signs, form a well-formed line
form_of : (digits pairs trail text : List ℕ) → list_all is_hex digits ≡ true → 0 < length digits → list_all is_hex pairs ≡ true → list_all is_blank trail ≡ true →
    IsObjectLine ((codes "0x" ++ digits ++ codes ": " ++ (pairs ++ trail)) ++ (codes " | " ++ text)) digits pairs
form_of digits pairs trail text digits_hex some pairs_hex trail_blank = record {
  lead = [];
  gap = 32 ∷ [];
  trail = trail ++ (32 ∷ []);
  comment = 124 ∷ 32 ∷ text;
  text = regroup digits pairs trail text;
  lead_blank = refl;
  address_hex = digits_hex;
  address_some = some;
  gap_blank = refl;
  bytes_hex = pairs_hex;
  trail_blank = list_all-append is_blank trail (32 ∷ []) trail_blank refl;
  comment_ends = refl;
}

-- a line without an address is skipped
blanks_skipped : (bytes text rest : List ℕ) → BeginsObjectLine (front None bytes ++ (codes " | " ++ text)) rest → ⊥
unfolding front
blanks_skipped bytes text rest begins = no (sym (begin_read _ rest begins) ∙ ap after_prefix (behind-run is_blank (replicate 28 32) (124 ∷ 32 ∷ text) refl refl))
  where
    no : Some rest ≡ None → ⊥
    no e = cc

-- a printed line stores its bytes at its address
line_puts : (memory bytes text : List ℕ) (addr : Option ℕ) → AreBytes bytes → IfSome addr (λ a. a < 16 ^ 16) →
    IfSome addr (λ a. 0 < length bytes → a + length bytes ≤ length memory) →
    put_line memory (front addr bytes ++ (codes " | " ++ text)) ≡ Ok (put_at addr bytes memory)
unfolding front
line_puts memory bytes text None small narrow inside = line_skipped memory _ (blanks_skipped bytes text)
line_puts memory bytes text (Some a) small narrow inside =
    let hex = numeral_is_hex 3 15 a (omega arith) (omega arith) narrow (omega (arith, narrow)) in
    let two = hex_bytes_are_pairs bytes small in
    line_put (length memory) memory _ (record {
      address = a;
      bytes = bytes;
      digits = numeral 16 3 a;
      pairs = hex_bytes bytes;
      form = form_of (numeral 16 3 a) (hex_bytes bytes) (replicate (20 - length (hex_bytes bytes)) 32) text hex.hex (omega (arith, hex.wide)) two.hex (blanks_blank (20 - length (hex_bytes bytes)));
      narrow = hex.few;
      number = hex.number;
      written = two.bytes_are;
      double = two.double;
      inside = inside;
    }) refl

-- what precedes a line's text has no line feed
front_plain : (bytes : List ℕ) (addr : Option ℕ) → AreBytes bytes → IfSome addr (λ a. a < 16 ^ 16) → list_all is_plain (front addr bytes) ≡ true
unfolding front
front_plain bytes None small narrow = refl
front_plain bytes (Some a) small narrow =
    let hex = numeral_is_hex 3 15 a (omega arith) (omega arith) narrow (omega (arith, narrow)) in
    let two = hex_bytes_are_pairs bytes small in
    let blanks : List ℕ = replicate (20 - length (hex_bytes bytes)) 32 in
    let back : list_all is_plain (hex_bytes bytes ++ blanks) ≡ true =
    list_all-append is_plain (hex_bytes bytes) blanks (all_plain (hex_bytes bytes) two.hex) (blanks_plain (20 - length (hex_bytes bytes))) in
    let whole : list_all is_plain (numeral 16 3 a ++ (58 ∷ 32 ∷ (hex_bytes bytes ++ blanks))) ≡ true =
    list_all-append is_plain (numeral 16 3 a) (58 ∷ 32 ∷ (hex_bytes bytes ++ blanks)) (all_plain (numeral 16 3 a) hex.hex) back in
    let same : (numeral 16 3 a ++ (58 ∷ 32 ∷ [])) ++ (hex_bytes bytes ++ blanks) ≡ numeral 16 3 a ++ (58 ∷ 32 ∷ (hex_bytes bytes ++ blanks)) =
    append_assoc (numeral 16 3 a) (58 ∷ 32 ∷ []) (hex_bytes bytes ++ blanks) in
    ap (list_all is_plain) same ∙ whole

-- bytes that are stored inside a memory don't change its size
pub size_kept : (memory bytes : List ℕ) (addr : Option ℕ) → IfSome addr (λ a. 0 < length bytes → a + length bytes ≤ length memory) →
    length (put_at addr bytes memory) ≡ length memory
size_kept memory bytes None inside = refl
size_kept memory [] (Some a) inside = ap length (put_nothing memory a)
size_kept memory (byte ∷ bytes) (Some a) inside =
    let le : a + length (byte ∷ bytes) ≤ length memory = inside (omega arith) in
    let behind_them : List ℕ = drop (a + length (byte ∷ bytes)) memory in
    let long : length ((take a memory ++ (byte ∷ bytes)) ++ behind_them) ≡ length memory =
    omega (arith, le, length-append (take a memory ++ (byte ∷ bytes)) behind_them, length-append (take a memory) (byte ∷ bytes), length-take a memory, length-drop (a + length (byte ∷ bytes)) memory) in
    ap length (grouped memory (byte ∷ bytes) a) ∙ long

-- the lines of a printed text

-- a printed line without its line feed
abbrev line_body : List ℕ → Line → List ℕ
line_body source line = front line.addr line.bytes.items ++ (codes " | " ++ text_of source line.from line.to)

-- the properties of a line that is read back in a memory of the size
pub record IsPrintable (source : List ℕ) (size : ℕ) (line : Line) : Type 0 where
  pub plain : list_all is_plain (text_of source line.from line.to) ≡ true
  pub bytes : AreBytes line.bytes.items
  pub narrow : IfSome line.addr (λ address. address < 16 ^ 16)
  pub inside : IsInside size line

first_printed : (source : List ℕ) (size : ℕ) (line : Line) (rest : List ℕ) → IsPrintable source size line →
    lines (printed_line source line ++ rest) ≡ line_body source line ∷ lines rest
unfolding printed_line
first_printed source size line rest p =
    let text : List ℕ = text_of source line.from line.to in
    let start : List ℕ = front line.addr line.bytes.items in
    let plain : list_all is_plain (line_body source line) ≡ true =
    list_all-append is_plain start (codes " | " ++ text) (front_plain line.bytes.items line.addr p.bytes p.narrow) p.plain in
    let regroup : printed_line source line ++ rest ≡ line_body source line ++ (10 ∷ rest) = simp append_assoc in
    ap lines regroup ∙ next_line (line_body source line) rest plain

pub all_put : (source : List ℕ) (number : ℕ) (memory : List ℕ) (listing : List Line) → All (IsPrintable source (length memory)) listing →
    put_lines number memory (lines (flat_map (printed_line source) listing)) ≡ Ok (fold with_line memory listing)
all_put source number memory [] h = text_end number memory [] refl
all_put source number memory (line ∷ listing) h =
    let p = All-head (IsPrintable source (length memory)) line listing h in
    let rest = All-tail (IsPrintable source (length memory)) line listing h in
    let same : length (with_line memory line) ≡ length memory = size_kept memory line.bytes.items line.addr p.inside in
    text_more number memory (with_line memory line) (line_body source line) _ _ (first_printed source (length memory) line (flat_map (printed_line source) listing) p)
    (line_puts memory line.bytes.items (text_of source line.from line.to) line.addr p.bytes p.narrow p.inside)
    ∙ all_put source (number + 1) (with_line memory line) listing (subst (λ n. All (IsPrintable source n) listing) (sym same) rest)
