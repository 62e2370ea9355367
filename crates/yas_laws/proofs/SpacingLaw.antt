-- Two sources that differ only in comments and blanks have the same addresses and bytes, or the same fault.
use Rattle.std.proofs.Common.{◌≡◌, ◌+◌, ap, sym, ◌∙◌, ℕ, Bool, true, false, cond, zero, suc, List, [], ◌∷◌, ◌++◌, length, map, drop, fold, Option, None, Some, Result, Ok, Err, refl, arith}
use Rattle.std.specs.Prelude.{nat_le, not, ◌&&◌, ◌==◌, ◌||◌}
use Rattle.std.specs.List.{list_all}
use Rattle.std.proofs.lemmas.Bool.{false≢true, eqb-true, and_parts}
use Rattle.y86_base.specs.declared.parts.Variant.{Variant}
use Rattle.y86_base.specs.Text.{begins, behind, is_blank, lines}
use Rattle.yas_asm.specs.declared.fault.AsmWhy.{AsmWhy}
use Rattle.yas_asm.specs.declared.fault.AsmWhy.TheVariants.{BadByte}
use Rattle.yas_asm.specs.declared.fault.AsmFault.{AsmFault}
use Rattle.yas_asm.specs.declared.listing.Line.{Line}
use Rattle.yas_asm.specs.declared.statement.Parsed.{Parsed}
use Rattle.yas_asm.specs.Comments.{bad_outside, comment_length, ends, is_good}
use Rattle.yas_asm.specs.Grammar.{line, checked, read_line}
use Rattle.yas_asm.specs.Assembly.{Placed, placed, source_lines, labels, label_of, with_label, address_after, addresses, assembled, assembled_with, filled, first_fault, fault_or, line_fault, listing, listing_unless, listed}
use Rattle.yas_asm.specs.Spacing.{is_sign, squeezed, place_of, places, SpacingIsFree}
use Rattle.yas_asm.proofs.Parts.{head_is, tail_is, no_cons}
use Rattle.yas_asm.proofs.PassLemmas.{faults_from, first_fault-state}
use Rattle.yas_laws.proofs.SpacingLemmas.{after_blanks-blank, after_blanks-other, ends-other, hash_ends, no_comment, skips, squeezed-blank, squeezed-end, squeezed-none, squeezed-other, squeezed-slash}
use Rattle.yas_laws.proofs.SpacingGrammar.{line-squeezed}
use Rattle.yas_laws.proofs.SweepLaw.{all_good, at_byte, sweep_passes_comments}

-- ---- a squeezed line has a bad byte outside its comments exactly if the line has one

blank_good : (byte : ℕ) → is_blank byte ≡ true → is_good byte ≡ true
blank_good byte e = ap (λ b. b || (nat_le 33 byte && nat_le byte 126)) e

blank_is_no : (byte c : ℕ) → is_blank byte ≡ true → is_blank c ≡ false → (byte == c) ≡ false
blank_is_no byte c e f = by (byte == c) refl
  where
    by : (b : Bool) → (byte == c) ≡ b → b ≡ false
    by true t = absurd (false≢true (sym f ∙ ap is_blank (sym (eqb-true byte c t)) ∙ e))
    by false t = refl

blank_passed : (byte : ℕ) (bytes : List ℕ) → is_blank byte ≡ true → bad_outside 0 (byte ∷ bytes) ≡ bad_outside 0 bytes
blank_passed byte bytes e =
    at_byte byte bytes (no_comment byte bytes (blank_is_no byte 35 e refl) (blank_is_no byte 47 e refl))
    ∙ ap (λ good. not good || bad_outside 0 bytes) (blank_good byte e)

blanks_passed : (bytes : List ℕ) → bad_outside 0 bytes ≡ bad_outside 0 (behind is_blank bytes)
blanks_passed [] = refl
blanks_passed (byte ∷ bytes) = by (is_blank byte) refl (blanks_passed bytes)
  where
    by : (b : Bool) → is_blank byte ≡ b → bad_outside 0 bytes ≡ bad_outside 0 (behind is_blank bytes) → bad_outside 0 (byte ∷ bytes) ≡ bad_outside 0 (behind is_blank (byte ∷ bytes))
    by true e rest = blank_passed byte bytes e ∙ rest ∙ ap (bad_outside 0) (sym (after_blanks-blank byte bytes e))
    by false e rest = ap (bad_outside 0) (sym (after_blanks-other byte bytes e))

blanks_good : (bytes : List ℕ) → list_all is_blank bytes ≡ true → list_all is_good bytes ≡ true
blanks_good [] e = refl
blanks_good (byte ∷ bytes) e =
    let two = and_parts (is_blank byte) (list_all is_blank bytes) e in rw (blank_good byte two.0, blanks_good bytes two.1) refl

comment_passed : (text : List ℕ) → bad_outside 0 text ≡ bad_outside 0 (drop (comment_length text) text)
comment_passed text = by (comment_length text) refl
  where
    by : (n : ℕ) → comment_length text ≡ n → bad_outside 0 text ≡ bad_outside 0 (drop (comment_length text) text)
    by zero e = ap (λ n. bad_outside 0 (drop n text)) (sym e)
    by (suc n) e = sweep_passes_comments.comment text (omega (arith, e))

end_good : (bytes : List ℕ) → ends bytes ≡ true → bad_outside 0 bytes ≡ false
unfolding ends
end_good bytes e =
    let text = behind is_blank bytes in
    blanks_passed bytes ∙ comment_passed text ∙ all_good 0 (drop (comment_length text) text) (blanks_good (drop (comment_length text) text) e)

no_hash : (byte : ℕ) (bytes : List ℕ) → ends (byte ∷ bytes) ≡ false → is_blank byte ≡ false → (byte == 35) ≡ false
no_hash byte bytes e b = by (byte == 35) refl
  where
    by : (h : Bool) → (byte == 35) ≡ h → h ≡ false
    by true t = absurd (false≢true (sym e ∙ ends-other byte bytes b ∙ hash_ends byte bytes t))
    by false t = refl

bad-squeezed : (close : Bool) (bytes : List ℕ) → bad_outside 0 (squeezed close bytes) ≡ bad_outside 0 bytes
bad-squeezed close [] = ap (bad_outside 0) (squeezed-none close)
bad-squeezed close (byte ∷ bytes) = by (ends (byte ∷ bytes)) (is_blank byte) (byte == 47) refl refl refl (λ c. bad-squeezed c bytes)
  where
    skip : (c : Bool) → bad_outside 0 (squeezed close bytes) ≡ bad_outside 0 bytes → bad_outside 0 (cond c (squeezed close bytes) (32 ∷ squeezed close bytes)) ≡ bad_outside 0 bytes
    skip true rest = rest
    skip false rest = blank_passed 32 (squeezed close bytes) refl ∙ rest

    by : (e b s : Bool) → ends (byte ∷ bytes) ≡ e → is_blank byte ≡ b → (byte == 47) ≡ s → ((c : Bool) → bad_outside 0 (squeezed c bytes) ≡ bad_outside 0 bytes)
        → bad_outside 0 (squeezed close (byte ∷ bytes)) ≡ bad_outside 0 (byte ∷ bytes)
    by true b s t u v rest = ap (bad_outside 0) (squeezed-end close byte bytes t) ∙ all_good 0 [] refl ∙ sym (end_good (byte ∷ bytes) t)
    by false true s t u v rest =
        ap (bad_outside 0) (squeezed-blank close byte bytes t u) ∙ skip (close || begins skips bytes) (rest close) ∙ sym (blank_passed byte bytes u)
    by false false true t u v rest = ap (bad_outside 0) (squeezed-slash close byte bytes t u v)
    by false false false t u v rest =
        let h = no_hash byte bytes t u in
        ap (bad_outside 0) (squeezed-other close byte bytes t u v)
        ∙ at_byte byte (squeezed (is_sign byte) bytes) (no_comment byte (squeezed (is_sign byte) bytes) h v)
        ∙ ap (λ b. not (is_good byte) || b) (rest (is_sign byte)) ∙ sym (at_byte byte bytes (no_comment byte bytes h v))

-- ---- lines that are the same when squeezed are read alike

reads_alike : (variant : Variant) (one other : List ℕ) → squeezed true one ≡ squeezed true other → read_line variant one ≡ read_line variant other
unfolding read_line
reads_alike variant one other e =
    let bad : bad_outside 0 one ≡ bad_outside 0 other = sym (bad-squeezed true one) ∙ ap (bad_outside 0) e ∙ bad-squeezed true other in
    let same : line variant one ≡ line variant other = sym (line-squeezed variant true one) ∙ ap (line variant) e ∙ line-squeezed variant true other in
    ap (λ b. cond b (Err BadByte) (checked (line variant one))) bad ∙ ap (λ o. cond (bad_outside 0 other) (Err BadByte) (checked o)) same

-- a line at its address without its text
abbrev stripped : Placed → ℕ × Result Parsed AsmWhy
stripped line = (line.address, line.read)

lines_alike : (variant : Variant) (size : ℕ) (ones others : List (List ℕ)) (address : ℕ) → map (squeezed true) ones ≡ map (squeezed true) others
    → map stripped (placed variant size address ones) ≡ map stripped (placed variant size address others)
unfolding placed
lines_alike variant size [] [] address e = refl
lines_alike variant size [] (other ∷ others) address e = absurd (no_cons _ _ e)
lines_alike variant size (one ∷ ones) [] address e = absurd (no_cons _ _ (sym e))
lines_alike variant size (one ∷ ones) (other ∷ others) address e =
    let same = reads_alike variant one other (head_is _ _ _ _ e) in
    let rest = lines_alike variant size ones others (address_after variant size address (read_line variant one)) (tail_is _ _ _ _ e) in
    ap (λ xs. (address, read_line variant one) ∷ xs) rest
    ∙ ap (λ (r : Result Parsed AsmWhy). (address, r) ∷ map stripped (placed variant size (address_after variant size address r) others)) same

with_stripped : List (List ℕ × ℕ) → ℕ × Result Parsed AsmWhy → List (List ℕ × ℕ)
with_stripped table line = with_label table line.0 (label_of line.1)

labels-stripped : (all : List Placed) → labels all ≡ fold with_stripped [] (map stripped all)
unfolding labels with_stripped
labels-stripped all = by [] all
  where
    by : (table : List (List ℕ × ℕ)) (all : List Placed) → fold (λ table line. with_label table line.address (label_of line.read)) table all ≡ fold with_stripped table (map stripped all)
    by table [] = refl
    by table (line ∷ all) = by (with_label table line.address (label_of line.read)) all

shown : Variant → ℕ → List (List ℕ × ℕ) → ℕ × Result Parsed AsmWhy → Option ℕ × List ℕ
shown variant size table line = place_of (listed variant size table 0 0 line.0 line.1)

place_of-listed : (variant : Variant) (size : ℕ) (table : List (List ℕ × ℕ)) (from to address : ℕ) (read : Result Parsed AsmWhy)
    → place_of (listed variant size table from to address read) ≡ shown variant size table (address, read)
unfolding listed shown
place_of-listed variant size table from to address (Ok parsed) = refl
place_of-listed variant size table from to address (Err why) = refl

listing-stripped : (variant : Variant) (size : ℕ) (table : List (List ℕ × ℕ)) (from : ℕ) (all : List Placed)
    → map place_of (listing variant size table from all) ≡ map (shown variant size table) (map stripped all)
unfolding listing
listing-stripped variant size table from [] = refl
listing-stripped variant size table from (line ∷ all) =
    ap (λ p. p ∷ map place_of (listing variant size table (from + length line.text + 1) all)) (place_of-listed variant size table from (from + length line.text) line.address line.read)
    ∙ ap (λ ps. shown variant size table (stripped line) ∷ ps) (listing-stripped variant size table (from + length line.text + 1) all)

-- the first fault of lines depends only on their addresses and contents
faults_alike : (variant : Variant) (size : ℕ) (table known : List (List ℕ × ℕ)) (used : List ℕ) (passed : ℕ) (ones others : List Placed) → map stripped ones ≡ map stripped others
    → faults_from variant size table known used passed ones ≡ faults_from variant size table known used passed others
unfolding faults_from
faults_alike variant size table known used passed [] [] e = refl
faults_alike variant size table known used passed [] (other ∷ others) e = absurd (no_cons _ _ e)
faults_alike variant size table known used passed (one ∷ ones) [] e = absurd (no_cons _ _ (sym e))
faults_alike variant size table known used passed (one ∷ ones) (other ∷ others) e =
    let behind_one = faults_alike variant size table (with_label known one.address (label_of one.read)) (used ++ addresses variant size one.address one.read) (passed + 1) ones others (tail_is _ _ _ _ e) in
    ap (fault_or (line_fault variant size table known used one.address one.read) (passed + 1)) behind_one
    ∙ ap (λ (q : ℕ × Result Parsed AsmWhy). fault_or (line_fault variant size table known used q.0 q.1) (passed + 1)
    (faults_from variant size table (with_label known q.0 (label_of q.1)) (used ++ addresses variant size q.0 q.1) (passed + 1) others)) (head_is _ _ _ _ e)

abbrev places_unless : Option AsmFault → List (Option ℕ × List ℕ) → Result (List (Option ℕ × List ℕ)) AsmFault
places_unless None shown = Ok shown
places_unless (Some fault) shown = Err fault

places-unless : (fault : Option AsmFault) (lines : List Line) → places (listing_unless fault lines) ≡ places_unless fault (map place_of lines)
places-unless None lines = refl
places-unless (Some fault) lines = refl

pub spacing_is_free : SpacingIsFree
unfolding source_lines assembled assembled_with
spacing_is_free variant size one other e =
    let ones = placed variant size 0 (lines one) in
    let others = placed variant size 0 (lines other) in
    let same : map stripped ones ≡ map stripped others = lines_alike variant size (lines one) (lines other) 0 e in
    let tables : labels ones ≡ labels others = labels-stripped ones ∙ ap (fold with_stripped []) same ∙ sym (labels-stripped others) in
    let faults : first_fault variant size (labels ones) [] ones ≡ first_fault variant size (labels ones) [] others =
    first_fault-state variant size (labels ones) [] ones
    ∙ faults_alike variant size (labels ones) (labels []) (filled variant size []) 0 ones others same
    ∙ sym (first_fault-state variant size (labels ones) [] others) in
    let shows : map place_of (listing variant size (labels ones) 0 ones) ≡ map place_of (listing variant size (labels ones) 0 others) =
    listing-stripped variant size (labels ones) 0 ones ∙ ap (map (shown variant size (labels ones))) same ∙ sym (listing-stripped variant size (labels ones) 0 others) in
    places-unless (first_fault variant size (labels ones) [] ones) (listing variant size (labels ones) 0 ones)
    ∙ ap (λ f. places_unless f (map place_of (listing variant size (labels ones) 0 ones))) faults
    ∙ ap (places_unless (first_fault variant size (labels ones) [] others)) shows
    ∙ ap (λ table. places_unless (first_fault variant size table [] others) (map place_of (listing variant size table 0 others))) tables
    ∙ sym (places-unless (first_fault variant size (labels others) [] others) (listing variant size (labels others) 0 others))
