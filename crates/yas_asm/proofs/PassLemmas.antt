-- The passes over the lines of a source: their invariants from line to line.
use Rattle.std.proofs.Common.{◌≡◌, ◌+◌, ◌≤◌, ap, sym, subst, ◌∙◌, ℕ, Bool, true, false, cond, List, [], ◌∷◌, ◌++◌, length, fold, Option, None, Some, Result, Ok, Err, refl, arith}
use Rattle.std.specs.Prelude.{◌⊎◌, is_some, is_none}
use Rattle.std.proofs.Common.{inl, inr}
use Rattle.std.proofs.lemmas.List.{append-nil, append_assoc}
use Rattle.std.proofs.lemmas.Grind.{fold-append, flat_map-append}
use Rattle.std.specs.List.{range_with_len, onto_first}
use Rattle.y86_base.specs.declared.parts.Variant.{Variant}
use Rattle.y86_base.specs.Text.{lines, is_line_feed}
use Rattle.yas_asm.specs.Grammar.{read_line}
use Rattle.yas_asm.specs.declared.fault.AsmWhy.TheVariants.{Memory, Syntax, BadByte, NumberTooWide, LabelTwice, LabelUnknown, OutsideMemory, Overlap, LabelLimit}
use Rattle.yas_asm.proofs.Parts.{not_here, some_from_none}
use Rattle.yas_asm.specs.Outcome.{line_for}
use Rattle.yas_asm.specs.declared.fault.AsmWhy.{AsmWhy}
use Rattle.yas_asm.specs.declared.fault.AsmFault.{AsmFault}
use Rattle.yas_asm.specs.Assembly.{Placed, placed, labels, with_label, label_of, address_after, source_lines, statement_fault, names_wide, names_unknown, is_defined, is_past_limit, place, width_of, overlaps, emitted, addresses, filled, fault_or, line_fault, first_fault, listed, listing, listing_unless, assembled_with}
use Rattle.yas_asm.specs.declared.listing.Line.{Line}
use Rattle.yas_asm.specs.declared.statement.Statement.{Statement}
use Rattle.yas_asm.specs.declared.statement.Parsed.{Parsed}

-- the labels, extended by those of further lines
unfoldable pub labels_from : List (List ℕ × ℕ) → List Placed → List (List ℕ × ℕ)
labels_from table placed = fold (λ table line. with_label table line.address (label_of line.read)) table placed

pub labels_begin : (variant : Variant) (size : ℕ) (source : List ℕ) → labels_from [] (placed variant size 0 (lines source)) ≡ labels (source_lines variant size source)
unfolding labels labels_from source_lines
labels_begin variant size source = refl

pub labels_more : (variant : Variant) (size address : ℕ) (table : List (List ℕ × ℕ)) (rest text behind : List ℕ) → lines rest ≡ text ∷ lines behind
    → labels_from table (placed variant size address (lines rest))
    ≡ labels_from (with_label table address (label_of (read_line variant text))) (placed variant size (address_after variant size address (read_line variant text)) (lines behind))
unfolding labels_from placed
labels_more variant size address table rest text behind e = rw e refl

pub labels_end : (variant : Variant) (size address : ℕ) (table : List (List ℕ × ℕ)) (rest : List ℕ) → rest ≡ [] → labels_from table (placed variant size address (lines rest)) ≡ table
unfolding labels_from placed
labels_end variant size address table rest e = rw e refl

pub ruleset collecting = (labels_begin, labels_more, labels_end)

-- a statement stays within the size, and its bytes are at addresses that have none yet
pub record IsFree (variant : Variant) (size : ℕ) (used : List ℕ) (address : ℕ) (statement : Statement) : Type 0 where
  pub inside : is_some (place variant size address statement) ≡ true
  pub free : overlaps used address (width_of variant statement) ≡ false

-- the tests that a line without a fault passes
pub record IsWithoutFault (variant : Variant) (size : ℕ) (known : List (List ℕ × ℕ)) (used : List ℕ) (address : ℕ) (parsed : Parsed) : Type 0 where
  pub new_label : is_defined known parsed.label ≡ false
  pub within_limit : is_past_limit known parsed.label ≡ false
  pub emits : IsFree variant size used address parsed.statement

pub faultless : (variant : Variant) (size : ℕ) (table known : List (List ℕ × ℕ)) (used : List ℕ) (address : ℕ) (parsed : Parsed)
    → statement_fault variant size table known used address parsed ≡ None → IsWithoutFault variant size known used address parsed
unfolding statement_fault
faultless variant size table known used address parsed e =
    let wide = not_here (names_wide table parsed.statement) _ _ e in
    let twice = not_here (is_defined known parsed.label) _ _ wide.1 in
    let unknown = not_here (names_unknown table parsed.statement) _ _ twice.1 in
    let outside = not_here (is_none (place variant size address parsed.statement)) _ _ unknown.1 in
    let overlap = not_here (overlaps used address (width_of variant parsed.statement)) _ _ outside.1 in
    let limit = not_here (is_past_limit known parsed.label) _ _ overlap.1 in
    record { new_label = twice.0; within_limit = limit.0; emits = record { inside = some_from_none _ outside.0; free = overlap.0 } }

pub free_without_fault : (variant : Variant) (size : ℕ) (table known : List (List ℕ × ℕ)) (used : List ℕ) (address : ℕ) (parsed : Parsed)
    → statement_fault variant size table known used address parsed ≡ None → IsFree variant size used address parsed.statement
free_without_fault variant size table known used address parsed e = (faultless variant size table known used address parsed e).emits

-- the bytes of a line without a fault begin at its address
pub emitted-free : (variant : Variant) (size : ℕ) (used : List ℕ) (address : ℕ) (statement : Statement) → IsFree variant size used address statement
    → emitted variant size address statement ≡ range_with_len address (width_of variant statement)
unfolding emitted
emitted-free variant size used address statement h = rw h.inside refl

-- the first line with a fault, given the labels, the addresses in use and the number of the lines before
unfoldable pub faults_from : Variant → ℕ → List (List ℕ × ℕ) → List (List ℕ × ℕ) → List ℕ → ℕ → List Placed → Option AsmFault
faults_from variant size table known used passed [] = None
faults_from variant size table known used passed (line ∷ rest) =
    fault_or (line_fault variant size table known used line.address line.read) (passed + 1)
    (faults_from variant size table (with_label known line.address (label_of line.read)) (used ++ addresses variant size line.address line.read) (passed + 1) rest)

pub labels-push : (before : List Placed) (line : Placed) → labels (before ++ line ∷ []) ≡ with_label (labels before) line.address (label_of line.read)
unfolding labels
labels-push before line = fold-append _ [] before (line ∷ [])

pub filled-push : (variant : Variant) (size : ℕ) (before : List Placed) (line : Placed)
    → filled variant size (before ++ line ∷ []) ≡ filled variant size before ++ addresses variant size line.address line.read
unfolding filled
filled-push variant size before line = flat_map-append _ before (line ∷ []) ∙ ap (λ xs. filled variant size before ++ xs) (append-nil _)

length_push : {A : Type 0} (xs : List A) (x : A) → length (xs ++ x ∷ []) ≡ length xs + 1
length_push [] x = refl
length_push (y ∷ xs) x = omega (arith, length_push xs x)

-- the first fault depends on the lines before only by their labels, their addresses and their number
pub first_fault-state : (variant : Variant) (size : ℕ) (table : List (List ℕ × ℕ)) (before rest : List Placed)
    → first_fault variant size table before rest ≡ faults_from variant size table (labels before) (filled variant size before) (length before) rest
unfolding first_fault faults_from
first_fault-state variant size table before [] = refl
first_fault-state variant size table before (line ∷ rest) =
    ap (fault_or (line_fault variant size table (labels before) (filled variant size before) line.address line.read) (length before + 1))
    (first_fault-state variant size table (before ++ line ∷ []) rest
    ∙ (λ i. faults_from variant size table (labels-push before line i) (filled-push variant size before line i) (length_push before line i) rest))

-- the outcome for the remaining lines, given the labels, addresses and listing of the lines before
unfoldable pub outcome_from : Variant → ℕ → List (List ℕ × ℕ) → List (List ℕ × ℕ) → List ℕ → ℕ → ℕ → List Line → List Placed → Result (List Line) AsmFault
outcome_from variant size table known used passed from done rest =
    listing_unless (faults_from variant size table known used passed rest) (done ++ listing variant size table from rest)

pub outcome_begin : (variant : Variant) (size : ℕ) (table : List (List ℕ × ℕ)) (source : List ℕ)
    → outcome_from variant size table [] [] 0 0 [] (placed variant size 0 (lines source)) ≡ assembled_with variant size table (source_lines variant size source)
unfolding outcome_from assembled_with source_lines labels filled
outcome_begin variant size table source =
    ap (λ fault. listing_unless fault (listing variant size table 0 (placed variant size 0 (lines source)))) (sym (first_fault-state variant size table [] (placed variant size 0 (lines source))))

pub outcome_end : (variant : Variant) (size address : ℕ) (table known : List (List ℕ × ℕ)) (used : List ℕ) (passed from : ℕ) (done : List Line) (rest : List ℕ)
    → rest ≡ [] → outcome_from variant size table known used passed from done (placed variant size address (lines rest)) ≡ Ok done
unfolding outcome_from placed faults_from listing
outcome_end variant size address table known used passed from done rest e = rw e (ap Ok (append-nil done))

pub outcome_more : (variant : Variant) (size address : ℕ) (table known : List (List ℕ × ℕ)) (used : List ℕ) (passed from : ℕ) (done : List Line) (rest text behind : List ℕ)
    → lines rest ≡ text ∷ lines behind → line_fault variant size table known used address (read_line variant text) ≡ None
    → outcome_from variant size table known used passed from done (placed variant size address (lines rest))
    ≡ outcome_from variant size table (with_label known address (label_of (read_line variant text))) (used ++ addresses variant size address (read_line variant text))
    (passed + 1) (from + length text + 1)
    (done ++ listed variant size table from (from + length text) address (read_line variant text) ∷ [])
    (placed variant size (address_after variant size address (read_line variant text)) (lines behind))
unfolding outcome_from placed faults_from listing
outcome_more variant size address table known used passed from done rest text behind e f =
    rw (e, f) (ap (listing_unless _) (sym (append_assoc done _ _)))

pub outcome_fault : (variant : Variant) (size address : ℕ) (table known : List (List ℕ × ℕ)) (used : List ℕ) (passed from : ℕ) (done : List Line) (rest text behind : List ℕ) (why : AsmWhy)
    → lines rest ≡ text ∷ lines behind → line_fault variant size table known used address (read_line variant text) ≡ Some why
    → outcome_from variant size table known used passed from done (placed variant size address (lines rest)) ≡ Err (record { line = passed + 1; why = why })
unfolding outcome_from placed faults_from listing
outcome_fault variant size address table known used passed from done rest text behind why e f = rw (e, f) refl

-- the number of bytes of lines with a line feed after each
abbrev pub total : List (List ℕ) → ℕ
total [] = 0
total (line ∷ rest) = length line + 1 + total rest

total-first : (byte : ℕ) (parts : List (List ℕ)) (n : ℕ) → total parts ≤ n + 1 → total (onto_first byte parts) ≤ n + 2
total-first byte [] n h = omega arith
total-first byte (part ∷ parts) n h = omega arith

total-line : (ends : Bool) (byte : ℕ) (parts : List (List ℕ)) (n : ℕ) → total parts ≤ n + 1 → total (cond ends ([] ∷ parts) (onto_first byte parts)) ≤ n + 2
total-line true byte parts n h = omega arith
total-line false byte parts n h = total-first byte parts n h

total-lines : (source : List ℕ) → total (lines source) ≤ length source + 1
total-lines [] = omega arith
total-lines (byte ∷ source) = omega (arith, total-line (is_line_feed byte) byte (lines source) (length source) (total-lines source))

count-first : (byte : ℕ) (parts : List (List ℕ)) (n : ℕ) → length parts ≤ n → length (onto_first byte parts) ≤ n + 1
count-first byte [] n h = omega arith
count-first byte (part ∷ parts) n h = omega arith

count-line : (ends : Bool) (byte : ℕ) (parts : List (List ℕ)) (n : ℕ) → length parts ≤ n → length (cond ends ([] ∷ parts) (onto_first byte parts)) ≤ n + 1
count-line true byte parts n h = omega arith
count-line false byte parts n h = count-first byte parts n h

count-lines : (source : List ℕ) → length (lines source) ≤ length source
count-lines [] = omega arith
count-lines (byte ∷ source) = omega (arith, count-line (is_line_feed byte) byte (lines source) (length source) (count-lines source))

-- the invariant before each line of the second pass
pub record IsOnWay (variant : Variant) (size : ℕ) (table known : List (List ℕ × ℕ)) (used : List ℕ) (passed from address : ℕ) (done : List Line) (source rest : List ℕ) : Type 0 where
  pub outcome : outcome_from variant size table known used passed from done (placed variant size address (lines rest)) ≡ assembled_with variant size table (source_lines variant size source)
  pub counted : passed + length (lines rest) ≡ length (lines source)
  pub reached : from + total (lines rest) ≡ total (lines source)

pub passed_fits : (passed : ℕ) (source rest text behind : List ℕ) → lines rest ≡ text ∷ lines behind → passed + length (lines rest) ≡ length (lines source) → passed + 1 ≤ length source
passed_fits passed source rest text behind e h =
    let n : length (lines rest) ≡ length (text ∷ lines behind) = ap length e in omega (arith, n, count-lines source)

pub from_fits : (from : ℕ) (source rest text behind : List ℕ) → lines rest ≡ text ∷ lines behind → from + total (lines rest) ≡ total (lines source) → from + length text ≤ length source
from_fits from source rest text behind e h =
    let n : total (lines rest) ≡ total (text ∷ lines behind) = ap total e in omega (arith, n, total-lines source)

pub on_way_begin : (variant : Variant) (size : ℕ) (table known : List (List ℕ × ℕ)) (used : List ℕ) (done : List Line) (source : List ℕ)
    → known ≡ [] → used ≡ [] → done ≡ [] → IsOnWay variant size table known used 0 0 0 done source source
on_way_begin variant size table known used done source k u d =
    record { outcome = rw (k, u, d) (outcome_begin variant size table source); counted = omega arith; reached = omega arith }

pub on_way_more : (variant : Variant) (size address next : ℕ) (table known known' : List (List ℕ × ℕ)) (used used' : List ℕ) (passed from : ℕ) (done done' : List Line) (source rest text behind : List ℕ)
    (read : Result Parsed AsmWhy) (line : Line)
    → IsOnWay variant size table known used passed from address done source rest → lines rest ≡ text ∷ lines behind → read ≡ read_line variant text
    → line_fault variant size table known used address read ≡ None → known' ≡ with_label known address (label_of read) → used' ≡ used ++ addresses variant size address read
    → line ≡ listed variant size table from (from + length text) address read → done' ≡ done ++ line ∷ [] → next ≡ address_after variant size address read
    → IsOnWay variant size table known' used' (passed + 1) (from + length text + 1) next done' source behind
on_way_more variant size address next table known known' used used' passed from done done' source rest text behind read line way e r none k u l d a =
    let none' : line_fault variant size table known used address (read_line variant text) ≡ None = subst (λ x. line_fault variant size table known used address x ≡ None) r none in
    let step = outcome_more variant size address table known used passed from done rest text behind e none' in
    let count : length (lines rest) ≡ length (text ∷ lines behind) = ap length e in
    let bytes : total (lines rest) ≡ total (text ∷ lines behind) = ap total e in
    record {
      outcome = rw (d, l, k, u, a, r) (sym step ∙ way.outcome);
      counted = omega (arith, count, way.counted);
      reached = omega (arith, bytes, way.reached);
    }

same_fault : (fault : AsmFault) (line : ℕ) (why : AsmWhy) → fault.line ≡ line → fault.why ≡ why → record { line = line; why = why } ≡ fault
same_fault fault line why n w = λ i. record { line = sym n i; why = sym w i }

-- the answer at a line with a fault
pub on_way_fault : (variant : Variant) (size address : ℕ) (table known : List (List ℕ × ℕ)) (used : List ℕ) (passed from : ℕ) (done : List Line) (source rest text behind : List ℕ)
    (read : Result Parsed AsmWhy) (why : AsmWhy) (fault : AsmFault)
    → IsOnWay variant size table known used passed from address done source rest → lines rest ≡ text ∷ lines behind → read ≡ read_line variant text
    → (why ≡ Memory) ⊎ (line_fault variant size table known used address read ≡ Some why) → fault.why ≡ why → fault.line ≡ line_for passed why
    → ((fault.why ≡ Memory) × (fault.line ≡ 0)) ⊎ (assembled_with variant size table (source_lines variant size source) ≡ Err fault)
on_way_fault variant size address table known used passed from done source rest text behind read why fault way e r (inl m) w n =
    inl (w ∙ m, n ∙ ap (line_for passed) m)
on_way_fault variant size address table known used passed from done source rest text behind read why fault way e r (inr f) w n =
    told why f w n
  where
    found : (why : AsmWhy) → line_fault variant size table known used address read ≡ Some why → fault.why ≡ why → fault.line ≡ passed + 1
        → assembled_with variant size table (source_lines variant size source) ≡ Err fault
    found why f w n =
        let here : line_fault variant size table known used address (read_line variant text) ≡ Some why = subst (λ x. line_fault variant size table known used address x ≡ Some why) r f in
        sym way.outcome ∙ outcome_fault variant size address table known used passed from done rest text behind why e here
        ∙ ap Err (same_fault fault (passed + 1) why n w)

    told : (why : AsmWhy) → line_fault variant size table known used address read ≡ Some why → fault.why ≡ why → fault.line ≡ line_for passed why
        → ((fault.why ≡ Memory) × (fault.line ≡ 0)) ⊎ (assembled_with variant size table (source_lines variant size source) ≡ Err fault)
    told Memory f w n = inl (w, n)
    told Syntax f w n = inr (found Syntax f w n)
    told BadByte f w n = inr (found BadByte f w n)
    told NumberTooWide f w n = inr (found NumberTooWide f w n)
    told LabelTwice f w n = inr (found LabelTwice f w n)
    told LabelUnknown f w n = inr (found LabelUnknown f w n)
    told OutsideMemory f w n = inr (found OutsideMemory f w n)
    told Overlap f w n = inr (found Overlap f w n)
    told LabelLimit f w n = inr (found LabelLimit f w n)

pub on_way_end : (variant : Variant) (size address : ℕ) (table known : List (List ℕ × ℕ)) (used : List ℕ) (passed from : ℕ) (done : List Line) (source rest : List ℕ)
    → IsOnWay variant size table known used passed from address done source rest → rest ≡ [] → assembled_with variant size table (source_lines variant size source) ≡ Ok done
on_way_end variant size address table known used passed from done source rest way e =
    sym way.outcome ∙ outcome_end variant size address table known used passed from done rest e
