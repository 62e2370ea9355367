-- Proofs of the laws of an assembled source, except for its bytes and its image.
use Rattle.std.proofs.Common.{◌≡◌, ap, sym, subst, ◌∙◌, ℕ, Bool, true, false, cond, List, [], ◌∷◌, ◌++◌, length, fold, Option, None, Some, Result, Ok, Err, refl, inl, inr}
use Rattle.std.specs.Prelude.{is_some, is_none, nat_le, ◌&&◌, ◌||◌, ◌⊎◌}
use Rattle.std.specs.Str.{bytes_eq}
use Rattle.std.proofs.lemmas.Slice.Eq.{bytes_eq-Decides}
use Rattle.std.proofs.lemmas.Bool.{false≢true}
use Rattle.std.proofs.lemmas.List.{append-nil, append_assoc}
use Rattle.std.proofs.lemmas.Option.{none-some, cond_some, same_Some}
use Rattle.std.proofs.lemmas.Grind.{fold-append}
use Rattle.y86_base.specs.declared.parts.Variant.{Variant}
use Rattle.yas_asm.specs.declared.fault.AsmWhy.{AsmWhy}
use Rattle.yas_asm.specs.declared.fault.AsmFault.{AsmFault}
use Rattle.yas_asm.specs.declared.listing.Line.{Line}
use Rattle.yas_asm.specs.declared.statement.Parsed.{Parsed}
use Rattle.y86_base.specs.Keyword.{meaning_of}
use Rattle.yas_asm.specs.Assembly.{Placed, source_lines, labels, label_of, label_limit, with_label, with_name, assembled, assembled_with, first_fault, fault_or, listing, listing_unless, line_fault, filled, is_defined, is_past_limit}
use Rattle.yas_asm.specs.Laws.{LabelsAreAddresses, LabelsAreOfLines, IsLabelled}
use Rattle.yas_asm.proofs.Parts.{head_is, no_middle, not_here, tail_is}
use Rattle.yas_asm.proofs.PassLemmas.{faultless}

-- a look-up finds the same entry if further names are appended
meaning_of-kept : (table : List (List ℕ × ℕ)) (entry : List ℕ × ℕ) (name : List ℕ) (a : ℕ) → meaning_of table name ≡ Some a → meaning_of (table ++ entry ∷ []) name ≡ Some a
unfolding meaning_of
meaning_of-kept [] entry name a e = absurd (none-some a e)
meaning_of-kept (row ∷ table) entry name a e = by (bytes_eq name row.0) (meaning_of-kept table entry name a) e
  where
    by : (b : Bool) → (meaning_of table name ≡ Some a → meaning_of (table ++ entry ∷ []) name ≡ Some a)
        → cond b (Some row.1) (meaning_of table name) ≡ Some a → cond b (Some row.1) (meaning_of (table ++ entry ∷ []) name) ≡ Some a
    by true later e = e
    by false later e = later e

-- and finds a new name that is appended
meaning_of-new : (table : List (List ℕ × ℕ)) (name : List ℕ) (a : ℕ) → meaning_of table name ≡ None → meaning_of (table ++ (name, a) ∷ []) name ≡ Some a
unfolding meaning_of
meaning_of-new [] name a e = ap (λ b. cond b (Some a) None) ((bytes_eq-Decides name name).1 refl)
meaning_of-new (row ∷ table) name a e =
    let two = not_here (bytes_eq name row.0) row.1 (meaning_of table name) e in
    ap (λ b. cond b (Some row.1) (meaning_of (table ++ (name, a) ∷ []) name)) two.0 ∙ meaning_of-new table name a two.1

with_label-kept : (table : List (List ℕ × ℕ)) (address : ℕ) (label : Option (List ℕ)) (name : List ℕ) (a : ℕ) → meaning_of table name ≡ Some a → meaning_of (with_label table address label) name ≡ Some a
unfolding with_name
with_label-kept table address None name a e = e
with_label-kept table address (Some other) name a e = by (is_some (meaning_of table other) || nat_le label_limit (length table))
  where
    by : (b : Bool) → meaning_of (cond b table (table ++ (other, address) ∷ [])) name ≡ Some a
    by true = e
    by false = meaning_of-kept table (other, address) name a e

fold-kept : (table : List (List ℕ × ℕ)) (after : List Placed) (name : List ℕ) (a : ℕ) → meaning_of table name ≡ Some a
    → meaning_of (fold (λ table line. with_label table line.address (label_of line.read)) table after) name ≡ Some a
fold-kept table [] name a e = e
fold-kept table (line ∷ after) name a e = fold-kept (with_label table line.address (label_of line.read)) after name a (with_label-kept table line.address (label_of line.read) name a e)

-- a label that is neither defined nor past the limit is defined by its line
with_label-new : (known : List (List ℕ × ℕ)) (address : ℕ) (label : Option (List ℕ)) (name : List ℕ) → label ≡ Some name → is_defined known label ≡ false → is_past_limit known label ≡ false
    → meaning_of (with_label known address label) name ≡ Some address
unfolding with_name
with_label-new known address label name e d p = rw e (by (meaning_of known name) (nat_le label_limit (length known)) refl (rw e at d) (rw e at p))
  where
    by : (m : Option ℕ) (full : Bool) → meaning_of known name ≡ m → is_some m ≡ false → (is_none m && full) ≡ false
        → meaning_of (cond (is_some m || full) known (known ++ (name, address) ∷ [])) name ≡ Some address
    by None false m d p = meaning_of-new known name address m
    by None true m d p = absurd (false≢true (sym p))
    by (Some a) full m d p = absurd (false≢true (sym d))

pub no_fault : (found : Option AsmWhy) (n : ℕ) (later : Option AsmFault) → fault_or found n later ≡ None → (found ≡ None) × (later ≡ None)
no_fault None n later e = (refl, e)
no_fault (Some why) n later e = absurd (none-some (record { line = n; why = why }) (sym e))

-- if no line has a fault, a line among them has none after those before it
pub fault_at : (variant : Variant) (size : ℕ) (table : List (List ℕ × ℕ)) (first before after : List Placed) (line : Placed)
    → first_fault variant size table first (before ++ line ∷ after) ≡ None
    → line_fault variant size table (labels (first ++ before)) (filled variant size (first ++ before)) line.address line.read ≡ None
unfolding first_fault
fault_at variant size table first [] after line e =
    subst (λ (xs : List Placed). line_fault variant size table (labels xs) (filled variant size xs) line.address line.read ≡ None) (sym (append-nil first)) (no_fault _ _ _ e).0
fault_at variant size table first (other ∷ before) after line e =
    subst (λ (xs : List Placed). line_fault variant size table (labels xs) (filled variant size xs) line.address line.read ≡ None) (append_assoc first (other ∷ []) before)
    (fault_at variant size table (first ++ other ∷ []) before after line (no_fault _ _ _ e).1)

ok_lines : Result (List Line) AsmFault → List Line
ok_lines (Ok lines) = lines
ok_lines (Err fault) = []

is_accepted : Result (List Line) AsmFault → Bool
is_accepted (Ok lines) = true
is_accepted (Err fault) = false

pub listing_ok : (fault : Option AsmFault) (lines listing : List Line) → listing_unless fault lines ≡ Ok listing → (fault ≡ None) × (lines ≡ listing)
unfolding ok_lines is_accepted
listing_ok None lines listing e = (refl, ap ok_lines e)
listing_ok (Some fault) lines listing e = absurd (false≢true (ap is_accepted e))

-- an accepted source has no line with a fault, and its listing is that of its lines
pub accepted : (variant : Variant) (source : List ℕ) (size : ℕ) (lines : List Line) → assembled variant source size ≡ Ok lines
    → (first_fault variant size (labels (source_lines variant size source)) [] (source_lines variant size source) ≡ None)
    × (listing variant size (labels (source_lines variant size source)) 0 (source_lines variant size source) ≡ lines)
unfolding assembled assembled_with
accepted variant source size lines e = listing_ok _ _ lines e

label_at : (variant : Variant) (size : ℕ) (table known : List (List ℕ × ℕ)) (used : List ℕ) (address : ℕ) (read : Result Parsed AsmWhy) (name : List ℕ)
    → line_fault variant size table known used address read ≡ None → label_of read ≡ Some name → meaning_of (with_label known address (label_of read)) name ≡ Some address
unfolding line_fault
label_at variant size table known used address (Err why) name e l = absurd (none-some name l)
label_at variant size table known used address (Ok parsed) name e l =
    let tests = faultless variant size table known used address parsed e in
    with_label-new known address parsed.label name l tests.new_label tests.within_limit

pub labels_are_addresses : LabelsAreAddresses
unfolding labels
labels_are_addresses variant source size lines e before after line name split l =
    let none = subst (λ (xs : List Placed). first_fault variant size (labels (source_lines variant size source)) [] xs ≡ None) split (accepted variant source size lines e).0 in
    let here = fault_at variant size (labels (source_lines variant size source)) [] before after line none in
    rw split (rw (fold-append (λ table line. with_label table line.address (label_of line.read)) [] before (line ∷ after)) (fold-kept _ after name line.address (label_at variant size _ (labels before) _ line.address line.read name here l)))

-- a look-up in a table with one more name appended finds what it found, or that name
from_new : (table : List (List ℕ × ℕ)) (entry : List ℕ × ℕ) (name : List ℕ) (a : ℕ) → meaning_of (table ++ entry ∷ []) name ≡ Some a
    → (meaning_of table name ≡ Some a) ⊎ ((name ≡ entry.0) × (entry.1 ≡ a))
unfolding meaning_of
from_new [] entry name a e =
    let two = cond_some (bytes_eq name entry.0) entry.1 a e in
    inr ((bytes_eq-Decides name entry.0).0 two.0, two.1)
from_new (row ∷ table) entry name a e = by (bytes_eq name row.0) (from_new table entry name a) e
  where
    by : (b : Bool) → (meaning_of (table ++ entry ∷ []) name ≡ Some a → (meaning_of table name ≡ Some a) ⊎ ((name ≡ entry.0) × (entry.1 ≡ a)))
        → cond b (Some row.1) (meaning_of (table ++ entry ∷ []) name) ≡ Some a → (cond b (Some row.1) (meaning_of table name) ≡ Some a) ⊎ ((name ≡ entry.0) × (entry.1 ≡ a))
    by true later e = inl e
    by false later e = later e

from_label : (table : List (List ℕ × ℕ)) (address : ℕ) (label : Option (List ℕ)) (name : List ℕ) (a : ℕ) → meaning_of (with_label table address label) name ≡ Some a
    → (meaning_of table name ≡ Some a) ⊎ ((label ≡ Some name) × (address ≡ a))
unfolding with_name
from_label table address None name a e = inl e
from_label table address (Some other) name a e = by (is_some (meaning_of table other) || nat_le label_limit (length table)) e
  where
    named : (meaning_of table name ≡ Some a) ⊎ ((name ≡ other) × (address ≡ a)) → (meaning_of table name ≡ Some a) ⊎ ((Some other ≡ Some name) × (address ≡ a))
    named (inl e) = inl e
    named (inr e) = inr (ap Some (sym e.0), e.1)

    by : (b : Bool) → meaning_of (cond b table (table ++ (other, address) ∷ [])) name ≡ Some a
        → (meaning_of table name ≡ Some a) ⊎ ((Some other ≡ Some name) × (address ≡ a))
    by true e = inl e
    by false e = named (from_new table (other, address) name a e)

abbrev step : List (List ℕ × ℕ) → Placed → List (List ℕ × ℕ)
step table line = with_label table line.address (label_of line.read)

-- a table with the largest number of labels doesn't change
full_label : (table : List (List ℕ × ℕ)) (address : ℕ) (label : Option (List ℕ)) → nat_le label_limit (length table) ≡ true → with_label table address label ≡ table
unfolding with_name
full_label table address None f = refl
full_label table address (Some name) f = by (is_some (meaning_of table name)) (nat_le label_limit (length table)) f
  where
    by : (b full : Bool) → full ≡ true → cond (b || full) table (table ++ (name, address) ∷ []) ≡ table
    by true full f = refl
    by false true f = refl
    by false false f = absurd (false≢true f)

full_stays : (table : List (List ℕ × ℕ)) (all : List Placed) → nat_le label_limit (length table) ≡ true → fold step table all ≡ table
full_stays table [] f = refl
full_stays table (line ∷ all) f = ap (λ t. fold step t all) (full_label table line.address (label_of line.read) f) ∙ full_stays table all f

-- a name that its line doesn't define, and no earlier line defines, is not defined at all
not_defined : (table : List (List ℕ × ℕ)) (address : ℕ) (all : List Placed) (name : List ℕ) (a : ℕ) → meaning_of (with_label table address (Some name)) name ≡ None
    → meaning_of (fold step (with_label table address (Some name)) all) name ≡ Some a → ⊥
unfolding with_name
not_defined table address all name a n e = by (meaning_of table name) (nat_le label_limit (length table)) refl refl n e
  where
    by : (m : Option ℕ) (full : Bool) → meaning_of table name ≡ m → nat_le label_limit (length table) ≡ full
        → meaning_of (cond (is_some m || full) table (table ++ (name, address) ∷ [])) name ≡ None
        → meaning_of (fold step (cond (is_some m || full) table (table ++ (name, address) ∷ [])) all) name ≡ Some a → ⊥
    by (Some b) full s f n e = none-some b (sym n ∙ s)
    by None true s f n e = none-some a (sym s ∙ (ap (λ t. meaning_of t name) (sym (full_stays table all f)) ∙ e))
    by None false s f n e = none-some address (sym n ∙ meaning_of-new table name address s)

from_lines : (table : List (List ℕ × ℕ)) (all : List Placed) (name : List ℕ) (a : ℕ)
    → meaning_of (fold step table all) name ≡ Some a → (meaning_of table name ≡ Some a) ⊎ IsLabelled all name a
from_lines table [] name a e = inl e
from_lines table (line ∷ all) name a e = at (meaning_of (step table line) name) refl (from_lines (step table line) all name a e)
  where
    here : (meaning_of table name ≡ Some a) ⊎ ((label_of line.read ≡ Some name) × (line.address ≡ a)) → (meaning_of table name ≡ Some a) ⊎ IsLabelled (line ∷ all) name a
    here (inl e) = inl e
    here (inr e) = inr (record {
      before = [];
      line = line;
      after = all;
      parts = refl;
      label = e.0;
      at = e.1;
      first = λ front rest other p. absurd (no_middle front rest other p);
    })

    not_this : meaning_of (step table line) name ≡ None → label_of line.read ≡ Some name → ⊥
    not_this n l =
        not_defined table line.address all name a (subst (λ label. meaning_of (with_label table line.address label) name ≡ None) l n)
        (subst (λ label. meaning_of (fold step (with_label table line.address label) all) name ≡ Some a) l e)

    later : meaning_of (step table line) name ≡ None → (meaning_of (step table line) name ≡ Some a) ⊎ IsLabelled all name a
        → (meaning_of table name ≡ Some a) ⊎ IsLabelled (line ∷ all) name a
    later n (inl s) = absurd (none-some a (sym n ∙ s))
    later n (inr h) = inr (record {
      before = line ∷ h.before;
      line = h.line;
      after = h.after;
      parts = ap (λ xs. line ∷ xs) h.parts;
      label = h.label;
      at = h.at;
      first = earlier;
    })
      where
        earlier : (front rest : List Placed) (other : Placed) → line ∷ h.before ≡ front ++ other ∷ rest → label_of other.read ≡ Some name → ⊥
        earlier [] rest other p l = not_this n (ap (λ (x : Placed). label_of x.read) (head_is _ _ _ _ p) ∙ l)
        earlier (x ∷ front) rest other p l = h.first front rest other (tail_is _ _ _ _ p) l

    at : (m : Option ℕ) → meaning_of (step table line) name ≡ m → (meaning_of (step table line) name ≡ Some a) ⊎ IsLabelled all name a
        → (meaning_of table name ≡ Some a) ⊎ IsLabelled (line ∷ all) name a
    at None s rest = later s rest
    at (Some b) s rest =
        let same : b ≡ a = same_Some _ _ (sym (fold-kept (step table line) all name b s) ∙ e) in
        here (from_label table line.address (label_of line.read) name a (s ∙ ap Some same))

pub labels_are_of_lines : LabelsAreOfLines
unfolding labels meaning_of
labels_are_of_lines variant source size name a e = by (from_lines [] (source_lines variant size source) name a e)
  where
    by : (meaning_of [] name ≡ Some a) ⊎ IsLabelled (source_lines variant size source) name a → IsLabelled (source_lines variant size source) name a
    by (inl e) = absurd (none-some a e)
    by (inr h) = h
