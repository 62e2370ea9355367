-- The bytes of an accepted source: each belongs to one line, and the image has them.
use Rattle.std.proofs.Common.{◌≡◌, ◌+◌, ◌<◌, ◌≤◌, ap, sym, subst, ◌∙◌, ℕ, zero, suc, Bool, true, false, List, [], ◌∷◌, ◌++◌, length, take, Option, None, Some, Result, Ok, Err, refl, arith}
use Rattle.std.specs.Prelude.{nat_eq, nat_le, nat_lt, ◌||◌}
use Rattle.std.specs.List.{list_any, range_with_len}
use Rattle.std.specs.Int.{to_le_bytes, w64}
use Rattle.std.proofs.lemmas.Bool.{false≢true, or_parts, eqb-true, ltb-true, and_parts}
use Rattle.std.proofs.lemmas.Bool.Decides.{nat_tests}
use Rattle.y86_base.specs.declared.parts.Variant.{Variant}
use Rattle.y86_isa.specs.declared.columns.Row.{Row}
use Rattle.y86_isa.specs.Table.{row, rows}
use Rattle.y86_isa.specs.Encoding.{encoded}
use Rattle.y86_isa.proofs.ReadBack.{length-encoded}
use Rattle.y86_isa.proofs.Rows.{row-widest}
use Rattle.yas_asm.specs.Sound.{IsSound}
use Rattle.yas_laws.proofs.FaultLemmas.{lines_follow}
use Rattle.yas_asm.proofs.SoundGrammar.{IsSoundRead, read_sound}
use Rattle.yas_asm.proofs.SoundLemmas.{sound_known}
use Rattle.yas_asm.specs.declared.fault.AsmWhy.{AsmWhy}
use Rattle.yas_asm.specs.declared.listing.Line.{Line}
use Rattle.yas_asm.specs.declared.statement.Width.{Width}
use Rattle.yas_asm.specs.declared.statement.Width.TheVariants.{One, Two, Four, Eight}
use Rattle.yas_asm.specs.declared.statement.Statement.{Statement}
use Rattle.yas_asm.specs.declared.statement.Statement.TheVariants as statements
use Rattle.yas_asm.specs.declared.statement.Parsed.{Parsed}
use Rattle.y86_base.specs.Text.{lines}
use Rattle.yas_asm.specs.Grammar.{bytes_of, read_line}
use Rattle.yas_asm.specs.Assembly.{Placed, placed, address_after, source_lines, labels, first_fault, listing, listed, line_fault, filled, addresses, emitted, place, overlaps, width_of, bytes_at, shown_at, value_of}
use Rattle.yas_asm.specs.Laws.{emits_at, emits, BytesHaveOneLine}
use Rattle.yas_asm.proofs.Parts.{head_is, tail_is, no_cons, at_most}
use Rattle.yas_asm.proofs.PassLemmas.{faultless}
use Rattle.yas_laws.proofs.LawLemmas.{fault_at, accepted}

-- the addresses at which a line emits
pub emits_within : (first count a : ℕ) → emits_at (Some first) count a ≡ true → (first ≤ a) × (a < first + count)
emits_within first count a e =
    let two = and_parts (nat_le first a) (nat_lt a (first + count)) e in
    (at_most first a two.0, ltb-true a (first + count) two.1)

emits_none : (addr : Option ℕ) (a : ℕ) → emits_at addr 0 a ≡ true → ⊥
emits_none None a e = false≢true e
emits_none (Some first) a e = let two = emits_within first 0 a e in omega (arith, two.0, two.1)

pub length-data : (width : Width) (n : ℕ) → length (take (bytes_of width) (to_le_bytes w64 n)) ≡ bytes_of width
length-data One n = refl
length-data Two n = refl
length-data Four n = refl
length-data Eight n = refl

pub row_length : (variant : Variant) (icode ifun a b value : ℕ) → icode < length (rows variant)
    → length (encoded (record { icode = icode; ifun = ifun; r_a = a; r_b = b; val_c = value })) ≡ (row variant icode).length
row_length variant icode ifun a b value known =
    length-encoded (record { icode = icode; ifun = ifun; r_a = a; r_b = b; val_c = value }) ∙ ap (λ (r : Row). r.length) (sym (row-widest variant icode known))

-- a line emits at the addresses from its own on, as many as its statement is wide
pub emits-listed : (variant : Variant) (size : ℕ) (table : List (List ℕ × ℕ)) (from to address a : ℕ) (parsed : Parsed)
    → IsSound variant parsed.statement → emits (listed variant size table from to address (Ok parsed)) a ≡ true → (address ≤ a) × (a < address + width_of variant parsed.statement)
unfolding listed bytes_at width_of
emits-listed variant size table from to address a parsed sound e = by parsed.statement sound e
  where
    by : (s : Statement) → IsSound variant s → emits_at (shown_at parsed.label address (place variant size address s) s) (length (bytes_at table s)) a ≡ true
        → (address ≤ a) × (a < address + width_of variant s)
    by statements.Nothing sound e = absurd (emits_none (shown_at parsed.label address (place variant size address statements.Nothing) statements.Nothing) a e)
    by (statements.Instruction icode ifun x y constant) sound e =
        emits_within address (row variant icode).length a (subst (λ (n : ℕ). emits_at (Some address) n a ≡ true) (row_length variant icode ifun x y (value_of table constant) (sound_known variant table icode ifun x y constant sound)) e)
    by (statements.Data width value) sound e = emits_within address (bytes_of width) a (subst (λ (n : ℕ). emits_at (Some address) n a ≡ true) (length-data width (value_of table value)) e)
    by (statements.Position n) sound e = absurd (emits_none (shown_at parsed.label address (place variant size address (statements.Position n)) (statements.Position n)) a e)
    by (statements.Align n) sound e = absurd (emits_none (shown_at parsed.label address (place variant size address (statements.Align n)) (statements.Align n)) a e)
    by statements.Wide sound e = absurd (emits_none (shown_at parsed.label address (place variant size address statements.Wide) statements.Wide) a e)

range_has : (first count a : ℕ) → first ≤ a → a < first + count → list_any (nat_eq a) (range_with_len first count) ≡ true
range_has first zero a h k = absurd (omega arith)
range_has first (suc count) a h k = by (nat_eq a first) refl (λ (l : first + 1 ≤ a). range_has (first + 1) count a l (omega arith))
  where
    by : (b : Bool) → nat_eq a first ≡ b → (first + 1 ≤ a → list_any (nat_eq a) (range_with_len (first + 1) count) ≡ true)
        → (b || list_any (nat_eq a) (range_with_len (first + 1) count)) ≡ true
    by true t later = refl
    by false t later = later (grind (arith, nat_tests))

-- if a range overlaps no used address, no used address is in it
apart : (used : List ℕ) (address n a : ℕ) → overlaps used address n ≡ false → list_any (nat_eq a) used ≡ true → address ≤ a → a < address + n → ⊥
unfolding overlaps
apart used address zero a o u h k = omega arith
apart used address (suc n) a o u h k =
    by (nat_eq a address) refl o (λ (p : overlaps used (address + 1) n ≡ false) (l : address + 1 ≤ a). apart used (address + 1) n a p u l (omega arith))
  where
    by : (b : Bool) → nat_eq a address ≡ b → (list_any (nat_eq address) used || overlaps used (address + 1) n) ≡ false
        → (overlaps used (address + 1) n ≡ false → address + 1 ≤ a → ⊥) → ⊥
    by true t o later =
        false≢true (sym (or_parts _ _ o).0 ∙ subst (λ (x : ℕ). list_any (nat_eq x) used ≡ true) (eqb-true a address t) u)
    by false t o later = later (or_parts _ _ o).1 (grind (arith, nat_tests))

any_left : (test : ℕ → Bool) (xs ys : List ℕ) → list_any test xs ≡ true → list_any test (xs ++ ys) ≡ true
any_left test [] ys e = absurd (false≢true e)
any_left test (x ∷ xs) ys e = by (test x) e (any_left test xs ys)
  where
    by : (b : Bool) → (b || list_any test xs) ≡ true → (list_any test xs ≡ true → list_any test (xs ++ ys) ≡ true) → (b || list_any test (xs ++ ys)) ≡ true
    by true e later = refl
    by false e later = later e

any_right : (test : ℕ → Bool) (xs ys : List ℕ) → list_any test ys ≡ true → list_any test (xs ++ ys) ≡ true
any_right test [] ys e = e
any_right test (x ∷ xs) ys e = by (test x) (any_right test xs ys e)
  where
    by : (b : Bool) → list_any test (xs ++ ys) ≡ true → (b || list_any test (xs ++ ys)) ≡ true
    by true e = refl
    by false e = e

-- the addresses of a line are among those of the lines up to a later one
filled-has : (variant : Variant) (size a : ℕ) (before between : List Placed) (line : Placed) → list_any (nat_eq a) (addresses variant size line.address line.read) ≡ true
    → list_any (nat_eq a) (filled variant size (before ++ line ∷ between)) ≡ true
unfolding filled
filled-has variant size a [] between line e = any_left (nat_eq a) _ _ e
filled-has variant size a (other ∷ before) between line e =
    any_right (nat_eq a) (addresses variant size other.address other.read) _ (filled-has variant size a before between line e)

-- a line of a listing and those after it come from a line of the source and those after it, with the same number of
-- lines before
pub record IsFrom (variant : Variant) (size : ℕ) (table : List (List ℕ × ℕ)) (all : List Placed) (passed : ℕ) (line : Line) (rest : List Line) : Type 0 where
  pub before : List Placed
  pub placed : Placed
  pub after : List Placed
  pub from : ℕ
  pub to : ℕ
  pub next : ℕ
  pub parts : all ≡ before ++ placed ∷ after
  pub line_is : line ≡ listed variant size table from to placed.address placed.read
  pub rest_is : rest ≡ listing variant size table next after
  pub number : length before ≡ passed

pub listing-split : (variant : Variant) (size : ℕ) (table : List (List ℕ × ℕ)) (from : ℕ) (all : List Placed) (before rest : List Line) (line : Line)
    → listing variant size table from all ≡ before ++ line ∷ rest → IsFrom variant size table all (length before) line rest
unfolding listing
listing-split variant size table from [] [] rest line e = absurd (no_cons line rest e)
listing-split variant size table from [] (other ∷ before) rest line e = absurd (no_cons other _ e)
listing-split variant size table from (p ∷ all) [] rest line e =
    record {
      before = [];
      placed = p;
      after = all;
      from = from;
      to = from + length p.text;
      next = from + length p.text + 1;
      parts = refl;
      line_is = sym (head_is _ _ _ _ e);
      rest_is = sym (tail_is _ _ _ _ e);
      number = refl;
    }
listing-split variant size table from (p ∷ all) (other ∷ before) rest line e =
    let found = listing-split variant size table (from + length p.text + 1) all before rest line (tail_is _ _ _ _ e) in
    record {
      before = p ∷ found.before;
      placed = found.placed;
      after = found.after;
      from = found.from;
      to = found.to;
      next = found.next;
      parts = ap (λ xs. p ∷ xs) found.parts;
      line_is = found.line_is;
      rest_is = found.rest_is;
      number = ap suc found.number;
    }

emits-err : (variant : Variant) (size : ℕ) (table : List (List ℕ × ℕ)) (from to address a : ℕ) (why : AsmWhy) → emits (listed variant size table from to address (Err why)) a ≡ true → ⊥
unfolding listed
emits-err variant size table from to address a why e = false≢true e

-- a line without a fault emits only at its own addresses
emits-addresses : (variant : Variant) (size : ℕ) (table known : List (List ℕ × ℕ)) (used : List ℕ) (from to address a : ℕ) (read : Result Parsed AsmWhy)
    → IsSoundRead variant read → line_fault variant size table known used address read ≡ None → emits (listed variant size table from to address read) a ≡ true
    → list_any (nat_eq a) (addresses variant size address read) ≡ true
unfolding line_fault emitted
emits-addresses variant size table known used from to address a (Err why) sound f e = absurd (emits-err variant size table from to address a why e)
emits-addresses variant size table known used from to address a (Ok parsed) sound f e =
    let tests = faultless variant size table known used address parsed f in
    let two = emits-listed variant size table from to address a parsed sound e in
    rw tests.emits.inside (range_has address (width_of variant parsed.statement) a two.0 two.1)

-- and at no address that is used
emits-unused : (variant : Variant) (size : ℕ) (table known : List (List ℕ × ℕ)) (used : List ℕ) (from to address a : ℕ) (read : Result Parsed AsmWhy)
    → IsSoundRead variant read → line_fault variant size table known used address read ≡ None → emits (listed variant size table from to address read) a ≡ true
    → list_any (nat_eq a) used ≡ true → ⊥
unfolding line_fault
emits-unused variant size table known used from to address a (Err why) sound f e u = emits-err variant size table from to address a why e
emits-unused variant size table known used from to address a (Ok parsed) sound f e u =
    let tests = faultless variant size table known used address parsed f in
    let two = emits-listed variant size table from to address a parsed sound e in
    apart used address (width_of variant parsed.statement) a tests.emits.free u two.0 two.1

append_line : (before between after : List Placed) (one other : Placed) → before ++ one ∷ (between ++ other ∷ after) ≡ (before ++ one ∷ between) ++ other ∷ after
append_line [] between after one other = refl
append_line (x ∷ before) between after one other = ap (λ xs. x ∷ xs) (append_line before between after one other)

sound_line : (variant : Variant) (source : List ℕ) (size : ℕ) (before after : List Placed) (line : Placed) → source_lines variant size source ≡ before ++ line ∷ after → IsSoundRead variant line.read
sound_line variant source size before after line e =
    subst (IsSoundRead variant) (sym (lines_follow.reads variant source size before after line e)) (read_sound variant line.text)

pub bytes_have_one_line : BytesHaveOneLine
bytes_have_one_line variant source size lines e before between after one other a split x y =
    let all = source_lines variant size source in
    let table = labels all in
    let good = accepted variant source size lines e in
    let first = listing-split variant size table 0 all before (between ++ other ∷ after) one (good.1 ∙ split) in
    let second = listing-split variant size table first.next first.after between after other (sym first.rest_is) in
    let none : first_fault variant size table [] (first.before ++ first.placed ∷ first.after) ≡ None =
    subst (λ (xs : List Placed). first_fault variant size table [] xs ≡ None) first.parts good.0 in
    let here = fault_at variant size table [] first.before first.after first.placed none in
    let none' : first_fault variant size table [] ((first.before ++ first.placed ∷ second.before) ++ second.placed ∷ second.after) ≡ None =
    subst (λ (xs : List Placed). first_fault variant size table [] xs ≡ None)
    (ap (λ xs. first.before ++ first.placed ∷ xs) second.parts ∙ append_line first.before second.before second.after first.placed second.placed) none in
    let there = fault_at variant size table [] (first.before ++ first.placed ∷ second.before) second.after second.placed none' in
    let x' : emits (listed variant size table first.from first.to first.placed.address first.placed.read) a ≡ true = subst (λ (l : Line). emits l a ≡ true) first.line_is x in
    let y' : emits (listed variant size table second.from second.to second.placed.address second.placed.read) a ≡ true = subst (λ (l : Line). emits l a ≡ true) second.line_is y in
    let used = filled-has variant size a first.before second.before first.placed (emits-addresses variant size table _ _ first.from first.to first.placed.address a first.placed.read (sound_line variant source size first.before first.after first.placed first.parts) here x') in
    emits-unused variant size table _ _ second.from second.to second.placed.address a second.placed.read
    (sound_line variant source size (first.before ++ first.placed ∷ second.before) second.after second.placed
    (first.parts ∙ ap (λ xs. first.before ++ first.placed ∷ xs) second.parts ∙ append_line first.before second.before second.after first.placed second.placed)) there y' used

-- all lines of a source have sound statements
abbrev pub AllSound : Variant → List Placed → Type 0
AllSound variant [] = Unit {0}
AllSound variant (line ∷ rest) = IsSoundRead variant line.read × AllSound variant rest

pub all_sound : (variant : Variant) (size address : ℕ) (texts : List (List ℕ)) → AllSound variant (placed variant size address texts)
unfolding placed
all_sound variant size address [] = tt
all_sound variant size address (text ∷ texts) = (read_sound variant text, all_sound variant size (address_after variant size address (read_line variant text)) texts)
