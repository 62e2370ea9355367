-- What each line of a listing shows.
use Rattle.std.proofs.Common.{◌≡◌, ap, sym, subst, ◌∙◌, ℕ, Bool, true, false, cond, List, [], ◌∷◌, ◌++◌, length, Option, None, Some, Result, Ok, Err, refl}
use Rattle.std.specs.Prelude.{is_some, nat_le}
use Rattle.std.proofs.lemmas.Bool.{false≢true}
use Rattle.std.proofs.lemmas.Option.{none-some}
use Rattle.y86_base.specs.declared.parts.Variant.{Variant}
use Rattle.yas_asm.specs.declared.fault.AsmWhy.{AsmWhy}
use Rattle.yas_asm.specs.declared.fault.AsmWhy.TheVariants.{BadByte, NumberTooWide}
use Rattle.yas_asm.specs.declared.listing.Line.{Line}
use Rattle.yas_asm.specs.declared.statement.Statement.{Statement}
use Rattle.yas_asm.specs.declared.statement.Statement.TheVariants as statements
use Rattle.yas_asm.specs.declared.statement.Parsed.{Parsed}
use Rattle.yas_asm.specs.Comments.{bad_outside}
use Rattle.yas_asm.specs.Grammar.{checked, is_wide, line, read_line}
use Rattle.yas_asm.specs.Assembly.{Placed, destination, first_fault, labels, line_fault, listed, next_multiple, place, shown_at, source_lines}
use Rattle.yas_asm.specs.Laws.{IsShown, LinesShow, ShowsAddress}
use Rattle.yas_laws.proofs.ByteLemmas.{IsFrom, listing-split}
use Rattle.yas_laws.proofs.FaultLemmas.{lines_follow}
use Rattle.yas_laws.proofs.LawLemmas.{accepted, fault_at}
use Rattle.yas_asm.proofs.PassLemmas.{faultless}

-- a line that is read has no number outside its bounds
abbrev IsNarrow : Result Parsed AsmWhy → Type 0
IsNarrow (Ok parsed) = is_wide parsed.statement ≡ false
IsNarrow (Err why) = Unit {0}

checked_narrow : (read : Option Parsed) → IsNarrow (checked read)
checked_narrow None = tt
checked_narrow (Some parsed) = by (is_wide parsed.statement) refl
  where
    by : (b : Bool) → is_wide parsed.statement ≡ b → IsNarrow (cond b (Err NumberTooWide) (Ok parsed))
    by true e = tt
    by false e = e

read_narrow : (variant : Variant) (text : List ℕ) → IsNarrow (read_line variant text)
unfolding read_line
read_narrow variant text = by (bad_outside 0 text)
  where
    by : (b : Bool) → IsNarrow (cond b (Err BadByte) (checked (line variant text)))
    by true = tt
    by false = checked_narrow (line variant text)

inside_is : (size n : ℕ) → is_some (cond (nat_le n size) (Some n) None) ≡ true → cond (nat_le n size) (Some n) None ≡ Some n
inside_is size n = by (nat_le n size)
  where
    by : (b : Bool) → is_some (cond b (Some n) None) ≡ true → cond b (Some n) None ≡ Some n
    by true e = refl
    by false e = absurd (false≢true e)

shows : (variant : Variant) (size address : ℕ) (label : Option (List ℕ)) (s : Statement) → is_some (place variant size address s) ≡ true → is_wide s ≡ false
    → ShowsAddress label address s (shown_at label address (place variant size address s) s)
unfolding place destination is_wide
shows variant size address label (statements.Position n) e w = inside_is size n e
shows variant size address label (statements.Align n) e w = inside_is size (next_multiple n address) e
shows variant size address label (statements.Instruction icode ifun a b constant) e w = refl
shows variant size address label (statements.Data width value) e w = refl
shows variant size address None statements.Nothing e w = refl
shows variant size address (Some name) statements.Nothing e w = refl
shows variant size address label statements.Wide e w = false≢true (sym w)

-- a line without a fault shows what it says
shown_line : (variant : Variant) (size : ℕ) (source : List ℕ) (number : ℕ) (line : Line) (rest : List Line)
    → (f : IsFrom variant size (labels (source_lines variant size source)) (source_lines variant size source) number line rest)
    → (known : List (List ℕ × ℕ)) (used : List ℕ) (read : Result Parsed AsmWhy) → f.placed.read ≡ read
    → line_fault variant size (labels (source_lines variant size source)) known used f.placed.address read ≡ None → IsNarrow read → IsShown variant size source number line
unfolding line_fault listed
shown_line variant size source number line rest f known used (Err why) r e n = absurd (none-some why (sym e))
shown_line variant size source number line rest f known used (Ok parsed) r e n =
    let table = labels (source_lines variant size source) in
    let it : line ≡ listed variant size table f.from f.to f.placed.address (Ok parsed) = f.line_is ∙ ap (listed variant size table f.from f.to f.placed.address) r in
    record {
      before = f.before;
      placed = f.placed;
      after = f.after;
      parsed = parsed;
      parts = f.parts;
      number_is = f.number;
      read = r;
      shows = subst (λ (l : Line). ShowsAddress parsed.label f.placed.address parsed.statement l.addr) (sym it)
          (shows variant size f.placed.address parsed.label parsed.statement (faultless variant size table known used f.placed.address parsed e).emits.inside n);
      bytes = ap (λ (l : Line). l.bytes.items) it;
    }

pub lines_show : LinesShow
lines_show variant source size listing' e before after line split =
    let all = source_lines variant size source in
    let table = labels all in
    let good = accepted variant source size listing' e in
    let found = listing-split variant size table 0 all before after line (good.1 ∙ split) in
    let none : first_fault variant size table [] (found.before ++ found.placed ∷ found.after) ≡ None =
    subst (λ (xs : List Placed). first_fault variant size table [] xs ≡ None) found.parts good.0 in
    shown_line variant size source (length before) line after found (labels found.before) _ found.placed.read refl
    (fault_at variant size table [] found.before found.after found.placed none)
    (subst IsNarrow (sym (lines_follow.reads variant source size found.before found.after found.placed found.parts)) (read_narrow variant found.placed.text))
