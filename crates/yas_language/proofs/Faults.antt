-- A line's own faults are reported exactly if the language says so.
use Rattle.std.proofs.Common.{◌≡◌, ap, sym, subst, ◌∙◌, ℕ, Bool, true, false, cond, List, Option, Some, None, Result, Ok, Err, refl}
use Rattle.std.proofs.lemmas.Bool.{false≢true}
use Rattle.std.proofs.lemmas.Option.{none-some, same_Some}
use Rattle.y86_base.specs.declared.parts.Variant.{Variant}
use Rattle.yas_asm.specs.declared.fault.AsmWhy.{AsmWhy}
use Rattle.yas_asm.specs.declared.fault.AsmWhy.TheVariants.{BadByte, NumberTooWide, Syntax}
use Rattle.yas_asm.specs.declared.statement.Operand.TheVariants.{Word, Label, Wide}
use Rattle.yas_asm.specs.declared.statement.Statement.{Statement}
use Rattle.yas_asm.specs.declared.statement.Statement.TheVariants as statements
use Rattle.yas_asm.specs.declared.statement.Parsed.{Parsed}
use Rattle.yas_asm.specs.Comments.{bad_outside}
use Rattle.yas_asm.specs.Grammar.{checked, is_wide, is_wide_operand, line, read_line}
use Rattle.yas_language.specs.BadBytes.{HasBadByte, IsTooWide}
use Rattle.yas_language.specs.Language.{AcceptsTheLanguage, IsOkWhere, IsSyntaxWhere, IsTooWideWhere, IsLineOfLanguage, ReportsBadBytes, ReportsSyntax, ReportsWideNumbers}
use Rattle.yas_language.proofs.BadBytes.{bad_found, bad_read}
use Rattle.yas_language.proofs.Lines.{reads_the_language}

wide_found : (s : Statement) → is_wide s ≡ true → IsTooWide s
unfolding is_wide
wide_found (statements.Instruction icode ifun a b Wide) e = refl
wide_found (statements.Instruction icode ifun a b (Word n)) e = absurd (false≢true e)
wide_found (statements.Instruction icode ifun a b (Label name)) e = absurd (false≢true e)
wide_found (statements.Data width Wide) e = refl
wide_found (statements.Data width (Word n)) e = absurd (false≢true e)
wide_found (statements.Data width (Label name)) e = absurd (false≢true e)
wide_found statements.Wide e = tt
wide_found (statements.Position n) e = false≢true e
wide_found (statements.Align n) e = false≢true e
wide_found statements.Nothing e = false≢true e

wide_read : (s : Statement) → IsTooWide s → is_wide s ≡ true
unfolding is_wide
wide_read (statements.Instruction icode ifun a b constant) e = ap is_wide_operand e
wide_read (statements.Data width value) e = ap is_wide_operand e
wide_read statements.Wide e = refl
wide_read (statements.Position n) e = absurd e
wide_read (statements.Align n) e = absurd e
wide_read statements.Nothing e = absurd e

-- the four possible results for a line
data Comes (variant : Variant) (text : List ℕ) : Result Parsed AsmWhy → Type 0 where
  bad : HasBadByte text → Comes variant text (Err BadByte)
  no_form : IsSyntaxWhere variant text → Comes variant text (Err Syntax)
  wide : IsTooWideWhere variant text → Comes variant text (Err NumberTooWide)
  fine : (parsed : Parsed) → IsOkWhere variant text parsed → Comes variant text (Ok parsed)

comes : (variant : Variant) (text : List ℕ) → Comes variant text (read_line variant text)
unfolding read_line
comes variant text = by (bad_outside 0 text) refl
  where
    at : (HasBadByte text → ⊥) → (o : Option Parsed) → line variant text ≡ o → Comes variant text (checked o)
    at good None e = no_form (record { good = good; no_line = λ parsed says. none-some parsed (sym e ∙ (reads_the_language variant text parsed).1 says) })
    at good (Some parsed) e = pick (is_wide parsed.statement) refl
      where
        pick : (b : Bool) → is_wide parsed.statement ≡ b → Comes variant text (cond b (Err NumberTooWide) (Ok parsed))
        pick true w = wide (record { good = good; parsed = parsed; says = (reads_the_language variant text parsed).0 e; wide = wide_found parsed.statement w })
        pick false w =
            fine parsed (record {
              good = good;
              says = (reads_the_language variant text parsed).0 e;
              narrow = λ t. false≢true (sym w ∙ wide_read parsed.statement t);
            })

    by : (b : Bool) → bad_outside 0 text ≡ b → Comes variant text (cond b (Err BadByte) (checked (line variant text)))
    by true e = bad (bad_found text e)
    by false e = at (λ h. false≢true (sym e ∙ bad_read text h)) (line variant text) refl

-- ---- from the result to its meaning

found_bad : (variant : Variant) (text : List ℕ) (r : Result Parsed AsmWhy) → Comes variant text r → r ≡ Err BadByte → HasBadByte text
found_bad variant text _ (bad h) e = h
found_bad variant text _ (no_form h) e = absurd (cc)
found_bad variant text _ (wide h) e = absurd (cc)
found_bad variant text _ (fine parsed h) e = absurd (cc)

found_syntax : (variant : Variant) (text : List ℕ) (r : Result Parsed AsmWhy) → Comes variant text r → r ≡ Err Syntax → IsSyntaxWhere variant text
found_syntax variant text _ (bad h) e = absurd (cc)
found_syntax variant text _ (no_form h) e = h
found_syntax variant text _ (wide h) e = absurd (cc)
found_syntax variant text _ (fine parsed h) e = absurd (cc)

found_wide : (variant : Variant) (text : List ℕ) (r : Result Parsed AsmWhy) → Comes variant text r → r ≡ Err NumberTooWide → IsTooWideWhere variant text
found_wide variant text _ (bad h) e = absurd (cc)
found_wide variant text _ (no_form h) e = absurd (cc)
found_wide variant text _ (wide h) e = h
found_wide variant text _ (fine parsed h) e = absurd (cc)

ok_is : (one other : Parsed) (r : Result Parsed AsmWhy) → r ≡ Ok one → r ≡ Ok other → one ≡ other
ok_is one other r e f = cc

found_ok : (variant : Variant) (text : List ℕ) (parsed : Parsed) (r : Result Parsed AsmWhy) → Comes variant text r → r ≡ Ok parsed → IsOkWhere variant text parsed
found_ok variant text parsed _ (bad h) e = absurd (cc)
found_ok variant text parsed _ (no_form h) e = absurd (cc)
found_ok variant text parsed _ (wide h) e = absurd (cc)
found_ok variant text parsed _ (fine other h) e = subst (IsOkWhere variant text) (ok_is other parsed (Ok other) refl e) h

-- ---- and from the meaning to the result

-- a text has at most one content
says_one : (variant : Variant) (text : List ℕ) (one other : Parsed) → IsLineOfLanguage variant text one → IsLineOfLanguage variant text other → one ≡ other
says_one variant text one other p q = same_Some _ _ (sym ((reads_the_language variant text one).1 p) ∙ (reads_the_language variant text other).1 q)

told_bad : (variant : Variant) (text : List ℕ) (r : Result Parsed AsmWhy) → Comes variant text r → HasBadByte text → r ≡ Err BadByte
told_bad variant text _ (bad h) b = refl
told_bad variant text _ (no_form h) b = absurd (h.good b)
told_bad variant text _ (wide h) b = absurd (h.good b)
told_bad variant text _ (fine parsed h) b = absurd (h.good b)

told_syntax : (variant : Variant) (text : List ℕ) (r : Result Parsed AsmWhy) → Comes variant text r → IsSyntaxWhere variant text → r ≡ Err Syntax
told_syntax variant text _ (bad h) s = absurd (s.good h)
told_syntax variant text _ (no_form h) s = refl
told_syntax variant text _ (wide h) s = absurd (s.no_line h.parsed h.says)
told_syntax variant text _ (fine parsed h) s = absurd (s.no_line parsed h.says)

told_wide : (variant : Variant) (text : List ℕ) (r : Result Parsed AsmWhy) → Comes variant text r → IsTooWideWhere variant text → r ≡ Err NumberTooWide
told_wide variant text _ (bad h) w = absurd (w.good h)
told_wide variant text _ (no_form h) w = absurd (h.no_line w.parsed w.says)
told_wide variant text _ (wide h) w = refl
told_wide variant text _ (fine parsed h) w =
    absurd (h.narrow (subst (λ (p : Parsed). IsTooWide p.statement) (says_one variant text w.parsed parsed w.says h.says) w.wide))

told_ok : (variant : Variant) (text : List ℕ) (parsed : Parsed) (r : Result Parsed AsmWhy) → Comes variant text r → IsOkWhere variant text parsed → r ≡ Ok parsed
told_ok variant text parsed _ (bad h) k = absurd (k.good h)
told_ok variant text parsed _ (no_form h) k = absurd (h.no_line parsed k.says)
told_ok variant text parsed _ (wide h) k =
    absurd (k.narrow (subst (λ (p : Parsed). IsTooWide p.statement) (says_one variant text h.parsed parsed h.says k.says) h.wide))
told_ok variant text parsed _ (fine other h) k = ap Ok (says_one variant text other parsed h.says k.says)

pub accepts_the_language : AcceptsTheLanguage
accepts_the_language variant text parsed =
    (found_ok variant text parsed (read_line variant text) (comes variant text), told_ok variant text parsed (read_line variant text) (comes variant text))

pub tells_bad_bytes : ReportsBadBytes
tells_bad_bytes variant text = (found_bad variant text (read_line variant text) (comes variant text), told_bad variant text (read_line variant text) (comes variant text))

pub tells_syntax : ReportsSyntax
tells_syntax variant text = (found_syntax variant text (read_line variant text) (comes variant text), told_syntax variant text (read_line variant text) (comes variant text))

pub tells_wide_numbers : ReportsWideNumbers
tells_wide_numbers variant text = (found_wide variant text (read_line variant text) (comes variant text), told_wide variant text (read_line variant text) (comes variant text))
