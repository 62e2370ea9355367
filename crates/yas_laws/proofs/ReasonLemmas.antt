-- The fault of a line is the first of the reasons that apply to it.
use Rattle.std.proofs.Common.{◌≡◌, ◌≤◌, ap, sym, subst, ◌∙◌, ℕ, Bool, true, false, cond, List, [], ◌∷◌, Option, None, Some, Ok, Err, refl}
use Rattle.std.specs.Prelude.{is_none, not, ◌||◌, nat_le}
use Rattle.std.specs.List.{list_all}
use Rattle.std.proofs.lemmas.Bool.{false≢true, and_parts, not-true}
use Rattle.y86_base.specs.declared.parts.Variant.{Variant}
use Rattle.yas_asm.specs.declared.fault.AsmWhy.{AsmWhy}
use Rattle.yas_asm.specs.declared.fault.AsmWhy.TheVariants.{Syntax, BadByte, NumberTooWide, LabelTwice, LabelUnknown, OutsideMemory, Overlap, LabelLimit, Memory}
use Rattle.yas_asm.specs.declared.statement.Parsed.{Parsed}
use Rattle.yas_asm.specs.Comments.{bad_outside}
use Rattle.yas_asm.specs.Grammar.{is_wide, line, checked, read_line}
use Rattle.yas_asm.specs.Assembly.{Placed, source_lines, width_of, place, labels, filled, names_wide, names_unknown, is_defined, is_past_limit, overlaps, first_reason, statement_fault, line_fault}
use Rattle.yas_asm.specs.Laws.{rank, holds_of, holds, IsLeast, LeastReasonIsReported}
use Rattle.yas_asm.proofs.Parts.{at_most}
use Rattle.yas_laws.proofs.FaultLemmas.{lines_follow}

abbrev reasons : List AsmWhy
reasons = Syntax ∷ BadByte ∷ NumberTooWide ∷ LabelTwice ∷ LabelUnknown ∷ OutsideMemory ∷ Overlap ∷ LabelLimit ∷ Memory ∷ []

-- a test that passes on the list of all reasons passes for each
each : (test : AsmWhy → Bool) → list_all test reasons ≡ true → (why : AsmWhy) → test why ≡ true
each test e why =
    let t1 = and_parts _ _ e in
    let t2 = and_parts _ _ t1.1 in
    let t3 = and_parts _ _ t2.1 in
    let t4 = and_parts _ _ t3.1 in
    let t5 = and_parts _ _ t4.1 in
    let t6 = and_parts _ _ t5.1 in
    let t7 = and_parts _ _ t6.1 in
    let t8 = and_parts _ _ t7.1 in
    let t9 = and_parts _ _ t8.1 in
    by t1.0 t2.0 t3.0 t4.0 t5.0 t6.0 t7.0 t8.0 t9.0 why
  where
    by : test Syntax ≡ true → test BadByte ≡ true → test NumberTooWide ≡ true → test LabelTwice ≡ true → test LabelUnknown ≡ true → test OutsideMemory ≡ true
        → test Overlap ≡ true → test LabelLimit ≡ true → test Memory ≡ true → (why : AsmWhy) → test why ≡ true
    by a b c d e f g h i Syntax = a
    by a b c d e f g h i BadByte = b
    by a b c d e f g h i NumberTooWide = c
    by a b c d e f g h i LabelTwice = d
    by a b c d e f g h i LabelUnknown = e
    by a b c d e f g h i OutsideMemory = f
    by a b c d e f g h i Overlap = g
    by a b c d e f g h i LabelLimit = h
    by a b c d e f g h i Memory = i

-- a reason that applies if no earlier one does
least : (test : AsmWhy → Bool) (why : AsmWhy) → test why ≡ true → list_all (λ other. nat_le (rank why) (rank other) || not (test other)) reasons ≡ true → IsLeast test (Some why)
least test why here e =
    (here, λ other h. by (nat_le (rank why) (rank other)) other refl h (each (λ other. nat_le (rank why) (rank other) || not (test other)) e other))
  where
    by : (b : Bool) (other : AsmWhy) → nat_le (rank why) (rank other) ≡ b → test other ≡ true → (b || not (test other)) ≡ true → rank why ≤ rank other
    by true other l h e = at_most (rank why) (rank other) l
    by false other l h e = absurd (false≢true (sym (ap not h) ∙ e))

none : (test : AsmWhy → Bool) → list_all (λ why. not (test why)) reasons ≡ true → IsLeast test None
none test e why = not-true (test why) (each (λ why. not (test why)) e why)

same_test : (test other : AsmWhy → Bool) → ((why : AsmWhy) → test why ≡ other why) → (told : Option AsmWhy) → IsLeast test told → IsLeast other told
same_test test other same None h = λ why. sym (same why) ∙ h why
same_test test other same (Some why) h = (sym (same why) ∙ h.0, λ next e. h.1 next (same next ∙ e))

-- the tests of a well-formed line, one for each reason
abbrev told : Bool → Bool → Bool → Bool → Bool → Bool → AsmWhy → Bool
told wide twice unknown outside overlap limit NumberTooWide = wide
told wide twice unknown outside overlap limit LabelTwice = twice
told wide twice unknown outside overlap limit LabelUnknown = unknown
told wide twice unknown outside overlap limit OutsideMemory = outside
told wide twice unknown outside overlap limit Overlap = overlap
told wide twice unknown outside overlap limit LabelLimit = limit
told wide twice unknown outside overlap limit _ = false

first_is_least : (wide twice unknown outside overlap limit : Bool)
    → IsLeast (told wide twice unknown outside overlap limit)
    (first_reason ((wide, NumberTooWide) ∷ (twice, LabelTwice) ∷ (unknown, LabelUnknown) ∷ (outside, OutsideMemory) ∷ (overlap, Overlap) ∷ (limit, LabelLimit) ∷ []))
first_is_least true twice unknown outside overlap limit = least (told true twice unknown outside overlap limit) NumberTooWide refl refl
first_is_least false true unknown outside overlap limit = least (told false true unknown outside overlap limit) LabelTwice refl refl
first_is_least false false true outside overlap limit = least (told false false true outside overlap limit) LabelUnknown refl refl
first_is_least false false false true overlap limit = least (told false false false true overlap limit) OutsideMemory refl refl
first_is_least false false false false true limit = least (told false false false false true limit) Overlap refl refl
first_is_least false false false false false true = least (told false false false false false true) LabelLimit refl refl
first_is_least false false false false false false = none (told false false false false false false) refl

module _ (variant : Variant) (size : ℕ) (table : List (List ℕ × ℕ)) (before : List Placed) (address : ℕ) where
  tests_of : Parsed → Bool → AsmWhy → Bool
  tests_of parsed wide why =
      told wide (is_defined (labels before) parsed.label) (names_unknown table parsed.statement) (is_none (place variant size address parsed.statement))
      (overlaps (filled variant size before) address (width_of variant parsed.statement)) (is_past_limit (labels before) parsed.label) why

  same_tests : (parsed : Parsed) (why : AsmWhy) → tests_of parsed (is_wide parsed.statement || names_wide table parsed.statement) why ≡ holds_of variant size table before address parsed why
  unfolding tests_of
  same_tests parsed Syntax = refl
  same_tests parsed BadByte = refl
  same_tests parsed NumberTooWide = refl
  same_tests parsed LabelTwice = refl
  same_tests parsed LabelUnknown = refl
  same_tests parsed OutsideMemory = refl
  same_tests parsed Overlap = refl
  same_tests parsed LabelLimit = refl
  same_tests parsed Memory = refl

  form_least : (parsed : Parsed) (wide : Bool)
      → IsLeast (tests_of parsed (wide || names_wide table parsed.statement))
      (line_fault variant size table (labels before) (filled variant size before) address (cond wide (Err NumberTooWide) (Ok parsed)))
  unfolding tests_of line_fault statement_fault
  form_least parsed true = first_is_least true _ _ _ _ _
  form_least parsed false = first_is_least (names_wide table parsed.statement) _ _ _ _ _

  line_least : (bad : Bool) (form : Option Parsed)
      → IsLeast (holds variant size table before address bad form)
      (line_fault variant size table (labels before) (filled variant size before) address (cond bad (Err BadByte) (checked form)))
  unfolding line_fault
  line_least true form = least (holds variant size table before address true form) BadByte refl refl
  line_least false None = least (holds variant size table before address false None) Syntax refl refl
  line_least false (Some parsed) =
      same_test (tests_of parsed (is_wide parsed.statement || names_wide table parsed.statement)) (holds_of variant size table before address parsed) (same_tests parsed) _
      (form_least parsed (is_wide parsed.statement))

pub least_reason_is_told : LeastReasonIsReported
unfolding read_line
least_reason_is_told variant source size before after here e =
    subst (λ read. IsLeast (holds variant size (labels (source_lines variant size source)) before here.address (bad_outside 0 here.text) (line variant here.text))
    (line_fault variant size (labels (source_lines variant size source)) (labels before) (filled variant size before) here.address read))
    (sym (lines_follow.reads variant source size before after here e))
    (line_least variant size (labels (source_lines variant size source)) before here.address (bad_outside 0 here.text) (line variant here.text))
