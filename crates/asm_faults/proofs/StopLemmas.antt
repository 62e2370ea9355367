-- A line stops somewhere exactly if it is not well-formed.
use Rattle.std.proofs.Common.{◌≡◌, ℕ, Bool, true, false, if◌then◌else◌, List, [], ◌∷◌, refl, sym, ap, ◌∙◌, arith}
use Rattle.std.specs.Prelude.{Option, Some, None, is_some, is_none, option_and_then}
use Rattle.y86_base.specs.declared.parts.Variant.{Variant}
use Rattle.y86_base.specs.declared.number.Number.{Number}
use Rattle.yas_asm.specs.declared.statement.Operation.{Operation}
use Rattle.yas_asm.specs.declared.statement.Shape.{Shape}
use Rattle.yas_asm.specs.declared.statement.Shape.TheVariants as shapes
use Rattle.yas_asm.specs.declared.statement.Directive.{Directive}
use Rattle.yas_asm.specs.declared.statement.Directive.TheVariants as directives
use Rattle.yas_asm.specs.declared.statement.Statement.{Statement as Meaning}
use Rattle.yas_asm.specs.declared.statement.Statement.TheVariants.{Nothing}
use Rattle.yas_asm.specs.declared.statement.Parsed.{Parsed}
use Rattle.yas_asm.specs.declared.statement.Width.{Width}
use Rattle.yas_asm.specs.declared.statement.Width.TheVariants.{Eight}
use Rattle.yas_asm.specs.Tokens.{sign, name, number, after_sign}
use Rattle.yas_asm.specs.Tables.{register, directive, mnemonic}
use Rattle.yas_asm.specs.Comments.{ends}
use Rattle.yas_asm.specs.Grammar as grammar
use Rattle.yas_asm.specs.Grammar.{operand, operand_from, displacement, memory, natural, is_zero, position_operand, align_operand, data_operand, directive_operand, two_registers, immediate, store, load, target, single, operands_as, operands_of, instruction_text, statement, last_statement, label, line}
use Rattle.asm_faults.specs.declared.parts.Part.{Part}
use Rattle.asm_faults.specs.declared.parts.Part.TheVariants.{Register, Value, Displacement, Comma, OpenParenthesis, CloseParenthesis, Natural, Positive, LineEnd}
use Rattle.asm_faults.specs.Parts.{parts_of_shape, parts_of_directive}
use Rattle.asm_faults.specs.Stops.{behind, behind_positive, behind_end, behind_part, stop_at, stop_of, operands_stop, instruction_stop, statement_from, statement_stop, line_stop, StopsWhereFaulty}

-- whether what follows a thing passes a test
abbrev pub goes_on : Option (List ℕ) → (List ℕ → Bool) → Bool
goes_on None test = false
goes_on (Some rest) test = test rest

-- whether all parts of a list follow each other
unfoldable pub goes : List Part → List ℕ → Bool
goes [] rest = true
goes (part ∷ parts) rest = goes_on (behind_part part rest) (goes parts)

goes_unless_stopped : (parts : List Part) (bytes : List ℕ) → is_none (stop_of parts bytes) ≡ goes parts bytes
unfolding stop_of goes
goes_unless_stopped [] bytes = refl
goes_unless_stopped (part ∷ parts) bytes = by (λ rest. goes_unless_stopped parts rest) (behind_part part bytes)
  where
    by : ((rest : List ℕ) → is_none (stop_of parts rest) ≡ goes parts rest) → (o : Option (List ℕ)) → is_none (stop_at part bytes (stop_of parts) o) ≡ goes_on o (goes parts)
    by each None = refl
    by each (Some rest) = each rest

through : {A B : Type 0} (o : Option (A × List ℕ)) (f : A × List ℕ → Option (B × List ℕ)) (g h : List ℕ → Bool) →
    ((x : A) (rest : List ℕ) → goes_on (behind (f (x, rest))) g ≡ h rest) → goes_on (behind (option_and_then f o)) g ≡ goes_on (behind o) h
through None f g h each = refl
through (Some x) f g h each = each x.0 x.1

through_sign : {B : Type 0} (o : Option (List ℕ)) (f : List ℕ → Option (B × List ℕ)) (g h : List ℕ → Bool) →
    ((rest : List ℕ) → goes_on (behind (f rest)) g ≡ h rest) → goes_on (behind (option_and_then f o)) g ≡ goes_on o h
through_sign None f g h each = refl
through_sign (Some rest) f g h each = each rest

memory_goes : (parts : List Part) (bytes : List ℕ) → goes_on (behind (memory bytes)) (goes parts) ≡ goes (Displacement ∷ OpenParenthesis ∷ Register ∷ CloseParenthesis ∷ parts) bytes
unfolding memory goes behind_part
memory_goes parts bytes =
    through (displacement bytes) _ (goes parts) (goes (OpenParenthesis ∷ Register ∷ CloseParenthesis ∷ parts)) (λ d one.
    through_sign (sign 40 one) _ (goes parts) (goes (Register ∷ CloseParenthesis ∷ parts)) (λ two.
    through (register two) _ (goes parts) (goes (CloseParenthesis ∷ parts)) (λ base three.
    through_sign (sign 41 three) _ (goes parts) (goes parts) (λ four. refl))))

module _ (parts : List Part) where
  registers_go : (operation : Operation) (bytes : List ℕ) → goes_on (behind (two_registers operation bytes)) (goes parts) ≡ goes (Register ∷ Comma ∷ Register ∷ parts) bytes
  unfolding two_registers goes behind_part
  registers_go operation bytes =
      through (register bytes) _ (goes parts) (goes (Comma ∷ Register ∷ parts)) (λ a one.
      through_sign (sign 44 one) _ (goes parts) (goes (Register ∷ parts)) (λ two.
      through (register two) _ (goes parts) (goes parts) (λ b three. refl)))

  immediate_goes : (operation : Operation) (bytes : List ℕ) → goes_on (behind (immediate operation bytes)) (goes parts) ≡ goes (Value ∷ Comma ∷ Register ∷ parts) bytes
  unfolding immediate goes behind_part
  immediate_goes operation bytes =
      through (operand Eight bytes) _ (goes parts) (goes (Comma ∷ Register ∷ parts)) (λ v one.
      through_sign (sign 44 one) _ (goes parts) (goes (Register ∷ parts)) (λ two.
      through (register two) _ (goes parts) (goes parts) (λ b three. refl)))

  store_goes : (operation : Operation) (bytes : List ℕ) → goes_on (behind (store operation bytes)) (goes parts)
      ≡ goes (Register ∷ Comma ∷ Displacement ∷ OpenParenthesis ∷ Register ∷ CloseParenthesis ∷ parts) bytes
  unfolding store goes behind_part
  store_goes operation bytes =
      through (register bytes) _ (goes parts) (goes (Comma ∷ Displacement ∷ OpenParenthesis ∷ Register ∷ CloseParenthesis ∷ parts)) (λ a one.
      through_sign (sign 44 one) _ (goes parts) (goes (Displacement ∷ OpenParenthesis ∷ Register ∷ CloseParenthesis ∷ parts)) (λ two.
      through (memory two) _ (goes parts) (goes parts) (λ m three. refl) ∙ memory_goes parts two))

  load_goes : (operation : Operation) (bytes : List ℕ) → goes_on (behind (load operation bytes)) (goes parts)
      ≡ goes (Displacement ∷ OpenParenthesis ∷ Register ∷ CloseParenthesis ∷ Comma ∷ Register ∷ parts) bytes
  unfolding load goes behind_part
  load_goes operation bytes =
      through (memory bytes) _ (goes parts) (goes (Comma ∷ Register ∷ parts)) (λ m one.
      through_sign (sign 44 one) _ (goes parts) (goes (Register ∷ parts)) (λ two.
      through (register two) _ (goes parts) (goes parts) (λ a three. refl))) ∙ memory_goes (Comma ∷ Register ∷ parts) bytes

  target_goes : (operation : Operation) (bytes : List ℕ) → goes_on (behind (target operation bytes)) (goes parts) ≡ goes (Value ∷ parts) bytes
  unfolding target goes behind_part
  target_goes operation bytes = through (operand Eight bytes) _ (goes parts) (goes parts) (λ v one. refl)

  single_goes : (operation : Operation) (bytes : List ℕ) → goes_on (behind (single operation bytes)) (goes parts) ≡ goes (Register ∷ parts) bytes
  unfolding single goes behind_part
  single_goes operation bytes = through (register bytes) _ (goes parts) (goes parts) (λ a one. refl)

  position_goes : (bytes : List ℕ) → goes_on (behind (position_operand bytes)) (goes parts) ≡ goes (Natural ∷ parts) bytes
  unfolding position_operand goes behind_part
  position_goes bytes = through (natural bytes) _ (goes parts) (goes parts) (λ n one. refl)

  align_goes : (bytes : List ℕ) → goes_on (behind (align_operand bytes)) (goes parts) ≡ goes (Positive ∷ parts) bytes
  unfolding align_operand goes behind_part
  align_goes bytes = by (natural bytes)
    where
      at : (n : Option ℕ × List ℕ) (zero : Bool) → goes_on (behind (if zero then None else Some (grammar.align_at n.0, n.1))) (goes parts) ≡ goes_on (if zero then None else Some n.1) (goes parts)
      at n true = refl
      at n false = refl

      by : (o : Option (Option ℕ × List ℕ)) →
          goes_on (behind (option_and_then (λ n. if is_zero n.0 then None else Some (grammar.align_at n.0, n.1)) o)) (goes parts) ≡ goes_on (behind_positive o) (goes parts)
      by None = refl
      by (Some n) = at n (is_zero n.0)

  data_goes : (width : Width) (bytes : List ℕ) → goes_on (behind (data_operand width bytes)) (goes parts) ≡ goes (Value ∷ parts) bytes
  unfolding data_operand goes behind_part operand
  data_goes width bytes =
      through (operand width bytes) _ (goes parts) (goes parts) (λ v one. refl) ∙ by (number (after_sign 36 bytes)) (name (after_sign 36 bytes))
    where
      by : (n : Option (Number × List ℕ)) (text : Option (List ℕ × List ℕ)) →
          goes_on (behind (operand_from width n text)) (goes parts) ≡ goes_on (behind (operand_from Eight n text)) (goes parts)
      by (Some n) text = refl
      by None (Some text) = refl
      by None None = refl

-- up to the end of the line
abbrev ending : Meaning × List ℕ → Option Meaning
ending s = if ends s.1 then Some s.0 else None

ended : (o : Option (Meaning × List ℕ)) → is_some (option_and_then ending o) ≡ goes_on (behind o) (goes (LineEnd ∷ []))
unfolding goes behind_part
ended None = refl
ended (Some s) = by s (ends s.1)
  where
    by : (s : Meaning × List ℕ) (e : Bool) → is_some (if e then Some s.0 else None) ≡ goes_on (behind_end e s.1) (goes [])
    by s true = refl
    by s false = refl

shape_goes : (shape : Shape) (operation : Operation) (bytes : List ℕ) → goes_on (behind (operands_as shape operation bytes)) (goes (LineEnd ∷ [])) ≡ goes (parts_of_shape shape) bytes
shape_goes shapes.Alone operation bytes = refl
shape_goes shapes.Registers operation bytes = registers_go (LineEnd ∷ []) operation bytes
shape_goes shapes.Immediate operation bytes = immediate_goes (LineEnd ∷ []) operation bytes
shape_goes shapes.Store operation bytes = store_goes (LineEnd ∷ []) operation bytes
shape_goes shapes.Load operation bytes = load_goes (LineEnd ∷ []) operation bytes
shape_goes shapes.Target operation bytes = target_goes (LineEnd ∷ []) operation bytes
shape_goes shapes.Single operation bytes = single_goes (LineEnd ∷ []) operation bytes

directive_goes : (d : Directive) (bytes : List ℕ) → goes_on (behind (directive_operand d bytes)) (goes (LineEnd ∷ [])) ≡ goes (parts_of_directive d) bytes
unfolding directive_operand
directive_goes directives.Position bytes = position_goes (LineEnd ∷ []) bytes
directive_goes directives.Align bytes = align_goes (LineEnd ∷ []) bytes
directive_goes (directives.Data width) bytes = data_goes (LineEnd ∷ []) width bytes

instruction_goes : (variant : Variant) (bytes : List ℕ) → is_none (instruction_stop variant bytes (name bytes)) ≡ is_some (option_and_then ending (instruction_text variant bytes))
unfolding instruction_text operands_of
instruction_goes variant bytes = by (name bytes)
  where
    at : (word : List ℕ × List ℕ) (o : Option Operation) →
        is_none (operands_stop bytes word.1 o) ≡ is_some (option_and_then ending (option_and_then (λ operation. operands_as operation.shape operation word.1) o))
    at word None = refl
    at word (Some operation) =
        goes_unless_stopped (parts_of_shape operation.shape) word.1 ∙ sym (shape_goes operation.shape operation word.1) ∙ sym (ended (operands_as operation.shape operation word.1))

    by : (o : Option (List ℕ × List ℕ)) →
        is_none (instruction_stop variant bytes o)
        ≡ is_some (option_and_then ending (option_and_then (λ word. option_and_then (λ operation. operands_as operation.shape operation word.1) (mnemonic variant word.0)) o))
    by None = refl
    by (Some word) = at word (mnemonic variant word.0)

statement_goes : (variant : Variant) (bytes : List ℕ) → is_none (statement_from variant bytes (directive bytes)) ≡ is_some (option_and_then ending (statement variant bytes))
unfolding statement
statement_goes variant bytes = by (directive bytes)
  where
    by : (o : Option (Directive × List ℕ)) → is_none (statement_from variant bytes o) ≡ is_some (option_and_then ending (grammar.statement_from variant bytes o))
    by (Some d) = goes_unless_stopped (parts_of_directive d.0) d.1 ∙ sym (directive_goes d.0 d.1) ∙ sym (ended (directive_operand d.0 d.1))
    by None = instruction_goes variant bytes

last_goes : (variant : Variant) (bytes : List ℕ) → is_none (statement_stop variant bytes) ≡ is_some (last_statement variant bytes)
unfolding statement_stop last_statement
last_goes variant bytes = by (ends bytes)
  where
    by : (e : Bool) → is_none (if e then None else statement_from variant bytes (directive bytes))
        ≡ is_some (if e then Some Nothing else option_and_then ending (statement variant bytes))
    by true = refl
    by false = statement_goes variant bytes

abbrev parsed_of : Option (List ℕ) → Meaning → Parsed
parsed_of label s = record { label = label; statement = s }

line_goes : (variant : Variant) (bytes : List ℕ) → is_none (line_stop variant bytes) ≡ is_some (line variant bytes)
unfolding line_stop line
line_goes variant bytes = last_goes variant (label bytes).1 ∙ by (last_statement variant (label bytes).1)
  where
    by : (o : Option Meaning) → is_some o ≡ is_some (option_and_then (λ s. Some (parsed_of (label bytes).0 s)) o)
    by None = refl
    by (Some s) = refl

none_is : {A : Type 0} (o : Option A) → is_none o ≡ true → o ≡ None
none_is None e = refl
none_is (Some x) e = absurd (grind (arith, e))

pub stops_where_faulty : StopsWhereFaulty
stops_where_faulty variant bytes = (λ e. sym (line_goes variant bytes) ∙ ap is_none e, λ e. none_is (line_stop variant bytes) (line_goes variant bytes ∙ e))
