-- Every statement that the grammar reads is sound: its instruction is valid, and the number of an `.align` is at least
-- 1.
use Rattle.std.proofs.Common.{◌≡◌, ◌<◌, ap, sym, subst, ◌∙◌, ℕ, Bool, true, false, cond, List, [], ◌∷◌, length, Option, None, Some, Result, Ok, Err, refl, arith}
use Rattle.std.specs.Prelude.{nat_lt, nat_le, nat_eq, not, ◌&&◌, ◌||◌, ◌==◌}
use Rattle.std.specs.List.{list_all, starts_with}
use Rattle.std.specs.Str.{bytes_eq}
use Rattle.std.proofs.lemmas.Option.{none-some, same_Some}
use Rattle.std.proofs.lemmas.Bool.{false≢true, ltb-true, and_parts}
use Rattle.std.proofs.lemmas.Bool.Decides.{nat_tests}
use Rattle.y86_base.specs.declared.parts.Variant.{Variant}
use Rattle.y86_base.specs.declared.parts.Variant.TheVariants.{Base, Full}
use Rattle.y86_base.specs.Text.{is_blank, behind}
use Rattle.y86_isa.specs.Table.{rows, row}
use Rattle.y86_isa.specs.Encoding.{NamesRegister, written_top}
use Rattle.yas_asm.specs.declared.statement.Width.TheVariants.{Eight}
use Rattle.yas_asm.specs.declared.statement.Shape.{Shape}
use Rattle.yas_asm.specs.declared.statement.Shape.TheVariants as shapes
use Rattle.yas_asm.specs.declared.statement.Directive.{Directive}
use Rattle.yas_asm.specs.declared.statement.Directive.TheVariants as directives
use Rattle.yas_asm.specs.declared.statement.Operation.{Operation}
use Rattle.yas_asm.specs.declared.statement.Operand.{Operand}
use Rattle.yas_asm.specs.declared.statement.Operand.TheVariants.{Word}
use Rattle.yas_asm.specs.declared.statement.Statement.{Statement}
use Rattle.yas_asm.specs.declared.statement.Statement.TheVariants as statements
use Rattle.yas_asm.specs.declared.statement.Parsed.{Parsed}
use Rattle.y86_base.specs.Keyword.{keyword_at, meaning_of}
use Rattle.y86_base.specs.Registers.{register_names}
use Rattle.yas_asm.specs.Tokens.{name, sign}
use Rattle.yas_asm.specs.Tables.{register, base_mnemonics, mnemonics, mnemonic, directive}
use Rattle.yas_asm.specs.declared.fault.AsmWhy.{AsmWhy}
use Rattle.yas_asm.specs.declared.fault.AsmWhy.TheVariants.{BadByte, NumberTooWide}
use Rattle.yas_asm.specs.Comments.{bad_outside, ends}
use Rattle.yas_asm.specs.Grammar.{◌>>=◌, instruction, two_registers, immediate, store, load, target, single, operands_as, operands_of, memory, operand, displacement, natural, is_zero, position_at, align_at, position_operand, align_operand, data_operand, directive_operand, instruction_text, statement_from, statement, last_statement, line, label, checked, is_wide, read_line}
use Rattle.yas_asm.proofs.Parts.{at_most}
use Rattle.yas_asm.specs.Sound.{IsSound}

-- if a step of a reading gives a result, the step before it did
pub then_some : {A B : Type 0} (o : Option A) (f : A → Option B) (y : B) → (o >>= f) ≡ Some y → (x : A) × (o ≡ Some x) × (f x ≡ Some y)
then_some None f y e = absurd (none-some y e)
then_some (Some x) f y e = (x, refl, e)

module _ {A : Type 0} (test : A → Bool) where
  from_row : (found : Bool) (row : List ℕ × A) (behind : List ℕ) (rest : Option (A × List ℕ)) (x : A × List ℕ) → test row.1 ≡ true
      → (rest ≡ Some x → test x.0 ≡ true) → cond found (Some (row.1, behind)) rest ≡ Some x → test x.0 ≡ true
  from_row true row behind rest x here later e = subst (λ (y : A × List ℕ). test y.0 ≡ true) (same_Some _ _ e) here
  from_row false row behind rest x here later e = later e

  -- a test that each meaning of a table passes is passed by the one that is read
  pub keyword_at-test : (rows : List (List ℕ × A)) (text : List ℕ) (x : A × List ℕ) → list_all (λ row. test row.1) rows ≡ true → keyword_at rows text ≡ Some x → test x.0 ≡ true
  unfolding keyword_at
  keyword_at-test [] text x all e = absurd (none-some x e)
  keyword_at-test (row ∷ rows) text x all e =
      from_row (starts_with nat_eq text row.0) row _ (keyword_at rows text) x (and_parts (test row.1) _ all).0
      (keyword_at-test rows text x (and_parts (test row.1) _ all).1) e

  from_meaning : (found : Bool) (row : List ℕ × A) (rest : Option A) (x : A) → test row.1 ≡ true
      → (rest ≡ Some x → test x ≡ true) → cond found (Some row.1) rest ≡ Some x → test x ≡ true
  from_meaning true row rest x here later e = subst (λ (y : A). test y ≡ true) (same_Some _ _ e) here
  from_meaning false row rest x here later e = later e

  pub meaning_of-test : (rows : List (List ℕ × A)) (text : List ℕ) (x : A) → list_all (λ row. test row.1) rows ≡ true → meaning_of rows text ≡ Some x → test x ≡ true
  unfolding meaning_of
  meaning_of-test [] text x all e = absurd (none-some x e)
  meaning_of-test (row ∷ rows) text x all e =
      from_meaning (bytes_eq text row.0) row (meaning_of rows text) x (and_parts (test row.1) _ all).0
      (meaning_of-test rows text x (and_parts (test row.1) _ all).1) e

-- a register that is read has a number below 15
pub register-below : (bytes : List ℕ) (x : ℕ × List ℕ) → register bytes ≡ Some x → x.0 < 15
unfolding register register_names
register-below bytes x e = ltb-true _ _ (keyword_at-test (λ n. nat_lt n 15) register_names (behind is_blank bytes) x refl e)

-- whether a shape has rA, rB, a constant
abbrev takes_a : Shape → Bool
takes_a shapes.Alone = false
takes_a shapes.Registers = true
takes_a shapes.Immediate = false
takes_a shapes.Store = true
takes_a shapes.Load = true
takes_a shapes.Target = false
takes_a shapes.Single = true

abbrev takes_b : Shape → Bool
takes_b shapes.Alone = false
takes_b shapes.Registers = true
takes_b shapes.Immediate = true
takes_b shapes.Store = true
takes_b shapes.Load = true
takes_b shapes.Target = false
takes_b shapes.Single = false

abbrev takes_const : Shape → Bool
takes_const shapes.Alone = false
takes_const shapes.Registers = false
takes_const shapes.Immediate = true
takes_const shapes.Store = true
takes_const shapes.Load = true
takes_const shapes.Target = true
takes_const shapes.Single = false

abbrev same : Bool → Bool → Bool
same true b = b
same false b = not b

same_is : (a b : Bool) → same a b ≡ true → a ≡ b
same_is true b e = sym e
same_is false true e = absurd (false≢true e)
same_is false false e = refl

-- the row in the instruction table has the operands of the mnemonic
abbrev suits : Variant → Operation → Bool
suits variant operation =
    nat_lt operation.icode (length (rows variant))
    && (nat_le operation.ifun (written_top (row variant operation.icode))
    && (same (row variant operation.icode).uses_a (takes_a operation.shape)
    && (same (row variant operation.icode).uses_b (takes_b operation.shape)
    && (not (takes_const operation.shape) || (row variant operation.icode).has_const))))

mnemonic-suits : (variant : Variant) (name : List ℕ) (operation : Operation) → mnemonic variant name ≡ Some operation → suits variant operation ≡ true
unfolding mnemonic base_mnemonics row
mnemonic-suits Base name operation e = meaning_of-test (suits Base) (mnemonics Base) name operation refl e
mnemonic-suits Full name operation e = meaning_of-test (suits Full) (mnemonics Full) name operation refl e

no_constant : (takes has : Bool) (A : Type 0) → (not takes || has) ≡ true → has ≡ false → (takes ≡ false → A) → A
no_constant true has A e none fill = absurd (false≢true (sym none ∙ e))
no_constant false has A e none fill = fill refl

-- an instruction is sound if its operands are those of its mnemonic
sound_with : (variant : Variant) (operation : Operation) (a b : ℕ) (constant : Operand) → suits variant operation ≡ true
    → NamesRegister (takes_a operation.shape) a → NamesRegister (takes_b operation.shape) b → (takes_const operation.shape ≡ false → constant ≡ Word 0)
    → IsSound variant (instruction operation a b constant)
sound_with variant operation a b constant e fa fb fc =
    let r = row variant operation.icode in
    let t1 = nat_lt operation.icode (length (rows variant)) in
    let t2 = nat_le operation.ifun (written_top r) in
    let t3 = same r.uses_a (takes_a operation.shape) in
    let t4 = same r.uses_b (takes_b operation.shape) in
    let t5 = not (takes_const operation.shape) || r.has_const in
    let e2 = (and_parts t1 (t2 && (t3 && (t4 && t5))) e).1 in
    let e3 = (and_parts t2 (t3 && (t4 && t5)) e2).1 in
    let e4 = (and_parts t3 (t4 && t5) e3).1 in
    λ value w. record {
      known = ltb-true operation.icode (length (rows variant)) (and_parts t1 (t2 && (t3 && (t4 && t5))) e).0;
      fits = record {
        ifun = at_most operation.ifun (written_top r) (and_parts t2 (t3 && (t4 && t5)) e2).0;
        field_a = subst (λ (u : Bool). NamesRegister u a) (sym (same_is r.uses_a (takes_a operation.shape) (and_parts t3 (t4 && t5) e3).0)) fa;
        field_b = subst (λ (u : Bool). NamesRegister u b) (sym (same_is r.uses_b (takes_b operation.shape) (and_parts t4 t5 e4).0)) fb;
        constant = λ none. no_constant (takes_const operation.shape) r.has_const (value ≡ 0) (and_parts t4 t5 e4).1 none (λ f. w (fc f));
      };
    }

-- each kind of statement
module _ (variant : Variant) where
  abbrev Good : Statement × List ℕ → Type 0
  Good x = IsSound variant x.0

  is_good : (s : Statement) (behind : List ℕ) (x : Statement × List ℕ) → Some (s, behind) ≡ Some x → IsSound variant s → Good x
  is_good s behind x e h = subst (λ (y : Statement × List ℕ). IsSound variant y.0) (same_Some _ _ e) h

  module _ (operation : Operation) (suit : suits variant operation ≡ true) where
    alone_sound : (bytes : List ℕ) (x : Statement × List ℕ) → shapes.Alone ≡ operation.shape → Some (instruction operation 15 15 (Word 0), bytes) ≡ Some x → Good x
    alone_sound bytes x s e =
        is_good _ _ x e
        (sound_with variant operation 15 15 (Word 0) suit (subst (λ (p : Shape). NamesRegister (takes_a p) 15) s refl)
        (subst (λ (p : Shape). NamesRegister (takes_b p) 15) s refl) (λ _. refl))

    two_sound : (bytes : List ℕ) (x : Statement × List ℕ) → shapes.Registers ≡ operation.shape → two_registers operation bytes ≡ Some x → Good x
    unfolding two_registers
    two_sound bytes x s e =
        let a = then_some (register bytes) _ x e in
        let comma = then_some (sign 44 a.0.1) _ x a.2 in
        let b = then_some (register comma.0) _ x comma.2 in
        is_good _ _ x b.2
        (sound_with variant operation a.0.0 b.0.0 (Word 0) suit (subst (λ (p : Shape). NamesRegister (takes_a p) a.0.0) s (register-below bytes a.0 a.1))
        (subst (λ (p : Shape). NamesRegister (takes_b p) b.0.0) s (register-below comma.0 b.0 b.1)) (λ _. refl))

    no_const : (s : Shape) (constant : Operand) → takes_const s ≡ true → s ≡ operation.shape → takes_const operation.shape ≡ false → constant ≡ Word 0
    no_const s constant t e f = absurd (false≢true (sym f ∙ sym (ap takes_const e) ∙ t))

    immediate_sound : (bytes : List ℕ) (x : Statement × List ℕ) → shapes.Immediate ≡ operation.shape → immediate operation bytes ≡ Some x → Good x
    unfolding immediate
    immediate_sound bytes x s e =
        let v = then_some (operand Eight bytes) _ x e in
        let comma = then_some (sign 44 v.0.1) _ x v.2 in
        let b = then_some (register comma.0) _ x comma.2 in
        is_good _ _ x b.2
        (sound_with variant operation 15 b.0.0 v.0.0 suit (subst (λ (p : Shape). NamesRegister (takes_a p) 15) s refl)
        (subst (λ (p : Shape). NamesRegister (takes_b p) b.0.0) s (register-below comma.0 b.0 b.1)) (no_const shapes.Immediate v.0.0 refl s))

    memory-below : (bytes : List ℕ) (m : (Operand × ℕ) × List ℕ) → memory bytes ≡ Some m → m.0.1 < 15
    unfolding memory
    memory-below bytes m e =
        let d = then_some (displacement bytes) _ m e in
        let opened = then_some (sign 40 d.0.1) _ m d.2 in
        let base = then_some (register opened.0) _ m opened.2 in
        let close = then_some (sign 41 base.0.1) _ m base.2 in
        subst (λ (y : (Operand × ℕ) × List ℕ). y.0.1 < 15) (same_Some _ _ close.2) (register-below opened.0 base.0 base.1)

    store_sound : (bytes : List ℕ) (x : Statement × List ℕ) → shapes.Store ≡ operation.shape → store operation bytes ≡ Some x → Good x
    unfolding store
    store_sound bytes x s e =
        let a = then_some (register bytes) _ x e in
        let comma = then_some (sign 44 a.0.1) _ x a.2 in
        let m = then_some (memory comma.0) _ x comma.2 in
        is_good _ _ x m.2
        (sound_with variant operation a.0.0 m.0.0.1 m.0.0.0 suit (subst (λ (p : Shape). NamesRegister (takes_a p) a.0.0) s (register-below bytes a.0 a.1))
        (subst (λ (p : Shape). NamesRegister (takes_b p) m.0.0.1) s (memory-below comma.0 m.0 m.1)) (no_const shapes.Store m.0.0.0 refl s))

    load_sound : (bytes : List ℕ) (x : Statement × List ℕ) → shapes.Load ≡ operation.shape → load operation bytes ≡ Some x → Good x
    unfolding load
    load_sound bytes x s e =
        let m = then_some (memory bytes) _ x e in
        let comma = then_some (sign 44 m.0.1) _ x m.2 in
        let a = then_some (register comma.0) _ x comma.2 in
        is_good _ _ x a.2
        (sound_with variant operation a.0.0 m.0.0.1 m.0.0.0 suit (subst (λ (p : Shape). NamesRegister (takes_a p) a.0.0) s (register-below comma.0 a.0 a.1))
        (subst (λ (p : Shape). NamesRegister (takes_b p) m.0.0.1) s (memory-below bytes m.0 m.1)) (no_const shapes.Load m.0.0.0 refl s))

    target_sound : (bytes : List ℕ) (x : Statement × List ℕ) → shapes.Target ≡ operation.shape → target operation bytes ≡ Some x → Good x
    unfolding target
    target_sound bytes x s e =
        let v = then_some (operand Eight bytes) _ x e in
        is_good _ _ x v.2
        (sound_with variant operation 15 15 v.0.0 suit (subst (λ (p : Shape). NamesRegister (takes_a p) 15) s refl)
        (subst (λ (p : Shape). NamesRegister (takes_b p) 15) s refl) (no_const shapes.Target v.0.0 refl s))

    single_sound : (bytes : List ℕ) (x : Statement × List ℕ) → shapes.Single ≡ operation.shape → single operation bytes ≡ Some x → Good x
    unfolding single
    single_sound bytes x s e =
        let a = then_some (register bytes) _ x e in
        is_good _ _ x a.2
        (sound_with variant operation a.0.0 15 (Word 0) suit (subst (λ (p : Shape). NamesRegister (takes_a p) a.0.0) s (register-below bytes a.0 a.1))
        (subst (λ (p : Shape). NamesRegister (takes_b p) 15) s refl) (λ _. refl))

    shape_sound : (s : Shape) (bytes : List ℕ) (x : Statement × List ℕ) → s ≡ operation.shape → operands_as s operation bytes ≡ Some x → Good x
    shape_sound shapes.Alone bytes x s e = alone_sound bytes x s e
    shape_sound shapes.Registers bytes x s e = two_sound bytes x s e
    shape_sound shapes.Immediate bytes x s e = immediate_sound bytes x s e
    shape_sound shapes.Store bytes x s e = store_sound bytes x s e
    shape_sound shapes.Load bytes x s e = load_sound bytes x s e
    shape_sound shapes.Target bytes x s e = target_sound bytes x s e
    shape_sound shapes.Single bytes x s e = single_sound bytes x s e

  instruction_sound : (bytes : List ℕ) (x : Statement × List ℕ) → instruction_text variant bytes ≡ Some x → Good x
  unfolding instruction_text operands_of
  instruction_sound bytes x e =
      let word = then_some (name bytes) _ x e in
      let operation = then_some (mnemonic variant word.0.0) _ x word.2 in
      shape_sound operation.0 (mnemonic-suits variant word.0.0 operation.0 operation.1) operation.0.shape word.0.1 x refl operation.2

  position_good : (n : Option ℕ) → IsSound variant (position_at n)
  position_good None = tt
  position_good (Some n) = tt

  align_good : (n : Option ℕ) (behind : List ℕ) (x : Statement × List ℕ) → cond (is_zero n) None (Some (align_at n, behind)) ≡ Some x → Good x
  align_good None behind x e = is_good _ _ x e tt
  align_good (Some n) behind x e = by (n == 0) refl e
    where
      by : (b : Bool) → (n == 0) ≡ b → cond b None (Some (statements.Align n, behind)) ≡ Some x → Good x
      by true t e = absurd (none-some x e)
      by false t e = is_good _ _ x e (grind (arith, nat_tests))

  directive_sound : (d : Directive) (bytes : List ℕ) (x : Statement × List ℕ) → directive_operand d bytes ≡ Some x → Good x
  unfolding directive_operand position_operand align_operand data_operand
  directive_sound directives.Position bytes x e =
      let n = then_some (natural bytes) _ x e in
      is_good _ _ x n.2 (position_good n.0.0)
  directive_sound directives.Align bytes x e =
      let n = then_some (natural bytes) _ x e in
      align_good n.0.0 n.0.1 x n.2
  directive_sound (directives.Data width) bytes x e =
      let v = then_some (operand width bytes) _ x e in
      is_good _ _ x v.2 tt

  statement_sound : (bytes : List ℕ) (x : Statement × List ℕ) → statement variant bytes ≡ Some x → Good x
  unfolding statement
  statement_sound bytes x e = by (directive bytes) e
    where
      by : (d : Option (Directive × List ℕ)) → statement_from variant bytes d ≡ Some x → Good x
      by None e = instruction_sound bytes x e
      by (Some d) e = directive_sound d.0 d.1 x e

  last_sound : (bytes : List ℕ) (s : Statement) → last_statement variant bytes ≡ Some s → IsSound variant s
  unfolding last_statement
  last_sound bytes s e = by (ends bytes) e
    where
      kept : (b : Bool) (t : Statement) → IsSound variant t → cond b (Some t) None ≡ Some s → IsSound variant s
      kept true t h e = subst (IsSound variant) (same_Some _ _ e) h
      kept false t h e = absurd (none-some s e)

      by : (b : Bool) → cond b (Some statements.Nothing) (statement variant bytes >>= (λ t. cond (ends t.1) (Some t.0) None)) ≡ Some s → IsSound variant s
      by true e = subst (IsSound variant) (same_Some _ _ e) tt
      by false e =
          let t = then_some (statement variant bytes) (λ t. cond (ends t.1) (Some t.0) None) s e in
          kept (ends t.0.1) t.0.0 (statement_sound bytes t.0 t.1) t.2

  -- a well-formed line has a sound statement
  pub line_sound : (bytes : List ℕ) (parsed : Parsed) → line variant bytes ≡ Some parsed → IsSound variant parsed.statement
  unfolding line
  line_sound bytes parsed e =
      let s = then_some (last_statement variant (label bytes).1) _ parsed e in
      subst (λ (p : Parsed). IsSound variant p.statement) (same_Some _ _ s.2) (last_sound (label bytes).1 s.0 s.1)

-- a line that is read has a sound statement
abbrev pub IsSoundRead : Variant → Result Parsed AsmWhy → Type 0
IsSoundRead variant (Ok parsed) = IsSound variant parsed.statement
IsSoundRead variant (Err why) = Unit {0}

from_checked : (variant : Variant) (text : List ℕ) (read : Option Parsed) → line variant text ≡ read → IsSoundRead variant (checked read)
from_checked variant text None e = tt
from_checked variant text (Some parsed) e = by (is_wide parsed.statement)
  where
    by : (b : Bool) → IsSoundRead variant (cond b (Err NumberTooWide) (Ok parsed))
    by true = tt
    by false = line_sound variant text parsed e

pub read_sound : (variant : Variant) (text : List ℕ) → IsSoundRead variant (read_line variant text)
unfolding read_line
read_sound variant text = by (bad_outside 0 text)
  where
    by : (b : Bool) → IsSoundRead variant (cond b (Err BadByte) (checked (line variant text)))
    by true = tt
    by false = from_checked variant text (line variant text) refl
