-- A line and the squeezed line are read alike.
use Rattle.std.proofs.Common.{◌≡◌, ap, sym, subst, ◌∙◌, ℕ, Bool, true, false, cond, List, Option, None, Some, refl}
use Rattle.std.specs.Prelude.{not, ◌&&◌, unwrap_or}
use Rattle.std.proofs.lemmas.Bool.{false≢true}
use Rattle.y86_base.specs.declared.parts.Variant.{Variant}
use Rattle.y86_base.specs.declared.number.Number.{Number}
use Rattle.yas_asm.specs.declared.statement.Width.{Width}
use Rattle.yas_asm.specs.declared.statement.Width.TheVariants.{Eight}
use Rattle.yas_asm.specs.declared.statement.Shape.{Shape}
use Rattle.yas_asm.specs.declared.statement.Shape.TheVariants as shapes
use Rattle.yas_asm.specs.declared.statement.Directive.{Directive}
use Rattle.yas_asm.specs.declared.statement.Directive.TheVariants as directives
use Rattle.yas_asm.specs.declared.statement.Operation.{Operation}
use Rattle.yas_asm.specs.declared.statement.Operand.TheVariants.{Word, Label}
use Rattle.yas_asm.specs.declared.statement.Statement.{Statement}
use Rattle.yas_asm.specs.declared.statement.Statement.TheVariants as statements
use Rattle.yas_asm.specs.Tokens.{name, number, sign, after_sign, next_is}
use Rattle.yas_asm.specs.Comments.{ends}
use Rattle.yas_asm.specs.Tables.{register, directive, mnemonic}
use Rattle.yas_asm.specs.Grammar.{◌>>=◌, instruction, word_of, operand_from, operand, displacement, memory, is_zero, natural, position_at, align_at, position_operand, align_operand, data_operand, directive_operand, two_registers, immediate, store, load, target, single, operands_as, operands_of, instruction_text, statement_from, statement, label_with, label_from, label, last_statement, line}
use Rattle.yas_asm.specs.Spacing.{squeezed}
use Rattle.yas_laws.proofs.SpacingLemmas.{Moved, Passed, name-moved, number-moved, register-moved, directive-moved, sign-passed, next_is-squeezed, ends-squeezed}

-- a step after a reading
then_moved : {A B : Type 0} (o' o : Option (A × List ℕ)) (f : A × List ℕ → Option (B × List ℕ)) → Moved o' o
    → ((x : A) (close : Bool) (rest : List ℕ) → Moved (f (x, squeezed close rest)) (f (x, rest))) → Moved (o' >>= f) (o >>= f)
then_moved None None f m h = tt
then_moved None (Some y) f m h = absurd m
then_moved (Some x) None f m h = absurd m
then_moved {A} {B} (Some x) (Some y) f m h =
    subst (λ (p : A × List ℕ). Moved (f p) (f y)) (λ i. (sym m.0 i, sym m.1.1 i)) (h y.0 m.1.0 y.1)

-- and after a sign
then_passed : {B : Type 0} (o' o : Option (List ℕ)) (f : List ℕ → Option (B × List ℕ)) → Passed o' o
    → ((close : Bool) (rest : List ℕ) → Moved (f (squeezed close rest)) (f rest)) → Moved (o' >>= f) (o >>= f)
then_passed None None f m h = tt
then_passed None (Some y) f m h = absurd m
then_passed (Some x) None f m h = absurd m
then_passed (Some x) (Some y) f m h = subst (λ (p : List ℕ). Moved (f p) (f y)) (sym m.1) (h m.0 y)

-- the thing read, and what is left
left : {A : Type 0} (x : A) (close : Bool) (rest : List ℕ) → Moved (Some (x, squeezed close rest)) (Some (x, rest))
left x close rest = (refl, (close, refl))

comma-passed : (close : Bool) (bytes : List ℕ) → Passed (sign 44 (squeezed close bytes)) (sign 44 bytes)
comma-passed close bytes = sign-passed 44 refl refl refl refl close bytes

dollar_by : (o' o : Option (List ℕ)) (close : Bool) (bytes : List ℕ) → Passed o' o → (c : Bool) × (unwrap_or o' (squeezed close bytes) ≡ squeezed c (unwrap_or o bytes))
dollar_by None None close bytes m = (close, refl)
dollar_by None (Some y) close bytes m = absurd m
dollar_by (Some x) None close bytes m = absurd m
dollar_by (Some x) (Some y) close bytes m = m

dollar : (close : Bool) (bytes : List ℕ) → (c : Bool) × (after_sign 36 (squeezed close bytes) ≡ squeezed c (after_sign 36 bytes))
unfolding after_sign
dollar close bytes = dollar_by (sign 36 (squeezed close bytes)) (sign 36 bytes) close bytes (sign-passed 36 refl refl refl refl close bytes)

operand_from-moved : (width : Width) (n' n : Option (Number × List ℕ)) (t' t : Option (List ℕ × List ℕ)) → Moved n' n → Moved t' t → Moved (operand_from width n' t') (operand_from width n t)
operand_from-moved width (Some n') (Some n) t' t m k = (ap (word_of width) m.0, m.1)
operand_from-moved width (Some n') None t' t m k = absurd m
operand_from-moved width None (Some n) t' t m k = absurd m
operand_from-moved width None None (Some t') (Some t) m k = (ap Label k.0, k.1)
operand_from-moved width None None (Some t') None m k = absurd k
operand_from-moved width None None None (Some t) m k = absurd k
operand_from-moved width None None None None m k = tt

operand-moved : (width : Width) (close : Bool) (bytes : List ℕ) → Moved (operand width (squeezed close bytes)) (operand width bytes)
unfolding operand
operand-moved width close bytes =
    let d = dollar close bytes in
    let t = after_sign 36 bytes in
    subst (λ (text : List ℕ). Moved (operand_from width (number text) (name text)) (operand_from width (number t) (name t))) (sym d.1)
    (operand_from-moved width (number (squeezed d.0 t)) (number t) (name (squeezed d.0 t)) (name t) (number-moved d.0 t) (name-moved d.0 t))

displacement_by : (a b : Bool) (close : Bool) (bytes : List ℕ) → a ≡ b
    → Moved (cond a (Some (Word 0, squeezed close bytes)) (operand Eight (squeezed close bytes))) (cond b (Some (Word 0, bytes)) (operand Eight bytes))
displacement_by true true close bytes e = left (Word 0) close bytes
displacement_by true false close bytes e = absurd (false≢true (sym e))
displacement_by false true close bytes e = absurd (false≢true e)
displacement_by false false close bytes e = operand-moved Eight close bytes

displacement-moved : (close : Bool) (bytes : List ℕ) → Moved (displacement (squeezed close bytes)) (displacement bytes)
unfolding displacement
displacement-moved close bytes = displacement_by (next_is 40 (squeezed close bytes)) (next_is 40 bytes) close bytes (next_is-squeezed 40 refl refl refl refl close bytes)

memory-moved : (close : Bool) (bytes : List ℕ) → Moved (memory (squeezed close bytes)) (memory bytes)
unfolding memory
memory-moved close bytes =
    then_moved (displacement (squeezed close bytes)) (displacement bytes) _ (displacement-moved close bytes) (λ d c r.
    then_passed (sign 40 (squeezed c r)) (sign 40 r) _ (sign-passed 40 refl refl refl refl c r) (λ c r.
    then_moved (register (squeezed c r)) (register r) _ (register-moved c r) (λ b c r.
    then_passed (sign 41 (squeezed c r)) (sign 41 r) _ (sign-passed 41 refl refl refl refl c r) (λ c r. left (d, b) c r))))

none_or_left : {A : Type 0} (b : Bool) (x : A) (close : Bool) (rest : List ℕ) → Moved (cond b None (Some (x, squeezed close rest))) (cond b None (Some (x, rest)))
none_or_left true x close rest = tt
none_or_left false x close rest = left x close rest

natural-moved : (close : Bool) (bytes : List ℕ) → Moved (natural (squeezed close bytes)) (natural bytes)
unfolding natural
natural-moved close bytes =
    then_moved (number (squeezed close bytes)) (number bytes) _ (number-moved close bytes) (λ n c r.
    none_or_left (n.negative && not (is_zero n.magnitude)) n.magnitude c r)

directive_operand-moved : (d : Directive) (close : Bool) (bytes : List ℕ) → Moved (directive_operand d (squeezed close bytes)) (directive_operand d bytes)
unfolding directive_operand position_operand align_operand data_operand
directive_operand-moved directives.Position close bytes =
    then_moved (natural (squeezed close bytes)) (natural bytes) _ (natural-moved close bytes) (λ n c r. left (position_at n) c r)
directive_operand-moved directives.Align close bytes =
    then_moved (natural (squeezed close bytes)) (natural bytes) _ (natural-moved close bytes) (λ n c r. none_or_left (is_zero n) (align_at n) c r)
directive_operand-moved (directives.Data width) close bytes =
    then_moved (operand width (squeezed close bytes)) (operand width bytes) _ (operand-moved width close bytes) (λ v c r. left (statements.Data width v) c r)

operands_as-moved : (shape : Shape) (operation : Operation) (close : Bool) (bytes : List ℕ) → Moved (operands_as shape operation (squeezed close bytes)) (operands_as shape operation bytes)
unfolding two_registers immediate store load target single
operands_as-moved shapes.Alone operation close bytes = left (instruction operation 15 15 (Word 0)) close bytes
operands_as-moved shapes.Registers operation close bytes =
    then_moved (register (squeezed close bytes)) (register bytes) _ (register-moved close bytes) (λ a c r.
    then_passed (sign 44 (squeezed c r)) (sign 44 r) _ (comma-passed c r) (λ c r.
    then_moved (register (squeezed c r)) (register r) _ (register-moved c r) (λ b c r. left (instruction operation a b (Word 0)) c r)))
operands_as-moved shapes.Immediate operation close bytes =
    then_moved (operand Eight (squeezed close bytes)) (operand Eight bytes) _ (operand-moved Eight close bytes) (λ v c r.
    then_passed (sign 44 (squeezed c r)) (sign 44 r) _ (comma-passed c r) (λ c r.
    then_moved (register (squeezed c r)) (register r) _ (register-moved c r) (λ b c r. left (instruction operation 15 b v) c r)))
operands_as-moved shapes.Store operation close bytes =
    then_moved (register (squeezed close bytes)) (register bytes) _ (register-moved close bytes) (λ a c r.
    then_passed (sign 44 (squeezed c r)) (sign 44 r) _ (comma-passed c r) (λ c r.
    then_moved (memory (squeezed c r)) (memory r) _ (memory-moved c r) (λ m c r. left (instruction operation a m.1 m.0) c r)))
operands_as-moved shapes.Load operation close bytes =
    then_moved (memory (squeezed close bytes)) (memory bytes) _ (memory-moved close bytes) (λ m c r.
    then_passed (sign 44 (squeezed c r)) (sign 44 r) _ (comma-passed c r) (λ c r.
    then_moved (register (squeezed c r)) (register r) _ (register-moved c r) (λ a c r. left (instruction operation a m.1 m.0) c r)))
operands_as-moved shapes.Target operation close bytes =
    then_moved (operand Eight (squeezed close bytes)) (operand Eight bytes) _ (operand-moved Eight close bytes) (λ v c r. left (instruction operation 15 15 v) c r)
operands_as-moved shapes.Single operation close bytes =
    then_moved (register (squeezed close bytes)) (register bytes) _ (register-moved close bytes) (λ a c r. left (instruction operation a 15 (Word 0)) c r)

maybe_operation : (o : Option Operation) (close : Bool) (bytes : List ℕ)
    → Moved (o >>= (λ operation. operands_of operation (squeezed close bytes))) (o >>= (λ operation. operands_of operation bytes))
unfolding operands_of
maybe_operation None close bytes = tt
maybe_operation (Some operation) close bytes = operands_as-moved operation.shape operation close bytes

instruction_text-moved : (variant : Variant) (close : Bool) (bytes : List ℕ) → Moved (instruction_text variant (squeezed close bytes)) (instruction_text variant bytes)
unfolding instruction_text
instruction_text-moved variant close bytes =
    then_moved (name (squeezed close bytes)) (name bytes) _ (name-moved close bytes) (λ word c r. maybe_operation (mnemonic variant word) c r)

statement_from-moved : (variant : Variant) (d' d : Option (Directive × List ℕ)) (close : Bool) (bytes : List ℕ) → Moved d' d
    → Moved (statement_from variant (squeezed close bytes) d') (statement_from variant bytes d)
statement_from-moved variant None None close bytes m = instruction_text-moved variant close bytes
statement_from-moved variant None (Some d) close bytes m = absurd m
statement_from-moved variant (Some d') None close bytes m = absurd m
statement_from-moved variant (Some d') (Some d) close bytes m =
    subst (λ (p : Directive × List ℕ). Moved (directive_operand p.0 p.1) (directive_operand d.0 d.1)) (λ i. (sym m.0 i, sym m.1.1 i)) (directive_operand-moved d.0 m.1.0 d.1)

statement-moved : (variant : Variant) (close : Bool) (bytes : List ℕ) → Moved (statement variant (squeezed close bytes)) (statement variant bytes)
unfolding statement
statement-moved variant close bytes = statement_from-moved variant (directive (squeezed close bytes)) (directive bytes) close bytes (directive-moved close bytes)

label_with-same : (word' word : List ℕ) (s' s : Option (List ℕ)) (close : Bool) (bytes : List ℕ) → word' ≡ word → Passed s' s
    → ((label_with (squeezed close bytes) word' s').0 ≡ (label_with bytes word s).0) × ((c : Bool) × ((label_with (squeezed close bytes) word' s').1 ≡ squeezed c (label_with bytes word s).1))
label_with-same word' word None None close bytes e m = (refl, (close, refl))
label_with-same word' word None (Some y) close bytes e m = absurd m
label_with-same word' word (Some x) None close bytes e m = absurd m
label_with-same word' word (Some x) (Some y) close bytes e m = (ap Some e, m)

label_from-same : (n' n : Option (List ℕ × List ℕ)) (close : Bool) (bytes : List ℕ) → Moved n' n
    → ((label_from (squeezed close bytes) n').0 ≡ (label_from bytes n).0) × ((c : Bool) × ((label_from (squeezed close bytes) n').1 ≡ squeezed c (label_from bytes n).1))
label_from-same None None close bytes m = (refl, (close, refl))
label_from-same None (Some n) close bytes m = absurd m
label_from-same (Some n') None close bytes m = absurd m
label_from-same (Some n') (Some n) close bytes m =
    label_with-same n'.0 n.0 (sign 58 n'.1) (sign 58 n.1) close bytes m.0
    (subst (λ (text : List ℕ). Passed (sign 58 text) (sign 58 n.1)) (sym m.1.1) (sign-passed 58 refl refl refl refl m.1.0 n.1))

label-same : (close : Bool) (bytes : List ℕ) → ((label (squeezed close bytes)).0 ≡ (label bytes).0) × ((c : Bool) × ((label (squeezed close bytes)).1 ≡ squeezed c (label bytes).1))
unfolding label
label-same close bytes = label_from-same (name (squeezed close bytes)) (name bytes) close bytes (name-moved close bytes)

at_end : (o' o : Option (Statement × List ℕ)) → Moved o' o → (o' >>= (λ s. cond (ends s.1) (Some s.0) None)) ≡ (o >>= (λ s. cond (ends s.1) (Some s.0) None))
at_end None None m = refl
at_end None (Some s) m = absurd m
at_end (Some s') None m = absurd m
at_end (Some s') (Some s) m =
    ap (λ b. cond b (Some s'.0) None) (ap ends m.1.1 ∙ ends-squeezed m.1.0 s.1) ∙ ap (λ x. cond (ends s.1) (Some x) None) m.0

last_statement-same : (variant : Variant) (close : Bool) (bytes : List ℕ) → last_statement variant (squeezed close bytes) ≡ last_statement variant bytes
unfolding last_statement
last_statement-same variant close bytes =
    ap (λ b. cond b (Some statements.Nothing) (statement variant (squeezed close bytes) >>= (λ s. cond (ends s.1) (Some s.0) None))) (ends-squeezed close bytes)
    ∙ ap (λ o. cond (ends bytes) (Some statements.Nothing) o) (at_end (statement variant (squeezed close bytes)) (statement variant bytes) (statement-moved variant close bytes))

-- a squeezed line has the content of the line
pub line-squeezed : (variant : Variant) (close : Bool) (bytes : List ℕ) → line variant (squeezed close bytes) ≡ line variant bytes
unfolding line
line-squeezed variant close bytes =
    let l = label-same close bytes in
    let s : last_statement variant (label (squeezed close bytes)).1 ≡ last_statement variant (label bytes).1 =
    ap (last_statement variant) l.1.1 ∙ last_statement-same variant l.1.0 (label bytes).1 in
    λ i. s i >>= (λ s. Some (record { label = l.0 i; statement = s }))
