-- What the assembler reads is in the language.
use Rattle.std.proofs.Common.{◌≡◌, ap, sym, subst, ◌∙◌, ℕ, ◌-◌, ◌^◌, ◌%◌, ◌<◌, Bool, true, false, cond, List, [], ◌∷◌, ◌++◌, Option, Some, None, refl, arith}
use Rattle.std.specs.Prelude.{not, ◌&&◌, ◌==◌, nat_le, unwrap_or}
use Rattle.std.specs.Str.{bytes_eq}
use Rattle.std.proofs.lemmas.Bool.{false≢true, eqb-true}
use Rattle.std.proofs.lemmas.Bool.Decides.{nat_tests}
use Rattle.std.proofs.lemmas.List.{append-nil}
use Rattle.std.proofs.lemmas.Option.{none-some, same_Some}
use Rattle.std.proofs.lemmas.Slice.Eq.{bytes_eq-Decides}
use Rattle.y86_base.specs.declared.number.Number.{Number}
use Rattle.y86_base.specs.declared.parts.Variant.{Variant}
use Rattle.y86_base.specs.declared.parts.Variant.TheVariants.{Base, Full}
use Rattle.y86_base.specs.Keyword.{meaning_of}
use Rattle.y86_base.specs.Number.{word_of_magnitude, word_within}
use Rattle.yas_asm.specs.declared.statement.Width.{Width}
use Rattle.yas_asm.specs.declared.statement.Width.TheVariants.{One, Two, Four, Eight}
use Rattle.yas_asm.specs.declared.statement.Shape.{Shape}
use Rattle.yas_asm.specs.declared.statement.Shape.TheVariants as shapes
use Rattle.yas_asm.specs.declared.statement.Operation.{Operation}
use Rattle.yas_asm.specs.declared.statement.Directive.{Directive}
use Rattle.yas_asm.specs.declared.statement.Directive.TheVariants as directives
use Rattle.yas_asm.specs.declared.statement.Operand.{Operand}
use Rattle.yas_asm.specs.declared.statement.Operand.TheVariants.{Word, Wide}
use Rattle.yas_asm.specs.declared.statement.Statement.{Statement}
use Rattle.yas_asm.specs.Grammar as grammar
use Rattle.yas_asm.specs.Grammar.{◌>>=◌}
use Rattle.yas_asm.specs.Tables.{base_mnemonics, mnemonics}
use Rattle.yas_asm.specs.Tables as tables
use Rattle.yas_asm.specs.Tokens as readers
use Rattle.yas_asm.proofs.SoundGrammar.{then_some}
use Rattle.yas_language.specs.Tokens.{Token, word, number, register, directive, dollar, comma, left_paren, right_paren, HasTokens, IsEnd, IsNext}
use Rattle.yas_language.specs.Statements.{value, value_of_parts, most_above, most_below, instruction, IsValue, a_number, a_label, IsOperand, bare, with_dollar, IsMemory, no_displacement, with_displacement, IsMove, IsOperation, IsJump, IsNatural, positive, minus_zero, IsInstruction, IsDirective, IsStatement, mnemonic_first, directive_first}
use Rattle.yas_language.specs.Statements as rows
use Rattle.yas_language.proofs.Readers.{directive_found, number_found, register_found, sign_found, word_found}

-- ---- numbers as words

either : (b : Bool) (n : ℕ) → grammar.word_or_wide (cond b (Some n) None) ≡ cond b (Word n) Wide
either true n = refl
either false n = refl

value_with : (width : Width) (below above : ℕ) → below ≡ most_below width → above ≡ most_above width → (negative : Bool) (magnitude : Option ℕ)
    → grammar.word_or_wide (word_of_magnitude below above negative magnitude) ≡ value_of_parts width negative magnitude
value_with width below above e f negative None = refl
value_with width below above e f false (Some n) = ap (λ m. grammar.word_or_wide (cond (nat_le n m) (Some n) None)) f ∙ either (nat_le n (most_above width)) n
value_with width below above e f true (Some n) =
    ap (λ m. grammar.word_or_wide (cond (nat_le n m) (Some ((2 ^ 64 - n) % 2 ^ 64)) None)) e ∙ either (nat_le n (most_below width)) ((2 ^ 64 - n) % 2 ^ 64)

pub value_is : (width : Width) (n : Number) → grammar.word_of width n ≡ value width n
unfolding grammar.word_of word_within
value_is One n = value_with One _ _ refl refl n.negative n.magnitude
value_is Two n = value_with Two _ _ refl refl n.negative n.magnitude
value_is Four n = value_with Four _ _ refl refl n.negative n.magnitude
value_is Eight n = value_with Eight _ _ refl refl n.negative n.magnitude

-- ---- operands

-- the tokens before the given tokens
abbrev Front : List ℕ → (List Token → Type 0) → Type 0
Front text P = (front : List Token) × HasTokens text front × P front

value_found : (width : Width) (text : List ℕ) (v : Operand) (rest : List ℕ) → grammar.operand_from width (readers.number text) (readers.name text) ≡ Some (v, rest)
    → (ts : List Token) → HasTokens rest ts → Front text (λ front. IsValue width front v ts)
value_found width text v rest e ts h = by (readers.number text) (readers.name text) refl refl e
  where
    by : (n : Option (Number × List ℕ)) (w : Option (List ℕ × List ℕ)) → readers.number text ≡ n → readers.name text ≡ w → grammar.operand_from width n w ≡ Some (v, rest)
        → Front text (λ front. IsValue width front v ts)
    by (Some n) w s t e =
        let same = same_Some _ _ e in
        let v_is : value width n.0 ≡ v = sym (value_is width n.0) ∙ ap (λ (p : Operand × List ℕ). p.0) same in
        let next = subst (λ r. IsNext text (number n.0) r) (ap (λ (p : Operand × List ℕ). p.1) same) (number_found text n.0 n.1 s) in
        (number n.0 ∷ ts, (rest, next, h), subst (λ o. IsValue width (number n.0 ∷ ts) o ts) v_is (a_number n.0 ts))
    by None (Some w) s t e =
        let same = same_Some _ _ e in
        let next = subst (λ r. IsNext text (word w.0) r) (ap (λ (p : Operand × List ℕ). p.1) same) (word_found text w.0 w.1 t) in
        (word w.0 ∷ ts, (rest, next, h), subst (λ o. IsValue width (word w.0 ∷ ts) o ts) (ap (λ (p : Operand × List ℕ). p.0) same) (a_label w.0 ts))
    by None None s t e = absurd (none-some _ e)

pub operand_found : (width : Width) (text : List ℕ) (v : Operand) (rest : List ℕ) → grammar.operand width text ≡ Some (v, rest)
    → (ts : List Token) → HasTokens rest ts → Front text (λ front. IsOperand width front v ts)
unfolding grammar.operand readers.after_sign
operand_found width text v rest e ts h = by (readers.sign 36 text) refl e
  where
    by : (o : Option (List ℕ)) → readers.sign 36 text ≡ o → grammar.operand_from width (readers.number (unwrap_or o text)) (readers.name (unwrap_or o text)) ≡ Some (v, rest)
        → Front text (λ front. IsOperand width front v ts)
    by None s e = let f = value_found width text v rest e ts h in (f.0, f.1, bare f.0 v ts f.2)
    by (Some body) s e =
        let f = value_found width body v rest e ts h in
        (dollar ∷ f.0, (body, sign_found 36 text body refl s, f.1), with_dollar f.0 v ts f.2)

pub memory_found : (text : List ℕ) (m : Operand × ℕ) (rest : List ℕ) → grammar.memory text ≡ Some (m, rest)
    → (ts : List Token) → HasTokens rest ts → Front text (λ front. IsMemory front m.0 m.1 ts)
unfolding grammar.memory grammar.displacement
memory_found text m rest e ts h =
    let d = then_some (grammar.displacement text) _ (m, rest) e in
    let left = then_some (readers.sign 40 d.0.1) _ (m, rest) d.2 in
    let b = then_some (tables.register left.0) _ (m, rest) left.2 in
    let right = then_some (readers.sign 41 b.0.1) _ (m, rest) b.2 in
    let same : ((d.0.0, b.0.0), right.0) ≡ (m, rest) = same_Some _ _ right.2 in
    let last : HasTokens right.0 ts = subst (λ r. HasTokens r ts) (sym (ap (λ (p : (Operand × ℕ) × List ℕ). p.1) same)) h in
    let inside : HasTokens d.0.1 (left_paren ∷ register b.0.0 ∷ right_paren ∷ ts) =
    (left.0, sign_found 40 d.0.1 left.0 refl left.1, (b.0.1, register_found left.0 b.0.0 b.0.1 b.1, (right.0, sign_found 41 b.0.1 right.0 refl right.1, last))) in
    subst (λ (p : Operand × ℕ). Front text (λ front. IsMemory front p.0 p.1 ts)) (ap (λ (p : (Operand × ℕ) × List ℕ). p.0) same)
    (by (readers.next_is 40 text) d.0 b.0.0 inside d.1)
  where
    by : (b : Bool) (d : Operand × List ℕ) (base : ℕ) → HasTokens d.1 (left_paren ∷ register base ∷ right_paren ∷ ts) → cond b (Some (Word 0, text)) (grammar.operand Eight text) ≡ Some d
        → Front text (λ front. IsMemory front d.0 base ts)
    by true d base h e =
        let same = same_Some _ _ e in
        subst (λ (p : Operand × List ℕ). HasTokens p.1 (left_paren ∷ register base ∷ right_paren ∷ ts) → Front text (λ front. IsMemory front p.0 base ts)) same
        (λ h. (left_paren ∷ register base ∷ right_paren ∷ ts, h, no_displacement base ts)) h
    by false d base h e =
        let f = operand_found Eight text d.0 d.1 e (left_paren ∷ register base ∷ right_paren ∷ ts) h in
        (f.0, f.1, with_displacement f.0 d.0 base ts f.2)

-- ---- the table of mnemonics

-- the statements that a mnemonic of a shape may begin
abbrev Takes : Variant → List ℕ → Shape → ℕ → ℕ → Type 0
Takes v name shapes.Alone icode ifun = IsInstruction v name [] (instruction icode ifun 15 15 (Word 0))
Takes v name shapes.Registers icode ifun = (a b : ℕ) → IsInstruction v name (register a ∷ comma ∷ register b ∷ []) (instruction icode ifun a b (Word 0))
Takes v name shapes.Immediate icode ifun =
    (ts : List Token) (o : Operand) (b : ℕ) → IsOperand Eight ts o (comma ∷ register b ∷ []) → IsInstruction v name ts (instruction icode ifun 15 b o)
Takes v name shapes.Store icode ifun = (a : ℕ) (ts : List Token) (d : Operand) (b : ℕ) → IsMemory ts d b [] → IsInstruction v name (register a ∷ comma ∷ ts) (instruction icode ifun a b d)
Takes v name shapes.Load icode ifun =
    (ts : List Token) (d : Operand) (b a : ℕ) → IsMemory ts d b (comma ∷ register a ∷ []) → IsInstruction v name ts (instruction icode ifun a b d)
Takes v name shapes.Target icode ifun = (ts : List Token) (o : Operand) → IsOperand Eight ts o [] → IsInstruction v name ts (instruction icode ifun 15 15 o)
Takes v name shapes.Single icode ifun = (a : ℕ) → IsInstruction v name (register a ∷ []) (instruction icode ifun a 15 (Word 0))

abbrev AllTake : Variant → List (List ℕ × Operation) → Type 0
AllTake v [] = Unit {0}
AllTake v (row ∷ rows) = Takes v row.0 row.1.shape row.1.icode row.1.ifun × AllTake v rows

moves : (v : Variant) (name : List ℕ) (f : ℕ) → IsMove name f → Takes v name shapes.Registers 2 f
moves v name f m = λ a b. rows.move name f a b m

operations : (v : Variant) (name : List ℕ) (f : ℕ) → IsOperation name f → Takes v name shapes.Registers 6 f
operations v name f m = λ a b. rows.operation name f a b m

jumps : (v : Variant) (name : List ℕ) (f : ℕ) → IsJump name f → Takes v name shapes.Target 7 f
jumps v name f m = λ ts o h. rows.jump name f ts o m h

base_take : (v : Variant) (more : List (List ℕ × Operation)) → AllTake v more → AllTake v (base_mnemonics ++ more)
unfolding base_mnemonics
base_take v more h = (
  rows.halt,
  (
    rows.nop,
    (
      rows.ret,
      (
        moves v _ 0 rows.rrmovq,
        (
          moves v _ 1 rows.cmovle,
          (
            moves v _ 2 rows.cmovl,
            (
              moves v _ 3 rows.cmove,
              (
                moves v _ 4 rows.cmovne,
                (
                  moves v _ 5 rows.cmovge,
                  (
                    moves v _ 6 rows.cmovg,
                    (
                      (λ ts o b k. rows.irmovq ts o b k),
                      (
                        (λ a ts d b k. rows.rmmovq a ts d b k),
                        (
                          (λ ts d b a k. rows.mrmovq ts d b a k),
                          (
                            operations v _ 0 rows.addq,
                            (
                              operations v _ 1 rows.subq,
                              (
                                operations v _ 2 rows.andq,
                                (
                                  operations v _ 3 rows.xorq,
                                  (
                                    jumps v _ 0 rows.jmp,
                                    (
                                      jumps v _ 1 rows.jle,
                                      (
                                        jumps v _ 2 rows.jl,
                                        (
                                          jumps v _ 3 rows.je,
                                          (
                                            jumps v _ 4 rows.jne,
                                            (
                                              jumps v _ 5 rows.jge,
                                              (
                                                jumps v _ 6 rows.jg,
                                                ((λ ts o k. rows.call ts o k), ((λ a. rows.pushq a), ((λ a. rows.popq a), h))),
                                              ),
                                            ),
                                          ),
                                        ),
                                      ),
                                    ),
                                  ),
                                ),
                              ),
                            ),
                          ),
                        ),
                      ),
                    ),
                  ),
                ),
              ),
            ),
          ),
        ),
      ),
    ),
  ),
)

all_take : (v : Variant) → AllTake v (mnemonics v)
all_take Base = subst (AllTake Base) (append-nil base_mnemonics) (base_take Base [] tt)
all_take Full = base_take Full _ ((λ ts o b k. rows.iaddq refl ts o b k), tt)

row_takes : (v : Variant) (table : List (List ℕ × Operation)) (name : List ℕ) (op : Operation) → AllTake v table → meaning_of table name ≡ Some op → Takes v name op.shape op.icode op.ifun
unfolding meaning_of
row_takes v [] name op all e = absurd (none-some _ e)
row_takes v (row ∷ table) name op all e = by (bytes_eq name row.0) refl (row_takes v table name op all.1) e
  where
    by : (b : Bool) → bytes_eq name row.0 ≡ b → (meaning_of table name ≡ Some op → Takes v name op.shape op.icode op.ifun)
        → cond b (Some row.1) (meaning_of table name) ≡ Some op → Takes v name op.shape op.icode op.ifun
    by true s later e =
        let own : row.0 ≡ name = sym ((bytes_eq-Decides name row.0).0 s) in
        subst (λ (o : Operation). Takes v name o.shape o.icode o.ifun) (same_Some _ _ e) (subst (λ n. Takes v n row.1.shape row.1.icode row.1.ifun) own all.0)
    by false s later e = later e

mnemonic_takes : (v : Variant) (name : List ℕ) (op : Operation) → tables.mnemonic v name ≡ Some op → Takes v name op.shape op.icode op.ifun
unfolding tables.mnemonic
mnemonic_takes v name op e = row_takes v (mnemonics v) name op (all_take v) e

-- ---- statements

-- the last thing on a line
abbrev Last : List ℕ → Statement × List ℕ → (List Token → Statement → Type 0) → Type 0
Last text x P = IsEnd x.1 → Front text (λ front. P front x.0)

take_last : (text : List ℕ) (x y : Statement × List ℕ) (P : List Token → Statement → Type 0) → Some x ≡ Some y → Last text x P → Last text y P
take_last text x y P e h = subst (λ (z : Statement × List ℕ). Last text z P) (same_Some _ _ e) h

shape_found : (v : Variant) (name : List ℕ) (shape : Shape) (op : Operation) (text : List ℕ) (x : Statement × List ℕ) → Takes v name shape op.icode op.ifun
    → grammar.operands_as shape op text ≡ Some x → Last text x (IsInstruction v name)
unfolding grammar.two_registers grammar.immediate grammar.store grammar.load grammar.target grammar.single
shape_found v name shapes.Alone op text x t e = take_last text _ x (IsInstruction v name) e (λ end. ([], end, t))
shape_found v name shapes.Registers op text x t e =
    let a = then_some (tables.register text) _ x e in
    let c = then_some (readers.sign 44 a.0.1) _ x a.2 in
    let b = then_some (tables.register c.0) _ x c.2 in
    take_last text _ x (IsInstruction v name) b.2 (λ end. (
      register a.0.0 ∷ comma ∷ register b.0.0 ∷ [],
      (a.0.1, register_found text a.0.0 a.0.1 a.1, (c.0, sign_found 44 a.0.1 c.0 refl c.1, (b.0.1, register_found c.0 b.0.0 b.0.1 b.1, end))),
      t a.0.0 b.0.0,
    ))
shape_found v name shapes.Immediate op text x t e =
    let o = then_some (grammar.operand Eight text) _ x e in
    let c = then_some (readers.sign 44 o.0.1) _ x o.2 in
    let b = then_some (tables.register c.0) _ x c.2 in
    take_last text _ x (IsInstruction v name) b.2 (λ end.
    let f = operand_found Eight text o.0.0 o.0.1 o.1 (comma ∷ register b.0.0 ∷ []) (c.0, sign_found 44 o.0.1 c.0 refl c.1, (b.0.1, register_found c.0 b.0.0 b.0.1 b.1, end)) in
    (f.0, f.1, t f.0 o.0.0 b.0.0 f.2))
shape_found v name shapes.Store op text x t e =
    let a = then_some (tables.register text) _ x e in
    let c = then_some (readers.sign 44 a.0.1) _ x a.2 in
    let m = then_some (grammar.memory c.0) _ x c.2 in
    take_last text _ x (IsInstruction v name) m.2 (λ end.
    let f = memory_found c.0 m.0.0 m.0.1 m.1 [] end in
    (register a.0.0 ∷ comma ∷ f.0, (a.0.1, register_found text a.0.0 a.0.1 a.1, (c.0, sign_found 44 a.0.1 c.0 refl c.1, f.1)), t a.0.0 f.0 m.0.0.0 m.0.0.1 f.2))
shape_found v name shapes.Load op text x t e =
    let m = then_some (grammar.memory text) _ x e in
    let c = then_some (readers.sign 44 m.0.1) _ x m.2 in
    let a = then_some (tables.register c.0) _ x c.2 in
    take_last text _ x (IsInstruction v name) a.2 (λ end.
    let f = memory_found text m.0.0 m.0.1 m.1 (comma ∷ register a.0.0 ∷ []) (c.0, sign_found 44 m.0.1 c.0 refl c.1, (a.0.1, register_found c.0 a.0.0 a.0.1 a.1, end)) in
    (f.0, f.1, t f.0 m.0.0.0 m.0.0.1 a.0.0 f.2))
shape_found v name shapes.Target op text x t e =
    let o = then_some (grammar.operand Eight text) _ x e in
    take_last text _ x (IsInstruction v name) o.2 (λ end.
    let f = operand_found Eight text o.0.0 o.0.1 o.1 [] end in (f.0, f.1, t f.0 o.0.0 f.2))
shape_found v name shapes.Single op text x t e =
    let a = then_some (tables.register text) _ x e in
    take_last text _ x (IsInstruction v name) a.2 (λ end. (register a.0.0 ∷ [], (a.0.1, register_found text a.0.0 a.0.1 a.1, end), t a.0.0))

natural_is : (n : Number) → (n.negative && not (grammar.is_zero n.magnitude)) ≡ false → IsNatural n n.magnitude
natural_is n e = by n.negative n.magnitude refl refl e
  where
    parts : (negative : Bool) (magnitude : Option ℕ) → n.negative ≡ negative → n.magnitude ≡ magnitude → IsNatural (record { negative = negative; magnitude = magnitude }) magnitude → IsNatural n n.magnitude
    parts negative magnitude p q h =
        let whole : record { negative = negative; magnitude = magnitude } ≡ n = λ i. record { negative = sym p i; magnitude = sym q i } in
        subst (λ (x : Number). IsNatural x x.magnitude) whole h

    zeros : (k : ℕ) (b : Bool) → (k == 0) ≡ b → not b ≡ false → IsNatural (record { negative = true; magnitude = Some k }) (Some k)
    zeros k true z e = subst (λ m. IsNatural (record { negative = true; magnitude = Some m }) (Some m)) (sym (eqb-true k 0 z)) minus_zero
    zeros k false z e = absurd (false≢true (sym e))

    by : (negative : Bool) (magnitude : Option ℕ) → n.negative ≡ negative → n.magnitude ≡ magnitude → (negative && not (grammar.is_zero magnitude)) ≡ false → IsNatural n n.magnitude
    by false m p q e = parts false m p q (positive m)
    by true None p q e = absurd (false≢true (sym e))
    by true (Some k) p q e = parts true (Some k) p q (zeros k (k == 0) refl e)

natural_found : (text : List ℕ) (m : Option ℕ) (rest : List ℕ) → grammar.natural text ≡ Some (m, rest) → (n : Number) × IsNext text (number n) rest × IsNatural n m
unfolding grammar.natural
natural_found text m rest e =
    let n = then_some (readers.number text) _ (m, rest) e in
    by n.0 (n.0.0.negative && not (grammar.is_zero n.0.0.magnitude)) refl n.1 n.2
  where
    by : (n : Number × List ℕ) (b : Bool) → (n.0.negative && not (grammar.is_zero n.0.magnitude)) ≡ b → readers.number text ≡ Some n → cond {A = Option (Option ℕ × List ℕ)} b None (Some (n.0.magnitude, n.1)) ≡ Some (m, rest)
        → (n : Number) × IsNext text (number n) rest × IsNatural n m
    by n true p s e = absurd (none-some _ e)
    by n false p s e =
        let same = same_Some _ _ e in (
          n.0,
          subst (λ r. IsNext text (number n.0) r) (ap (λ (q : Option ℕ × List ℕ). q.1) same) (number_found text n.0 n.1 s),
          subst (IsNatural n.0) (ap (λ (q : Option ℕ × List ℕ). q.0) same) (natural_is n.0 p),
        )

positive_is : (k : ℕ) → (k == 0) ≡ false → 0 < k
positive_is k e = grind (arith, nat_tests)

directive_rest : (d : Directive) (text : List ℕ) (x : Statement × List ℕ) → grammar.directive_operand d text ≡ Some x → Last text x (IsDirective d)
unfolding grammar.directive_operand grammar.position_operand grammar.align_operand grammar.data_operand
directive_rest directives.Position text x e =
    let n = then_some (grammar.natural text) _ x e in
    take_last text _ x (IsDirective directives.Position) n.2 (λ end.
    let f = natural_found text n.0.0 n.0.1 n.1 in (number f.0 ∷ [], (n.0.1, f.1, end), by f.0 n.0.0 f.2))
  where
    by : (n : Number) (m : Option ℕ) → IsNatural n m → IsDirective directives.Position (number n ∷ []) (grammar.position_at m)
    by n None h = rows.wide_pos n h
    by n (Some k) h = rows.pos n k h
directive_rest directives.Align text x e =
    let n = then_some (grammar.natural text) _ x e in
    by n.0 (natural_found text n.0.0 n.0.1 n.1) (grammar.is_zero n.0.0) refl n.2
  where
    row : (n : Number) (m : Option ℕ) → grammar.is_zero m ≡ false → IsNatural n m → IsDirective directives.Align (number n ∷ []) (grammar.align_at m)
    row n None z h = rows.wide_align n h
    row n (Some k) z h = rows.align n k h (positive_is k z)

    by : (n : Option ℕ × List ℕ) → (f : (m : Number) × IsNext text (number m) n.1 × IsNatural m n.0) → (b : Bool) → grammar.is_zero n.0 ≡ b
        → cond b None (Some (grammar.align_at n.0, n.1)) ≡ Some x → Last text x (IsDirective directives.Align)
    by n f true z e = absurd (none-some _ e)
    by n f false z e = take_last text _ x (IsDirective directives.Align) e (λ end. (number f.0 ∷ [], (n.1, f.1, end), row f.0 n.0 z f.2))
directive_rest (directives.Data width) text x e =
    let o = then_some (grammar.operand width text) _ x e in
    take_last text _ x (IsDirective (directives.Data width)) o.2 (λ end.
    let f = operand_found width text o.0.0 o.0.1 o.1 [] end in (f.0, f.1, rows.data_of width f.0 o.0.0 f.2))

pub statement_found : (v : Variant) (text : List ℕ) (x : Statement × List ℕ) → grammar.statement v text ≡ Some x → Last text x (IsStatement v)
unfolding grammar.statement grammar.instruction_text grammar.operands_of
statement_found v text x e = by (tables.directive text) refl e
  where
    by : (d : Option (Directive × List ℕ)) → tables.directive text ≡ d → grammar.statement_from v text d ≡ Some x → Last text x (IsStatement v)
    by (Some d) s e = λ end.
        let f = directive_rest d.0 d.1 x e end in
        (directive d.0 ∷ f.0, (d.1, directive_found text d.0 d.1 s, f.1), directive_first d.0 f.0 x.0 f.2)
    by None s e = λ end.
        let w = then_some (readers.name text) _ x e in
        let op = then_some (tables.mnemonic v w.0.0) _ x w.2 in
        let f = shape_found v w.0.0 op.0.shape op.0 w.0.1 x (mnemonic_takes v w.0.0 op.0 op.1) op.2 end in
        (word w.0.0 ∷ f.0, (w.0.1, word_found text w.0.0 w.0.1 w.1, f.1), mnemonic_first w.0.0 f.0 x.0 f.2)
