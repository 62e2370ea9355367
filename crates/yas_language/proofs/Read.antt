-- The assembler reads what is in the language.
use Rattle.std.proofs.Common.{◌≡◌, ap, sym, subst, ◌∙◌, ℕ, ◌<◌, Bool, true, false, cond, List, [], ◌∷◌, Option, Some, None, refl, arith}
use Rattle.std.specs.Prelude.{◌&&◌, ◌||◌, ◌==◌, codes, unwrap_or}
use Rattle.std.proofs.lemmas.Bool.{false≢true, and_right, eqb-true}
use Rattle.std.proofs.lemmas.Bool.Decides.{nat_tests}
use Rattle.std.proofs.lemmas.List.{append-nil}
use Rattle.y86_base.proofs.Runs.{behind-run}
use Rattle.y86_base.specs.declared.number.Number.{Number}
use Rattle.y86_base.specs.declared.parts.Variant.{Variant}
use Rattle.y86_base.specs.declared.parts.Variant.TheVariants.{Base, Full}
use Rattle.y86_base.specs.Keyword.{meaning_of}
use Rattle.y86_base.specs.Text.{begins, behind, is_blank, is_decimal}
use Rattle.yas_asm.specs.declared.statement.Width.{Width}
use Rattle.yas_asm.specs.declared.statement.Width.TheVariants.{Eight}
use Rattle.yas_asm.specs.declared.statement.Shape.{Shape}
use Rattle.yas_asm.specs.declared.statement.Shape.TheVariants as shapes
use Rattle.yas_asm.specs.declared.statement.Operation.{Operation}
use Rattle.yas_asm.specs.declared.statement.Directive.{Directive}
use Rattle.yas_asm.specs.declared.statement.Operand.{Operand}
use Rattle.yas_asm.specs.declared.statement.Operand.TheVariants.{Word}
use Rattle.yas_asm.specs.declared.statement.Statement.{Statement}
use Rattle.yas_asm.specs.Comments.{ends}
use Rattle.yas_asm.specs.Spacing.{is_sign}
use Rattle.yas_asm.specs.Grammar as grammar
use Rattle.yas_asm.specs.Grammar.{◌>>=◌}
use Rattle.yas_asm.specs.Tables.{base_mnemonics, mnemonics}
use Rattle.yas_asm.specs.Tables as tables
use Rattle.yas_asm.specs.Tokens as readers
use Rattle.yas_asm.specs.Tokens.{is_name_start}
use Rattle.yas_language.specs.Tokens.{Token, word, number, register, directive, sign, dollar, comma, colon, left_paren, HasTokens, IsComment, hash, slashes, closed, IsEnd, plain, commented, IsNext}
use Rattle.yas_language.specs.Statements.{value, instruction, IsValue, a_number, a_label, IsOperand, bare, with_dollar, IsMemory, no_displacement, with_displacement, IsMove, IsOperation, IsJump, IsNatural, positive, minus_zero, IsInstruction, IsDirective, IsStatement, mnemonic_first, directive_first}
use Rattle.yas_language.specs.Statements as rows
use Rattle.yas_language.proofs.Comments.{end_found, no_blank}
use Rattle.yas_language.proofs.Found.{value_is}
use Rattle.yas_language.proofs.Readers.{starts, directive_read, excluded, next_start, next_token, no_directive, no_number, no_sign, no_word, number_read, register_read, sign_read, word_read}

then_is : {A B : Type 0} (o : Option A) (f : A → Option B) (x : A) (y : Option B) → o ≡ Some x → f x ≡ y → (o >>= f) ≡ y
then_is o f x y e h = ap (λ p. p >>= f) e ∙ h

-- ---- the end of a line

behind_end : (text : List ℕ) → IsEnd text → (test : ℕ → Bool) → test 35 ≡ false → test 47 ≡ false → begins test (behind is_blank text) ≡ false
behind_end text end test h s = by end
  where
    comment_starts : (comment rest : List ℕ) → IsComment comment rest → begins test comment ≡ false
    comment_starts _ _ (hash t) = h
    comment_starts _ _ (slashes t) = s
    comment_starts _ _ (closed inside rest none) = s

    by : IsEnd text → begins test (behind is_blank text) ≡ false
    by (plain blank) = ap (λ t. begins test (behind is_blank t)) (sym (append-nil text)) ∙ ap (begins test) (behind-run is_blank text [] blank refl)
    by (commented blanks comment rest whole blank is rest_blank) =
        ap (λ t. begins test (behind is_blank t)) whole ∙ ap (begins test) (behind-run is_blank blanks comment blank (no_blank comment rest is)) ∙ comment_starts comment rest is

no_comment_start : (token : Token) → (starts token 35 ≡ false) × (starts token 47 ≡ false)
no_comment_start (word name) = (refl, refl)
no_comment_start (number n) = (refl, refl)
no_comment_start (register r) = (refl, refl)
no_comment_start (directive d) = (refl, refl)
no_comment_start (sign s) = (and_right (35 == s) false refl, and_right (47 == s) false refl)

pub next_not_end : (text : List ℕ) (token : Token) (rest : List ℕ) → IsNext text token rest → ends text ≡ false
next_not_end text token rest n = by (ends text) refl
  where
    by : (b : Bool) → ends text ≡ b → b ≡ false
    by true e =
        let two = no_comment_start token in
        absurd (false≢true (sym (behind_end text (end_found text e) (starts token) two.0 two.1) ∙ next_start text token rest n))
    by false e = refl

-- ---- what is not in front of tokens

-- a test that fails for `$` and for each first byte of a word or number
record IsOther (test : ℕ → Bool) : Type 0 where
  word : (byte : ℕ) → is_name_start byte ≡ true → test byte ≡ false
  number : (byte : ℕ) → (is_decimal byte || byte == 45) ≡ true → test byte ≡ false
  dollar : test 36 ≡ false

sign_byte : (s : ℕ) (test : ℕ → Bool) → test s ≡ false → (byte : ℕ) → ((byte == s) && is_sign byte) ≡ true → test byte ≡ false
sign_byte s test t byte e = by (byte == s) refl e
  where
    by : (b : Bool) → (byte == s) ≡ b → (b && is_sign byte) ≡ true → test byte ≡ false
    by true p e = ap test (eqb-true byte s p) ∙ t
    by false p e = absurd (false≢true e)

value_first : (test : ℕ → Bool) → IsOther test → (width : Width) (ts : List Token) (v : Operand) (rest : List Token) → IsValue width ts v rest → (text : List ℕ) → HasTokens text ts
    → begins test (behind is_blank text) ≡ false
value_first test o width _ _ _ (a_number n rest) text h = excluded test (number n) o.number text h.0 h.1
value_first test o width _ _ _ (a_label name rest) text h = excluded test (word name) o.word text h.0 h.1

operand_first : (test : ℕ → Bool) → IsOther test → (width : Width) (ts : List Token) (v : Operand) (rest : List Token) → IsOperand width ts v rest → (text : List ℕ) → HasTokens text ts
    → begins test (behind is_blank text) ≡ false
operand_first test o width _ _ _ (bare ts v rest i) text h = value_first test o width ts v rest i text h
operand_first test o width _ _ _ (with_dollar ts v rest i) text h = excluded test dollar (sign_byte 36 test o.dollar) text h.0 h.1

not_colon : IsOther (λ b. b == 58)
not_colon = record { word = λ byte e. word_not byte e; number = λ byte e. number_not byte e; dollar = refl }
  where
    word_not : (byte : ℕ) → is_name_start byte ≡ true → (byte == 58) ≡ false
    word_not byte e = grind (arith, nat_tests)

    number_not : (byte : ℕ) → (is_decimal byte || byte == 45) ≡ true → (byte == 58) ≡ false
    number_not byte e = grind (arith, nat_tests)

not_paren : IsOther (λ b. b == 40)
not_paren = record { word = λ byte e. word_not byte e; number = λ byte e. number_not byte e; dollar = refl }
  where
    word_not : (byte : ℕ) → is_name_start byte ≡ true → (byte == 40) ≡ false
    word_not byte e = grind (arith, nat_tests)

    number_not : (byte : ℕ) → (is_decimal byte || byte == 45) ≡ true → (byte == 40) ≡ false
    number_not byte e = grind (arith, nat_tests)

word_no_dollar : (byte : ℕ) → is_name_start byte ≡ true → (byte == 36) ≡ false
word_no_dollar byte e = grind (arith, nat_tests)

number_no_dollar : (byte : ℕ) → (is_decimal byte || byte == 45) ≡ true → (byte == 36) ≡ false
number_no_dollar byte e = grind (arith, nat_tests)

word_no_number : (byte : ℕ) → is_name_start byte ≡ true → (is_decimal byte || byte == 45) ≡ false
word_no_number byte e = grind (arith, nat_tests)

word_no_dot : (byte : ℕ) → is_name_start byte ≡ true → (byte == 46) ≡ false
word_no_dot byte e = grind (arith, nat_tests)

dot_no_word : (byte : ℕ) → (byte == 46) ≡ true → is_name_start byte ≡ false
dot_no_word byte e = grind (arith, nat_tests)

register_no_colon : (byte : ℕ) → (byte == 37) ≡ true → (byte == 58) ≡ false
register_no_colon byte e = grind (arith, nat_tests)

-- ---- operands

-- a reading gives this result, and leaves these tokens
abbrev Gives : {A : Type 0} → Option (A × List ℕ) → A → List Token → Type 0
Gives o x ts = (rest : List ℕ) × (o ≡ Some (x, rest)) × HasTokens rest ts

value_read : (width : Width) (ts : List Token) (v : Operand) (rest : List Token) → IsValue width ts v rest → (text : List ℕ) → HasTokens text ts
    → Gives (grammar.operand_from width (readers.number text) (readers.name text)) v rest
value_read width _ _ _ (a_number n rest) text h =
    (h.0, ap (λ o. grammar.operand_from width o (readers.name text)) (number_read text n h.0 h.1) ∙ ap (λ (o : Operand). Some (o, h.0)) (value_is width n), h.2)
value_read width _ _ _ (a_label name rest) text h = (
  h.0,
  ap (λ o. grammar.operand_from width o (readers.name text)) (no_number text (excluded (λ b. is_decimal b || b == 45) (word name) word_no_number text h.0 h.1))
      ∙ ap (grammar.operand_from width None) (word_read text name h.0 h.1),
  h.2,
)

value_no_dollar : (width : Width) (ts : List Token) (v : Operand) (rest : List Token) → IsValue width ts v rest → (text : List ℕ) → HasTokens text ts → readers.sign 36 text ≡ None
value_no_dollar width _ _ _ (a_number n rest) text h = no_sign 36 text (excluded (λ b. b == 36) (number n) number_no_dollar text h.0 h.1)
value_no_dollar width _ _ _ (a_label name rest) text h = no_sign 36 text (excluded (λ b. b == 36) (word name) word_no_dollar text h.0 h.1)

operand_read : (width : Width) (ts : List Token) (v : Operand) (rest : List Token) → IsOperand width ts v rest → (text : List ℕ) → HasTokens text ts → Gives (grammar.operand width text) v rest
unfolding grammar.operand readers.after_sign
operand_read width _ _ _ (bare ts v rest i) text h =
    let r = value_read width ts v rest i text h in
    (r.0, ap (λ o. grammar.operand_from width (readers.number (unwrap_or o text)) (readers.name (unwrap_or o text))) (value_no_dollar width ts v rest i text h) ∙ r.1, r.2)
operand_read width _ _ _ (with_dollar ts v rest i) text h =
    let r = value_read width ts v rest i h.0 h.2 in
    (r.0, ap (λ o. grammar.operand_from width (readers.number (unwrap_or o text)) (readers.name (unwrap_or o text))) (sign_read 36 text h.0 h.1) ∙ r.1, r.2)

memory_read : (ts : List Token) (d : Operand) (b : ℕ) (rest : List Token) → IsMemory ts d b rest → (text : List ℕ) → HasTokens text ts → Gives (grammar.memory text) (d, b) rest
unfolding grammar.memory grammar.displacement readers.next_is
memory_read _ _ _ _ (no_displacement b rest) text h =
    let there : begins (λ x. x == 40) (behind is_blank text) ≡ true = ap (begins (λ x. x == 40)) (next_token text left_paren h.0 h.1).1 in (
      h.2.2.0,
      then_is _ _ (Word 0, text) _ (ap (λ c. cond c (Some (Word 0, text)) (grammar.operand Eight text)) there)
          (then_is _ _ h.0 _ (sign_read 40 text h.0 h.1) (then_is _ _ (b, h.2.0) _ (register_read h.0 b h.2.0 h.2.1) (then_is _ _ h.2.2.0 _ (sign_read 41 h.2.0 h.2.2.0 h.2.2.1) refl))),
      h.2.2.2,
    )
memory_read _ _ _ _ (with_displacement ts d b rest i) text h =
    let none : begins (λ x. x == 40) (behind is_blank text) ≡ false = operand_first (λ x. x == 40) not_paren Eight ts d _ i text h in
    let r = operand_read Eight ts d _ i text h in
    let k = r.2 in (
      k.2.2.0,
      then_is _ _ (d, r.0) _ (ap (λ c. cond c (Some (Word 0, text)) (grammar.operand Eight text)) none ∙ r.1)
          (then_is _ _ k.0 _ (sign_read 40 r.0 k.0 k.1) (then_is _ _ (b, k.2.0) _ (register_read k.0 b k.2.0 k.2.1) (then_is _ _ k.2.2.0 _ (sign_read 41 k.2.0 k.2.2.0 k.2.2.1) refl))),
      k.2.2.2,
    )

-- ---- instructions

abbrev op : Shape → ℕ → ℕ → Operation
op shape icode ifun = record { shape = shape; icode = icode; ifun = ifun }

both : (P : Variant → Type 0) → P Base → P Full → (v : Variant) → P v
both P b f Base = b
both P b f Full = f

-- a mnemonic means this in both instruction sets
abbrev Means : List ℕ → Operation → Variant → Type 0
Means name o v = tables.mnemonic v name ≡ Some o

-- the text after a mnemonic is read as a statement
abbrev Reads : Variant → List ℕ → List ℕ → Statement → Type 0
Reads v name text s = (o : Operation) × Means name o v × Gives (grammar.operands_of o text) s []

two_read : (v : Variant) (name : List ℕ) (icode ifun a b : ℕ) → Means name (op shapes.Registers icode ifun) v → (text : List ℕ) → HasTokens text (register a ∷ comma ∷ register b ∷ [])
    → Reads v name text (instruction icode ifun a b (Word 0))
unfolding grammar.operands_of grammar.two_registers
two_read v name icode ifun a b m text h = (
  op shapes.Registers icode ifun,
  m,
  (
    h.2.2.0,
    then_is _ _ (a, h.0) _ (register_read text a h.0 h.1) (then_is _ _ h.2.0 _ (sign_read 44 h.0 h.2.0 h.2.1) (then_is _ _ (b, h.2.2.0) _ (register_read h.2.0 b h.2.2.0 h.2.2.1) refl)),
    h.2.2.2,
  ),
)

immediate_read : (v : Variant) (name : List ℕ) (icode ifun : ℕ) (ts : List Token) (o : Operand) (b : ℕ) → Means name (op shapes.Immediate icode ifun) v
    → IsOperand Eight ts o (comma ∷ register b ∷ []) → (text : List ℕ) → HasTokens text ts → Reads v name text (instruction icode ifun 15 b o)
unfolding grammar.operands_of grammar.immediate
immediate_read v name icode ifun ts o b m i text h =
    let r = operand_read Eight ts o _ i text h in
    let k = r.2 in
    (op shapes.Immediate icode ifun, m, (k.2.0, then_is _ _ (o, r.0) _ r.1 (then_is _ _ k.0 _ (sign_read 44 r.0 k.0 k.1) (then_is _ _ (b, k.2.0) _ (register_read k.0 b k.2.0 k.2.1) refl)), k.2.2))

target_read : (v : Variant) (name : List ℕ) (icode ifun : ℕ) (ts : List Token) (o : Operand) → Means name (op shapes.Target icode ifun) v
    → IsOperand Eight ts o [] → (text : List ℕ) → HasTokens text ts → Reads v name text (instruction icode ifun 15 15 o)
unfolding grammar.operands_of grammar.target
target_read v name icode ifun ts o m i text h =
    let r = operand_read Eight ts o _ i text h in
    (op shapes.Target icode ifun, m, (r.0, then_is _ _ (o, r.0) _ r.1 refl, r.2))

single_read : (v : Variant) (name : List ℕ) (icode ifun a : ℕ) → Means name (op shapes.Single icode ifun) v → (text : List ℕ) → HasTokens text (register a ∷ [])
    → Reads v name text (instruction icode ifun a 15 (Word 0))
unfolding grammar.operands_of grammar.single
single_read v name icode ifun a m text h =
    (op shapes.Single icode ifun, m, (h.0, then_is _ _ (a, h.0) _ (register_read text a h.0 h.1) refl, h.2))

alone_read : (v : Variant) (name : List ℕ) (icode ifun : ℕ) → Means name (op shapes.Alone icode ifun) v → (text : List ℕ) → IsEnd text → Reads v name text (instruction icode ifun 15 15 (Word 0))
unfolding grammar.operands_of
alone_read v name icode ifun m text h = (op shapes.Alone icode ifun, m, (text, refl, h))

store_read : (v : Variant) (name : List ℕ) (icode ifun a : ℕ) (ts : List Token) (d : Operand) (b : ℕ) → Means name (op shapes.Store icode ifun) v → IsMemory ts d b []
    → (text : List ℕ) → HasTokens text (register a ∷ comma ∷ ts) → Reads v name text (instruction icode ifun a b d)
unfolding grammar.operands_of grammar.store
store_read v name icode ifun a ts d b m i text h =
    let r = memory_read ts d b [] i h.2.0 h.2.2 in
    (op shapes.Store icode ifun, m, (r.0, then_is _ _ (a, h.0) _ (register_read text a h.0 h.1) (then_is _ _ h.2.0 _ (sign_read 44 h.0 h.2.0 h.2.1) (then_is _ _ ((d, b), r.0) _ r.1 refl)), r.2))

load_read : (v : Variant) (name : List ℕ) (icode ifun : ℕ) (ts : List Token) (d : Operand) (b a : ℕ) → Means name (op shapes.Load icode ifun) v → IsMemory ts d b (comma ∷ register a ∷ [])
    → (text : List ℕ) → HasTokens text ts → Reads v name text (instruction icode ifun a b d)
unfolding grammar.operands_of grammar.load
load_read v name icode ifun ts d b a m i text h =
    let r = memory_read ts d b _ i text h in
    let k = r.2 in
    (op shapes.Load icode ifun, m, (k.2.0, then_is _ _ ((d, b), r.0) _ r.1 (then_is _ _ k.0 _ (sign_read 44 r.0 k.0 k.1) (then_is _ _ (a, k.2.0) _ (register_read k.0 a k.2.0 k.2.1) refl)), k.2.2))

move_means : (v : Variant) (name : List ℕ) (f : ℕ) → IsMove name f → Means name (op shapes.Registers 2 f) v
unfolding tables.mnemonic base_mnemonics meaning_of
move_means v _ _ rows.rrmovq = both (Means (codes "rrmovq") (op shapes.Registers 2 0)) refl refl v
move_means v _ _ rows.cmovle = both (Means (codes "cmovle") (op shapes.Registers 2 1)) refl refl v
move_means v _ _ rows.cmovl = both (Means (codes "cmovl") (op shapes.Registers 2 2)) refl refl v
move_means v _ _ rows.cmove = both (Means (codes "cmove") (op shapes.Registers 2 3)) refl refl v
move_means v _ _ rows.cmovne = both (Means (codes "cmovne") (op shapes.Registers 2 4)) refl refl v
move_means v _ _ rows.cmovge = both (Means (codes "cmovge") (op shapes.Registers 2 5)) refl refl v
move_means v _ _ rows.cmovg = both (Means (codes "cmovg") (op shapes.Registers 2 6)) refl refl v

operation_means : (v : Variant) (name : List ℕ) (f : ℕ) → IsOperation name f → Means name (op shapes.Registers 6 f) v
unfolding tables.mnemonic base_mnemonics meaning_of
operation_means v _ _ rows.addq = both (Means (codes "addq") (op shapes.Registers 6 0)) refl refl v
operation_means v _ _ rows.subq = both (Means (codes "subq") (op shapes.Registers 6 1)) refl refl v
operation_means v _ _ rows.andq = both (Means (codes "andq") (op shapes.Registers 6 2)) refl refl v
operation_means v _ _ rows.xorq = both (Means (codes "xorq") (op shapes.Registers 6 3)) refl refl v

jump_means : (v : Variant) (name : List ℕ) (f : ℕ) → IsJump name f → Means name (op shapes.Target 7 f) v
unfolding tables.mnemonic base_mnemonics meaning_of
jump_means v _ _ rows.jmp = both (Means (codes "jmp") (op shapes.Target 7 0)) refl refl v
jump_means v _ _ rows.jle = both (Means (codes "jle") (op shapes.Target 7 1)) refl refl v
jump_means v _ _ rows.jl = both (Means (codes "jl") (op shapes.Target 7 2)) refl refl v
jump_means v _ _ rows.je = both (Means (codes "je") (op shapes.Target 7 3)) refl refl v
jump_means v _ _ rows.jne = both (Means (codes "jne") (op shapes.Target 7 4)) refl refl v
jump_means v _ _ rows.jge = both (Means (codes "jge") (op shapes.Target 7 5)) refl refl v
jump_means v _ _ rows.jg = both (Means (codes "jg") (op shapes.Target 7 6)) refl refl v

instruction_read : (v : Variant) (name : List ℕ) (ts : List Token) (s : Statement) → IsInstruction v name ts s → (text : List ℕ) → HasTokens text ts → Reads v name text s
unfolding tables.mnemonic base_mnemonics meaning_of
instruction_read v _ _ _ rows.halt text h = alone_read v (codes "halt") 0 0 (both (Means (codes "halt") (op shapes.Alone 0 0)) refl refl v) text h
instruction_read v _ _ _ rows.nop text h = alone_read v (codes "nop") 1 0 (both (Means (codes "nop") (op shapes.Alone 1 0)) refl refl v) text h
instruction_read v _ _ _ rows.ret text h = alone_read v (codes "ret") 9 0 (both (Means (codes "ret") (op shapes.Alone 9 0)) refl refl v) text h
instruction_read v _ _ _ (rows.move name f a b m) text h = two_read v name 2 f a b (move_means v name f m) text h
instruction_read v _ _ _ (rows.irmovq ts o b i) text h = immediate_read v (codes "irmovq") 3 0 ts o b (both (Means (codes "irmovq") (op shapes.Immediate 3 0)) refl refl v) i text h
instruction_read v _ _ _ (rows.rmmovq a ts d b i) text h = store_read v (codes "rmmovq") 4 0 a ts d b (both (Means (codes "rmmovq") (op shapes.Store 4 0)) refl refl v) i text h
instruction_read v _ _ _ (rows.mrmovq ts d b a i) text h = load_read v (codes "mrmovq") 5 0 ts d b a (both (Means (codes "mrmovq") (op shapes.Load 5 0)) refl refl v) i text h
instruction_read v _ _ _ (rows.operation name f a b m) text h = two_read v name 6 f a b (operation_means v name f m) text h
instruction_read v _ _ _ (rows.jump name f ts o m i) text h = target_read v name 7 f ts o (jump_means v name f m) i text h
instruction_read v _ _ _ (rows.call ts o i) text h = target_read v (codes "call") 8 0 ts o (both (Means (codes "call") (op shapes.Target 8 0)) refl refl v) i text h
instruction_read v _ _ _ (rows.pushq a) text h = single_read v (codes "pushq") 10 0 a (both (Means (codes "pushq") (op shapes.Single 10 0)) refl refl v) text h
instruction_read v _ _ _ (rows.popq a) text h = single_read v (codes "popq") 11 0 a (both (Means (codes "popq") (op shapes.Single 11 0)) refl refl v) text h
instruction_read v _ _ _ (rows.iaddq full ts o b i) text h =
    immediate_read v (codes "iaddq") 12 0 ts o b (subst (Means (codes "iaddq") (op shapes.Immediate 12 0)) (sym full) refl) i text h

-- ---- directives

natural_read : (n : Number) (m : Option ℕ) → IsNatural n m → (text rest : List ℕ) → IsNext text (number n) rest → grammar.natural text ≡ Some (m, rest)
unfolding grammar.natural
natural_read _ _ (positive m) text rest h = then_is _ _ (_, rest) _ (number_read text _ rest h) refl
natural_read _ _ minus_zero text rest h = then_is _ _ (_, rest) _ (number_read text _ rest h) refl

not_zero : (k : ℕ) → 0 < k → (k == 0) ≡ false
not_zero k h = grind (arith, nat_tests)

directive_rest : (d : Directive) (ts : List Token) (s : Statement) → IsDirective d ts s → (text : List ℕ) → HasTokens text ts → Gives (grammar.directive_operand d text) s []
unfolding grammar.directive_operand grammar.position_operand grammar.align_operand grammar.data_operand
directive_rest _ _ _ (rows.pos n k i) text h = (h.0, then_is _ _ (Some k, h.0) _ (natural_read n (Some k) i text h.0 h.1) refl, h.2)
directive_rest _ _ _ (rows.wide_pos n i) text h = (h.0, then_is _ _ (None, h.0) _ (natural_read n None i text h.0 h.1) refl, h.2)
directive_rest _ _ _ (rows.align n k i lt) text h =
    (h.0, then_is _ _ (Some k, h.0) _ (natural_read n (Some k) i text h.0 h.1) (ap (λ c. cond c None (Some (grammar.align_at (Some k), h.0))) (not_zero k lt)), h.2)
directive_rest _ _ _ (rows.wide_align n i) text h = (h.0, then_is _ _ (None, h.0) _ (natural_read n None i text h.0 h.1) refl, h.2)
directive_rest _ _ _ (rows.data_of width ts o i) text h = let r = operand_read width ts o [] i text h in (r.0, then_is _ _ (o, r.0) _ r.1 refl, r.2)

-- ---- statements

pub statement_read : (v : Variant) (ts : List Token) (s : Statement) → IsStatement v ts s → (text : List ℕ) → HasTokens text ts
    → (rest : List ℕ) × (grammar.statement v text ≡ Some (s, rest)) × IsEnd rest
unfolding grammar.statement grammar.instruction_text
statement_read v _ _ (mnemonic_first name ts s i) text h =
    let r = instruction_read v name ts s i h.0 h.2 in (
      r.2.0,
      ap (grammar.statement_from v text) (no_directive text (excluded (λ b. b == 46) (word name) word_no_dot text h.0 h.1))
          ∙ then_is _ _ (name, h.0) _ (word_read text name h.0 h.1) (then_is _ _ r.0 _ r.1 r.2.1),
      r.2.2,
    )
statement_read v _ _ (directive_first d ts s i) text h =
    let r = directive_rest d ts s i h.0 h.2 in
    (r.0, ap (grammar.statement_from v text) (directive_read text d h.0 h.1) ∙ r.1, r.2)

pub statement_not_end : (v : Variant) (ts : List Token) (s : Statement) → IsStatement v ts s → (text : List ℕ) → HasTokens text ts → ends text ≡ false
statement_not_end v _ _ (mnemonic_first name ts s i) text h = next_not_end text (word name) h.0 h.1
statement_not_end v _ _ (directive_first d ts s i) text h = next_not_end text (directive d) h.0 h.1

memory_first : (ts : List Token) (d : Operand) (b : ℕ) (rest : List Token) → IsMemory ts d b rest → (text : List ℕ) → HasTokens text ts → begins (λ x. x == 58) (behind is_blank text) ≡ false
memory_first _ _ _ _ (no_displacement b rest) text h = excluded (λ x. x == 58) left_paren (sign_byte 40 (λ x. x == 58) refl) text h.0 h.1
memory_first _ _ _ _ (with_displacement ts d b rest i) text h = operand_first (λ x. x == 58) not_colon Eight ts d _ i text h

-- no `:` follows a mnemonic
colon_behind : (v : Variant) (name : List ℕ) (ts : List Token) (s : Statement) → IsInstruction v name ts s → (text : List ℕ) → HasTokens text ts → begins (λ x. x == 58) (behind is_blank text) ≡ false
colon_behind v _ _ _ rows.halt text h = behind_end text h (λ x. x == 58) refl refl
colon_behind v _ _ _ rows.nop text h = behind_end text h (λ x. x == 58) refl refl
colon_behind v _ _ _ rows.ret text h = behind_end text h (λ x. x == 58) refl refl
colon_behind v _ _ _ (rows.move name f a b m) text h = excluded (λ x. x == 58) (register a) register_no_colon text h.0 h.1
colon_behind v _ _ _ (rows.irmovq ts o b i) text h = operand_first (λ x. x == 58) not_colon Eight ts o _ i text h
colon_behind v _ _ _ (rows.rmmovq a ts d b i) text h = excluded (λ x. x == 58) (register a) register_no_colon text h.0 h.1
colon_behind v _ _ _ (rows.mrmovq ts d b a i) text h = memory_first ts d b _ i text h
colon_behind v _ _ _ (rows.operation name f a b m) text h = excluded (λ x. x == 58) (register a) register_no_colon text h.0 h.1
colon_behind v _ _ _ (rows.jump name f ts o m i) text h = operand_first (λ x. x == 58) not_colon Eight ts o _ i text h
colon_behind v _ _ _ (rows.call ts o i) text h = operand_first (λ x. x == 58) not_colon Eight ts o _ i text h
colon_behind v _ _ _ (rows.pushq a) text h = excluded (λ x. x == 58) (register a) register_no_colon text h.0 h.1
colon_behind v _ _ _ (rows.popq a) text h = excluded (λ x. x == 58) (register a) register_no_colon text h.0 h.1
colon_behind v _ _ _ (rows.iaddq full ts o b i) text h = operand_first (λ x. x == 58) not_colon Eight ts o _ i text h

-- a statement has no label
pub no_label : (v : Variant) (ts : List Token) (s : Statement) → IsStatement v ts s → (text : List ℕ) → HasTokens text ts → grammar.label text ≡ (None, text)
unfolding grammar.label
no_label v _ _ (mnemonic_first name ts s i) text h =
    ap (grammar.label_from text) (word_read text name h.0 h.1) ∙ ap (grammar.label_with text name) (no_sign 58 h.0 (colon_behind v name ts s i h.0 h.2))
no_label v _ _ (directive_first d ts s i) text h = ap (grammar.label_from text) (no_word text (excluded is_name_start (directive d) dot_no_word text h.0 h.1))

pub end_no_label : (text : List ℕ) → IsEnd text → grammar.label text ≡ (None, text)
unfolding grammar.label
end_no_label text end = ap (grammar.label_from text) (no_word text (behind_end text end is_name_start refl refl))

pub label_read : (name : List ℕ) (ts : List Token) (text : List ℕ) → (h : HasTokens text (word name ∷ colon ∷ ts)) → grammar.label text ≡ (Some name, h.2.0)
unfolding grammar.label
label_read name ts text h = ap (grammar.label_from text) (word_read text name h.0 h.1) ∙ ap (grammar.label_with text name) (sign_read 58 h.0 h.2.0 h.2.1)
