-- The names of instructions differ from the texts `bubble`, `failed fetch` and `invalid`, by their first two letters.
use Rattle.std.proofs.Common.{◌≡◌, ◌↔◌, ℕ, zero, suc, Bool, true, false, not, ◌&&◌, ◌||◌, ◌==◌, cond, if◌then◌else◌, List, [], ◌∷◌, ◌++◌, nat_le, nat_lt, refl, sym, ap, ◌∙◌, arith}
use Rattle.std.specs.Prelude.{codes, slice_index_or}
use Rattle.std.proofs.lemmas.Bool.{and_parts}
use Rattle.std.proofs.lemmas.Bool.Decides.{nat_tests}
use Rattle.y86_base.specs.declared.parts.Variant.TheVariants.{Full}
use Rattle.y86_isa.specs.Table.{row}
use Rattle.pipe_stage_text.specs.Instruction.{instruction, is_valid, jumps, mnemonic, moves, operands, operations, shape_of}
use Rattle.pipe_stage_text.specs.Texts.{IsBubble, IsFailed, IsInvalid, TextsDiffer}
use Rattle.pipe_stage_text.specs.declared.stage_content.StageContent.{StageContent}

-- two first letters other than those of `bubble`, `failed fetch` or `invalid`
abbrev others : ℕ → ℕ → Bool
others a b = not ((a == 98 && b == 117) || (a == 102 && b == 97) || (a == 105 && b == 110))

unfoldable is_name : List ℕ → Bool
is_name [] = false
is_name (a ∷ []) = false
is_name (a ∷ b ∷ rest) = others a b

with_more : (text more : List ℕ) → is_name text ≡ true → is_name (text ++ more) ≡ true
unfolding is_name
with_more [] more h = absurd (cc)
with_more (a ∷ []) more h = absurd (cc)
with_more (a ∷ b ∷ rest) more h = h

-- ---- each name

move_name : (ifun : ℕ) → nat_le ifun 6 ≡ true → is_name (slice_index_or moves ifun []) ≡ true
unfolding moves is_name
move_name zero h = refl
move_name (suc zero) h = refl
move_name (suc (suc zero)) h = refl
move_name (suc (suc (suc zero))) h = refl
move_name (suc (suc (suc (suc zero)))) h = refl
move_name (suc (suc (suc (suc (suc zero))))) h = refl
move_name (suc (suc (suc (suc (suc (suc zero)))))) h = refl
move_name (suc (suc (suc (suc (suc (suc (suc n))))))) h = absurd (grind (arith, nat_tests))

operation_name : (ifun : ℕ) → nat_le ifun 3 ≡ true → is_name (slice_index_or operations ifun []) ≡ true
unfolding operations is_name
operation_name zero h = refl
operation_name (suc zero) h = refl
operation_name (suc (suc zero)) h = refl
operation_name (suc (suc (suc zero))) h = refl
operation_name (suc (suc (suc (suc n)))) h = absurd (grind (arith, nat_tests))

jump_name : (ifun : ℕ) → nat_le ifun 6 ≡ true → is_name (slice_index_or jumps ifun []) ≡ true
unfolding jumps is_name
jump_name zero h = refl
jump_name (suc zero) h = refl
jump_name (suc (suc zero)) h = refl
jump_name (suc (suc (suc zero))) h = refl
jump_name (suc (suc (suc (suc zero)))) h = refl
jump_name (suc (suc (suc (suc (suc zero))))) h = refl
jump_name (suc (suc (suc (suc (suc (suc zero)))))) h = refl
jump_name (suc (suc (suc (suc (suc (suc (suc n))))))) h = absurd (grind (arith, nat_tests))

name : (icode ifun : ℕ) → nat_lt icode 13 ≡ true → nat_le ifun (row Full icode).ifun_top ≡ true → is_name (mnemonic icode ifun) ≡ true
unfolding mnemonic row is_name
name zero ifun h top = refl
name (suc zero) ifun h top = refl
name (suc (suc zero)) ifun h top = move_name ifun top
name (suc (suc (suc zero))) ifun h top = refl
name (suc (suc (suc (suc zero)))) ifun h top = refl
name (suc (suc (suc (suc (suc zero))))) ifun h top = refl
name (suc (suc (suc (suc (suc (suc zero)))))) ifun h top = operation_name ifun top
name (suc (suc (suc (suc (suc (suc (suc zero))))))) ifun h top = jump_name ifun top
name (suc (suc (suc (suc (suc (suc (suc (suc zero)))))))) ifun h top = refl
name (suc (suc (suc (suc (suc (suc (suc (suc (suc zero))))))))) ifun h top = refl
name (suc (suc (suc (suc (suc (suc (suc (suc (suc (suc zero)))))))))) ifun h top = refl
name (suc (suc (suc (suc (suc (suc (suc (suc (suc (suc (suc zero))))))))))) ifun h top = refl
name (suc (suc (suc (suc (suc (suc (suc (suc (suc (suc (suc (suc zero)))))))))))) ifun h top = refl
name (suc (suc (suc (suc (suc (suc (suc (suc (suc (suc (suc (suc (suc n))))))))))))) ifun h top = absurd (grind (arith, nat_tests))

valid_name : (icode ifun : ℕ) → is_valid icode ifun ≡ true → is_name (mnemonic icode ifun) ≡ true
valid_name icode ifun h =
    let parts = and_parts (nat_lt icode 13) (nat_le ifun (row Full icode).ifun_top) h in
    name icode ifun parts.0 parts.1

-- ---- the four kinds of text

abbrev text_of : Bool → Bool → Bool → List ℕ → List ℕ
text_of live failed valid named =
    if not live then codes "bubble" else (if failed then codes "failed fetch" else (if not valid then codes "invalid" else named))

-- a text that is a name isn't one of the three texts
no_word : (text word : List ℕ) → is_name text ≡ true → is_name word ≡ false → text ≡ word → ⊥
no_word text word h h' e = cc

record Differ (l f v : Bool) (text : List ℕ) : Type 0 where
  bubble : (text ≡ codes "bubble") ↔ (l ≡ false)
  failed : (text ≡ codes "failed fetch") ↔ ((l ≡ true) × (f ≡ true))
  invalid : (text ≡ codes "invalid") ↔ ((l ≡ true) × (f ≡ false) × (v ≡ false))

two_words : (text other : List ℕ) (a b : ℕ) → slice_index_or text 0 0 ≡ a → slice_index_or other 0 0 ≡ b → (a ≡ b → ⊥) → text ≡ other → ⊥
two_words text other a b e e' never same = never (sym e ∙ ap (λ xs. slice_index_or xs 0 0) same ∙ e')

differ : (live failed valid : Bool) (named : List ℕ) → (valid ≡ true → is_name named ≡ true) → Differ live failed valid (text_of live failed valid named)
unfolding is_name
differ false failed valid named h =
    record {
      bubble = (λ e. refl, λ e. refl);
      failed = (λ e. absurd (two_words _ _ 98 102 refl refl (λ x. cc) e), λ e. absurd (cc));
      invalid = (λ e. absurd (two_words _ _ 98 105 refl refl (λ x. cc) e), λ e. absurd (cc));
    }
differ true true valid named h =
    record {
      bubble = (λ e. absurd (two_words _ _ 102 98 refl refl (λ x. cc) e), λ e. absurd (cc));
      failed = (λ e. (refl, refl), λ e. refl);
      invalid = (λ e. absurd (two_words _ _ 102 105 refl refl (λ x. cc) e), λ e. absurd (cc));
    }
differ true false false named h =
    record {
      bubble = (λ e. absurd (two_words _ _ 105 98 refl refl (λ x. cc) e), λ e. absurd (cc));
      failed = (λ e. absurd (two_words _ _ 105 102 refl refl (λ x. cc) e), λ e. absurd (cc));
      invalid = (λ e. (refl, refl, refl), λ e. refl);
    }
differ true false true named h =
    record {
      bubble = (λ e. absurd (no_word named _ (h refl) refl e), λ e. absurd (cc));
      failed = (λ e. absurd (no_word named _ (h refl) refl e), λ e. absurd (cc));
      invalid = (λ e. absurd (no_word named _ (h refl) refl e), λ e. absurd (cc));
    }

pub texts_differ : (h : StageContent) → TextsDiffer h
unfolding instruction
texts_differ h =
    let all =
    differ h.live h.failed (is_valid h.icode h.ifun) (mnemonic h.icode h.ifun ++ operands (shape_of h.icode) h)
    (λ valid. with_more (mnemonic h.icode h.ifun) (operands (shape_of h.icode) h) (valid_name h.icode h.ifun valid)) in
    record { bubble = all.bubble; failed = all.failed; invalid = all.invalid }
