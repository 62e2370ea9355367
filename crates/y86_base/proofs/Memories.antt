-- Reading back a word that was stored in memory, or written to a register.
use Rattle.std.proofs.Common.{◌≡◌, ◌≢◌, ℕ, ◌+◌, ◌<◌, ◌≤◌, ◌^◌, ◌⊎◌, inl, inr, true, false, cond, nat_le, nat_lt, List, ◌++◌, length, take, drop, Option, Some, None, refl, sym, ap, ◌∙◌, arith, length-append, length-take, length-drop}
use Rattle.std.specs.Int.{from_le_bytes, to_le_bytes, w64}
use Rattle.std.proofs.lemmas.Bool.{agree_below_at, cases_lt, cond_both, eqb-true, le-leb, leb-true, lt-leb, lt-ltb}
use Rattle.std.proofs.lemmas.Bool.Decides.{nat_tests}
use Rattle.std.proofs.lemmas.List.{append_assoc, drop-append-le, get_or-set_other, get_or-set_same, take-append-drop, take-append-le}
use Rattle.std.proofs.lemmas.Slice.{drop-append-drop}
use Rattle.std.proofs.Math.ListN.{length-set}
use Rattle.std.specs.Option.{option_map_or}
use Rattle.std.specs.Prelude.{nat_eq, slice_index}
use Rattle.std.proofs.lemmas.Grind.{common_steps}
use Rattle.std.proofs.lemmas.Nat.{from_le_bytes-to_le_bytes_8}
use Rattle.y86_base.specs.Image.{put_word, word_at}
use Rattle.y86_base.specs.Keyword.{meaning_of}
use Rattle.y86_base.specs.Registers.{register, register_name, register_names, with_register}

length_put : (memory : List ℕ) (address word : ℕ) → address + 8 ≤ length memory →
    length (take address memory ++ (to_le_bytes w64 word ++ drop (address + 8) memory)) ≡ length memory
length_put memory address word h = simp (length-append, length-take, length-drop) (omega arith)

pub length-put_word : (memory : List ℕ) (address word : ℕ) → length (put_word memory address word) ≡ length memory
unfolding put_word
length-put_word memory address word =
    cond_both (nat_le (address + 8) (length memory)) _ memory (λ m. length m ≡ length memory)
    (λ e. length_put memory address word (leb-true _ _ e))
    (λ _. refl)

pub word_inside : (memory : List ℕ) (address : ℕ) → address + 8 ≤ length memory → word_at memory address ≡ Some (from_le_bytes w64 (take 8 (drop address memory)))
unfolding word_at
word_inside memory address h = rw (le-leb (address + 8) (length memory) h) refl

pub put_inside : (memory : List ℕ) (address word : ℕ) → address + 8 ≤ length memory →
    put_word memory address word ≡ take address memory ++ (to_le_bytes w64 word ++ drop (address + 8) memory)
unfolding put_word
put_inside memory address word h = rw (le-leb (address + 8) (length memory) h) refl

eight_there : (memory : List ℕ) (address word : ℕ) → address + 8 ≤ length memory →
    take 8 (drop address (take address memory ++ (to_le_bytes w64 word ++ drop (address + 8) memory))) ≡ to_le_bytes w64 word
eight_there memory address word h = grind (arith, common_steps)

pub word_at-put_word : (memory : List ℕ) (address word : ℕ) → address + 8 ≤ length memory → word < 2 ^ 64 →
    word_at (put_word memory address word) address ≡ Some word
word_at-put_word memory address word h small =
    let inside : address + 8 ≤ length (put_word memory address word) = rw (length-put_word memory address word) h in
    word_inside (put_word memory address word) address inside
    ∙ ap (λ m. Some (from_le_bytes w64 (take 8 (drop address m)))) (put_inside memory address word h)
    ∙ ap (λ bytes. Some (from_le_bytes w64 bytes)) (eight_there memory address word h)
    ∙ ap Some (from_le_bytes-to_le_bytes_8 word small)

pub word_outside : (memory : List ℕ) (address : ℕ) → length memory < address + 8 → word_at memory address ≡ None
unfolding word_at
word_outside memory address h = rw (lt-leb (address + 8) (length memory) h) refl

pub put_outside : (memory : List ℕ) (address word : ℕ) → length memory < address + 8 → put_word memory address word ≡ memory
unfolding put_word
put_outside memory address word h = rw (lt-leb (address + 8) (length memory) h) refl

-- bytes stored at an address leave the bytes before and after them unchanged
front_only : (front rest : List ℕ) (other : ℕ) → other + 8 ≤ length front → take 8 (drop other (front ++ rest)) ≡ take 8 (drop other front)
front_only front rest other h =
    ap (take 8) (drop-append-le other front rest (omega arith))
    ∙ take-append-le 8 (drop other front) rest (rw (length-drop other front) (omega arith))

before_bytes : (memory bytes : List ℕ) (address other : ℕ) → address ≤ length memory → other + 8 ≤ address →
    take 8 (drop other (take address memory ++ (bytes ++ drop (address + 8) memory))) ≡ take 8 (drop other memory)
before_bytes memory bytes address other inside h =
    let long : other + 8 ≤ length (take address memory) = rw (length-take address memory) (omega arith) in
    front_only (take address memory) _ other long ∙ sym (front_only (take address memory) (drop address memory) other long)
    ∙ ap (λ m. take 8 (drop other m)) (take-append-drop address memory)

behind_bytes : (memory bytes : List ℕ) (address other : ℕ) → length bytes ≡ 8 → address + 8 ≤ length memory → address + 8 ≤ other →
    drop other (take address memory ++ (bytes ++ drop (address + 8) memory)) ≡ drop other memory
behind_bytes memory bytes address other eight inside h =
    let long : length (take address memory ++ bytes) ≡ address + 8 = simp (length-append, length-take) (omega arith) in
    ap (drop other) (sym (append_assoc (take address memory) bytes (drop (address + 8) memory)))
    ∙ drop-append-drop (address + 8) memory (take address memory ++ bytes) other h long

eight_before : (memory : List ℕ) (address other word : ℕ) → address + 8 ≤ length memory → other + 8 ≤ address →
    take 8 (drop other (take address memory ++ (to_le_bytes w64 word ++ drop (address + 8) memory))) ≡ take 8 (drop other memory)
eight_before memory address other word inside h = before_bytes memory (to_le_bytes w64 word) address other (omega arith) h

eight_behind : (memory : List ℕ) (address other word : ℕ) → address + 8 ≤ length memory → address + 8 ≤ other →
    take 8 (drop other (take address memory ++ (to_le_bytes w64 word ++ drop (address + 8) memory))) ≡ take 8 (drop other memory)
eight_behind memory address other word inside h = ap (take 8) (behind_bytes memory (to_le_bytes w64 word) address other refl inside h)

same_word : (one other : List ℕ) (address : ℕ) → length one ≡ length other → take 8 (drop address one) ≡ take 8 (drop address other) → word_at one address ≡ word_at other address
unfolding word_at
same_word one other address e f = rw (e, f) refl

pub word_at-put_word_beside : (memory : List ℕ) (address other word : ℕ) → (other + 8 ≤ address) ⊎ (address + 8 ≤ other) →
    word_at (put_word memory address word) other ≡ word_at memory other
word_at-put_word_beside memory address other word h =
    elim (cases_lt (length memory) (address + 8)) [
      | inl lt ↦ ap (λ m. word_at m other) (put_outside memory address word lt)
      | inr inside ↦ same_word (put_word memory address word) memory other (length-put_word memory address word)
          (ap (λ m. take 8 (drop other m)) (put_inside memory address word inside)
          ∙ elim h [ inl before ↦ eight_before memory address other word inside before | inr after ↦ eight_behind memory address other word inside after ])
    ]

-- ---- registers

pub register-with_register : (registers : List ℕ) (number word : ℕ) → length registers ≡ 15 → number < 15 → register (with_register registers number word) number ≡ word
unfolding register with_register
register-with_register registers number word e h = rw (lt-ltb number 15 h) (get_or-set_same registers number word 0 (omega arith))

pub register-with_register_other : (registers : List ℕ) (number other word : ℕ) → other ≢ number → register (with_register registers number word) other ≡ register registers other
unfolding register with_register
register-with_register_other registers number other word h =
    cond_both (nat_lt number 15) _ registers (λ r. cond (nat_lt other 15) (slice_index r other) 0 ≡ cond (nat_lt other 15) (slice_index registers other) 0)
    (λ _. ap (λ w. cond (nat_lt other 15) w 0) (get_or-set_other registers number other word 0 h))
    (λ _. refl)

pub length-with_register : (registers : List ℕ) (number word : ℕ) → length (with_register registers number word) ≡ length registers
unfolding with_register
length-with_register registers number word =
    cond_both (nat_lt number 15) _ registers (λ r. length r ≡ length registers) (λ _. length-set registers number word) (λ _. refl)

pub no_register : (registers : List ℕ) (number word : ℕ) → 15 ≤ number → (register registers number ≡ 0) × (with_register registers number word ≡ registers)
unfolding register with_register
no_register registers number word h = let e : nat_lt number 15 ≡ false = grind (arith, nat_tests) in (rw e refl, rw e refl)

-- ---- the names of registers

is_named : (o : Option ℕ) (n : ℕ) → option_map_or (nat_eq n) o false ≡ true → o ≡ Some n
is_named None n h = absurd (cc)
is_named (Some m) n h = ap Some (sym (eqb-true n m h))

pub meaning_of-register_name : (number : ℕ) → number < 15 → meaning_of register_names (register_name number) ≡ Some number
unfolding register_name register_names meaning_of
meaning_of-register_name number h =
    is_named (meaning_of register_names (register_name number)) number
    (agree_below_at (λ n. option_map_or (nat_eq n) (meaning_of register_names (register_name n)) false) (λ _. true) 15 number refl h)
