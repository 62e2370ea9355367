-- Bytes and words that are read from memory, at addresses inside it and at addresses that wrap.
use Rattle.std.proofs.Common.{◌≡◌, ℕ, ◌+◌, ◌-◌, ◌%◌, ◌^◌, inl, inr, ◌<◌, ◌≤◌, List, length, take, drop, get_or, Some, slice_get, refl, sym, ap, ◌∙◌, arith, length-take, length-drop}
use Rattle.std.proofs.lemmas.List.{get_or-drop, get_or-take}
use Rattle.std.proofs.lemmas.Option.{slice_get-get_or}
use Rattle.std.proofs.lemmas.Bool.{cases_lt}
use Rattle.std.proofs.Math.Nat.{mod-eq_of_lt}
use Rattle.std.specs.Int.{from_le_bytes, w64}
use Rattle.y86_base.specs.Image.{IsSize, word_at}
use Rattle.y86_base.proofs.Memories.{word_inside, word_outside}
use Rattle.y86_isa.specs.Blocks.{byte_at, word_from}
use Rattle.y86_isa.specs.Encoding.{Holds}

-- ---- bytes that memory holds

pub held_inside : (memory bytes : List ℕ) (pc k : ℕ) → Holds memory pc bytes → k < length bytes → pc + k < length memory
held_inside memory bytes pc k h lt =
    let n = length bytes in
    let e : length (take n (drop pc memory)) ≡ n = ap length h in
    omega (arith, simp (length-take, length-drop) at e)

pub held_whole : (memory bytes : List ℕ) (pc : ℕ) → Holds memory pc bytes → 0 < length bytes → pc + length bytes ≤ length memory
held_whole memory bytes pc h some = omega (arith, held_inside memory bytes pc (length bytes - 1) h (omega arith))

pub held_byte : (memory bytes : List ℕ) (pc k : ℕ) → Holds memory pc bytes → k < length bytes → get_or memory (pc + k) 0 ≡ get_or bytes k 0
held_byte memory bytes pc k h lt =
    sym (get_or-drop pc memory k 0) ∙ (sym (get_or-take (length bytes) (drop pc memory) k 0 lt) ∙ ap (λ xs. get_or xs k 0) h)

pub held_at : (memory bytes : List ℕ) (pc k : ℕ) → Holds memory pc bytes → k < length bytes → slice_get memory (pc + k) ≡ Some (get_or bytes k 0)
held_at memory bytes pc k h lt =
    slice_get-get_or memory (pc + k) 0 (held_inside memory bytes pc k h lt) ∙ ap Some (held_byte memory bytes pc k h lt)

-- an address inside doesn't wrap
pub byte_at-inside : (memory : List ℕ) (address byte : ℕ) → IsSize (length memory) → slice_get memory address ≡ Some byte → address < length memory → byte_at memory address ≡ byte
byte_at-inside memory address byte size e lt =
    let small : address < 2 ^ 64 = omega (arith, size.most) in
    rw (mod-eq_of_lt small, e) refl

pub held_byte_at : (memory bytes : List ℕ) (pc k : ℕ) → IsSize (length memory) → Holds memory pc bytes → k < length bytes → byte_at memory (pc + k) ≡ get_or bytes k 0
held_byte_at memory bytes pc k size h lt =
    byte_at-inside memory (pc + k) _ size (held_at memory bytes pc k h lt) (held_inside memory bytes pc k h lt)

-- a word whose 8 bytes are known
pub word_from-bytes : (memory word : List ℕ) (address : ℕ) → ((k : ℕ) → k < 8 → byte_at memory (address + k) ≡ get_or word k 0) → word_from memory address ≡ from_le_bytes w64 word
unfolding word_from
word_from-bytes memory word address h =
    rw (h 0 (omega arith), h 1 (omega arith), h 2 (omega arith), h 3 (omega arith), h 4 (omega arith), h 5 (omega arith), h 6 (omega arith), h 7 (omega arith)) refl

-- if a word is all inside, it is the word of its bytes
word_of_inside : (memory : List ℕ) (address : ℕ) → IsSize (length memory) → address + 8 ≤ length memory → word_from memory address ≡ from_le_bytes w64 (take 8 (drop address memory))
word_of_inside memory address size h =
    let bytes = take 8 (drop address memory) in
    let eight : length bytes ≡ 8 = simp (length-take, length-drop) (omega arith) in
    let holds : Holds memory address bytes = rw eight refl in
    word_from-bytes memory bytes address (λ k lt. held_byte_at memory bytes address k size holds (omega (arith, eight)))

pub word_read : (memory : List ℕ) (address word : ℕ) → IsSize (length memory) → word_at memory address ≡ Some word → word_from memory address ≡ word
word_read memory address word size e =
    elim (cases_lt (length memory) (address + 8)) [
      | inl lt ↦ absurd (cc (e, word_outside memory address lt))
      | inr inside ↦ cc (word_of_inside memory address size inside, word_inside memory address inside, e)
    ]

-- addresses are taken modulo 2^64
pub word_wrapped : (memory : List ℕ) (address : ℕ) → word_from memory (address % 2 ^ 64) ≡ word_from memory address
unfolding word_from
word_wrapped memory address =
    let at : (k : ℕ) → (address % 2 ^ 64 + k) % 2 ^ 64 ≡ (address + k) % 2 ^ 64 = λ k. omega arith in
    rw (at 0, at 1, at 2, at 3, at 4, at 5, at 6, at 7) refl
