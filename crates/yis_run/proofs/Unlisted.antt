-- If an aligned word of an image is as at the start, so is each of its bytes.
use Rattle.std.proofs.Common.{◌≡◌, ℕ, ◌+◌, ◌-◌, ◌*◌, ◌/◌, ◌<◌, ◌≤◌, inl, inr, true, nat_le, List, length, take, drop, get_or, unwrap_or, slice_get, All, refl, sym, ap, ◌∙◌, arith, length-take, length-drop}
use Rattle.std.specs.Int.{from_le_bytes, w64}
use Rattle.std.proofs.lemmas.Bool.{cases_lt, le-leb}
use Rattle.std.proofs.lemmas.List.{get_or-take, get_or-drop, get_or_past}
use Rattle.std.proofs.lemmas.List.Elements.{All-take, All-drop, All-get_or}
use Rattle.std.proofs.lemmas.Nat.{le_bytes_8}
use Rattle.std.proofs.lemmas.Option.{slice_get_past}
use Rattle.y86_base.specs.Image.{word_at}
use Rattle.y86_isa.specs.Run.{IsImage}
use Rattle.y86_isa.proofs.Memories.{same_byte}
use Rattle.yis_run.specs.Report.{aligned_word}

abbrev bytes_at : List ℕ → ℕ → List ℕ
bytes_at memory at = take 8 (drop at memory)

abbrev IsByte : ℕ → Type 0
IsByte n = n < 256

small : (memory : List ℕ) (at i : ℕ) → All IsByte memory → get_or (bytes_at memory at) i 0 < 256
small memory at i h =
    elim (cases_lt i (length (bytes_at memory at))) [
      | inl lt ↦ All-get_or IsByte (bytes_at memory at) i 0 lt (All-take IsByte 8 (drop at memory) (All-drop IsByte at memory h))
      | inr le ↦ rw (get_or_past (bytes_at memory at) i 0 le) (omega arith)
    ]

eight : (memory : List ℕ) (at : ℕ) → at + 8 ≤ length memory → length (bytes_at memory at) ≡ 8
eight memory at h = simp (length-take, length-drop) (omega arith)

-- equal words have equal bytes
same_bytes : (first memory : List ℕ) (at : ℕ) → IsImage first → IsImage memory → at + 8 ≤ length first → length memory ≡ length first →
    unwrap_or (word_at memory at) 0 ≡ unwrap_or (word_at first at) 0 → bytes_at memory at ≡ bytes_at first at
unfolding word_at
same_bytes first memory at f m inside size e =
    let within : at + 8 ≤ length memory = omega arith in
    let a : nat_le (at + 8) (length memory) ≡ true = le-leb _ _ within in
    let b : nat_le (at + 8) (length first) ≡ true = le-leb _ _ inside in
    let word = from_le_bytes w64 (bytes_at memory at) in
    let same : word ≡ from_le_bytes w64 (bytes_at first at) = rw (a, b) at e in
    sym (le_bytes_8 (bytes_at memory at) word (eight memory at within) (λ i. small memory at i m.bytes) refl)
    ∙ le_bytes_8 (bytes_at first at) word (eight first at inside) (λ i. small first at i f.bytes) same

read : (memory : List ℕ) (at k address : ℕ) → address ≡ at + k → k < 8 → get_or memory address 0 ≡ get_or (bytes_at memory at) k 0
read memory at k address e lt = ap (λ n. get_or memory n 0) e ∙ sym (get_or-take 8 (drop at memory) k 0 lt ∙ get_or-drop at memory k 0)

pub byte-same : (first memory : List ℕ) (address : ℕ) → IsImage first → IsImage memory → length memory ≡ length first →
    aligned_word memory (address / 8) ≡ aligned_word first (address / 8) → slice_get memory address ≡ slice_get first address
byte-same first memory address f m size e =
    elim (cases_lt address (length first)) [
      | inl lt ↦
          let at = 8 * (address / 8) in
          let k = address - at in
          let place : address ≡ at + k = omega arith in
          let below : k < 8 = omega arith in
          let inside : at + 8 ≤ length first = omega (arith, f.sized.whole_words) in
          same_byte memory first address size
          (read memory at k address place below
          ∙ (ap (λ xs. get_or xs k 0) (same_bytes first memory at f m inside size e) ∙ sym (read first at k address place below)))
      | inr le ↦ slice_get_past memory address (omega arith) ∙ sym (slice_get_past first address le)
    ]
