-- Bytes stored in a memory one after another, and all at once.
use Rattle.std.proofs.Common.{◌≡◌, ℕ, ◌+◌, ◌/◌, ◌^◌, ◌≤◌, Bool, true, false, cond, nat_lt, List, [], ◌∷◌, ◌++◌, length, take, drop, Some, None, refl, sym, ◌∙◌, arith, add-zero, append_assoc, ltb-false}
use Rattle.std.proofs.Math.Seq.{sets}
use Rattle.std.proofs.lemmas.List.{take-append-drop}
use Rattle.std.proofs.lemmas.List.Edits.{sets-eq}
use Rattle.y86_base.specs.Text.{below_word}
use Rattle.y86_base.specs.Image.{with_bytes}
use Rattle.yo_object.specs.ObjectText.{bytes_of_pairs}

pub grouped : (memory bytes : List ℕ) (address : ℕ) →
    with_bytes memory address bytes ≡ (take address memory ++ bytes) ++ drop (address + length bytes) memory
grouped memory bytes address = sym (append_assoc (take address memory) bytes (drop (address + length bytes) memory))

-- nothing is left to store
pub put_all : (image start left bytes : List ℕ) (at address : ℕ) → left ≡ [] → sets image at left ≡ sets start address bytes →
    address + length bytes ≤ length start → image ≡ with_bytes start address bytes
put_all image start left bytes at address none same h =
    (rw none at same) ∙ (sets-eq bytes start address h ∙ sym (grouped start bytes address))

pub put_nothing : (memory : List ℕ) (address : ℕ) → with_bytes memory address [] ≡ memory
put_nothing memory address = simp add-zero (take-append-drop address memory)

pub pairs_length : (digits : List ℕ) → length (bytes_of_pairs digits) ≡ length digits / 2
pairs_length [] = refl
pairs_length (high ∷ []) = refl
pairs_length (high ∷ low ∷ digits) = omega (arith, pairs_length digits)

-- a number that is no word is at least 2^64
pub not_a_word : (n : ℕ) → None ≡ below_word n → 2 ^ 64 ≤ n
not_a_word n none = by (nat_lt n (2 ^ 64)) refl none
  where
    by : (b : Bool) → nat_lt n (2 ^ 64) ≡ b → None ≡ cond b (Some n) None → 2 ^ 64 ≤ n
    by true e h = absurd (cc)
    by false e h = ltb-false n (2 ^ 64) e
