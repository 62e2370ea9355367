-- Which bytes and words of a memory a store leaves unchanged.
use Rattle.std.proofs.Common.{◌≡◌, ℕ, ◌+◌, ◌-◌, ◌<◌, ◌≤◌, ◌⊎◌, inl, inr, nat_le, List, ◌++◌, length, take, drop, get_or, Option, Some, None, slice_get, All, refl, sym, ap, ◌∙◌, arith, length-take}
use Rattle.std.specs.Int.{to_le_bytes, w64}
use Rattle.std.proofs.lemmas.Bool.{cond_both, leb-true, cases_lt}
use Rattle.std.proofs.lemmas.List.{get_or_append_left, get_or-append_right, get_or-take, get_or-drop}
use Rattle.std.proofs.lemmas.Option.{slice_get-get_or, slice_get_past}
use Rattle.std.proofs.lemmas.List.Elements.{All-from_recursion, All-append, All-take, All-drop}
use Rattle.y86_base.specs.Image.{put_word}
use Rattle.y86_base.proofs.Memories.{length-put_word}
use Rattle.y86_isa.specs.declared.machine.Store.{Store}
use Rattle.y86_isa.specs.Blocks.{stored}
use Rattle.y86_isa.specs.Run.{IsImage}

abbrev pub IsByte : ℕ → Type 0
IsByte n = n < 256

-- the bytes of a word are bytes
pub bytes_of_word : (word : ℕ) → All IsByte (to_le_bytes w64 word)
bytes_of_word word =
    All-from_recursion IsByte (to_le_bytes w64 word)
    (omega arith, (omega arith, (omega arith, (omega arith, (omega arith, (omega arith, (omega arith, (omega arith, tt))))))))

-- ---- a word that is stored inside memory

All-put_word : (memory : List ℕ) (address word : ℕ) → All IsByte memory → All IsByte (put_word memory address word)
unfolding put_word
All-put_word memory address word h =
    cond_both (nat_le (address + 8) (length memory)) _ memory (All IsByte)
    (λ _. All-append IsByte (take address memory) _ (All-take IsByte address memory h)
    (All-append IsByte (to_le_bytes w64 word) _ (bytes_of_word word) (All-drop IsByte (address + 8) memory h)))
    (λ _. h)

-- ---- the memory after the store of an instruction

pub length-stored : (memory : List ℕ) (store : Option Store) → length (stored memory store) ≡ length memory
unfolding stored
length-stored memory None = refl
length-stored memory (Some store) = length-put_word memory store.addr store.word

All-stored : (memory : List ℕ) (store : Option Store) → All IsByte memory → All IsByte (stored memory store)
unfolding stored
All-stored memory None h = h
All-stored memory (Some store) h = All-put_word memory store.addr store.word h

pub IsImage-stored : (memory : List ℕ) (store : Option Store) → IsImage memory → IsImage (stored memory store)
IsImage-stored memory store h = record { sized = rw (length-stored memory store) h.sized; bytes = All-stored memory store h.bytes }

-- ---- the bytes around a stored word

below_word : (memory : List ℕ) (address word k : ℕ) → address + 8 ≤ length memory → k < address →
    get_or (take address memory ++ (to_le_bytes w64 word ++ drop (address + 8) memory)) k 0 ≡ get_or memory k 0
below_word memory address word k inside h =
    get_or_append_left (take address memory) _ 0 k (simp length-take (omega arith)) ∙ get_or-take address memory k 0 h

above_word : (memory : List ℕ) (address word k : ℕ) → address + 8 ≤ length memory → address + 8 ≤ k →
    get_or (take address memory ++ (to_le_bytes w64 word ++ drop (address + 8) memory)) k 0 ≡ get_or memory k 0
above_word memory address word k inside h =
    get_or-append_right (take address memory) _ address k 0 (simp length-take (omega arith)) (omega arith)
    ∙ (get_or-append_right (to_le_bytes w64 word) (drop (address + 8) memory) 8 (k - address) 0 refl (omega arith)
    ∙ (get_or-drop (address + 8) memory (k - address - 8) 0 ∙ ap (λ n. get_or memory n 0) (omega arith)))

pub get_or-put_word_other : (memory : List ℕ) (address word k : ℕ) → (k < address) ⊎ (address + 8 ≤ k) →
    get_or (put_word memory address word) k 0 ≡ get_or memory k 0
unfolding put_word
get_or-put_word_other memory address word k h =
    cond_both (nat_le (address + 8) (length memory)) _ memory (λ m. get_or m k 0 ≡ get_or memory k 0)
    (λ e. elim h [ inl lt ↦ below_word memory address word k (leb-true _ _ e) lt | inr le ↦ above_word memory address word k (leb-true _ _ e) le ])
    (λ _. refl)

-- if two memories of one size read alike at an address, they have the same byte there, if any
pub same_byte : (xs ys : List ℕ) (k : ℕ) → length xs ≡ length ys → get_or xs k 0 ≡ get_or ys k 0 → slice_get xs k ≡ slice_get ys k
same_byte xs ys k same e =
    elim (cases_lt k (length ys)) [
      | inl lt ↦ slice_get-get_or xs k 0 (omega arith) ∙ (ap Some e ∙ sym (slice_get-get_or ys k 0 lt))
      | inr le ↦ slice_get_past xs k (omega arith) ∙ sym (slice_get_past ys k le)
    ]
