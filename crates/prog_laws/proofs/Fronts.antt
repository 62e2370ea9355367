-- The part of a memory below an address: the bytes in it from a place on, and that a store from that address on
-- leaves it.
use Rattle.std.proofs.Common.{◌≡◌, ℕ, ◌+◌, ◌-◌, ◌<◌, ◌≤◌, nat_le, List, ◌++◌, length, take, drop, Option, Some, None, refl, sym, ap, ◌∙◌, arith, length-append, length-take, length-drop, take-take, drop-drop}
use Rattle.std.specs.Int.{to_le_bytes, w64}
use Rattle.std.proofs.lemmas.Bool.{cond_both, leb-true}
use Rattle.std.proofs.lemmas.List.{drop-take, take-append-le, take_all, drop-append-le, drop_all}
use Rattle.y86_base.specs.Image.{put_word}
use Rattle.y86_isa.specs.declared.machine.Store.{Store}
use Rattle.y86_isa.specs.Blocks.{stored}
use Rattle.y86_isa.specs.Encoding.{Holds}
use Rattle.prog_laws.proofs.Doings.{StoresFrom}

-- some bytes are at a place below the address, followed by others
pub fits_below : (memory bytes more : List ℕ) (data_at at : ℕ) → drop at (take data_at memory) ≡ bytes ++ more → 0 < length more → at + length bytes < data_at
fits_below memory bytes more data_at at e some =
    omega (arith, simp (length-append, length-drop, length-take) at (ap length e))

take_bytes : (bytes more : List ℕ) → take (length bytes) (bytes ++ more) ≡ bytes
take_bytes bytes more = take-append-le (length bytes) bytes more (omega arith) ∙ take_all (length bytes) bytes (omega arith)

drop_bytes : (bytes more : List ℕ) → drop (length bytes) (bytes ++ more) ≡ more
drop_bytes bytes more = drop-append-le (length bytes) bytes more (omega arith) ∙ ap (λ (xs : List ℕ). xs ++ more) (drop_all (length bytes) bytes (omega arith))

pub holds_below : (memory bytes more : List ℕ) (data_at at : ℕ) → drop at (take data_at memory) ≡ bytes ++ more → 0 < length more → Holds memory at bytes
holds_below memory bytes more data_at at e some =
    let room : at + length bytes < data_at = fits_below memory bytes more data_at at e some in
    let left : at + (data_at - at) ≡ data_at = omega arith in
    sym (take-take (length bytes) (data_at - at) (drop at memory) (omega arith))
    ∙ (ap (take (length bytes)) (sym (drop-take at (data_at - at) memory) ∙ (ap (λ (k : ℕ). drop at (take k memory)) left ∙ e))
    ∙ take_bytes bytes more)

-- what follows them
pub behind_them : (memory bytes more : List ℕ) (data_at at next : ℕ) → next ≡ at + length bytes → drop at (take data_at memory) ≡ bytes ++ more → drop next (take data_at memory) ≡ more
behind_them memory bytes more data_at at next is e =
    ap (λ (k : ℕ). drop k (take data_at memory)) is
    ∙ (sym (drop-drop (length bytes) at (take data_at memory)) ∙ (ap (drop (length bytes)) e ∙ drop_bytes bytes more))

-- a store from the address on leaves what is below it
put_above : (memory : List ℕ) (data_at address word : ℕ) → data_at ≤ address → take data_at (put_word memory address word) ≡ take data_at memory
unfolding put_word
put_above memory data_at address word le =
    cond_both (nat_le (address + 8) (length memory)) _ memory (λ m. take data_at m ≡ take data_at memory)
    (λ e. let inside : address + 8 ≤ length memory = leb-true _ _ e in
    take-append-le data_at (take address memory) (to_le_bytes w64 word ++ drop (address + 8) memory) (omega (arith, length-take address memory))
    ∙ take-take data_at address memory le)
    (λ _. refl)

pub stored_above : (memory : List ℕ) (data_at : ℕ) (store : Option Store) → StoresFrom data_at store → take data_at (stored memory store) ≡ take data_at memory
unfolding stored
stored_above memory data_at None from = refl
stored_above memory data_at (Some store) from = put_above memory data_at store.addr store.word (from store.addr (omega arith, omega arith))
