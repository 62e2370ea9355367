-- Bytes are put into an image of zeros, one instruction after another.
use Rattle.std.proofs.Common.{◌≡◌, ℕ, suc, ◌+◌, ◌-◌, ◌<◌, ◌≤◌, List, ◌++◌, length, take, drop, set, get_or, replicate, sym, ap, ◌∙◌, arith, append_assoc, append-nil, length-append, length-drop}
use Rattle.std.proofs.Math.Seq.{sets}
use Rattle.std.proofs.lemmas.List.{at_drop_more, take-append-le, take_all, drop-append-le, take-append-drop, length-take, drop_all, drop-drop, drop-replicate, length-replicate}
use Rattle.std.proofs.lemmas.List.Edits.{sets-eq}
use Rattle.y86_base.specs.Image.{with_bytes}
use Rattle.prog_gen.specs.Programs.{padded, code, next_drawn, Drawn}
use Rattle.y86_isa.specs.Encoding.{encoded}

-- one more byte is put
pub sets_more : (m : List ℕ) (at i : ℕ) (bytes : List ℕ) (b : ℕ) → i < length bytes → b ≡ get_or bytes i 0
    → sets (set m (at + i) b) (at + (i + 1)) (drop (i + 1) bytes) ≡ sets m (at + i) (drop i bytes)
sets_more m at i bytes b h is =
    let e : at + (i + 1) ≡ suc (at + i) = omega arith in
    let more : sets m (at + i) (drop i bytes) ≡ sets (set m (at + i) (get_or bytes i 0)) (suc (at + i)) (drop (i + 1) bytes) = at_drop_more (sets m (at + i)) bytes i 0 h in
    ap (λ (k : ℕ). sets (set m (at + i) b) k (drop (i + 1) bytes)) e
    ∙ (ap (λ (x : ℕ). sets (set m (at + i) x) (suc (at + i)) (drop (i + 1) bytes)) is ∙ sym more)

pub sets_end : (m : List ℕ) (at i : ℕ) (bytes : List ℕ) → length bytes ≤ i → sets m (at + i) (drop i bytes) ≡ m
sets_end m at i bytes h = ap (sets m (at + i)) (drop_all i bytes h)

pub sets_start : (m : List ℕ) (at : ℕ) (bytes : List ℕ) → at + length bytes ≤ length m → sets m at bytes ≡ with_bytes m at bytes
sets_start m at bytes h = sets-eq bytes m at h ∙ append_assoc (take at m) bytes (drop (at + length bytes) m)

-- an image with its first bytes put, and zeros after them
pub record IsLaid (size at : ℕ) (image : List ℕ) : Type 0 where
  pub size_is : length image ≡ size
  pub zeros : drop at image ≡ replicate (size - at) 0

pub laid_none : (size : ℕ) (image : List ℕ) → image ≡ replicate size 0 → IsLaid size 0 image
laid_none size image e = record { size_is = ap length e ∙ length-replicate size 0; zeros = e ∙ ap (λ (n : ℕ). replicate n 0) (omega arith) }

-- more bytes are put after them
pub laid_take : (m : List ℕ) (at : ℕ) (bytes : List ℕ) → at + length bytes ≤ length m → take (at + length bytes) (with_bytes m at bytes) ≡ take at m ++ bytes
laid_take m at bytes h =
    let front : List ℕ = take at m ++ bytes in
    let size : length front ≡ at + length bytes = omega (arith, length-append (take at m) bytes, length-take at m) in
    ap (take (at + length bytes)) (sym (append_assoc (take at m) bytes (drop (at + length bytes) m)))
    ∙ (take-append-le (at + length bytes) front (drop (at + length bytes) m) (omega (arith, size)) ∙ take_all (at + length bytes) front (omega (arith, size)))

laid_drop : (m : List ℕ) (at : ℕ) (bytes : List ℕ) → at + length bytes ≤ length m → drop (at + length bytes) (with_bytes m at bytes) ≡ drop (at + length bytes) m
laid_drop m at bytes h =
    let front : List ℕ = take at m ++ bytes in
    let size : length front ≡ at + length bytes = omega (arith, length-append (take at m) bytes, length-take at m) in
    ap (drop (at + length bytes)) (sym (append_assoc (take at m) bytes (drop (at + length bytes) m)))
    ∙ (drop-append-le (at + length bytes) front (drop (at + length bytes) m) (omega (arith, size))
    ∙ ap (λ (xs : List ℕ). xs ++ drop (at + length bytes) m) (drop_all (at + length bytes) front (omega (arith, size))))

pub laid_more : (size at : ℕ) (m bytes : List ℕ) → IsLaid size at m → at + length bytes ≤ size → IsLaid size (at + length bytes) (with_bytes m at bytes)
laid_more size at m bytes laid h =
    let k : ℕ = at + length bytes in
    let room : k ≤ length m = omega (arith, h, laid.size_is) in
    record {
      size_is = omega (arith, laid.size_is, length-append (take at m) (bytes ++ drop k m), length-append bytes (drop k m), length-take at m, length-drop k m);
      zeros = laid_drop m at bytes room
          ∙ (sym (drop-drop (length bytes) at m) ∙ (ap (drop (length bytes)) laid.zeros ∙ (drop-replicate (length bytes) (size - at) 0 ∙ ap (λ (n : ℕ). replicate n 0) (omega arith))));
    }

pub laid_all : (size at : ℕ) (m bytes : List ℕ) → IsLaid size at m → at ≤ size → take at m ≡ bytes → m ≡ padded size bytes
laid_all size at m bytes laid h front =
    let size_of : length bytes ≡ at = sym (ap length front) ∙ omega (arith, length-take at m, laid.size_is) in
    sym (take-append-drop at m)
    ∙ (ap (λ (xs : List ℕ). xs ++ drop at m) front ∙ ap (λ (xs : List ℕ). bytes ++ xs) (laid.zeros ∙ ap (λ (n : ℕ). replicate (size - n) 0) (sym size_of)))

-- one more instruction of the code
pub code_more : (base_at n at word : ℕ) (front bytes : List ℕ) (d : Drawn) → next_drawn base_at at word ≡ d → bytes ≡ encoded d.instr
    → (front ++ bytes) ++ code base_at n (at + length bytes) d.word ≡ front ++ code base_at (suc n) at word
unfolding code
code_more base_at n at word front bytes d is e =
    append_assoc front bytes (code base_at n (at + length bytes) d.word)
    ∙ ap (λ (xs : List ℕ). front ++ xs)
    (ap (λ (bs : List ℕ). bs ++ code base_at n (at + length bs) d.word) e
    ∙ sym (ap (λ (x : Drawn). encoded x.instr ++ code base_at n (at + length (encoded x.instr)) x.word) is))

pub code_none : (base_at at word : ℕ) (front : List ℕ) → front ++ code base_at 0 at word ≡ front
unfolding code
code_none base_at at word front = append-nil front
