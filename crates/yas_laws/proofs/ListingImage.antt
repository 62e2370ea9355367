-- The image of a listing, with its bytes stored as an object text stores them.
use Rattle.std.proofs.Common.{◌≡◌, ℕ, List, fold, replicate, refl}
use Rattle.yas_asm.specs.declared.listing.Line.{Line}
use Rattle.yas_asm.specs.Laws.{put_at, image}

-- memory with the bytes of a line stored at its address; a line without an address has none
abbrev pub with_line : List ℕ → Line → List ℕ
with_line memory line = put_at line.addr line.bytes.items memory

pub image_same : (lines : List Line) (size : ℕ) → fold with_line (replicate size 0) lines ≡ image size lines
unfolding image
image_same lines size = refl
