-- The printed object text of an accepted source, read back, gives the image of its listing.
use Rattle.std.specs.Prelude.{◌≡◌, ◌⊎◌, ℕ, ◌+◌, ◌^◌, ◌<◌, ◌≤◌, All, IfSome, List, [], ◌∷◌, ◌++◌, slice_index, length, None, Some, Ok}
use Rattle.y86_base.specs.declared.parts.Variant.{Variant}
use Rattle.y86_base.specs.Image.{IsSize}
use Rattle.yas_asm.specs.declared.listing.Line.{Line}
use Rattle.yas_asm.specs.Assembly.{assembled}
use Rattle.yas_asm.specs.Laws.{image}
use Rattle.yo_object.specs.ObjectText.{object_of}
use Rattle.yo_object.specs.Printed.{printed}

-- each byte of a line is inside a memory of the size
abbrev pub IsInside : ℕ → Line → Type 0
IsInside size line = IfSome line.addr (λ address. 0 < length line.bytes.items → address + length line.bytes.items ≤ size)

-- at each size that holds the bytes of the listing, the printed text has no fault, and its image is that of the listing;
-- the size for which the source was assembled is a word
abbrev pub IsReadBack : Type 0
IsReadBack =
    (variant : Variant) (source : List ℕ) (assembled_size size : ℕ) (lines : List Line) → assembled variant source assembled_size ≡ Ok lines
    → assembled_size < 2 ^ 64 → IsSize size → All (IsInside size) lines
    → object_of (printed (record { lines = lines; source = source })) size ≡ Ok (image size lines)

-- the size for which a source was assembled holds the bytes of its listing
abbrev pub FitsItsSize : Type 0
FitsItsSize = (variant : Variant) (source : List ℕ) (size : ℕ) (lines : List Line) → assembled variant source size ≡ Ok lines → All (IsInside size) lines

-- a line without an address has no bytes
abbrev pub IsAddressed : Line → Type 0
IsAddressed line = line.addr ≡ None → line.bytes.items ≡ []

abbrev pub EmitsAtAddresses : Type 0
EmitsAtAddresses = (variant : Variant) (source : List ℕ) (size : ℕ) (lines : List Line) → assembled variant source size ≡ Ok lines → All IsAddressed lines

-- each byte of a line of the listing is at its address in the image: no other line stores a byte there
abbrev pub HasItsBytes : Type 0
HasItsBytes =
    (variant : Variant) (source : List ℕ) (assembled_size size : ℕ) (before after : List Line) (line : Line)
    → assembled variant source assembled_size ≡ Ok (before ++ (line ∷ after)) → All (IsInside size) (before ++ (line ∷ after))
    → (first k : ℕ) → line.addr ≡ Some first → k < length line.bytes.items
    → slice_index (image size (before ++ (line ∷ after))) (first + k) ≡ slice_index line.bytes.items k

-- a line has no byte at an address
abbrev pub HasNoByteAt : ℕ → Line → Type 0
HasNoByteAt address line = IfSome line.addr (λ first. (address < first) ⊎ (first + length line.bytes.items ≤ address))

-- and each address at which no line has a byte is 0
abbrev pub IsZeroElsewhere : Type 0
IsZeroElsewhere =
    (lines : List Line) (size address : ℕ) → All (IsInside size) lines → All (HasNoByteAt address) lines → slice_index (image size lines) address ≡ 0
