-- The memory image as a list of bytes. A word is 8 bytes, the lowest first (CS:APP 3e, section 2.1.3).
use Rattle.std.specs.Prelude.{◌≡◌, ℕ, Bool, ◌&&◌, ◌==◌, ◌+◌, ◌%◌, ◌≤◌, ◌<◌, All, List, ◌++◌, length, take, drop, Option, Some, None, nat_le, if◌then◌else◌}
use Rattle.std.specs.Int.{from_le_bytes, to_le_bytes, w64}

-- the permitted sizes of an image, in bytes: the multiples of 8 from 64 to 1,048,576
pub record IsSize (size : ℕ) : Type 0 where
  pub least : 64 ≤ size
  pub most : size ≤ 1048576
  pub whole_words : size % 8 ≡ 0

-- the test whether a size is permitted
unfoldable pub is_image_size : ℕ → Bool
is_image_size size = nat_le 64 size && nat_le size 1048576 && size % 8 == 0

-- each number fits a byte
abbrev pub AreBytes : List ℕ → Type 0
AreBytes bytes = All (λ byte. byte < 256) bytes

-- a memory image: its size is permitted, and its numbers are bytes
pub record IsImage (image : List ℕ) : Type 0 where
  pub sized : IsSize (length image)
  pub bytes : AreBytes image

-- memory with bytes stored at an address
abbrev pub with_bytes : List ℕ → ℕ → List ℕ → List ℕ
with_bytes memory address bytes = take address memory ++ (bytes ++ drop (address + length bytes) memory)

-- the word at an address, if all its 8 bytes are inside
unfoldable pub word_at : List ℕ → ℕ → Option ℕ
word_at memory address =
    if nat_le (address + 8) (length memory) then Some (from_le_bytes w64 (take 8 (drop address memory))) else None

-- the memory with a word stored at an address; nothing changes if one of its 8 bytes is outside
unfoldable pub put_word : List ℕ → ℕ → ℕ → List ℕ
put_word memory address word =
    if nat_le (address + 8) (length memory) then take address memory ++ (to_le_bytes w64 word ++ drop (address + 8) memory) else memory
