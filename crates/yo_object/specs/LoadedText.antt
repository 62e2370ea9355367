-- What a user may conclude from the definition of object text.
use Rattle.std.specs.Prelude.{◌≡◌, ◌⊎◌, ◌↔◌, ℕ, ◌+◌, ◌*◌, ◌/◌, ◌%◌, ◌<◌, ◌≤◌, All, List, ◌∷◌, ◌++◌, length, slice_index, Ok, Err}
use Rattle.std.specs.Str.Parse.{digits_value}
use Rattle.y86_base.specs.Text.{lines}
use Rattle.yo_object.specs.declared.object.YoWhy.{YoWhy}
use Rattle.yo_object.specs.declared.object.YoWhy.TheVariants.{Syntax, OddDigits, OutsideMemory, AddressTooWide, Memory}
use Rattle.yo_object.specs.declared.object.YoFault.{YoFault}
use Rattle.yo_object.specs.Grammar.{IsObjectLine, BeginsObjectLine}
use Rattle.yo_object.specs.ObjectText.{bytes_of_pairs, object_of}

-- a line that doesn't begin with `0x` after blanks
abbrev pub IsSkipped : List ℕ → Type 0
IsSkipped line = (rest : List ℕ) → BeginsObjectLine line rest → ⊥

-- a well-formed line whose digits write an address and bytes, each byte inside a memory of the size
pub record PutsBytes (size : ℕ) (line : List ℕ) : Type 0 where
  pub address : ℕ
  pub bytes : List ℕ
  pub digits : List ℕ
  pub pairs : List ℕ
  pub form : IsObjectLine line digits pairs
  pub narrow : length digits ≤ 16
  pub number : digits_value 16 digits ≡ address
  pub written : bytes_of_pairs pairs ≡ bytes
  pub double : length pairs ≡ 2 * length bytes
  pub inside : 0 < length bytes → address + length bytes ≤ size

-- a line is skipped, or stores its bytes
abbrev pub IsGood : ℕ → List ℕ → Type 0
IsGood size line = IsSkipped line ⊎ PutsBytes size line

-- a line has no byte at an address
abbrev pub PutsNoneAt : ℕ → ℕ → List ℕ → Type 0
PutsNoneAt size address line = (p : PutsBytes size line) → (address < p.address) ⊎ (p.address + length p.bytes ≤ address)

-- the fault of a well-formed line, from its digits: the first in this order
abbrev pub HaveFault : ℕ → List ℕ → List ℕ → YoWhy → Type 0
HaveFault size digits pairs AddressTooWide = 16 < length digits
HaveFault size digits pairs OddDigits = (length digits ≤ 16) × (length pairs % 2 ≡ 1)
HaveFault size digits pairs OutsideMemory =
    (length digits ≤ 16) × (length pairs % 2 ≡ 0) × (0 < length pairs) × (size < digits_value 16 digits + length pairs / 2)
HaveFault size digits pairs Syntax = ⊥
HaveFault size digits pairs Memory = ⊥

-- a line begins with `0x` and is not well-formed
pub record IsMalformed (line : List ℕ) : Type 0 where
  pub rest : List ℕ
  pub begins : BeginsObjectLine line rest
  pub formless : (digits pairs : List ℕ) → IsObjectLine line digits pairs → ⊥

-- a line has a fault in a memory of the size
abbrev pub HasFault : ℕ → List ℕ → YoWhy → Type 0
HasFault size line why =
    ((why ≡ Syntax) × IsMalformed line) ⊎ ((digits : List ℕ) × (pairs : List ℕ) × IsObjectLine line digits pairs × HaveFault size digits pairs why)

-- a fault is that of the first line that has one; `number` is the number of the first of these lines
pub record IsFirstFault (size number : ℕ) (lines : List (List ℕ)) (fault : YoFault) : Type 0 where
  pub before : List (List ℕ)
  pub line : List ℕ
  pub after : List (List ℕ)
  pub parts : lines ≡ before ++ line ∷ after
  pub numbered : fault.line ≡ number + length before
  pub good : All (IsGood size) before
  pub faulty : HasFault size line fault.why

-- a text is accepted exactly if each of its lines is good
abbrev pub AcceptsGoodLines : Type 0
AcceptsGoodLines = (text : List ℕ) (size : ℕ) → ((image : List ℕ) × (object_of text size ≡ Ok image)) ↔ All (IsGood size) (lines text)

-- a text is refused because of its first line with a fault; lines count from 1
abbrev pub RefusesFirstFault : Type 0
RefusesFirstFault = (text : List ℕ) (size : ℕ) (fault : YoFault) → object_of text size ≡ Err fault → IsFirstFault size 1 (lines text) fault

-- the image has the size
abbrev pub HasItsSize : Type 0
HasItsSize = (text : List ℕ) (size : ℕ) (image : List ℕ) → object_of text size ≡ Ok image → length image ≡ size

-- the byte at an address is the one from the last line that stores one there
abbrev pub LastLineWins : Type 0
LastLineWins =
    (text : List ℕ) (size : ℕ) (image : List ℕ) → object_of text size ≡ Ok image
    → (before after : List (List ℕ)) (line : List ℕ) → lines text ≡ before ++ line ∷ after
    → (p : PutsBytes size line) (k : ℕ) → k < length p.bytes → All (PutsNoneAt size (p.address + k)) after
    → slice_index image (p.address + k) ≡ slice_index p.bytes k

-- and 0 if no line stores one
abbrev pub IsZeroWithoutLine : Type 0
IsZeroWithoutLine =
    (text : List ℕ) (size : ℕ) (image : List ℕ) → object_of text size ≡ Ok image
    → (address : ℕ) → All (PutsNoneAt size address) (lines text) → slice_index image address ≡ 0
