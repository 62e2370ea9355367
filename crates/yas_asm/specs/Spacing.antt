-- Lines that differ only in comments and blanks.
use Rattle.std.specs.Prelude.{◌≡◌, ℕ, Bool, true, ◌||◌, ◌==◌, if◌then◌else◌, List, [], ◌∷◌, map, Option, Result, Ok, Err}
use Rattle.y86_base.specs.declared.parts.Variant.{Variant}
use Rattle.y86_base.specs.Text.{begins, is_blank, lines}
use Rattle.yas_asm.specs.declared.fault.AsmFault.{AsmFault}
use Rattle.yas_asm.specs.declared.listing.Line.{Line}
use Rattle.yas_asm.specs.Comments.{ends}
use Rattle.yas_asm.specs.Assembly.{assembled}

-- `$` `,` `(` `)` or `:`
abbrev pub is_sign : ℕ → Bool
is_sign byte = byte == 36 || byte == 44 || byte == 40 || byte == 41 || byte == 58

-- a line without its comment, with only the blanks that keep its tokens apart: none at its ends and beside a sign, and
-- else one space. `close` says that no blank is needed in front. A `/` that begins no last comment is in no well-formed
-- line, and from it on nothing changes
unfoldable pub squeezed : Bool → List ℕ → List ℕ
squeezed close [] = []
squeezed close (byte ∷ bytes) =
    if ends (byte ∷ bytes) then []
    else (if is_blank byte then (if close || begins (λ next. is_blank next || is_sign next) bytes then squeezed close bytes else 32 ∷ squeezed close bytes)
    else (if byte == 47 then byte ∷ bytes else byte ∷ squeezed (is_sign byte) bytes))

-- the address and the bytes that a line shows
abbrev pub place_of : Line → Option ℕ × List ℕ
place_of line = (line.addr, line.bytes.items)

-- the result for a source without its texts: the places of its lines, or its fault
abbrev pub places : Result (List Line) AsmFault → Result (List (Option ℕ × List ℕ)) AsmFault
places (Ok listing) = Ok (map place_of listing)
places (Err fault) = Err fault

-- two sources that differ only in comments and blanks have the same addresses and bytes, line for line, or the same
-- fault in the same line
abbrev pub SpacingIsFree : Type 0
SpacingIsFree =
    (variant : Variant) (size : ℕ) (one other : List ℕ) → map (squeezed true) (lines one) ≡ map (squeezed true) (lines other)
    → places (assembled variant one size) ≡ places (assembled variant other size)
