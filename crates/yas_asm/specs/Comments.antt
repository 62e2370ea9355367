-- Comments of assembly text, and the bytes that may occur outside them. `law_of_comments` states what `close_length`
-- and `bad_outside` amount to.
use Rattle.std.specs.Prelude.{ℕ, zero, suc, ◌+◌, ◌-◌, Bool, false, not, ◌&&◌, ◌||◌, ◌==◌, nat_le, nat_eq, if◌then◌else◌, List, [], ◌∷◌, length, drop, codes}
use Rattle.std.specs.List.{starts_with, list_all}
use Rattle.y86_base.specs.Text.{begins, behind, is_blank}

-- the number of bytes up to and including the first `*/`; 0 if there is none
unfoldable pub close_length : List ℕ → ℕ
close_length [] = 0
close_length (byte ∷ bytes) =
    if starts_with nat_eq (byte ∷ bytes) (codes "*/") then 2 else (if close_length bytes == 0 then 0 else close_length bytes + 1)

-- the length in bytes of the comment in front; 0 if none begins there. `#` and `//` begin one to the end of the line;
-- `/*` begins one if `*/` follows on the line
unfoldable pub comment_length : List ℕ → ℕ
comment_length text =
    if begins (λ byte. byte == 35) text || starts_with nat_eq text (codes "//") then length text
    else (if starts_with nat_eq text (codes "/*") && not (close_length (drop 2 text) == 0) then 2 + close_length (drop 2 text) else 0)

-- a blank, or a byte from 0x21 to 0x7e
abbrev pub is_good : ℕ → Bool
is_good byte = is_blank byte || (nat_le 33 byte && nat_le byte 126)

-- one sweep from the left: whether a byte that is not allowed occurs outside the comments of a line. The next `inside`
-- bytes belong to a comment that has begun
unfoldable pub bad_outside : ℕ → List ℕ → Bool
bad_outside inside [] = false
bad_outside zero (byte ∷ bytes) =
    if comment_length (byte ∷ bytes) == 0 then not (is_good byte) || bad_outside 0 bytes
    else bad_outside (comment_length (byte ∷ bytes) - 1) bytes
bad_outside (suc inside) (byte ∷ bytes) = bad_outside inside bytes

-- the end of a line: blanks, one comment at most, blanks
abbrev pub ends_at : List ℕ → Bool
ends_at text = list_all is_blank (drop (comment_length text) text)

unfoldable pub ends : List ℕ → Bool
ends bytes = ends_at (behind is_blank bytes)
