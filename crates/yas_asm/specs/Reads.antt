-- The result of a reading function: the thing read and the bytes after it, or None if there is no such thing.
use Rattle.std.specs.Prelude.{◌≡◌, ℕ, List, Option, Some, None}

-- after a successful reading the bytes after the thing are left; if nothing was read, no clause says what is left
abbrev pub LeavesRest : {A : Type 0} → Option A → Option (A × List ℕ) → List ℕ → Type 0
LeavesRest None said left = said ≡ None
LeavesRest (Some thing) said left = said ≡ Some (thing, left)

-- the same for a sign, which has no value
abbrev pub LeavesRestOfSign : {A : Type 0} → Option A → Option (List ℕ) → List ℕ → Type 0
LeavesRestOfSign None said left = said ≡ None
LeavesRestOfSign (Some _) said left = said ≡ Some left
