-- What a reader may conclude from a report.
use Rattle.std.specs.Prelude.{◌≡◌, ◌≢◌, ℕ, ◌<◌, ◌↔◌, List, map}
use Rattle.std.specs.List.{Contains, concat}
use Rattle.std.specs.List.Sorted.{IsStrictlyIncreasing}
use Rattle.yis_run.specs.Report.{change}

-- a text of one line for each number below n at which the word at the end isn't the one at the start, in ascending
-- order, and of nothing else
pub record ListsChanges (start end : ℕ → ℕ) (name : ℕ → List ℕ) (n : ℕ) (text : List ℕ) : Type 0 where
  pub numbers : List ℕ
  pub ascending : IsStrictlyIncreasing numbers
  pub changed : (number : ℕ) → Contains numbers number ↔ ((number < n) × (end number ≢ start number))
  pub lines : text ≡ concat (map (λ number. change (name number) (start number) (end number)) numbers)
