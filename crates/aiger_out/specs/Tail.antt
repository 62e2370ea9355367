-- The lines after the AND lines, by themselves.
use Rattle.std.specs.Prelude.{◌≡◌, ℕ, ◌<◌, Bool, ◌&&◌, ◌==◌, if◌then◌else◌, List, length, slice_get, Option, Some, None}
use Rattle.aiger_out.specs.declared.fault.AagWhy.{AagWhy}
use Rattle.aiger_out.specs.declared.fault.AagWhy.TheVariants.{Syntax}
use Rattle.aiger_out.specs.declared.form.Header.{Header}
use Rattle.aiger_out.specs.Form.{comment_within, tail_fault}

-- the fault of one of them; `more` says whether anything follows the last line feed
abbrev pub tail_fault_at : Header → List (List ℕ) → Bool → ℕ → Option AagWhy
tail_fault_at h lines more k = if comment_within lines 0 k then None else tail_fault h (slice_get lines k) (k == length lines && more)

abbrev pub IsTail : Header → List (List ℕ) → Bool → Type 0
IsTail h lines more = (k : ℕ) → tail_fault_at h lines more k ≡ None

-- the first of them with a fault
pub record IsTailFault (h : Header) (lines : List (List ℕ)) (more : Bool) (k : ℕ) : Type 0 where
  pub has : tail_fault_at h lines more k ≡ Some Syntax
  pub before : (i : ℕ) → i < k → tail_fault_at h lines more i ≡ None
