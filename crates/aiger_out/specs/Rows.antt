-- What the reader keeps from a text: the lines before its symbols, by their places, and which of them first defines
-- each variable.
use Rattle.std.specs.Prelude.{◌≡◌, ℕ, ◌+◌, ◌^◌, ◌-◌, ◌<◌, ◌≤◌, nat_lt, List, length, get_or, drop, Some, None, ◌≢◌}
use Rattle.aiger_out.specs.declared.fault.AagFault.{AagFault}
use Rattle.aiger_out.specs.declared.form.Header.{Header}
use Rattle.aiger_out.specs.declared.form.AagLine.{AagLine}
use Rattle.aiger_out.specs.declared.form.AagLine.TheVariants.{Other}
use Rattle.aiger_out.specs.Lines.{ended, unended}
use Rattle.aiger_out.specs.Form.{line_at, is_defined, line_fault, rest_from}

-- the line at a place
abbrev pub row : List AagLine → ℕ → AagLine
row rows j = get_or rows j Other

-- the first `count` lines of a text, and what follows them
pub record AreRows (h : Header) (text : List ℕ) (count : ℕ) (rows : List AagLine) (left : List ℕ) : Type 0 where
  pub size : length rows ≡ count
  pub lines : (j : ℕ) → j < count → row rows j ≡ line_at h (ended text) j
  pub rest : ended left ≡ drop count (ended text)
  pub more : unended left ≡ unended text

-- the place that means: no line defines the variable
abbrev pub nowhere : ℕ
nowhere = 2 ^ 64 - 1

-- the place of the first line that defines a variable
abbrev pub first_at : List ℕ → ℕ → ℕ
first_at firsts v = get_or firsts v nowhere

pub record AreFirsts (h : Header) (at : ℕ → AagLine) (count : ℕ) (firsts : List ℕ) : Type 0 where
  pub size : length firsts ≡ h.most + 1
  pub places : (v : ℕ) → first_at firsts v ≢ nowhere → first_at firsts v < count
  pub defined : (j v : ℕ) → 1 ≤ j → j ≤ count → is_defined h at j v ≡ nat_lt (first_at firsts v) j

-- no line after the header and before a place has a fault
abbrev pub IsFine : Header → (ℕ → AagLine) → ℕ → Type 0
IsFine h at count = (j : ℕ) → 1 ≤ j → j < count → line_fault h at j (at j) ≡ None

-- the first line before the symbols that has a fault, counted from 1
pub record IsFirstFault (h : Header) (at : ℕ → AagLine) (f : AagFault) : Type 0 where
  pub from : 2 ≤ f.line
  pub to : f.line ≤ rest_from h
  pub has : line_fault h at (f.line - 1) (at (f.line - 1)) ≡ Some f.why
  pub before : IsFine h at (f.line - 1)
