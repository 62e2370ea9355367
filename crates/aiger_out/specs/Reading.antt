-- The results of the reader.
use Rattle.std.specs.Prelude.{◌≡◌, ℕ, ◌+◌, List, ◌⊎◌}
use Rattle.nets.specs.Nets.{Gates}
use Rattle.aiger_out.specs.declared.fault.AagError.{AagError}
use Rattle.aiger_out.specs.declared.fault.AagError.TheVariants.{Fault, Memory}
use Rattle.aiger_out.specs.declared.fault.AagFault.{AagFault}
use Rattle.aiger_out.specs.declared.fault.AagWhy.TheVariants.{Syntax}
use Rattle.aiger_out.specs.declared.form.Header.{Header}
use Rattle.aiger_out.specs.declared.form.AagLine.{AagLine}
use Rattle.aiger_out.specs.Lines.{ended}
use Rattle.aiger_out.specs.Form.{IsFault, has_more, rest_from}
use Rattle.aiger_out.specs.Rows.{IsFine, IsFirstFault}
use Rattle.aiger_out.specs.Tail.{IsTail, IsTailFault}
use Rattle.aiger_out.specs.Solution.{IsNetOf}

-- the first fault of a text; out of memory says nothing about it
abbrev pub IsError : ℕ → List ℕ → AagError → Type 0
IsError limit text (Fault f) = IsFault limit text f.line f.why
IsError limit text Memory = Unit {0}

-- neither the lines before the symbols nor the later ones have a fault, and a net has their outputs
pub record AreGoodLines (h : Header) (at : ℕ → AagLine) (left : List ℕ) (net : Gates) (outs : List ℕ) : Type 0 where
  pub fine : IsFine h at (rest_from h)
  pub tail : IsTail h (ended left) (has_more left)
  pub built : IsNetOf h at net outs

-- the first fault is that of a symbol's line
pub record IsTailError (h : Header) (at : ℕ → AagLine) (left : List ℕ) (f : AagFault) : Type 0 where
  pub fine : IsFine h at (rest_from h)
  pub why : f.why ≡ Syntax
  pub place : (k : ℕ) × (f.line ≡ rest_from h + k + 1) × IsTailFault h (ended left) (has_more left) k

abbrev pub IsLineError : Header → (ℕ → AagLine) → List ℕ → AagError → Type 0
IsLineError h at left (Fault f) = IsFirstFault h at f ⊎ IsTailError h at left f
IsLineError h at left Memory = Unit {0}
