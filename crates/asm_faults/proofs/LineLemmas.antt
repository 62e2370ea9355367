-- The faulty lines, one after another.
use Rattle.std.proofs.Common.{◌≡◌, ℕ, ◌+◌, ◌≤◌, ◌<◌, List, [], ◌∷◌, ◌++◌, length, refl, sym, ap, ◌∙◌, arith, append_assoc, append-nil}
use Rattle.std.specs.Prelude.{Result, Ok, Err}
use Rattle.y86_base.specs.declared.parts.Variant.{Variant}
use Rattle.y86_base.specs.Text.{lines}
use Rattle.yas_asm.specs.declared.fault.AsmWhy.{AsmWhy}
use Rattle.yas_asm.specs.declared.statement.Parsed.{Parsed}
use Rattle.yas_asm.specs.Grammar.{read_line}
use Rattle.asm_faults.specs.declared.lines.LineFault.{LineFault}
use Rattle.asm_faults.specs.Faulty.{with_fault, faulty}

-- the loop invariant: the faults so far, and those of the rest
pub record Noted (variant : Variant) (source : List ℕ) (number : ℕ) (list : List LineFault) (rest : List ℕ) : Type 0 where
  pub few : number + length rest ≤ length source + 1
  pub same : list ++ faulty variant number (lines rest) ≡ faulty variant 1 (lines source)

pub noted_first : (variant : Variant) (source : List ℕ) → Noted variant source 1 [] source
noted_first variant source = record { few = omega arith; same = refl }

with_more : (number : ℕ) (r : Result Parsed AsmWhy) (others : List LineFault) → with_fault number r [] ++ others ≡ with_fault number r others
with_more number (Ok parsed) others = refl
with_more number (Err why) others = refl

pub noted_more : (variant : Variant) (source : List ℕ) (number : ℕ) (list : List LineFault) (rest line behind : List ℕ) → Noted variant source number list rest →
    lines rest ≡ line ∷ lines behind → length behind < length rest → Noted variant source (number + 1) (list ++ with_fault number (read_line variant line) []) behind
unfolding faulty
noted_more variant source number list rest line behind n e short =
    let f = n.few in
    record {
      few = omega arith;
      same = append_assoc list (with_fault number (read_line variant line) []) (faulty variant (number + 1) (lines behind))
          ∙ ap (λ some. list ++ some) (with_more number (read_line variant line) (faulty variant (number + 1) (lines behind)) ∙ ap (faulty variant number) (sym e)) ∙ n.same;
    }

pub noted_end : (variant : Variant) (source : List ℕ) (number : ℕ) (list : List LineFault) (rest : List ℕ) → Noted variant source number list rest → rest ≡ [] →
    list ≡ faulty variant 1 (lines source)
unfolding faulty
noted_end variant source number list rest n e = sym (append-nil list) ∙ ap (λ some. list ++ faulty variant number (lines some)) (sym e) ∙ n.same
