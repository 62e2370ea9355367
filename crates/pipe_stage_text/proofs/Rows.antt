-- The rows of a diagram, one after another.
use Rattle.std.proofs.Common.{◌≡◌, ℕ, ◌+◌, List, ◌++◌, ◌∙◌, ap, sym, append_assoc}
use Rattle.yis_run.specs.Report.{each_below}
use Rattle.yis_run.proofs.Each.{each_below-more}

-- another row after some rows
pub more_rows : (first before after : List ℕ) (n : ℕ) (line : ℕ → List ℕ) → before ≡ first ++ each_below n line → after ≡ before ++ line n →
    after ≡ first ++ each_below (n + 1) line
more_rows first before after n line so_far one =
    one ∙ ap (λ xs. xs ++ line n) so_far ∙ append_assoc first (each_below n line) (line n) ∙ ap (λ xs. first ++ xs) (sym (each_below-more n line))

-- one part after another
pub two_parts : (before between after first second : List ℕ) → between ≡ before ++ first → after ≡ between ++ second → after ≡ before ++ (first ++ second)
two_parts before between after first second one two = two ∙ ap (λ xs. xs ++ second) one ∙ append_assoc before first second
