-- The lines of the registers that a cycle writes, one after another.
use Rattle.std.proofs.Common.{◌≡◌, Bool, true, false, if◌then◌else◌, List, [], ◌∷◌, ◌++◌, ℕ, refl, sym, ap, ◌∙◌, append_assoc, append-nil}
use Rattle.pipe_stage_text.specs.Cycle.{register_line, register_lines}

pub no_lines : (before : List ℕ) → before ≡ before ++ register_lines []
unfolding register_lines
no_lines before = sym (append-nil before)

lines_of_both : (first second : List (ℕ × ℕ)) → register_lines (first ++ second) ≡ register_lines first ++ register_lines second
unfolding register_lines
lines_of_both [] second = refl
lines_of_both (write ∷ rest) second =
    ap (λ xs. register_line write ++ xs) (lines_of_both rest second) ∙ sym (append_assoc (register_line write) (register_lines rest) (register_lines second))

pub both_lines : (before between after : List ℕ) (first second : List (ℕ × ℕ)) → between ≡ before ++ register_lines first → after ≡ between ++ register_lines second →
    after ≡ before ++ register_lines (first ++ second)
both_lines before between after first second one two =
    two ∙ ap (λ xs. xs ++ register_lines second) one ∙ append_assoc before (register_lines first) (register_lines second)
    ∙ ap (λ xs. before ++ xs) (sym (lines_of_both first second))
