-- Signals that are wrong, each once.
use Rattle.std.specs.Prelude.{ℕ, ◌==◌, List, [], ◌∷◌, ◌++◌, if◌then◌else◌}
use Rattle.std.specs.List.{list_any}
use Rattle.findings.specs.declared.finding.Finding.{Finding}

-- a name after some others, unless it is among them
abbrev pub once : List ℕ → ℕ → List ℕ
once names id = if list_any (λ (other : ℕ). other == id) names then names else names ++ id ∷ []

-- some names, and after them the signals that aren't right, each once
abbrev pub with_wrong : List ℕ → List Finding → List ℕ
with_wrong names [] = names
with_wrong names (x ∷ xs) = with_wrong (if x.is_right then names else once names x.requirement.signal) xs
