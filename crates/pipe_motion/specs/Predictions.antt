-- Which jumps a file predicts as taken.
use Rattle.std.specs.Prelude.{ℕ, Bool, false, get_or, if◌then◌else◌}
use Rattle.pipe_motion.specs.declared.settings.Settings.{Settings}

-- whether a jump with this ifun, which goes back or not, is predicted as taken; with an ifun over 6, none is
abbrev pub predicts : Settings → ℕ → Bool → Bool
predicts s ifun back = if back then get_or s.pb ifun false else get_or s.pt ifun false
