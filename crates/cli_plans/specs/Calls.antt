-- What every call has apart from its command: the words after the program's own name, and a text on standard error.
use Rattle.std.specs.Prelude.{◌≡◌, ◌⊎◌, ℕ, List, drop, map, string_bytes}
use Rattle.std.specs.Global.{Global}
use Rattle.std.specs.Vec.Iter.{into_iter_items}
use Rattle.std.specs.declared.string.String.{String}
use Rattle.std.specs.declared.vec.IntoIter.{IntoIter}
use Rattle.wb_io.specs.Causes.{counted}
use Rattle.wb_io.specs.Sinks.{Appended, AppendedPrefix}
use Rattle.cli_plans.specs.PlanFollowing.{SinkState}

-- the words of a call after the program's own name
abbrev pub words_behind : IntoIter (String Global) Global → List (List ℕ)
words_behind args = map string_bytes (drop 1 (into_iter_items args))

-- a text was written on standard error: whole, or a proper prefix of it if a write failed there
abbrev pub WroteError : SinkState → SinkState → List ℕ → Type 0
WroteError before after text =
    (Appended before.taken after.taken text × (after.faults ≡ before.faults)) ⊎ (AppendedPrefix before.taken after.taken text × (after.faults ≡ counted before.faults))
