-- What the exit statuses 0, 1 and 5 of a call say, each of the call's files as far as the source tells its bytes. Nothing
-- is said of `show`.
use Rattle.std.specs.Prelude.{ℕ, List, Option}
use Rattle.tell_checks.specs.Accepted.{HasNoVerdict, IsAcceptedText, IsRejectedText}
use Rattle.tell_faults.specs.Faultless.{IsFaultlessFile, IsLoadable}
use Rattle.tell_faults.specs.Told.{HasBothWith, HasBytesWith}
use Rattle.tell_runs.specs.Covered.{IsCoveredText, IsUncoveredText}
use Rattle.tell_runs.specs.Running.{EndsAlike, EndsApart, HasNoRun}
use Rattle.tell_words.specs.declared.arguments.Call.{Call}
use Rattle.tell_words.specs.declared.arguments.Call.TheVariants.{Check, Fault, Program, Run, Show}

-- status 0: `check` accepted the file, the theorem on accepted files covers the program, both runs ended alike, or the
-- file has no fault
abbrev pub IsRight : (List ℕ → Option (Option (List ℕ))) → Call → Type 0
IsRight told (Check hcl asked) = HasBytesWith (told hcl.now) (IsAcceptedText asked.path asked.variant)
IsRight told (Program obj asked) = HasBytesWith (told obj.now) (IsCoveredText asked.variant asked.size asked.limit)
IsRight told (Run hcl obj asked) = HasBothWith (told hcl.now) (told obj.now) (EndsAlike asked.variant asked.size asked.limit)
IsRight told (Fault file asked) = HasBytesWith (told file.now) (IsFaultlessFile file.now asked)
IsRight told (Show word json) = Unit {0}

-- status 1: the file breaks an obligation, the theorem doesn't cover the program, or the runs didn't both end, and alike.
-- `fault` has no such status.
abbrev pub IsWrong : (List ℕ → Option (Option (List ℕ))) → Call → Type 0
IsWrong told (Check hcl asked) = HasBytesWith (told hcl.now) (IsRejectedText asked.path asked.variant)
IsWrong told (Program obj asked) = HasBytesWith (told obj.now) (IsUncoveredText asked.variant asked.size asked.limit)
IsWrong told (Run hcl obj asked) = HasBothWith (told hcl.now) (told obj.now) (EndsApart asked.variant asked.size asked.limit)
IsWrong told (Fault file asked) = ⊥
IsWrong told (Show word json) = Unit {0}

-- status 5: the HCL file has no verdict, the object file isn't loadable, there is no run, or the file has a fault
abbrev pub IsFaulty : (List ℕ → Option (Option (List ℕ))) → Call → Type 0
IsFaulty told (Check hcl asked) = HasBytesWith (told hcl.now) (HasNoVerdict asked.path)
IsFaulty told (Program obj asked) = HasBytesWith (told obj.now) (λ text. IsLoadable asked.size text → ⊥)
IsFaulty told (Run hcl obj asked) = HasBothWith (told hcl.now) (told obj.now) (HasNoRun asked.size)
IsFaulty told (Fault file asked) = HasBytesWith (told file.now) (λ text. IsFaultlessFile file.now asked text → ⊥)
IsFaulty told (Show word json) = Unit {0}
