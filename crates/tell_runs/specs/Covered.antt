-- What the status of `program` says of the object text.
use Rattle.std.specs.Prelude.{ℕ, ◌≡◌, Bool, true, false, List, Ok}
use Rattle.program_check.specs.Near.{IsWatched}
use Rattle.program_check.specs.declared.watching.Watched.{Watched}
use Rattle.run_report.specs.Outcome.{is_apart}
use Rattle.y86_base.specs.declared.parts.Variant.{Variant}
use Rattle.yo_object.specs.ObjectText.{object_of}

-- whether its program stops within the limit, and no instruction fetches a byte that one of the three before it stored
pub record IsWatchedText (v : Variant) (size limit : ℕ) (covered : Bool) (object : List ℕ) : Type 0 where
  pub image : List ℕ
  pub watched : Watched
  pub loads : object_of object size ≡ Ok image
  pub is : IsWatched v image limit watched
  pub apart : is_apart watched ≡ covered

abbrev pub IsCoveredText : Variant → ℕ → ℕ → List ℕ → Type 0
IsCoveredText v size limit = IsWatchedText v size limit true

abbrev pub IsUncoveredText : Variant → ℕ → ℕ → List ℕ → Type 0
IsUncoveredText v size limit = IsWatchedText v size limit false
