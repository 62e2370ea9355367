-- The sentences for each outcome of a watched run.
use Rattle.std.specs.Prelude.{ℕ, ◌==◌, true, false, if◌then◌else◌, codes, List, [], ◌∷◌}
use Rattle.std.specs.List.{concat}
use Rattle.program_check.specs.declared.recent.NearFetch.{NearFetch}
use Rattle.program_check.specs.declared.watching.Watched.{Watched}
use Rattle.program_check.specs.declared.watching.Watched.TheVariants.{Apart, Meets}
use Rattle.y86_base.specs.Numeral.{numeral}

-- the program stops, and the theorem covers it
unfoldable pub stops_text : ℕ → List ℕ
stops_text steps =
    concat (codes "The program stops in step " ∷ numeral 10 1 steps
    ∷ codes ".\nNo instruction fetches a byte that one of the three instructions before it stored.\nUnder every HCL file that `y86 check pipe` accepts, `y86 psim` therefore reports what `y86 yis` reports.\nAll three need the same --full; the runs need the same --mem, and `y86 psim` a --limit of at least five cycles for each step.\n"
    ∷ [])

-- it hasn't stopped within the limit
unfoldable pub open_text : ℕ → List ℕ
open_text steps =
    concat (codes "The program hasn't stopped by the end of step " ∷ numeral 10 1 steps
    ∷ codes ".\nSo far no instruction has fetched a byte that one of the three instructions before it stored.\nA larger --limit may decide.\n"
    ∷ [])

abbrev pub distance_word : ℕ → List ℕ
distance_word distance = if distance == 1 then codes "one step" else (if distance == 2 then codes "two steps" else codes "three steps")

-- it fetches what one of the three instructions before it stored
unfoldable pub meets_text : NearFetch → List ℕ
meets_text f =
    concat (codes "The instruction at 0x" ∷ numeral 16 3 f.pc ∷ codes " fetches a byte that the instruction at 0x" ∷ numeral 16 3 f.storer ∷ codes " stored " ∷ distance_word f.distance
    ∷ codes " before.\nThe store writes the 8 bytes from 0x" ∷ numeral 16 3 f.store ∷ codes " on. Steps before the fetch: " ∷ numeral 10 1 f.steps
    ∷ codes ".\nA pipeline may have fetched the old byte, so the theorem about accepted HCL files doesn't cover this program.\nThese two would be no reason if at least three other instructions ran between them.\n"
    ∷ [])

unfoldable pub watched_text : Watched → List ℕ
watched_text (Apart steps true) = stops_text steps
watched_text (Apart steps false) = open_text steps
watched_text (Meets f) = meets_text f

abbrev pub watched_status : Watched → ℕ
watched_status (Apart steps true) = 0
watched_status (Apart steps false) = 1
watched_status (Meets f) = 1
