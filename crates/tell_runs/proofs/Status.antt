-- What the status of `run` and `program` says, from the parts of the answer.
use Rattle.std.proofs.Common.{◌≡◌, ◌↔◌, arith, refl, ℕ, Bool, true, false, List, Option, Some, None, IfSome, Ok}
use Rattle.fault_report.specs.ObjectBytes.{puts_bytes}
use Rattle.program_check.specs.Near.{IsWatched}
use Rattle.program_check.specs.declared.watching.Watched.{Watched}
use Rattle.program_check.specs.declared.watching.Watched.TheVariants.{Apart, Meets}
use Rattle.program_report.specs.Sentences.{watched_status}
use Rattle.run_report.specs.Outcome.{is_same}
use Rattle.run_report.specs.declared.outcome.Outcome.{Outcome}
use Rattle.tell_faults.specs.Faultless.{IsLoadable}
use Rattle.tell_faults.specs.Told.{HasBothWith, HasBytesWith}
use Rattle.tell_runs.specs.Covered.{IsCoveredText, IsUncoveredText}
use Rattle.tell_runs.specs.Running.{EndsApart, IsRun}
use Rattle.wb_io.specs.Files.{HasBytes}
use Rattle.y86_base.specs.declared.parts.Variant.{Variant}
use Rattle.yo_object.specs.ObjectText.{object_of}

-- what a source tells later it told before, if it told anything then
pub told_before : (before now : Option (Option (List ℕ))) (bytes : List ℕ) → IfSome before (λ known. now ≡ Some known) → HasBytes now bytes → HasBytes before bytes
told_before None now bytes stays has = tt
told_before (Some known) now bytes stays has = rw stays at has

pub of_both : (hcl obj : Option (Option (List ℕ))) (source object : List ℕ) (P : List ℕ → List ℕ → Type 0) → HasBytes hcl source → HasBytes obj object → P source object → HasBothWith hcl obj P
of_both hcl obj source object P first second has = (source, first, (object, second, has))

-- ---- object texts without a byte

pub is_empty : (size : ℕ) (object : List ℕ) → puts_bytes object ≡ false → IsLoadable size object → ⊥
is_empty size object none (image, loads, puts) = absurd (cc (none, puts))

pub empty : (size : ℕ) (told : Option (Option (List ℕ))) (object : List ℕ) → HasBytes told object → puts_bytes object ≡ false → HasBytesWith told (λ object. IsLoadable size object → ⊥)
empty size told object bytes none = (object, bytes, is_empty size object none)

-- ---- programs

pub covered : (v : Variant) (size limit : ℕ) (told : Option (Option (List ℕ))) (object image : List ℕ) (w : Watched) → HasBytes told object → object_of object size ≡ Ok image → IsWatched v image limit w → watched_status w ≡ 0 →
    HasBytesWith told (IsCoveredText v size limit)
covered v size limit told object image (Apart steps true) bytes loads watched zero = (object, bytes, record { image = image; watched = Apart steps true; loads = loads; is = watched; apart = refl })
covered v size limit told object image (Apart steps false) bytes loads watched zero = absurd (cc (zero))
covered v size limit told object image (Meets f) bytes loads watched zero = absurd (cc (zero))

pub uncovered : (v : Variant) (size limit : ℕ) (told : Option (Option (List ℕ))) (object image : List ℕ) (w : Watched) → HasBytes told object → object_of object size ≡ Ok image → IsWatched v image limit w → watched_status w ≡ 1 →
    HasBytesWith told (IsUncoveredText v size limit)
uncovered v size limit told object image (Apart steps true) bytes loads watched one = absurd (cc (one))
uncovered v size limit told object image (Apart steps false) bytes loads watched one = (object, bytes, record { image = image; watched = Apart steps false; loads = loads; is = watched; apart = refl })
uncovered v size limit told object image (Meets f) bytes loads watched one = (object, bytes, record { image = image; watched = Meets f; loads = loads; is = watched; apart = refl })

-- ---- runs

not_same : (same : Bool) (status : ℕ) → (status ≡ 0) ↔ (same ≡ true) → status ≡ 1 → same ≡ false
not_same true status both one = absurd (omega (arith, both.1 refl, one))
not_same false status both one = refl

pub runs_apart : (v : Variant) (size limit status : ℕ) (source object : List ℕ) (outcome : Outcome) → IsRun v source object size limit outcome → (status ≡ 0) ↔ (is_same outcome.compared ≡ true) → status ≡ 1 →
    EndsApart v size limit source object
runs_apart v size limit status source object outcome is both one = record { outcome = outcome; is = is; same = not_same (is_same outcome.compared) status both one }
