-- If the theorem covers a run, nothing differs.
use Rattle.std.proofs.Common.{◌≡◌, ℕ, true, List}
use Rattle.cosimulation.proofs.Agree.{finds_none}
use Rattle.cosimulation.specs.Agreement.{FindsNone}
use Rattle.cosimulation.specs.Lockstep.{IsCompared}
use Rattle.cosimulation.specs.declared.lockstep.Compared.{Compared}
use Rattle.hcl_types.specs.declared.term.Term.{Term}
use Rattle.pipe_path.specs.Pipe.{started}
use Rattle.program_check.specs.Near.{IsWatched}
use Rattle.program_check.specs.declared.watching.Watched.{Watched}
use Rattle.program_check.specs.declared.watching.Watched.TheVariants.{Apart, Meets}
use Rattle.y86_base.specs.Image.{IsImage}
use Rattle.y86_base.specs.declared.parts.Variant.{Variant}
use Rattle.y86_isa.specs.Machine.{start}
use Rattle.run_report.specs.Outcome.{IsJudged, is_covered}
use Rattle.run_report.specs.declared.outcome.Judged.{Judged}
use Rattle.run_report.specs.declared.outcome.Judged.TheVariants.{Yes, No, Unknown, Unasked}

module _ (v : Variant) (terms : List Term) (order image : List ℕ) (limit : ℕ) (c : Compared) (good : IsImage image)
    (compared : IsCompared v (started v terms order image) (start image) limit c) where
  pub covers : (j : Judged) (w : Watched) → IsJudged v terms j → IsWatched v image limit w → is_covered j w ≡ true → FindsNone c
  covers Yes (Apart steps stopped) (s, accepts, refines) apart covered =
      finds_none v terms order image (λ k. refines image k good (apart.near_on covered k)) limit c compared
  covers Yes (Meets f) judged watched covered = absurd (cc (covered))
  covers (No rule) w judged watched covered = absurd (cc (covered))
  covers (Unknown fault) w judged watched covered = absurd (cc (covered))
  covers Unasked w judged watched covered = absurd (cc (covered))
