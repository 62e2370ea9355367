-- What the program shows of a run is one of the answers.
use Rattle.std.proofs.Common.{◌≡◌, ℕ, List, Option, refl, Result}
use Rattle.hcl_types.specs.declared.term.Term.{Term}
use Rattle.pipe_stage_text.specs.declared.observer.CycleRange.{CycleRange}
use Rattle.y86_base.specs.declared.parts.Stat.{Stat}
use Rattle.y86_base.specs.declared.parts.Variant.{Variant}
use Rattle.cli_plans.specs.Stages.{run_status}
use Rattle.cli_plans.specs.PlanFollowing.{WritesAnswer, SinkState}
use Rattle.cli_plans.specs.Plan.{done}
use Rattle.cli_plans.specs.declared.stop_reason.StopReason as code
use Rattle.cli_plans.proofs.Does.{says_more}
use Rattle.y86_stages.specs.ShowAnswers.{ShownAnswers, Shows}
use Rattle.hcl_types.specs.declared.table.Datapath.{Datapath}

pub shown_says : (processor : Datapath) (v : Variant) (terms : List Term) (listing : ℕ → Option (List ℕ)) (limit : ℕ) (window : CycleRange) (image : List ℕ)
    (text : List ℕ) (end : Stat) (status : ℕ) (old new : SinkState) (result : Result ℕ code.StopReason) → Shows processor v terms listing limit window image text end →
    status ≡ run_status end → WritesAnswer (λ a. a ≡ done status text) old new result → WritesAnswer (ShownAnswers processor v terms listing limit window image) old new result
shown_says processor v terms listing limit window image text end status old new result shows status_is said =
    says_more (λ a. a ≡ done status text) (ShownAnswers processor v terms listing limit window image) old new result
    (λ a e. (text, end, shows, rw (e, status_is) refl))
    said
