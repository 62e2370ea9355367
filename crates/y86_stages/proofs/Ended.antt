-- How a call ends, from what the code did.
use Rattle.std.proofs.Common.{◌≡◌, ℕ, Option, Some, None, Result, Ok, Err, inl, inr, refl, subst}
use Rattle.cli_plans.specs.PlanFollowing.{FilesState, SinkState}
use Rattle.cli_plans.specs.Calls.{WroteError}
use Rattle.cli_plans.specs.Stops.{status_of}
use Rattle.cli_plans.specs.declared.stop_reason.StopReason as code
use Rattle.cli_plans.specs.declared.stop_reason.StopReason.TheVariants.{Memory, Usage}
use Rattle.y86_words.specs.Forms.{form_of}
use Rattle.y86_stages.specs.ShowContract.{ShowContract, ShowOutcome, CallEndsAs, request_of, stop_line}
use Rattle.y86_stages.specs.ScannedWords.{Scanned, window_of}

module _ (said : Option Scanned) (files_before files_after : FilesState) (out_before out_after err_before err_after : SinkState) (status : ℕ) where
  none_ends : files_after ≡ files_before → out_after ≡ out_before → CallEndsAs None files_before files_after out_before out_after (Err Usage)
  unfolding CallEndsAs ShowOutcome
  none_ends files out = (refl, files, out)

  some_ends : (r : Scanned) (result : Result ℕ code.StopReason) → ShowOutcome r.processor (request_of (form_of r.words)) (window_of r) files_before files_after out_before out_after result →
      CallEndsAs (Some r) files_before files_after out_before out_after result
  unfolding CallEndsAs
  some_ends r result ends = ends

  -- the words aren't valid
  pub called_usage : None ≡ said → files_after ≡ files_before → out_after ≡ out_before → status ≡ 2 → WroteError err_before err_after (stop_line Usage) →
      ShowContract said files_before files_after out_before out_after err_before err_after status
  called_usage e files out two told =
      let P : Option Scanned → Type 0 = λ r. CallEndsAs r files_before files_after out_before out_after (Err Usage) in
      record { result = Err Usage; ends = inl (subst P e (none_ends files out)); tells = (two, told, λ four. absurd (cc (four))) }

  -- out of memory before anything is read
  pub called_memory : files_after ≡ files_before → out_after ≡ out_before → status ≡ 6 → WroteError err_before err_after (stop_line Memory) →
      ShowContract said files_before files_after out_before out_after err_before err_after status
  called_memory files out six told =
      record { result = Err Memory; ends = inr (refl, files, out); tells = (six, told, λ four. absurd (cc (four))) }

  -- the run was shown
  pub called_done : (r : Scanned) (shown : ℕ) → Some r ≡ said → ShowOutcome r.processor (request_of (form_of r.words)) (window_of r) files_before files_after out_before out_after (Ok shown) →
      status ≡ shown → err_after ≡ err_before → ShowContract said files_before files_after out_before out_after err_before err_after status
  called_done r shown e ends same quiet =
      let P : Option Scanned → Type 0 = λ r. CallEndsAs r files_before files_after out_before out_after (Ok shown) in
      record { result = Ok shown; ends = inl (subst P e (some_ends r (Ok shown) ends)); tells = (same, quiet) }

  -- it stopped
  pub called_stopped : (r : Scanned) (stop : code.StopReason) → Some r ≡ said →
      ShowOutcome r.processor (request_of (form_of r.words)) (window_of r) files_before files_after out_before out_after (Err stop) →
      status ≡ status_of stop → WroteError err_before err_after (stop_line stop) → (status_of stop ≡ 4 → err_after ≡ err_before) →
      ShowContract said files_before files_after out_before out_after err_before err_after status
  called_stopped r stop e ends is told quiet =
      let P : Option Scanned → Type 0 = λ r. CallEndsAs r files_before files_after out_before out_after (Err stop) in
      record { result = Err stop; ends = inl (subst P e (some_ends r (Err stop) ends)); tells = (is, told, quiet) }
