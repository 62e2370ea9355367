-- What `big` answers for an accepted file.
use Rattle.std.proofs.Common.{◌≡◌, ◌≢◌, inl, inr, ℕ, ◌+◌, ◌≤◌, true, List, length, Some, None, IfSome, refl, sym, ap, subst, ◌∙◌, arith}
use Rattle.wb_io.specs.Files.{HasBytes, HasMore}
use Rattle.wb_io.specs.Sinks.{Appended}
use Rattle.y86_base.specs.declared.parts.Variant.{Variant}
use Rattle.hcl_types.specs.declared.table.Row.{Row}
use Rattle.hcl_types.specs.declared.term.Term.{Term}
use Rattle.control_check.specs.PipeVerdicts.{RefinesPipe}
use Rattle.dp_signals.specs.PipeTable.{pipe_rows}
use Rattle.prog_gen.specs.Programs.{program}
use Rattle.prog_laws.proofs.Images.{is_image}
use Rattle.prog_laws.proofs.Whole.{pure}
use Rattle.yis_pure_runs.proofs.Near.{near_from_pure}
use Rattle.prog_cosim.proofs.Refined.{runs_alike}
use Rattle.prog_cosim.specs.Cosimulation.{CosimulationAgrees}
use Rattle.prog_cosim.specs.declared.both.CosimResult.{CosimResult}
use Rattle.y86_words.proofs.Legal.{form_legal}
use Rattle.y86_words.specs.Forms.{big, form_of}
use Rattle.y86_words.specs.Wording.{IsInRange}
use Rattle.y86_call_laws.specs.CheckedRuns.{HasAccepted}
use Rattle.cli_runs.specs.Answers.{big_plan}
use Rattle.cli_runs.specs.Big.{BigAnswers, AnsweredSame, big_line, big_status}
use Rattle.hcl_design.proofs.Faults.{none_if_cyclic, none_if_unbound, none_if_unread, of_file, one_design}
use Rattle.hcl_design.specs.Designs.{IsDesign}
use Rattle.cli_plans.specs.Designs.{RefusesDesign}
use Rattle.cli_plans.specs.PlanFollowing.{CallStates}
use Rattle.cli_plans.specs.Known.{Known}
use Rattle.cli_plans.specs.Plan.{Answer, MayBeAnswer, done}
use Rattle.y86_cli.specs.CallContract.{MeetsContract}

-- ---- a text with a design isn't refused

pub not_refused : (name : List ℕ) (rows : List Row) (text : List ℕ) (terms : List Term) (a : Answer) → IsDesign rows text terms → RefusesDesign name rows text a → ⊥
not_refused name rows text terms a d (inl (fault, is, told)) = none_if_unread rows text fault is (terms, d)
not_refused name rows text terms a d (inr (inl unbound)) =
    none_if_unbound rows unbound.file.items unbound.fault unbound.binds (of_file rows text unbound.file unbound.reads (terms, d))
not_refused name rows text terms a d (inr (inr unordered)) =
    none_if_cyclic rows unordered.file.items unordered.terms unordered.cycle unordered.binds unordered.first (of_file rows text unordered.file unordered.reads (terms, d))

-- ---- `big` for an accepted file

pub record Alike (n : ℕ) (a : Answer) : Type 0 where
  pub both : CosimResult
  pub alike : CosimulationAgrees n both
  pub is : a ≡ done (big_status both) (big_line n both)

big_alike : (v : Variant) (terms : List Term) (n : ℕ) (a : Answer) → 1 ≤ n → n ≤ 100000 → RefinesPipe v terms → BigAnswers v terms n a → Alike n a
big_alike v terms n a least most refines (both, goes, is) =
    record { both = both; alike = runs_alike v terms n both least most (λ k. refines (program n) k (is_image n least most) (near_from_pure v (program n) k (pure v n k least most))) goes; is = is }

pub same_bytes : (known : Known) (text bytes : List ℕ) → known ≡ Some (Some text) → HasBytes known bytes → text ≡ bytes
same_bytes None text bytes is has = absurd (cc (is))
same_bytes (Some known) text bytes is has = cc (is, has)

pub not_missing : (known : Known) (text : List ℕ) → known ≡ Some (Some text) → IfSome known (λ x. x ≡ None) → ⊥
not_missing None text is none = absurd (cc (is))
not_missing (Some known) text is none = absurd (cc (is, none))

pub not_long : (known : Known) (text : List ℕ) (limit : ℕ) → known ≡ Some (Some text) → length text ≤ limit → HasMore known limit → ⊥
not_long None text limit is short more = absurd (cc (is))
not_long (Some known) text limit is short more =
    let same : known ≡ Some text = cc (is) in
    omega (arith, rw same at more, short)

big_told : (told : List ℕ → Known) (n : ℕ) (name : List ℕ) (v : Variant) (a : Answer) (text : List ℕ) (terms : List Term) → 1 ≤ n → n ≤ 100000 →
    told name ≡ Some (Some text) → length text ≤ 65536 → IsDesign pipe_rows text terms → RefinesPipe v terms → MayBeAnswer told (big_plan n name v) a → Alike n a
unfolding big_plan
big_told told n name v a text terms least most is short design refines (inl failed) = absurd (not_missing (told name) text is failed.0)
big_told told n name v a text terms least most is short design refines (inr (inl long)) = absurd (not_long (told name) text 65536 is short long.0)
big_told told n name v a text terms least most is short design refines (inr (inr (bytes, has, fits, inr refuses))) =
    let same : text ≡ bytes = same_bytes (told name) text bytes is has in
    absurd (not_refused name pipe_rows text terms a design (subst (λ (x : List ℕ). RefusesDesign name pipe_rows x a) (sym same) refuses))
big_told told n name v a text terms least most is short design refines (inr (inr (bytes, has, fits, inl (others, other_design, answers)))) =
    let same : text ≡ bytes = same_bytes (told name) text bytes is has in
    let one : others ≡ terms = one_design pipe_rows text others terms (subst (λ (x : List ℕ). IsDesign pipe_rows x others) (sym same) other_design) design in
    big_alike v terms n a least most refines (subst (λ (x : List Term). BigAnswers v x n a) one answers)

line_is : (n : ℕ) (both : CosimResult) → CosimulationAgrees n both → big_line n both ≡ big_line n (record { steps = n + 1; cycles = both.cycles; same = true; halted = true })
unfolding big_line
line_is n both alike = rw (alike.steps, alike.same) refl

status_of_alike : (n : ℕ) (both : CosimResult) → CosimulationAgrees n both → big_status both ≡ 0
status_of_alike n both alike = rw (alike.same, alike.halted) refl

pub told_same : (words : List (List ℕ)) (n : ℕ) (name : List ℕ) (v : Variant) (call : CallStates) (status : ℕ) (text : List ℕ) →
    form_of words ≡ Some (big n name v) → call.files_before.told name ≡ Some (Some text) → length text ≤ 65536 → HasAccepted v (Some (Some text)) →
    MeetsContract (form_of words) call status → status ≢ 3 → status ≢ 4 → status ≢ 6 → AnsweredSame n call.out_before call.out_after status
told_same words n name v call status text is told short accepted ran three four six =
    let legal : IsInRange (big n name v) = form_legal words (big n name v) is in
    let ran_big : MeetsContract (Some (big n name v)) call status = rw is at ran in
    let given = ran_big.answer three six in
    let same : text ≡ accepted.text = same_bytes (Some (Some text)) text accepted.text refl accepted.has in
    let design : IsDesign pipe_rows text accepted.terms = subst (λ (x : List ℕ). IsDesign pipe_rows x accepted.terms) (sym same) accepted.design in
    let found : Alike n given.0 =
    big_told call.files_before.told n name v given.0 text accepted.terms legal.0 legal.1 told short design accepted.refines given.1.by_some in
    record {
      cycles = found.both.cycles;
      in_time = found.alike.cycles;
      status_is = given.2.status_is four ∙ (ap (λ x. x.status) found.is ∙ status_of_alike n found.both found.alike);
      told = subst (λ (line : List ℕ). Appended call.out_before.taken call.out_after.taken line) (ap (λ x. x.out) found.is ∙ line_is n found.both found.alike) (given.2.out four);
    }
