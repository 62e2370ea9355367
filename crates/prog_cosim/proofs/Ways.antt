-- What the two runs of a generated program are, from the calls that make them.
use Rattle.std.proofs.Common.{◌≡◌, ◌↔◌, ℕ, true, Bool, List, length, sym, ap, subst, ◌∙◌}
use Rattle.y86_base.specs.declared.parts.Stat.{Stat}
use Rattle.y86_base.specs.declared.parts.Stat.TheVariants.{Hlt}
use Rattle.y86_base.specs.declared.parts.Variant.{Variant}
use Rattle.y86_isa.proofs.Images.{length-run_from}
use Rattle.y86_isa.specs.Machine.{start}
use Rattle.y86_isa.specs.Run.{records_from, run_from}
use Rattle.y86_isa.specs.declared.machine.Machine.{Machine}
use Rattle.y86_isa.specs.declared.machine.Rec.{Rec}
use Rattle.yis_run.specs.Report.{report}
use Rattle.hcl_types.specs.declared.term.Term.{Term}
use Rattle.pipe_path.specs.Pipe as pipe
use Rattle.prog_gen.specs.Programs.{program}
use Rattle.retire_trace.specs.Drive as drive
use Rattle.retire_trace.specs.declared.driving.Drove.{Drove}
use Rattle.prog_cosim.specs.Cosimulation.{IsCosimulation, run_limit}
use Rattle.prog_cosim.specs.RunsTo.{RunsTo, end_of}
use Rattle.prog_cosim.proofs.Drives as drives

-- the run of instructions of a copy of an image keeps its size
pub one_size : (v : Variant) (first image : List ℕ) (limit : ℕ) (begun ended last : Machine) → image ≡ first → begun ≡ start image → ended ≡ run_from v begun limit →
    last ≡ ended → length first ≡ length last.mem
one_size v first image limit begun ended last copied is ran told =
    sym (ap (λ (m : Machine). length m.mem) (told ∙ ran) ∙ (length-run_from v begun limit ∙ (ap (λ (m : Machine). length m.mem) is ∙ ap length copied)))

same_is : (first image : List ℕ) (one m other q : Machine) (steps retired count : ℕ) (same : Bool) → first ≡ image → one ≡ m → other ≡ q → retired ≡ count →
    ((same ≡ true) ↔ (report first one steps ≡ report first other retired)) → (same ≡ true) ↔ (report image m steps ≡ report image q count)
same_is first image one m other q steps retired count same e f g h t =
    subst (λ (x : List ℕ). (same ≡ true) ↔ (report x m steps ≡ report x q count)) e
    (subst (λ (x : Machine). (same ≡ true) ↔ (report first x steps ≡ report first q count)) f
    (subst (λ (x : Machine). (same ≡ true) ↔ (report first one steps ≡ report first x count)) g
    (subst (λ (x : ℕ). (same ≡ true) ↔ (report first one steps ≡ report first other x)) h t)))

halted_is : (a b c d : Stat) (halted : Bool) → a ≡ b → c ≡ d → ((halted ≡ true) ↔ ((a ≡ Hlt) × (c ≡ Hlt))) → (halted ≡ true) ↔ ((b ≡ Hlt) × (d ≡ Hlt))
halted_is a b c d halted e f t =
    subst (λ (x : Stat). (halted ≡ true) ↔ ((x ≡ Hlt) × (d ≡ Hlt))) e (subst (λ (x : Stat). (halted ≡ true) ↔ ((a ≡ Hlt) × (x ≡ Hlt))) f t)

-- the run of instructions: the machine before and after it, and its number of steps
pub record RanOne (v : Variant) (image : List ℕ) (limit : ℕ) (last : Machine) (steps : ℕ) : Type 0 where
  pub counted : steps ≡ length (records_from v (start image) limit)
  pub machine : last ≡ run_from v (start image) limit

pub ran_one : (v : Variant) (first image whole : List ℕ) (limit steps : ℕ) (begun ended last : Machine) → image ≡ first → first ≡ whole → begun ≡ start image →
    ended ≡ run_from v begun limit → steps ≡ length (records_from v begun limit) → last ≡ ended → RanOne v whole limit last steps
ran_one v first image whole limit steps begun ended last copied is started ran told_steps told =
    let same : begun ≡ start whole = started ∙ ap start (copied ∙ is) in
    record {
      counted = told_steps ∙ ap (λ (m : Machine). length (records_from v m limit)) same;
      machine = told ∙ (ran ∙ ap (λ (m : Machine). run_from v m limit) same);
    }

pub both_are : (v : Variant) (terms : List Term) (n : ℕ) (order first image : List ℕ) (m q : pipe.PipeMachine) (d : Drove) (records : List Rec) (last other : Machine) (steps : ℕ)
    (same halted : Bool) → first ≡ program n → image ≡ first → RanOne v (program n) (run_limit n) last steps → m ≡ pipe.started v terms order image →
    drive.IsDrive m (run_limit n) q d records → other ≡ pipe.end_of q →
    ((same ≡ true) ↔ (report first last steps ≡ report first other d.retired)) → ((halted ≡ true) ↔ ((last.stat ≡ Hlt) × (d.end ≡ Hlt))) →
    IsCosimulation v terms n (record { steps = steps; cycles = d.cycles; same = same; halted = halted })
both_are v terms n order first image m q d records last other steps same halted is copied one begun went told same_told halted_told = record {
  end = drives.machine q records;
  runs = subst (λ (x : List ℕ). RunsTo v terms x (run_limit n) d.cycles (drives.machine q records)) (copied ∙ is)
      (drives.runs v terms order image (run_limit n) m q d records begun went);
  steps = one.counted;
  same = same_is first (program n) last (run_from v (start (program n)) (run_limit n)) other (end_of (drives.machine q records)) steps d.retired (length records) same is one.machine told
      went.retired same_told;
  halted = halted_is last.stat (run_from v (start (program n)) (run_limit n)).stat d.end q.end halted (ap (λ (x : Machine). x.stat) one.machine) went.end halted_told;
}
