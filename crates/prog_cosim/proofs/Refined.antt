-- A generated program on PIPE under a design that refines the run of instructions on it.
use Rattle.std.proofs.Common.{◌≡◌, ◌≢◌, inl, inr, ℕ, zero, suc, ◌+◌, ◌-◌, ◌*◌, ◌<◌, ◌≤◌, true, false, List, length, refl, sym, ap, subst, ◌∙◌, arith}
use Rattle.std.proofs.lemmas.Bool.{cases_lt, false≢true}
use Rattle.y86_base.specs.declared.parts.Stat.{Stat}
use Rattle.y86_base.specs.declared.parts.Stat.TheVariants.{Bub, Aok, Hlt, Adr, Ins, Pip, Bad}
use Rattle.y86_base.specs.declared.parts.Variant.{Variant}
use Rattle.y86_isa.specs.Machine.{is_aok, start}
use Rattle.y86_isa.specs.Run.{run, records}
use Rattle.y86_isa.proofs.Runs.{is_aok-from_not, length-records_from, run_stays, records_stay}
use Rattle.hcl_types.specs.declared.term.Term.{Term}
use Rattle.dp_signals.specs.PipeRun.{PipeHistory, PipeRun, ended_by_status}
use Rattle.pipe_refinement.specs.Refines.{Refines, StopsAs}
use Rattle.prog_gen.specs.Programs.{program}
use Rattle.prog_laws.specs.Laws.{RunsToHalt}
use Rattle.prog_laws.proofs.Whole.{runs}
use Rattle.prog_cosim.specs.Cosimulation.{IsCosimulation, CosimulationAgrees, run_limit}
use Rattle.prog_cosim.specs.Ends.{EndsAs, StopsIn}
use Rattle.prog_cosim.specs.RunsTo.{RunsFor, RunsTo, end_of}
use Rattle.prog_cosim.specs.declared.both.CosimResult.{CosimResult}

-- ---- a run of instructions that has stopped

-- the run of a program that has stopped after `count` records
stops_off : (v : Variant) (image : List ℕ) (count : ℕ) → StopsIn v image count → is_aok (run v image count).stat ≡ false
stops_off v image count h = is_aok-from_not (run v image count).stat h.stopped

pub run_behind : (v : Variant) (image : List ℕ) (count k : ℕ) → StopsIn v image count → count ≤ k → run v image k ≡ run v image count
run_behind v image count k h le =
    let sum : k ≡ count + (k - count) = omega arith in
    ap (run v image) sum ∙ run_stays v image count (k - count) (stops_off v image count h)

pub records_behind : (v : Variant) (image : List ℕ) (count k : ℕ) → StopsIn v image count → count ≤ k → length (records v image k) ≡ count
records_behind v image count k h le =
    let sum : k ≡ count + (k - count) = omega arith in
    ap (λ n. length (records v image n)) sum ∙ (ap length (records_stay v image count (k - count) (stops_off v image count h)) ∙ h.records)

few : (v : Variant) (image : List ℕ) (count k : ℕ) → StopsIn v image count → length (records v image k) ≤ count
few v image count k h =
    elim (cases_lt k count) [
      | inl lt ↦ omega (arith, length-records_from v (start image) k, lt)
      | inr le ↦ omega (arith, records_behind v image count k h le)
    ]

-- if it has stopped after as many instructions as it has records, these are all
all_of_them : (v : Variant) (image : List ℕ) (count r : ℕ) → StopsIn v image count → r ≡ length (records v image r) → is_aok (run v image r).stat ≡ false → r ≡ count
all_of_them v image count r h whole off =
    elim (cases_lt r count) [
      | inl lt ↦ absurd (short lt)
      | inr le ↦ whole ∙ records_behind v image count r h le
    ]
  where
    short : r < count → ⊥
    short lt =
        let sum : count ≡ r + (count - r) = omega arith in
        let same : length (records v image count) ≡ r =
        ap (λ n. length (records v image n)) sum ∙ (ap length (records_stay v image r (count - r) off) ∙ sym whole) in
        omega (arith, same, h.records, lt)

-- ---- the pipeline has stopped by the end of cycle 5 count

stopped_off : (s : Stat) → ended_by_status s ≡ true → is_aok s ≡ false
stopped_off Bub h = refl
stopped_off Aok h = absurd (cc (h))
stopped_off Hlt h = refl
stopped_off Adr h = refl
stopped_off Ins h = refl
stopped_off Pip h = refl
stopped_off Bad h = refl

pub off_stopped : (s : Stat) → is_aok s ≡ false → s ≢ Pip → ended_by_status s ≡ true
off_stopped Bub h p = refl
off_stopped Aok h p = absurd (cc (h))
off_stopped Hlt h p = refl
off_stopped Adr h p = refl
off_stopped Ins h p = refl
off_stopped Pip h p = absurd (p refl)
off_stopped Bad h p = refl

-- a design that refines the run of instructions on an image, whose run has stopped after `count` records
record Refined (v : Variant) (terms : List Term) (image : List ℕ) (count : ℕ) : Type 0 where
  refines : (k : ℕ) → Refines v terms image k
  halts : StopsIn v image count

-- by the end of cycle 5 count it has stopped: else all have retired, and the last one stopped it
stopped_there : (v : Variant) (terms : List Term) (image : List ℕ) (count : ℕ) → Refined v terms image count → (p : PipeHistory) → PipeRun v terms image (5 * count) p → ended_by_status p.end ≡ true
stopped_there v terms image count r p ran =
    let refines : Refines v terms image (5 * count) = r.refines (5 * count) in
    elim (refines.five_cycles count p (omega arith) ran) [
      | inl many ↦
          let all : length p.records ≡ count = omega (arith, many, ap length (refines.records p ran), few v image count (length p.records) r.halts) in
          refines.stops_at_once p ran (λ on. r.halts.stopped (sym (ap (λ k. (run v image k).stat) all) ∙ on))
      | inr stopped ↦ stopped
    ]

stopped_behind : (v : Variant) (terms : List Term) (image : List ℕ) (count : ℕ) → Refined v terms image count → (d : ℕ) (p : PipeHistory) → PipeRun v terms image (d + 5 * count) p →
    ended_by_status p.end ≡ true
stopped_behind v terms image count r zero p ran =
    let none : 0 + 5 * count ≡ 5 * count = omega arith in
    stopped_there v terms image count r p (subst (λ (k : ℕ). PipeRun v terms image k p) none ran)
stopped_behind v terms image count r (suc d) p ran =
    let more : suc d + 5 * count ≡ suc (d + 5 * count) = omega arith in
    one (subst (λ (k : ℕ). PipeRun v terms image k p) more ran) (stopped_behind v terms image count r d)
  where
    one : PipeRun v terms image (suc (d + 5 * count)) p → ((q : PipeHistory) → PipeRun v terms image (d + 5 * count) q → ended_by_status q.end ≡ true) → ended_by_status p.end ≡ true
    one (q, before, cycle) earlier =
        let over : ended_by_status q.end ≡ true = earlier q before in
        ap (λ (x : PipeHistory). ended_by_status x.end) (cycle.ended (stopped_off q.end over)) ∙ over

stopped_from : (v : Variant) (terms : List Term) (image : List ℕ) (count k : ℕ) → Refined v terms image count → 5 * count ≤ k → (p : PipeHistory) → PipeRun v terms image k p →
    ended_by_status p.end ≡ true
stopped_from v terms image count k r le p ran =
    let sum : k ≡ (k - 5 * count) + 5 * count = omega arith in
    stopped_behind v terms image count r (k - 5 * count) p (subst (λ (i : ℕ). PipeRun v terms image i p) sum ran)

-- ---- a run to its end

pub pipe_run : (v : Variant) (terms : List Term) (image : List ℕ) (k : ℕ) (p : PipeHistory) → RunsFor v terms image k p → PipeRun v terms image k p
pipe_run v terms image zero p goes = goes
pipe_run v terms image (suc k) p goes = (goes.0, pipe_run v terms image k goes.0 goes.1, goes.3)

-- it ends by cycle 5 count
in_time : (v : Variant) (terms : List Term) (image : List ℕ) (count k : ℕ) (p : PipeHistory) → Refined v terms image count → RunsFor v terms image k p → k ≤ 5 * count
in_time v terms image count zero p r goes = omega arith
in_time v terms image count (suc k) p r (q, before, going, cycle) =
    elim (cases_lt k (5 * count)) [
      | inl lt ↦ omega (arith, lt)
      | inr le ↦ absurd (false≢true (sym (stopped_off q.end (stopped_from v terms image count k r le q (pipe_run v terms image k q before))) ∙ going))
    ]

has_ended : (v : Variant) (terms : List Term) (image : List ℕ) (count limit k : ℕ) (p : PipeHistory) → Refined v terms image count → RunsTo v terms image limit k p → 5 * count ≤ limit →
    is_aok p.end ≡ false
has_ended v terms image count limit k p r runs_to room =
    elim (cases_lt k limit) [
      | inl lt ↦ runs_to.whole lt
      | inr le ↦ stopped_off p.end (stopped_from v terms image count k r (omega (arith, le, room)) p (pipe_run v terms image k p runs_to.goes))
    ]

-- the pipeline at its end, as the run of instructions
record Agrees (v : Variant) (image : List ℕ) (count : ℕ) (p : PipeHistory) : Type 0 where
  retired_all : length p.records ≡ count
  end : end_of p ≡ run v image count

agrees : (v : Variant) (terms : List Term) (image : List ℕ) (count limit k : ℕ) (p : PipeHistory) → Refined v terms image count → RunsTo v terms image limit k p → 5 * count ≤ limit →
    Agrees v image count p
agrees v terms image count limit k p r runs_to room =
    let ran : PipeRun v terms image k p = pipe_run v terms image k p runs_to.goes in
    let refines : Refines v terms image k = r.refines k in
    let off : is_aok p.end ≡ false = has_ended v terms image count limit k p r runs_to room in
    let stops : StopsAs p (run v image (length p.records)) = refines.stop p ran (off_stopped p.end off (refines.never_pip p ran)) in
    let all : length p.records ≡ count =
    all_of_them v image count (length p.records) r.halts (ap length (refines.records p ran)) (is_aok-from_not (run v image (length p.records)).stat stops.not_aok) in
    record {
      retired_all = all;
      end = rw (stops.registers, stops.flags, stops.pc, stops.stat, stops.memory) (ap (run v image) all);
    }

pub ends_as : (v : Variant) (terms : List Term) (image : List ℕ) (count limit cycles : ℕ) (p : PipeHistory) → ((k : ℕ) → Refines v terms image k) → StopsIn v image count →
    RunsTo v terms image limit cycles p → 5 * count ≤ limit → EndsAs v image count cycles p
ends_as v terms image count limit cycles p refines stops runs_to room =
    let r : Refined v terms image count = record { refines = refines; halts = stops } in
    let same : Agrees v image count p = agrees v terms image count limit cycles p r runs_to room in
    record {
      in_time = in_time v terms image count cycles p r runs_to.goes;
      retired = (refines cycles).records p (pipe_run v terms image cycles p runs_to.goes) ∙ ap (records v image) same.retired_all;
      end = same.end;
    }

pub runs_alike : (v : Variant) (terms : List Term) (n : ℕ) (b : CosimResult) → 1 ≤ n → n ≤ 100000 → ((k : ℕ) → Refines v terms (program n) k) → IsCosimulation v terms n b → CosimulationAgrees n b
runs_alike v terms n b least most refines both =
    let image : List ℕ = program n in
    let halts : RunsToHalt v image (n + 1) = runs v n least most in
    let stops : StopsIn v image (n + 1) = record { records = halts.records; stopped = λ e. absurd (cc (halts.halted, e)) } in
    let r : Refined v terms image (n + 1) = record { refines = refines; halts = stops } in
    let room : 5 * (n + 1) ≤ run_limit n = omega arith in
    let enough : n + 1 ≤ run_limit n = omega arith in
    let same : Agrees v image (n + 1) both.end = agrees v terms image (n + 1) (run_limit n) b.cycles both.end r both.runs room in
    let machine : run v image (run_limit n) ≡ run v image (n + 1) = run_behind v image (n + 1) (run_limit n) stops enough in
    let steps : b.steps ≡ n + 1 = both.steps ∙ records_behind v image (n + 1) (run_limit n) stops enough in
    record {
      steps = steps;
      cycles = omega (arith, in_time v terms image (n + 1) b.cycles both.end r both.runs.goes);
      same = both.same.1 (rw (machine, same.end, steps, same.retired_all) refl);
      halted = both.halted.1 (ap (λ m. m.stat) machine ∙ halts.halted, ap (λ m. m.stat) same.end ∙ halts.halted);
    }
