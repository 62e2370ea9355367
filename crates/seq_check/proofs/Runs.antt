-- If a file meets the obligations, its runs are runs of instructions: the solved pc is the PC of the run.
use Rattle.std.proofs.Common.{◌≡◌, ℕ, zero, suc, ◌<◌, ◌≤◌, inl, inr, Bool, true, false, ◌==◌, cond, List, length, Option, Some, slice_get, refl, sym, ◌∙◌, ap, subst, arith}
use Rattle.std.proofs.lemmas.Bool.{eqb-true, lt-ltb, ne_eqb, eq-eqb, and_from}
use Rattle.std.specs.List.{AllByRecursion}
use Rattle.y86_base.specs.declared.parts.Variant.{Variant}
use Rattle.y86_base.specs.declared.parts.Variant.TheVariants.{Base, Full}
use Rattle.y86_base.specs.Stat.{stat_of}
use Rattle.y86_base.specs.declared.parts.Stat.{Stat}
use Rattle.y86_base.specs.Words.{set}
use Rattle.y86_base.proofs.Booleans.{implied, not_implied}
use Rattle.y86_base.proofs.Numbers.{each_number}
use Rattle.y86_isa.specs.Blocks.{next_address, reading}
use Rattle.y86_isa.specs.Machine.{is_aok, start}
use Rattle.y86_isa.specs.Run.{IsImage, run_from, records_from}
use Rattle.y86_isa.specs.Step.{advance, machine_after, record_of, retired}
use Rattle.y86_isa.specs.Table.{row, rows}
use Rattle.y86_isa.specs.Work.{work}
use Rattle.y86_isa.specs.declared.columns.NextPcColumn.{NextPcColumn}
use Rattle.y86_isa.specs.declared.columns.NextPcColumn.TheVariants.{Itself, Fall, Branch, Target, Loaded}
use Rattle.y86_isa.specs.Laws.{IsReading}
use Rattle.y86_isa.specs.declared.fetch.Reading.{Reading}
use Rattle.y86_isa.specs.declared.machine.Machine.{Machine}
use Rattle.y86_isa.specs.declared.machine.Rec.{Rec}
use Rattle.y86_isa.proofs.Rows.{rows_few}
use Rattle.y86_isa.proofs.RowsAgree.{operands_agree}
use Rattle.y86_isa.proofs.WhatIsRead.{IsReading-reading, nop_known}
use Rattle.y86_isa.proofs.RowColumns.{next_at, is_itself}
use Rattle.hcl_types.specs.Tables.{IsBound, IsOrderOf}
use Rattle.hcl_types.specs.declared.term.Term.{Term}
use Rattle.dp_signals.specs.Equations.{rule_of}
use Rattle.dp_signals.specs.PipeEquations.{constants}
use Rattle.dp_signals.specs.Tables.{constant_rows}
use Rattle.dp_signals.proofs.Bits.{bit_lt}
use Rattle.dp_sequential.specs.Cycle.{record_by, stepped}
use Rattle.dp_signals.specs.SequentialTables.{control_rows}
use Rattle.net_fields.specs.FieldSpecs.{InRange}
use Rattle.ctl_atoms.specs.declared.leaf.Leaf.{Leaf}
use Rattle.ctl_equations.specs.Controls.{AreControls}
use Rattle.ctl_equations.specs.Laws.{HasControls, real_assignment}
use Rattle.ctl_given.specs.declared.places.Place.{Place}
use Rattle.ctl_equations.proofs.Solved.{controls_exist}
use Rattle.seq_obligations.specs.Fields.{plus_bit_count}
use Rattle.seq_obligations.specs.Obligations.{shared_demand, rule_count}
use Rattle.seq_refinement.specs.Cycle.{Agrees}
use Rattle.seq_refinement.specs.Facts.{FollowsControl}
use Rattle.dp_sequential.specs.Hardware.{HasHardware}
use Rattle.seq_refinement.proofs.Agreement.{IsTested, all_agree, constant_role, constant_row, defines, holds_field, inputs_of}
use Rattle.seq_refinement.proofs.LineOfCycle.{cnd_is, derror_is, ra_is, rb_is, ties}
use Rattle.seq_refinement.proofs.Lines.{fields_allowed, fields_in_range, goes_on}
use Rattle.seq_refinement.proofs.Reflected.{follows, going, next_is}
use Rattle.seq_refinement.proofs.Runs.{image_kept, runs_from}
use Rattle.seq_refinement.proofs.Signals.{IsWork, next_pc_is, signals_are_work}
use Rattle.seq_refinement.proofs.Steps as steps
use Rattle.seq_plus.specs.PlusCycle.{plus_next, plus_record}
use Rattle.seq_plus.specs.PlusEquations.{PlusSolves, at_pc, plus_given}
use Rattle.seq_plus.specs.PlusNames as name
use Rattle.seq_plus.specs.PlusNames.{plus}
use Rattle.seq_plus.specs.PlusRun.{plus_path, plus_start, IsPlusCycle, PlusRunFrom}
use Rattle.seq_plus.specs.PlusTable.{plus_defined, plus_hardware, plus_rows, plus_state}
use Rattle.seq_plus.specs.declared.state.PlusState.{PlusState}
use Rattle.seq_plus.proofs.PlusCycles.{updated}
use Rattle.seq_plus.specs.PlusLaws.{plus_lawful}
use Rattle.seq_check.specs.Accepted.{AcceptedPlus, RefinesPlus}
use Rattle.seq_check.specs.Cycle.{fields_at, pc_behind}
use Rattle.seq_check.specs.Fields.{allowed, numbers, number_of, spots}
use Rattle.seq_check.specs.Obligations.{demand_at}
use Rattle.seq_check.specs.Rules.{places}
use Rattle.seq_check.specs.Designed.{places_stand}
use Rattle.seq_check.proofs.PlusRows.{hardware_rows}

-- ---- the next PC of the previous instruction

goes : (v : Variant) (n : ℕ) → 1 ≤ n → n < length (rows v) → is_itself (row v n).next ≡ false
goes v n le lt = not_implied _ _ (next_at v n lt) (no_zero n le)
  where
    no_zero : (n : ℕ) → 1 ≤ n → (n == 0) ≡ false
    no_zero n le = ne_eqb n 0 (λ e. absurd (omega (arith, e, le)))

-- the next PC of an instruction that goes on doesn't depend on the PC itself
any_pc : (t : NextPcColumn) (a b vp vc vm : ℕ) (c : Bool) → is_itself t ≡ false → next_address t a vp vc vm c ≡ next_address t b vp vc vm c
any_pc Itself a b vp vc vm c e = cc
any_pc Fall a b vp vc vm c e = refl
any_pc Branch a b vp vc vm c e = refl
any_pc Target a b vp vc vm c e = refl
any_pc Loaded a b vp vc vm c e = refl

abbrev next_of : Variant → PlusState → ℕ
next_of v t = next_address (row v t.previous.icode).next 0 t.previous.val_p t.previous.val_c t.previous.val_m (set t.previous.cnd)

-- the state is that of the machine q of the run: its registers, flags, memory and status, and the PC to which the
-- previous instruction leads
record Related (v : Variant) (t : PlusState) (q : Machine) : Type 0 where
  machine : q ≡ at_pc t (next_of v t)
  from_one : 1 ≤ t.previous.icode
  within : t.previous.icode < length (rows v)
  small : t.previous.cnd < 2

-- the icode of an instruction that is read and goes on
reads_code : (v : Variant) (n : ℕ) (read : Reading) → IsReading v read → n ≡ read.icode → (n == 15) ≡ false → (n == 0) ≡ false → (1 ≤ n) × (n < length (rows v))
reads_code v n read h e k l = elim h.known [
  | inl lt ↦ (positive n l, omega (arith, e, lt))
  | inr i ↦ absurd (let yes = eq-eqb n 15 (e ∙ i.0) in grind (arith, yes, k))
]
  where
    positive : (n : ℕ) → (n == 0) ≡ false → 1 ≤ n
    positive zero z = cc
    positive (suc n) z = omega arith

begins_pc : (v : Variant) (image : List ℕ) → start image ≡ at_pc (plus_start image) (next_of v (plus_start image))
unfolding row
begins_pc Base image = refl
begins_pc Full image = refl

begins : (v : Variant) (image : List ℕ) → Related v (plus_start image) (start image)
begins v image = record { machine = begins_pc v image; from_one = omega arith; within = nop_known v; small = omega arith }

tests : IsTested plus_path
unfolding plus_rows constant_rows plus_state plus_hardware plus_defined control_rows constants each_number constant_row constant_role defines holds_field
tests = record { constants_there = refl; fields_there = refl; none_before = refl; definitions_there = refl; as_many = refl }

module _ (v : Variant) (terms : List Term) (ids : List ℕ) (bound : IsBound plus_rows terms) (o : IsOrderOf plus_rows terms ids) (accepted : AcceptedPlus v terms) where
  -- ---- one cycle

  module _ (t : PlusState) (f : ℕ → ℕ) (s : PlusSolves v terms t f) (g : IsImage t.mem) (le : 1 ≤ t.previous.icode) (lt : t.previous.icode < length (rows v)) (small : t.previous.cnd < 2) where
    abbrev m : Machine
    m = at_pc t (f name.pc)

    hw : HasHardware plus v m f
    hw = hardware_rows v terms t f s

    fits : allowed v (fields_at v t f) ≡ true
    unfolding allowed
    fits = and_from _ _ (and_from _ _ (lt-ltb 0 t.previous.icode (omega (arith, le))) (lt-ltb t.previous.icode (length (rows v)) lt)) (fields_allowed plus v m f g hw)

    range : InRange spots (numbers (fields_at v t f))
    range = (omega (arith, lt, rows_few v), (omega (arith, small), fields_in_range plus v m f g hw))

    module _ (cv : ℕ → Leaf) (h : AreControls plus_rows terms (number_of (fields_at v t f)) (real_assignment f) cv) where
      demanded : (i : ℕ) → 1 ≤ i → i ≤ rule_count → demand_at v i (fields_at v t f) (real_assignment f) cv ≡ true
      demanded i l k = implied _ _ (accepted.holds i (fields_at v t f) (real_assignment f) cv l k range h) fits

      asked : (i : ℕ) → 1 ≤ i → i ≤ 15 → shared_demand plus i (row v (f plus.imem_icode)) (fields_at v t f).line (real_assignment f) cv ≡ true
      unfolding demand_at
      asked i l k =
          let other : (i == 16) ≡ false = ne_eqb i 16 (λ e. absurd (omega (arith, e, k))) in
          sym (rw other refl) ∙ demanded i l (omega (arith, k))

      fields_are : AllByRecursion (λ (p : Place). AllByRecursion (Agrees f cv) (inputs_of (slice_get plus_rows p.name)) → number_of (fields_at v t f) p.name ≡ f p.name) places
      unfolding inputs_of plus_rows constant_rows plus_state plus_hardware plus_defined control_rows plus_given constants rule_of
      fields_are = (
        (λ _. sym (s name.pIcode)),
        (
          (λ _. sym (s name.pCnd)),
          (
            (λ _. refl),
            (
              (λ _. refl),
              (
                (λ _. refl),
                (
                  (λ a. ra_is plus v m f cv hw asked a.1.0),
                  ((λ a. rb_is plus v m f cv hw asked a.1.0), ((λ a. cnd_is plus v m f cv hw asked a.0), ((λ a. derror_is plus v m f cv hw asked a.1.0 a.1.1.0), tt))),
                ),
              ),
            ),
          ),
        ),
      )

      agrees : (n : ℕ) → Agrees f cv n
      agrees = all_agree plus plus_path plus_lawful tests places (places_stand plus_bit_count (omega arith)).placed v terms t f cv (number_of (fields_at v t f)) s h bound fields_are ids o

      follows_row : FollowsControl plus (row v (f plus.imem_icode)) f
      follows_row = follows plus v (fields_at v t f).line f cv asked agrees (ties plus v m f cv hw asked agrees) (operands_agree v (f plus.imem_icode)).both

      pub icode_going : f name.Stat ≡ 1 → ((f name.imem_icode == 15) ≡ false) × ((f name.imem_icode == 0) ≡ false)
      icode_going e =
          let k = going plus v (fields_at v t f).line f cv asked agrees (ties plus v m f cv hw asked agrees) (operands_agree v (f plus.imem_icode)).both e in
          (k.1, k.2)

      pub pc_is : f name.pc ≡ next_of v t
      unfolding demand_at rule_of plus_given constants
      pc_is =
          next_is f cv name.pc name.pValP name.pValC name.pValM (row v t.previous.icode).next (set t.previous.cnd) 0 (demanded 16 (omega arith) (omega arith)) (agrees name.pc)
          (goes v t.previous.icode le lt)
          ∙ (rw (s name.pValP, s name.pValC, s name.pValM) refl)

    controls : HasControls plus_rows terms (number_of (fields_at v t f)) (real_assignment f)
    controls = controls_exist plus_rows terms ids (number_of (fields_at v t f)) (real_assignment f) o

    pc_next : f name.pc ≡ next_of v t
    pc_next = pc_is controls.0 controls.1

    control : FollowsControl plus (row v (f plus.imem_icode)) f
    control = follows_row controls.0 controls.1

    same_code : f name.icode ≡ f name.imem_icode
    same_code = control.icode

    works : IsWork plus m f (work v m)
    works = signals_are_work plus v m f hw control

    stays : f name.Stat ≡ 1 → ((f name.imem_icode == 15) ≡ false) × ((f name.imem_icode == 0) ≡ false)
    stays e = icode_going controls.0 controls.1 e

    -- ---- the state after it

    pc_behind_is : f name.Stat ≡ 1 →
        next_address (row v (f name.icode)).next 0 (f name.valP) (f name.valC) (f name.valM) (set (f name.Cnd)) ≡ pc_behind v f
    pc_behind_is e =
        let k = stays e in
        rw same_code
        (any_pc (row v (f name.imem_icode)).next 0 (f name.pc) _ _ _ _ (goes_on v m (f name.imem_icode) hw.imem_icode k.0 k.1))

    after_by : (b : Bool) (stat : Stat) → (b ≡ true → next_of v (updated t f stat) ≡ pc_behind v f) →
        at_pc (cond b (updated t f stat) (record t { stat = stat })) (next_of v (cond b (updated t f stat) (record t { stat = stat })))
        ≡ cond b (record (at_pc (updated t f stat) (pc_behind v f)) { stat = stat }) (record m { stat = stat })
    after_by true stat h = ap (at_pc (updated t f stat)) (h refl)
    after_by false stat h = ap (λ pc. record (at_pc t pc) { stat = stat }) (sym pc_next)

    after : at_pc (plus_next t f) (next_of v (plus_next t f)) ≡ stepped plus m f (pc_behind v f)
    unfolding plus_next
    after = after_by (f name.Stat == 1) (stat_of (f name.Stat)) (λ e. pc_behind_is (eqb-true _ _ e))

    pub steps_to : machine_after m (work v m) ≡ at_pc (plus_next t f) (next_of v (plus_next t f))
    steps_to = sym (after ∙ steps.next_is plus m f (work v m) works (pc_behind v f) (λ _. next_pc_is plus v m f hw control))

    pub told : plus_record t f ≡ record_of m (work v m)
    unfolding plus_record
    told =
        ap (λ (x : Machine). record_by plus (f name.pc) x.flags f) after
        ∙ steps.record_is plus m f (work v m) works (pc_behind v f) (λ _. next_pc_is plus v m f hw control)

    abbrev HasCode : PlusState → Type 0
    HasCode u = (1 ≤ u.previous.icode) × (u.previous.icode < length (rows v)) × (u.previous.cnd < 2)

    codes_by : (b : Bool) (stat : Stat) → (b ≡ true → HasCode (updated t f stat)) → HasCode (cond b (updated t f stat) (record t { stat = stat }))
    codes_by true stat h = h refl
    codes_by false stat h = (le, lt, small)

    pub codes : HasCode (plus_next t f)
    unfolding plus_next
    codes =
        codes_by (f name.Stat == 1) (stat_of (f name.Stat))
        (λ e.
        let k = stays (eqb-true _ _ e) in
        let c = reads_code v (f name.icode) (reading v t.mem (f name.pc)) (IsReading-reading v t.mem (f name.pc)) (same_code ∙ hw.imem_icode) (rw same_code k.0) (rw same_code k.1) in
        (c.0, c.1, (rw hw.Cnd (bit_lt _))))

  -- ---- the run

  at_q : (t : PlusState) (q : Machine) (f : ℕ → ℕ) → Related v t q → IsImage q.mem → PlusSolves v terms t f → at_pc t (f name.pc) ≡ q
  at_q t q f r g s = ap (at_pc t) (pc_next t f s (subst (λ (x : Machine). IsImage x.mem) r.machine g) r.from_one r.within r.small) ∙ sym r.machine

  cycle_case : (t u : PlusState) (q : Machine) (x : Option Rec) → Related v t q → IsImage q.mem → IsPlusCycle v terms t x u → (b : Bool) → is_aok q.stat ≡ b →
      Related v u (advance v q) × (x ≡ retired v q)
  unfolding advance retired
  cycle_case t u q x r g h true e =
      let same : q.stat ≡ t.stat = ap (λ (y : Machine). y.stat) r.machine in
      let goes = h.goes (ap is_aok (sym same) ∙ e) in
      let f = goes.0 in
      let image : IsImage t.mem = subst (λ (y : Machine). IsImage y.mem) r.machine g in
      let here = at_q t q f r g goes.1 in
      let k = codes t f goes.1 image r.from_one r.within r.small in
      let next : advance v q ≡ at_pc (plus_next t f) (next_of v (plus_next t f)) =
      (rw e refl) ∙ ap (λ (y : Machine). machine_after y (work v y)) (sym here) ∙ steps_to t f goes.1 image r.from_one r.within r.small in (
        subst (λ y. Related v y (advance v q)) (sym goes.2) (record { machine = next; from_one = k.0; within = k.1; small = k.2 }),
        goes.3 ∙ ap Some (told t f goes.1 image r.from_one r.within r.small ∙ ap (λ (y : Machine). record_of y (work v y)) here) ∙ (rw e refl),
      )
  cycle_case t u q x r g h false e =
      let same : q.stat ≡ t.stat = ap (λ (y : Machine). y.stat) r.machine in
      let ended = h.ended (ap is_aok (sym same) ∙ e) in
      (rw (ended.0, e) r, ended.1 ∙ (rw e refl))

  step : (t u : PlusState) (q : Machine) (x : Option Rec) → Related v t q → IsImage q.mem → IsPlusCycle v terms t x u → Related v u (advance v q) × (x ≡ retired v q)
  step t u q x r g h = cycle_case t u q x r g h (is_aok q.stat) refl

  runs : (image : List ℕ) (k : ℕ) (t : PlusState) (rs : List Rec) → IsImage image → PlusRunFrom v terms (plus_start image) k t rs → Related v t (run_from v (start image) k) × (rs ≡ records_from v (start image) k)
  runs image k t rs g h = runs_from v (IsPlusCycle v terms) (Related v) step (start image) (plus_start image) t k rs (begins v image) g h

  pub refines : RefinesPlus v terms
  refines = record {
    machine = λ image k t rs end g h e.
        e.2 ∙ ap (at_pc t) (sym (e.1.2))
        ∙ at_q t (run_from v (start image) k) (e.1.0) (runs image k t rs g h).0 (image_kept v (IsPlusCycle v terms) (Related v) step (start image) k g) (e.1.1);
    told = λ image k t rs g h. (runs image k t rs g h).1;
  }
