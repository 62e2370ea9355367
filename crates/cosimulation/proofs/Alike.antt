-- Two machines side by side: one more cycle, and the end.
use Rattle.std.proofs.Common.{◌≡◌, ℕ, zero, suc, ◌+◌, ◌-◌, ◌<◌, ◌≤◌, true, false, List, [], ◌∷◌, ◌++◌, length, Option, Some, None, refl, sym, ap, ◌∙◌, subst, add-one, arith, length-append}
use Rattle.std.proofs.lemmas.List.{append-nil}
use Rattle.std.specs.Option.{option_to_list}
use Rattle.pipe_path.specs.Calls.{record_in}
use Rattle.pipe_path.specs.Pipe.{IsPipeCall, PipeMachine, end_of}
use Rattle.pipe_path.specs.declared.pipe.Cycled.{Cycled}
use Rattle.retire_trace.specs.Drive.{CallsFor}
use Rattle.y86_base.specs.declared.parts.Variant.{Variant}
use Rattle.y86_isa.specs.Machine.{is_aok}
use Rattle.y86_isa.specs.Run.{records_from, run_from}
use Rattle.y86_isa.specs.Step.{advance, retired}
use Rattle.y86_isa.specs.declared.machine.Machine.{Machine}
use Rattle.y86_isa.specs.declared.machine.Rec.{Rec}
use Rattle.y86_isa.proofs.Runs.{records_from-last, records_from-none, run_from-last, run_from-none}
use Rattle.cosimulation.specs.Lockstep.{EndsAs, GoApart, GoBoth, IsAlike, IsCompared}
use Rattle.cosimulation.specs.declared.lockstep.Compared.{Compared}
use Rattle.cosimulation.specs.declared.lockstep.Compared.TheVariants.{Same, Open, Record, State}

-- ---- no step and one step of the run by instructions

pub go_none : (v : Variant) (p : PipeMachine) (m : Machine) (q : PipeMachine) (r : Cycled) → IsPipeCall p r q → record_in r ≡ None → GoBoth v p m q m 0
go_none v p m q r cycle none = record {
  answer = r;
  cycle = cycle;
  records = ap option_to_list none ∙ sym (records_from-none v m);
  counted = ap length (records_from-none v m);
  few = omega arith;
  machine = sym (run_from-none v m);
}

one_record : (v : Variant) (m : Machine) (one : Rec) → retired v m ≡ Some one → records_from v m 1 ≡ one ∷ []
one_record v m one is =
    let none : run_from v m 0 ≡ m = run_from-none v m in
    records_from-last v m 0 ∙ (ap (λ xs. xs ++ option_to_list (retired v (run_from v m 0))) (records_from-none v m)
    ∙ (ap (λ x. option_to_list (retired v x)) none ∙ ap option_to_list is))

pub go_one : (v : Variant) (p : PipeMachine) (m : Machine) (q : PipeMachine) (n : Machine) (r : Cycled) (one : Rec) (other : Option Rec) → IsPipeCall p r q → record_in r ≡ Some one →
    other ≡ retired v m → other ≡ Some one → n ≡ advance v m → GoBoth v p m q n 1
go_one v p m q n r one other cycle some is same after =
    let rec : records_from v m 1 ≡ one ∷ [] = one_record v m one (sym is ∙ same) in
    record {
      answer = r;
      cycle = cycle;
      records = ap option_to_list some ∙ sym rec;
      counted = ap length rec;
      few = omega arith;
      machine = after ∙ sym (run_from-last v m 0 ∙ ap (advance v) (run_from-none v m));
    }

-- ---- one more cycle

-- the records of 0 or 1 more steps
records_more : (v : Variant) (m : Machine) (steps count : ℕ) → count ≤ 1 → records_from v m (steps + count) ≡ records_from v m steps ++ records_from v (run_from v m steps) count
records_more v m steps zero few =
    ap (records_from v m) (omega arith) ∙ sym (ap (λ xs. records_from v m steps ++ xs) (records_from-none v (run_from v m steps)) ∙ append-nil (records_from v m steps))
records_more v m steps (suc zero) few =
    let here : Machine = run_from v m steps in
    records_from-last v m steps
    ∙ ap (λ xs. records_from v m steps ++ xs)
    (sym (records_from-last v (run_from v m steps) 0 ∙ (ap (λ xs. xs ++ option_to_list (retired v (run_from v (run_from v m steps) 0))) (records_from-none v (run_from v m steps))
    ∙ ap (λ x. option_to_list (retired v x)) (run_from-none v (run_from v m steps)))))
records_more v m steps (suc (suc count)) few = absurd (omega (arith, few))

machine_more : (v : Variant) (m : Machine) (steps count : ℕ) → count ≤ 1 → run_from v m (steps + count) ≡ run_from v (run_from v m steps) count
machine_more v m steps zero few = ap (run_from v m) (omega arith) ∙ sym (run_from-none v (run_from v m steps))
machine_more v m steps (suc zero) few =
    run_from-last v m steps ∙ sym (run_from-last v (run_from v m steps) 0 ∙ ap (advance v) (run_from-none v (run_from v m steps)))
machine_more v m steps (suc (suc count)) few = absurd (omega (arith, few))

goes_more : (p : PipeMachine) (k : ℕ) (q z : PipeMachine) (r : Cycled) (before all : List Rec) → CallsFor p k q before → is_aok q.end ≡ true → IsPipeCall q r z → all ≡ before ++ option_to_list (record_in r) →
    CallsFor p (k + 1) z all
goes_more p k q z r before all goes going cycle more =
    let here : CallsFor p (suc k) z all = (q, before, r, goes, going, cycle, more) in
    subst (λ n. CallsFor p n z all) (sym (add-one k)) here

-- both machines so far
pub record SoFar (v : Variant) (p : PipeMachine) (m : Machine) (k steps : ℕ) (q : PipeMachine) (n : Machine) : Type 0 where
  pub alike : IsAlike v p m k steps q
  pub machine : n ≡ run_from v m steps
  pub few : steps ≤ k

pub none_so_far : (v : Variant) (p : PipeMachine) (m : Machine) → SoFar v p m 0 0 p m
none_so_far v p m = record {
  alike = record { goes = (refl, records_from-none v m); count = ap length (records_from-none v m) };
  machine = sym (run_from-none v m);
  few = omega arith;
}

pub more_so_far : (v : Variant) (p : PipeMachine) (m : Machine) (k steps : ℕ) (q z : PipeMachine) (n o : Machine) (count : ℕ) → SoFar v p m k steps q n → is_aok q.end ≡ true → GoBoth v q n z o count →
    SoFar v p m (k + 1) (steps + count) z o
more_so_far v p m k steps q z n o count s going g =
    let more = records_more v m steps count g.few in
    let told : records_from v n count ≡ records_from v (run_from v m steps) count = ap (λ x. records_from v x count) s.machine in
    record {
      alike = record {
        goes = goes_more p k q z g.answer (records_from v m steps) (records_from v m (steps + count)) s.alike.goes going g.cycle (more ∙ ap (λ xs. records_from v m steps ++ xs) (sym (g.records ∙ told)));
        count = ap length more ∙ (length-append (records_from v m steps) (records_from v (run_from v m steps) count) ∙ omega (arith, s.alike.count, ap length told, g.counted));
      };
      machine = g.machine ∙ (ap (λ x. run_from v x count) s.machine ∙ sym (machine_more v m steps count g.few));
      few = omega (arith, s.few, g.few);
    }

-- ---- the outcomes

pub first_different : (v : Variant) (p : PipeMachine) (m : Machine) (k steps limit : ℕ) (q z : PipeMachine) (n : Machine) (one : Rec) (other : Option Rec) → SoFar v p m k steps q n → is_aok q.end ≡ true → k < limit →
    GoApart v q n z one other → IsCompared v p m limit (Record (record { before = steps; cycle = k + 1; retired = one; wanted = other }))
first_different v p m k steps limit q z n one other s going lt g = (
  omega (arith, lt),
  record {
    last = q;
    alike = let here : k + 1 - 1 ≡ k = omega arith in subst (λ (i : ℕ). IsAlike v p m i steps q) (sym here) s.alike;
    after = z;
    goes = goes_more p k q z g.answer (records_from v m steps) (records_from v m steps ++ one ∷ []) s.alike.goes going g.cycle (ap (λ x. records_from v m steps ++ option_to_list x) (sym g.retires));
    wanted = g.wanted ∙ ap (retired v) s.machine;
    differs = g.differs;
  },
)

pub ends : (v : Variant) (p : PipeMachine) (m : Machine) (k steps limit : ℕ) (q : PipeMachine) (n : Machine) (c : Compared) → SoFar v p m k steps q n → k ≤ limit → is_aok q.end ≡ false →
    EndsAs (end_of q) n steps k c → IsCompared v p m limit c
ends v p m k steps limit q n (Same a b) s le off (e, f, same) =
    (q, rw (e, f) s.alike, rw f le, off, rw e (rw s.machine at same))
ends v p m k steps limit q n (Open a) s le off h = absurd h
ends v p m k steps limit q n (Record d) s le off h = absurd h
ends v p m k steps limit q n (State a b part) s le off (e, f, differs) =
    (q, rw (e, f) s.alike, rw f le, off, rw e (rw s.machine at differs))
