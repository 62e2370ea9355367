-- Another cycle of a drive, and the ways in which it ends.
use Rattle.std.proofs.Common.{◌≡◌, ℕ, suc, ◌+◌, ◌<◌, ◌≤◌, Bool, true, false, List, [], ◌∷◌, ◌++◌, length, map, take, Option, Some, Ok, Err, refl, sym, ◌∙◌, ap, subst, arith, add-one, length-append, append_assoc}
use Rattle.std.proofs.lemmas.List.{append-nil, map-append}
use Rattle.std.specs.List.{concat}
use Rattle.std.specs.Option.{option_to_list}
use Rattle.wb_io.specs.Sinks.{Appended, AppendedPrefix}
use Rattle.wb_io.specs.declared.sinks.Failed.{Failed}
use Rattle.wb_io.proofs.Writes.{took_nothing, took_more}
use Rattle.y86_isa.specs.Machine.{is_aok}
use Rattle.y86_isa.specs.declared.machine.Rec.{Rec}
use Rattle.pipe_path.specs.Calls.{record_in}
use Rattle.pipe_path.specs.Pipe.{PipeMachine, IsPipeCall}
use Rattle.pipe_path.specs.declared.pipe.Cycled.{Cycled}
use Rattle.retire_trace.specs.TraceLine.{trace_line}
use Rattle.retire_trace.specs.Drive.{CallsFor, TracedCycle, IsDrive, IsFailedDrive, traced}
use Rattle.retire_trace.specs.declared.driving.Drove.{Drove}

concat_append : (xs ys : List (List ℕ)) → concat (xs ++ ys) ≡ concat xs ++ concat ys
concat_append [] ys = refl
concat_append (x ∷ xs) ys = ap (λ z. x ++ z) (concat_append xs ys) ∙ sym (append_assoc x (concat xs) (concat ys))

pub traced_append : (trace : Bool) (xs ys : List Rec) → traced trace (xs ++ ys) ≡ traced trace xs ++ traced trace ys
unfolding traced
traced_append true xs ys = ap concat (map-append trace_line xs ys) ∙ concat_append (map trace_line xs) (map trace_line ys)
traced_append false xs ys = refl

pub traced_none : (trace : Bool) → traced trace [] ≡ []
unfolding traced
traced_none true = refl
traced_none false = refl

pub traced_one : (r : Rec) → traced true (r ∷ []) ≡ trace_line r
unfolding traced
traced_one r = append-nil (trace_line r)

pub traced_off : (trace : Bool) (rs : List Rec) → trace ≡ false → traced trace rs ≡ []
unfolding traced
traced_off trace rs e = ap (λ b. traced b rs) e

pub traced_on : (trace : Bool) (r : Rec) → trace ≡ true → traced trace (r ∷ []) ≡ trace_line r
traced_on trace r e = ap (λ b. traced b (r ∷ [])) e ∙ traced_one r

-- a drive so far: k cycles, before each of which the machine went on, and the lines of the records that retired
pub record Driven (p : PipeMachine) (k : ℕ) (q : PipeMachine) (trace : Bool) (old new : Option (List ℕ)) (retired : ℕ) : Type 0 where
  pub records : List Rec
  pub goes : CallsFor p k q records
  pub counted : retired ≡ length records
  pub taken : Appended old new (traced trace records)

pub driven_none : (p : PipeMachine) (trace : Bool) (t : Option (List ℕ)) → Driven p 0 p trace t t 0
driven_none p trace t =
    record { records = []; goes = (refl, refl); counted = refl; taken = rw (traced_none trace) (took_nothing t) }

one_more : (p : PipeMachine) (k : ℕ) (m q : PipeMachine) (before : List Rec) (r : Cycled) (retired : Option Rec) → CallsFor p k m before →
    is_aok m.end ≡ true → IsPipeCall m r q → record_in r ≡ retired → CallsFor p (k + 1) q (before ++ option_to_list retired)
one_more p k m q before r retired goes going cycle is =
    let here : CallsFor p (suc k) q (before ++ option_to_list retired) =
    (m, before, r, goes, going, cycle, ap (λ x. before ++ option_to_list x) (sym is)) in
    subst (λ n. CallsFor p n q (before ++ option_to_list retired)) (sym (add-one k)) here

pub driven_more : (p : PipeMachine) (k : ℕ) (m q : PipeMachine) (trace : Bool) (old mid new : Option (List ℕ)) (n retired : ℕ) →
    Driven p k m trace old mid n → is_aok m.end ≡ true → TracedCycle m q trace mid new (Ok retired) →
    Driven p (k + 1) q trace old new (n + retired)
driven_more p k m q trace old mid new n retired d going t =
    let more = option_to_list (record_in t.0) in
    record {
      records = d.records ++ more;
      goes = one_more p k m q d.records t.0 (record_in t.0) d.goes going t.1 refl;
      counted = ap (λ z. z + retired) d.counted ∙ ap (λ z. length d.records + z) t.2 ∙ sym (length-append d.records more);
      taken = rw (traced_append trace d.records more) (took_more old mid new (traced trace d.records) (traced trace more) d.taken t.3);
    }

pub drove : (p : PipeMachine) (limit k : ℕ) (q : PipeMachine) (trace : Bool) (old new : Option (List ℕ)) (d : Drove) → k ≤ limit →
    Driven p k q trace old new d.retired → d.cycles ≡ k → (k < limit → is_aok q.end ≡ false) → d.end ≡ q.end →
    (records : List Rec) × IsDrive p limit q d records × Appended old new (traced trace records)
drove p limit k q trace old new d within h cycles whole end = (
  h.records,
  record {
    within = subst (λ n. n ≤ limit) (sym cycles) within;
    goes = subst (λ n. CallsFor p n q h.records) (sym cycles) h.goes;
    whole = λ lt. whole (subst (λ n. n < limit) cycles lt);
    retired = h.counted;
    end = end;
  },
  h.taken,
)

took_part : (old mid new : Option (List ℕ)) (xs ys : List ℕ) → Appended old mid xs → AppendedPrefix mid new ys →
    (n : ℕ) × (n < length ys) × Appended old new (xs ++ take n ys)
took_part old mid new xs ys a b = (b.0, b.1, took_more old mid new xs (take b.0 ys) a b.2)

pub failed : (p : PipeMachine) (limit k : ℕ) (m q : PipeMachine) (trace : Bool) (old mid new : Option (List ℕ)) (n : ℕ) (e : Failed) → k < limit →
    Driven p k m trace old mid n → is_aok m.end ≡ true → TracedCycle m q trace mid new (Err e) →
    (j : ℕ) × (records : List Rec) × (last : Rec) × (i : ℕ) × IsFailedDrive p limit trace q old new j records last i
failed p limit k m q trace old mid new n e lt d going t =
    let part = took_part old mid new (traced trace d.records) (trace_line t.1) d.taken t.5 in (
      k + 1,
      d.records,
      t.1,
      part.0,
      record {
        within = omega arith;
        goes = one_more p k m q d.records t.0 (Some t.1) d.goes going t.2 t.3;
        asked = t.4;
        proper = part.1;
        taken = subst (λ b. Appended old new (traced b d.records ++ take part.0 (trace_line t.1))) t.4 part.2;
      },
    )
