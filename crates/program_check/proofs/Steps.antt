-- A watched run: one more step, its end, and the first instruction that fetches too soon.
use Rattle.std.proofs.Common.{◌≡◌, ◌≢◌, ◌⊎◌, ◌↔◌, inl, inr, ℕ, ◌+◌, ◌-◌, ◌<◌, ◌≤◌, not, true, false, List, [], ◌∷◌, ◌++◌, length, Option, Some, None, refl, sym, ap, ◌∙◌, subst, arith, length-append}
use Rattle.std.specs.Option.{option_to_list}
use Rattle.std.proofs.lemmas.Bool.{cases_lt, false≢true, not-true}
use Rattle.yis_pure_runs.proofs.Purity.{pair_pure}
use Rattle.yis_pure_runs.specs.Near.{NearPure}
use Rattle.y86_base.specs.declared.parts.Stat.{Stat}
use Rattle.y86_base.specs.declared.parts.Stat.TheVariants.{Aok}
use Rattle.y86_base.specs.declared.parts.Variant.{Variant}
use Rattle.y86_isa.proofs.Runs.{aok_or_stopped, is_aok-from_not, records_from-last, run_from-last, stopped-from_none, run_stays}
use Rattle.y86_isa.specs.Machine.{is_aok, start}
use Rattle.y86_isa.specs.Run.{records, run}
use Rattle.y86_isa.specs.Step.{advance, retired}
use Rattle.y86_isa.specs.declared.machine.Machine.{Machine}
use Rattle.y86_isa.specs.declared.machine.Rec.{Rec}
use Rattle.program_check.specs.Near.{IsFirstNear, IsNearest, IsWatched, StoredApart, StoredInto}
use Rattle.program_check.specs.declared.recent.NearFetch.{NearFetch}
use Rattle.program_check.specs.declared.recent.Recent.{Recent}
use Rattle.program_check.specs.declared.watching.Watched.TheVariants.{Apart}
use Rattle.program_check.proofs.Told.{AreRecent, told_at, told_is, told_outside}

-- ---- one more step
three : (j n : ℕ) → j < n → n ≤ j + 3 → (j + 1 ≡ n) ⊎ (j + 2 ≡ n) ⊎ (j + 3 ≡ n)
three j n lt le = elim (cases_lt (j + 1) n) [
  | inl one ↦ elim (cases_lt (j + 2) n) [ inl two ↦ inr (inr (omega arith)) | inr two ↦ inr (inl (omega arith)) ]
  | inr one ↦ inl (omega arith)
]

module _ (v : Variant) (image : List ℕ) (n : ℕ) (recent : Recent) (are : AreRecent v image n recent) where
  apart_at : (told : Option Rec) (d j : ℕ) → told ≡ told_at v image n d → j + d ≡ n → StoredApart v (run v image n) told → StoredApart v (run v image n) (retired v (run v image j))
  apart_at told d j is e apart = subst (StoredApart v (run v image n)) (is ∙ told_is v image n d j e) apart

  all_apart : StoredApart v (run v image n) recent.last → StoredApart v (run v image n) recent.second → StoredApart v (run v image n) recent.third →
      (j : ℕ) → j < n → n ≤ j + 3 → StoredApart v (run v image n) (retired v (run v image j))
  all_apart last second third j lt near = by (three j n lt near)
    where
      by : (j + 1 ≡ n) ⊎ (j + 2 ≡ n) ⊎ (j + 3 ≡ n) → StoredApart v (run v image n) (retired v (run v image j))
      by (inl e) = apart_at recent.last 1 j are.last e last
      by (inr (inl e)) = apart_at recent.second 2 j are.second e second
      by (inr (inr e)) = apart_at recent.third 3 j are.third e third

  pub near_more : NearPure v image n → StoredApart v (run v image n) recent.last → StoredApart v (run v image n) recent.second →
      StoredApart v (run v image n) recent.third → NearPure v image (n + 1)
  near_more pure last second third i j address within earlier near on fetched stored = by (cases_lt i n)
    where
      at : i ≡ n → ⊥
      at e =
          let apart : StoredApart v (run v image i) (retired v (run v image j)) =
          subst (λ k. StoredApart v (run v image k) (retired v (run v image j))) (sym e) (all_apart last second third j (omega (arith, earlier, e)) (omega (arith, near, e))) in
          pair_pure v (run v image i) (retired v (run v image j)) address apart fetched stored

      by : (i < n) ⊎ (n ≤ i) → ⊥
      by (inl lt) = pure i j address lt earlier near on fetched stored
      by (inr le) = at (omega (arith, within, le))

  -- ---- the first instruction that fetches too soon
  into_at : (told : Option Rec) (d storer store : ℕ) → told ≡ told_at v image n d → StoredInto v (run v image n) told storer store →
      (d ≤ n) × StoredInto v (run v image n) (retired v (run v image (n - d))) storer store
  into_at told d storer store is into = by (cases_lt n d)
    where
      by : (n < d) ⊎ (d ≤ n) → (d ≤ n) × StoredInto v (run v image n) (retired v (run v image (n - d))) storer store
      by (inl lt) = absurd (cc (into.told_by, is, told_outside v image n d lt))
      by (inr le) = (le, subst (λ o. StoredInto v (run v image n) o storer store) (is ∙ told_is v image n d (n - d) (omega (arith, le))) into)

  pub first_near : (f : NearFetch) → NearPure v image n → (run v image n).stat ≡ Aok → f.steps ≡ n → f.pc ≡ (run v image n).pc →
      IsNearest v (run v image n) recent f → IsFirstNear v image f
  first_near f pure on steps pc nearest = by nearest
    where
      made : (d : ℕ) → f.distance ≡ d → 1 ≤ d → d ≤ 3 → (d ≤ n) × StoredInto v (run v image n) (retired v (run v image (n - d))) f.storer f.store →
          ((j : ℕ) → n < j + d → j < n → StoredApart v (run v image n) (retired v (run v image j))) → IsFirstNear v image f
      made d is least most into apart = record {
        earlier = rw steps pure;
        goes_on = rw steps on;
        pc = rw steps pc;
        some = rw is least;
        at_most = rw is most;
        inside = rw (is, steps) into.0;
        into = rw (is, steps) into.1;
        nearest = rw (is, steps) apart;
      }

      one : (j : ℕ) → n < j + 2 → j < n → j + 1 ≡ n
      one j a b = omega arith

      by : IsNearest v (run v image n) recent f → IsFirstNear v image f
      by (inl h) = made 1 h.0 (omega arith) (omega arith) (into_at recent.last 1 f.storer f.store are.last h.1) (λ j a b. absurd (omega (arith, a, b)))
      by (inr (inl h)) =
          made 2 h.0 (omega arith) (omega arith) (into_at recent.second 2 f.storer f.store are.second h.2)
          (λ j a b. apart_at recent.last 1 j are.last (one j a b) h.1)
      by (inr (inr h)) =
          made 3 h.0 (omega arith) (omega arith) (into_at recent.third 3 f.storer f.store are.third h.3)
          (λ j a b. elim (cases_lt (j + 1) n) [
            | inl lt ↦ apart_at recent.second 2 j are.second (omega (arith, lt, a)) h.2
            | inr le ↦ apart_at recent.last 1 j are.last (omega (arith, le, b)) h.1
          ])

-- ---- the end

-- after the run has stopped, nothing more is fetched
near_on : (v : Variant) (image : List ℕ) (n : ℕ) → is_aok (run v image n).stat ≡ false → NearPure v image n → (k : ℕ) → NearPure v image k
near_on v image n stopped pure k i j address within earlier near on fetched stored = by (cases_lt i n)
  where
    by : (i < n) ⊎ (n ≤ i) → ⊥
    by (inl lt) = pure i j address lt earlier near on fetched stored
    by (inr le) =
        let e : n + (i - n) ≡ i = omega (arith, le) in
        let same : run v image i ≡ run v image n = ap (run v image) (sym e) ∙ run_stays v image n (i - n) stopped in
        false≢true (sym stopped ∙ sym (ap (λ (m : Machine). is_aok m.stat) same) ∙ ap is_aok on)

stopped_is : (s : Stat) → (not (is_aok s) ≡ true) ↔ (s ≢ Aok)
stopped_is s = (λ h e. false≢true (sym (ap (λ z. not (is_aok z)) e) ∙ h), λ ne. ap not (is_aok-from_not s ne))

pub aok_by : (s : Stat) → not (is_aok s) ≡ false → s ≡ Aok
aok_by s h = elim (aok_or_stopped s) [ inl e ↦ e | inr e ↦ absurd (false≢true (sym h ∙ ap not e)) ]

pub ended : (v : Variant) (image : List ℕ) (n limit : ℕ) (m : Machine) → m ≡ run v image n → NearPure v image n → n ≡ length (records v image n) → n ≤ limit →
    (not (is_aok m.stat) ≡ false → n ≡ limit) → IsWatched v image limit (Apart n (not (is_aok m.stat)))
ended v image n limit m at pure count within whole = record {
  within = within;
  count = sym count;
  end = rw at (stopped_is (run v image n).stat);
  whole = whole;
  near = pure;
  near_on = λ h. near_on v image n (not-true (is_aok (run v image n).stat) (sym (ap (λ (z : Machine). not (is_aok z.stat)) at) ∙ h)) pure;
}

-- after one more step
pub after_step : (v : Variant) (image : List ℕ) (n : ℕ) (m after : Machine) → m ≡ run v image n → after ≡ advance v m → after ≡ run v image (n + 1)
after_step v image n m after at e = e ∙ ap (advance v) at ∙ sym (run_from-last v (start image) n)

some_told : (v : Variant) (m : Machine) → m.stat ≡ Aok → (rec : Rec) × (retired v m ≡ Some rec)
some_told v m on = by (retired v m) refl
  where
    by : (o : Option Rec) → retired v m ≡ o → (rec : Rec) × (retired v m ≡ Some rec)
    by (Some rec) e = (rec, e)
    by None e = absurd (false≢true (sym (stopped-from_none v m e) ∙ ap is_aok on))

pub one_record : (v : Variant) (image : List ℕ) (n : ℕ) → (run v image n).stat ≡ Aok → n ≡ length (records v image n) → n + 1 ≡ length (records v image (n + 1))
one_record v image n on count =
    let some = some_told v (run v image n) on in
    let e : records v image (n + 1) ≡ records v image n ++ some.0 ∷ [] = records_from-last v (start image) n ∙ ap (λ r. records v image n ++ option_to_list r) some.1 in
    rw e (simp length-append (omega arith))
