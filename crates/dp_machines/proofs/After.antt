-- Calls on a machine, one after another.
use Rattle.std.proofs.Common.{◌≡◌, ◌≢◌, ℕ, false, zero, suc, ◌+◌, ◌≤◌, ◌-◌, List, ◌++◌, length, Option, Some, None, refl, sym, ap, subst, arith, add-zero, length-append}
use Rattle.std.proofs.lemmas.List.{append-nil}
use Rattle.std.specs.Option.{option_to_list}
use Rattle.y86_base.specs.declared.parts.Stat.{Stat}
use Rattle.y86_base.specs.declared.parts.Stat.TheVariants.{Bub, Aok, Hlt, Adr, Ins, Pip, Bad}
use Rattle.y86_isa.specs.Machine.{is_aok}
use Rattle.y86_isa.specs.declared.machine.Rec.{Rec}
use Rattle.dp_signals.specs.After.{IsAfter}

-- a status that isn't AOK is one of a machine that has stopped
pub stopped_is : (s : Stat) → (s ≢ Aok) → is_aok s ≡ false
stopped_is Bub h = refl
stopped_is Aok h = absurd (h refl)
stopped_is Hlt h = refl
stopped_is Adr h = refl
stopped_is Ins h = refl
stopped_is Pip h = refl
stopped_is Bad h = refl

module _ {M : Type 0} (step : M → Option Rec → M → Type 0) where
  -- more calls that do nothing leave the machine as it is
  pub calls_idle : (p : M) (k d : ℕ) (m : M) (records : List Rec) → IsAfter step p k m records → step m None m → IsAfter step p (k + d) m records
  calls_idle p k zero m records h idle = rw (add-zero k) h
  calls_idle p k (suc d) m records h idle =
      let next : k + suc d ≡ suc (k + d) = omega arith in
      rw next (m, records, None, calls_idle p k d m records h idle, idle, sym (append-nil records))

  -- another call, which returns a record
  pub calls_more : (p : M) (k : ℕ) (m q : M) (r : Rec) (before : List Rec) → IsAfter step p k m before → step m (Some r) q → length before ≡ k →
      (records : List Rec) × IsAfter step p (k + 1) q records × (length records ≡ k + 1)
  calls_more p k m q r before h c e =
      let records = before ++ option_to_list (Some r) in
      let next : k + 1 ≡ suc k = omega arith in
      (records, rw next (m, before, Some r, h, c, refl), rw length-append (omega (arith, e)))

  -- a call that returns no record is the last to do anything, if it leaves the machine as it was
  pub calls_at_end : (p : M) (k limit : ℕ) (m q : M) (records : List Rec) → IsAfter step p k m records → k ≤ limit → step m None q → q ≡ m → IsAfter step p limit q records
  calls_at_end p k limit m q records h le c same =
      let idle : step m None m = subst (λ x. step m None x) same c in
      let sum : k + (limit - k) ≡ limit = omega (arith, le) in
      rw same (subst (λ n. IsAfter step p n m records) sum (calls_idle p k (limit - k) m records h idle))

-- machines whose states go through cycles, and whose other parts stay
module _ {M S : Type 0} (step : M → Option Rec → M → Type 0) (cycle : S → Option Rec → S → Type 0) (state : M → S) (Keeps : M → Type 0)
    (kept : (m : M) (r : Option Rec) (q : M) → Keeps m → step m r q → Keeps q × cycle (state m) r (state q)) where
  pub after_states : (p : M) → Keeps p → (k : ℕ) (q : M) (records : List Rec) → IsAfter step p k q records → Keeps q × IsAfter cycle (state p) k (state q) records
  after_states p same zero q records h = (subst Keeps (sym h.0) same, (ap state h.0, h.1))
  after_states p same (suc k) q records h =
      let so_far = after_states p same k h.0 h.1 h.3 in
      let more = kept h.0 h.2 q so_far.0 h.4 in
      (more.0, (state h.0, h.1, h.2, so_far.1, more.1, h.5))
