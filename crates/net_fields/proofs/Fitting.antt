-- A fetched register byte and the condition of a real cycle fit the instruction's row.
use Rattle.std.proofs.Common.{◌≡◌, ℕ, ◌<◌, ◌≤◌, inl, inr, Bool, true, false, nat_lt, if◌then◌else◌, refl, arith}
use Rattle.std.proofs.lemmas.Bool.{ne_eqb, eq-eqb, lt-ltb, cases_eq, cases_lt}
use Rattle.std.proofs.Math.Bool.{or-true}
use Rattle.y86_base.specs.declared.parts.Flags.{Flags}
use Rattle.y86_isa.specs.Blocks.{condition}
use Rattle.net_fields.specs.AllowedNumbers.{cnd_allowed, register_field_allowed}

-- a half of the register byte
pub half_by : (has used : Bool) (n : ℕ) → (used ≡ true → n < 15) → (has ≡ false → n ≡ 15) → register_field_allowed has used n ≡ true
half_by true true n h k = lt-ltb n 15 (h refl)
half_by true false n h k = refl
half_by false used n h k = eq-eqb n 15 (k refl)

over_six : (n : ℕ) (flags : Flags) → 7 ≤ n → condition n flags ≡ false
unfolding condition
over_six n flags le = rw (
  ne_eqb n 0 (λ e. absurd (omega arith)),
  ne_eqb n 1 (λ e. absurd (omega arith)),
  ne_eqb n 2 (λ e. absurd (omega arith)),
  ne_eqb n 3 (λ e. absurd (omega arith)),
  ne_eqb n 4 (λ e. absurd (omega arith)),
  ne_eqb n 5 (λ e. absurd (omega arith)),
  ne_eqb n 6 (λ e. absurd (omega arith)),
) refl

at_zero : (n : ℕ) (flags : Flags) → n ≡ 0 → condition n flags ≡ true
unfolding condition
at_zero n flags e = rw e refl

-- the condition of an ifun, as a word
pub cnd_by : (n : ℕ) (flags : Flags) → cnd_allowed n (if condition n flags then 1 else 0) ≡ true
cnd_by n flags = elim (cases_eq n 0) [
  | inl e ↦ rw (at_zero n flags e, e) refl
  | inr ne ↦ rw (ne_eqb n 0 ne) (elim (cases_lt n 7) [
    | inl lt ↦ rw (lt-ltb n 7 lt) refl
    | inr le ↦ rw (over_six n flags le) (or-true (nat_lt n 7))
  ])
]
