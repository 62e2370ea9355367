-- The records of the last steps before a step.
use Rattle.std.proofs.Common.{◌≡◌, ℕ, zero, suc, ◌+◌, ◌-◌, ◌<◌, ◌≤◌, List, Option, None, refl, sym, ap, ◌∙◌, arith, add-one}
use Rattle.y86_base.specs.declared.parts.Variant.{Variant}
use Rattle.y86_isa.specs.Run.{run}
use Rattle.y86_isa.specs.Step.{retired}
use Rattle.y86_isa.specs.declared.machine.Rec.{Rec}
use Rattle.program_check.specs.declared.recent.Recent.{Recent}

-- the record of the step that is d steps before step n; d = 0 gives step n itself
pub told_at : Variant → List ℕ → ℕ → ℕ → Option Rec
told_at v image n zero = retired v (run v image n)
told_at v image zero (suc d) = None
told_at v image (suc n) (suc d) = told_at v image n d

pub told_inside : (v : Variant) (image : List ℕ) (n d : ℕ) → d ≤ n → told_at v image n d ≡ retired v (run v image (n - d))
unfolding told_at retired
told_inside v image n zero le = ap (λ k. retired v (run v image k)) (omega arith)
told_inside v image zero (suc d) le = absurd (omega (arith, le))
told_inside v image (suc n) (suc d) le =
    told_inside v image n d (omega (arith, le)) ∙ ap (λ k. retired v (run v image k)) (omega arith)

pub told_outside : (v : Variant) (image : List ℕ) (n d : ℕ) → n < d → told_at v image n d ≡ None
unfolding told_at
told_outside v image n zero lt = absurd (omega (arith, lt))
told_outside v image zero (suc d) lt = refl
told_outside v image (suc n) (suc d) lt = told_outside v image n d (omega (arith, lt))

pub told_last : (v : Variant) (image : List ℕ) (n : ℕ) → told_at v image n 0 ≡ retired v (run v image n)
unfolding told_at
told_last v image zero = refl
told_last v image (suc n) = refl

-- the same record, seen from the next step
pub told_more : (v : Variant) (image : List ℕ) (n d : ℕ) → told_at v image (n + 1) (d + 1) ≡ told_at v image n d
unfolding told_at
told_more v image n d = rw (add-one n, add-one d) refl

pub record AreRecent (v : Variant) (image : List ℕ) (n : ℕ) (recent : Recent) : Type 0 where
  pub last : recent.last ≡ told_at v image n 1
  pub second : recent.second ≡ told_at v image n 2
  pub third : recent.third ≡ told_at v image n 3

pub none_recent : (v : Variant) (image : List ℕ) → AreRecent v image 0 (record { last = None; second = None; third = None })
none_recent v image = record {
  last = sym (told_outside v image 0 1 (omega arith));
  second = sym (told_outside v image 0 2 (omega arith));
  third = sym (told_outside v image 0 3 (omega arith));
}

pub more_recent : (v : Variant) (image : List ℕ) (n : ℕ) (recent : Recent) (told : Option Rec) → AreRecent v image n recent → told ≡ retired v (run v image n) →
    AreRecent v image (n + 1) (record { last = told; second = recent.last; third = recent.second })
more_recent v image n recent told are is = record {
  last = is ∙ sym (told_last v image n) ∙ sym (told_more v image n 0);
  second = are.last ∙ sym (told_more v image n 1);
  third = are.second ∙ sym (told_more v image n 2);
}

pub told_is : (v : Variant) (image : List ℕ) (n d j : ℕ) → j + d ≡ n → told_at v image n d ≡ retired v (run v image j)
told_is v image n d j e = told_inside v image n d (omega (arith, e)) ∙ ap (λ k. retired v (run v image k)) (omega (arith, e))
