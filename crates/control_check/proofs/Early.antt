-- The gates of the early settings as one list, and what the decisions on its parts mean.
use Rattle.std.proofs.Common.{◌≡◌, ℕ, ◌+◌, ◌-◌, ◌<◌, inl, inr, Bool, false, List, [], ◌∷◌, ◌++◌, length, get_or, sym, ap, ◌∙◌, subst, arith}
use Rattle.std.proofs.lemmas.Bool.{cases_lt}
use Rattle.std.proofs.lemmas.List.{get_or_append_left, get_or-append_right, get_or_push, length-append, length_push}
use Rattle.nets.specs.Nets.{Gates}
use Rattle.bdd_decide.specs.Decisions.{AreDecided, AreGatesOfNet, IsDecided}
use Rattle.control_check.specs.PipeVerdicts.{HasSevenGates}

module _ (n : Gates) (pt pb : List ℕ) (tv : ℕ) (early : List ℕ) (is : early ≡ pt ++ (pb ++ tv ∷ [])) (forward : length pt ≡ 7) (backward : length pb ≡ 7) where
  at : (k : ℕ) → get_or early k 0 ≡ get_or (pt ++ (pb ++ tv ∷ [])) k 0
  at k = ap (λ (xs : List ℕ). get_or xs k 0) is

  pub size : length early ≡ 15
  size = ap length is ∙ (let a = length-append pt (pb ++ tv ∷ []) in let b = length_push pb tv in omega (arith, a, b, forward, backward))

  first : (k : ℕ) → k < 7 → get_or early k 0 ≡ get_or pt k 0
  first k lt = at k ∙ get_or_append_left pt (pb ++ tv ∷ []) 0 k (omega (arith, lt, forward))

  behind : (k : ℕ) → get_or early (7 + k) 0 ≡ get_or (pb ++ tv ∷ []) k 0
  behind k =
      at (7 + k)
      ∙ (get_or-append_right pt (pb ++ tv ∷ []) 7 (7 + k) 0 forward (omega arith) ∙ ap (λ (i : ℕ). get_or (pb ++ tv ∷ []) i 0) (omega arith))

  second : (k : ℕ) → k < 7 → get_or early (7 + k) 0 ≡ get_or pb k 0
  second k lt = behind k ∙ get_or_append_left pb (tv ∷ []) 0 k (omega (arith, lt, backward))

  third : get_or early 14 0 ≡ tv
  third = behind 7 ∙ get_or_push pb tv 0 7 backward

  pub early_of : HasSevenGates n pt → HasSevenGates n pb → tv < length n.gates → AreGatesOfNet n early
  early_of here there target k lt = elim (cases_lt k 7) [
    | inl low ↦ subst (λ (g : ℕ). g < length n.gates) (sym (first k low)) (here k low)
    | inr high ↦ elim (cases_lt k 14) [
      | inl low ↦ subst (λ (i : ℕ). get_or early i 0 < length n.gates) (omega (arith, high))
          (subst (λ (g : ℕ). g < length n.gates) (sym (second (k - 7) (omega (arith, low, high)))) (there (k - 7) (omega (arith, low, high))))
      | inr last ↦ subst (λ (i : ℕ). get_or early i 0 < length n.gates) (omega (arith, lt, last, size)) (subst (λ (g : ℕ). g < length n.gates) (sym third) target)
    ]
  ]

  module _ (truths : List Bool) (whole : length truths ≡ length early) (h : AreDecided n early truths) where
    pub enough : length truths ≡ 15
    enough = whole ∙ size

    decided : (k : ℕ) → k < 15 → IsDecided n (get_or early k 0) (get_or truths k false)
    decided k lt = h.each k (omega (arith, lt, enough))

    pub forward_decided : (s : List Bool) → length s ≡ 7 → ((k : ℕ) → k < 7 → get_or s k false ≡ get_or truths (0 + k) false) → AreDecided n pt s
    forward_decided s seven e = record { each = each }
      where
        each : (k : ℕ) → k < length s → IsDecided n (get_or pt k 0) (get_or s k false)
        each k within =
            let lt : k < 7 = omega (arith, within, seven) in
            subst (λ (g : ℕ). IsDecided n g (get_or s k false)) (first k lt)
            (subst (IsDecided n (get_or early k 0)) (sym (e k lt))
            (subst (λ (i : ℕ). IsDecided n (get_or early k 0) (get_or truths i false)) (omega arith) (decided k (omega (arith, lt)))))

    pub backward_decided : (s : List Bool) → length s ≡ 7 → ((k : ℕ) → k < 7 → get_or s k false ≡ get_or truths (7 + k) false) → AreDecided n pb s
    backward_decided s seven e = record { each = each }
      where
        each : (k : ℕ) → k < length s → IsDecided n (get_or pb k 0) (get_or s k false)
        each k within =
            let lt : k < 7 = omega (arith, within, seven) in
            subst (λ (g : ℕ). IsDecided n g (get_or s k false)) (second k lt)
            (subst (IsDecided n (get_or early (7 + k) 0)) (sym (e k lt)) (decided (7 + k) (omega (arith, lt))))

    pub target_decided : IsDecided n tv (get_or truths 14 false)
    target_decided = subst (λ (g : ℕ). IsDecided n g (get_or truths 14 false)) third (decided 14 (omega arith))
