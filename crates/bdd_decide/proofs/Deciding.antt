-- The result of a pass, and the decision after it.
use Rattle.std.proofs.Common.{◌≡◌, ◌⊎◌, ◌↔◌, ℕ, zero, suc, ◌+◌, ◌-◌, ◌<◌, ◌≤◌, inl, inr, IsTrue, Bool, true, false, List, [], ◌∷◌, length, drop, get_or, refl, sym, ap, ◌∙◌, subst, arith}
use Rattle.std.proofs.lemmas.Bool.{cases_eq, cases_lt, false≢true}
use Rattle.std.proofs.lemmas.List.{get_or-drop, length-drop}
use Rattle.nets.specs.Nets.{Gates, truth}
use Rattle.bdd_core.specs.Diagrams.{Diagrams}
use Rattle.bdd_core.specs.Meaning.{Always, IsBuilt}
use Rattle.bdd_core.specs.declared.store.Dia.{Dia}
use Rattle.bdd_decide.specs.Decisions.{AreGatesOfNet, IsAlwaysTrue, IsDecided, IsFirstFalseGate, IsLeastOf}
use Rattle.bdd_decide.specs.Splitting.{AreTrueTo, IsGateFalseAt}

-- ---- a diagram

pub always_true : (s : Diagrams) (n : Gates) (gate : ℕ) (d : Dia) → s.vars ≡ n.vars → IsBuilt s n gate d → Always s d true → IsAlwaysTrue n gate
always_true s n gate d e built always w size = sym (built.is w (size ∙ sym e)) ∙ always w (size ∙ sym e)

-- a truth over n bits is true at all valuations, or false at some
some_false : (n : ℕ) (f : List Bool → Bool) → ((w : List Bool) → length w ≡ n → f w ≡ true) ⊎ ((w : List Bool) × (length w ≡ n) × (f w ≡ false))
some_false zero f = by (f []) refl
  where
    nil : (w : List Bool) → length w ≡ 0 → w ≡ []
    nil [] size = refl
    nil (b ∷ w) size = absurd (omega (arith, size))

    by : (b : Bool) → f [] ≡ b → ((w : List Bool) → length w ≡ 0 → f w ≡ true) ⊎ ((w : List Bool) × (length w ≡ 0) × (f w ≡ false))
    by true e = inl (λ w size. ap f (nil w size) ∙ e)
    by false e = inr ([], refl, e)
some_false (suc n) f = by (some_false n (λ w. f (false ∷ w))) (some_false n (λ w. f (true ∷ w)))
  where
    Holds : Bool → Type 0
    Holds b = (w : List Bool) → length w ≡ n → f (b ∷ w) ≡ true

    Fails : Bool → Type 0
    Fails b = (w : List Bool) × (length w ≡ n) × (f (b ∷ w) ≡ false)

    at : Holds false → Holds true → (w : List Bool) → length w ≡ suc n → f w ≡ true
    at low high [] size = absurd (omega (arith, size))
    at low high (false ∷ w) size = low w (omega (arith, size))
    at low high (true ∷ w) size = high w (omega (arith, size))

    by : Holds false ⊎ Fails false → Holds true ⊎ Fails true → ((w : List Bool) → length w ≡ suc n → f w ≡ true) ⊎ ((w : List Bool) × (length w ≡ suc n) × (f w ≡ false))
    by (inl low) (inl high) = inl (at low high)
    by (inl low) (inr (w, size, fails)) = inr (true ∷ w, ap suc size, fails)
    by (inr (w, size, fails)) high = inr (false ∷ w, ap suc size, fails)

pub valid_decided : (s : Diagrams) (n : Gates) (gate : ℕ) (d : Dia) (b : Bool) → s.vars ≡ n.vars → IsBuilt s n gate d → IsTrue b ↔ Always s d true → IsDecided n gate b
valid_decided s n gate d true e built valid = record { yes = λ t. always_true s n gate d e built (valid.0 refl); no = λ f. cc }
valid_decided s n gate d false e built valid = record { yes = λ t. cc; no = λ f. by (some_false n.vars (truth n gate)) }
  where
    by : IsAlwaysTrue n gate ⊎ ((w : List Bool) × (length w ≡ n.vars) × (truth n gate w ≡ false)) → (w : List Bool) × (length w ≡ n.vars) × (truth n gate w ≡ false)
    by (inl always) = absurd (false≢true (valid.1 (λ w size. built.is w size ∙ always w (size ∙ e))))
    by (inr fails) = fails

true_more : (n : Gates) (gates : List ℕ) (k gate : ℕ) → AreTrueTo n gates k → gate ≡ get_or gates k 0 → IsAlwaysTrue n gate → AreTrueTo n gates (k + 1)
true_more n gates k gate h e here j lt = elim (cases_eq j k) [
  | inl same ↦ subst (IsAlwaysTrue n) (e ∙ ap (λ (i : ℕ). get_or gates i 0) (sym same)) here
  | inr ne ↦ h j (below ne)
]
  where
    below : (j ≡ k → ⊥) → j < k
    below ne = grind (arith, ne, lt)

-- ---- one gate of a pass

pub true_decided : (n : Gates) (gates : List ℕ) (k gate : ℕ) → AreTrueTo n gates k → gate ≡ get_or gates k 0 → IsDecided n gate true → AreTrueTo n gates (k + 1)
true_decided n gates k gate h e d = true_more n gates k gate h e (d.yes refl)

pub false_decided : (n : Gates) (gates : List ℕ) (k gate : ℕ) → gate ≡ get_or gates k 0 → IsDecided n gate false → (w : List Bool) × IsGateFalseAt n (get_or gates k 0) w
false_decided n gates k gate e d =
    let f = d.no refl in
    (f.0, record { size = f.1; fails = ap (λ (g : ℕ). truth n g f.0) (sym e) ∙ f.2 })

-- ---- after a pass

-- the gates from place m on, as a list
drop_at : (m : ℕ) (gates : List ℕ) (j : ℕ) → get_or (drop m gates) j 0 ≡ get_or gates (m + j) 0
drop_at m gates j = get_or-drop m gates j 0

pub later_gates : (n : Gates) (gates : List ℕ) (m : ℕ) → m ≤ length gates → AreGatesOfNet n gates → AreGatesOfNet n (drop m gates)
later_gates n gates m le of j lt = subst (λ (g : ℕ). g < length n.gates) (sym (drop_at m gates j)) (of (m + j) (omega (arith, lt, le, length-drop m gates)))

module _ (n : Gates) (gates : List ℕ) (m : ℕ) (le : m ≤ length gates) (before : AreTrueTo n gates m) where
  pub later_true : ((j : ℕ) → j < length (drop m gates) → IsAlwaysTrue n (get_or (drop m gates) j 0)) → (j : ℕ) → j < length gates → IsAlwaysTrue n (get_or gates j 0)
  later_true later j lt = elim (cases_lt j m) [
    | inl l ↦ before j l
    | inr past ↦ subst (IsAlwaysTrue n) (drop_at m gates (j - m) ∙ ap (λ (i : ℕ). get_or gates i 0) (omega (arith, past))) (later (j - m) (omega (arith, lt, past, length-drop m gates)))
  ]

  pub later_first : (l : ℕ) (w : List Bool) → IsFirstFalseGate n (drop m gates) l w → IsFirstFalseGate n gates (m + l) w
  later_first l w h = record {
    within = (let i = h.within in omega (arith, i, le, length-drop m gates));
    earlier = λ j lt. elim (cases_lt j m) [
      | inl less ↦ before j less
      | inr past ↦ subst (IsAlwaysTrue n) (drop_at m gates (j - m) ∙ ap (λ (i : ℕ). get_or gates i 0) (omega (arith, past))) (h.earlier (j - m) (omega (arith, lt, past)))
    ];
    least = subst (λ (g : ℕ). IsLeastOf n.vars (λ u. truth n g u ≡ false) w) (drop_at m gates l) h.least;
  }

-- one gate alone
pub alone_gates : (n : Gates) (gates xs : List ℕ) (m gate : ℕ) → AreGatesOfNet n gates → m < length gates → gate ≡ get_or gates m 0 → xs ≡ gate ∷ [] → AreGatesOfNet n xs
alone_gates n gates xs m gate of lt e is j at =
    let z : j ≡ 0 = (let s = ap length is in omega (arith, at, s)) in
    subst (λ (g : ℕ). g < length n.gates) (sym (ap (λ (ys : List ℕ). get_or ys j 0) is ∙ (ap (λ (i : ℕ). get_or (gate ∷ []) i 0) z ∙ e))) (of m lt)

pub alone_first : (n : Gates) (gates xs : List ℕ) (m gate : ℕ) → m < length gates → AreTrueTo n gates m → gate ≡ get_or gates m 0 → xs ≡ gate ∷ [] → (l : ℕ) (w : List Bool) →
    IsFirstFalseGate n xs l w → IsFirstFalseGate n gates m w
alone_first n gates xs m gate lt before e is l w h = record {
  within = lt;
  earlier = before;
  least =
      let z : l ≡ 0 = (let s = ap length is in let i = h.within in omega (arith, i, s)) in
      subst (λ (g : ℕ). IsLeastOf n.vars (λ u. truth n g u ≡ false) w) (ap (λ (ys : List ℕ). get_or ys l 0) is ∙ (ap (λ (i : ℕ). get_or (gate ∷ []) i 0) z ∙ e)) h.least;
}

pub alone_not : (n : Gates) (gates xs : List ℕ) (m gate : ℕ) → gate ≡ get_or gates m 0 → xs ≡ gate ∷ [] → (w : List Bool) → IsGateFalseAt n (get_or gates m 0) w →
    ((j : ℕ) → j < length xs → IsAlwaysTrue n (get_or xs j 0)) → ⊥
alone_not n gates xs m gate e is w fails always =
    let inside : 0 < length xs = (let s = ap length is in omega (arith, s)) in
    let here : IsAlwaysTrue n (get_or gates m 0) = subst (IsAlwaysTrue n) (ap (λ (ys : List ℕ). get_or ys 0 0) is ∙ e) (always 0 inside) in
    false≢true (sym fails.fails ∙ here w fails.size)

-- the decision on one gate alone
pub one_gate : (n : Gates) (gate : ℕ) (xs : List ℕ) → gate < length n.gates → xs ≡ gate ∷ [] → AreGatesOfNet n xs
one_gate n gate xs inside is k lt =
    let z : k ≡ 0 = (let s = ap length is in omega (arith, lt, s)) in
    subst (λ (g : ℕ). g < length n.gates) (sym (ap (λ (ys : List ℕ). get_or ys k 0) is ∙ ap (λ (i : ℕ). get_or (gate ∷ []) i 0) z)) inside

pub one_true : (n : Gates) (gate : ℕ) (xs : List ℕ) → xs ≡ gate ∷ [] → ((k : ℕ) → k < length xs → IsAlwaysTrue n (get_or xs k 0)) → IsDecided n gate true
one_true n gate xs is always =
    let inside : 0 < length xs = (let s = ap length is in omega (arith, s)) in
    record { yes = λ t. subst (IsAlwaysTrue n) (ap (λ (ys : List ℕ). get_or ys 0 0) is) (always 0 inside); no = λ f. cc }

pub one_false : (n : Gates) (gate k : ℕ) (w : List Bool) (xs : List ℕ) → xs ≡ gate ∷ [] → IsFirstFalseGate n xs k w → IsDecided n gate false
one_false n gate k w xs is first =
    let z : k ≡ 0 = (let s = ap length is in let i = first.within in omega (arith, i, s)) in
    let e : get_or xs k 0 ≡ gate = ap (λ (ys : List ℕ). get_or ys k 0) is ∙ ap (λ (i : ℕ). get_or (gate ∷ []) i 0) z in
    record { yes = λ t. cc; no = λ f. (w, first.least.size, ap (λ (g : ℕ). truth n g w) (sym e) ∙ first.least.holds) }
