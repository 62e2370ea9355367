-- What a copy shows about the whole net: its gates represent those of the net in the part by no bits, which is all
-- valuations.
use Rattle.std.proofs.Common.{◌≡◌, ℕ, ◌<◌, ◌≤◌, inl, inr, Bool, false, List, [], ◌∷◌, ◌++◌, length, get_or, refl, sym, ap, ◌∙◌, subst, arith}
use Rattle.std.proofs.lemmas.Bool.{cases_eq}
use Rattle.std.proofs.lemmas.List.{get_or_append_left, get_or_push, length_push}
use Rattle.nets.specs.Nets.{Gates, truth}
use Rattle.nets.specs.Parts.{BeginsWith, IsCofactorNet}
use Rattle.nets.specs.declared.copies.SubstitutedNet.{SubstitutedNet}
use Rattle.net_fields.specs.Spelling.{spelt}
use Rattle.bdd_decide.specs.Decisions.{AreDecided, AreGatesOfNet, IsAlwaysTrue, IsDecided}
use Rattle.bdd_decide.specs.Splitting.{AreChosen, AreTrueTo, IsGateFalseAt, IsFalseWhere, IsPass, IsSubproblemOf}
use Rattle.bdd_decide.specs.declared.subproblems.Subproblem.{Subproblem}
use Rattle.bdd_decide.specs.declared.pass.PassResult.{PassResult}
use Rattle.bdd_decide.specs.declared.pass.PassResult.TheVariants as pass

spelt_none : (w : List Bool) → spelt w 0 0 ≡ 0
unfolding spelt
spelt_none w = refl

-- ---- a copy whose variables are in another order

module _ (n : Gates) (copy : SubstitutedNet) (gates chosen : List ℕ) (h : IsCofactorNet n [] copy) (of : AreGatesOfNet n gates) (picked : AreChosen copy.gates gates (length gates) chosen) where
  begins : (w : List Bool) → BeginsWith [] w
  begins w i lt = absurd (omega (arith, lt))

  chosen_inside : (j : ℕ) → j < length gates → get_or chosen j 0 < length copy.net.gates
  chosen_inside j lt = subst (λ (g : ℕ). g < length copy.net.gates) (sym (picked.each j lt)) (h.inside (get_or gates j 0) (of j lt))

  true_whole : (j : ℕ) → j < length gates → IsAlwaysTrue copy.net (get_or chosen j 0) → IsAlwaysTrue n (get_or gates j 0)
  true_whole j lt always w size =
      let up = h.up w size (begins w) in
      sym (up.2 (get_or gates j 0) (of j lt)) ∙ (ap (λ (g : ℕ). truth copy.net g up.0) (sym (picked.each j lt)) ∙ always up.0 (up.1 ∙ sym h.vars))

  false_whole : (j : ℕ) → j < length gates → (u : List Bool) → IsGateFalseAt copy.net (get_or chosen j 0) u → (w : List Bool) × IsFalseWhere n (get_or gates j 0) 0 0 w
  false_whole j lt u fails =
      let down = h.down u (fails.size ∙ h.vars) in (
        down.0,
        record {
          size = down.1;
          starts = spelt_none down.0;
          fails = sym (down.3 (get_or gates j 0) (of j lt)) ∙ (ap (λ (g : ℕ). truth copy.net g u) (sym (picked.each j lt)) ∙ fails.fails);
        },
      )

  pub part_stands : IsSubproblemOf n gates (length gates) 0 0 (record { net = copy.net; gates = chosen })
  part_stands = record { size = picked.size; inside = chosen_inside; yes = λ j lt always w size starts. true_whole j lt always w size; no = false_whole }

-- ---- what is found in a copy that represents the whole net

module _ (n : Gates) (gates : List ℕ) (c : Subproblem) (h : IsSubproblemOf n gates (length gates) 0 0 c) where
  yes : (j : ℕ) → j < length gates → IsAlwaysTrue c.net (get_or c.gates j 0) → IsAlwaysTrue n (get_or gates j 0)
  yes j lt always w size = h.yes j lt always w size (spelt_none w)

  no : (j : ℕ) → j < length gates → (u : List Bool) → IsGateFalseAt c.net (get_or c.gates j 0) u → (w : List Bool) × IsGateFalseAt n (get_or gates j 0) w
  no j lt u fails = (let f = h.no j lt u fails in (f.0, record { size = f.1.size; fails = f.1.fails }))

  all_mirrored : (m : ℕ) → m ≤ length gates → AreTrueTo c.net c.gates m → AreTrueTo n gates m
  all_mirrored m le always j lt = yes j (omega (arith, lt, le)) (always j lt)

  pub pass_mirrored : (r : PassResult) → IsPass c.net c.gates r → IsPass n gates r
  pass_mirrored pass.True always = all_mirrored (length gates) (omega arith) (λ j lt. always j (let z = h.size in omega (arith, lt, z)))
  pass_mirrored (pass.False m) f =
      let less : m < length gates = (let z = h.size in let l = f.0 in omega (arith, l, z)) in
      let fails = no m less f.2 f.3 in
      (less, all_mirrored m (omega (arith, less)) f.1, fails.0, fails.1)
  pass_mirrored (pass.Stopped m) f =
      let le : m ≤ length gates = (let z = h.size in let l = f.0 in omega (arith, l, z)) in
      (le, all_mirrored m le f.1)

  pub decided_mirrored : (k gate : ℕ) (b : Bool) → k < length gates → gate ≡ get_or c.gates k 0 → IsDecided c.net gate b → IsDecided n (get_or gates k 0) b
  decided_mirrored k gate b lt e d = record {
    yes = λ t. yes k lt (subst (IsAlwaysTrue c.net) e (d.yes t));
    no = λ f. (let w = d.no f in let there = no k lt w.0 (record { size = w.1; fails = ap (λ (g : ℕ). truth c.net g w.0) (sym e) ∙ w.2 }) in (there.0, there.1.size, there.1.fails));
  }

-- another truth
pub decided_more : (n : Gates) (gates : List ℕ) (k : ℕ) (truths : List Bool) (b : Bool) → length truths ≡ k → AreDecided n gates truths → IsDecided n (get_or gates k 0) b →
    AreDecided n gates (truths ++ b ∷ [])
decided_more n gates k truths b size h d = record {
  each = λ j lt. elim (cases_eq j k) [
    | inl same ↦ subst (λ (i : ℕ). IsDecided n (get_or gates i 0) (get_or (truths ++ b ∷ []) i false)) (sym same) (subst (IsDecided n (get_or gates k 0)) (sym last) d)
    | inr other ↦ (
        let less : j < length truths = (let z = length_push truths b in grind (arith, z, lt, other, size)) in
        subst (IsDecided n (get_or gates j 0)) (sym (get_or_append_left truths (b ∷ []) false j less)) (h.each j less))
  ];
}
  where
    last : get_or (truths ++ b ∷ []) k false ≡ b
    last = get_or_push truths b false k size
