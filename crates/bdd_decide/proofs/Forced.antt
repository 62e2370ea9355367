-- Bits that false gates force, put into a copy: the copy gives the same decision on these gates.
use Rattle.std.proofs.Common.{◌≡◌, ℕ, ◌<◌, Bool, true, false, List, length, get_or, refl, sym, ap, ◌∙◌, subst, arith}
use Rattle.std.proofs.lemmas.Bool.{false≢true}
use Rattle.nets.specs.Nets.{Gates, truth}
use Rattle.nets.specs.Forcing.{IsForced, SubstituteAgrees}
use Rattle.nets.specs.Substitution.{AreCopies, behind}
use Rattle.nets.specs.declared.copies.Replacement.{Replacement}
use Rattle.nets.proofs.Gates.{read_at}
use Rattle.bdd_decide.specs.Decisions.{AreGatesOfNet, IsAlwaysTrue}
use Rattle.bdd_decide.specs.Splitting.{AreChosen, IsSubproblemOf}
use Rattle.bdd_decide.specs.declared.subproblems.Subproblem.{Subproblem}
use Rattle.bdd_decide.proofs.Sources.{length_behind, same_list}

pub behind_settled : (to : List Replacement) (u : List Bool) → length u ≡ length to → SubstituteAgrees to u → behind to u ≡ u
behind_settled to u size h =
    same_list (behind to u) u (length_behind to u ∙ sym size)
    (λ i lt. let inside : i < length to = (let l = length_behind to u in omega (arith, lt, l)) in read_at to u i inside ∙ h i inside)

pub gates_inside : (n : Gates) (gates : List ℕ) (count k p : ℕ) (c : Subproblem) → IsSubproblemOf n gates count k p c → AreGatesOfNet c.net c.gates
gates_inside n gates count k p c h j lt = h.inside j (let z = h.size in omega (arith, lt, z))

module _ (c : Subproblem) (copy : Gates) (to : List Replacement) (made chosen : List ℕ) (forced : IsForced c.net c.gates to) (whole : length to ≡ c.net.vars) (copies : AreCopies c.net copy to made)
    (size : length made ≡ length c.net.gates) (vars : copy.vars ≡ c.net.vars) (of : AreGatesOfNet c.net c.gates) (picked : AreChosen made c.gates (length c.gates) chosen) where
  inside_made : (j : ℕ) → j < length c.gates → get_or c.gates j 0 < length made
  inside_made j lt = let g = of j lt in omega (arith, g, size)

  tells : (j : ℕ) → j < length c.gates → (u : List Bool) → truth copy (get_or chosen j 0) u ≡ truth c.net (get_or c.gates j 0) (behind to u)
  tells j lt u = ap (λ (g : ℕ). truth copy g u) (picked.each j lt) ∙ (copies.each (get_or c.gates j 0) (inside_made j lt)).is u

  always : (j : ℕ) → j < length c.gates → IsAlwaysTrue copy (get_or chosen j 0) → IsAlwaysTrue c.net (get_or c.gates j 0)
  always j lt h u su = by (truth c.net (get_or c.gates j 0) u) refl
    where
      by : (b : Bool) → truth c.net (get_or c.gates j 0) u ≡ b → truth c.net (get_or c.gates j 0) u ≡ true
      by true e = e
      by false e =
          absurd (false≢true (sym e ∙ (ap (truth c.net (get_or c.gates j 0)) (sym (behind_settled to u (su ∙ sym whole) (forced.settle j lt u e))) ∙ (sym (tells j lt u) ∙ h u (su ∙ sym vars)))))

  pub stand_still : (n : Gates) (gates : List ℕ) (count k p : ℕ) → IsSubproblemOf n gates count k p c → IsSubproblemOf n gates count k p (record { net = copy; gates = chosen })
  stand_still n gates count k p h =
      let within : (j : ℕ) → j < count → j < length c.gates = (λ j lt. let z = h.size in omega (arith, lt, z)) in
      record {
        size = picked.size ∙ h.size;
        inside = λ j lt. subst (λ (g : ℕ). g < length copy.gates) (sym (picked.each j (within j lt))) (copies.each (get_or c.gates j 0) (inside_made j (within j lt))).within;
        yes = λ j lt here. h.yes j lt (always j (within j lt) here);
        no = λ j lt u fails. h.no j lt (behind to u) (record { size = length_behind to u ∙ whole; fails = sym (tells j (within j lt) u) ∙ fails.fails });
      }
