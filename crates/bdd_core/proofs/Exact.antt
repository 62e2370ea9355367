-- What the diagrams say about their truths.
use Rattle.std.proofs.Common.{◌≡◌, ◌≢◌, ◌↔◌, inl, inr, ℕ, ◌+◌, ◌<◌, ◌≤◌, Bool, true, false, List, length, set, refl, sym, ap, ◌∙◌, arith}
use Rattle.bdd_core.specs.Diagrams.{Diagrams, at, count, reach, dia_truth, child, IsReduced}
use Rattle.bdd_core.specs.Meaning.{IsDia, truth_of, Always, IsChoice}
use Rattle.bdd_core.proofs.Applying.{first_truth, second_truth}
use Rattle.bdd_core.proofs.Reaching.{reach_free}
use Rattle.bdd_core.proofs.Canonical.{differ, canonical, part_here, part_set}
use Rattle.bdd_core.specs.declared.store.Dia.{Dia}

pub node_false : (s : Diagrams) (d : Dia) → IsReduced s → d.id ≡ 0 → Always s d false
node_false s d well e v h = ap (λ (k : ℕ). dia_truth s k v) e ∙ first_truth s v well

pub node_true : (s : Diagrams) (d : Dia) → IsReduced s → d.id ≡ 1 → Always s d true
node_true s d well e v h = ap (λ (k : ℕ). dia_truth s k v) e ∙ second_truth s v well

-- diagrams with the same truth everywhere have the same number
pub same_number : (s : Diagrams) (a b : ℕ) → IsReduced s → a < count s → b < count s → ((v : List Bool) → length v ≡ s.vars → dia_truth s a v ≡ dia_truth s b v) → a ≡ b
unfolding dia_truth
same_number s a b well h i same = canonical well a b h i same

pub same_iff : (s : Diagrams) (a b : Dia) → IsReduced s → IsDia s a → IsDia s b
    → (a.id ≡ b.id) ↔ ((v : List Bool) → length v ≡ s.vars → truth_of s a v ≡ truth_of s b v)
same_iff s a b well h i = (λ e v k. ap (λ (d : ℕ). dia_truth s d v) e, same_number s a.id b.id well h i)

pub valid_iff : (s : Diagrams) (d : Dia) → IsReduced s → IsDia s d → (d.id ≡ 1) ↔ Always s d true
valid_iff s d well h = (node_true s d well, λ all. same_number s d.id 1 well h (omega arith) (λ v k. all v k ∙ sym (second_truth s v well)))

side_set : (s : Diagrams) (d : ℕ) (b : Bool) (v : List Bool) → IsReduced s → 2 ≤ d → d < count s → length v ≡ s.vars → dia_truth s (child (at s d) b) v ≡ dia_truth s d (set v (at s d).var b)
unfolding dia_truth
side_set s d b v well h i k =
    let under : (at s d).var < s.vars = well.within d h i in
    ap (λ (e : ℕ). reach (at s) e e v) (sym (part_here (at s) (at s d).var b d refl))
    ∙ part_set well (at s d).var b d v i under (omega arith) (omega (arith, under, k))

free_set : (s : Diagrams) (d y : ℕ) (b : Bool) (v : List Bool) → IsReduced s → d < count s → y < (at s d).var → dia_truth s d (set v y b) ≡ dia_truth s d v
unfolding dia_truth
free_set s d y b v well h i = reach_free well d d y b v h i

differs : (s : Diagrams) (a b : ℕ) → IsReduced s → a < count s → b < count s → (a ≡ b → ⊥) → (v : List Bool) × (length v ≡ s.vars) × (dia_truth s a v ≢ dia_truth s b v)
unfolding dia_truth
differs s a b well h i other = elim (differ well (a + b) a b (omega arith) h i) [ inl e ↦ absurd (other e) | inr f ↦ (f.at, f.size, f.differ) ]

pub node_choice : (s : Diagrams) (d low high : Dia) (x : ℕ) → IsReduced s → IsDia s d → (d.id ≡ 0 → ⊥) → (d.id ≡ 1 → ⊥) → x ≡ (at s d.id).var → low.id ≡ (at s d.id).low → high.id ≡ (at s d.id).high
    → IsChoice s d x low high
node_choice s d low high x well h no_first no_second ex el eh =
    let two : 2 ≤ d.id = omega arith in
    let under : x < s.vars = let w = well.within d.id two h in omega (arith, w, ex) in
    let low_in : IsDia s low = let w = well.low_below d.id two h in omega (arith, w, el) in
    let high_in : IsDia s high = let w = well.high_below d.id two h in omega (arith, w, eh) in
    let low_is : (v : List Bool) → length v ≡ s.vars → truth_of s low v ≡ truth_of s d (set v x false) =
    λ v k. ap (λ (e : ℕ). dia_truth s e v) el ∙ (side_set s d.id false v well two h k ∙ ap (λ (y : ℕ). dia_truth s d.id (set v y false)) (sym ex)) in
    let high_is : (v : List Bool) → length v ≡ s.vars → truth_of s high v ≡ truth_of s d (set v x true) =
    λ v k. ap (λ (e : ℕ). dia_truth s e v) eh ∙ (side_set s d.id true v well two h k ∙ ap (λ (y : ℕ). dia_truth s d.id (set v y true)) (sym ex)) in
    let apart = differs s low.id high.id well low_in high_in (λ e. well.reduced d.id two h (sym el ∙ (e ∙ eh))) in
    record {
      variable = under;
      depends = (apart.0, apart.1, λ e. apart.2 (low_is apart.0 apart.1 ∙ (e ∙ sym (high_is apart.0 apart.1))));
      first = λ y less dep. dep.2 (free_set s d.id y false dep.0 well h (omega (arith, ex, less)) ∙ sym (free_set s d.id y true dep.0 well h (omega (arith, ex, less))));
      low_in = low_in;
      high_in = high_in;
      low_is = low_is;
      high_is = high_is;
    }
