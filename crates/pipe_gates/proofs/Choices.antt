-- Gates that are made of gates of control values.
use Rattle.std.proofs.Common.{◌≡◌, ℕ, Bool, true, false, if◌then◌else◌, List, refl, ap, ◌∙◌, arith}
use Rattle.nets.specs.Nets.{Gates, ExtendsNet, IsGate, truth}
use Rattle.ctl_atoms.specs.declared.leaf.Leaf.{Leaf}
use Rattle.ctl_atoms.specs.declared.leaf.Atom.{Atom}
use Rattle.ctl_atoms.specs.Leaves.{Assignment, leaf_eq}
use Rattle.ctl_picks.specs.declared.controls.Entry.{Entry}
use Rattle.ctl_picks.specs.Picks.{IsInside}
use Rattle.ctl_rules.specs.ControlGates.{IsControlGate}
use Rattle.ctl_rules.proofs.Kept.{tells_less}
use Rattle.pipe_gates.specs.GateTruths.{IsAtomGate}

-- a gate that joins three others
pub asked_three : {old new : Gates} {ctl : List Entry} {x y z g : ℕ} {f h k : List Bool → Assignment → (ℕ → Leaf) → Bool} (join : Bool → Bool → Bool → Bool)
    → ExtendsNet old new → IsInside old ctl → IsControlGate old ctl x f → IsControlGate old ctl y h → IsControlGate old ctl z k → IsGate new g (λ w. join (truth old x w) (truth old y w) (truth old z w))
    → IsControlGate new ctl g (λ w α cv. join (f w α cv) (h w α cv) (k w α cv))
asked_three {old} {new} {ctl} {x} {y} {z} {g} {f} {h} {k} join b i p q r m = record {
  within = m.within;
  is = λ w α cv t.
      let u = tells_less b i t in
      m.is w ∙ (ap (λ c. join c (truth old y w) (truth old z w)) (p.is w α cv u)
      ∙ (ap (λ c. join (f w α cv) c (truth old z w)) (q.is w α cv u) ∙ ap (λ c. join (f w α cv) (h w α cv) c) (r.is w α cv u)));
}

-- a gate over atoms is one of a later net
pub over_more : {old new : Gates} {atoms : List Atom} {g : ℕ} {f : List Bool → Assignment → Bool} → ExtendsNet old new → IsAtomGate old atoms g f → IsAtomGate new atoms g f
over_more {old} {new} {atoms} {g} k h = record {
  within = let x = k.more in let y = h.within in omega arith;
  is = λ w α m. k.same g w h.within ∙ h.is w α m;
}

-- a gate that chooses an older gate where its own test fails
pub asked_older : {old new : Gates} {ctl : List Entry} {x g : ℕ} {h : List Bool → Assignment → (ℕ → Leaf) → Bool} (test value : List Bool → Assignment → (ℕ → Leaf) → Bool)
    → ExtendsNet old new → IsInside old ctl → IsControlGate old ctl x h → IsControlGate new ctl g (λ w α cv. if test w α cv then value w α cv else truth old x w)
    → IsControlGate new ctl g (λ w α cv. if test w α cv then value w α cv else h w α cv)
asked_older test value b i p q = record {
  within = q.within;
  is = λ w α cv t. q.is w α cv t ∙ ap (λ c. if test w α cv then value w α cv else c) (p.is w α cv (tells_less b i t));
}

-- the first leaf whose test holds
pub first_leaf : (a b c d e : Bool) (x s t u v w z : Leaf) →
    (if a then leaf_eq x s else (if b then leaf_eq x t else (if c then leaf_eq x u else (if d then leaf_eq x v else (if e then leaf_eq x w else leaf_eq x z)))))
    ≡ leaf_eq x (if a then s else (if b then t else (if c then u else (if d then v else (if e then w else z)))))
first_leaf true b c d e x s t u v w z = refl
first_leaf false true c d e x s t u v w z = refl
first_leaf false false true d e x s t u v w z = refl
first_leaf false false false true e x s t u v w z = refl
first_leaf false false false false true x s t u v w z = refl
first_leaf false false false false false x s t u v w z = refl
