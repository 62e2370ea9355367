-- The gates that have diagrams.
use Rattle.std.proofs.Common.{◌≡◌, ◌⊎◌, inl, inr, ℕ, ◌+◌, ◌<◌, ◌≤◌, Bool, true, false, List, length, replicate, set, get_or, slice_get, Some, sym, ap, ◌∙◌, subst, arith}
use Rattle.std.proofs.lemmas.Bool.{cases_lt, cases_eq}
use Rattle.std.proofs.lemmas.List.{get_or-set_other, get_or-set_same, length-set, length-replicate}
use Rattle.y86_base.proofs.Lists.{none_true}
use Rattle.nets.specs.Nets.{Gates, ReadsEarlier, gate_value, truths}
use Rattle.nets.specs.Nets.{truth as gate_truth}
use Rattle.nets.specs.declared.net.Gate.{Gate}
use Rattle.bdd_core.specs.Diagrams.{Diagrams, dia_truth, IsReduced, Keeps}
use Rattle.bdd_core.specs.Building.{AreKnown, AreMade, HasTruth, IsCone, IsMadeOf, KnowsAll, KnowsBefore, KnownGates, ReadsMarked}
use Rattle.bdd_core.specs.Meaning.{IsBuilt}
use Rattle.bdd_core.specs.declared.store.Dia.{Dia}
use Rattle.bdd_core.proofs.Gates.{truth_stays, value_is}

pub none_known : (n : Gates) (b : KnownGates) (k : ℕ) → k ≡ length n.gates → b.known ≡ replicate k false → b.made ≡ replicate k 0 → (s : Diagrams) → AreKnown s n b
none_known n b k e known made s = record { size = ap length known ∙ (length-replicate k false ∙ e); room = ap length made ∙ (length-replicate k 0 ∙ e); each = λ j h. absurd (none_true k j (ap (λ (xs : List Bool). get_or xs j false) (sym known) ∙ h)) }

pub known_stays : {a b : Diagrams} {n : Gates} {k : KnownGates} → IsReduced a → Keeps a b → AreKnown a n k → AreKnown b n k
known_stays well keeps known = record { size = known.size; room = known.room; each = λ j h. truth_stays well keeps (known.each j h) }

-- the gates that a gate reads have diagrams
pub are_made : {s : Diagrams} {n : Gates} {k : KnownGates} {g : Gate} → AreKnown s n k → ReadsMarked k.known g → AreMade s k.made g
are_made known reads = record {
  inverted = λ a e. (known.each a (reads.inverted a e)).within;
  left = λ a b e. (known.each a (reads.left a b e)).within;
  right = λ a b e. (known.each b (reads.right a b e)).within;
}

-- and the diagram made of them has the truth of the gate
gate_is : {a b : Diagrams} {n : Gates} {k : KnownGates} {i d : ℕ} {g : Gate} → Keeps a b → AreKnown a n k → ReadsMarked k.known g
    → ((w : List Bool) → gate_truth n i w ≡ gate_value w (truths n w) g) → IsMadeOf a b k.made g d → HasTruth b n i d
gate_is {a} {b} {n} {k} {i} {d} {g} keeps known reads meaning made_of = record {
  within = made_of.within;
  is = λ v h. (let z = h ∙ keeps.vars in
      made_of.is v h
      ∙ (value_is a n k.made v g (λ j e. (known.each j (reads.inverted j e)).is v z)
      (λ j l e. ((known.each j (reads.left j l e)).is v z, (known.each l (reads.right j l e)).is v z))
      ∙ sym (meaning v)));
}

pub known_more : {a b : Diagrams} {n : Gates} {k : KnownGates} {i d : ℕ} {g : Gate} → IsReduced a → Keeps a b → AreKnown a n k → i < length n.gates → ReadsMarked k.known g
    → ((w : List Bool) → gate_truth n i w ≡ gate_value w (truths n w) g) → IsMadeOf a b k.made g d → AreKnown b n (record { known = set k.known i true; made = set k.made i d })
known_more {a} {b} {n} {k} {i} {d} {g} well keeps known lt reads meaning made_of = record {
  size = length-set k.known i true ∙ known.size;
  room = length-set k.made i d ∙ known.room;
  each = λ j h. by j h (cases_eq j i);
}
  where
    by : (j : ℕ) → get_or (set k.known i true) j false ≡ true → (j ≡ i) ⊎ (j ≡ i → ⊥) → HasTruth b n j (get_or (set k.made i d) j 0)
    by j h (inl e) =
        let r : get_or (set k.made i d) j 0 ≡ d = ap (λ (x : ℕ). get_or (set k.made i d) x 0) e ∙ get_or-set_same k.made i d 0 (let z = known.room in omega (arith, z, lt)) in
        subst (HasTruth b n j) (sym r) (subst (λ (x : ℕ). HasTruth b n x d) (sym e) (gate_is keeps known reads meaning made_of))
    by j h (inr ne) =
        subst (HasTruth b n j) (sym (get_or-set_other k.made i j d 0 ne))
        (truth_stays well keeps (known.each j (sym (get_or-set_other k.known i j true false ne) ∙ h)))

-- a marked gate reads gates that have diagrams
pub reads_known : {n : Gates} {needed : List Bool} (k : KnownGates) {i : ℕ} {g : Gate} → IsCone n needed → KnowsBefore needed k i → slice_get n.gates i ≡ Some g → get_or needed i false ≡ true
    → ReadsEarlier n.vars i g → ReadsMarked k.known g
reads_known {n} {needed} k {i} {g} cone before is marked reads =
    let c = cone.closed i g is marked in
    record {
      inverted = λ a e. before a (reads.inverted a e) (c.inverted a e);
      left = λ a b e. before a (reads.left a b e) (c.left a b e);
      right = λ a b e. before b (reads.right a b e) (c.right a b e);
    }

pub one_more : (needed : List Bool) (old new : KnownGates) (i : ℕ) → KnowsBefore needed old i → KnowsAll old new → (get_or needed i false ≡ true → get_or new.known i false ≡ true) → KnowsBefore needed new (i + 1)
one_more needed old new i before all last j h marked = by (cases_lt j i)
  where
    by : (j < i) ⊎ (i ≤ j) → get_or new.known j false ≡ true
    by (inl lt) = all j (before j lt marked)
    by (inr le) =
        let e : j ≡ i = omega (arith, h, le) in
        ap (λ (x : ℕ). get_or new.known x false) e ∙ last (ap (λ (x : ℕ). get_or needed x false) (sym e) ∙ marked)

pub built_is : {s : Diagrams} {n : Gates} {k : KnownGates} {gate : ℕ} {d : Dia} → get_or k.known gate false ≡ true → AreKnown s n k → d.id ≡ get_or k.made gate 0 → IsBuilt s n gate d
built_is {s} {n} {k} {gate} {d} is known e =
    let has = known.each gate is in
    record {
      within = let w = has.within in omega (arith, w, e);
      is = λ v h. ap (λ (x : ℕ). dia_truth s x v) e ∙ has.is v h;
    }
