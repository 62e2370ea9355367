-- The diagrams of gates: what is marked, and what each gate's diagram is.
use Rattle.std.proofs.Common.{◌≡◌, ◌⊎◌, inl, inr, ℕ, ◌+◌, ◌<◌, ◌≤◌, Bool, true, false, not, ◌&&◌, List, length, set, get_or, slice_get, Some, refl, sym, ap, ◌∙◌, subst, arith}
use Rattle.std.proofs.lemmas.Bool.{cases_lt, cases_eq, cases_Bool}
use Rattle.std.proofs.lemmas.List.{get_or-set_other, get_or-set_same, get_or_past}
use Rattle.std.proofs.lemmas.Option.{slice_get_within}
use Rattle.nets.specs.Nets.{Gates, gate_value, truths}
use Rattle.nets.specs.Nets.{truth as gate_truth}
use Rattle.nets.specs.declared.net.Gate.{Gate}
use Rattle.nets.specs.declared.net.Gate.TheVariants.{Const, Var, Not, And}
use Rattle.bdd_core.specs.Diagrams.{Diagrams, at, count, dia_truth, reach, IsReduced, Keeps}
use Rattle.bdd_core.specs.Answers.{IsMade, IsAnswer}
use Rattle.bdd_core.specs.declared.results.Op.TheVariants.{And as Conjunction, Not as Negation}
use Rattle.bdd_core.specs.Building.{ReadsMarked, IsCone, HasTruth, made_value, IsMadeOf}
use Rattle.bdd_core.specs.Meaning.{Stay}
use Rattle.bdd_core.proofs.Canonical.{part_truth}
use Rattle.bdd_core.proofs.Applying.{first_truth, second_truth}
use Rattle.bdd_core.proofs.Truths.{truth_kept}

-- the diagram of a variable
pub variable_truth : (s : Diagrams) (x d : ℕ) (v : List Bool) → IsReduced s → IsMade s x 0 1 d → dia_truth s d v ≡ get_or v x false
unfolding dia_truth
variable_truth s x d v well made = by (cases_Bool (get_or v x false))
  where
    by : (get_or v x false ≡ true) ⊎ (get_or v x false ≡ false) → reach (at s) d d v ≡ get_or v x false
    by (inl b) = sym (part_truth well x true d v made.within b) ∙ (ap (λ (k : ℕ). reach (at s) k k v) made.is_high ∙ (second_truth s v well ∙ sym b))
    by (inr b) = sym (part_truth well x false d v made.within b) ∙ (ap (λ (k : ℕ). reach (at s) k k v) made.is_low ∙ (first_truth s v well ∙ sym b))

-- a diagram that has the truth of a gate keeps it
pub truth_stays : {a b : Diagrams} {n : Gates} {j d : ℕ} → IsReduced a → Keeps a b → HasTruth a n j d → HasTruth b n j d
truth_stays {a} {b} {n} {j} {d} well keeps has = record {
  within = let m = keeps.more in let w = has.within in omega (arith, m, w);
  is = λ v h. truth_kept well keeps d v has.within ∙ has.is v (h ∙ keeps.vars);
}

-- the truth of a gate from the diagrams that it reads, if these have the truths of their gates
pub value_is : (a : Diagrams) (n : Gates) (made : List ℕ) (v : List Bool) (g : Gate) → ((j : ℕ) → g ≡ Not j → dia_truth a (get_or made j 0) v ≡ gate_truth n j v)
    → ((j k : ℕ) → g ≡ And j k → (dia_truth a (get_or made j 0) v ≡ gate_truth n j v) × (dia_truth a (get_or made k 0) v ≡ gate_truth n k v))
    → made_value a made v g ≡ gate_value v (truths n v) g
unfolding gate_truth
value_is a n made v (Const b) one two = refl
value_is a n made v (Var x) one two = refl
value_is a n made v (Not k) one two = ap not (one k refl)
value_is a n made v (And k l) one two =
    ap (λ x. x && dia_truth a (get_or made l 0) v) (two k l refl).0 ∙ ap (λ x. get_or (truths n v) k false && x) (two k l refl).1

-- marks that are written
pub marked_one : (old : List Bool) (a : ℕ) → a < length old → get_or (set old a true) a false ≡ true
marked_one old a h = get_or-set_same old a true false h

pub marked_stays : (old : List Bool) (a j : ℕ) → get_or old j false ≡ true → get_or (set old a true) j false ≡ true
marked_stays old a j is = by (cases_eq j a) (cases_lt j (length old))
  where
    by : (j ≡ a) ⊎ (j ≡ a → ⊥) → (j < length old) ⊎ (length old ≤ j) → get_or (set old a true) j false ≡ true
    by (inl e) (inl h) = ap (λ (k : ℕ). get_or (set old k true) j false) (sym e) ∙ get_or-set_same old j true false h
    by (inl e) (inr h) = absurd (let z = get_or_past old j false h in cc)
    by (inr e) h = get_or-set_other old a j true false e ∙ is

pub marked_later : (old : List Bool) (a i j : ℕ) → a < i → i ≤ j → get_or (set old a true) j false ≡ get_or old j false
marked_later old a i j h k = get_or-set_other old a j true false (λ e. absurd (omega (arith, e, h, k)))

-- earlier diagrams stay
pub stays : {a b : Diagrams} → IsReduced a → Keeps a b → Stay a b
stays {a} {b} well keeps = record {
  vars = keeps.vars;
  stay = λ d h. (let m = keeps.more in omega (arith, m, h));
  truths = λ d h v. truth_kept well keeps d.id v h;
}

-- the diagram of each gate
pub made_true : (s : Diagrams) (made : List ℕ) (g : Gate) (b : Bool) → IsReduced s → g ≡ Const b → b ≡ true → IsMadeOf s s made g 1
made_true s made g b well is e =
    subst (λ (x : Gate). IsMadeOf s s made x 1) (sym is) (record { within = omega arith; is = λ v h. second_truth s v well ∙ sym e })

pub made_false : (s : Diagrams) (made : List ℕ) (g : Gate) (b : Bool) → IsReduced s → g ≡ Const b → b ≡ false → IsMadeOf s s made g 0
made_false s made g b well is e =
    subst (λ (x : Gate). IsMadeOf s s made x 0) (sym is) (record { within = omega arith; is = λ v h. first_truth s v well ∙ sym e })

pub made_var : (old new : Diagrams) (made : List ℕ) (x d : ℕ) → IsReduced new → IsMade new x 0 1 d → IsMadeOf old new made (Var x) d
made_var old new made x d well is = record { within = is.within; is = λ v h. variable_truth new x d v well is }

pub made_not : (old new : Diagrams) (made : List ℕ) (a d : ℕ) → IsReduced old → Keeps old new → get_or made a 0 < count old
    → IsAnswer new record { op = Negation; left = get_or made a 0; right = get_or made a 0 } d → IsMadeOf old new made (Not a) d
made_not old new made a d well keeps h answer = record {
  within = answer.within;
  is = λ v k. answer.truth_is v k ∙ ap not (truth_kept well keeps (get_or made a 0) v h);
}

pub made_and : (old new : Diagrams) (made : List ℕ) (a b d : ℕ) → IsReduced old → Keeps old new → get_or made a 0 < count old → get_or made b 0 < count old
    → IsAnswer new record { op = Conjunction; left = get_or made a 0; right = get_or made b 0 } d → IsMadeOf old new made (And a b) d
made_and old new made a b d well keeps h i answer = record {
  within = answer.within;
  is = λ v k. answer.truth_is v k
      ∙ (ap (λ x. x && dia_truth new (get_or made b 0) v) (truth_kept well keeps (get_or made a 0) v h)
      ∙ ap (λ y. dia_truth old (get_or made a 0) v && y) (truth_kept well keeps (get_or made b 0) v i));
}

-- marks from gate i on are closed
pub record IsConeFrom (n : Gates) (needed : List Bool) (i : ℕ) : Type 0 where
  pub size : length needed ≡ length n.gates
  pub closed : (j : ℕ) (g : Gate) → i ≤ j → slice_get n.gates j ≡ Some g → get_or needed j false ≡ true → ReadsMarked needed g

reads_stay : {old new : List Bool} {g : Gate} → ((j : ℕ) → get_or old j false ≡ true → get_or new j false ≡ true) → ReadsMarked old g → ReadsMarked new g
reads_stay stay r = record { inverted = λ a e. stay a (r.inverted a e); left = λ a b e. stay a (r.left a b e); right = λ a b e. stay b (r.right a b e) }

pub cone_started : (n : Gates) (i : ℕ) (needed : List Bool) → length needed ≡ length n.gates → i ≡ length n.gates → IsConeFrom n needed i
cone_started n i needed size e = record { size = size; closed = λ j g h is m. absurd (let w = slice_get_within n.gates j g is in omega (arith, w, e, h)) }

pub cone_more : {n : Gates} {i k : ℕ} {old new : List Bool} → IsConeFrom n old k → k ≡ i + 1 → length new ≡ length old
    → ((j : ℕ) → i ≤ j → get_or new j false ≡ get_or old j false) → ((j : ℕ) → get_or old j false ≡ true → get_or new j false ≡ true)
    → ((g : Gate) → slice_get n.gates i ≡ Some g → get_or old i false ≡ true → ReadsMarked new g) → IsConeFrom n new i
cone_more {n} {i} {k} {old} {new} cone next size later stay reads = record {
  size = size ∙ cone.size;
  closed = λ j f h at m. elim (cases_lt i j) [
    | inl p ↦ reads_stay stay (cone.closed j f (omega (arith, next, p)) at (sym (later j h) ∙ m))
    | inr p ↦ (let e : j ≡ i = omega arith in
        reads f (ap (slice_get n.gates) (sym e) ∙ at) (sym (later i (omega arith)) ∙ (ap (λ (x : ℕ). get_or new x false) (sym e) ∙ m)))
  ];
}

pub cone_ended : {n : Gates} {i : ℕ} {needed : List Bool} → IsConeFrom n needed i → i ≡ 0 → IsCone n needed
cone_ended cone e = record { size = cone.size; closed = λ j g is m. cone.closed j g (omega (arith, e)) is m }
