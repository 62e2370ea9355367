-- The truth of a gate stays as the net grows, and it depends on the gates before it alone.
use Rattle.std.proofs.Common.{◌≡◌, ℕ, ◌+◌, ◌<◌, ◌≤◌, List, [], ◌∷◌, ◌++◌, Bool, true, false, not, ◌&&◌, length, take, drop, get_or, slice_get, Some, refl, sym, ap, ◌∙◌, subst, arith}
use Rattle.std.proofs.lemmas.List.{take-append-drop, get_or_append_left, get_or_push, length_push, take_all, take-take, take_more, length-take}
use Rattle.std.proofs.lemmas.Option.{get_or_from_slice_get}
use Rattle.std.proofs.Math.Bool.{not-not}
use Rattle.nets.specs.Nets.{Gates, IsNet, ReadsEarlier, values, truths, truth, gate_value, ExtendsNet, IsGate, agree}
use Rattle.nets.specs.declared.net.Gate.{Gate}
use Rattle.nets.specs.declared.net.Gate.TheVariants.{Const, Var, Not, And}

values_append : (w e : List Bool) (xs ys : List Gate) → values w e (xs ++ ys) ≡ values w (values w e xs) ys
unfolding values
values_append w e [] ys = refl
values_append w e (x ∷ xs) ys = values_append w (e ++ gate_value w e x ∷ []) xs ys

-- each gate has one truth
pub values_length : (w e : List Bool) (xs : List Gate) → length (values w e xs) ≡ length e + length xs
unfolding values
values_length w e [] = omega arith
values_length w e (x ∷ xs) = omega (arith, values_length w (e ++ gate_value w e x ∷ []) xs, length_push e (gate_value w e x))

-- two truths that agree are equal
pub agree_true : (a b : Bool) → agree a b ≡ true → b ≡ a
agree_true true b h = h
agree_true false true h = cc
agree_true false false h = refl

values_kept : (w e : List Bool) (xs : List Gate) (i : ℕ) → i < length e → get_or (values w e xs) i false ≡ get_or e i false
unfolding values
values_kept w e [] i h = refl
values_kept w e (x ∷ xs) i h =
    let more : i < length (e ++ gate_value w e x ∷ []) = omega (arith, length_push e (gate_value w e x)) in
    values_kept w (e ++ gate_value w e x ∷ []) xs i more ∙ get_or_append_left e (gate_value w e x ∷ []) false i h

-- without gates there are no truths
pub values_none : (w xs : List Bool) → xs ≡ [] → xs ≡ values w [] []
unfolding values
values_none w xs e = e

-- a further gate adds a further truth
pub values_more : (w : List Bool) (gates : List Gate) (i : ℕ) (gate : Gate) → slice_get gates i ≡ Some gate → i < length gates
    → values w [] (take (i + 1) gates) ≡ values w [] (take i gates) ++ gate_value w (values w [] (take i gates)) gate ∷ []
unfolding values
values_more w gates i gate is h =
    ap (values w []) (take_more gates i gate h)
    ∙ (values_append w [] (take i gates) (get_or gates i gate ∷ [])
    ∙ ap (λ (g : Gate). values w [] (take i gates) ++ gate_value w (values w [] (take i gates)) g ∷ []) (get_or_from_slice_get gates i gate gate is))

-- a gate that reads earlier ones has the same truth with more of them
same_value : (w e f : List Bool) (vars : ℕ) (gate : Gate) → ReadsEarlier vars (length e) gate
    → ((i : ℕ) → i < length e → get_or f i false ≡ get_or e i false) → gate_value w f gate ≡ gate_value w e gate
same_value w e f vars (Const b) r h = refl
same_value w e f vars (Var x) r h = refl
same_value w e f vars (Not a) r h = ap not (h a (r.inverted a refl))
same_value w e f vars (And a b) r h = ap (λ x. x && get_or f b false) (h a (r.left a b refl)) ∙ ap (λ x. get_or e a false && x) (h b (r.right a b refl))

-- the truth of a gate, from the truths of those before it
pub truth_last : (n : Gates) (w : List Bool) (i : ℕ) (gate : Gate) → slice_get n.gates i ≡ Some gate → i < length n.gates
    → truth n i w ≡ gate_value w (values w [] (take i n.gates)) gate
unfolding truth truths
truth_last n w i gate is h =
    let e : List Bool = values w [] (take i n.gates) in
    let v : Bool = gate_value w e gate in
    let size : i ≡ length e = omega (arith, values_length w [] (take i n.gates), length-take {A = Gate}) in
    let inside : i < length (e ++ v ∷ []) = omega (arith, length_push e v) in
    ap (λ (xs : List Gate). get_or (values w [] xs) i false) (sym (take-append-drop (i + 1) n.gates))
    ∙ (ap (λ (xs : List Bool). get_or xs i false) (values_append w [] (take (i + 1) n.gates) (drop (i + 1) n.gates) ∙ ap (λ (xs : List Bool). values w xs (drop (i + 1) n.gates)) (values_more w n.gates i gate is h))
    ∙ (values_kept w (e ++ v ∷ []) (drop (i + 1) n.gates) i inside
    ∙ get_or_push e v false i (sym size)))

-- the truth of a gate, from the truths of all
pub truth_is : (n : Gates) → IsNet n → (i : ℕ) (gate : Gate) → slice_get n.gates i ≡ Some gate → i < length n.gates → (w : List Bool) → truth n i w ≡ gate_value w (truths n w) gate
unfolding truths
truth_is n net i gate is h w =
    let e : List Bool = values w [] (take i n.gates) in
    let size : length e ≡ i = omega (arith, values_length w [] (take i n.gates), length-take {A = Gate}) in
    let all : values w [] n.gates ≡ values w e (drop i n.gates) = ap (values w []) (sym (take-append-drop i n.gates)) ∙ values_append w [] (take i n.gates) (drop i n.gates) in
    let reads : ReadsEarlier n.vars (length e) gate = subst (λ (j : ℕ). ReadsEarlier n.vars j gate) (sym size) (net.earlier i gate is) in
    truth_last n w i gate is h
    ∙ sym (same_value w e (values w [] n.gates) n.vars gate reads (λ j below. ap (λ (xs : List Bool). get_or xs j false) all ∙ values_kept w e (drop i n.gates) j below))

-- an earlier gate keeps its truth in a net whose first gates are those of this one
kept_by : (old new : Gates) → take (length old.gates) new.gates ≡ old.gates → (g : ℕ) (w : List Bool) → g < length old.gates → truth new g w ≡ truth old g w
unfolding truth truths
kept_by old new first g w h =
    let n : ℕ = length old.gates in
    let parts : new.gates ≡ old.gates ++ drop n new.gates = sym (take-append-drop n new.gates) ∙ ap (λ (xs : List Gate). xs ++ drop n new.gates) first in
    let inside : g < length (values w [] old.gates) = omega (arith, values_length w [] old.gates) in
    ap (λ (xs : List Gate). get_or (values w [] xs) g false) parts
    ∙ (ap (λ (xs : List Bool). get_or xs g false) (values_append w [] old.gates (drop n new.gates))
    ∙ values_kept w (values w [] old.gates) (drop n new.gates) g inside)

-- a net begins with another that has its variables, and whose gates are its first
pub begins_by : (old new : Gates) → new.vars ≡ old.vars → length old.gates ≤ length new.gates → take (length old.gates) new.gates ≡ old.gates → ExtendsNet old new
begins_by old new vars more first = record { vars = vars; more = more; gates = first; same = kept_by old new first }

pub begins_self : (n : Gates) → ExtendsNet n n
begins_self n = begins_by n n refl (omega arith) (take_all (length n.gates) n.gates (omega arith))

pub begins_more : {a b c : Gates} → ExtendsNet a b → ExtendsNet b c → ExtendsNet a c
begins_more {a} {b} {c} p q = record {
  vars = q.vars ∙ p.vars;
  more = let x = p.more in let y = q.more in omega arith;
  gates = sym (take-take (length a.gates) (length b.gates) c.gates p.more) ∙ (ap (take (length a.gates)) q.gates ∙ p.gates);
  same = λ g w h. q.same g w (let x = p.more in omega (arith, h, x)) ∙ p.same g w h;
}

-- a gate of the net stays one with the same truth as the net grows
pub gate_kept : {old new : Gates} {g : ℕ} {f : List Bool → Bool} → ExtendsNet old new → IsGate old g f → IsGate new g f
gate_kept {old} {new} {g} {f} b is = record {
  within = let x = b.more in let y = is.within in omega arith;
  is = λ w. b.same g w is.within ∙ is.is w;
}

-- a gate has its own truth
pub gate_there : {n : Gates} {g : ℕ} → g < length n.gates → IsGate n g (λ w. truth n g w)
gate_there h = record { within = h; is = λ w. refl }

-- the truth of a new gate, by the truths of the net before
pub made_not : {old new : Gates} {a g : ℕ} → ExtendsNet old new → a < length old.gates → IsGate new g (λ w. gate_value w (truths new w) (Not a)) → IsGate new g (λ w. not (truth old a w))
unfolding truth
made_not {old} {new} {a} {g} b h made = record { within = made.within; is = λ w. made.is w ∙ ap not (b.same a w h) }

pub made_and : {old new : Gates} {a b g : ℕ} → ExtendsNet old new → a < length old.gates → b < length old.gates → IsGate new g (λ w. gate_value w (truths new w) (And a b))
    → IsGate new g (λ w. truth old a w && truth old b w)
unfolding truth
made_and {old} {new} {a} {b} {g} begins h k made = record {
  within = made.within;
  is = λ w. made.is w ∙ (ap (λ x. x && truth new b w) (begins.same a w h) ∙ ap (λ x. truth old a w && x) (begins.same b w k));
}

-- if a gate is the negation of another, the other is its negation
pub negated : (n : Gates) (a inner : ℕ) → inner < length n.gates → ((w : List Bool) → truth n a w ≡ gate_value w (truths n w) (Not inner)) → IsGate n inner (λ w. not (truth n a w))
unfolding truth
negated n a inner h is = record { within = h; is = λ w. sym (not-not (truth n inner w)) ∙ ap not (sym (is w)) }
