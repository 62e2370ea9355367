-- The gates of a copy have the truths of the gates that they represent.
use Rattle.std.proofs.Common.{◌≡◌, inl, inr, ℕ, ◌<◌, Bool, false, not, ◌&&◌, List, [], ◌∷◌, ◌++◌, length, get_or, sym, ap, ◌∙◌, subst, arith}
use Rattle.std.proofs.lemmas.Bool.{cases_lt}
use Rattle.std.proofs.lemmas.List.{get_or-map, get_or_append_left, get_or_push, length_push}
use Rattle.nets.specs.Nets.{Gates, ExtendsNet, IsGate, gate_value, truth, truths}
use Rattle.nets.specs.declared.net.Gate.{Gate}
use Rattle.nets.specs.declared.net.Gate.TheVariants.{Var, Not, And}
use Rattle.nets.proofs.Truths.{gate_kept}
use Rattle.nets.specs.declared.copies.Replacement.{Replacement}
use Rattle.nets.specs.declared.copies.Replacement.TheVariants.{Const as Fixed}
use Rattle.nets.specs.Substitution.{source_truth, behind, AreCopies}

-- the bit of variable x is the truth of its replacement
pub read_at : (to : List Replacement) (u : List Bool) (x : ℕ) → x < length to → get_or (behind to u) x false ≡ source_truth u (get_or to x (Fixed false))
read_at to u x h = get_or-map (source_truth u) to x (Fixed false) false h

pub copies_none : (n copy : Gates) (to : List Replacement) (made : List ℕ) → made ≡ [] → AreCopies n copy to made
copies_none n copy to made e = record { each = λ i h. (let k : i < length {A = ℕ} [] = subst (λ (xs : List ℕ). i < length xs) e h in absurd (omega (arith, k))) }

-- the copies of the gates so far, with the copy of the next gate
pub copies_more : {n old new : Gates} {to : List Replacement} {made : List ℕ} {g i : ℕ} → (gate : Gate) → ExtendsNet old new → AreCopies n old to made → length made ≡ i
    → ((w : List Bool) → truth n i w ≡ gate_value w (truths n w) gate) → IsGate new g (λ u. gate_value (behind to u) (truths n (behind to u)) gate) → AreCopies n new to (made ++ g ∷ [])
copies_more {n} {old} {new} {to} {made} {g} {i} gate begins copies size meaning is = record {
  each = λ j h. elim (cases_lt j (length made)) [
    | inl p ↦ subst (λ (k : ℕ). IsGate new k (λ u. truth n j (behind to u))) (sym (get_or_append_left made (g ∷ []) 0 j p)) (gate_kept begins (copies.each j p))
    | inr p ↦ (let e : j ≡ length made = omega (arith, h, length_push made g) in
        let r : get_or (made ++ g ∷ []) j 0 ≡ g = get_or_push made g 0 j (sym e) in
        let this : IsGate new g (λ u. truth n j (behind to u)) = record { within = is.within; is = λ u. is.is u ∙ (sym (meaning (behind to u)) ∙ ap (λ (k : ℕ). truth n k (behind to u)) (sym (e ∙ size))) } in
        subst (λ (k : ℕ). IsGate new k (λ u. truth n j (behind to u))) (sym r) this)
  ];
}

-- the gate made for a gate that reads a variable, another gate, or two
pub variable_made : (n : Gates) {new : Gates} (to : List Replacement) {g x : ℕ} → x < length to → IsGate new g (λ u. source_truth u (get_or to x (Fixed false)))
    → IsGate new g (λ u. gate_value (behind to u) (truths n (behind to u)) (Var x))
variable_made n {new} to {g} {x} h is = record { within = is.within; is = λ u. is.is u ∙ sym (read_at to u x h) }

pub not_made : {n old new : Gates} {to : List Replacement} {made : List ℕ} {g a : ℕ} → AreCopies n old to made → a < length made → IsGate new g (λ u. not (truth old (get_or made a 0) u))
    → IsGate new g (λ u. gate_value (behind to u) (truths n (behind to u)) (Not a))
unfolding truth
not_made {n} {old} {new} {to} {made} {g} {a} copies h is = record { within = is.within; is = λ u. is.is u ∙ ap not ((copies.each a h).is u) }

pub and_made : {n old new : Gates} {to : List Replacement} {made : List ℕ} {g a b : ℕ} → AreCopies n old to made → a < length made → b < length made
    → IsGate new g (λ u. truth old (get_or made a 0) u && truth old (get_or made b 0) u)
    → IsGate new g (λ u. gate_value (behind to u) (truths n (behind to u)) (And a b))
unfolding truth
and_made {n} {old} {new} {to} {made} {g} {a} {b} copies h k is = record {
  within = is.within;
  is = λ u. is.is u ∙ (ap (λ (x : Bool). x && truth old (get_or made b 0) u) ((copies.each a h).is u) ∙ ap (λ (x : Bool). truth n a (behind to u) && x) ((copies.each b k).is u));
}
