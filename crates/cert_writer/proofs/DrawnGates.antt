-- The diagrams of a net's gates.
use Rattle.std.proofs.Common.{◌≡◌, ◌⊎◌, inl, inr, ℕ, ◌+◌, ◌<◌, ◌≤◌, Bool, false, List, [], ◌∷◌, ◌++◌, length, map, take, get_or, sym, ap, ◌∙◌, subst, arith}
use Rattle.std.proofs.lemmas.Bool.{cases_lt}
use Rattle.std.proofs.lemmas.List.{get_or-map, get_or_append_left, get_or_push, length-map, length_push, map_more, same_lists, take_all, get_or_default}
use Rattle.nets.specs.Nets.{Gates, truth}
use Rattle.nets.specs.Substitution.{AreCopies, AreSources, behind, source_truth}
use Rattle.nets.specs.declared.copies.Replacement.{Replacement}
use Rattle.nets.specs.declared.copies.Replacement.TheVariants as source
use Rattle.bdd_core.specs.Building.{AreKnown, KnownGates}
use Rattle.bdd_core.specs.Diagrams.{Diagrams}
use Rattle.bdd_core.specs.Meaning.{IsBuilt, Stay}
use Rattle.bdd_core.specs.declared.store.Dia.{Dia}
use Rattle.cert_writer.specs.Nodes.{IsDrawn, IsVariableOrder, no_dia, places_of}
use Rattle.cert_writer.proofs.Nodes.{places_length}

pub sources_none : (ranks : List ℕ) (to : List Replacement) → to ≡ [] → to ≡ map source.Var (take 0 ranks)
sources_none ranks to e = e

pub sources_more : (ranks : List ℕ) (old new : List Replacement) (i : ℕ) → i < length ranks → old ≡ map source.Var (take i ranks) → new ≡ old ++ source.Var (get_or ranks i 0) ∷ [] → new ≡ map source.Var (take (i + 1) ranks)
sources_more ranks old new i h e f = f ∙ ap (λ (xs : List Replacement). xs ++ source.Var (get_or ranks i 0) ∷ []) e ∙ sym (map_more source.Var ranks i 0 h)

pub sources_all : (ranks : List ℕ) (to : List Replacement) (i : ℕ) → length ranks ≤ i → to ≡ map source.Var (take i ranks) → to ≡ map source.Var ranks
sources_all ranks to i h e = e ∙ ap (map source.Var) (take_all i ranks h)

pub are_sources : (order ranks : List ℕ) (to : List Replacement) (vars : ℕ) → IsVariableOrder order ranks → length order ≡ vars → to ≡ map source.Var ranks → AreSources vars to
are_sources order ranks to vars o size e = subst (AreSources vars) (sym e) (record { within = each })
  where
    var_of : Replacement → ℕ
    var_of (source.Const b) = 0
    var_of (source.Var x) = x

    each : (i x : ℕ) → i < length (map source.Var ranks) → get_or (map source.Var ranks) i (source.Const false) ≡ source.Var x → x < vars
    each i x h is =
        let inside : i < length ranks = (let l = length-map ranks source.Var in omega (arith, h, l)) in
        let value : get_or ranks i 0 ≡ x = ap var_of (sym (get_or-map source.Var ranks i 0 (source.Const false) inside) ∙ is) in
        let below = o.below i (let s = o.size in omega (arith, inside, s)) in
        omega (arith, below, value, size)

pub whole : (order ranks : List ℕ) (to : List Replacement) (vars : ℕ) → IsVariableOrder order ranks → length order ≡ vars → to ≡ map source.Var ranks → length to ≡ vars
whole order ranks to vars o size e = ap length e ∙ length-map ranks source.Var ∙ o.size ∙ size

-- the valuation of the net from which that of the copy comes is the pattern itself
behind_places : (order ranks : List ℕ) → IsVariableOrder order ranks → (w : List Bool) → length w ≡ length order → behind (map source.Var ranks) (places_of order w) ≡ w
behind_places order ranks o w size =
    same_lists (behind (map source.Var ranks) (places_of order w)) w
    (length-map (map source.Var ranks) (source_truth (places_of order w)) ∙ length-map ranks source.Var ∙ o.size ∙ sym size)
    (λ v d h. each v d (let l = length-map (map source.Var ranks) (source_truth (places_of order w)) in let m = length-map ranks source.Var in let s = o.size in omega (arith, h, l, m, s)))
  where
    each : (v : ℕ) (d : Bool) → v < length order → get_or (behind (map source.Var ranks) (places_of order w)) v d ≡ get_or w v d
    each v d h =
        let inside : v < length ranks = (let s = o.size in omega (arith, h, s)) in
        let mapped : v < length (map source.Var ranks) = (let m = length-map ranks source.Var in omega (arith, inside, m)) in
        get_or-map (source_truth (places_of order w)) (map source.Var ranks) v (source.Const false) d mapped
        ∙ ap (source_truth (places_of order w)) (get_or-map source.Var ranks v 0 (source.Const false) inside)
        ∙ get_or-map (λ x. get_or w x false) order (get_or ranks v 0) 0 false (o.below v h)
        ∙ ap (λ n. get_or w n false) (o.forth v h)
        ∙ get_or_default w v false d (omega (arith, h, size))

-- the gates of the copy so far have diagrams
pub record AreDrawn (copy : Gates) (gates : List ℕ) (s : Diagrams) (built : KnownGates) (dias : List Dia) (i : ℕ) : Type 0 where
  pub vars : copy.vars ≡ s.vars
  pub known : AreKnown s copy built
  pub size : length dias ≡ i
  pub each : (j : ℕ) → j < i → IsBuilt s copy (get_or gates j 0) (get_or dias j no_dia)

pub drawn_none : (copy : Gates) (gates : List ℕ) (s : Diagrams) (built : KnownGates) (dias : List Dia) → copy.vars ≡ s.vars → AreKnown s copy built → dias ≡ [] → AreDrawn copy gates s built dias 0
drawn_none copy gates s built dias vars b d = record {
  vars = vars;
  known = b;
  size = ap length d;
  each = λ j h. absurd (omega (arith, h));
}

built_stays : (copy : Gates) (s t : Diagrams) (gate : ℕ) (d : Dia) → Stay s t → IsBuilt s copy gate d → IsBuilt t copy gate d
built_stays copy s t gate d k b = record { within = k.stay d b.within; is = λ v size. k.truths d b.within v ∙ b.is v (size ∙ k.vars) }

pub drawn_more : (copy : Gates) (gates : List ℕ) (s t : Diagrams) (built more : KnownGates) (dias new : List Dia) (i : ℕ) (d : Dia) → AreDrawn copy gates s built dias i → Stay s t → AreKnown t copy more →
    IsBuilt t copy (get_or gates i 0) d → new ≡ dias ++ d ∷ [] → AreDrawn copy gates t more new (i + 1)
drawn_more copy gates s t built more dias new i d a k f b e = record {
  vars = a.vars ∙ sym k.vars;
  known = f;
  size = (let l = ap length e in let m = length_push dias d in let n = a.size in omega (arith, l, m, n));
  each = λ j h. subst (λ (x : Dia). IsBuilt t copy (get_or gates j 0) x) (sym (ap (λ (xs : List Dia). get_or xs j no_dia) e)) (by j h (cases_lt j i));
}
  where
    by : (j : ℕ) → j < i + 1 → (j < i) ⊎ (i ≤ j) → IsBuilt t copy (get_or gates j 0) (get_or (dias ++ d ∷ []) j no_dia)
    by j h (inl less) =
        subst (λ (x : Dia). IsBuilt t copy (get_or gates j 0) x) (sym (get_or_append_left dias (d ∷ []) no_dia j (let n = a.size in omega (arith, less, n))))
        (built_stays copy s t (get_or gates j 0) (get_or dias j no_dia) k (a.each j less))
    by j h (inr past) =
        let same : j ≡ i = omega (arith, h, past) in
        subst (λ (x : Dia). IsBuilt t copy (get_or gates j 0) x) (sym (get_or_push dias d no_dia j (a.size ∙ sym same)))
        (subst (λ n. IsBuilt t copy (get_or gates n 0) d) (sym same) b)

pub gate_within : (n copy : Gates) (to : List Replacement) (gates : List ℕ) (i : ℕ) → AreCopies n copy to gates → i < length gates → get_or gates i 0 < length copy.gates
gate_within n copy to gates i c h = (let g = c.each i h in g.within)

pub drawn_all : (n copy : Gates) (order ranks : List ℕ) (to : List Replacement) (gates : List ℕ) (s : Diagrams) (built : KnownGates) (dias : List Dia) (i : ℕ) → IsVariableOrder order ranks → s.vars ≡ length order → to ≡ map source.Var ranks →
    length gates ≡ length n.gates → AreCopies n copy to gates → i ≡ length n.gates → AreDrawn copy gates s built dias i → IsDrawn n order s dias
drawn_all n copy order ranks to gates s built dias i o vars e size c at a = record {
  vars = vars;
  size = a.size ∙ at;
  within = λ j h. (let b = a.each j (omega (arith, h, at)) in b.within);
  is = λ j h w whole.
      (let b = a.each j (omega (arith, h, at)) in
      let g = c.each j (omega (arith, h, size)) in
      b.is (places_of order w) (places_length order w ∙ sym vars)
      ∙ g.is (places_of order w)
      ∙ ap (truth n j) (ap (λ (xs : List Replacement). behind xs (places_of order w)) e ∙ behind_places order ranks o w whole));
}
