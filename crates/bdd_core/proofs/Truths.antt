-- The nodes of a store's diagrams, and their truths as the store grows.
use Rattle.std.proofs.Common.{◌≡◌, ℕ, zero, suc, ◌-◌, ◌<◌, ◌≤◌, Bool, List, [], ◌∷◌, ◌++◌, length, get_or, refl, ap, ◌∙◌, arith}
use Rattle.std.proofs.lemmas.List.{get_or_append_left, get_or_push}
use Rattle.std.proofs.lemmas.Option.{slice_get-get_or, get_or_from_slice_get}
use Rattle.bdd_core.specs.Diagrams.{Diagrams, end, at, count, dia_truth, IsReduced, Keeps}
use Rattle.bdd_core.proofs.Reaching.{reach_kept}
use Rattle.bdd_core.specs.declared.nodes.ChoiceNode.{ChoiceNode}

pub at_first : (s : Diagrams) → at s 0 ≡ end s.vars 0
unfolding at
at_first s = refl

pub at_second : (s : Diagrams) → at s 1 ≡ end s.vars 1
unfolding at
at_second s = refl

get_or_any : (xs : List ChoiceNode) (i : ℕ) (x y : ChoiceNode) → i < length xs → get_or xs i x ≡ get_or xs i y
get_or_any xs i x y h = get_or_from_slice_get xs i (get_or xs i y) x (slice_get-get_or xs i y h)

pub at_list : (s : Diagrams) (d : ℕ) (x : ChoiceNode) → 2 ≤ d → d < count s → get_or s.nodes (d - 2) x ≡ at s d
unfolding at
at_list s zero x h i = absurd (omega arith)
at_list s (suc zero) x h i = absurd (omega arith)
at_list s (suc (suc d)) x h i =
    let e : suc (suc d) - 2 ≡ d = omega arith in
    ap (λ (k : ℕ). get_or s.nodes k x) e ∙ get_or_any s.nodes d x (end s.vars 0) (omega arith)

-- a node added after the others: the earlier ones stay, and it is the last
pub at_pushed : (s : Diagrams) (c : ChoiceNode) (d : ℕ) → d < count s → at record { vars = s.vars; nodes = s.nodes ++ c ∷ [] } d ≡ at s d
unfolding at
at_pushed s c zero h = refl
at_pushed s c (suc zero) h = refl
at_pushed s c (suc (suc d)) h = get_or_append_left s.nodes (c ∷ []) (end s.vars 0) d (omega arith)

pub at_last : (s : Diagrams) (c : ChoiceNode) → at record { vars = s.vars; nodes = s.nodes ++ c ∷ [] } (count s) ≡ c
unfolding at
at_last s c =
    let e : count s ≡ suc (suc (length s.nodes)) = omega arith in
    ap (λ (k : ℕ). get_or (end s.vars 0 ∷ end s.vars 1 ∷ (s.nodes ++ c ∷ [])) k (end s.vars 0)) e
    ∙ get_or_push s.nodes c (end s.vars 0) (length s.nodes) refl

-- an earlier diagram keeps its truth
pub truth_kept : {old new : Diagrams} → IsReduced old → Keeps old new → (d : ℕ) (v : List Bool) → d < count old → dia_truth new d v ≡ dia_truth old d v
unfolding dia_truth
truth_kept {old} {new} well kept d v h = reach_kept well {other = at new} kept.nodes d d v h

pub keeps_self : (s : Diagrams) → Keeps s s
keeps_self s = record { vars = refl; more = omega arith; nodes = λ d h. refl }

pub keeps_more : {a b c : Diagrams} → Keeps a b → Keeps b c → Keeps a c
keeps_more {a} {b} {c} p q = record {
  vars = q.vars ∙ p.vars;
  more = let x = p.more in let y = q.more in omega arith;
  nodes = λ d h. q.nodes d (let x = p.more in omega arith) ∙ p.nodes d h;
}
