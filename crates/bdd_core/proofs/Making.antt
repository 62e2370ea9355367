-- The node that decides a variable between two diagrams.
use Rattle.std.proofs.Common.{◌≡◌, ◌⊎◌, inl, inr, ℕ, ◌+◌, ◌-◌, ◌<◌, ◌≤◌, true, false, List, [], ◌∷◌, ◌++◌, length, take, slice_get, Some, Result, Ok, Err, IfOk, OnErr, sym, ap, ◌∙◌, subst, arith}
use Rattle.std.proofs.lemmas.Bool.{cases_lt}
use Rattle.std.proofs.lemmas.List.{length_push, take-append-le, take_all, get_or_append_left, get_or_push}
use Rattle.std.proofs.lemmas.Option.{slice_get_within, get_or_from_slice_get, slice_get-get_or}
use Rattle.bdd_core.specs.Diagrams.{Diagrams, at, count, IsBranch, Keeps}
use Rattle.bdd_core.specs.Answers.{IsMade}
use Rattle.bdd_core.specs.Tables.{IsTable, IsUnique, IsNewIn, AreNodes}
use Rattle.bdd_core.proofs.Canonical.{part_here, part_behind}
use Rattle.bdd_core.proofs.Truths.{at_list, at_last, keeps_self}
use Rattle.bdd_core.proofs.Adding.{pushed_well, pushed_keeps}
use Rattle.bdd_core.proofs.Tables.{table_unique}
use Rattle.bdd_core.specs.declared.nodes.ChoiceNode.{ChoiceNode}

-- two equal parts are the diagram itself
pub made_same : (s : Diagrams) (x d e : ℕ) → d < count s → x < (at s d).var → d ≡ e → IsMade s x d e d
made_same s x d e h first same =
    let other : (at s d).var ≡ x → ⊥ = λ q. absurd (omega (arith, q)) in
    record {
      within = h;
      top = omega arith;
      is_low = part_behind (at s) x false d other;
      is_high = part_behind (at s) x true d other ∙ same;
    }

made_node : (s : Diagrams) (c : ChoiceNode) (d : ℕ) → d < count s → at s d ≡ c → IsMade s c.var c.low c.high d
made_node s c d h is =
    let here : (at s d).var ≡ c.var = ap (λ (e : ChoiceNode). e.var) is in
    record {
      within = h;
      top = omega (arith, here);
      is_low = part_here (at s) c.var false d here ∙ ap (λ (e : ChoiceNode). e.low) is;
      is_high = part_here (at s) c.var true d here ∙ ap (λ (e : ChoiceNode). e.high) is;
    }

-- a node that was found
pub made_found : (s : Diagrams) (x low high d : ℕ) → 2 ≤ d → slice_get s.nodes (d - 2) ≡ Some record { var = x; low = low; high = high } → IsMade s x low high d
made_found s x low high d h is =
    let c : ChoiceNode = record { var = x; low = low; high = high } in
    let inside : d - 2 < length s.nodes = slice_get_within s.nodes (d - 2) c is in
    made_node s c d (omega arith) (sym (at_list s d c h (omega arith)) ∙ get_or_from_slice_get s.nodes (d - 2) c c is)

-- a node that was added after the others
pub made_added : (s : Diagrams) (c : ChoiceNode) → IsMade record { vars = s.vars; nodes = s.nodes ++ c ∷ [] } c.var c.low c.high (count s)
made_added s c = made_node record { vars = s.vars; nodes = s.nodes ++ c ∷ [] } c (count s) (omega (arith, length_push s.nodes c)) (at_last s c)

-- a longer list has a new node only once
pub unique_pushed : (list : List ChoiceNode) (c : ChoiceNode) (places : List ℕ) → IsTable list places → IsNewIn list c → IsUnique (list ++ c ∷ [])
unique_pushed list c places t new i j d p q = by (cases_lt i (length list)) (cases_lt j (length list))
  where
    n : ℕ
    n = length list

    inside : (k : ℕ) → slice_get (list ++ c ∷ []) k ≡ Some d → k < n + 1
    inside k e = let w = slice_get_within (list ++ c ∷ []) k d e in omega (arith, w, length_push list c)

    old : (k : ℕ) → k < n → slice_get (list ++ c ∷ []) k ≡ Some d → slice_get list k ≡ Some d
    old k h e = slice_get-get_or list k d h ∙ ap Some (sym (get_or_append_left list (c ∷ []) d k h) ∙ get_or_from_slice_get (list ++ c ∷ []) k d d e)

    last : (k : ℕ) → n ≤ k → slice_get (list ++ c ∷ []) k ≡ Some d → c ≡ d
    last k h e = sym (get_or_push list c d k (let w = inside k e in omega (arith, w, h))) ∙ get_or_from_slice_get (list ++ c ∷ []) k d d e

    by : (i < n) ⊎ (n ≤ i) → (j < n) ⊎ (n ≤ j) → i ≡ j
    by (inl a) (inl b) = table_unique t i j d (old i a p) (old j b q)
    by (inl a) (inr b) = absurd (new i (old i a p ∙ ap Some (sym (last j b q))))
    by (inr a) (inl b) = absurd (new j (old j b q ∙ ap Some (sym (last i a p))))
    by (inr a) (inr b) = let x = inside i p in let y = inside j q in omega arith

-- the list without its last node
pub front : (list : List ChoiceNode) (c : ChoiceNode) (n : ℕ) → n ≡ length list → take n (list ++ c ∷ []) ≡ list
front list c n e = ap (λ (k : ℕ). take k (list ++ c ∷ [])) e ∙ (take-append-le (length list) list (c ∷ []) (omega arith) ∙ take_all (length list) list (omega arith))

pub whole : (list : List ChoiceNode) (c : ChoiceNode) (n : ℕ) → n ≡ length list → take (n + 1) (list ++ c ∷ []) ≡ list ++ c ∷ []
whole list c n e = take_all (n + 1) (list ++ c ∷ []) (omega (arith, length_push list c))

-- the diagrams with another node
pub made_pushed : (old new : Diagrams) (x low high d : ℕ) → new.vars ≡ old.vars → new.nodes ≡ old.nodes ++ record { var = x; low = low; high = high } ∷ [] → d ≡ count old → IsMade new x low high d
made_pushed old new x low high d v n e =
    let c : ChoiceNode = record { var = x; low = low; high = high } in
    let same : record { vars = old.vars; nodes = old.nodes ++ c ∷ [] } ≡ new = λ i. record { vars = sym v i; nodes = sym n i } in
    subst (λ (s : Diagrams). IsMade s x low high d) same (subst (λ (k : ℕ). IsMade record { vars = old.vars; nodes = old.nodes ++ c ∷ [] } x low high k) (sym e) (made_added old c))

pub keeps_pushed : (old new : Diagrams) (c : ChoiceNode) → new.vars ≡ old.vars → new.nodes ≡ old.nodes ++ c ∷ [] → Keeps old new
keeps_pushed old new c v n =
    let same : record { vars = old.vars; nodes = old.nodes ++ c ∷ [] } ≡ new = λ i. record { vars = sym v i; nodes = sym n i } in
    subst (Keeps old) same (pushed_keeps old c)

-- a node that may be added after the others
pub keeps_added : (old new : Diagrams) (c : ChoiceNode) {E : Type 0} (r : Result ℕ E) → new.vars ≡ old.vars → IfOk r (λ d. (d ≡ count old) × (new.nodes ≡ old.nodes ++ c ∷ [])) → OnErr r (new ≡ old) → Keeps old new
keeps_added old new c (Ok d) v added same = keeps_pushed old new c v added.1
keeps_added old new c (Err e) v added same = subst (Keeps old) (sym same) (keeps_self old)

-- nodes with another table
pub nodes_table : {vars : ℕ} {list : List ChoiceNode} {old new : List ℕ} → AreNodes vars list old → IsTable list new → AreNodes vars list new
nodes_table nodes table = record { well = nodes.well; table = table; few = nodes.few }

pub nodes_pushed : (vars : ℕ) (list : List ChoiceNode) (old new : List ℕ) (c : ChoiceNode) (n : ℕ) → AreNodes vars list old → IsBranch record { vars = vars; nodes = list } c → IsNewIn list c
    → n ≡ length list → n < 4000000000 → IsTable (take (n + 1) (list ++ c ∷ [])) new → AreNodes vars (list ++ c ∷ []) new
nodes_pushed vars list old new c n nodes branch absent e most table = record {
  well = pushed_well record { vars = vars; nodes = list } c nodes.well branch absent;
  table = subst (λ (xs : List ChoiceNode). IsTable xs new) (whole list c n e) table;
  few = omega (arith, length_push list c);
}
