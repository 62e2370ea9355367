-- A node is put into the table, and all nodes one after another.
use Rattle.std.proofs.Common.{◌≡◌, ℕ, ◌+◌, ◌-◌, ◌<◌, ◌≤◌, List, [], ◌∷◌, ◌++◌, length, take, get_or, set, replicate, slice_get, Some, refl, sym, ap, ◌∙◌, subst, arith}
use Rattle.std.proofs.lemmas.List.{take_more, take_all, length-take, get_or-take}
use Rattle.std.proofs.lemmas.List.Sums.{count_by-le-length}
use Rattle.std.proofs.lemmas.Option.{slice_get-get_or, get_or_from_slice_get, slice_get_within}
use Rattle.bdd_core.specs.Tables.{searched, is_used, IsTable, IsUnique}
use Rattle.bdd_core.proofs.Tables.{search_sound, search_full, table_put, table_none}
use Rattle.bdd_core.specs.declared.nodes.ChoiceNode.{ChoiceNode}
use Rattle.bdd_core.specs.declared.table.Lookup.{Lookup}
use Rattle.bdd_core.specs.declared.table.Lookup.TheVariants.{Present, Vacant, Full}

module _ (list : List ChoiceNode) (n : ℕ) (c : ChoiceNode) (places : List ℕ) (inside : n < length list) where
  size : length (take n list) ≡ n
  size = omega (arith, length-take {A = ChoiceNode})

  -- a search for a node that isn't in the table ends at a free place, if there is one
  pub put_free : (r : Lookup) → IsUnique list → n < length places → IsTable (take n list) places → r ≡ searched (take n list) (get_or list n c) places
      → ((i : ℕ) → r ≡ Vacant i → ⊥) → ⊥
  put_free (Vacant i) unique room t e other = other i refl
  put_free Full unique room t e other = let f = search_full (take n list) (get_or list n c) places (sym e) in let u = t.used in omega (arith, f, u, size)
  put_free (Present d) unique room t e other =
      let x : ChoiceNode = get_or list n c in
      let s = search_sound (take n list) x places d (sym e) in
      let below : d - 2 < n = let w = slice_get_within (take n list) (d - 2) x s.1 in omega (arith, w, size) in
      let old : slice_get list (d - 2) ≡ Some x =
      slice_get-get_or list (d - 2) x (omega arith) ∙ ap Some (sym (get_or-take n list (d - 2) x below) ∙ get_or_from_slice_get (take n list) (d - 2) x x s.1) in
      let same : d - 2 ≡ n = unique (d - 2) n x old (slice_get-get_or list n c inside) in
      omega arith

  pub put_table : (i : ℕ) → n < length places → IsTable (take n list) places → Vacant i ≡ searched (take n list) (get_or list n c) places → IsTable (take (n + 1) list) (set places i (n + 2))
  put_table i room t e =
      let p = table_put (take n list) (get_or list n c) places i (omega arith) t (sym e) in
      subst (λ (xs : List ChoiceNode). IsTable xs (set places i (n + 2))) (sym (take_more list n c inside))
      (subst (λ (k : ℕ). IsTable (take n list ++ get_or list n c ∷ []) (set places i (k + 2))) size p)

pub table_begun : (list : List ChoiceNode) (places : List ℕ) (size : ℕ) → places ≡ replicate size 0 → IsTable (take 0 list) places
table_begun list places size e = subst (λ (ps : List ℕ). IsTable [] ps) (sym e) (table_none size)

pub table_ended : (list : List ChoiceNode) (places : List ℕ) (n : ℕ) → length list ≤ n → IsTable (take n list) places → IsTable list places
table_ended list places n h t = subst (λ (xs : List ChoiceNode). IsTable xs places) (take_all n list h) t

-- a table has a place for each node
pub table_size : {list : List ChoiceNode} {places : List ℕ} → IsTable list places → length list ≤ length places
table_size {list} {places} t = let u = t.used in let c = count_by-le-length is_used places in omega (arith, u, c)
