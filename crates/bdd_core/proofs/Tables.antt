-- The table of nodes: a search returns the node, and stays right with another node.
use Rattle.std.proofs.Common.{◌≡◌, ◌⊎◌, inl, inr, ℕ, ◌+◌, ◌-◌, ◌<◌, ◌≤◌, cond, List, [], ◌∷◌, ◌++◌, length, get_or, set, drop, take, replicate, slice_get, Some, refl, sym, ap, ◌∙◌, subst, arith}
use Rattle.std.specs.List.{count_by}
use Rattle.std.proofs.lemmas.Bool.{cases_lt, cases_eq, lt-ltb, le-ltb}
use Rattle.std.proofs.lemmas.Nat.{and_le_r}
use Rattle.std.proofs.lemmas.List.{get_or-set_other, get_or-set_same, get_or-drop, get_or-take, get_or_past, length-set, length-drop, length-take, length_push, drop-set-add, get_or_append_left, get_or_push, get_or-replicate, length-replicate}
use Rattle.std.proofs.Math.Seq.{take-set-lt, drop-nil, take-nil}
use Rattle.std.proofs.lemmas.List.Sums.{sum_by-take-drop, sum_by-set}
use Rattle.std.proofs.lemmas.List.Folds.{sum_by-replicate}
use Rattle.std.proofs.lemmas.Option.{slice_get-get_or, get_or_from_slice_get, slice_get_within}
use Rattle.bdd_core.specs.Tables.{look_through, hash_of, joined, searched, home_of, is_used, IsTable, IsUnique}
use Rattle.bdd_core.proofs.Looking.{look_sound, look_place, look_all, look_written, found_kept, full_kept, Grows, AreIn}
use Rattle.bdd_core.specs.declared.nodes.ChoiceNode.{ChoiceNode}
use Rattle.bdd_core.specs.declared.table.Lookup.{Lookup}
use Rattle.bdd_core.specs.declared.table.Lookup.TheVariants.{Present, Vacant, Full}

-- used places stay used in the rest and in the front
grows_drop : (h : ℕ) {ps qs : List ℕ} → Grows ps qs → Grows (drop h ps) (drop h qs)
grows_drop h {ps} {qs} g = record {
  size = let s = g.size in omega (arith, s, length-drop h ps, length-drop h qs);
  stays = λ i u. get_or-drop h qs i 0 ∙ (g.stays (h + i) (subst (λ x. 2 ≤ x) (get_or-drop h ps i 0) u) ∙ sym (get_or-drop h ps i 0));
}

grows_take : (h : ℕ) {ps qs : List ℕ} → h ≤ length ps → Grows ps qs → Grows (take h ps) (take h qs)
grows_take h {ps} {qs} m g = record {
  size = let s = g.size in omega (arith, s, length-take {A = ℕ});
  stays = λ i u. elim (cases_lt i h) [
    | inl p ↦ get_or-take h qs i 0 p ∙ (g.stays i (subst (λ x. 2 ≤ x) (get_or-take h ps i 0 p) u) ∙ sym (get_or-take h ps i 0 p))
    | inr p ↦ absurd (let z = get_or_past (take h ps) i 0 (omega (arith, length-take {A = ℕ})) in omega (arith, z, u))
  ];
}

grows_set : (ps : List ℕ) (m x : ℕ) → get_or ps m 0 < 2 → Grows ps (set ps m x)
grows_set ps m x free = record {
  size = length-set ps m x;
  stays = λ i u. get_or-set_other ps m i x 0 (λ e. absurd (let q = ap (λ j. get_or ps j 0) e in omega (arith, q, free, u)));
}

in_drop : (list : List ChoiceNode) (h : ℕ) (ps : List ℕ) → AreIn list ps → AreIn list (drop h ps)
in_drop list h ps below i = subst (λ x. x < length list + 2) (sym (get_or-drop h ps i 0)) (below (h + i))

in_take : (list : List ChoiceNode) (h : ℕ) (ps : List ℕ) → h ≤ length ps → AreIn list ps → AreIn list (take h ps)
in_take list h ps m below i =
    elim (cases_lt i h) [
      | inl p ↦ subst (λ x. x < length list + 2) (sym (get_or-take h ps i 0 p)) (below i)
      | inr p ↦ (let z = get_or_past (take h ps) i 0 (omega (arith, length-take {A = ℕ})) in omega (arith, z))
    ]

joined_cases : (h : ℕ) (a b : Lookup) (d : ℕ) → joined h a b ≡ Present d → (a ≡ Present d) ⊎ ((a ≡ Full) × (b ≡ Present d))
joined_cases h (Present p) b d e = inl e
joined_cases h (Vacant i) b d e = absurd cc
joined_cases h Full b d e = inr (refl, e)

joined_free : (h : ℕ) (a b : Lookup) (k : ℕ) → joined h a b ≡ Vacant k → ((i : ℕ) × (a ≡ Vacant i) × (k ≡ h + i)) ⊎ ((a ≡ Full) × (b ≡ Vacant k))
joined_free h (Present p) b k e = absurd cc
joined_free h (Vacant i) b k e = inl (i, refl, (let q : h + i ≡ k = cc in sym q))
joined_free h Full b k e = inr (refl, e)

joined_full : (h : ℕ) (a b : Lookup) → joined h a b ≡ Full → (a ≡ Full) × (b ≡ Full)
joined_full h (Present p) b e = absurd cc
joined_full h (Vacant i) b e = absurd cc
joined_full h Full b e = (refl, e)

module _ (list : List ChoiceNode) (c : ChoiceNode) (ps : List ℕ) where
  pub search_sound : (d : ℕ) → searched list c ps ≡ Present d → (2 ≤ d) × (slice_get list (d - 2) ≡ Some c)
  unfolding searched
  search_sound d e =
      let h : ℕ = home_of c (length ps) in
      elim (joined_cases h (look_through list c (drop h ps)) (look_through list c (take h ps)) d e) [
        | inl f ↦ look_sound list c (drop h ps) d f
        | inr f ↦ look_sound list c (take h ps) d f.1
      ]

  pub search_full : searched list c ps ≡ Full → count_by is_used ps ≡ length ps
  unfolding searched
  search_full e =
      let h : ℕ = home_of c (length ps) in
      let f = joined_full h (look_through list c (drop h ps)) (look_through list c (take h ps)) e in
      let a = look_all list c (drop h ps) f.0 in
      let b = look_all list c (take h ps) f.1 in
      let s = sum_by-take-drop (λ x. cond (is_used x) 1 0) ps h in
      omega (arith, a, b, s, length-drop h ps, length-take {A = ℕ})

  module _ (near : home_of c (length ps) ≤ length ps) where
    pub search_place : (m : ℕ) → searched list c ps ≡ Vacant m → (m < length ps) × (get_or ps m 0 < 2)
    unfolding searched
    search_place m e = by (joined_free h (look_through list c (drop h ps)) (look_through list c (take h ps)) m e)
      where
        h : ℕ
        h = home_of c (length ps)

        by : ((i : ℕ) × (look_through list c (drop h ps) ≡ Vacant i) × (m ≡ h + i)) ⊎ ((look_through list c (drop h ps) ≡ Full) × (look_through list c (take h ps) ≡ Vacant m))
            → (m < length ps) × (get_or ps m 0 < 2)
        by (inl f) =
            let p = look_place list c (drop h ps) f.0 f.1 in
            subst (λ (j : ℕ). (j < length ps) × (get_or ps j 0 < 2)) (sym f.2)
            ((let q = p.0 in omega (arith, q, length-drop h ps)), subst (λ x. x < 2) (get_or-drop h ps f.0 0) p.1)
        by (inr f) =
            let p = look_place list c (take h ps) m f.1 in
            let b : m < h = let q = p.0 in omega (arith, q, length-take {A = ℕ}, near) in
            (omega (arith, near, b), subst (λ x. x < 2) (get_or-take h ps m 0 b) p.1)

    pub search_written : AreIn list ps → (m : ℕ) → searched list c ps ≡ Vacant m → searched (list ++ c ∷ []) c (set ps m (length list + 2)) ≡ Present (length list + 2)
    unfolding searched
    search_written below m e =
        ap (λ (n : ℕ). let k = home_of c n in joined k (look_through (list ++ c ∷ []) c (drop k (set ps m (length list + 2)))) (look_through (list ++ c ∷ []) c (take k (set ps m (length list + 2))))) (length-set ps m (length list + 2))
        ∙ by (joined_free h (look_through list c (drop h ps)) (look_through list c (take h ps)) m e)
      where
        h : ℕ
        h = home_of c (length ps)

        x : ℕ
        x = length list + 2

        more : List ChoiceNode
        more = list ++ c ∷ []

        by : ((i : ℕ) × (look_through list c (drop h ps) ≡ Vacant i) × (m ≡ h + i)) ⊎ ((look_through list c (drop h ps) ≡ Full) × (look_through list c (take h ps) ≡ Vacant m))
            → joined h (look_through more c (drop h (set ps m x))) (look_through more c (take h (set ps m x))) ≡ Present x
        by (inl f) =
            ap (λ (a : List ℕ). joined h (look_through more c a) (look_through more c (take h (set ps m x)))) (ap (λ (j : ℕ). drop h (set ps j x)) f.2 ∙ drop-set-add h ps f.0 x)
            ∙ ap (λ (a : Lookup). joined h a (look_through more c (take h (set ps m x)))) (look_written list c (drop h ps) f.0 (in_drop list h ps below) f.1)
        by (inr f) =
            let p = look_place list c (take h ps) m f.1 in
            let b : m < h = let q = p.0 in omega (arith, q, length-take {A = ℕ}, near) in
            let g : Grows (drop h ps) (drop h (set ps m x)) = grows_drop h (grows_set ps m x (subst (λ y. y < 2) (get_or-take h ps m 0 b) p.1)) in
            ap (λ (a : Lookup). joined h a (look_through more c (take h (set ps m x)))) (full_kept list c c (drop h ps) (drop h (set ps m x)) g (in_drop list h ps below) f.0)
            ∙ (ap (look_through more c) (take-set-lt h ps m x b) ∙ look_written list c (take h ps) m (in_take list h ps near below) f.1)

    pub search_kept : (more : ChoiceNode) (qs : List ℕ) (d : ℕ) → Grows ps qs → AreIn list ps → searched list c ps ≡ Present d → searched (list ++ more ∷ []) c qs ≡ Present d
    unfolding searched
    search_kept more qs d g below e =
        ap (λ (n : ℕ). let k = home_of c n in joined k (look_through (list ++ more ∷ []) c (drop k qs)) (look_through (list ++ more ∷ []) c (take k qs))) g.size
        ∙ by (joined_cases h (look_through list c (drop h ps)) (look_through list c (take h ps)) d e)
      where
        h : ℕ
        h = home_of c (length ps)

        longer : List ChoiceNode
        longer = list ++ more ∷ []

        by : (look_through list c (drop h ps) ≡ Present d) ⊎ ((look_through list c (drop h ps) ≡ Full) × (look_through list c (take h ps) ≡ Present d))
            → joined h (look_through longer c (drop h qs)) (look_through longer c (take h qs)) ≡ Present d
        by (inl f) =
            ap (λ (a : Lookup). joined h a (look_through longer c (take h qs))) (found_kept list more c (drop h ps) (drop h qs) d (grows_drop h g) (in_drop list h ps below) f)
        by (inr f) =
            ap (λ (a : Lookup). joined h a (look_through longer c (take h qs))) (full_kept list more c (drop h ps) (drop h qs) (grows_drop h g) (in_drop list h ps below) f.0)
            ∙ found_kept list more c (take h ps) (take h qs) d (grows_take h near g) (in_take list h ps near below) f.1

-- a search through no places
pub search_none : (list : List ChoiceNode) (c : ChoiceNode) (ps : List ℕ) → length ps ≡ 0 → Full ≡ searched list c ps
unfolding searched look_through
search_none list c [] e =
    let h : ℕ = home_of c 0 in
    sym (ap (λ (xs : List ℕ). joined h (look_through list c xs) (look_through list c (take h []))) (drop-nil h)
    ∙ ap (λ (xs : List ℕ). look_through list c xs) (take-nil h))
search_none list c (p ∷ ps) e = absurd (omega arith)

-- a search begins inside the table
home_near : (c : ChoiceNode) (n : ℕ) → 0 < n → home_of c n ≤ n
unfolding home_of
home_near c n h = (let b = and_le_r (hash_of c) (n - 1) in omega (arith, b, h))

-- a list that the table finds has no node twice
pub table_unique : {list : List ChoiceNode} {places : List ℕ} → IsTable list places → IsUnique list
table_unique {list} {places} t i j c p q =
    let e : Present (i + 2) ≡ Present (j + 2) = sym (t.complete i c p) ∙ t.complete j c q in
    let f : i + 2 ≡ j + 2 = cc in
    omega (arith, f)

-- another node
pub table_put : (list : List ChoiceNode) (c : ChoiceNode) (places : List ℕ) (m : ℕ) → 0 < length places → IsTable list places → searched list c places ≡ Vacant m
    → IsTable (list ++ c ∷ []) (set places m (length list + 2))
table_put list c places m some t e = record {
  below = λ i. elim (cases_eq i m) [
    | inl q ↦ subst (λ (j : ℕ). get_or (set places m x) j 0 < length (list ++ c ∷ []) + 2) (sym q)
        (let s = get_or-set_same places m x 0 place.0 in omega (arith, s, length_push list c))
    | inr q ↦ (let s = get_or-set_other places m i x 0 q in let b = t.below i in omega (arith, s, b, length_push list c))
  ];
  complete = complete;
  used = let s = sum_by-set (λ y. cond (is_used y) 1 0) places m x 0 place.0 in
      let a : ◌≡◌ {A = ℕ} (cond (is_used x) 1 0) 1 = ap (λ b. cond b 1 0) (lt-ltb 1 x (omega arith)) in
      let b : ◌≡◌ {A = ℕ} (cond (is_used (get_or places m 0)) 1 0) 0 = ap (λ z. cond z 1 0) (le-ltb 1 (get_or places m 0) (let f = place.1 in omega (arith, f))) in
      let u = t.used in
      omega (arith, s, a, b, u, length_push list c);
}
  where
    x : ℕ
    x = length list + 2

    near : (d : ChoiceNode) → home_of d (length places) ≤ length places
    near d = home_near d (length places) some

    place : (m < length places) × (get_or places m 0 < 2)
    place = search_place list c places (near c) m e

    complete : (i : ℕ) (d : ChoiceNode) → slice_get (list ++ c ∷ []) i ≡ Some d → searched (list ++ c ∷ []) d (set places m x) ≡ Present (i + 2)
    complete i d is = by (cases_lt i (length list))
      where
        inside : i < length (list ++ c ∷ [])
        inside = slice_get_within (list ++ c ∷ []) i d is

        read : get_or (list ++ c ∷ []) i d ≡ d
        read = get_or_from_slice_get (list ++ c ∷ []) i d d is

        by : (i < length list) ⊎ (length list ≤ i) → searched (list ++ c ∷ []) d (set places m x) ≡ Present (i + 2)
        by (inl p) =
            let old : slice_get list i ≡ Some d = slice_get-get_or list i d p ∙ ap Some (sym (get_or_append_left list (c ∷ []) d i p) ∙ read) in
            search_kept list d places (near d) c (set places m x) (i + 2) (grows_set places m x place.1) t.below (t.complete i d old)
        by (inr p) =
            let last : i ≡ length list = omega (arith, inside, p, length_push list c) in
            let same : c ≡ d = sym (get_or_push list c d i (sym last)) ∙ read in
            ap (λ (y : ChoiceNode). searched (list ++ c ∷ []) y (set places m x)) (sym same)
            ∙ (search_written list c places (near c) t.below m e ∙ ap (λ (j : ℕ). Present (j + 2)) (sym last))

-- no nodes
pub table_none : (size : ℕ) → IsTable [] (replicate size 0)
table_none size = record {
  below = λ i. elim (cases_lt i size) [
    | inl p ↦ (let r = get_or-replicate {A = ℕ} size i 0 0 p in omega (arith, r))
    | inr p ↦ (let r = get_or_past {X = ℕ} (replicate size 0) i 0 (omega (arith, length-replicate {A = ℕ} size 0)) in omega (arith, r))
  ];
  complete = λ i c is. absurd (let h = slice_get_within [] i c is in omega (arith, h));
  used = sum_by-replicate (λ x. cond (is_used x) 1 0) size 0 ∙ omega arith;
}
