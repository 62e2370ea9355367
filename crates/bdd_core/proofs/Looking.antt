-- Searches through places.
use Rattle.std.proofs.Common.{◌≡◌, ◌⊎◌, inl, inr, ℕ, suc, ◌+◌, ◌-◌, ◌<◌, ◌≤◌, true, false, cond, ◌&&◌, List, [], ◌∷◌, ◌++◌, length, get_or, set, drop, slice_get, Option, Some, None, refl, sym, ap, ◌∙◌, subst, arith}
use Rattle.std.specs.Prelude.{nat_eq}
use Rattle.std.specs.List.{count_by}
use Rattle.std.proofs.lemmas.Bool.{cases_lt, cases_Bool, lt-ltb, le-ltb, eq-eqb, and_from, and_parts, eqb-true}
use Rattle.std.proofs.lemmas.List.{drop_more, drop_all, get_or_append_left, get_or_push, length_push}
use Rattle.std.proofs.lemmas.Option.{slice_get-get_or}
use Rattle.std.proofs.lemmas.List.Sums.{sum_by-append}
use Rattle.bdd_core.specs.Tables.{same_node, same_at, names, further, look_through, is_used}
use Rattle.bdd_core.specs.declared.nodes.ChoiceNode.{ChoiceNode}
use Rattle.bdd_core.specs.declared.table.Lookup.{Lookup}
use Rattle.bdd_core.specs.declared.table.Lookup.TheVariants.{Present, Vacant, Full}

module _ (list : List ChoiceNode) (c : ChoiceNode) where
  head_free : (p : ℕ) (ps : List ℕ) → p < 2 → look_through list c (p ∷ ps) ≡ Vacant 0
  unfolding look_through
  head_free p ps h = ap (λ t. cond t (Vacant 0) (cond (names list p c) (Present p) (further 1 (look_through list c ps)))) (lt-ltb p 2 h)

  head_found : (p : ℕ) (ps : List ℕ) → 2 ≤ p → names list p c ≡ true → look_through list c (p ∷ ps) ≡ Present p
  unfolding look_through
  head_found p ps h e =
      ap (λ t. cond t (Vacant 0) (cond (names list p c) (Present p) (further 1 (look_through list c ps)))) (le-ltb p 2 h)
      ∙ ap (λ t. cond t (Present p) (further 1 (look_through list c ps))) e

  head_more : (p : ℕ) (ps : List ℕ) → 2 ≤ p → names list p c ≡ false → look_through list c (p ∷ ps) ≡ further 1 (look_through list c ps)
  unfolding look_through
  head_more p ps h e =
      ap (λ t. cond t (Vacant 0) (cond (names list p c) (Present p) (further 1 (look_through list c ps)))) (le-ltb p 2 h)
      ∙ ap (λ t. cond t (Present p) (further 1 (look_through list c ps))) e

  none_full : look_through list c [] ≡ Full
  unfolding look_through
  none_full = refl

further_none : (r : Lookup) → further 0 r ≡ r
further_none (Present p) = refl
further_none (Vacant i) = ap Vacant (omega arith)
further_none Full = refl

further_more : (i : ℕ) (r : Lookup) → further i (further 1 r) ≡ further (i + 1) r
further_more i (Present p) = refl
further_more i (Vacant k) = ap Vacant (omega arith)
further_more i Full = refl

-- a loop that looks at one place after another
module _ (list : List ChoiceNode) (c : ChoiceNode) (ps : List ℕ) where
  pub look_start : look_through list c ps ≡ further 0 (look_through list c (drop 0 ps))
  look_start = sym (further_none (look_through list c ps))

  module _ (i : ℕ) (so_far : look_through list c ps ≡ further i (look_through list c (drop i ps))) where
    pub look_free : i < length ps → get_or ps i 0 < 2 → Vacant i ≡ look_through list c ps
    look_free h free =
        sym (so_far ∙ (ap (λ xs. further i (look_through list c xs)) (drop_more ps i 0 h)
        ∙ (ap (further i) (head_free list c (get_or ps i 0) (drop (i + 1) ps) free) ∙ ap Vacant (omega arith))))

    pub look_found : i < length ps → 2 ≤ get_or ps i 0 → names list (get_or ps i 0) c ≡ true → Present (get_or ps i 0) ≡ look_through list c ps
    look_found h used e =
        sym (so_far ∙ (ap (λ xs. further i (look_through list c xs)) (drop_more ps i 0 h)
        ∙ ap (further i) (head_found list c (get_or ps i 0) (drop (i + 1) ps) used e)))

    pub look_more : i < length ps → 2 ≤ get_or ps i 0 → names list (get_or ps i 0) c ≡ false → look_through list c ps ≡ further (i + 1) (look_through list c (drop (i + 1) ps))
    look_more h used e =
        so_far ∙ (ap (λ xs. further i (look_through list c xs)) (drop_more ps i 0 h)
        ∙ (ap (further i) (head_more list c (get_or ps i 0) (drop (i + 1) ps) used e) ∙ further_more i (look_through list c (drop (i + 1) ps))))

    pub look_end : length ps ≤ i → Full ≡ look_through list c ps
    look_end h = sym (so_far ∙ (ap (λ xs. further i (look_through list c xs)) (drop_all i ps h) ∙ ap (further i) (none_full list c)))

further_found : (r : Lookup) (d : ℕ) → further 1 r ≡ Present d → r ≡ Present d
further_found (Present p) d e = e
further_found (Vacant i) d e = absurd cc
further_found Full d e = absurd cc

further_full : (r : Lookup) → further 1 r ≡ Full → r ≡ Full
further_full (Present p) e = absurd cc
further_full (Vacant i) e = absurd cc
further_full Full e = refl

further_free : (r : Lookup) (k : ℕ) → further 1 r ≡ Vacant k → (j : ℕ) × (r ≡ Vacant j) × (k ≡ suc j)
further_free (Present p) k e = absurd cc
further_free (Vacant i) k e = (i, refl, (let q : 1 + i ≡ k = cc in omega (arith, q)))
further_free Full k e = absurd cc

-- a number names the same node in a longer list
names_kept : (list : List ChoiceNode) (more c : ChoiceNode) (p : ℕ) → p - 2 < length list → names (list ++ more ∷ []) p c ≡ names list p c
names_kept list more c p h =
    ap (λ o. same_at o c)
    (slice_get-get_or (list ++ more ∷ []) (p - 2) c (omega (arith, length_push list more))
    ∙ (ap Some (get_or_append_left list (more ∷ []) c (p - 2) h) ∙ sym (slice_get-get_or list (p - 2) c h)))

same_itself : (c : ChoiceNode) → same_node c c ≡ true
same_itself c = and_from _ _ (and_from _ _ (eq-eqb c.var c.var refl) (eq-eqb c.low c.low refl)) (eq-eqb c.high c.high refl)

names_last : (list : List ChoiceNode) (c : ChoiceNode) → names (list ++ c ∷ []) (length list + 2) c ≡ true
names_last list c =
    let e : length list + 2 - 2 ≡ length list = omega arith in
    ap (λ o. same_at o c)
    (slice_get-get_or (list ++ c ∷ []) (length list + 2 - 2) c (omega (arith, length_push list c))
    ∙ ap Some (get_or_push list c c (length list + 2 - 2) (sym e)))
    ∙ same_itself c

same_is : (a b : ChoiceNode) → same_node a b ≡ true → a ≡ b
same_is a b e =
    let p = and_parts (nat_eq a.var b.var && nat_eq a.low b.low) (nat_eq a.high b.high) e in
    let q = and_parts (nat_eq a.var b.var) (nat_eq a.low b.low) p.0 in
    let x : a.var ≡ b.var = eqb-true a.var b.var q.0 in
    let y : a.low ≡ b.low = eqb-true a.low b.low q.1 in
    let z : a.high ≡ b.high = eqb-true a.high b.high p.1 in
    λ i. record { var = x i; low = y i; high = z i }

named : (o : Option ChoiceNode) (c : ChoiceNode) → same_at o c ≡ true → o ≡ Some c
named None c e = absurd cc
named (Some b) c e = ap Some (same_is b c e)

module _ (list : List ChoiceNode) (c : ChoiceNode) where
  -- a search that finds a number has found the node
  pub look_sound : (ps : List ℕ) (d : ℕ) → look_through list c ps ≡ Present d → (2 ≤ d) × (slice_get list (d - 2) ≡ Some c)
  look_sound [] d e = absurd (let f = none_full list c in cc)
  look_sound (p ∷ ps) d e = by (cases_lt p 2) (cases_Bool (names list p c)) (look_sound ps d)
    where
      by : (p < 2) ⊎ (2 ≤ p) → (names list p c ≡ true) ⊎ (names list p c ≡ false) → (look_through list c ps ≡ Present d → (2 ≤ d) × (slice_get list (d - 2) ≡ Some c))
          → (2 ≤ d) × (slice_get list (d - 2) ≡ Some c)
      by (inl h) t rest = absurd (let f = head_free list c p ps h in cc)
      by (inr h) (inl t) rest =
          let f : Present p ≡ Present d = sym (head_found list c p ps h t) ∙ e in
          let q : p ≡ d = cc in
          subst (λ (k : ℕ). (2 ≤ k) × (slice_get list (k - 2) ≡ Some c)) q (h, named (slice_get list (p - 2)) c t)
      by (inr h) (inr t) rest = rest (further_found (look_through list c ps) d (sym (head_more list c p ps h t) ∙ e))

  -- the free place at which a search ends
  pub look_place : (ps : List ℕ) (k : ℕ) → look_through list c ps ≡ Vacant k → (k < length ps) × (get_or ps k 0 < 2)
  look_place [] k e = absurd (let f = none_full list c in cc)
  look_place (p ∷ ps) k e = by (cases_lt p 2) (cases_Bool (names list p c)) (look_place ps)
    where
      by : (p < 2) ⊎ (2 ≤ p) → (names list p c ≡ true) ⊎ (names list p c ≡ false) → ((j : ℕ) → look_through list c ps ≡ Vacant j → (j < length ps) × (get_or ps j 0 < 2))
          → (k < length (p ∷ ps)) × (get_or (p ∷ ps) k 0 < 2)
      by (inl h) t rest =
          let f : Vacant 0 ≡ Vacant k = sym (head_free list c p ps h) ∙ e in
          let q : 0 ≡ k = cc in
          subst (λ (j : ℕ). (j < length (p ∷ ps)) × (get_or (p ∷ ps) j 0 < 2)) q (omega arith, h)
      by (inr h) (inl t) rest = absurd (let f = head_found list c p ps h t in cc)
      by (inr h) (inr t) rest =
          let f = further_free (look_through list c ps) k (sym (head_more list c p ps h t) ∙ e) in
          let r = rest f.0 f.1 in
          subst (λ (j : ℕ). (j < length (p ∷ ps)) × (get_or (p ∷ ps) j 0 < 2)) (sym f.2) ((let z = r.0 in omega (arith, z)), r.1)

  -- a search that meets no free place has met only used ones
  pub look_all : (ps : List ℕ) → look_through list c ps ≡ Full → count_by is_used ps ≡ length ps
  look_all [] e = refl
  look_all (p ∷ ps) e = by (cases_lt p 2) (cases_Bool (names list p c)) (look_all ps)
    where
      by : (p < 2) ⊎ (2 ≤ p) → (names list p c ≡ true) ⊎ (names list p c ≡ false) → (look_through list c ps ≡ Full → count_by is_used ps ≡ length ps)
          → count_by is_used (p ∷ ps) ≡ length (p ∷ ps)
      by (inl h) t rest = absurd (let f = head_free list c p ps h in cc)
      by (inr h) (inl t) rest = absurd (let f = head_found list c p ps h t in cc)
      by (inr h) (inr t) rest =
          let r = rest (further_full (look_through list c ps) (sym (head_more list c p ps h t) ∙ e)) in
          let one : ◌≡◌ {A = ℕ} (cond (is_used p) 1 0) 1 = ap (λ t. cond t 1 0) (lt-ltb 1 p h) in
          let parts : count_by is_used (p ∷ ps) ≡ (0 + cond (is_used p) 1 0) + count_by is_used ps = sum_by-append (λ x. cond (is_used x) 1 0) (p ∷ []) ps in
          omega (arith, r, one, parts)

-- used places stay
pub record Grows (ps qs : List ℕ) : Type 0 where
  pub size : length qs ≡ length ps
  pub stays : (i : ℕ) → 2 ≤ get_or ps i 0 → get_or qs i 0 ≡ get_or ps i 0

grows_rest : {p q : ℕ} {ps qs : List ℕ} → Grows (p ∷ ps) (q ∷ qs) → Grows ps qs
grows_rest g = record { size = (let s = g.size in omega (arith, s)); stays = λ i h. g.stays (suc i) h }

-- places with numbers of a list
abbrev pub AreIn : List ChoiceNode → List ℕ → Type 0
AreIn list ps = (i : ℕ) → get_or ps i 0 < length list + 2

module _ (list : List ChoiceNode) (more c : ChoiceNode) where
  -- in a longer list and with further places used, a search finds what it found before
  pub found_kept : (ps qs : List ℕ) (d : ℕ) → Grows ps qs → AreIn list ps → look_through list c ps ≡ Present d → look_through (list ++ more ∷ []) c qs ≡ Present d
  found_kept [] qs d g below e = absurd (let f = none_full list c in cc)
  found_kept (p ∷ ps) [] d g below e = absurd (let s = g.size in omega (arith, s))
  found_kept (p ∷ ps) (q ∷ qs) d g below e = by (cases_lt p 2) (cases_Bool (names list p c)) (found_kept ps qs d (grows_rest g) (λ i. below (suc i)))
    where
      by : (p < 2) ⊎ (2 ≤ p) → (names list p c ≡ true) ⊎ (names list p c ≡ false) → (look_through list c ps ≡ Present d → look_through (list ++ more ∷ []) c qs ≡ Present d)
          → look_through (list ++ more ∷ []) c (q ∷ qs) ≡ Present d
      by (inl h) t rest = absurd (let f = head_free list c p ps h in cc)
      by (inr h) (inl t) rest =
          let same : q ≡ p = g.stays 0 h in
          let kept : names (list ++ more ∷ []) p c ≡ true = names_kept list more c p (let b = below 0 in omega (arith, b)) ∙ t in
          ap (λ (x : ℕ). look_through (list ++ more ∷ []) c (x ∷ qs)) same ∙ (head_found (list ++ more ∷ []) c p qs h kept ∙ (sym (head_found list c p ps h t) ∙ e))
      by (inr h) (inr t) rest =
          let same : q ≡ p = g.stays 0 h in
          let kept : names (list ++ more ∷ []) p c ≡ false = names_kept list more c p (let b = below 0 in omega (arith, b)) ∙ t in
          let r = rest (further_found (look_through list c ps) d (sym (head_more list c p ps h t) ∙ e)) in
          ap (λ (x : ℕ). look_through (list ++ more ∷ []) c (x ∷ qs)) same ∙ (head_more (list ++ more ∷ []) c p qs h kept ∙ ap (further 1) r)

  pub full_kept : (ps qs : List ℕ) → Grows ps qs → AreIn list ps → look_through list c ps ≡ Full → look_through (list ++ more ∷ []) c qs ≡ Full
  full_kept [] [] g below e = none_full (list ++ more ∷ []) c
  full_kept [] (q ∷ qs) g below e = absurd (let s = g.size in omega (arith, s))
  full_kept (p ∷ ps) [] g below e = absurd (let s = g.size in omega (arith, s))
  full_kept (p ∷ ps) (q ∷ qs) g below e = by (cases_lt p 2) (cases_Bool (names list p c)) (full_kept ps qs (grows_rest g) (λ i. below (suc i)))
    where
      by : (p < 2) ⊎ (2 ≤ p) → (names list p c ≡ true) ⊎ (names list p c ≡ false) → (look_through list c ps ≡ Full → look_through (list ++ more ∷ []) c qs ≡ Full)
          → look_through (list ++ more ∷ []) c (q ∷ qs) ≡ Full
      by (inl h) t rest = absurd (let f = head_free list c p ps h in cc)
      by (inr h) (inl t) rest = absurd (let f = head_found list c p ps h t in cc)
      by (inr h) (inr t) rest =
          let same : q ≡ p = g.stays 0 h in
          let kept : names (list ++ more ∷ []) p c ≡ false = names_kept list more c p (let b = below 0 in omega (arith, b)) ∙ t in
          let r = rest (further_full (look_through list c ps) (sym (head_more list c p ps h t) ∙ e)) in
          ap (λ (x : ℕ). look_through (list ++ more ∷ []) c (x ∷ qs)) same ∙ (head_more (list ++ more ∷ []) c p qs h kept ∙ ap (further 1) r)

module _ (list : List ChoiceNode) (c : ChoiceNode) where
  -- if the number of a node is written where the search for it ended, a search finds it there
  pub look_written : (ps : List ℕ) (k : ℕ) → AreIn list ps → look_through list c ps ≡ Vacant k
      → look_through (list ++ c ∷ []) c (set ps k (length list + 2)) ≡ Present (length list + 2)
  look_written [] k below e = absurd (let f = none_full list c in cc)
  look_written (p ∷ ps) k below e = by (cases_lt p 2) (cases_Bool (names list p c)) (λ j. look_written ps j (λ i. below (suc i)))
    where
      by : (p < 2) ⊎ (2 ≤ p) → (names list p c ≡ true) ⊎ (names list p c ≡ false)
          → ((j : ℕ) → look_through list c ps ≡ Vacant j → look_through (list ++ c ∷ []) c (set ps j (length list + 2)) ≡ Present (length list + 2))
          → look_through (list ++ c ∷ []) c (set (p ∷ ps) k (length list + 2)) ≡ Present (length list + 2)
      by (inl h) t rest =
          let f : Vacant 0 ≡ Vacant k = sym (head_free list c p ps h) ∙ e in
          let q : k ≡ 0 = cc in
          ap (λ (j : ℕ). look_through (list ++ c ∷ []) c (set (p ∷ ps) j (length list + 2))) q
          ∙ head_found (list ++ c ∷ []) c (length list + 2) ps (omega arith) (names_last list c)
      by (inr h) (inl t) rest = absurd (let f = head_found list c p ps h t in cc)
      by (inr h) (inr t) rest =
          let f = further_free (look_through list c ps) k (sym (head_more list c p ps h t) ∙ e) in
          let kept : names (list ++ c ∷ []) p c ≡ false = names_kept list c c p (let b = below 0 in omega (arith, b)) ∙ t in
          ap (λ (j : ℕ). look_through (list ++ c ∷ []) c (set (p ∷ ps) j (length list + 2))) f.2
          ∙ (head_more (list ++ c ∷ []) c p (set ps f.0 (length list + 2)) h kept ∙ ap (further 1) (rest f.0 f.1))
