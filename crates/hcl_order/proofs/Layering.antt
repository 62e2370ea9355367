-- The layers: the marks are the lengths of shortest walks.
use Rattle.std.proofs.Common.{◌≡◌, ◌≢◌, ◌+◌, ◌<◌, ◌≤◌, ◌⊎◌, inl, inr, ℕ, zero, suc, Bool, true, false, List, [], ◌∷◌, length, set, replicate, slice_index, refl, sym, ap, subst, ◌∙◌, arith, length-set, get_or-set_same, get_or-set_other}
use Rattle.std.proofs.lemmas.List.{length-replicate}
use Rattle.hcl_types.specs.Lists.{IsIn}
use Rattle.hcl_types.specs.Equations.{needs_of}
use Rattle.hcl_order.specs.Dependence.{IsDependencePath, Depends}
use Rattle.hcl_order.specs.Layers.{Steps, IsMarked, IsLayered, IsNearest, IsWithin, unmarked}
use Rattle.hcl_order.proofs.Members.{is_suc, last_or}

pub same_or : (a b : ℕ) → (a ≡ b) ⊎ (a ≢ b)
same_or zero zero = inl refl
same_or zero (suc b) = inr (λ e. omega arith)
same_or (suc a) zero = inr (λ e. omega arith)
same_or (suc a) (suc b) = elim (same_or a b) [ inl e ↦ inl (ap suc e) | inr n ↦ inr (λ e. n (omega arith)) ]

pub unmarked_set : (marks : List ℕ) (i mark : ℕ) → i < length marks → slice_index marks i ≡ 0 → unmarked (set marks i (suc mark)) + 1 ≡ unmarked marks
unmarked_set [] i mark h e = absurd (omega arith)
unmarked_set (zero ∷ marks) zero mark h e = refl
unmarked_set (suc m ∷ marks) zero mark h e = absurd (omega arith)
unmarked_set (zero ∷ marks) (suc i) mark h e = omega (arith, unmarked_set marks i mark (omega arith) e)
unmarked_set (suc m ∷ marks) (suc i) mark h e = unmarked_set marks i mark (omega arith) e

pub unmarked-replicate : (n : ℕ) → unmarked (replicate n 0) ≡ n
unmarked-replicate zero = refl
unmarked-replicate (suc n) = omega (arith, unmarked-replicate n)

index_past : (xs : List ℕ) (i : ℕ) → length xs ≤ i → slice_index xs i ≡ 0
index_past [] i h = refl
index_past (x ∷ xs) zero h = absurd (omega arith)
index_past (x ∷ xs) (suc i) h = index_past xs i (omega arith)

zeros : (n i : ℕ) → slice_index (replicate n 0) i ≡ 0
zeros zero i = refl
zeros (suc n) zero = refl
zeros (suc n) (suc i) = zeros n i

-- the row itself has the first mark
pub first_layer : (needs : ℕ → List ℕ) (n row : ℕ) → row < n → IsMarked needs row 1 (set (replicate n 0) row 1)
first_layer needs n row h = record {
  sound = λ a j e. elim (same_or a row) [
    | inl s ↦ (let one : slice_index (set (replicate n 0) row 1) a ≡ 1 = rw s (get_or-set_same (replicate n 0) row 1 0 (omega (arith, length-replicate {A = ℕ}))) in
        let z : j ≡ 0 = omega arith in (omega arith, rw z s))
    | inr d ↦ absurd (let none : slice_index (set (replicate n 0) row 1) a ≡ 0 = get_or-set_other (replicate n 0) row a 1 0 d ∙ zeros n a in omega arith)
  ];
  complete = λ a j l s. first_complete needs n row h a j l s;
}
  where
    first_complete : (needs : ℕ → List ℕ) (n row : ℕ) → row < n → (a j : ℕ) → suc j ≤ 1 → Steps needs j a row
        → (0 < slice_index (set (replicate n 0) row 1) a) × (slice_index (set (replicate n 0) row 1) a ≤ suc j)
    first_complete needs n row h a zero l s =
        let one : slice_index (set (replicate n 0) row 1) a ≡ 1 = rw s (get_or-set_same (replicate n 0) row 1 0 (omega (arith, length-replicate {A = ℕ}))) in
        (omega arith, omega arith)
    first_complete needs n row h a (suc j) l s = absurd (omega arith)

-- a step before a walk
before : (needs : ℕ → List ℕ) (target level a c mark : ℕ) (marks : List ℕ) → IsMarked needs target level marks → IsIn c (needs a) → slice_index marks c ≡ suc mark → Steps needs (suc mark) a target
before needs target level a c mark marks m i e = (c, i, (m.sound c mark e).1)

upper : (needs : ℕ → List ℕ) (target level rows a : ℕ) (old new : List ℕ) (added : Bool) → IsMarked needs target level old → IsLayered needs level old new added rows → slice_index new a ≤ level + 1
upper needs target level rows a old new added m l = elim (same_or (slice_index new a) (slice_index old a)) [
  | inr d ↦ omega (arith, (l.marked a d).0)
  | inl e ↦ upper_old (slice_index old a) refl e
]
  where
    upper_old : (mark : ℕ) → slice_index old a ≡ mark → slice_index new a ≡ slice_index old a → slice_index new a ≤ level + 1
    upper_old zero e s = omega arith
    upper_old (suc mark) e s = omega (arith, (m.sound a mark e).0)

pub next_layer : (needs : ℕ → List ℕ) (target level rows : ℕ) (old new : List ℕ) (added : Bool) → 0 < level → ((a c : ℕ) → IsIn c (needs a) → a < rows)
    → IsMarked needs target level old → IsLayered needs level old new added rows → IsMarked needs target (level + 1) new
next_layer needs target level rows old new added p within m l = record { sound = sound; complete = complete }
  where
    sound : (a j : ℕ) → slice_index new a ≡ suc j → (suc j ≤ level + 1) × Steps needs j a target
    sound a j e = elim (same_or (slice_index new a) (slice_index old a)) [
      | inl s ↦ (let w = m.sound a j (sym s ∙ e) in (omega (arith, w.0), w.1))
      | inr d ↦ (let w = l.marked a d in let t = w.1 in let k = is_suc level p in
          let s = before needs target level a t.0 k.0 old m t.1 (t.2 ∙ k.1) in
          let j_is : j ≡ suc k.0 = omega (arith, w.0, k.1) in (omega (arith, w.0), rw j_is s))
    ]

    far : (a i c mark : ℕ) → level ≡ suc i → IsIn c (needs a) → slice_index old c ≡ suc mark → suc mark ≤ level → 0 < slice_index new a
    far a i c mark e n s h = elim (same_or (suc mark) level) [
      | inl t ↦ l.full a c (within a c n) n (s ∙ t)
      | inr d ↦ (let w = m.complete a (suc mark) (omega arith) (before needs target level a c mark old m n s) in omega (arith, l.kept a w.0, w.0))
    ]

    complete : (a j : ℕ) → suc j ≤ level + 1 → Steps needs j a target → (0 < slice_index new a) × (slice_index new a ≤ suc j)
    complete a j h s = elim (last_or j level (omega arith)) [
      | inl lt ↦ (let w = m.complete a j (omega arith) s in let k = l.kept a w.0 in (omega (arith, w.0), omega (arith, w.1)))
      | inr e ↦ (let k = is_suc level p in let j_is : j ≡ suc k.0 = e ∙ k.1 in let t = subst (λ x. Steps needs x a target) j_is s in
          let w = m.complete t.0 k.0 (omega (arith, k.1)) t.2 in let q = is_suc (slice_index old t.0) w.0 in
          (far a k.0 t.0 q.0 k.1 t.1 q.1 (omega (arith, w.1, q.1, k.1)), omega (arith, upper needs target level rows a old new added m l, e)))
    ]

-- if a layer adds nothing, each row from which the target can be reached has a mark
reached : (needs : ℕ → List ℕ) (target level : ℕ) (marks : List ℕ) → 0 < level → IsMarked needs target level marks → IsMarked needs target (level + 1) marks
    → (j a : ℕ) → Steps needs j a target → 0 < slice_index marks a
reached needs target level marks p m next zero a s = (m.complete a 0 (omega arith) s).0
reached needs target level marks p m next (suc j) a s =
    let w = is_suc (slice_index marks s.0) (reached needs target level marks p m next j s.0 s.2) in
    (next.complete a (suc w.0) (omega (arith, (m.sound s.0 w.0 w.1).0)) (before needs target level a s.0 w.0 marks m s.1 w.1)).0

pub no_cycle : (needs : ℕ → List ℕ) (row level : ℕ) (marks : List ℕ) → 0 < level → IsMarked needs row level marks → IsMarked needs row (level + 1) marks
    → ((j : ℕ) → suc j < level + 1 → Steps needs (suc j) row row → ⊥) → (j : ℕ) → Steps needs (suc j) row row → ⊥
no_cycle needs row level marks p m next none j s =
    let w = is_suc (slice_index marks s.0) (reached needs row level marks p m next j s.0 s.2) in
    none w.0 (omega (arith, (m.sound s.0 w.0 w.1).0)) (before needs row level row s.0 w.0 marks m s.1 w.1)

-- if no need of the row has the last mark, there is no cycle of that length
pub none_shorter : (needs : ℕ → List ℕ) (row level : ℕ) (marks : List ℕ) → IsMarked needs row level marks → ((c : ℕ) → IsIn c (needs row) → slice_index marks c ≢ level)
    → ((j : ℕ) → suc j < level → Steps needs (suc j) row row → ⊥) → (j : ℕ) → suc j < level + 1 → Steps needs (suc j) row row → ⊥
none_shorter needs row level marks m none shorter j h s =
    let w = m.complete s.0 j (omega arith) s.2 in let q = is_suc (slice_index marks s.0) w.0 in
    elim (same_or (suc q.0) level) [
      | inl e ↦ none s.0 s.1 (q.1 ∙ e)
      | inr d ↦ shorter q.0 (omega (arith, (m.sound s.0 q.0 q.1).0)) (before needs row level row s.0 q.0 marks m s.1 q.1)
    ]

-- a pass over the rows, row by row
pub layer_none : (needs : ℕ → List ℕ) (level : ℕ) (marks : List ℕ) → IsLayered needs level marks marks false 0
layer_none needs level marks = record {
  size = refl;
  kept = λ a h. refl;
  marked = λ a d. absurd (d refl);
  full = λ a c h. absurd (omega arith);
  same = λ _. refl;
  no_more = omega arith;
  fewer = λ e. absurd (cc);
}

pub layer_miss : (needs : ℕ → List ℕ) (level row : ℕ) (old marks : List ℕ) (added : Bool) → 0 < level → IsLayered needs level old marks added row
    → (0 < slice_index marks row) ⊎ ((c : ℕ) → IsIn c (needs row) → slice_index marks c ≢ level) → IsLayered needs level old marks added (row + 1)
layer_miss needs level row old marks added p l none = record {
  size = l.size;
  kept = l.kept;
  marked = l.marked;
  full = λ a c h i e. elim (last_or a row (omega arith)) [
    | inl b ↦ l.full a c b i e
    | inr s ↦ elim none [
      | inl m ↦ subst (λ x. 0 < slice_index marks x) (sym s) m
      | inr n ↦ absurd (n c (subst (λ x. IsIn c (needs x)) s i) (l.kept c (omega arith) ∙ e))
    ]
  ];
  same = l.same;
  no_more = l.no_more;
  fewer = l.fewer;
}

pub layer_hit : (needs : ℕ → List ℕ) (level row c : ℕ) (old marks new : List ℕ) (added : Bool) → 0 < level → IsLayered needs level old marks added row
    → row < length old → slice_index marks row ≡ 0 → IsIn c (needs row) → slice_index marks c ≡ level → new ≡ set marks row (level + 1) → IsLayered needs level old new true (row + 1)
layer_hit needs level row c old marks new added p l h z i e n = record {
  size = ap length n ∙ length-set marks row (level + 1) ∙ l.size;
  kept = kept;
  marked = λ a d. elim (same_or a row) [
    | inl s ↦ (subst (λ x. slice_index new x ≡ level + 1) (sym s) here, (c, subst (λ x. IsIn c (needs x)) (sym s) i, old_c))
    | inr d' ↦ (let w = l.marked a (λ f. d (there a d' ∙ f)) in (there a d' ∙ w.0, w.1))
  ];
  full = λ a b lt j f. elim (same_or a row) [
    | inl s ↦ subst (λ x. 0 < slice_index new x) (sym s) (omega (arith, here))
    | inr d ↦ (let w = l.full a b (omega arith) j f in omega (arith, there a d, w))
  ];
  same = λ f. absurd (cc);
  no_more = omega (arith, less, l.no_more);
  fewer = λ _. omega (arith, less, l.no_more);
}
  where
    within : row < length marks
    within = omega (arith, l.size)

    less : unmarked new + 1 ≡ unmarked marks
    less = let s : level + 1 ≡ suc level = omega arith in rw (n, s) (unmarked_set marks row level within z)

    here : slice_index new row ≡ level + 1
    here = rw n (get_or-set_same marks row (level + 1) 0 within)

    there : (a : ℕ) → a ≢ row → slice_index new a ≡ slice_index marks a
    there a d = rw n (get_or-set_other marks row a (level + 1) 0 d)

    kept : (a : ℕ) → 0 < slice_index old a → slice_index new a ≡ slice_index old a
    kept a q = elim (same_or a row) [
      | inl s ↦ absurd (let k : slice_index marks row ≡ slice_index old row = subst (λ x. slice_index marks x ≡ slice_index old x) s (l.kept a q) in
          let m : 0 < slice_index old row = subst (λ x. 0 < slice_index old x) s q in omega arith)
      | inr d ↦ there a d ∙ l.kept a q
    ]

    old_c : slice_index old c ≡ level
    old_c = elim (same_or (slice_index marks c) (slice_index old c)) [
      | inl s ↦ sym s ∙ e
      | inr d ↦ absurd (omega (arith, (l.marked c d).0, e))
    ]

pub ruleset layering = (layer_none, layer_miss, layer_hit)

-- before each layer of the search for a cycle through a row
pub record IsSearched (needs : ℕ → List ℕ) (row level : ℕ) (marks : List ℕ) : Type 0 where
  pub positive : 0 < level
  pub few : level + unmarked marks ≤ length marks
  pub marked : IsMarked needs row level marks
  pub shorter : (j : ℕ) → suc j < level → Steps needs (suc j) row row → ⊥

pub searched_begin : (needs : ℕ → List ℕ) (n row : ℕ) (marks : List ℕ) → row < n → marks ≡ set (replicate n 0) row 1 → IsSearched needs row 1 marks
searched_begin needs n row marks h e = rw e (record {
  positive = omega arith;
  few = omega (arith, unmarked_set (replicate n 0) row 0 (omega (arith, length-replicate {A = ℕ})) (zeros n row), unmarked-replicate n, length-set {A = ℕ}, length-replicate {A = ℕ});
  marked = first_layer needs n row h;
  shorter = λ j b. absurd (omega arith);
})

pub searched_more : (needs : ℕ → List ℕ) (row level rows : ℕ) (old new : List ℕ) → ((a c : ℕ) → IsIn c (needs a) → a < rows) → IsSearched needs row level old
    → ((c : ℕ) → IsIn c (needs row) → slice_index old c ≢ level) → IsLayered needs level old new true rows → IsSearched needs row (level + 1) new
searched_more needs row level rows old new within s none l = record {
  positive = omega arith;
  few = omega (arith, s.few, l.fewer refl, l.size);
  marked = next_layer needs row level rows old new true s.positive within s.marked l;
  shorter = none_shorter needs row level old s.marked none s.shorter;
}

pub searched_none : (needs : ℕ → List ℕ) (row level rows : ℕ) (old new : List ℕ) → ((a c : ℕ) → IsIn c (needs a) → a < rows) → IsSearched needs row level old
    → ((c : ℕ) → IsIn c (needs row) → slice_index old c ≢ level) → IsLayered needs level old new false rows → IsNearest needs row 0 new
searched_none needs row level rows old new within s none l = record {
  found = λ h. absurd (omega arith);
  none = λ _. no_cycle needs row level old s.positive s.marked (subst (IsMarked needs row (level + 1)) (l.same refl) (next_layer needs row level rows old new false s.positive within s.marked l))
      (none_shorter needs row level old s.marked none s.shorter);
}

pub searched_found : (needs : ℕ → List ℕ) (row level c : ℕ) (marks : List ℕ) → IsSearched needs row level marks → IsIn c (needs row) → slice_index marks c ≡ level → IsNearest needs row level marks
searched_found needs row level c marks s i e = record {
  found = λ _. record { marked = s.marked; shortest = s.shorter; back = (c, i, e) };
  none = λ z. absurd (omega (arith, s.positive));
}

pub none_of : (needs : List (List ℕ)) (row level least : ℕ) (marks own : List ℕ) → IsWithin needs → length needs ≡ length marks → own ≡ needs_of needs row → length marks ≤ least
    → ((n : ℕ) → IsIn n own → slice_index marks n ≡ level → least ≤ n) → (c : ℕ) → IsIn c (needs_of needs row) → slice_index marks c ≢ level
none_of needs row level least marks own within size is far leasts c i e = omega (arith, within row c i, leasts c (subst (IsIn c) (sym is) i) e)

pub needs_past : (needs : List (List ℕ)) (a c : ℕ) → IsIn c (needs_of needs a) → a < length needs
needs_past [] a c h = absurd h
needs_past (own ∷ needs) zero c h = omega arith
needs_past (own ∷ needs) (suc a) c h = omega (arith, needs_past needs a c h)

pub depends_inside : (needs : List (List ℕ)) (a b : ℕ) → Depends (needs_of needs) a b → a < length needs
depends_inside needs a b d = by d.0 d.1
  where
    by : (between : List ℕ) → IsDependencePath (needs_of needs) a between b → a < length needs
    by [] w = needs_past needs a b w
    by (c ∷ between) w = needs_past needs a c w.0

pub rows_of : (needs : List (List ℕ)) (rows : ℕ) → length needs ≡ rows → (a c : ℕ) → IsIn c (needs_of needs a) → a < rows
rows_of needs rows e a c i = omega (arith, needs_past needs a c i)

pub ruleset searching = (searched_begin, searched_more, searched_none, searched_found, none_of, rows_of)
