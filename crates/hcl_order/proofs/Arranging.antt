-- The rows are put into an order, one after the other.
use Rattle.std.proofs.Common.{◌≡◌, ◌≢◌, ◌+◌, ◌<◌, ◌⊎◌, inl, inr, ℕ, zero, suc, Bool, true, false, List, [], ◌∷◌, ◌++◌, length, set, refl, sym, ap, subst, ◌∙◌, arith, length-set, get_or-set_same, get_or-set_other}
use Rattle.std.specs.Prelude.{not}
use Rattle.std.proofs.lemmas.Bool.{not-true}
use Rattle.hcl_types.specs.Lists.{IsIn, IsApart}
use Rattle.hcl_types.specs.Equations.{IsOrdered, IsTopologicalOrder, is_known, needs_of}
use Rattle.hcl_order.specs.Dependence.{IsDependencePath, Depends}
use Rattle.hcl_order.specs.Layers.{IsWithin}
use Rattle.hcl_order.specs.Arranging.{IsArranged, Arranges, IsPassed, undone}
use Rattle.hcl_order.proofs.Members.{in_front, in_last, in_either, last_or, each_of}
use Rattle.hcl_order.proofs.Layering.{same_or}
use Rattle.hcl_order.proofs.Walking.{loops, at_rest}

undone_set : (done : List Bool) (i : ℕ) → i < length done → is_known done i ≡ false → undone (set done i true) + 1 ≡ undone done
undone_set [] i h e = absurd (omega arith)
undone_set (true ∷ done) zero h e = absurd (cc)
undone_set (false ∷ done) zero h e = refl
undone_set (true ∷ done) (suc i) h e = undone_set done i (omega arith) e
undone_set (false ∷ done) (suc i) h e = omega (arith, undone_set done i (omega arith) e)

pub passed_none : (needs : ℕ → List ℕ) (done : List Bool) → IsPassed needs 0 done done false
passed_none needs done = record { size = refl; same = λ _. refl; no_more = omega arith; fewer = λ e. absurd (cc); stuck = λ _ n h. absurd (omega arith) }

pub passed_miss : (needs : ℕ → List ℕ) (row : ℕ) (old done : List Bool) (added : Bool) → IsPassed needs row old done added
    → (is_known done row ≡ true) ⊎ ((m : ℕ) × IsIn m (needs row) × (is_known done m ≡ false)) → IsPassed needs (row + 1) old done added
passed_miss needs row old done added p none = record {
  size = p.size;
  same = p.same;
  no_more = p.no_more;
  fewer = p.fewer;
  stuck = λ a n h u. elim (last_or n row (omega arith)) [
    | inl b ↦ p.stuck a n b u
    | inr s ↦ elim none [
      | inl d ↦ absurd (let e : is_known done row ≡ false = subst (λ x. is_known done x ≡ false) s u in cc)
      | inr m ↦ (m.0, subst (λ x. IsIn m.0 (needs x)) (sym s) m.1, m.2)
    ]
  ];
}

pub passed_hit : (needs : ℕ → List ℕ) (row : ℕ) (old done new : List Bool) (added : Bool) → IsPassed needs row old done added → row < length old → is_known done row ≡ false
    → new ≡ set done row true → IsPassed needs (row + 1) old new true
passed_hit needs row old done new added p h u e = record {
  size = ap length e ∙ length-set done row true ∙ p.size;
  same = λ f. absurd (cc);
  no_more = omega (arith, less, p.no_more);
  fewer = λ _. omega (arith, less, p.no_more);
  stuck = λ f. absurd (cc);
}
  where
    less : undone new + 1 ≡ undone done
    less = rw e (undone_set done row (omega (arith, p.size)) u)

apart_more : (ids : List ℕ) (n : ℕ) → IsApart ids → (IsIn n ids → ⊥) → IsApart (ids ++ n ∷ [])
apart_more [] n a h = ((λ i. i), tt)
apart_more (x ∷ ids) n a h = ((λ i. elim (in_either x n ids i) [ inl j ↦ a.0 j | inr e ↦ h (inl (sym e)) ]), apart_more ids n a.1 (λ i. h (inr i)))

ordered_more : (needs : List (List ℕ)) (known : List Bool) (before ids : List ℕ) (n : ℕ) → IsOrdered needs known before ids
    → ((m : ℕ) → IsIn m (needs_of needs n) → (is_known known m ≡ true) ⊎ (IsIn m before ⊎ IsIn m ids)) → IsOrdered needs known before (ids ++ n ∷ [])
ordered_more needs known before [] n o h =
    (each_of _ (needs_of needs n) (λ m i. elim (h m i) [ inl k ↦ inl k | inr w ↦ elim w [ inl j ↦ inr j | inr j ↦ absurd j ] ]), tt)
ordered_more needs known before (x ∷ ids) n o h = (
  o.0,
  ordered_more needs known (x ∷ before) ids n o.1 (λ m i. elim (h m i) [
    | inl k ↦ inl k
    | inr w ↦ elim w [ inl j ↦ inr (inl (inr j)) | inr j ↦ elim j [ inl e ↦ inr (inl (inl e)) | inr l ↦ inr (inr l) ] ]
  ]),
)

not_known : (b : Bool) → (b ≡ true → ⊥) → b ≡ false
not_known true h = absurd (h refl)
not_known false h = refl

pub arranged_more : (needs : List (List ℕ)) (known done new : List Bool) (ids on : List ℕ) (n : ℕ) → IsArranged needs known done ids → n < length needs
    → is_known done n ≡ false → ((m : ℕ) → IsIn m (needs_of needs n) → is_known done m ≡ true) → new ≡ set done n true → on ≡ ids ++ n ∷ [] → IsArranged needs known new on
arranged_more needs known done new ids on n a h u all e o = record {
  size = ap length e ∙ length-set done n true ∙ a.size;
  marked = λ x d. subst (λ l. (is_known known x ≡ true) ⊎ IsIn x l) (sym o) (elim (same_or x n) [
    | inl s ↦ inr (subst (λ y. IsIn y (ids ++ n ∷ [])) (sym s) (in_last n ids))
    | inr f ↦ elim (a.marked x (sym (there x f) ∙ d)) [ inl k ↦ inl k | inr i ↦ inr (in_front x ids (n ∷ []) i) ]
  ]);
  listed = λ x i. elim (in_either x n ids (subst (IsIn x) o i)) [
    | inl j ↦ (let l = a.listed x j in (l.0, still x l.1))
    | inr s ↦ (subst (λ y. is_known known y ≡ false) (sym s) (not_known (is_known known n) (λ k. let d = a.started n k in cc)), subst (λ y. is_known new y ≡ true) (sym s) here)
  ];
  started = λ x k. still x (a.started x k);
  apart = subst IsApart (sym o) (apart_more ids n a.apart (λ i. let d = (a.listed n i).1 in cc));
  ordered = subst (IsOrdered needs known []) (sym o) (ordered_more needs known [] ids n a.ordered (λ m i. elim (a.marked m (all m i)) [ inl k ↦ inl k | inr j ↦ inr (inr j) ]));
}
  where
    here : is_known new n ≡ true
    here = rw e (get_or-set_same done n true true (omega (arith, a.size)))

    there : (x : ℕ) → x ≢ n → is_known new x ≡ is_known done x
    there x f = rw e (get_or-set_other done n x true true f)

    still : (x : ℕ) → is_known done x ≡ true → is_known new x ≡ true
    still x d = elim (same_or x n) [ inl s ↦ subst (λ y. is_known new y ≡ true) (sym s) here | inr f ↦ there x f ∙ d ]

pub arranges_whole : (needs : List (List ℕ)) (known done : List Bool) (ids : List ℕ) → IsArranged needs known done ids
    → ((n : ℕ) → is_known done n ≡ true) → IsTopologicalOrder needs known ids
arranges_whole needs known done ids a all = record {
  unknown = each_of _ ids (λ n i. (a.listed n i).0);
  apart = a.apart;
  ordered = a.ordered;
  whole = λ n k. elim (a.marked n (all n)) [ inl t ↦ absurd (cc) | inr i ↦ i ];
}

pub arranges_stuck : (needs : List (List ℕ)) (done old : List Bool) → IsWithin needs → IsPassed (needs_of needs) (length needs) old done false
    → (n : ℕ) → n < length needs → is_known done n ≡ false → (r : ℕ) × Depends (needs_of needs) r r
arranges_stuck needs done old within p n h u = loops (needs_of needs) (λ x. not (is_known done x)) (length needs)
    (λ x b k. let w = p.stuck refl x b (not-true (is_known done x) k) in (w.0, within x w.0 w.1, ap not w.2, ([], w.1)))
    n h (ap not u)

pub arranged_begin : (needs : List (List ℕ)) (done : List Bool) (ids : List ℕ) → length done ≡ length needs → ids ≡ [] → IsArranged needs done done ids
arranged_begin needs done ids s e = rw e (record {
  size = s;
  marked = λ n d. inl d;
  listed = λ n i. absurd i;
  started = λ n k. k;
  apart = tt;
  ordered = tt;
})

-- if there is an order, no row depends on itself
pub order_rests : (needs : List (List ℕ)) (known : List Bool) (ids : List ℕ) → IsTopologicalOrder needs known ids
    → ((a m : ℕ) → is_known known a ≡ true → IsIn m (needs_of needs a) → ⊥) → (n : ℕ) → Depends (needs_of needs) n n → ⊥
order_rests needs known ids o knows n d = by (is_known known n) refl
  where
    some_need : (between : List ℕ) → IsDependencePath (needs_of needs) n between n → (m : ℕ) × IsIn m (needs_of needs n)
    some_need [] w = (n, w)
    some_need (c ∷ between) w = (c, w.0)

    by : (b : Bool) → is_known known n ≡ b → ⊥
    by true k = let m = some_need d.0 d.1 in knows n m.0 k m.1
    by false k = at_rest needs known [] ids o.ordered knows (λ m i. absurd i) n (o.whole n k) d

both_ways : (needs : List (List ℕ)) (known : List Bool) (ids : List ℕ) (whole b : Bool) → whole ≡ b → Arranges needs known ids whole
    → (whole ≡ true) ⊎ ((n : ℕ) → Depends (needs_of needs) n n → ⊥) → IsTopologicalOrder needs known ids
both_ways needs known ids whole true e a h = a.order e
both_ways needs known ids whole false e a h = elim h [ inl t ↦ a.order t | inr r ↦ (let s = a.stuck e in absurd (r s.0 s.1)) ]

-- an order that was found, or that exists because no row depends on itself
pub ordered_rows : (needs : List (List ℕ)) (known start : List Bool) (ids found : List ℕ) (whole : Bool) → Arranges needs start found whole → start ≡ known → ids ≡ found
    → (whole ≡ true) ⊎ ((n : ℕ) → Depends (needs_of needs) n n → ⊥) → ((a m : ℕ) → is_known known a ≡ true → IsIn m (needs_of needs a) → ⊥)
    → IsTopologicalOrder needs known ids × ((n : ℕ) → Depends (needs_of needs) n n → ⊥)
ordered_rows needs known start ids found whole a s i h knows =
    let o : IsTopologicalOrder needs known ids = subst (IsTopologicalOrder needs known) (sym i) (subst (λ k. IsTopologicalOrder needs k found) s (both_ways needs start found whole whole refl a h)) in
    (o, order_rests needs known ids o knows)
