-- Binding item by item gives the design, or the fault, of the definition.
use Rattle.std.proofs.Common.{◌≡◌, ℕ, zero, suc, ◌<◌, Bool, true, false, not, ◌&&◌, cond, if◌then◌else◌, List, [], ◌∷◌, ◌++◌, map, length, get_or, slice_get, slice_set, position, is_some, Option, Some, None, Result, Ok, Err, option_and_then, refl, sym, ap, ◌∙◌, subst, inl, inr, nat_eq, nat_lt, true≢false, arith}
use Rattle.std.proofs.lemmas.Bool.Decides.{nat_tests}
use Rattle.std.proofs.lemmas.List.{append_assoc, append-nil, length-map, length-set}
use Rattle.std.proofs.lemmas.List.Sums.{passes_at_first}
use Rattle.std.proofs.lemmas.Option.{slice_get-map, slice_get_within, get_or_from_slice_get}
use Rattle.std.specs.List.{position_or_len}
use Rattle.std.specs.Cmp.Lexicographic.{pointwise, bytes_decides}
use Rattle.hcl_tree.specs.declared.tree.Kind.{Kind}
use Rattle.hcl_tree.specs.declared.tree.Item.{Item}
use Rattle.hcl_tree.specs.declared.tree.Item.TheVariants as item
use Rattle.hcl_tree.specs.declared.tree.Expr.{Expr}
use Rattle.hcl_types.specs.declared.term.Term.{Term}
use Rattle.hcl_types.specs.declared.table.Row.{Row}
use Rattle.hcl_binding.specs.declared.fault.BindFault.{BindFault}
use Rattle.hcl_binding.specs.declared.fault.BindWhy.TheVariants as why
use Rattle.hcl_types.specs.Lists.{IsIn, IsApart}
use Rattle.hcl_types.specs.Kinds.{has_class}
use Rattle.hcl_types.specs.Tables.{defined, is_defined, row_names}
use Rattle.hcl_binding.specs.Binding.{fault, and_then, all_ok, place, row_named, declared, defined_as, is_of, of_kind, fault_in, item_fault, first_fault, definition, body_in, or_else, row_term, bound_by, bound, term_of}
use Rattle.hcl_binding.specs.BindSteps.{is_taken, no_terms, put_definition, put_item, put_items, put_rows, put_before, term_in, bound_in_steps}

-- ---- lists

get_set_same : {A : Type 0} (xs : List A) (i : ℕ) (x : A) → i < length xs → slice_get (slice_set xs i x) i ≡ Some x
get_set_same [] i x h = absurd (omega (arith, h))
get_set_same (y ∷ ys) zero x h = refl
get_set_same (y ∷ ys) (suc i) x h = get_set_same ys i x (omega (arith, h))

get_set_other : {A : Type 0} (xs : List A) (i j : ℕ) (x : A) → (i ≡ j → ⊥) → slice_get (slice_set xs i x) j ≡ slice_get xs j
get_set_other [] i j x h = refl
get_set_other (y ∷ ys) zero zero x h = absurd (h refl)
get_set_other (y ∷ ys) zero (suc j) x h = refl
get_set_other (y ∷ ys) (suc i) zero x h = refl
get_set_other (y ∷ ys) (suc i) (suc j) x h = get_set_other ys i j x (λ e. h (ap suc e))

pub is_in_slice : {A : Type 0} (xs : List A) (i : ℕ) (x : A) → slice_get xs i ≡ Some x → IsIn x xs
is_in_slice [] i x e = absurd (none_is_not e)
  where
    none_is_not : {B : Type 0} {y : B} → None ≡ Some y → ⊥
    none_is_not p = grind (arith, p)
is_in_slice (y ∷ ys) zero x e = inl (grind (arith, e))
is_in_slice (y ∷ ys) (suc i) x e = inr (is_in_slice ys i x e)

-- an element occurs at only one position
one_place : {A : Type 0} (xs : List A) → IsApart xs → (i j : ℕ) (x : A) → slice_get xs i ≡ Some x → slice_get xs j ≡ Some x → i ≡ j
one_place [] a i j x p q = absurd (grind (arith, p))
one_place (y ∷ ys) a zero zero x p q = refl
one_place (y ∷ ys) a zero (suc j) x p q =
    let same : y ≡ x = grind (arith, p) in
    absurd (a.0 (subst (λ z. IsIn z ys) (sym same) (is_in_slice ys j x q)))
one_place (y ∷ ys) a (suc i) zero x p q =
    let same : y ≡ x = grind (arith, q) in
    absurd (a.0 (subst (λ z. IsIn z ys) (sym same) (is_in_slice ys i x p)))
one_place (y ∷ ys) a (suc i) (suc j) x p q = ap suc (one_place ys a.1 i j x p q)

-- the position of the first element that passes
placed : {A : Type 0} (p : A → Bool) (xs : List A) (id : ℕ) → position p xs ≡ Some id → (position_or_len p xs ≡ id) × (position_or_len p xs < length xs)
placed p xs id e = by (nat_lt (position_or_len p xs) (length xs)) refl e
  where
    by : (b : Bool) → nat_lt (position_or_len p xs) (length xs) ≡ b → cond b (Some (position_or_len p xs)) None ≡ Some id → (position_or_len p xs ≡ id) × (position_or_len p xs < length xs)
    by true h q = (grind (arith, q), grind (arith, nat_tests, h))
    by false h q = absurd (grind (arith, q))

-- ---- definitions among items

pub definition_more : (before items : List Item) (name : List ℕ) → definition (before ++ items) name ≡ or_else (definition before name) (definition items name)
definition_more [] items name = refl
definition_more (i ∷ before) items name = by (body_in name i) (definition_more before items name)
  where
    by : (o : Option Expr) → definition (before ++ items) name ≡ or_else (definition before name) (definition items name)
        → or_else o (definition (before ++ items) name) ≡ or_else (or_else o (definition before name)) (definition items name)
    by None rest = rest
    by (Some body) rest = refl

or_none : {A : Type 0} (o : Option A) → or_else o None ≡ o
or_none None = refl
or_none (Some x) = refl

-- ---- what the stored terms are

module _ (rows : List Row) where
  record Stored (before : List Item) (row : Row) (o : Option Term) : Type 0 where
    pub there : is_some o ≡ is_some (definition before row.name)
    pub term : term_in row o ≡ row_term rows row (definition before row.name)

  record Holds (before : List Item) (bodies : List (Option Term)) : Type 0 where
    pub whole : length bodies ≡ length rows
    pub each : (n : ℕ) (row : Row) → slice_get rows n ≡ Some row → (o : Option Term) × (slice_get bodies n ≡ Some o) × Stored before row o

  -- items that define nothing change nothing
  kept : (before : List Item) (i : Item) (bodies : List (Option Term)) → ((name : List ℕ) → body_in name i ≡ None) → Holds before bodies → Holds (before ++ i ∷ []) bodies
  kept before i bodies nothing h = record {
    whole = h.whole;
    each = λ n row e.
        let found = h.each n row e in
        let same : definition (before ++ i ∷ []) row.name ≡ definition before row.name =
        definition_more before (i ∷ []) row.name ∙ ap (λ o. or_else (definition before row.name) (or_else o None)) (nothing row.name) ∙ or_none (definition before row.name) in
        (found.0, found.1, record { there = found.2.there ∙ ap is_some (sym same); term = found.2.term ∙ ap (row_term rows row) (sym same) });
  }

  initial : Holds [] (no_terms rows)
  initial = record {
    whole = length-map rows (λ (row : Row). None);
    each = λ n row e. (None, slice_get-map (λ (row : Row). None) rows n ∙ rw e refl, record { there = refl; term = refl });
  }

  -- ---- one item

  Agrees : Result (List (Option Term)) BindFault → Option BindFault → List Item → Type 0
  Agrees (Ok bodies) f after = (f ≡ None) × Holds after bodies
  Agrees (Err e) f after = f ≡ Some e

  agrees_declared : (r : Result (Unit {0}) BindFault) (bodies : List (Option Term)) (after : List Item) → Holds after bodies →
      Agrees (and_then r (λ nothing. Ok bodies)) (fault_in r) after
  unfolding Agrees
  agrees_declared (Ok u) bodies after h = (refl, h)
  agrees_declared (Err e) bodies after h = refl

  taken_there : (o : Option Term) → is_taken (Some o) ≡ is_some o
  taken_there None = refl
  taken_there (Some t) = refl

  not_there : {A : Type 0} (o : Option A) → is_some o ≡ false → o ≡ None
  not_there None e = refl
  not_there (Some x) e = absurd (true≢false e)

  -- the facts about a definition that is accepted
  pub record Accepted (taken : Bool) (row : Row) (body : Expr) (t : Term) : Type 0 where
    pub free : taken ≡ false
    pub term : term_of (row_names rows) body ≡ Ok t
    pub fits : has_class rows row.class t ≡ true

  pub accepted : (taken : Bool) (row : Row) (k : Kind) (name : List ℕ) (body : Expr) (t : Term) → defined_as rows taken (Some row) k name body ≡ Ok t → Accepted taken row body t
  accepted taken row k name body t e = by (is_defined row.role) taken (term_of (row_names rows) body) refl e
    where
      kind_of : (x : Term) (a b : Bool) → (if a && b then Ok x else Err (fault why.KindMismatch name)) ≡ Ok t → (x ≡ t) × (b ≡ true)
      kind_of x true true p = (grind (arith, p), refl)
      kind_of x true false p = absurd (grind (arith, p))
      kind_of x false b p = absurd (grind (arith, p))

      by : (d b : Bool) (r : Result Term BindFault) → r ≡ term_of (row_names rows) body →
          (if not d then Err (fault why.Redefines name) else (if b then Err (fault why.Twice name) else and_then r (of_kind rows row k name))) ≡ Ok t →
          Accepted b row body t
      by false b r same p = absurd (grind (arith, p))
      by true true r same p = absurd (grind (arith, p))
      by true false (Err e) same p = absurd (grind (arith, p))
      by true false (Ok x) same p =
          let both = kind_of x (is_of k row.class) (has_class rows row.class x) p in
          record { free = refl; term = sym same ∙ ap Ok both.0; fits = subst (λ z. has_class rows row.class z ≡ true) both.0 both.1 }

  pub name_at : (n : ℕ) (row : Row) → slice_get rows n ≡ Some row → slice_get (row_names rows) n ≡ Some row.name
  name_at n row e = slice_get-map (λ (r : Row). r.name) rows n ∙ rw e refl

  -- the row at the position of a name has that name
  at_place : (name : List ℕ) (id : ℕ) (row : Row) → place (row_names rows) name ≡ Some id → slice_get rows id ≡ Some row → row.name ≡ name
  at_place name id row p q =
      let found = placed (pointwise nat_eq name) (row_names rows) id p in
      let here : get_or (row_names rows) id row.name ≡ row.name = get_or_from_slice_get (row_names rows) id row.name row.name (name_at id row q) in
      let passes : pointwise nat_eq name (get_or (row_names rows) id row.name) ≡ true =
      subst (λ k. pointwise nat_eq name (get_or (row_names rows) k row.name) ≡ true) found.0 (passes_at_first (pointwise nat_eq name) (row_names rows) row.name found.1) in
      sym ((bytes_decides name row.name).0 (ap (pointwise nat_eq name) (sym here) ∙ passes))

  module _ (apart : IsApart (row_names rows)) where
    -- the stored terms after a definition
    defined_holds : (before : List Item) (k : Kind) (name : List ℕ) (body : Expr) (bodies : List (Option Term)) (id : ℕ) (row : Row) (t : Term) →
        Holds before bodies → slice_get rows id ≡ Some row → row.name ≡ name → is_some (definition before name) ≡ false → term_of (row_names rows) body ≡ Ok t →
        Holds (before ++ item.Def k name body ∷ []) (slice_set bodies id (Some t))
    defined_holds before k name body bodies id row t h at_id named new term = record {
      whole = length-set bodies id (Some t) ∙ h.whole;
      each = λ n other e. by n other e (nat_eq id n) refl;
    }
      where
        after : List Item
        after = before ++ item.Def k name body ∷ []

        defined_now : definition (before ++ item.Def k name body ∷ []) name ≡ Some body
        defined_now = definition_more before (item.Def k name body ∷ []) name
            ∙ ap (λ o. or_else o (definition (item.Def k name body ∷ []) name)) (not_there (definition before name) new)
            ∙ rw ((bytes_decides name name).1 refl) refl

        not_this : (other : Row) → (other.name ≡ name → ⊥) → definition (before ++ item.Def k name body ∷ []) other.name ≡ definition before other.name
        not_this other unnamed = definition_more before (item.Def k name body ∷ []) other.name ∙ by_test (pointwise nat_eq other.name name) refl
          where
            by_test : (b : Bool) → pointwise nat_eq other.name name ≡ b → or_else (definition before other.name) (or_else (if pointwise nat_eq other.name name then Some body else None) None) ≡ definition before other.name
            by_test true p = absurd (unnamed ((bytes_decides other.name name).0 p))
            by_test false p = rw p (or_none (definition before other.name))

        by : (n : ℕ) (other : Row) → slice_get rows n ≡ Some other → (b : Bool) → nat_eq id n ≡ b →
            (o : Option Term) × (slice_get (slice_set bodies id (Some t)) n ≡ Some o) × Stored (before ++ item.Def k name body ∷ []) other o
        by n other e true p =
            let same : id ≡ n = grind (arith, nat_tests, p) in
            let inside : id < length bodies = subst (λ m. id < m) (sym h.whole) (slice_get_within rows id row at_id) in
            let here : slice_get rows n ≡ Some row = subst (λ m. slice_get rows m ≡ Some row) same at_id in
            let one : other ≡ row = grind (arith, e, here) in
            let its : other.name ≡ name = ap (λ (r : Row). r.name) one ∙ named in
            let now : definition (before ++ item.Def k name body ∷ []) other.name ≡ Some body = ap (definition (before ++ item.Def k name body ∷ [])) its ∙ defined_now in (
              Some t,
              subst (λ m. slice_get (slice_set bodies id (Some t)) m ≡ Some (Some t)) same (get_set_same bodies id (Some t) inside),
              record { there = sym (ap is_some now); term = sym (ap (row_term rows other) now ∙ term) },
            )
        by n other e false p =
            let apart_places : id ≡ n → ⊥ = λ same. true≢false (sym (grind (arith, nat_tests, same)) ∙ p) in
            let found = h.each n other e in
            let unnamed : other.name ≡ name → ⊥ = λ same. apart_places (one_place (row_names rows) apart id n name (name_at id row at_id ∙ ap Some named) (name_at n other e ∙ ap Some same)) in (
              found.0,
              get_set_other bodies id n (Some t) apart_places ∙ found.1,
              record { there = found.2.there ∙ ap is_some (sym (not_this other unnamed)); term = found.2.term ∙ ap (row_term rows other) (sym (not_this other unnamed)) },
            )

    put_agrees : (before : List Item) (k : Kind) (name : List ℕ) (body : Expr) (bodies : List (Option Term)) (id : ℕ) (row : Row) → Holds before bodies →
        slice_get rows id ≡ Some row → row.name ≡ name → (r : Result Term BindFault) → defined_as rows (is_some (definition before name)) (Some row) k name body ≡ r →
        Agrees (and_then r (λ t. Ok (slice_set bodies id (Some t)))) (fault_in r) (before ++ item.Def k name body ∷ [])
    unfolding Agrees
    put_agrees before k name body bodies id row h at_id named (Err e) q = refl
    put_agrees before k name body bodies id row h at_id named (Ok t) q =
        let a = accepted (is_some (definition before name)) row k name body t q in
        (refl, defined_holds before k name body bodies id row t h at_id named a.free a.term)

    row_agrees : (before : List Item) (k : Kind) (name : List ℕ) (body : Expr) (bodies : List (Option Term)) (id : ℕ) → Holds before bodies →
        place (row_names rows) name ≡ Some id → (r : Option Row) → slice_get rows id ≡ r →
        Agrees (and_then (defined_as rows (is_taken (slice_get bodies id)) r k name body) (λ t. Ok (slice_set bodies id (Some t))))
        (fault_in (defined_as rows (is_some (definition before name)) r k name body)) (before ++ item.Def k name body ∷ [])
    unfolding Agrees
    row_agrees before k name body bodies id h at_name None at_id = refl
    row_agrees before k name body bodies id h at_name (Some row) at_id =
        let named = at_place name id row at_name at_id in
        let found = h.each id row at_id in
        let taken : is_taken (slice_get bodies id) ≡ is_some (definition before name) =
        ap is_taken found.1 ∙ taken_there found.0 ∙ found.2.there ∙ ap (λ n. is_some (definition before n)) named in
        subst (λ b. Agrees (and_then (defined_as rows b (Some row) k name body) (λ t. Ok (slice_set bodies id (Some t))))
        (fault_in (defined_as rows (is_some (definition before name)) (Some row) k name body)) (before ++ item.Def k name body ∷ [])) (sym taken)
        (put_agrees before k name body bodies id row h at_id named (defined_as rows (is_some (definition before name)) (Some row) k name body) refl)

    place_agrees : (before : List Item) (k : Kind) (name : List ℕ) (body : Expr) (bodies : List (Option Term)) → Holds before bodies →
        (p : Option ℕ) → place (row_names rows) name ≡ p →
        Agrees (put_definition rows bodies p k name body)
        (fault_in (defined_as rows (is_some (definition before name)) (option_and_then (slice_get rows) p) k name body)) (before ++ item.Def k name body ∷ [])
    unfolding Agrees
    place_agrees before k name body bodies h None e = refl
    place_agrees before k name body bodies h (Some id) e = row_agrees before k name body bodies id h e (slice_get rows id) refl

    item_agrees : (before : List Item) (i : Item) (bodies : List (Option Term)) → Holds before bodies → Agrees (put_item rows bodies i) (item_fault rows before i) (before ++ i ∷ [])
    unfolding Agrees
    item_agrees before (item.Quote text) bodies h = (refl, kept before (item.Quote text) bodies (λ name. refl) h)
    item_agrees before (item.Decl k name text) bodies h =
        agrees_declared (declared (row_named rows name) k name) bodies (before ++ item.Decl k name text ∷ []) (kept before (item.Decl k name text) bodies (λ other. refl) h)
    item_agrees before (item.Def k name body) bodies h = place_agrees before k name body bodies h (place (row_names rows) name) refl

  -- ---- the terms of the rows

  Pairs : List Item → List Row → List (Option Term) → Type 0
  Pairs before [] [] = Unit {0}
  Pairs before [] (o ∷ os) = ⊥
  Pairs before (r ∷ rs) [] = ⊥
  Pairs before (r ∷ rs) (o ∷ os) = Stored before r o × Pairs before rs os

  pairs_of : (before : List Item) (rs : List Row) (os : List (Option Term)) → length os ≡ length rs →
      ((n : ℕ) (row : Row) → slice_get rs n ≡ Some row → (o : Option Term) × (slice_get os n ≡ Some o) × Stored before row o) → Pairs before rs os
  unfolding Pairs
  pairs_of before [] [] e h = tt
  pairs_of before [] (o ∷ os) e h = absurd (omega (arith, e))
  pairs_of before (r ∷ rs) [] e h = absurd (omega (arith, e))
  pairs_of before (r ∷ rs) (o ∷ os) e h =
      let first = h 0 r refl in
      let same : first.0 ≡ o = grind (arith, first.1) in
      (subst (Stored before r) same first.2, pairs_of before rs os (omega (arith, e)) (λ n row at_n. h (suc n) row at_n))

  one_by_one : (x : Result Term BindFault) (terms : List Term) (rest : Result (List Term) BindFault) (go : List Term → Result (List Term) BindFault) →
      ((more : List Term) → go more ≡ put_before more rest) →
      and_then (and_then x (λ t. Ok (terms ++ t ∷ []))) go ≡ put_before terms (and_then x (λ y. and_then rest (λ ys. Ok (y ∷ ys))))
  one_by_one (Err e) terms rest go h = refl
  one_by_one (Ok t) terms (Err e) go h = h (terms ++ t ∷ [])
  one_by_one (Ok t) terms (Ok ys) go h = h (terms ++ t ∷ []) ∙ ap Ok (append_assoc terms (t ∷ []) ys)

  put_all : (before : List Item) (rs : List Row) (os : List (Option Term)) (terms : List Term) → Pairs before rs os →
      put_rows terms rs os ≡ put_before terms (all_ok (map (λ (row : Row). row_term rows row (definition before row.name)) (defined rs)))
  unfolding Pairs
  put_all before [] [] terms p = ap Ok (sym (append-nil terms))
  put_all before [] (o ∷ os) terms p = absurd p
  put_all before (r ∷ rs) [] terms p = absurd p
  put_all before (r ∷ rs) (o ∷ os) terms p = by (λ more. put_all before rs os more p.1) (is_defined r.role) refl
    where
      by : ((more : List Term) → put_rows more rs os ≡ put_before more (all_ok (map (λ (row : Row). row_term rows row (definition before row.name)) (defined rs)))) →
          (b : Bool) → is_defined r.role ≡ b →
          put_rows terms (r ∷ rs) (o ∷ os) ≡ put_before terms (all_ok (map (λ (row : Row). row_term rows row (definition before row.name)) (defined (r ∷ rs))))
      by go false e = rw e (go terms)
      by go true e = rw (e, p.0.term)
          (one_by_one (row_term rows r (definition before r.name)) terms (all_ok (map (λ (row : Row). row_term rows row (definition before row.name)) (defined rs))) (λ more. put_rows more rs os) go)

  put_nothing : (r : Result (List Term) BindFault) → put_before [] r ≡ r
  put_nothing (Ok xs) = refl
  put_nothing (Err e) = refl

  -- ---- all items

  abbrev Meant : List Item → List Item → Result (List Term) BindFault
  Meant before items = bound_by (first_fault rows before items) (all_ok (map (λ (row : Row). row_term rows row (definition (before ++ items) row.name)) (defined rows)))

  at_item : (before : List Item) (i : Item) (items : List Item) →
      ((bodies : List (Option Term)) → Holds (before ++ i ∷ []) bodies → and_then (put_items rows bodies items) (put_rows [] rows) ≡ Meant (before ++ i ∷ []) items) →
      (r : Result (List (Option Term)) BindFault) (f : Option BindFault) → Agrees r f (before ++ i ∷ []) →
      and_then (and_then r (λ more. put_items rows more items)) (put_rows [] rows)
      ≡ bound_by (or_else f (first_fault rows (before ++ i ∷ []) items)) (all_ok (map (λ (row : Row). row_term rows row (definition (before ++ i ∷ items) row.name)) (defined rows)))
  unfolding Agrees
  at_item before i items go (Err e) f a = rw a refl
  at_item before i items go (Ok bodies) f a =
      rw a.0 (go bodies a.1 ∙ ap (λ b. bound_by (first_fault rows (before ++ i ∷ []) items) (all_ok (map (λ (row : Row). row_term rows row (definition b row.name)) (defined rows)))) (append_assoc before (i ∷ []) items))

  module _ (apart : IsApart (row_names rows)) where
    all_put : (before items : List Item) (bodies : List (Option Term)) → Holds before bodies → and_then (put_items rows bodies items) (put_rows [] rows) ≡ Meant before items
    unfolding first_fault
    all_put before [] bodies h =
        put_all before rows bodies [] (pairs_of before rows bodies h.whole h.each)
        ∙ put_nothing (all_ok (map (λ (row : Row). row_term rows row (definition before row.name)) (defined rows)))
        ∙ ap (λ b. all_ok (map (λ (row : Row). row_term rows row (definition b row.name)) (defined rows))) (sym (append-nil before))
    all_put before (i ∷ items) bodies h =
        at_item before i items (λ more held. all_put (before ++ i ∷ []) items more held) (put_item rows bodies i) (item_fault rows before i) (item_agrees apart before i bodies h)

    pub steps_bind : (items : List Item) → bound_in_steps rows items ≡ bound rows items
    unfolding bound_in_steps bound
    steps_bind items = all_put [] items (no_terms rows) initial

pub as_bound : (rows rows' : List Row) (items items' : List Item) → rows' ≡ rows → items' ≡ items → IsApart (row_names rows) → (r : Result (List Term) BindFault) →
    bound_in_steps rows' items' ≡ r → bound rows items ≡ r
as_bound rows rows' items items' e f apart r h =
    sym (steps_bind rows apart items) ∙ sym (ap (λ z. bound_in_steps z items) e) ∙ sym (ap (bound_in_steps rows') f) ∙ h
