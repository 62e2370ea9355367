-- The design that a file is bound to is a design of the table.
use Rattle.std.proofs.Common.{◌≡◌, ℕ, zero, suc, ◌<◌, Bool, true, false, cond, if◌then◌else◌, List, [], ◌∷◌, ◌++◌, map, filter, length, slice_get, is_some, Option, Some, None, Result, Ok, Err, refl, sym, subst, nat_eq, nat_lt, arith}
use Rattle.std.proofs.lemmas.Bool.Decides.{nat_tests}
use Rattle.std.proofs.lemmas.List.{length-map}
use Rattle.std.proofs.lemmas.Option.{slice_get_within, get_or_from_slice_get}
use Rattle.std.specs.List.{AllByRecursion, position_or_len}
use Rattle.std.specs.Cmp.Lexicographic.{pointwise, bytes_decides}
use Rattle.hcl_tree.specs.declared.tree.Kind.{Kind}
use Rattle.hcl_tree.specs.declared.tree.Item.{Item}
use Rattle.hcl_tree.specs.declared.tree.Item.TheVariants as item
use Rattle.hcl_tree.specs.declared.tree.Expr.{Expr}
use Rattle.hcl_types.specs.declared.term.Term.{Term}
use Rattle.hcl_types.specs.declared.term.Term.TheVariants.{Num}
use Rattle.hcl_types.specs.declared.table.Row.{Row}
use Rattle.hcl_binding.specs.declared.fault.BindFault.{BindFault}
use Rattle.hcl_types.specs.Lists.{IsIn, IsApart}
use Rattle.hcl_types.specs.Kinds.{has_class}
use Rattle.hcl_types.specs.Terms.{names}
use Rattle.hcl_types.specs.Tables.{IsBound, defined, is_defined, row_names}
use Rattle.hcl_binding.specs.Binding.{and_then, all_ok, place, row_named, defined_as, fault_in, item_fault, first_fault, definition, or_else, row_term, bound_by, bound}
use Rattle.hcl_binding.proofs.Bound.{accepted, is_in_slice, name_at}
use Rattle.hcl_binding.proofs.TermsOf.{WhereOk, each_ok, term_inside}

-- ---- lists

pub filtered_at : {A : Type 0} (p : A → Bool) (xs : List A) (k : ℕ) (x : A) → slice_get (filter p xs) k ≡ Some x → (n : ℕ) × (slice_get xs n ≡ Some x)
filtered_at p [] k x e = absurd (grind (arith, e))
filtered_at {A} p (y ∷ ys) k x e = by (λ j q. filtered_at p ys j x q) (p y) refl k e
  where
    by : ((j : ℕ) → slice_get (filter p ys) j ≡ Some x → (n : ℕ) × (slice_get ys n ≡ Some x)) →
        (b : Bool) → p y ≡ b → (k : ℕ) → slice_get (cond (p y) (y ∷ filter p ys) (filter p ys)) k ≡ Some x → (n : ℕ) × (slice_get (y ∷ ys) n ≡ Some x)
    by go true t zero q = (0, subst (λ b. slice_get (cond b (y ∷ filter p ys) (filter p ys)) 0 ≡ Some x) t q)
    by go true t (suc k) q =
        let rest = go k (subst (λ b. slice_get (cond b (y ∷ filter p ys) (filter p ys)) (suc k) ≡ Some x) t q) in
        (suc rest.0, rest.1)
    by go false f k q =
        let rest = go k (subst (λ b. slice_get (cond b (y ∷ filter p ys) (filter p ys)) k ≡ Some x) f q) in
        (suc rest.0, rest.1)

ok_at : {A B : Type 0} (f : A → Result B BindFault) (xs : List A) (ys : List B) → all_ok (map f xs) ≡ Ok ys →
    (length ys ≡ length xs) × ((k : ℕ) (x : A) → slice_get xs k ≡ Some x → (y : B) × (slice_get ys k ≡ Some y) × (f x ≡ Ok y))
ok_at f [] [] e = (refl, λ k x q. absurd (grind (arith, q)))
ok_at f [] (y ∷ ys) e = absurd (grind (arith, e))
ok_at {A} {B} f (x ∷ xs) ys e = by (λ zs. ok_at f xs zs) (f x) (all_ok (map f xs)) refl refl e
  where
    at_each : (z : B) (zs : List B) → f x ≡ Ok z → ((k : ℕ) (w : A) → slice_get xs k ≡ Some w → (y : B) × (slice_get zs k ≡ Some y) × (f w ≡ Ok y)) →
        (k : ℕ) (v : A) → slice_get (x ∷ xs) k ≡ Some v → (y : B) × (slice_get (z ∷ zs) k ≡ Some y) × (f v ≡ Ok y)
    at_each z zs p rest zero v q = let one : x ≡ v = grind (arith, q) in (z, refl, subst (λ w. f w ≡ Ok z) one p)
    at_each z zs p rest (suc k) v q = rest k v q

    by : ((zs : List B) → all_ok (map f xs) ≡ Ok zs → (length zs ≡ length xs) × ((k : ℕ) (w : A) → slice_get xs k ≡ Some w → (y : B) × (slice_get zs k ≡ Some y) × (f w ≡ Ok y))) →
        (r : Result B BindFault) (rs : Result (List B) BindFault) → f x ≡ r → all_ok (map f xs) ≡ rs → and_then r (λ z. and_then rs (λ zs. Ok (z ∷ zs))) ≡ Ok ys →
        (length ys ≡ length (x ∷ xs)) × ((k : ℕ) (w : A) → slice_get (x ∷ xs) k ≡ Some w → (y : B) × (slice_get ys k ≡ Some y) × (f w ≡ Ok y))
    by go (Err z) rs p q h = absurd (grind (arith, h))
    by go (Ok z) (Err z') p q h = absurd (grind (arith, h))
    by go (Ok z) (Ok zs) p q h =
        let same : z ∷ zs ≡ ys = grind (arith, h) in
        let rest = go zs q in
        subst (λ w. (length w ≡ length (x ∷ xs)) × ((k : ℕ) (v : A) → slice_get (x ∷ xs) k ≡ Some v → (y : B) × (slice_get w k ≡ Some y) × (f v ≡ Ok y))) same
        (omega (arith, rest.0), at_each z zs p rest.1)

-- if names occur only once, the first position of a name is its position
first_place : (all : List (List ℕ)) → IsApart all → (n : ℕ) (name : List ℕ) → slice_get all n ≡ Some name → position_or_len (pointwise nat_eq name) all ≡ n
first_place [] a n name e = absurd (grind (arith, e))
first_place (x ∷ xs) a zero name e =
    let same : x ≡ name = grind (arith, e) in
    rw ((bytes_decides name x).1 (sym same)) refl
first_place (x ∷ xs) a (suc n) name e = by (first_place xs a.1 n name e) (pointwise nat_eq name x) refl
  where
    by : position_or_len (pointwise nat_eq name) xs ≡ n → (b : Bool) → pointwise nat_eq name x ≡ b → position_or_len (pointwise nat_eq name) (x ∷ xs) ≡ suc n
    by rest true p = absurd (a.0 (subst (λ z. IsIn z xs) ((bytes_decides name x).0 p) (is_in_slice xs n name e)))
    by rest false p = rw p (omega (arith, rest))

place_at : (all : List (List ℕ)) → IsApart all → (n : ℕ) (name : List ℕ) → slice_get all n ≡ Some name → place all name ≡ Some n
place_at all a n name e =
    let inside : nat_lt n (length all) ≡ true = grind (arith, nat_tests, slice_get_within all n name e) in
    rw (first_place all a n name e, inside) refl

-- ---- consequences of having no fault

or_none : {A : Type 0} (o p : Option A) → or_else o p ≡ None → (o ≡ None) × (p ≡ None)
or_none None p e = (refl, e)
or_none (Some x) p e = absurd (grind (arith, e))

module _ (rows : List Row) where
  -- if the file has no fault, neither has the definition of a name
  pub record Faultless (name : List ℕ) (body : Expr) : Type 0 where
    pub before : List Item
    pub kind : Kind
    pub other : List ℕ
    pub same : name ≡ other
    pub none : item_fault rows before (item.Def kind other body) ≡ None

  pub faultless : (before items : List Item) (name : List ℕ) (body : Expr) → first_fault rows before items ≡ None → definition items name ≡ Some body → Faultless name body
  unfolding first_fault
  faultless before [] name body h d = absurd (grind (arith, d))
  faultless before (item.Quote text ∷ items) name body h d = faultless (before ++ item.Quote text ∷ []) items name body h d
  faultless before (item.Decl k other text ∷ items) name body h d =
      faultless (before ++ item.Decl k other text ∷ []) items name body (or_none (item_fault rows before (item.Decl k other text)) (first_fault rows (before ++ item.Decl k other text ∷ []) items) h).1 d
  faultless before (item.Def k other its ∷ items) name body h d =
      let both = or_none (item_fault rows before (item.Def k other its)) (first_fault rows (before ++ item.Def k other its ∷ []) items) h in
      by (λ more. faultless (before ++ item.Def k other its ∷ []) items name body both.1 more) both.0 (pointwise nat_eq name other) refl d
    where
      by : (definition items name ≡ Some body → Faultless name body) → item_fault rows before (item.Def k other its) ≡ None →
          (b : Bool) → pointwise nat_eq name other ≡ b → or_else (if pointwise nat_eq name other then Some its else None) (definition items name) ≡ Some body → Faultless name body
      by go clean false p q = go (subst (λ b. or_else (if b then Some its else None) (definition items name) ≡ Some body) p q)
      by go clean true p q =
          let now : Some its ≡ Some body = subst (λ b. or_else (if b then Some its else None) (definition items name) ≡ Some body) p q in
          let one : its ≡ body = grind (arith, now) in
          record { before = before; kind = k; other = other; same = (bytes_decides name other).0 p; none = subst (λ z. item_fault rows before (item.Def k other z) ≡ None) one clean }

  pub no_fault : {A : Type 0} (r : Result A BindFault) → fault_in r ≡ None → (x : A) × (r ≡ Ok x)
  no_fault (Ok x) e = (x, refl)
  no_fault (Err z) e = absurd (grind (arith, e))

  pub row_at : IsApart (row_names rows) → (n : ℕ) (row : Row) → slice_get rows n ≡ Some row → row_named rows row.name ≡ Some row
  row_at apart n row e = rw (place_at (row_names rows) apart n row.name (name_at rows n row e)) e

  -- the term of a row whose definition has no fault is of the row's class
  fits : IsApart (row_names rows) → (items : List Item) (n : ℕ) (row : Row) (t : Term) → first_fault rows [] items ≡ None → slice_get rows n ≡ Some row →
      (d : Option Expr) → definition items row.name ≡ d → row_term rows row d ≡ Ok t → has_class rows row.class t ≡ true
  fits apart items n row t h e None q p = absurd (grind (arith, p))
  fits apart items n row t h e (Some body) q p =
      let f = faultless [] items row.name body h q in
      let at_row : row_named rows f.other ≡ Some row = subst (λ z. row_named rows z ≡ Some row) f.same (row_at apart n row e) in
      let clean : fault_in (defined_as rows (is_some (definition f.before f.other)) (Some row) f.kind f.other body) ≡ None =
      subst (λ z. fault_in (defined_as rows (is_some (definition f.before f.other)) z f.kind f.other body) ≡ None) at_row f.none in
      let ok = no_fault (defined_as rows (is_some (definition f.before f.other)) (Some row) f.kind f.other body) clean in
      let a = accepted rows (is_some (definition f.before f.other)) row f.kind f.other body ok.0 ok.1 in
      let same : ok.0 ≡ t = grind (arith, a.term, p) in
      subst (λ z. has_class rows row.class z ≡ true) same a.fits

  -- each name in the term of a row is a row
  all_inside : (items : List Item) (rs : List Row) → AllByRecursion (λ (row : Row). WhereOk (λ t. AllByRecursion (λ id. id < length (row_names rows)) (names t)) (row_term rows row (definition items row.name))) rs
  all_inside items [] = tt
  all_inside items (row ∷ rs) = (by (definition items row.name), all_inside items rs)
    where
      by : (d : Option Expr) → WhereOk (λ t. AllByRecursion (λ id. id < length (row_names rows)) (names t)) (row_term rows row d)
      by None = tt
      by (Some body) = term_inside (row_names rows) body

  bound_is : (f : Option BindFault) (r : Result (List Term) BindFault) (terms : List Term) → bound_by f r ≡ Ok terms → (f ≡ None) × (r ≡ Ok terms)
  bound_is None r terms e = (refl, e)
  bound_is (Some z) r terms e = absurd (grind (arith, e))

  pub design_bound : IsApart (row_names rows) → (items : List Item) (terms : List Term) → bound rows items ≡ Ok terms → IsBound rows terms
  unfolding bound
  design_bound apart items terms e =
      let both = bound_is (first_fault rows [] items) (all_ok (map (λ (row : Row). row_term rows row (definition items row.name)) (defined rows))) terms e in
      let each = ok_at (λ (row : Row). row_term rows row (definition items row.name)) (defined rows) terms both.1 in
      record {
        whole = each.0;
        inside = subst (λ n. AllByRecursion (λ t. AllByRecursion (λ id. id < n) (names t)) terms) (length-map rows (λ (row : Row). row.name))
            (subst (WhereOk (AllByRecursion (λ t. AllByRecursion (λ id. id < length (row_names rows)) (names t)))) both.1
            (each_ok (λ t. AllByRecursion (λ id. id < length (row_names rows)) (names t)) (λ (row : Row). row_term rows row (definition items row.name)) (defined rows) (all_inside items (defined rows))));
        classes = λ k row at_k.
            let found = each.1 k row at_k in
            let its = filtered_at (λ (r : Row). is_defined r.role) rows k row at_k in
            subst (λ t. has_class rows row.class t ≡ true) (sym (get_or_from_slice_get terms k found.0 (Num 0) found.1))
            (fits apart items its.0 row found.0 both.0 its.1 (definition items row.name) refl found.2);
      }
