-- The faults of items: binding each item alone finds its fault.
use Rattle.std.proofs.Common.{◌≡◌, ◌≢◌, ℕ, suc, Bool, true, false, not, ◌&&◌, if◌then◌else◌, List, [], ◌∷◌, ◌++◌, length, map, filter, slice_get, is_some, Option, Some, None, Result, Ok, Err, refl, sym, ap, ◌∙◌, subst, arith, append_assoc, append-nil}
use Rattle.std.specs.Prelude.{IfOk}
use Rattle.hcl_tree.specs.declared.tree.Kind.{Kind}
use Rattle.hcl_tree.specs.declared.tree.Item.{Item}
use Rattle.hcl_tree.specs.declared.tree.Item.TheVariants as item
use Rattle.hcl_tree.specs.declared.tree.Expr.{Expr}
use Rattle.hcl_types.specs.declared.term.Term.{Term}
use Rattle.hcl_types.specs.declared.table.Row.{Row}
use Rattle.hcl_binding.specs.declared.fault.BindFault.{BindFault}
use Rattle.hcl_binding.specs.declared.fault.BindWhy.{BindWhy}
use Rattle.hcl_binding.specs.declared.fault.BindWhy.TheVariants as why
use Rattle.hcl_types.specs.Lists.{IsApart}
use Rattle.hcl_types.specs.Kinds.{has_class}
use Rattle.hcl_types.specs.Tables.{IsSound, defined, is_defined, row_names}
use Rattle.hcl_binding.specs.Binding.{fault, and_then, all_ok, row_named, declared, defined_as, is_of, of_kind, fault_in, item_fault, first_fault, definition, or_else, row_term, bound_by, bound, term_of}
use Rattle.hcl_binding.specs.Faults.{uses}
use Rattle.hcl_binding.proofs.Bound.{accepted}
use Rattle.hcl_binding.proofs.Designs.{filtered_at, faultless, row_at, no_fault}
use Rattle.hcl_binding.proofs.UsesOf.{WhereErr, Lacks, term_lacks}
use Rattle.hcl_binding.proofs.Faulted.{err_at}
use Rattle.hcl_faults.specs.declared.binding.ItemFault.{ItemFault}
use Rattle.hcl_faults.specs.BindFaults.{with_fault, item_faults, is_missing, missing_names, first_of, must_define, is_twice, defined_name, own_fault, TellsMissing}

-- ---- no fault of an item is a missing signal

unlike : (f e : BindFault) → Some f ≡ Some e → (f.why ≡ why.Missing → ⊥) → e.why ≡ why.Missing → ⊥
unlike f e same other m = let one : f ≡ e = grind (arith, same) in other (ap (λ (z : BindFault). z.why) one ∙ m)

unknown_other : why.Unknown ≡ why.Missing → ⊥
unknown_other h = cc

twice_other : why.Twice ≡ why.Missing → ⊥
twice_other h = cc

mismatch_other : why.KindMismatch ≡ why.Missing → ⊥
mismatch_other h = cc

redefines_other : why.Redefines ≡ why.Missing → ⊥
redefines_other h = cc

declared_other : (r : Option Row) (k : Kind) (name : List ℕ) (e : BindFault) → fault_in (declared r k name) ≡ Some e → e.why ≡ why.Missing → ⊥
declared_other None k name e q = unlike (fault why.Unknown name) e q unknown_other
declared_other (Some row) k name e q = by tt (is_of k row.class) q
  where
    by : (u : Unit {0}) (b : Bool) → fault_in (if b then Ok u else Err (fault why.KindMismatch name)) ≡ Some e → e.why ≡ why.Missing → ⊥
    by u true g = absurd (grind (arith, g))
    by u false g = unlike (fault why.KindMismatch name) e g mismatch_other

body_other : (rows : List Row) (row : Row) (k : Kind) (name : List ℕ) (body : Expr) (e : BindFault) (r : Result Term BindFault) → term_of (row_names rows) body ≡ r →
    fault_in (and_then r (of_kind rows row k name)) ≡ Some e → e.why ≡ why.Missing → ⊥
body_other rows row k name body e (Err f) q g =
    let lacks = subst (WhereErr (Lacks (row_names rows) (uses body))) q (term_lacks (row_names rows) body) in
    unlike f e g (λ m. unknown_other (sym lacks.0 ∙ m))
body_other rows row k name body e (Ok t) q g = by (is_of k row.class && has_class rows row.class t) g
  where
    by : (b : Bool) → fault_in (if b then Ok t else Err (fault why.KindMismatch name)) ≡ Some e → e.why ≡ why.Missing → ⊥
    by true h = absurd (grind (arith, h))
    by false h = unlike (fault why.KindMismatch name) e h mismatch_other

defined_other : (rows : List Row) (before : Bool) (r : Option Row) (k : Kind) (name : List ℕ) (body : Expr) (e : BindFault) →
    fault_in (defined_as rows before r k name body) ≡ Some e → e.why ≡ why.Missing → ⊥
defined_other rows before None k name body e q = unlike (fault why.Unknown name) e q unknown_other
defined_other rows before (Some row) k name body e q = by (is_defined row.role) before q
  where
    by : (d b : Bool) → fault_in (if not d then Err (fault why.Redefines name) else (if b then Err (fault why.Twice name) else and_then (term_of (row_names rows) body) (of_kind rows row k name))) ≡ Some e →
        e.why ≡ why.Missing → ⊥
    by false b g = unlike (fault why.Redefines name) e g redefines_other
    by true true g = unlike (fault why.Twice name) e g twice_other
    by true false g = body_other rows row k name body e (term_of (row_names rows) body) refl g

item_other : (rows : List Row) (before : List Item) (i : Item) (e : BindFault) → item_fault rows before i ≡ Some e → e.why ≡ why.Missing → ⊥
item_other rows before (item.Quote text) e h = absurd (grind (arith, h))
item_other rows before (item.Decl k name text) e h = declared_other (row_named rows name) k name e h
item_other rows before (item.Def k name body) e h = defined_other rows (is_some (definition before name)) (row_named rows name) k name body e h

-- ---- if no item has a fault, the fault is a missing signal

module _ (rows : List Row) (apart : IsApart (row_names rows)) (items : List Item) (none : first_fault rows [] items ≡ None) where
  row_missing : (n k : ℕ) (row : Row) (e : BindFault) → slice_get rows n ≡ Some row → (d : Option Expr) → definition items row.name ≡ d → row_term rows row d ≡ Err e → e.why ≡ why.Missing
  row_missing n k row e at_n None q p = let one : fault why.Missing row.name ≡ e = grind (arith, p) in sym (ap (λ (z : BindFault). z.why) one)
  row_missing n k row e at_n (Some body) q p =
      let f = faultless rows [] items row.name body none q in
      let at_row : row_named rows f.other ≡ Some row = subst (λ z. row_named rows z ≡ Some row) f.same (row_at rows apart n row at_n) in
      let clean : fault_in (defined_as rows (is_some (definition f.before f.other)) (Some row) f.kind f.other body) ≡ None =
      subst (λ z. fault_in (defined_as rows (is_some (definition f.before f.other)) z f.kind f.other body) ≡ None) at_row f.none in
      let ok = no_fault rows (defined_as rows (is_some (definition f.before f.other)) (Some row) f.kind f.other body) clean in
      let a = accepted rows (is_some (definition f.before f.other)) row f.kind f.other body ok.0 ok.1 in
      absurd (grind (arith, a.term, p))

  all_missing : (e : BindFault) → all_ok (map (λ (row : Row). row_term rows row (definition items row.name)) (defined rows)) ≡ Err e → e.why ≡ why.Missing
  all_missing e q =
      let found = err_at (λ (row : Row). row_term rows row (definition items row.name)) (defined rows) e q in
      let its = filtered_at (λ (r : Row). is_defined r.role) rows found.0 found.1 found.2 in
      row_missing its.0 found.0 found.1 e its.1 (definition items found.1.name) refl found.3

-- ---- an item alone

own_of : (e : BindFault) → (e.why ≡ why.Missing → ⊥) → (w : BindWhy) → e.why ≡ w → own_fault w e ≡ Some e
own_of e other why.Missing p = absurd (other p)
own_of e other why.Unknown p = refl
own_of e other why.Twice p = refl
own_of e other why.KindMismatch p = refl
own_of e other why.Redefines p = refl
own_of e other why.Memory p = refl

pub bound_alone : (rows : List Row) (items : List Item) (terms : List Term) → bound rows items ≡ Ok terms → (i : Item) → items ≡ i ∷ [] → None ≡ item_fault rows [] i
unfolding bound first_fault
bound_alone rows items terms b i one = by (item_fault rows [] i) refl (sym (ap (bound rows) one) ∙ b)
  where
    by : (f : Option BindFault) → item_fault rows [] i ≡ f →
        bound_by (or_else f None) (all_ok (map (λ (row : Row). row_term rows row (definition (i ∷ []) row.name)) (defined rows))) ≡ Ok terms → None ≡ item_fault rows [] i
    by None p q = sym p
    by (Some e) p q = absurd (grind (arith, q))

fault_of_one : (rows : List Row) (i : Item) (e : BindFault) → IsApart (row_names rows) → bound rows (i ∷ []) ≡ Err e → own_fault e.why e ≡ item_fault rows [] i
unfolding bound first_fault
fault_of_one rows i e apart b = by (item_fault rows [] i) refl b
  where
    by : (f : Option BindFault) → item_fault rows [] i ≡ f →
        bound_by (or_else f None) (all_ok (map (λ (row : Row). row_term rows row (definition (i ∷ []) row.name)) (defined rows))) ≡ Err e → own_fault e.why e ≡ item_fault rows [] i
    by None p q =
        let m : e.why ≡ why.Missing = all_missing rows apart (i ∷ []) (ap (λ f. or_else f None) p) e q in
        ap (λ w. own_fault w e) m ∙ sym p
    by (Some f) p q =
        let one : f ≡ e = grind (arith, q) in
        let is : item_fault rows [] i ≡ Some e = p ∙ ap (λ (z : BindFault). Some z) one in
        own_of e (item_other rows [] i e is) e.why refl ∙ sym is

pub fault_alone : {E : Type 0} (rows : List Row) (items : List Item) (e : BindFault) (r : Result (Option BindFault) E) → IsSound rows → (e.why ≢ why.Memory → bound rows items ≡ Err e) →
    IfOk r (λ own. (e.why ≢ why.Memory) × (own ≡ own_fault e.why e)) → (i : Item) → items ≡ i ∷ [] → IfOk r (λ own. own ≡ item_fault rows [] i)
fault_alone rows items e (Ok own) sound b h i one =
    h.1 ∙ fault_of_one rows i e sound.apart (sym (ap (bound rows) one) ∙ b h.0)
fault_alone rows items e (Err memory) sound b h i one = tt

-- ---- an item after others

twice_as : (rows : List Row) (b : Bool) (r : Option Row) (k : Kind) (name : List ℕ) (body : Expr) → (must_define r && b) ≡ true → defined_as rows b r k name body ≡ Err (fault why.Twice name)
twice_as rows b None k name body h = absurd (grind (arith, h))
twice_as rows b (Some row) k name body h = by (is_defined row.role) b h
  where
    by : (d c : Bool) → (d && c) ≡ true →
        (if not d then Err (fault why.Redefines name) else (if c then Err (fault why.Twice name) else and_then (term_of (row_names rows) body) (of_kind rows row k name))) ≡ Err (fault why.Twice name)
    by true true g = refl
    by true false g = absurd (grind (arith, g))
    by false c g = absurd (grind (arith, g))

once_as : (rows : List Row) (b : Bool) (r : Option Row) (k : Kind) (name : List ℕ) (body : Expr) → (must_define r && b) ≡ false → defined_as rows false r k name body ≡ defined_as rows b r k name body
once_as rows b None k name body h = refl
once_as rows b (Some row) k name body h = by (is_defined row.role) b h
  where
    by : (d c : Bool) → (d && c) ≡ false →
        (if not d then Err (fault why.Redefines name) else and_then (term_of (row_names rows) body) (of_kind rows row k name))
        ≡ (if not d then Err (fault why.Redefines name) else (if c then Err (fault why.Twice name) else and_then (term_of (row_names rows) body) (of_kind rows row k name)))
    by true true g = absurd (grind (arith, g))
    by true false g = refl
    by false c g = refl

pub fault_twice : (rows : List Row) (before : List Item) (i : Item) (e : BindFault) → is_twice rows before i ≡ true → e ≡ fault why.Twice (defined_name i) → Some e ≡ item_fault rows before i
fault_twice rows before (item.Quote text) e h q = absurd (grind (arith, h))
fault_twice rows before (item.Decl k name text) e h q = absurd (grind (arith, h))
fault_twice rows before (item.Def k name body) e h q =
    ap (λ (z : BindFault). Some z) q ∙ sym (ap fault_in (twice_as rows (is_some (definition before name)) (row_named rows name) k name body h))

pub fault_once : (rows : List Row) (before : List Item) (i : Item) → is_twice rows before i ≡ false → item_fault rows [] i ≡ item_fault rows before i
fault_once rows before (item.Quote text) h = refl
fault_once rows before (item.Decl k name text) h = refl
fault_once rows before (item.Def k name body) h = ap fault_in (once_as rows (is_some (definition before name)) (row_named rows name) k name body h)

-- ---- all items

with_more : (item : ℕ) (f : Option BindFault) (others : List ItemFault) → with_fault item f [] ++ others ≡ with_fault item f others
with_more item None others = refl
with_more item (Some e) others = refl

-- the loop invariant: the items so far with their faults, and the items left
pub record Gathered (rows : List Row) (items : List Item) (list : List ItemFault) (done left : List Item) : Type 0 where
  pub whole : done ++ left ≡ items
  pub same : list ++ item_faults rows done left ≡ item_faults rows [] items

pub gathered_first : (rows : List Row) (items : List Item) → Gathered rows items [] [] items
gathered_first rows items = record { whole = refl; same = refl }

pub gathered_more : (rows : List Row) (items : List Item) (list : List ItemFault) (done left : List Item) (i : Item) → Gathered rows items list done (i ∷ left) →
    Gathered rows items (list ++ with_fault (length done) (item_fault rows done i) []) (done ++ i ∷ []) left
unfolding item_faults
gathered_more rows items list done left i g = record {
  whole = append_assoc done (i ∷ []) left ∙ g.whole;
  same = append_assoc list (with_fault (length done) (item_fault rows done i) []) (item_faults rows (done ++ i ∷ []) left)
      ∙ ap (λ some. list ++ some) (with_more (length done) (item_fault rows done i) (item_faults rows (done ++ i ∷ []) left)) ∙ g.same;
}

pub gathered_as : (rows : List Row) (items : List Item) (list list_next : List ItemFault) (done done_next left left_next : List Item) (i : Item) →
    Gathered rows items list done left → left ≡ i ∷ left_next → list_next ≡ list ++ with_fault (length done) (item_fault rows done i) [] → done_next ≡ done ++ i ∷ [] →
    Gathered rows items list_next done_next left_next
gathered_as rows items list list_next done done_next left left_next i g l f d =
    subst (λ some. Gathered rows items some done_next left_next) (sym f)
    (subst (λ some. Gathered rows items (list ++ with_fault (length done) (item_fault rows done i) []) some left_next) (sym d)
    (gathered_more rows items list done left_next i (subst (λ some. Gathered rows items list done some) l g)))

pub gathered_start : (rows : List Row) (items : List Item) (list : List ItemFault) (done left : List Item) → list ≡ [] → done ≡ [] → left ≡ items → Gathered rows items list done left
gathered_start rows items list done left l d f =
    subst (λ some. Gathered rows items some done left) (sym l) (subst (λ some. Gathered rows items [] some left) (sym d)
    (subst (λ some. Gathered rows items [] [] some) (sym f) (gathered_first rows items)))

pub none_left : {A : Type 0} (xs : List A) (n : ℕ) → n ≡ length xs → n ≡ 0 → xs ≡ []
none_left [] n e z = refl
none_left (x ∷ xs) n e z = absurd (omega (arith, e, z))

pub gathered_faults : (rows : List Row) (items : List Item) (list : List ItemFault) (done left : List Item) → Gathered rows items list done left → left ≡ [] →
    list ≡ item_faults rows [] items
unfolding item_faults
gathered_faults rows items list done left g e = sym (append-nil list) ∙ ap (λ some. list ++ item_faults rows done some) (sym e) ∙ g.same

pub gathered_items : (rows : List Row) (items : List Item) (list : List ItemFault) (done left : List Item) → Gathered rows items list done left → left ≡ [] → done ≡ items
gathered_items rows items list done left g e = sym (append-nil done) ∙ ap (λ some. done ++ some) (sym e) ∙ g.whole

-- ---- the first fault

first_item : (rows : List Row) (before items : List Item) → first_of (item_faults rows before items) ≡ first_fault rows before items
unfolding item_faults first_fault
first_item rows before [] = refl
first_item rows before (i ∷ items) = by (item_fault rows before i) (first_item rows (before ++ i ∷ []) items)
  where
    by : (f : Option BindFault) → first_of (item_faults rows (before ++ i ∷ []) items) ≡ first_fault rows (before ++ i ∷ []) items →
        first_of (with_fault (length before) f (item_faults rows (before ++ i ∷ []) items)) ≡ or_else f (first_fault rows (before ++ i ∷ []) items)
    by None h = h
    by (Some e) h = refl

pub first_is_told : (rows : List Row) (items : List Item) (e : BindFault) → first_of (item_faults rows [] items) ≡ Some e → bound rows items ≡ Err e
unfolding bound
first_is_told rows items e h =
    ap (λ f. bound_by f (all_ok (map (λ (row : Row). row_term rows row (definition items row.name)) (defined rows)))) (sym (first_item rows [] items) ∙ h)

-- the rows of a table from `n` on: the fault is the first that is missing
module _ (rows : List Row) (apart : IsApart (row_names rows)) (items : List Item) (none : first_fault rows [] items ≡ None) where
  term_there : (n : ℕ) (row : Row) → slice_get rows n ≡ Some row → (body : Expr) (e : BindFault) → definition items row.name ≡ Some body → term_of (row_names rows) body ≡ Err e → ⊥
  term_there n row at_n body e q p =
      let f = faultless rows [] items row.name body none q in
      let at_row : row_named rows f.other ≡ Some row = subst (λ z. row_named rows z ≡ Some row) f.same (row_at rows apart n row at_n) in
      let clean : fault_in (defined_as rows (is_some (definition f.before f.other)) (Some row) f.kind f.other body) ≡ None =
      subst (λ z. fault_in (defined_as rows (is_some (definition f.before f.other)) z f.kind f.other body) ≡ None) at_row f.none in
      let ok = no_fault rows (defined_as rows (is_some (definition f.before f.other)) (Some row) f.kind f.other body) clean in
      let a = accepted rows (is_some (definition f.before f.other)) row f.kind f.other body ok.0 ok.1 in
      grind (arith, a.term, p)

  abbrev Terms : List Row → Result (List Term) BindFault
  Terms some = all_ok (map (λ (row : Row). row_term rows row (definition items row.name)) some)

  abbrev Known : List Row → Type 0
  Known some = (k : ℕ) (row : Row) → slice_get some k ≡ Some row → (n : ℕ) × (slice_get rows n ≡ Some row)

  one_more : (t : Term) (r : Result (List Term) BindFault) (names : List (List ℕ)) → TellsMissing r names → TellsMissing (and_then r (λ ts. Ok (t ∷ ts))) names
  one_more t (Ok ts) names h = h
  one_more t (Err e) names h = h

  told_from : (some : List Row) → Known some → TellsMissing (Terms (defined some)) (missing_names some items)
  told_from [] known = refl
  told_from (row ∷ some) known = by (is_defined row.role) (definition items row.name) refl (told_from some (λ k r e. known (suc k) r e))
    where
      with_term : (body : Expr) → definition items row.name ≡ Some body → (r : Result Term BindFault) → term_of (row_names rows) body ≡ r →
          TellsMissing (Terms (defined some)) (missing_names some items) →
          TellsMissing (and_then r (λ t. and_then (Terms (defined some)) (λ ts. Ok (t ∷ ts)))) (missing_names some items)
      with_term body q (Ok t) p h = one_more t (Terms (defined some)) (missing_names some items) h
      with_term body q (Err e) p h = let n = known 0 row refl in absurd (term_there n.0 row n.1 body e q p)

      by : (d : Bool) (o : Option Expr) → definition items row.name ≡ o → TellsMissing (Terms (defined some)) (missing_names some items) →
          TellsMissing (all_ok (map (λ (row : Row). row_term rows row (definition items row.name)) (if d then row ∷ defined some else defined some)))
          (map (λ (row : Row). row.name) (if d && not (is_some o) then row ∷ filter (is_missing items) some else filter (is_missing items) some))
      by false o q h = h
      by true None q h = rw q refl
      by true (Some body) q h = rw q (with_term body q (term_of (row_names rows) body) refl h)

pub missing_is_told : (rows : List Row) (items : List Item) → IsSound rows → item_faults rows [] items ≡ [] → TellsMissing (bound rows items) (missing_names rows items)
unfolding bound
missing_is_told rows items sound h =
    let none : first_fault rows [] items ≡ None = sym (first_item rows [] items) ∙ ap first_of h in
    subst (λ f. TellsMissing (bound_by f (all_ok (map (λ (row : Row). row_term rows row (definition items row.name)) (defined rows)))) (missing_names rows items)) (sym none)
    (told_from rows sound.apart items none rows (λ k row e. (k, e)))
