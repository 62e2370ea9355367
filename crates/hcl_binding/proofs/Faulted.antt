-- What a fault of the definition implies about the file and the table.
use Rattle.std.proofs.Common.{◌≡◌, ℕ, suc, Bool, true, false, not, ◌&&◌, if◌then◌else◌, List, [], ◌∷◌, ◌++◌, map, slice_get, is_some, Option, Some, None, Result, Ok, Err, option_and_then, refl, sym, ap, ◌∙◌, subst, inl, inr, arith}
use Rattle.std.proofs.lemmas.List.{append_assoc}
use Rattle.std.proofs.lemmas.Option.{slice_get-get_or, slice_get-map}
use Rattle.hcl_tree.specs.declared.tree.Kind.{Kind}
use Rattle.hcl_tree.specs.declared.tree.Item.{Item}
use Rattle.hcl_tree.specs.declared.tree.Item.TheVariants as item
use Rattle.hcl_tree.specs.declared.tree.Expr.{Expr}
use Rattle.hcl_types.specs.declared.term.Term.{Term}
use Rattle.hcl_types.specs.declared.table.Row.{Row}
use Rattle.hcl_binding.specs.declared.fault.BindFault.{BindFault}
use Rattle.hcl_binding.specs.declared.fault.BindWhy.TheVariants as why
use Rattle.hcl_types.specs.Lists.{IsIn, IsApart}
use Rattle.hcl_types.specs.Kinds.{has_class}
use Rattle.hcl_types.specs.Tables.{defined, is_defined, row_names}
use Rattle.hcl_binding.specs.Binding.{fault, and_then, all_ok, place, row_named, declared, defined_as, is_of, of_kind, fault_in, item_fault, first_fault, definition, or_else, row_term, bound_by, bound, term_of}
use Rattle.hcl_binding.specs.Faults.{IsBindFault, uses}
use Rattle.hcl_binding.proofs.Bound.{is_in_slice, definition_more, accepted}
use Rattle.hcl_binding.proofs.Designs.{filtered_at, faultless, row_at, no_fault}
use Rattle.hcl_binding.proofs.TermsOf.{found_inside}
use Rattle.hcl_binding.proofs.UsesOf.{WhereErr, Lacks, term_lacks}
use Rattle.std.specs.Cmp.Lexicographic.{bytes_decides}

in_middle : {A : Type 0} (front : List A) (x : A) (behind : List A) → IsIn x (front ++ x ∷ behind)
in_middle [] x behind = inl refl
in_middle (y ∷ front) x behind = inr (in_middle front x behind)

pub err_at : {A B : Type 0} (f : A → Result B BindFault) (xs : List A) (e : BindFault) → all_ok (map f xs) ≡ Err e → (k : ℕ) × (x : A) × (slice_get xs k ≡ Some x) × (f x ≡ Err e)
err_at f [] e h = absurd (grind (arith, h))
err_at {A} {B} f (x ∷ xs) e h = by (λ q. err_at f xs e q) (f x) (all_ok (map f xs)) refl refl h
  where
    by : (all_ok (map f xs) ≡ Err e → (k : ℕ) × (y : A) × (slice_get xs k ≡ Some y) × (f y ≡ Err e)) →
        (r : Result B BindFault) (rs : Result (List B) BindFault) → f x ≡ r → all_ok (map f xs) ≡ rs → and_then r (λ z. and_then rs (λ zs. Ok (z ∷ zs))) ≡ Err e →
        (k : ℕ) × (y : A) × (slice_get (x ∷ xs) k ≡ Some y) × (f y ≡ Err e)
    by go (Err z) rs p q g =
        let same : z ≡ e = grind (arith, g) in
        (0, x, refl, p ∙ ap (λ (w : BindFault). Err w) same)
    by go (Ok z) (Ok zs) p q g = absurd (grind (arith, g))
    by go (Ok z) (Err z') p q g =
        let same : z' ≡ e = grind (arith, g) in
        let rest = go (q ∙ ap (λ (w : BindFault). Err w) same) in
        (suc rest.0, rest.1, rest.2, rest.3)

module _ (rows : List Row) where
  -- if no row has the name, the name has no position
  unplaced : (name : List ℕ) → row_named rows name ≡ None → place (row_names rows) name ≡ None
  unplaced name e = by (place (row_names rows) name) refl e
    where
      there : (id : ℕ) → place (row_names rows) name ≡ Some id → (o : Option Row) → slice_get rows id ≡ o → o ≡ None → ⊥
      there id p None q n =
          let names_none : slice_get (row_names rows) id ≡ None = slice_get-map (λ (r : Row). r.name) rows id ∙ rw q refl in
          let names_some = slice_get-get_or (row_names rows) id [] (found_inside name (row_names rows) id p) in
          absurd (grind (arith, names_none, names_some))
      there id p (Some row) q n = absurd (grind (arith, n))

      by : (o : Option ℕ) → place (row_names rows) name ≡ o → option_and_then (slice_get rows) o ≡ None → place (row_names rows) name ≡ None
      by None p q = p
      by (Some id) p q = absurd (there id p (slice_get rows id) refl q)

  -- the name of a definition is defined
  defined_there : (front behind : List Item) (k : Kind) (name : List ℕ) (body : Expr) → is_some (definition (front ++ item.Def k name body ∷ behind) name) ≡ true
  defined_there front behind k name body =
      ap is_some (definition_more front (item.Def k name body ∷ behind) name) ∙ rw ((bytes_decides name name).1 refl) (by (definition front name))
    where
      by : (o : Option Expr) → is_some (or_else o (or_else (Some body) (definition behind name))) ≡ true
      by None = refl
      by (Some x) = refl

  as_told : (items : List Item) (f e : BindFault) → Some f ≡ Some e → IsBindFault rows items f.why f.name → IsBindFault rows items e.why e.name
  as_told items f e same t =
      let one : f ≡ e = grind (arith, same) in
      subst (λ (z : BindFault). IsBindFault rows items z.why z.name) one t

  declared_tells : (front behind : List Item) (k : Kind) (name text : List ℕ) (e : BindFault) (r : Option Row) → row_named rows name ≡ r →
      fault_in (declared r k name) ≡ Some e → IsBindFault rows (front ++ item.Decl k name text ∷ behind) e.why e.name
  declared_tells front behind k name text e None p q =
      as_told (front ++ item.Decl k name text ∷ behind) (fault why.Unknown name) e q (unplaced name p, (item.Decl k name text, in_middle front (item.Decl k name text) behind, inl refl))
  declared_tells front behind k name text e (Some row) p q = by tt (is_of k row.class) refl q
    where
      by : (u : Unit {0}) (b : Bool) → is_of k row.class ≡ b → fault_in (if b then Ok u else Err (fault why.KindMismatch name)) ≡ Some e →
          IsBindFault rows (front ++ item.Decl k name text ∷ behind) e.why e.name
      by u true t g = absurd (grind (arith, g))
      by u false t g = as_told (front ++ item.Decl k name text ∷ behind) (fault why.KindMismatch name) e g
          (row, p, (item.Decl k name text, in_middle front (item.Decl k name text) behind, (refl, t)))

  body_tells : (front behind : List Item) (k : Kind) (name : List ℕ) (body : Expr) (e : BindFault) (row : Row) → row_named rows name ≡ Some row →
      (r : Result Term BindFault) → term_of (row_names rows) body ≡ r → fault_in (and_then r (of_kind rows row k name)) ≡ Some e →
      IsBindFault rows (front ++ item.Def k name body ∷ behind) e.why e.name
  body_tells front behind k name body e row p (Err f) q g =
      let lacks = subst (WhereErr (Lacks (row_names rows) (uses body))) q (term_lacks (row_names rows) body) in
      as_told (front ++ item.Def k name body ∷ behind) f e g
      (subst (λ w. IsBindFault rows (front ++ item.Def k name body ∷ behind) w f.name) (sym lacks.0)
      (lacks.1, (item.Def k name body, in_middle front (item.Def k name body) behind, inr lacks.2)))
  body_tells front behind k name body e row p (Ok t) q g = by (is_of k row.class) (has_class rows row.class t) refl refl g
    where
      by : (b c : Bool) → is_of k row.class ≡ b → has_class rows row.class t ≡ c → fault_in (if b && c then Ok t else Err (fault why.KindMismatch name)) ≡ Some e →
          IsBindFault rows (front ++ item.Def k name body ∷ behind) e.why e.name
      by true true u v h = absurd (grind (arith, h))
      by false c u v h = as_told (front ++ item.Def k name body ∷ behind) (fault why.KindMismatch name) e h
          (row, p, (item.Def k name body, in_middle front (item.Def k name body) behind, (refl, inl u)))
      by true false u v h = as_told (front ++ item.Def k name body ∷ behind) (fault why.KindMismatch name) e h
          (row, p, (item.Def k name body, in_middle front (item.Def k name body) behind, (refl, inr (t, q, v))))

  defined_tells : (front behind : List Item) (k : Kind) (name : List ℕ) (body : Expr) (e : BindFault) (r : Option Row) → row_named rows name ≡ r →
      fault_in (defined_as rows (is_some (definition front name)) r k name body) ≡ Some e → IsBindFault rows (front ++ item.Def k name body ∷ behind) e.why e.name
  defined_tells front behind k name body e None p q =
      as_told (front ++ item.Def k name body ∷ behind) (fault why.Unknown name) e q (unplaced name p, (item.Def k name body, in_middle front (item.Def k name body) behind, inl refl))
  defined_tells front behind k name body e (Some row) p q = by (is_defined row.role) (is_some (definition front name)) refl refl q
    where
      by : (d b : Bool) → is_defined row.role ≡ d → is_some (definition front name) ≡ b →
          fault_in (if not d then Err (fault why.Redefines name) else (if b then Err (fault why.Twice name) else and_then (term_of (row_names rows) body) (of_kind rows row k name))) ≡ Some e →
          IsBindFault rows (front ++ item.Def k name body ∷ behind) e.why e.name
      by false b u v g = as_told (front ++ item.Def k name body ∷ behind) (fault why.Redefines name) e g ((row, p, u), defined_there front behind k name body)
      by true true u v g = as_told (front ++ item.Def k name body ∷ behind) (fault why.Twice name) e g (front, behind, k, body, refl, v)
      by true false u v g = body_tells front behind k name body e row p (term_of (row_names rows) body) refl g

  item_tells : (front behind : List Item) (i : Item) (e : BindFault) → item_fault rows front i ≡ Some e → IsBindFault rows (front ++ i ∷ behind) e.why e.name
  item_tells front behind (item.Quote text) e h = absurd (grind (arith, h))
  item_tells front behind (item.Decl k name text) e h = declared_tells front behind k name text e (row_named rows name) refl h
  item_tells front behind (item.Def k name body) e h = defined_tells front behind k name body e (row_named rows name) refl h

  -- the item of the first fault
  first_at : (before items : List Item) (e : BindFault) → first_fault rows before items ≡ Some e → IsBindFault rows (before ++ items) e.why e.name
  unfolding first_fault
  first_at before [] e h = absurd (grind (arith, h))
  first_at before (i ∷ items) e h = by (λ q. first_at (before ++ i ∷ []) items e q) (item_fault rows before i) refl h
    where
      by : (first_fault rows (before ++ i ∷ []) items ≡ Some e → IsBindFault rows ((before ++ i ∷ []) ++ items) e.why e.name) → (f : Option BindFault) → item_fault rows before i ≡ f →
          or_else f (first_fault rows (before ++ i ∷ []) items) ≡ Some e → IsBindFault rows (before ++ i ∷ items) e.why e.name
      by go None p q = subst (λ all. IsBindFault rows all e.why e.name) (append_assoc before (i ∷ []) items) (go q)
      by go (Some f) p q = item_tells before items i e (p ∙ q)

  missing_tells : IsApart (row_names rows) → (items : List Item) (n k : ℕ) (row : Row) (e : BindFault) → first_fault rows [] items ≡ None →
      slice_get (defined rows) k ≡ Some row → slice_get rows n ≡ Some row → (d : Option Expr) → definition items row.name ≡ d → row_term rows row d ≡ Err e → IsBindFault rows items e.why e.name
  missing_tells apart items n k row e none at_k at_n None q p =
      as_told items (fault why.Missing row.name) e (grind (arith, p)) ((row, is_in_slice (defined rows) k row at_k, refl), q)
  missing_tells apart items n k row e none at_k at_n (Some body) q p =
      let f = faultless rows [] items row.name body none q in
      let at_row : row_named rows f.other ≡ Some row = subst (λ z. row_named rows z ≡ Some row) f.same (row_at rows apart n row at_n) in
      let clean : fault_in (defined_as rows (is_some (definition f.before f.other)) (Some row) f.kind f.other body) ≡ None =
      subst (λ z. fault_in (defined_as rows (is_some (definition f.before f.other)) z f.kind f.other body) ≡ None) at_row f.none in
      let ok = no_fault rows (defined_as rows (is_some (definition f.before f.other)) (Some row) f.kind f.other body) clean in
      let a = accepted rows (is_some (definition f.before f.other)) row f.kind f.other body ok.0 ok.1 in
      absurd (grind (arith, a.term, p))

  pub bound_tells : IsApart (row_names rows) → (items : List Item) (e : BindFault) → bound rows items ≡ Err e → IsBindFault rows items e.why e.name
  unfolding bound
  bound_tells apart items e h = by (first_fault rows [] items) refl h
    where
      by : (f : Option BindFault) → first_fault rows [] items ≡ f →
          bound_by f (all_ok (map (λ (row : Row). row_term rows row (definition items row.name)) (defined rows))) ≡ Err e → IsBindFault rows items e.why e.name
      by (Some f) p q =
          let one : f ≡ e = grind (arith, q) in
          first_at [] items e (p ∙ ap (λ (z : BindFault). Some z) one)
      by None p q =
          let found = err_at (λ (row : Row). row_term rows row (definition items row.name)) (defined rows) e q in
          let its = filtered_at (λ (r : Row). is_defined r.role) rows found.0 found.1 found.2 in
          missing_tells apart items its.0 found.0 found.1 e p found.2 its.1 (definition items found.1.name) refl found.3
