-- Binding as the program does it: a list with one place for each row's term, which the items fill one after the other.
use Rattle.std.specs.Prelude.{ℕ, Bool, true, false, if◌then◌else◌, List, [], ◌∷◌, ◌++◌, Option, None, Some, Result, Ok, Err, slice_get, slice_set, map, ◌≡◌, ◌≢◌}
use Rattle.hcl_tree.specs.declared.tree.Item.{Item}
use Rattle.hcl_tree.specs.declared.tree.Item.TheVariants as item
use Rattle.hcl_tree.specs.declared.tree.Kind.{Kind}
use Rattle.hcl_tree.specs.declared.tree.Expr.{Expr}
use Rattle.hcl_types.specs.declared.term.Term.{Term}
use Rattle.hcl_types.specs.declared.table.Row.{Row}
use Rattle.hcl_binding.specs.declared.fault.BindWhy.TheVariants as why
use Rattle.hcl_binding.specs.declared.fault.BindFault.{BindFault}
use Rattle.hcl_binding.specs.Binding.{fault, and_then, place, row_named, declared, defined_as}
use Rattle.hcl_types.specs.Tables.{is_defined, row_names}

-- the values of a later result, with others before them
abbrev pub put_before : {A : Type 0} → List A → Result (List A) BindFault → Result (List A) BindFault
put_before before r = and_then r (λ xs. Ok (before ++ xs))

-- before the first item, no row has its term
abbrev pub no_terms : List Row → List (Option Term)
no_terms rows = map (λ (row : Row). None) rows

-- whether a row has its term
abbrev pub is_taken : Option (Option Term) → Bool
is_taken None = false
is_taken (Some None) = false
is_taken (Some (Some t)) = true

-- the list after the definition of a name whose row has this position
abbrev pub put_definition : List Row → List (Option Term) → Option ℕ → Kind → List ℕ → Expr → Result (List (Option Term)) BindFault
put_definition rows bodies None kind name body = Err (fault why.Unknown name)
put_definition rows bodies (Some id) kind name body =
    and_then (defined_as rows (is_taken (slice_get bodies id)) (slice_get rows id) kind name body) (λ t. Ok (slice_set bodies id (Some t)))

abbrev pub put_item : List Row → List (Option Term) → Item → Result (List (Option Term)) BindFault
put_item rows bodies (item.Quote text) = Ok bodies
put_item rows bodies (item.Decl kind name text) = and_then (declared (row_named rows name) kind name) (λ nothing. Ok bodies)
put_item rows bodies (item.Def kind name body) = put_definition rows bodies (place (row_names rows) name) kind name body

abbrev pub put_items : List Row → List (Option Term) → List Item → Result (List (Option Term)) BindFault
put_items rows bodies [] = Ok bodies
put_items rows bodies (i ∷ items) = and_then (put_item rows bodies i) (λ more. put_items rows more items)

-- the term of a row
abbrev pub term_in : Row → Option Term → Result Term BindFault
term_in row None = Err (fault why.Missing row.name)
term_in row (Some t) = Ok t

-- the terms so far and the term of the next row, if a file has to define it
abbrev pub put_row : List Term → Row → Option Term → Result (List Term) BindFault
put_row terms row body = if is_defined row.role then and_then (term_in row body) (λ t. Ok (terms ++ t ∷ [])) else Ok terms

-- the terms so far and the terms of all rows that a file has to define
abbrev pub put_rows : List Term → List Row → List (Option Term) → Result (List Term) BindFault
put_rows terms [] bodies = Ok terms
put_rows terms (row ∷ rows) [] = Ok terms
put_rows terms (row ∷ rows) (body ∷ bodies) = and_then (put_row terms row body) (λ more. put_rows more rows bodies)

-- the items one after the other, then the terms
unfoldable pub bound_in_steps : List Row → List Item → Result (List Term) BindFault
bound_in_steps rows items = and_then (put_items rows (no_terms rows) items) (put_rows [] rows)

-- an answer about a list that is updated in place
abbrev pub IsStepAnswer : {A S : Type 0} → Result A BindFault → S → Result S BindFault → Type 0
IsStepAnswer (Ok x) now r = r ≡ Ok now
IsStepAnswer (Err e) now r = e.why ≢ why.Memory → r ≡ Err e
