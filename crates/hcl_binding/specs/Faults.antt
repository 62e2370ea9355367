-- What each fault of binding implies about a file and a table, independently of the order in which items are checked.
use Rattle.std.specs.Prelude.{◌≡◌, ◌⊎◌, ℕ, true, false, is_some, List, [], ◌∷◌, ◌++◌, None, Some, Ok}
use Rattle.hcl_tree.specs.declared.tree.Kind.{Kind}
use Rattle.hcl_tree.specs.declared.tree.Item.{Item}
use Rattle.hcl_tree.specs.declared.tree.Item.TheVariants as item
use Rattle.hcl_tree.specs.declared.tree.Expr.{Expr}
use Rattle.hcl_tree.specs.declared.tree.Expr.TheOpen.{Expr-F, Branch-F}
use Rattle.hcl_tree.specs.declared.tree.Expr.TheFolds.{fold-Expr, fold-Branch}
use Rattle.hcl_tree.specs.declared.tree.Branch.{Branch}
use Rattle.hcl_types.specs.declared.table.Row.{Row}
use Rattle.hcl_types.specs.declared.term.Term.{Term}
use Rattle.hcl_binding.specs.declared.fault.BindWhy.{BindWhy}
use Rattle.hcl_binding.specs.declared.fault.BindWhy.TheVariants as why
use Rattle.hcl_types.specs.Lists.{IsIn}
use Rattle.hcl_types.specs.Kinds.{has_class}
use Rattle.hcl_types.specs.Tables.{defined, is_defined, row_names}
use Rattle.hcl_binding.specs.Binding.{place, row_named, definition, is_of, term_of}

-- the names in an expression
abbrev pub all_uses : List (List (List ℕ)) → List (List ℕ)
all_uses [] = []
all_uses (xs ∷ xss) = xs ++ all_uses xss

abbrev pub uses_in_layer : Expr-F (List (List ℕ)) (List (List ℕ)) → List (List ℕ)
uses_in_layer (Expr-F.Num n) = []
uses_in_layer (Expr-F.Name name) = name ∷ []
uses_in_layer (Expr-F.Not xs) = xs
uses_in_layer (Expr-F.And xss) = all_uses xss
uses_in_layer (Expr-F.Or xss) = all_uses xss
uses_in_layer (Expr-F.Cmp op xs ys) = xs ++ ys
uses_in_layer (Expr-F.In xs yss) = xs ++ all_uses yss
uses_in_layer (Expr-F.Case branches) = all_uses branches

abbrev pub uses_in_branch : Branch-F (List (List ℕ)) (List (List ℕ)) → List (List ℕ)
uses_in_branch b = b.guard ++ b.value

abbrev pub uses : Expr → List (List ℕ)
uses = fold-Expr (List (List ℕ)) (List (List ℕ)) uses_in_layer uses_in_branch

abbrev pub branch_uses : Branch → List (List ℕ)
branch_uses = fold-Branch (List (List ℕ)) (List (List ℕ)) uses_in_layer uses_in_branch

-- the names that an item declares, defines or uses
abbrev pub mentions : Item → List (List ℕ)
mentions (item.Quote text) = []
mentions (item.Decl kind name text) = name ∷ []
mentions (item.Def kind name body) = name ∷ uses body

-- an item declares or defines the name with another kind than its row's, or defines it by a body of the other kind
abbrev pub Mismatches : List Row → List ℕ → Row → Item → Type 0
Mismatches rows name row (item.Quote text) = ⊥
Mismatches rows name row (item.Decl kind other text) = (other ≡ name) × (is_of kind row.class ≡ false)
Mismatches rows name row (item.Def kind other body) =
    (other ≡ name) × ((is_of kind row.class ≡ false) ⊎ ((t : Term) × (term_of (row_names rows) body ≡ Ok t) × (has_class rows row.class t ≡ false)))

-- a fault of this kind about this name
abbrev pub IsBindFault : List Row → List Item → BindWhy → List ℕ → Type 0
-- some item mentions the name, and it is no row
IsBindFault rows items why.Unknown name = (place (row_names rows) name ≡ None) × ((i : Item) × IsIn i items × IsIn name (mentions i))
-- the name is defined, and then defined again
IsBindFault rows items why.Twice name =
    (front : List Item) × (behind : List Item) × (kind : Kind) × (body : Expr) ×
    (items ≡ front ++ item.Def kind name body ∷ behind) × (is_some (definition front name) ≡ true)
-- a row that a file has to define has no definition
IsBindFault rows items why.Missing name = ((row : Row) × IsIn row (defined rows) × (row.name ≡ name)) × (definition items name ≡ None)
-- an item, or the body of a definition, has another kind than the row of the name
IsBindFault rows items why.KindMismatch name = (row : Row) × (row_named rows name ≡ Some row) × ((i : Item) × IsIn i items × Mismatches rows name row i)
-- the name is defined, but a file may not define its row
IsBindFault rows items why.Redefines name = ((row : Row) × (row_named rows name ≡ Some row) × (is_defined row.role ≡ false)) × (is_some (definition items name) ≡ true)
IsBindFault rows items why.Memory name = ⊥
