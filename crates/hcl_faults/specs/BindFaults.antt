-- Every fault of binding: the fault of each item, and the signals that are missing.
use Rattle.std.specs.Prelude.{◌≡◌, ℕ, Bool, true, false, not, ◌&&◌, List, [], ◌∷◌, ◌++◌, length, map, filter, Option, Some, None, is_some, Result, Ok, Err}
use Rattle.hcl_tree.specs.declared.tree.Item.{Item}
use Rattle.hcl_tree.specs.declared.tree.Item.TheVariants as item
use Rattle.hcl_types.specs.declared.table.Row.{Row}
use Rattle.hcl_binding.specs.declared.fault.BindFault.{BindFault}
use Rattle.hcl_binding.specs.declared.fault.BindWhy.{BindWhy}
use Rattle.hcl_binding.specs.declared.fault.BindWhy.TheVariants as why
use Rattle.hcl_types.specs.Tables.{is_defined}
use Rattle.hcl_binding.specs.Binding.{definition, fault, item_fault, row_named}
use Rattle.hcl_faults.specs.declared.binding.ItemFault.{ItemFault}

-- an item's fault, if it has one, before the faults of later items
abbrev pub with_fault : ℕ → Option BindFault → List ItemFault → List ItemFault
with_fault item None others = others
with_fault item (Some e) others = record { item = item; fault = e } ∷ others

-- the faults of some items; before: the items in front of them
unfoldable pub item_faults : List Row → List Item → List Item → List ItemFault
item_faults rows before [] = []
item_faults rows before (i ∷ items) = with_fault (length before) (item_fault rows before i) (item_faults rows (before ++ i ∷ []) items)

-- whether a file must define a row and doesn't
abbrev pub is_missing : List Item → Row → Bool
is_missing items row = is_defined row.role && not (is_some (definition items row.name))

abbrev pub missing_names : List Row → List Item → List (List ℕ)
missing_names rows items = map (λ (row : Row). row.name) (filter (is_missing items) rows)

abbrev pub first_of : List ItemFault → Option BindFault
first_of [] = None
first_of (f ∷ others) = Some f.fault

-- whether a file must define a name
abbrev pub must_define : Option Row → Bool
must_define None = false
must_define (Some row) = is_defined row.role

-- whether an item defines again a name that the file must define
abbrev pub is_twice : List Row → List Item → Item → Bool
is_twice rows before (item.Quote text) = false
is_twice rows before (item.Decl kind name text) = false
is_twice rows before (item.Def kind name body) = must_define (row_named rows name) && is_some (definition before name)

abbrev pub defined_name : Item → List ℕ
defined_name (item.Quote text) = []
defined_name (item.Decl kind name text) = []
defined_name (item.Def kind name body) = name

-- the fault of an item alone, from that of a file with no other item: there a missing signal isn't the item's fault
abbrev pub own_fault : BindWhy → BindFault → Option BindFault
own_fault why.Missing e = None
own_fault why.Unknown e = Some e
own_fault why.Twice e = Some e
own_fault why.KindMismatch e = Some e
own_fault why.Redefines e = Some e
own_fault why.Memory e = Some e

-- a design if no name is missing; otherwise the fault is that the first of the names is missing
abbrev pub TellsMissing : {A : Type 0} → Result A BindFault → List (List ℕ) → Type 0
TellsMissing (Ok terms) names = names ≡ []
TellsMissing (Err e) [] = ⊥
TellsMissing (Err e) (name ∷ names) = e ≡ fault why.Missing name
