-- The design that a file gives over a table, or its first fault (the kinds and declarations of the HCL guide).
use Rattle.std.specs.Prelude.{ℕ, Bool, ◌&&◌, not, nat_eq, if◌then◌else◌, List, [], ◌∷◌, ◌++◌, map, position, is_some, Option, None, Some, Result, Ok, Err, slice_get, option_and_then, ◌≡◌, ◌≢◌}
use Rattle.std.specs.Cmp.Lexicographic.{pointwise}
use Rattle.hcl_tree.specs.declared.tree.Kind.{Kind}
use Rattle.hcl_tree.specs.declared.tree.Kind.TheVariants as kind
use Rattle.hcl_tree.specs.declared.tree.Item.{Item}
use Rattle.hcl_tree.specs.declared.tree.Item.TheVariants as item
use Rattle.hcl_tree.specs.declared.tree.Expr.{Expr}
use Rattle.hcl_tree.specs.declared.tree.Branch.{Branch}
use Rattle.hcl_tree.specs.declared.tree.Expr.TheOpen.{Expr-F, Branch-F}
use Rattle.hcl_tree.specs.declared.tree.Expr.TheFolds.{fold-Expr, fold-Branch}
use Rattle.hcl_types.specs.declared.term.Term.{Term}
use Rattle.hcl_types.specs.declared.term.TermBranch.{TermBranch}
use Rattle.hcl_types.specs.declared.term.Term.TheVariants as term
use Rattle.hcl_types.specs.declared.table.Class.{Class}
use Rattle.hcl_types.specs.declared.table.Row.{Row}
use Rattle.hcl_binding.specs.declared.fault.BindWhy.{BindWhy}
use Rattle.hcl_binding.specs.declared.fault.BindWhy.TheVariants as why
use Rattle.hcl_binding.specs.declared.fault.BindFault.{BindFault}
use Rattle.hcl_types.specs.Kinds.{is_truth, has_class}
use Rattle.hcl_types.specs.Tables.{defined, is_defined, row_names}

abbrev pub fault : BindWhy → List ℕ → BindFault
fault w text = record { why = w; name = text }

-- a step after another: it gets the value, or passes on an earlier fault
abbrev pub and_then : {A B : Type 0} → Result A BindFault → (A → Result B BindFault) → Result B BindFault
and_then (Ok x) f = f x
and_then (Err e) f = Err e

-- all values, or the first fault
abbrev pub all_ok : {A : Type 0} → List (Result A BindFault) → Result (List A) BindFault
all_ok [] = Ok []
all_ok (r ∷ rs) = and_then r (λ x. and_then (all_ok rs) (λ xs. Ok (x ∷ xs)))

-- ---- names

-- the position of a name among the names of the rows
abbrev pub place : List (List ℕ) → List ℕ → Option ℕ
place names name = position (pointwise nat_eq name) names

abbrev pub row_named : List Row → List ℕ → Option Row
row_named rows name = option_and_then (slice_get rows) (place (row_names rows) name)

-- ---- terms: each name becomes its row; a name that isn't in the table is Unknown, the first in text order

abbrev pub named : List ℕ → Option ℕ → Result Term BindFault
named name None = Err (fault why.Unknown name)
named name (Some id) = Ok (term.Name id)

abbrev pub term_layer : List (List ℕ) → Expr-F (Result Term BindFault) (Result TermBranch BindFault) → Result Term BindFault
term_layer names (Expr-F.Num n) = Ok (term.Num n)
term_layer names (Expr-F.Name name) = named name (place names name)
term_layer names (Expr-F.Not x) = and_then x (λ t. Ok (term.Not t))
term_layer names (Expr-F.And xs) = and_then (all_ok xs) (λ ts. Ok (term.And ts))
term_layer names (Expr-F.Or xs) = and_then (all_ok xs) (λ ts. Ok (term.Or ts))
term_layer names (Expr-F.Cmp op x y) = and_then x (λ t. and_then y (λ u. Ok (term.Cmp op t u)))
term_layer names (Expr-F.In x ys) = and_then x (λ t. and_then (all_ok ys) (λ us. Ok (term.In t us)))
term_layer names (Expr-F.Case bs) = and_then (all_ok bs) (λ branches. Ok (term.Case branches))

abbrev pub term_branch : Branch-F (Result Term BindFault) (Result TermBranch BindFault) → Result TermBranch BindFault
term_branch b = and_then b.guard (λ t. and_then b.value (λ u. Ok (record { guard = t; value = u })))

abbrev pub term_of : List (List ℕ) → Expr → Result Term BindFault
term_of names = fold-Expr (Result Term BindFault) (Result TermBranch BindFault) (term_layer names) term_branch

abbrev pub branch_of : List (List ℕ) → Branch → Result TermBranch BindFault
branch_of names = fold-Branch (Result Term BindFault) (Result TermBranch BindFault) (term_layer names) term_branch

-- ---- items

-- a signal of this kind can be of this class
abbrev pub is_of : Kind → Class → Bool
is_of kind.Word class = not (is_truth class)
is_of kind.Bool class = is_truth class

-- the body by which an item defines a name, and the body of its first definition among items
abbrev pub body_in : List ℕ → Item → Option Expr
body_in name (item.Quote text) = None
body_in name (item.Decl kind other text) = None
body_in name (item.Def kind other body) = if pointwise nat_eq name other then Some body else None

abbrev pub or_else : {A : Type 0} → Option A → Option A → Option A
or_else None other = other
or_else (Some x) other = Some x

abbrev pub definition : List Item → List ℕ → Option Expr
definition [] name = None
definition (i ∷ items) name = or_else (body_in name i) (definition items name)

-- a declaration of a name: it is Unknown if it isn't in the table, and a KindMismatch if its row has the other kind
abbrev pub declared : Option Row → Kind → List ℕ → Result (Unit {0}) BindFault
declared None kind name = Err (fault why.Unknown name)
declared (Some row) kind name = if is_of kind row.class then Ok tt else Err (fault why.KindMismatch name)

-- The term of a body: a KindMismatch if the definition's kind isn't the row's, or the body has the other kind.
abbrev pub of_kind : List Row → Row → Kind → List ℕ → Term → Result Term BindFault
of_kind rows row kind name t = if is_of kind row.class && has_class rows row.class t then Ok t else Err (fault why.KindMismatch name)

-- A definition of a name, as its term or its fault; the first that applies. It is Unknown if the name isn't in the
-- table; it Redefines a constant, state or hardware; it is Twice if the name was defined before; else the fault is the
-- first Unknown name in its body, or KindMismatch.
abbrev pub defined_as : List Row → Bool → Option Row → Kind → List ℕ → Expr → Result Term BindFault
defined_as rows before None kind name body = Err (fault why.Unknown name)
defined_as rows before (Some row) kind name body =
    if not (is_defined row.role) then Err (fault why.Redefines name)
    else (if before then Err (fault why.Twice name)
    else and_then (term_of (row_names rows) body) (of_kind rows row kind name))

abbrev pub fault_in : {A : Type 0} → Result A BindFault → Option BindFault
fault_in (Ok x) = None
fault_in (Err e) = Some e

-- the fault of an item; `before` is the items in front of it
abbrev pub item_fault : List Row → List Item → Item → Option BindFault
item_fault rows before (item.Quote text) = None
item_fault rows before (item.Decl kind name text) = fault_in (declared (row_named rows name) kind name)
item_fault rows before (item.Def kind name body) = fault_in (defined_as rows (is_some (definition before name)) (row_named rows name) kind name body)

-- ---- the file

-- the first fault of the items in text order; `before` is the items in front of them
unfoldable pub first_fault : List Row → List Item → List Item → Option BindFault
first_fault rows before [] = None
first_fault rows before (i ∷ items) = or_else (item_fault rows before i) (first_fault rows (before ++ i ∷ []) items)

-- the term of a row that a file has to define; without a definition it is Missing
abbrev pub row_term : List Row → Row → Option Expr → Result Term BindFault
row_term rows row None = Err (fault why.Missing row.name)
row_term rows row (Some body) = term_of (row_names rows) body

abbrev pub bound_by : Option BindFault → Result (List Term) BindFault → Result (List Term) BindFault
bound_by None terms = terms
bound_by (Some e) terms = Err e

-- the first fault of an item; else the terms of the rows that a file has to define, or the first that is missing
unfoldable pub bound : List Row → List Item → Result (List Term) BindFault
bound rows items = bound_by (first_fault rows [] items) (all_ok (map (λ (row : Row). row_term rows row (definition items row.name)) (defined rows)))

-- an answer is that of the definition, except for out of memory
abbrev pub IsBindAnswer : {A : Type 0} → Result A BindFault → Result A BindFault → Type 0
IsBindAnswer (Ok x) r = r ≡ Ok x
IsBindAnswer (Err e) r = e.why ≢ why.Memory → r ≡ Err e
