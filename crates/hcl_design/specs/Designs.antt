-- The design of an HCL text over a table: the text is read, its definitions are bound, and its signals have an order.
use Rattle.std.specs.Prelude.{◌≡◌, ℕ, List, Ok}
use Rattle.hcl_binding.specs.Binding.{bound}
use Rattle.hcl_order.specs.Dependence.{Depends}
use Rattle.hcl_read.specs.Read.{ReadsAs}
use Rattle.hcl_tree.specs.declared.tree.File.{File}
use Rattle.hcl_tree.specs.declared.tree.Item.{Item}
use Rattle.hcl_types.specs.Equations.{needs_of}
use Rattle.hcl_types.specs.Tables.{needs}
use Rattle.hcl_types.specs.declared.table.Row.{Row}
use Rattle.hcl_types.specs.declared.term.Term.{Term}

-- the definitions of the items of a file, in table order; no signal depends on itself
pub record IsDesignOf (rows : List Row) (items : List Item) (terms : List Term) : Type 0 where
  pub binds : bound rows items ≡ Ok terms
  pub acyclic : (n : ℕ) → Depends (needs_of (needs rows terms)) n n → ⊥

-- the design of a text: that of the file that it is read as
pub record IsDesign (rows : List Row) (text : List ℕ) (terms : List Term) : Type 0 where
  pub file : File
  pub reads : ReadsAs text file
  pub design : IsDesignOf rows file.items terms

-- the items of a file have a design
abbrev pub HasDesignOf : List Row → List Item → Type 0
HasDesignOf rows items = (terms : List Term) × IsDesignOf rows items terms

-- the text has a design
abbrev pub HasDesign : List Row → List ℕ → Type 0
HasDesign rows text = (terms : List Term) × IsDesign rows text terms
