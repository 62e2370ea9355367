-- A text has at most one design, and none if it has a fault: one of reading, one of binding, or a cycle.
use Rattle.std.proofs.Common.{◌≡◌, ℕ, List, [], ◌∷◌, ap, sym, subst, ◌∙◌, Result, Ok, Err}
use Rattle.hcl_binding.specs.Binding.{bound}
use Rattle.hcl_binding.specs.declared.fault.BindFault.{BindFault}
use Rattle.hcl_order.specs.Dependence.{Depends, FirstCycle}
use Rattle.hcl_read.proofs.LawLemmas.{at_most_one_file}
use Rattle.hcl_read.proofs.OneFault.{file_has_no_fault}
use Rattle.hcl_read.specs.Read.{IsFault, ReadsAs}
use Rattle.hcl_read.specs.declared.fault.HclFault.{HclFault}
use Rattle.hcl_tree.specs.declared.tree.File.{File}
use Rattle.hcl_tree.specs.declared.tree.Item.{Item}
use Rattle.hcl_types.specs.Equations.{needs_of}
use Rattle.hcl_types.specs.Tables.{needs}
use Rattle.hcl_types.specs.declared.table.Row.{Row}
use Rattle.hcl_types.specs.declared.term.Term.{Term}
use Rattle.hcl_design.specs.Designs.{HasDesign, HasDesignOf, IsDesign, IsDesignOf}

pub one_design : (rows : List Row) (text : List ℕ) (terms others : List Term) → IsDesign rows text terms → IsDesign rows text others → terms ≡ others
one_design rows text terms others d e =
    let one : bound rows d.file.items ≡ bound rows e.file.items = ap (λ (f : File). bound rows f.items) (at_most_one_file text d.file e.file d.reads e.reads) in
    let same : Result.Ok terms ≡ Ok others = sym d.design.binds ∙ (one ∙ e.design.binds) in
    cc (same)

-- ---- the items of a file

pub none_if_unbound : (rows : List Row) (items : List Item) (fault : BindFault) → bound rows items ≡ Err fault → HasDesignOf rows items → ⊥
none_if_unbound rows items fault unbound (terms, design) = absurd (cc (unbound, design.binds))

pub no_cycle : (needed : ℕ → List ℕ) (cycle : List ℕ) → FirstCycle needed cycle → ((n : ℕ) → Depends needed n n → ⊥) → ⊥
no_cycle needed [] first acyclic = first
no_cycle needed (row ∷ between) first acyclic = acyclic row (between, first.walks)

pub none_if_cyclic : (rows : List Row) (items : List Item) (terms : List Term) (cycle : List ℕ) → bound rows items ≡ Ok terms → FirstCycle (needs_of (needs rows terms)) cycle → HasDesignOf rows items → ⊥
none_if_cyclic rows items terms cycle binds first (others, design) =
    let same : others ≡ terms = cc (binds, design.binds) in
    no_cycle (needs_of (needs rows terms)) cycle first (subst (λ (x : List Term). (n : ℕ) → Depends (needs_of (needs rows x)) n n → ⊥) same design.acyclic)

-- ---- the text

pub none_if_unread : (rows : List Row) (text : List ℕ) (fault : HclFault) → IsFault text fault → HasDesign rows text → ⊥
none_if_unread rows text fault is (terms, d) = file_has_no_fault text d.file fault d.reads is

-- the design of a text is that of its file
pub of_file : (rows : List Row) (text : List ℕ) (file : File) → ReadsAs text file → HasDesign rows text → HasDesignOf rows file.items
of_file rows text file reads (terms, d) =
    (terms, subst (λ (f : File). IsDesignOf rows f.items terms) (at_most_one_file text d.file file d.reads reads) d.design)

pub of_text : (rows : List Row) (text : List ℕ) (file : File) → ReadsAs text file → HasDesignOf rows file.items → HasDesign rows text
of_text rows text file reads (terms, design) = (terms, record { file = file; reads = reads; design = design })
