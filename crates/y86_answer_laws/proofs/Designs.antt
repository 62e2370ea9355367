-- A text has one design, or else one refusal.
use Rattle.std.proofs.Common.{◌≡◌, ℕ, List, sym, ap, ◌∙◌, subst, inl, inr}
use Rattle.hcl_read.specs.Read.{ReadsAs}
use Rattle.hcl_tree.specs.declared.tree.File.{File}
use Rattle.hcl_read.proofs.LawLemmas.{at_most_one_file}
use Rattle.hcl_read.proofs.OneFault.{file_has_no_fault, one_fault}
use Rattle.hcl_binding.specs.Binding.{bound}
use Rattle.hcl_types.specs.Equations.{needs_of}
use Rattle.hcl_types.specs.Tables.{IsBound, IsOrderOf, IsSound, needs, row_names}
use Rattle.hcl_types.specs.declared.table.Row.{Row}
use Rattle.hcl_types.specs.declared.term.Term.{Term}
use Rattle.hcl_binding.proofs.Designs.{design_bound}
use Rattle.hcl_order.specs.Dependence.{FirstCycle}
use Rattle.hcl_laws.proofs.Cycles.{one_first_cycle}
use Rattle.hcl_laws.proofs.Orders.{order_there}
use Rattle.hcl_design.specs.Designs.{IsDesign}
use Rattle.cli_plans.specs.Designs.{RefusesBinding, RefusesDesign, RefusesHcl, RefusesOrder}
use Rattle.cli_plans.specs.Lines.{bind_fault_line, cycle_line, hcl_fault_line, names_at}
use Rattle.cli_plans.specs.Plan.{Answer, refused}

-- ---- a text that is read

pub hcl_one : (name text : List ℕ) (a b : Answer) → RefusesHcl name text a → RefusesHcl name text b → a ≡ b
hcl_one name text a b h k = h.2 ∙ ap (λ f. refused 5 (hcl_fault_line name f)) (one_fault text h.0 k.0 h.1 k.1) ∙ sym k.2

pub read_apart : (name text : List ℕ) (file : File) (a : Answer) → ReadsAs text file → RefusesHcl name text a → ⊥
read_apart name text file a reads h = file_has_no_fault text file h.0 reads h.1

-- ---- a design

module _ (rows : List Row) (text : List ℕ) where
  same_bound : (f g : File) → ReadsAs text f → ReadsAs text g → bound rows f.items ≡ bound rows g.items
  same_bound f g h k = ap (λ (x : File). bound rows x.items) (at_most_one_file text f g h k)

  pub design_belongs : IsSound rows → (terms : List Term) → IsDesign rows text terms → IsBound rows terms
  design_belongs sound terms d = design_bound rows sound.apart d.file.items terms d.design.binds

  -- a design has an order
  pub design_ordered : IsSound rows → (terms : List Term) → IsDesign rows text terms → (ids : List ℕ) × IsOrderOf rows terms ids
  design_ordered sound terms d = order_there rows terms sound (design_belongs sound terms d) d.design.acyclic

  binding_one : (name : List ℕ) (a b : Answer) → RefusesBinding name rows text a → RefusesBinding name rows text b → a ≡ b
  binding_one name a b h k =
      let same : h.fault ≡ k.fault = cc (h.binds, same_bound h.file k.file h.reads k.reads, k.binds) in
      h.told ∙ ap (λ f. refused 5 (bind_fault_line name f)) same ∙ sym k.told

  order_one : (name : List ℕ) (a b : Answer) → RefusesOrder name rows text a → RefusesOrder name rows text b → a ≡ b
  order_one name a b h k =
      let same : h.terms ≡ k.terms = cc (h.binds, same_bound h.file k.file h.reads k.reads, k.binds) in
      let cycle = one_first_cycle (needs_of (needs rows k.terms)) h.cycle k.cycle (subst (λ t. FirstCycle (needs_of (needs rows t)) h.cycle) same h.first) k.first in
      h.told ∙ ap (λ ids. refused 5 (cycle_line name (names_at (row_names rows) ids))) cycle ∙ sym k.told

  binding_or_order : (name : List ℕ) (a b : Answer) → RefusesBinding name rows text a → RefusesOrder name rows text b → ⊥
  binding_or_order name a b h k = absurd (cc (h.binds, same_bound h.file k.file h.reads k.reads, k.binds))

  pub refusal_one : (name : List ℕ) (a b : Answer) → RefusesDesign name rows text a → RefusesDesign name rows text b → a ≡ b
  refusal_one name a b (inl h) (inl k) = hcl_one name text a b h k
  refusal_one name a b (inl h) (inr (inl k)) = absurd (read_apart name text k.file a k.reads h)
  refusal_one name a b (inl h) (inr (inr k)) = absurd (read_apart name text k.file a k.reads h)
  refusal_one name a b (inr (inl h)) (inl k) = absurd (read_apart name text h.file b h.reads k)
  refusal_one name a b (inr (inr h)) (inl k) = absurd (read_apart name text h.file b h.reads k)
  refusal_one name a b (inr (inl h)) (inr (inl k)) = binding_one name a b h k
  refusal_one name a b (inr (inl h)) (inr (inr k)) = absurd (binding_or_order name a b h k)
  refusal_one name a b (inr (inr h)) (inr (inl k)) = absurd (binding_or_order name b a k h)
  refusal_one name a b (inr (inr h)) (inr (inr k)) = order_one name a b h k
