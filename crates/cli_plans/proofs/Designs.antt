-- The design of an HCL file, from the results of reading, binding and ordering.
use Rattle.std.proofs.Common.{◌≡◌, ◌≢◌, ◌∙◌, ◌<◌, ◌+◌, ℕ, List, [], ◌∷◌, ◌++◌, length, take, get_or, slice_get, unwrap_or, refl, sym, ap, inl, inr, Ok, Err, append_assoc, append-nil}
use Rattle.std.proofs.lemmas.List.{take_more}
use Rattle.hcl_read.specs.Read.{ReadsAs}
use Rattle.hcl_tree.specs.declared.tree.File.{File}
use Rattle.hcl_binding.specs.Binding.{bound}
use Rattle.hcl_types.specs.Equations.{needs_of}
use Rattle.hcl_types.specs.Tables.{needs, row_names}
use Rattle.hcl_binding.specs.declared.fault.BindFault.{BindFault}
use Rattle.hcl_binding.specs.declared.fault.BindWhy.TheVariants.{Memory as OutOfMemory}
use Rattle.hcl_types.specs.declared.table.Row.{Row}
use Rattle.hcl_types.specs.declared.term.Term.{Term}
use Rattle.hcl_order.specs.Dependence.{Depends, FirstCycle}
use Rattle.cli_plans.specs.declared.stop_reason.StopReason as code
use Rattle.hcl_design.specs.Designs.{IsDesign}
use Rattle.cli_plans.specs.Designs.{RefusesDesign, RefusesHcl}
use Rattle.cli_plans.specs.PlanFollowing.{RefusesWith}
use Rattle.cli_plans.specs.Lines.{bind_fault_line, blank_names, cycle_line, names_at}
use Rattle.cli_plans.specs.Plan.{refused}

pub unread : (name : List ℕ) (rows : List Row) (text : List ℕ) (stop : code.StopReason) →
    RefusesWith (RefusesHcl name text) stop → RefusesWith (RefusesDesign name rows text) stop
unread name rows text stop (inl memory) = inl memory
unread name rows text stop (inr said) = inr (said.0, inl said.1)

pub unbound : (name : List ℕ) (rows : List Row) (text : List ℕ) (file : File) (fault : BindFault) (stop : code.StopReason) → ReadsAs text file →
    (fault.why ≢ OutOfMemory → bound rows file.items ≡ Err fault) →
    RefusesWith (λ a. (fault.why ≢ OutOfMemory) × (a ≡ refused 5 (bind_fault_line name fault))) stop → RefusesWith (RefusesDesign name rows text) stop
unbound name rows text file fault stop reads binds (inl memory) = inl memory
unbound name rows text file fault stop reads binds (inr said) =
    inr (said.0, inr (inl (record { file = file; reads = reads; fault = fault; binds = binds said.1.0; told = said.1.1 })))

pub unordered : (name : List ℕ) (rows : List Row) (text : List ℕ) (file : File) (terms : List Term) (ids : List ℕ) (stop : code.StopReason) → ReadsAs text file →
    bound rows file.items ≡ Ok terms → FirstCycle (needs_of (needs rows terms)) ids →
    RefusesWith (λ a. a ≡ refused 5 (cycle_line name (names_at (row_names rows) ids))) stop → RefusesWith (RefusesDesign name rows text) stop
unordered name rows text file terms ids stop reads binds first (inl memory) = inl memory
unordered name rows text file terms ids stop reads binds first (inr said) =
    inr (said.0, inr (inr (record { file = file; reads = reads; terms = terms; binds = binds; cycle = ids; first = first; told = said.1 })))

pub ordered : (rows : List Row) (text : List ℕ) (file : File) (terms : List Term) → ReadsAs text file → bound rows file.items ≡ Ok terms →
    ((n : ℕ) → Depends (needs_of (needs rows terms)) n n → ⊥) → IsDesign rows text terms
ordered rows text file terms reads binds acyclic = record { file = file; reads = reads; design = record { binds = binds; acyclic = acyclic } }

-- ---- the names of rows

blank_append : (xs ys : List (List ℕ)) → blank_names (xs ++ ys) ≡ blank_names xs ++ blank_names ys
blank_append [] ys = refl
blank_append (x ∷ xs) ys = ap (λ text. (32 ∷ x) ++ text) (blank_append xs ys) ∙ sym (append_assoc (32 ∷ x) (blank_names xs) (blank_names ys))

names_append : (names : List (List ℕ)) (xs ys : List ℕ) → names_at names (xs ++ ys) ≡ names_at names xs ++ names_at names ys
names_append names [] ys = refl
names_append names (x ∷ xs) ys = ap (λ more. unwrap_or (slice_get names x) [] ∷ more) (names_append names xs ys)

-- another name
pub names_more : (names : List (List ℕ)) (ids : List ℕ) (i d : ℕ) (text old name : List ℕ) → i < length ids → old ≡ blank_names (names_at names (take i ids)) →
    names_at names (get_or ids i d ∷ []) ≡ name ∷ [] → text ≡ old ++ (32 ∷ name) → text ≡ blank_names (names_at names (take (i + 1) ids))
names_more names ids i d text old name inside so_far one more =
    more ∙ ap (λ front. front ++ (32 ∷ name)) so_far
    ∙ ap (λ rest. blank_names (names_at names (take i ids)) ++ rest) (sym (append-nil (32 ∷ name)) ∙ ap blank_names (sym one))
    ∙ sym (blank_append (names_at names (take i ids)) (names_at names (get_or ids i d ∷ [])))
    ∙ ap blank_names (sym (names_append names (take i ids) (get_or ids i d ∷ [])))
    ∙ ap (λ front. blank_names (names_at names front)) (sym (take_more ids i d inside))
