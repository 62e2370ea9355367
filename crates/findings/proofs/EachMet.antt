-- Lists of requirements that are met one by one.
use Rattle.std.proofs.Common.{◌≡◌, ℕ, Bool, true, false, not, ◌&&◌, ◌||◌, List, [], ◌∷◌, ◌++◌, map, Option, Some, None, if◌then◌else◌, refl, sym, ap, ◌∙◌, subst}
use Rattle.std.proofs.Math.Bool.{and_assoc}
use Rattle.hcl_types.specs.Lists.{IsApart, each}
use Rattle.hcl_types.specs.Tables.{IsOrderOf}
use Rattle.hcl_types.specs.declared.table.Row.{Row}
use Rattle.hcl_types.specs.declared.term.Term.{Term}
use Rattle.ctl_atoms.specs.declared.leaf.Leaf.{Leaf}
use Rattle.ctl_atoms.specs.declared.leaf.Atom.{Atom}
use Rattle.ctl_atoms.specs.Atoms.{AreAtoms}
use Rattle.ctl_atoms.specs.Leaves.{Assignment, AtomsAre}
use Rattle.ctl_atoms.proofs.Listed.{apart}
use Rattle.ctl_atoms.proofs.Solved.{leaves_exist}
use Rattle.control_values.specs.Given.{assigned}
use Rattle.control_values.proofs.AtomsGiven.{given_atoms}
use Rattle.ctl_rules.specs.ColumnDemands.{picks_leaf, picks_some_leaf}
use Rattle.findings.specs.declared.requirement.Requirement.{Requirement}
use Rattle.findings.specs.Requirements.{is_met, some_word, only_if, unless}
use Rattle.findings.specs.Findings.{are_right, finding}

pub one : (a : Bool) → a ≡ (a && true)
one true = refl
one false = refl

pub two : (a b : Bool) → (a && b) ≡ (a && (b && true))
two true b = one b
two false b = refl

pub if_both : (f : Requirement → Bool) (b x y : Bool) (xs ys : List Requirement) → x ≡ each f xs → y ≡ each f ys → (if b then x else y) ≡ each f (if b then xs else ys)
if_both f true x y xs ys p q = p
if_both f false x y xs ys p q = q

pub guarded : (f : Requirement → Bool) (b x : Bool) (xs : List Requirement) → x ≡ each f xs → (not b || x) ≡ each f (only_if b xs)
guarded f true x xs p = p
guarded f false x xs p = refl

pub excused : (f : Requirement → Bool) (b x : Bool) (xs : List Requirement) → x ≡ each f xs → (b || x) ≡ each f (unless b xs)
excused f true x xs p = refl
excused f false x xs p = p

each_append : (f : Requirement → Bool) (xs ys : List Requirement) → each f xs && each f ys ≡ each f (xs ++ ys)
each_append f [] ys = refl
each_append f (x ∷ xs) ys = and_assoc (f x) (each f xs) (each f ys) ∙ ap (λ b. f x && b) (each_append f xs ys)

pub both : (f : Requirement → Bool) (x y : Bool) (xs ys : List Requirement) → x ≡ each f xs → y ≡ each f ys → (x && y) ≡ each f (xs ++ ys)
both f x y xs ys p q = rw (p, q) (each_append f xs ys)

pub some_is : (α : Assignment) (cv : ℕ → Leaf) (name : ℕ) (o : Option Leaf) → picks_some_leaf cv name o ≡ each (is_met α cv) (some_word name o)
some_is α cv name None = refl
some_is α cv name (Some leaf) = one (picks_leaf cv name leaf)

-- findings are right exactly if each requirement is met
pub findings_right : (defined : ℕ) (terms : List Term) (α : Assignment) (cv : ℕ → Leaf) (all : List Requirement) → are_right (map (finding defined terms α cv) all) ≡ each (is_met α cv) all
findings_right defined terms α cv [] = refl
findings_right defined terms α cv (x ∷ xs) = ap (λ b. is_met α cv x && b) (findings_right defined terms α cv xs)

-- an obligation that is false at a valuation at which it is demanded
pub demand_false : (b d : Bool) → (not b || d) ≡ false → d ≡ false
demand_false true d e = e
demand_false false d e = cc

-- a design's list has no atom twice, so bits give each its truth
pub atoms_given : (rows : List Row) (terms : List Term) (ids : List ℕ) (atoms : List Atom) (first : ℕ) (w : List Bool) → IsOrderOf rows terms ids → AreAtoms rows terms atoms → AtomsAre atoms first w (assigned atoms first w)
atoms_given rows terms ids atoms first w order are =
    let found = leaves_exist rows terms ids order in
    given_atoms atoms first w (subst IsApart (sym (are.are found.0 found.1)) (apart found.0 terms))
