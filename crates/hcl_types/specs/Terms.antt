-- The value of a term, and the names in it (CS:APP 3e, section 4.2.3 and the HCL guide).
use Rattle.std.specs.Prelude.{ℕ, Bool, not, if◌then◌else◌, List, [], ◌∷◌, ◌++◌, get_or, nat_eq}
use Rattle.std.specs.Int.{w64, cast_signed}
use Rattle.std.specs.Int.Signed.{lt_z}
use Rattle.hcl_tree.specs.declared.tree.CmpOp.{CmpOp}
use Rattle.hcl_tree.specs.declared.tree.CmpOp.TheVariants as op
use Rattle.hcl_types.specs.declared.term.Term.{Term}
use Rattle.hcl_types.specs.declared.term.TermBranch.{TermBranch}
use Rattle.hcl_types.specs.declared.term.Term.TheOpen.{Term-F, TermBranch-F}
use Rattle.hcl_types.specs.declared.term.Term.TheFolds.{fold-Term, fold-TermBranch}
use Rattle.hcl_types.specs.Lists.{each, some}

-- the meaning of numbers, truths and comparisons if values are of type A
pub record Interpretation (A : Type 0) : Type 0 where
  pub num : ℕ → A
  pub bool : Bool → A
  pub holds : A → Bool
  pub cmp : CmpOp → A → A → Bool

-- the value of the first branch whose guard holds
abbrev pub picked : {A : Type 0} → (A → Bool) → A → List (A × A) → A
picked holds none [] = none
picked holds none (branch ∷ branches) = if holds branch.0 then branch.1 else picked holds none branches

-- one layer of a term, with the values of its children in their places
abbrev pub layer : {A : Type 0} → Interpretation A → (ℕ → A) → Term-F A (A × A) → A
layer m env (Term-F.Num n) = m.num n
layer m env (Term-F.Name id) = env id
layer m env (Term-F.Not x) = m.bool (not (m.holds x))
layer m env (Term-F.And xs) = m.bool (each m.holds xs)
layer m env (Term-F.Or xs) = m.bool (some m.holds xs)
layer m env (Term-F.Cmp o x y) = m.bool (m.cmp o x y)
layer m env (Term-F.In x ys) = m.bool (some (m.cmp op.Eq x) ys)
layer m env (Term-F.Case branches) = picked m.holds (m.num 0) branches

abbrev pub pair : {A : Type 0} → TermBranch-F A (A × A) → A × A
pair branch = (branch.guard, branch.value)

-- the value of a term whose names have the values of env
abbrev pub value : {A : Type 0} → Interpretation A → (ℕ → A) → Term → A
value {A} m env = fold-Term A (A × A) (layer m env) pair

abbrev pub branch_value : {A : Type 0} → Interpretation A → (ℕ → A) → TermBranch → A × A
branch_value {A} m env = fold-TermBranch A (A × A) (layer m env) pair

-- whether one word is below another, both as signed numbers
abbrev pub signed_below : ℕ → ℕ → Bool
signed_below x y = lt_z (cast_signed w64 x) (cast_signed w64 y)

abbrev pub compare_words : CmpOp → ℕ → ℕ → Bool
compare_words op.Eq x y = nat_eq x y
compare_words op.Ne x y = not (nat_eq x y)
compare_words op.Lt x y = signed_below x y
compare_words op.Le x y = not (signed_below y x)
compare_words op.Gt x y = signed_below y x
compare_words op.Ge x y = not (signed_below x y)

-- words of 64 bits: a truth is 1 or 0, and every word but 0 counts as true
abbrev pub word_meaning : Interpretation ℕ
word_meaning = record {
  num = λ n. n;
  bool = λ b. if b then 1 else 0;
  holds = λ x. not (nat_eq x 0);
  cmp = compare_words;
}

-- a list of numbers as the values of names; a name past its end has the value 0
abbrev pub at : List ℕ → ℕ → ℕ
at vals id = get_or vals id 0

-- the names in a term, in text order, with repetitions
abbrev pub joined : List (List ℕ) → List ℕ
joined [] = []
joined (xs ∷ xss) = xs ++ joined xss

abbrev pub names_in_layer : Term-F (List ℕ) (List ℕ) → List ℕ
names_in_layer (Term-F.Num n) = []
names_in_layer (Term-F.Name id) = id ∷ []
names_in_layer (Term-F.Not xs) = xs
names_in_layer (Term-F.And xss) = joined xss
names_in_layer (Term-F.Or xss) = joined xss
names_in_layer (Term-F.Cmp o xs ys) = xs ++ ys
names_in_layer (Term-F.In xs yss) = xs ++ joined yss
names_in_layer (Term-F.Case branches) = joined branches

abbrev pub names_in_branch : TermBranch-F (List ℕ) (List ℕ) → List ℕ
names_in_branch branch = branch.guard ++ branch.value

abbrev pub names : Term → List ℕ
names = fold-Term (List ℕ) (List ℕ) names_in_layer names_in_branch

abbrev pub branch_names : TermBranch → List ℕ
branch_names = fold-TermBranch (List ℕ) (List ℕ) names_in_layer names_in_branch
