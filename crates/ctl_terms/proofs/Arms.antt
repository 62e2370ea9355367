-- What a term needs, variant by variant, and the steps of loops over terms.
use Rattle.std.proofs.Common.{rules, ◌≡◌, Bool, true, false, not, ◌||◌, ◌&&◌, refl, sym, ap, ◌∙◌, subst, List, [], ◌∷◌, ℕ, ◌<◌, ◌≤◌, ◌+◌, length, get_or, drop, map, if◌then◌else◌}
use Rattle.std.proofs.lemmas.Bool.{and_right}
use Rattle.std.proofs.lemmas.List.{at_drop_all, drop_more}
use Rattle.std.proofs.Math.Bool.{or-false, and-true, and_comm}
use Rattle.hcl_tree.specs.declared.tree.CmpOp.{CmpOp}
use Rattle.hcl_types.specs.declared.term.TermBranch.{TermBranch, fold_out-TermBranch}
use Rattle.hcl_types.specs.declared.term.TermBranch as bs
use Rattle.hcl_types.specs.Terms.{layer, pair}
use Rattle.hcl_types.specs.declared.term.Term.{Term, Term-F, fold-roll-Term}
use Rattle.hcl_types.specs.declared.term.Term.TheVariants.{Cmp, In, rolls-Cmp, rolls-In}
use Rattle.ctl_atoms.specs.declared.leaf.Leaf.{Leaf}
use Rattle.ctl_atoms.specs.declared.leaf.Leaf.TheVariants.{Number}
use Rattle.ctl_atoms.specs.declared.leaf.Atom.{Atom}
use Rattle.ctl_picks.specs.declared.controls.Entry.{Entry}
use Rattle.ctl_atoms.specs.Leaves.{Assignment, leaf_holds, leaf_eq}
use Rattle.ctl_terms.specs.Translatable.{Translatable, translatable, branch_ready, ready_layer, ready_pair, members, case_leaves}
use Rattle.ctl_terms.specs.Pairs.{leaves_listed}
use Rattle.ctl_atoms.specs.TermAtoms.{joined}
use Rattle.hcl_types.specs.Terms.{Interpretation, value, branch_value}

module _ (es : List Entry) (atoms : List Atom) where
  pub ready_Cmp : (o : CmpOp) (x y : Term) → (translatable es atoms (Cmp o x y)).truth ≡ (translatable es atoms x).word && ((translatable es atoms y).word && leaves_listed atoms o (translatable es atoms x).leaves (translatable es atoms y).leaves)
  ready_Cmp o x y = ap (λ (p : Translatable). p.truth) (ap (translatable es atoms) (sym (rolls-Cmp o x y)) ∙ fold-roll-Term Translatable (Translatable × Translatable) (ready_layer es atoms) ready_pair (Term-F.Cmp o x y))

  pub ready_In : (x : Term) (all : List Term) → (translatable es atoms (In x all)).truth ≡ (translatable es atoms x).word && members atoms (translatable es atoms x).leaves (map (translatable es atoms) all)
  ready_In x all = ap (λ (p : Translatable). p.truth) (ap (translatable es atoms) (sym (rolls-In x all)) ∙ fold-roll-Term Translatable (Translatable × Translatable) (ready_layer es atoms) ready_pair (Term-F.In x all))

pub holds_bit : (α : Assignment) (b : Bool) → leaf_holds α (Number (if b then 1 else 0)) ≡ b
holds_bit α true = refl
holds_bit α false = refl

pub item_has : {A : Type 0} (P : List A → Type 0) (xs : List A) (i : ℕ) (x : A) → i < length xs → x ≡ get_or xs i x → P (drop i xs) → P (x ∷ drop (i + 1) xs)
item_has {A} P xs i x h e p = subst P (drop_more xs i x h ∙ ap (λ (y : A). y ∷ drop (i + 1) xs) (sym e)) p

pub and_end : {A : Type 0} (F : List A → Bool) (a whole : Bool) (xs : List A) (i : ℕ) → length xs ≤ i → F [] ≡ true → a && F (drop i xs) ≡ whole → a ≡ whole
and_end F a whole xs i h t e = sym (and-true a) ∙ (ap (λ b. a && b) (sym (at_drop_all F xs i h ∙ t)) ∙ e)

pub or_end : {A : Type 0} (F : List A → Bool) (a whole : Bool) (xs : List A) (i : ℕ) → length xs ≤ i → F [] ≡ false → a || F (drop i xs) ≡ whole → a ≡ whole
or_end F a whole xs i h t e = sym (or-false a) ∙ (ap (λ b. a || b) (sym (at_drop_all F xs i h ∙ t)) ∙ e)

-- at the end of a case list the number 0 is picked if no branch was taken
pub case_end : (t o k t' w : Bool) → t' ≡ t || (k && o) → t || (o && k) ≡ w → t' ≡ w
case_end t o k t' w p q = p ∙ (ap (λ b. t || b) (and_comm k o) ∙ q)

-- after a guard that is true, no further branch is taken
pub case_shut : (t o k w : Bool) → o ≡ false → t || (o && k) ≡ w → t ≡ w
case_shut t o k w p q = sym (or-false t) ∙ (ap (λ b. t || (b && k)) (sym p) ∙ q)

spread : (c : Bool) (x r y : Leaf) → leaf_eq (if c then x else r) y ≡ (if c then leaf_eq x y else leaf_eq r y)
spread true x r y = refl
spread false x r y = refl

plain : (t o c k r : Bool) → (t || ((o && c) && k)) || ((o && not c) && r) ≡ t || (o && (if c then k else r))
plain true o c k r = refl
plain false true true true r = refl
plain false true true false r = refl
plain false true false k r = refl
plain false false c k r = refl

pub case_step : (t o c : Bool) (x r y : Leaf) → (t || ((o && c) && leaf_eq x y)) || ((o && not c) && leaf_eq r y) ≡ t || (o && leaf_eq (if c then x else r) y)
case_step t o c x r y = plain t o c (leaf_eq x y) (leaf_eq r y) ∙ ap (λ b. t || (o && b)) (sym (spread c x r y))

pub shut : (o c : Bool) → c ≡ true → o && not c ≡ false
shut o c h = ap (λ b. o && not b) h ∙ and_right o false refl

pub branch_is : {A : Type 0} (m : Interpretation A) (env : ℕ → A) (b : TermBranch) → branch_value m env b ≡ (value m env b.guard, value m env b.value)
branch_is {A} m env b = search (rules, bs.the_lemmas, fold_out-TermBranch A (A × A) (layer m env) pair b)

pub branch_ready_is : (es : List Entry) (atoms : List Atom) (b : TermBranch) → branch_ready es atoms b ≡ (translatable es atoms b.guard, translatable es atoms b.value)
branch_ready_is es atoms b = search (rules, bs.the_lemmas, fold_out-TermBranch Translatable (Translatable × Translatable) (ready_layer es atoms) ready_pair b)

pub leaves_step : (ls : List Leaf) (b : Translatable × Translatable) (g v : Translatable) (rest : List (Translatable × Translatable)) → b ≡ (g, v) → g.one ≡ false
    → case_leaves (joined ls v.leaves) rest ≡ case_leaves ls (b ∷ rest)
leaves_step ls b g v rest e h =
    sym (ap (λ (p : Translatable × Translatable). case_leaves ls (p ∷ rest)) e ∙ ap (λ o. if o then joined ls v.leaves else case_leaves (joined ls v.leaves) rest) h)

pub leaves_one : (ls : List Leaf) (b : Translatable × Translatable) (g v : Translatable) (rest : List (Translatable × Translatable)) → b ≡ (g, v) → g.one ≡ true
    → joined ls v.leaves ≡ case_leaves ls (b ∷ rest)
leaves_one ls b g v rest e h =
    sym (ap (λ (p : Translatable × Translatable). case_leaves ls (p ∷ rest)) e ∙ ap (λ o. if o then joined ls v.leaves else case_leaves (joined ls v.leaves) rest) h)
