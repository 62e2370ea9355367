-- The printed form of an expression, variant by variant.
use Rattle.std.proofs.Common.{◌≡◌, ap, sym, ◌∙◌, ℕ, List, ◌++◌, map, codes}
use Rattle.hcl_tree.specs.declared.tree.CmpOp.{CmpOp}
use Rattle.hcl_tree.specs.declared.tree.Branch.{Branch, fold_out-Branch}
use Rattle.hcl_tree.specs.declared.tree.Expr.{Expr, Expr-F, fold-roll-Expr}
use Rattle.hcl_tree.specs.declared.tree.Expr.TheVariants.{Num, Name, Not, And, Or, Cmp, In, Case, rolls-Num, rolls-Name, rolls-Not, rolls-And, rolls-Or, rolls-Cmp, rolls-In, rolls-Case}
use Rattle.hcl_read.specs.Grammar.{branch}
use Rattle.y86_base.specs.Numeral.{signed_decimal}
use Rattle.hcl_print.specs.Print.{ShownTerm, shown_as, within, joined, operator, branches, layer, branch_layer, shown, branch_text}

pub shown_Num : (n : ℕ) → shown (Num n) ≡ shown_as 4 (signed_decimal n)
shown_Num n = ap shown (sym (rolls-Num n)) ∙ fold-roll-Expr ShownTerm (List ℕ) layer branch_layer (Expr-F.Num n)

pub shown_Name : (name : List ℕ) → shown (Name name) ≡ shown_as 4 name
shown_Name name = ap shown (sym (rolls-Name name)) ∙ fold-roll-Expr ShownTerm (List ℕ) layer branch_layer (Expr-F.Name name)

pub shown_Not : (e : Expr) → shown (Not e) ≡ shown_as 2 (codes "!" ++ within 2 (shown e))
shown_Not e = ap shown (sym (rolls-Not e)) ∙ fold-roll-Expr ShownTerm (List ℕ) layer branch_layer (Expr-F.Not e)

pub shown_And : (es : List Expr) → shown (And es) ≡ shown_as 1 (joined (codes " && ") 2 (map shown es))
shown_And es = ap shown (sym (rolls-And es)) ∙ fold-roll-Expr ShownTerm (List ℕ) layer branch_layer (Expr-F.And es)

pub shown_Or : (es : List Expr) → shown (Or es) ≡ shown_as 0 (joined (codes " || ") 1 (map shown es))
shown_Or es = ap shown (sym (rolls-Or es)) ∙ fold-roll-Expr ShownTerm (List ℕ) layer branch_layer (Expr-F.Or es)

pub shown_Cmp : (op : CmpOp) (left right : Expr) → shown (Cmp op left right) ≡ shown_as 3 (within 4 (shown left) ++ operator op ++ within 4 (shown right))
shown_Cmp op left right = ap shown (sym (rolls-Cmp op left right)) ∙ fold-roll-Expr ShownTerm (List ℕ) layer branch_layer (Expr-F.Cmp op left right)

pub shown_In : (left : Expr) (es : List Expr) → shown (In left es) ≡ shown_as 3 (within 4 (shown left) ++ codes " in { " ++ joined (codes ", ") 0 (map shown es) ++ codes " }")
shown_In left es = ap shown (sym (rolls-In left es)) ∙ fold-roll-Expr ShownTerm (List ℕ) layer branch_layer (Expr-F.In left es)

pub shown_Case : (bs : List Branch) → shown (Case bs) ≡ shown_as 4 (codes "[ " ++ branches (map branch_text bs) ++ codes "]")
shown_Case bs = ap shown (sym (rolls-Case bs)) ∙ fold-roll-Expr ShownTerm (List ℕ) layer branch_layer (Expr-F.Case bs)

pub shown_branch : (guard value : Expr) → branch_text (branch guard value) ≡ (shown guard).text ++ codes " : " ++ (shown value).text ++ codes "; "
shown_branch guard value = fold_out-Branch ShownTerm (List ℕ) layer branch_layer (branch guard value)
