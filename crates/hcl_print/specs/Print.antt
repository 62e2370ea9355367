-- The printed form of a file: one item a line, with parentheses in expressions only where the grammar needs them.
use Rattle.std.specs.Prelude.{ℕ, nat_lt, if◌then◌else◌, List, [], ◌∷◌, ◌++◌, codes}
use Rattle.y86_base.specs.Numeral.{signed_decimal}
use Rattle.hcl_tree.specs.declared.tree.Kind.{Kind}
use Rattle.hcl_tree.specs.declared.tree.Kind.TheVariants.{Word, Bool}
use Rattle.hcl_tree.specs.declared.tree.CmpOp.{CmpOp}
use Rattle.hcl_tree.specs.declared.tree.CmpOp.TheVariants.{Eq, Ne, Lt, Le, Gt, Ge}
use Rattle.hcl_tree.specs.declared.tree.Expr.{Expr}
use Rattle.hcl_tree.specs.declared.tree.Expr.TheOpen.{Expr-F, Branch-F}
use Rattle.hcl_tree.specs.declared.tree.Expr.TheFolds.{fold-Expr, fold-Branch}
use Rattle.hcl_tree.specs.declared.tree.Item.{Item}
use Rattle.hcl_tree.specs.declared.tree.Item.TheVariants.{Quote, Decl, Def}
use Rattle.hcl_tree.specs.declared.tree.Branch.{Branch}

-- The text of an expression, and its rank, that is, how tightly its operator binds: 0 an `||` list, 1 an `&&` list, 2 a
-- negation, 3 a comparison or `in`, 4 a number, a name or a case list.
pub record ShownTerm : Type 0 where
  pub rank : ℕ
  pub text : List ℕ

abbrev pub shown_as : ℕ → List ℕ → ShownTerm
shown_as rank text = record { rank = rank; text = text }

-- an expression in a place in which at least this rank needs no parentheses
unfoldable pub within : ℕ → ShownTerm → List ℕ
within least e = if nat_lt e.rank least then codes "(" ++ e.text ++ codes ")" else e.text

-- further members of a list, each with the separator in front
unfoldable pub further : List ℕ → ℕ → List ShownTerm → List ℕ
further separator least [] = []
further separator least (e ∷ es) = separator ++ within least e ++ further separator least es

-- the members of a list with the separator between them
unfoldable pub joined : List ℕ → ℕ → List ShownTerm → List ℕ
joined separator least [] = []
joined separator least (e ∷ es) = within least e ++ further separator least es

abbrev pub operator : CmpOp → List ℕ
operator Eq = codes " == "
operator Ne = codes " != "
operator Lt = codes " < "
operator Le = codes " <= "
operator Gt = codes " > "
operator Ge = codes " >= "

-- the branches of a case list, each with a blank after it
unfoldable pub branches : List (List ℕ) → List ℕ
branches [] = []
branches (b ∷ bs) = b ++ branches bs

-- one layer of an expression, with the printed form of each part in its place
abbrev pub layer : Expr-F ShownTerm (List ℕ) → ShownTerm
layer (Expr-F.Num n) = shown_as 4 (signed_decimal n)
layer (Expr-F.Name name) = shown_as 4 name
layer (Expr-F.Not e) = shown_as 2 (codes "!" ++ within 2 e)
layer (Expr-F.And es) = shown_as 1 (joined (codes " && ") 2 es)
layer (Expr-F.Or es) = shown_as 0 (joined (codes " || ") 1 es)
layer (Expr-F.Cmp op left right) = shown_as 3 (within 4 left ++ operator op ++ within 4 right)
layer (Expr-F.In left es) = shown_as 3 (within 4 left ++ codes " in { " ++ joined (codes ", ") 0 es ++ codes " }")
layer (Expr-F.Case bs) = shown_as 4 (codes "[ " ++ branches bs ++ codes "]")

abbrev pub branch_layer : Branch-F ShownTerm (List ℕ) → List ℕ
branch_layer b = b.guard.text ++ codes " : " ++ b.value.text ++ codes "; "

abbrev pub shown : Expr → ShownTerm
shown = fold-Expr ShownTerm (List ℕ) layer branch_layer

abbrev pub branch_text : Branch → List ℕ
branch_text = fold-Branch ShownTerm (List ℕ) layer branch_layer

abbrev pub signal_word : Kind → List ℕ
signal_word Word = codes "wordsig "
signal_word Bool = codes "boolsig "

abbrev pub kind_word : Kind → List ℕ
kind_word Word = codes "word "
kind_word Bool = codes "bool "

-- the line of an item
unfoldable pub item_text : Item → List ℕ
item_text (Quote text) = codes "quote '" ++ text ++ codes "'\n"
item_text (Decl kind name text) = signal_word kind ++ name ++ codes " '" ++ text ++ codes "'\n"
item_text (Def kind name body) = kind_word kind ++ name ++ codes " = " ++ (shown body).text ++ codes ";\n"

unfoldable pub printed : List Item → List ℕ
printed [] = []
printed (i ∷ is) = item_text i ++ printed is
