-- The tokens of a file's printed form, put in front of others.
use Rattle.std.proofs.Common.{◌≡◌, ap, sym, ◌∙◌, ℕ, List, [], ◌∷◌, map, nat_lt}
use Rattle.std.specs.Prelude.{if◌then◌else◌}
use Rattle.hcl_tree.specs.declared.tree.CmpOp.{CmpOp}
use Rattle.hcl_tree.specs.declared.tree.Branch.{Branch}
use Rattle.hcl_tree.specs.declared.tree.Expr.{Expr, Expr-F, fold-roll-Expr}
use Rattle.hcl_tree.specs.declared.tree.Expr.TheOpen.{Branch-F}
use Rattle.hcl_tree.specs.declared.tree.Expr.TheFolds.{fold-Expr, fold-Branch}
use Rattle.hcl_tree.specs.declared.tree.Expr.TheVariants.{Num, Name, Not, And, Or, Cmp, In, Case, rolls-Num, rolls-Name, rolls-Not, rolls-And, rolls-Or, rolls-Cmp, rolls-In, rolls-Case}
use Rattle.hcl_tree.specs.declared.tree.Item.{Item}
use Rattle.hcl_tree.specs.declared.tree.Item.TheVariants as item
use Rattle.hcl_read.specs.declared.tokens.Token.{Token}
use Rattle.hcl_read.specs.declared.tokens.Token.TheVariants.{KeyQuote, KeySig, KeyDef, KeyIn, Ident, Number, Quoted, Assign, Semicolon, OrOr, AndAnd, Bang, Compare, OpenParen, CloseParen, OpenBrace, CloseBrace, OpenBracket, CloseBracket, Comma, Colon}

-- the rank of an expression, and its tokens in front of others
pub record Said : Type 0 where
  pub rank : ℕ
  pub put : List Token → List Token

abbrev pub said_as : ℕ → (List Token → List Token) → Said
said_as rank put = record { rank = rank; put = put }

unfoldable pub put_within : ℕ → Said → List Token → List Token
put_within least e rest = if nat_lt e.rank least then OpenParen ∷ e.put (CloseParen ∷ rest) else e.put rest

unfoldable pub put_further : Token → ℕ → List Said → List Token → List Token
put_further separator least [] rest = rest
put_further separator least (e ∷ es) rest = separator ∷ put_within least e (put_further separator least es rest)

unfoldable pub put_joined : Token → ℕ → List Said → List Token → List Token
put_joined separator least [] rest = rest
put_joined separator least (e ∷ es) rest = put_within least e (put_further separator least es rest)

unfoldable pub put_branches : List (List Token → List Token) → List Token → List Token
put_branches [] rest = rest
put_branches (b ∷ bs) rest = b (put_branches bs rest)

abbrev pub said_layer : Expr-F Said (List Token → List Token) → Said
said_layer (Expr-F.Num n) = said_as 4 (λ rest. Number n ∷ rest)
said_layer (Expr-F.Name name) = said_as 4 (λ rest. Ident name ∷ rest)
said_layer (Expr-F.Not e) = said_as 2 (λ rest. Bang ∷ put_within 2 e rest)
said_layer (Expr-F.And es) = said_as 1 (put_joined AndAnd 2 es)
said_layer (Expr-F.Or es) = said_as 0 (put_joined OrOr 1 es)
said_layer (Expr-F.Cmp op left right) = said_as 3 (λ rest. put_within 4 left (Compare op ∷ put_within 4 right rest))
said_layer (Expr-F.In left es) = said_as 3 (λ rest. put_within 4 left (KeyIn ∷ OpenBrace ∷ put_joined Comma 0 es (CloseBrace ∷ rest)))
said_layer (Expr-F.Case bs) = said_as 4 (λ rest. OpenBracket ∷ put_branches bs (CloseBracket ∷ rest))

abbrev pub branch_layer : Branch-F Said (List Token → List Token) → List Token → List Token
branch_layer b rest = b.guard.put (Colon ∷ b.value.put (Semicolon ∷ rest))

abbrev pub said : Expr → Said
said = fold-Expr Said (List Token → List Token) said_layer branch_layer

abbrev pub said_branch : Branch → List Token → List Token
said_branch = fold-Branch Said (List Token → List Token) said_layer branch_layer

pub said_Num : (n : ℕ) → said (Num n) ≡ said_as 4 (λ rest. Number n ∷ rest)
said_Num n = ap said (sym (rolls-Num n)) ∙ fold-roll-Expr Said (List Token → List Token) said_layer branch_layer (Expr-F.Num n)

pub said_Name : (name : List ℕ) → said (Name name) ≡ said_as 4 (λ rest. Ident name ∷ rest)
said_Name name = ap said (sym (rolls-Name name)) ∙ fold-roll-Expr Said (List Token → List Token) said_layer branch_layer (Expr-F.Name name)

pub said_Not : (e : Expr) → said (Not e) ≡ said_as 2 (λ rest. Bang ∷ put_within 2 (said e) rest)
said_Not e = ap said (sym (rolls-Not e)) ∙ fold-roll-Expr Said (List Token → List Token) said_layer branch_layer (Expr-F.Not e)

pub said_And : (es : List Expr) → said (And es) ≡ said_as 1 (put_joined AndAnd 2 (map said es))
said_And es = ap said (sym (rolls-And es)) ∙ fold-roll-Expr Said (List Token → List Token) said_layer branch_layer (Expr-F.And es)

pub said_Or : (es : List Expr) → said (Or es) ≡ said_as 0 (put_joined OrOr 1 (map said es))
said_Or es = ap said (sym (rolls-Or es)) ∙ fold-roll-Expr Said (List Token → List Token) said_layer branch_layer (Expr-F.Or es)

pub said_Cmp : (op : CmpOp) (left right : Expr) → said (Cmp op left right) ≡ said_as 3 (λ rest. put_within 4 (said left) (Compare op ∷ put_within 4 (said right) rest))
said_Cmp op left right = ap said (sym (rolls-Cmp op left right)) ∙ fold-roll-Expr Said (List Token → List Token) said_layer branch_layer (Expr-F.Cmp op left right)

pub said_In : (left : Expr) (es : List Expr) → said (In left es) ≡ said_as 3 (λ rest. put_within 4 (said left) (KeyIn ∷ OpenBrace ∷ put_joined Comma 0 (map said es) (CloseBrace ∷ rest)))
said_In left es = ap said (sym (rolls-In left es)) ∙ fold-roll-Expr Said (List Token → List Token) said_layer branch_layer (Expr-F.In left es)

pub said_Case : (bs : List Branch) → said (Case bs) ≡ said_as 4 (λ rest. OpenBracket ∷ put_branches (map said_branch bs) (CloseBracket ∷ rest))
said_Case bs = ap said (sym (rolls-Case bs)) ∙ fold-roll-Expr Said (List Token → List Token) said_layer branch_layer (Expr-F.Case bs)

-- the tokens of an item, and of items
abbrev pub put_item : Item → List Token → List Token
put_item (item.Quote text) rest = KeyQuote ∷ Quoted text ∷ rest
put_item (item.Decl kind name text) rest = KeySig kind ∷ Ident name ∷ Quoted text ∷ rest
put_item (item.Def kind name body) rest = KeyDef kind ∷ Ident name ∷ Assign ∷ (said body).put (Semicolon ∷ rest)

unfoldable pub put_items : List Item → List Token
put_items [] = []
put_items (i ∷ is) = put_item i (put_items is)
