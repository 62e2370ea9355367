-- The grammar of HCL (CS:APP 3e, section 4.2, and the HCL guide), as a relation for each nonterminal: the tokens from
-- its first one on, the tree that is read, and the tokens after it. Each `{ .. }` of the grammar has a relation of its
-- own, the tail.
--
--     file = { item }
--     item = "quote" text | ("wordsig" | "intsig" | "boolsig") name text | ("word" | "int" | "bool") name "=" expr ";"
--     expr = and { "||" and }
--     and  = not { "&&" not }
--     not  = "!" not | rel
--     rel  = prim [ ("==" | "!=" | "<" | "<=" | ">" | ">=") prim | "in" "{" expr { "," expr } "}" ]
--     prim = number | name | "(" expr ")" | "[" case { case } "]"
--     case = expr ":" expr ";"
--
-- The limits on the depth of nesting and on numbers apply to each token except the last `free` ones.
use Rattle.std.specs.Prelude.{ℕ, suc, ◌≤◌, ◌⊎◌, List, [], ◌∷◌, length}
use Rattle.hcl_tree.specs.declared.tree.Kind.{Kind}
use Rattle.hcl_tree.specs.declared.tree.CmpOp.{CmpOp}
use Rattle.hcl_tree.specs.declared.tree.Expr.{Expr}
use Rattle.hcl_tree.specs.declared.tree.Expr.TheVariants as expr
use Rattle.hcl_tree.specs.declared.tree.Branch.{Branch}
use Rattle.hcl_tree.specs.declared.tree.Item.{Item}
use Rattle.hcl_tree.specs.declared.tree.Item.TheVariants as item
use Rattle.hcl_tree.specs.declared.tree.File.{File}
use Rattle.hcl_read.specs.declared.tokens.Token.{Token}
use Rattle.hcl_read.specs.declared.tokens.Token.TheVariants.{KeyQuote, KeySig, KeyDef, KeyIn, Ident, Number, Wide, Quoted, Assign, Semicolon, OrOr, AndAnd, Bang, Compare, OpenParen, CloseParen, OpenBrace, CloseBrace, OpenBracket, CloseBracket, Comma, Colon}

-- two or more operands are one node; a single operand is itself
abbrev pub or_of : List Expr → Expr
or_of [] = expr.Or []
or_of (e ∷ []) = e
or_of (e ∷ f ∷ es) = expr.Or (e ∷ f ∷ es)

abbrev pub and_of : List Expr → Expr
and_of [] = expr.And []
and_of (e ∷ []) = e
and_of (e ∷ f ∷ es) = expr.And (e ∷ f ∷ es)

abbrev pub branch : Expr → Expr → Branch
branch guard value = record { guard = guard; value = value }

-- at most 64 of `(`, `[`, `{` and `!` are open inside the first of these tokens, or it is one of the last `free`
abbrev pub Room : ℕ → ℕ → List Token → Type 0
Room free depth ts = (depth ≤ 64) ⊎ (length ts ≤ free)

mutual
  -- expr = and { "||" and }
  pub data IsExpr (free : ℕ) : ℕ → List Token → Expr → List Token → Type 0 where
    or_list : {depth : ℕ} {ts mid rest : List Token} {e : Expr} {es : List Expr} → IsAnd free depth ts e mid → OrTail free depth mid es rest → IsExpr free depth ts (or_of (e ∷ es)) rest

  pub data OrTail (free : ℕ) : ℕ → List Token → List Expr → List Token → Type 0 where
    no_or : {depth : ℕ} {ts : List Token} → OrTail free depth ts [] ts
    more_or : {depth : ℕ} {ts mid rest : List Token} {e : Expr} {es : List Expr} → IsAnd free depth ts e mid → OrTail free depth mid es rest → OrTail free depth (OrOr ∷ ts) (e ∷ es) rest

  -- and = not { "&&" not }
  pub data IsAnd (free : ℕ) : ℕ → List Token → Expr → List Token → Type 0 where
    and_list : {depth : ℕ} {ts mid rest : List Token} {e : Expr} {es : List Expr} → IsNot free depth ts e mid → AndTail free depth mid es rest → IsAnd free depth ts (and_of (e ∷ es)) rest

  pub data AndTail (free : ℕ) : ℕ → List Token → List Expr → List Token → Type 0 where
    no_and : {depth : ℕ} {ts : List Token} → AndTail free depth ts [] ts
    more_and : {depth : ℕ} {ts mid rest : List Token} {e : Expr} {es : List Expr} → IsNot free depth ts e mid → AndTail free depth mid es rest → AndTail free depth (AndAnd ∷ ts) (e ∷ es) rest

  -- not = "!" not | rel
  pub data IsNot (free : ℕ) : ℕ → List Token → Expr → List Token → Type 0 where
    negated : {depth : ℕ} {ts rest : List Token} {e : Expr} → Room free (suc depth) (Bang ∷ ts) → IsNot free (suc depth) ts e rest → IsNot free depth (Bang ∷ ts) (expr.Not e) rest
    plain : {depth : ℕ} {ts rest : List Token} {e : Expr} → IsRel free depth ts e rest → IsNot free depth ts e rest

  -- rel = prim [ op prim | "in" "{" expr { "," expr } "}" ]
  pub data IsRel (free : ℕ) : ℕ → List Token → Expr → List Token → Type 0 where
    alone : {depth : ℕ} {ts rest : List Token} {e : Expr} → IsPrim free depth ts e rest → IsRel free depth ts e rest
    compared : {depth : ℕ} {ts mid rest : List Token} {op : CmpOp} {left right : Expr} → IsPrim free depth ts left (Compare op ∷ mid) → IsPrim free depth mid right rest → IsRel free depth ts (expr.Cmp op left right) rest
    member : {depth : ℕ} {ts inside mid rest : List Token} {left e : Expr} {es : List Expr} → IsPrim free depth ts left (KeyIn ∷ OpenBrace ∷ inside) → Room free (suc depth) (OpenBrace ∷ inside) → IsExpr free (suc depth) inside e mid → SetTail free (suc depth) mid es (CloseBrace ∷ rest) → IsRel free depth ts (expr.In left (e ∷ es)) rest

  pub data SetTail (free : ℕ) : ℕ → List Token → List Expr → List Token → Type 0 where
    no_member : {depth : ℕ} {ts : List Token} → SetTail free depth ts [] ts
    more_members : {depth : ℕ} {ts mid rest : List Token} {e : Expr} {es : List Expr} → IsExpr free depth ts e mid → SetTail free depth mid es rest → SetTail free depth (Comma ∷ ts) (e ∷ es) rest

  -- prim = number | name | "(" expr ")" | "[" case { case } "]"
  pub data IsPrim (free : ℕ) : ℕ → List Token → Expr → List Token → Type 0 where
    a_number : {depth n : ℕ} {rest : List Token} → IsPrim free depth (Number n ∷ rest) (expr.Num n) rest
    a_wide_number : {depth : ℕ} {rest : List Token} → length (Wide ∷ rest) ≤ free → IsPrim free depth (Wide ∷ rest) (expr.Num 0) rest
    a_name : {depth : ℕ} {text : List ℕ} {rest : List Token} → IsPrim free depth (Ident text ∷ rest) (expr.Name text) rest
    group : {depth : ℕ} {ts rest : List Token} {e : Expr} → Room free (suc depth) (OpenParen ∷ ts) → IsExpr free (suc depth) ts e (CloseParen ∷ rest) → IsPrim free depth (OpenParen ∷ ts) e rest
    case_list : {depth : ℕ} {ts mid rest : List Token} {b : Branch} {bs : List Branch} → Room free (suc depth) (OpenBracket ∷ ts) → IsCase free (suc depth) ts b mid → CaseTail free (suc depth) mid bs (CloseBracket ∷ rest) → IsPrim free depth (OpenBracket ∷ ts) (expr.Case (b ∷ bs)) rest

  -- case = expr ":" expr ";"
  pub data IsCase (free : ℕ) : ℕ → List Token → Branch → List Token → Type 0 where
    guarded : {depth : ℕ} {ts mid rest : List Token} {guard value : Expr} → IsExpr free depth ts guard (Colon ∷ mid) → IsExpr free depth mid value (Semicolon ∷ rest) → IsCase free depth ts (branch guard value) rest

  pub data CaseTail (free : ℕ) : ℕ → List Token → List Branch → List Token → Type 0 where
    no_case : {depth : ℕ} {ts : List Token} → CaseTail free depth ts [] ts
    more_cases : {depth : ℕ} {ts mid rest : List Token} {b : Branch} {bs : List Branch} → IsCase free depth ts b mid → CaseTail free depth mid bs rest → CaseTail free depth ts (b ∷ bs) rest

-- item = "quote" text | ("wordsig" | ..) name text | ("word" | ..) name "=" expr ";"
pub data IsItem (free : ℕ) : List Token → Item → List Token → Type 0 where
  quoted : {text : List ℕ} {rest : List Token} → IsItem free (KeyQuote ∷ Quoted text ∷ rest) (item.Quote text) rest
  declared : {kind : Kind} {name text : List ℕ} {rest : List Token} → IsItem free (KeySig kind ∷ Ident name ∷ Quoted text ∷ rest) (item.Decl kind name text) rest
  defined : {kind : Kind} {name : List ℕ} {ts rest : List Token} {body : Expr} → IsExpr free 0 ts body (Semicolon ∷ rest) → IsItem free (KeyDef kind ∷ Ident name ∷ Assign ∷ ts) (item.Def kind name body) rest

-- file = { item }
pub data IsItems (free : ℕ) : List Token → List Item → Type 0 where
  no_item : IsItems free [] []
  more_items : {ts mid : List Token} {i : Item} {is : List Item} → IsItem free ts i mid → IsItems free mid is → IsItems free ts (i ∷ is)

abbrev pub IsFile : ℕ → List Token → File → Type 0
IsFile free ts f = IsItems free ts f.items
