-- What a state still requires, in terms of the grammar: the texts that lead from it to the items of a file.
use Rattle.std.proofs.Common.{◌≡◌, ◌+◌, ℕ, suc, List, [], ◌∷◌, ◌++◌}
use Rattle.hcl_tree.specs.declared.tree.Kind.{Kind}
use Rattle.hcl_tree.specs.declared.tree.CmpOp.{CmpOp}
use Rattle.hcl_tree.specs.declared.tree.Branch.{Branch}
use Rattle.hcl_tree.specs.declared.tree.Expr.{Expr}
use Rattle.hcl_tree.specs.declared.tree.Expr.TheVariants as expr
use Rattle.hcl_tree.specs.declared.tree.Item.{Item}
use Rattle.hcl_tree.specs.declared.tree.Item.TheVariants as item
use Rattle.hcl_read.specs.declared.tokens.Token.{Token}
use Rattle.hcl_read.specs.declared.tokens.Token.TheVariants.{KeyIn, Ident, Quoted, Assign, Semicolon, Compare, CloseParen, OpenBrace, CloseBrace, CloseBracket, Colon}
use Rattle.hcl_read.specs.declared.frames.Level.{Level}
use Rattle.hcl_read.specs.declared.frames.OperandSide.{OperandSide}
use Rattle.hcl_read.specs.declared.frames.OperandSide.TheVariants.{Left, Right}
use Rattle.hcl_read.specs.declared.frames.Frame.{Frame}
use Rattle.hcl_read.specs.declared.frames.Frame.TheVariants.{Paren, Set, Guard, Value}
use Rattle.hcl_read.specs.declared.frames.ExprState.{ExprState}
use Rattle.hcl_read.specs.declared.frames.ExprState.TheVariants.{Want, WantRight, AfterPrim, After, WantSet, Cases}
use Rattle.hcl_read.specs.declared.state.ItemState.{ItemState}
use Rattle.hcl_read.specs.declared.state.ItemState.TheVariants.{Between, WantQuote, WantSignal, WantSignalText, WantName, WantAssign, Body}
use Rattle.hcl_read.specs.declared.state.ReaderState.{ReaderState}
use Rattle.hcl_read.specs.Grammar.{or_of, and_of, branch, Room, IsExpr, OrTail, AndTail, IsNot, IsRel, SetTail, IsPrim, CaseTail, IsItems, alone, compared, member}
use Rattle.hcl_read.specs.Depth.{depth_of}
use Rattle.hcl_read.specs.Machine.{negate}

-- what may follow the left operand of a comparison, up to its end
pub data RelTail (free : ℕ) (depth : ℕ) (left : Expr) : List Token → Expr → List Token → Type 0 where
  no_operator : {ts : List Token} → RelTail free depth left ts left ts
  operator : {op : CmpOp} {right : Expr} {ts rest : List Token} → IsPrim free depth ts right rest → RelTail free depth left (Compare op ∷ ts) (expr.Cmp op left right) rest
  members : {e : Expr} {es : List Expr} {ts mid rest : List Token} → Room free (suc depth) (OpenBrace ∷ ts) → IsExpr free (suc depth) ts e mid → SetTail free (suc depth) mid es (CloseBrace ∷ rest)
      → RelTail free depth left (KeyIn ∷ OpenBrace ∷ ts) (expr.In left (e ∷ es)) rest

pub rel_of : {free depth : ℕ} {left e : Expr} {ts mid rest : List Token} → IsPrim free depth ts left mid → RelTail free depth left mid e rest → IsRel free depth ts e rest
rel_of h no_operator = alone h
rel_of h (operator r) = compared h r
rel_of h (members room e t) = member h room e t

-- what is required of the text after an expression
abbrev pub Behind : Type 1
Behind = Expr → List Token → Type 0

module _ (free : ℕ) where
  -- after an operand of `&&` on a level; `behind` is required after the level
  abbrev pub AfterIn : ℕ → Behind → List Expr → List Expr → List Token → Type 0
  AfterIn d behind ands ors ts =
      (es : List Expr) × (os : List Expr) × (mid : List Token) × (rest : List Token) × AndTail free d ts es mid × OrTail free d mid os rest
      × behind (or_of (ors ++ and_of (ands ++ es) ∷ os)) rest

  abbrev pub RelIn : ℕ → Behind → Level → Behind
  RelIn d behind l e ts = AfterIn d behind (l.ands ++ negate l.nots e ∷ []) l.ors ts

  -- after an operand of a comparison
  abbrev pub PutIn : ℕ → Behind → OperandSide → Level → Behind
  PutIn d behind Left l e ts = (x : Expr) × (rest : List Token) × RelTail free (l.nots + d) e ts x rest × RelIn d behind l x rest
  PutIn d behind (Right op left) l e ts = RelIn d behind l (expr.Cmp op left e) ts

  -- after an expression in a bracket
  abbrev pub Inside : Frame → ℕ → Behind → Behind
  Inside (Paren side l) d behind e ts = (rest : List Token) × (ts ≡ CloseParen ∷ rest) × PutIn d behind side l e rest
  Inside (Set left es l) d behind e ts = (more : List Expr) × (rest : List Token) × SetTail free (suc (l.nots + d)) ts more (CloseBrace ∷ rest) × RelIn d behind l (expr.In left ((es ++ e ∷ []) ++ more)) rest
  Inside (Guard side bs l) d behind e ts =
      (mid : List Token) × (value : Expr) × (end : List Token) × (more : List Branch) × (rest : List Token) × (ts ≡ Colon ∷ mid) × IsExpr free (suc (l.nots + d)) mid value (Semicolon ∷ end)
      × CaseTail free (suc (l.nots + d)) end more (CloseBracket ∷ rest) × PutIn d behind side l (expr.Case ((bs ++ branch e value ∷ []) ++ more)) rest
  Inside (Value side bs guard l) d behind e ts =
      (end : List Token) × (more : List Branch) × (rest : List Token) × (ts ≡ Semicolon ∷ end)
      × CaseTail free (suc (l.nots + d)) end more (CloseBracket ∷ rest) × PutIn d behind side l (expr.Case ((bs ++ branch guard e ∷ []) ++ more)) rest

  -- after an expression inside open brackets
  unfoldable pub Closed : Behind → List Frame → Behind
  Closed bottom [] = bottom
  Closed bottom (f ∷ k) = Inside f (depth_of k) (Closed bottom k)

  -- what a state in a body requires
  unfoldable pub MeansSpot : Behind → ExprState → List Frame → List Token → Type 0
  MeansSpot bottom (Want l) k ts = (e : Expr) × (rest : List Token) × IsNot free (l.nots + depth_of k) ts e rest × RelIn (depth_of k) (Closed bottom k) l e rest
  MeansSpot bottom (WantRight op left l) k ts = (e : Expr) × (rest : List Token) × IsPrim free (l.nots + depth_of k) ts e rest × RelIn (depth_of k) (Closed bottom k) l (expr.Cmp op left e) rest
  MeansSpot bottom (AfterPrim e l) k ts = PutIn (depth_of k) (Closed bottom k) Left l e ts
  MeansSpot bottom (After ands ors) k ts = AfterIn (depth_of k) (Closed bottom k) ands ors ts
  MeansSpot bottom (WantSet left l) k ts =
      (inside : List Token) × (e : Expr) × (mid : List Token) × (es : List Expr) × (rest : List Token) × (ts ≡ OpenBrace ∷ inside) × Room free (suc (l.nots + depth_of k)) ts
      × IsExpr free (suc (l.nots + depth_of k)) inside e mid × SetTail free (suc (l.nots + depth_of k)) mid es (CloseBrace ∷ rest) × RelIn (depth_of k) (Closed bottom k) l (expr.In left (e ∷ es)) rest
  MeansSpot bottom (Cases side bs l) k ts =
      (more : List Branch) × (rest : List Token) × CaseTail free (suc (l.nots + depth_of k)) ts more (CloseBracket ∷ rest) × PutIn (depth_of k) (Closed bottom k) side l (expr.Case (bs ++ more)) rest

  -- the items read so far, followed by those of a text, are those of the file
  abbrev pub Rest : List Item → List Item → List Token → Type 0
  Rest file items ts = (is : List Item) × IsItems free ts is × (file ≡ items ++ is)

  -- after a definition's body
  abbrev pub Bottom : List Item → List Item → Kind → List ℕ → Behind
  Bottom file items kind name e ts = (rest : List Token) × (ts ≡ Semicolon ∷ rest) × Rest file (items ++ item.Def kind name e ∷ []) rest

  unfoldable pub MeansPlace : List Item → List Item → ItemState → List Token → Type 0
  MeansPlace file items Between ts = Rest file items ts
  MeansPlace file items WantQuote ts = (text : List ℕ) × (rest : List Token) × (ts ≡ Quoted text ∷ rest) × Rest file (items ++ item.Quote text ∷ []) rest
  MeansPlace file items (WantSignal kind) ts = (name : List ℕ) × (text : List ℕ) × (rest : List Token) × (ts ≡ Ident name ∷ Quoted text ∷ rest) × Rest file (items ++ item.Decl kind name text ∷ []) rest
  MeansPlace file items (WantSignalText kind name) ts = (text : List ℕ) × (rest : List Token) × (ts ≡ Quoted text ∷ rest) × Rest file (items ++ item.Decl kind name text ∷ []) rest
  MeansPlace file items (WantName kind) ts = (name : List ℕ) × (e : Expr) × (body : List Token) × (rest : List Token) × (ts ≡ Ident name ∷ Assign ∷ body) × IsExpr free 0 body e rest × Bottom file items kind name e rest
  MeansPlace file items (WantAssign kind name) ts = (e : Expr) × (body : List Token) × (rest : List Token) × (ts ≡ Assign ∷ body) × IsExpr free 0 body e rest × Bottom file items kind name e rest
  MeansPlace file items (Body kind name spot k) ts = MeansSpot (Bottom file items kind name) spot k ts

  abbrev pub Means : List Item → ReaderState → List Token → Type 0
  Means file s ts = MeansPlace file s.items s.place ts
