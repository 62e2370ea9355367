-- Every state can be led to a file: by a `0`, then by what closes the open brackets.
use Rattle.std.proofs.Common.{◌≤◌, sym, ℕ, List, [], ◌∷◌, ◌++◌, length, refl, inr, append-nil}
use Rattle.hcl_tree.specs.declared.tree.Expr.{Expr}
use Rattle.hcl_tree.specs.declared.tree.Expr.TheVariants as expr
use Rattle.hcl_tree.specs.declared.tree.Item.{Item}
use Rattle.hcl_tree.specs.declared.tree.Item.TheVariants as item
use Rattle.hcl_read.specs.declared.tokens.Token.{Token}
use Rattle.hcl_read.specs.declared.tokens.Token.TheVariants.{Ident, Number, Quoted, Assign, Semicolon, CloseParen, OpenBrace, CloseBrace, CloseBracket, Colon}
use Rattle.hcl_read.specs.declared.frames.Level.{Level}
use Rattle.hcl_read.specs.declared.frames.OperandSide.{OperandSide}
use Rattle.hcl_read.specs.declared.frames.OperandSide.TheVariants.{Left, Right}
use Rattle.hcl_read.specs.declared.frames.Frame.{Frame}
use Rattle.hcl_read.specs.declared.frames.Frame.TheVariants.{Paren, Set, Guard, Value}
use Rattle.hcl_read.specs.declared.frames.ExprState.{ExprState}
use Rattle.hcl_read.specs.declared.frames.ExprState.TheVariants.{Want, WantRight, AfterPrim, After, WantSet, Cases}
use Rattle.hcl_read.specs.declared.state.ItemState.{ItemState}
use Rattle.hcl_read.specs.declared.state.ItemState.TheVariants.{Between, WantQuote, WantSignal, WantSignalText, WantName, WantAssign, Body}
use Rattle.hcl_read.specs.declared.state.ReaderState.{ReaderState}
use Rattle.hcl_read.specs.Grammar.{or_of, and_of, branch, IsExpr, or_list, no_or, and_list, no_and, plain, alone, no_member, a_number, no_case, no_item}
use Rattle.hcl_read.specs.Depth.{depth_of}
use Rattle.hcl_read.specs.Machine.{negate}
use Rattle.std.proofs.Common.{le_of_lt}
use Rattle.hcl_read.proofs.Means.{no_operator, Behind, RelIn, PutIn, Inside, Closed, MeansSpot, Rest, Bottom, MeansPlace, Means}

-- some text leads there, at every place where the limits no longer bind
abbrev pub Lives : (List Item → ℕ → List Token → Type 0) → Type 0
Lives P = (tail : List Token) × (file : List Item) × ((free : ℕ) → length tail ≤ free → P file free tail)

zero_expr : {free d : ℕ} {rest : List Token} → IsExpr free d (Number 0 ∷ rest) (expr.Num 0) rest
zero_expr = or_list (and_list (plain (alone a_number)) no_and) no_or

module _ (bottom : List Item → ℕ → Behind) (ends : (e : Expr) → Lives (λ file free tail. bottom file free e tail)) where
  abbrev ClosedLives : List Frame → Expr → Type 0
  ClosedLives k e = Lives (λ file free tail. Closed free (bottom file free) k e tail)

  rel_lives : (k : List Frame) → ((e : Expr) → ClosedLives k e) → (l : Level) (e : Expr) → Lives (λ file free tail. RelIn free (depth_of k) (Closed free (bottom file free) k) l e tail)
  rel_lives k behind l e =
      let b = behind (or_of (l.ors ++ and_of ((l.ands ++ negate l.nots e ∷ []) ++ []) ∷ [])) in
      (b.0, b.1, λ free h. ([], [], b.0, b.0, no_and, no_or, b.2 free h))

  put_lives : (k : List Frame) → ((e : Expr) → ClosedLives k e) → (side : OperandSide) (l : Level) (e : Expr) → Lives (λ file free tail. PutIn free (depth_of k) (Closed free (bottom file free) k) side l e tail)
  put_lives k behind Left l e =
      let b = rel_lives k behind l e in
      (b.0, b.1, λ free h. (e, b.0, no_operator, b.2 free h))
  put_lives k behind (Right op left) l e = rel_lives k behind l (expr.Cmp op left e)

  frame_lives : (k : List Frame) → ((e : Expr) → ClosedLives k e) → (f : Frame) (e : Expr) → Lives (λ file free tail. Inside free f (depth_of k) (Closed free (bottom file free) k) e tail)
  frame_lives k behind (Paren side l) e =
      let b = put_lives k behind side l e in
      (CloseParen ∷ b.0, b.1, λ free h. (b.0, refl, b.2 free (le_of_lt h)))
  frame_lives k behind (Set left es l) e =
      let b = rel_lives k behind l (expr.In left ((es ++ e ∷ []) ++ [])) in
      (CloseBrace ∷ b.0, b.1, λ free h. ([], b.0, no_member, b.2 free (le_of_lt h)))
  frame_lives k behind (Guard side bs l) e =
      let b = put_lives k behind side l (expr.Case ((bs ++ branch e (expr.Num 0) ∷ []) ++ [])) in (
        Colon ∷ Number 0 ∷ Semicolon ∷ CloseBracket ∷ b.0,
        b.1,
        λ free h. (Number 0 ∷ Semicolon ∷ CloseBracket ∷ b.0, expr.Num 0, CloseBracket ∷ b.0, [], b.0, refl, zero_expr, no_case, b.2 free (le_of_lt (le_of_lt (le_of_lt (le_of_lt h))))),
      )
  frame_lives k behind (Value side bs guard l) e =
      let b = put_lives k behind side l (expr.Case ((bs ++ branch guard e ∷ []) ++ [])) in
      (Semicolon ∷ CloseBracket ∷ b.0, b.1, λ free h. (CloseBracket ∷ b.0, [], b.0, refl, no_case, b.2 free (le_of_lt (le_of_lt h))))

  closed_lives : (k : List Frame) (e : Expr) → ClosedLives k e
  unfolding Closed
  closed_lives [] e = ends e
  closed_lives (f ∷ k) e = frame_lives k (λ x. closed_lives k x) f e

  spot_lives : (spot : ExprState) (k : List Frame) → Lives (λ file free tail. MeansSpot free (bottom file free) spot k tail)
  unfolding MeansSpot
  spot_lives (Want l) k =
      let b = rel_lives k (λ x. closed_lives k x) l (expr.Num 0) in
      (Number 0 ∷ b.0, b.1, λ free h. (expr.Num 0, b.0, plain (alone a_number), b.2 free (le_of_lt h)))
  spot_lives (WantRight op left l) k =
      let b = rel_lives k (λ x. closed_lives k x) l (expr.Cmp op left (expr.Num 0)) in
      (Number 0 ∷ b.0, b.1, λ free h. (expr.Num 0, b.0, a_number, b.2 free (le_of_lt h)))
  spot_lives (AfterPrim e l) k = put_lives k (λ x. closed_lives k x) Left l e
  spot_lives (After ands ors) k =
      let b = closed_lives k (or_of (ors ++ and_of (ands ++ []) ∷ [])) in
      (b.0, b.1, λ free h. ([], [], b.0, b.0, no_and, no_or, b.2 free h))
  spot_lives (WantSet left l) k =
      let b = rel_lives k (λ x. closed_lives k x) l (expr.In left (expr.Num 0 ∷ [])) in (
        OpenBrace ∷ Number 0 ∷ CloseBrace ∷ b.0,
        b.1,
        λ free h. (Number 0 ∷ CloseBrace ∷ b.0, expr.Num 0, CloseBrace ∷ b.0, [], b.0, refl, inr h, zero_expr, no_member, b.2 free (le_of_lt (le_of_lt (le_of_lt h)))),
      )
  spot_lives (Cases side bs l) k =
      let b = put_lives k (λ x. closed_lives k x) side l (expr.Case (bs ++ [])) in
      (CloseBracket ∷ b.0, b.1, λ free h. ([], b.0, no_case, b.2 free (le_of_lt h)))

rest_lives : (free : ℕ) (items : List Item) → Rest free items items []
rest_lives free items = ([], no_item, sym (append-nil items))

place_lives : (items : List Item) (place : ItemState) → Lives (λ file free tail. MeansPlace free file items place tail)
unfolding MeansPlace
place_lives items Between = ([], items, λ free h. rest_lives free items)
place_lives items WantQuote = (Quoted [] ∷ [], items ++ item.Quote [] ∷ [], λ free h. ([], [], refl, rest_lives free _))
place_lives items (WantSignal kind) = (Ident [] ∷ Quoted [] ∷ [], items ++ item.Decl kind [] [] ∷ [], λ free h. ([], [], [], refl, rest_lives free _))
place_lives items (WantSignalText kind name) = (Quoted [] ∷ [], items ++ item.Decl kind name [] ∷ [], λ free h. ([], [], refl, rest_lives free _))
place_lives items (WantName kind) =
    (Ident [] ∷ Assign ∷ Number 0 ∷ Semicolon ∷ [], items ++ item.Def kind [] (expr.Num 0) ∷ [], λ free h. ([], expr.Num 0, Number 0 ∷ Semicolon ∷ [], Semicolon ∷ [], refl, zero_expr, ([], refl, rest_lives free _)))
place_lives items (WantAssign kind name) =
    (Assign ∷ Number 0 ∷ Semicolon ∷ [], items ++ item.Def kind name (expr.Num 0) ∷ [], λ free h. (expr.Num 0, Number 0 ∷ Semicolon ∷ [], Semicolon ∷ [], refl, zero_expr, ([], refl, rest_lives free _)))
place_lives items (Body kind name spot k) =
    spot_lives (λ file free. Bottom free file items kind name) (λ e. (Semicolon ∷ [], items ++ item.Def kind name e ∷ [], λ free h. ([], refl, rest_lives free _))) spot k

pub state_lives : (s : ReaderState) → Lives (λ file free tail. Means free file s tail)
state_lives s = place_lives s.items s.place
