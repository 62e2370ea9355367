-- What the refusal of a token implies: which token it is, and whether the machine without the limits accepts it.
use Rattle.std.proofs.Common.{◌≡◌, ap, sym, ◌∙◌, ℕ, Bool, true, false, cond, List, [], ◌∷◌, ◌++◌, Result, Ok, Err, refl}
use Rattle.std.specs.Prelude.{nat_le}
use Rattle.std.proofs.lemmas.Bool.{false≢true}
use Rattle.std.specs.Prelude.{◌≢◌}
use Rattle.hcl_tree.specs.declared.tree.Kind.{Kind}
use Rattle.hcl_tree.specs.declared.tree.Branch.{Branch}
use Rattle.hcl_tree.specs.declared.tree.Expr.{Expr}
use Rattle.hcl_tree.specs.declared.tree.Expr.TheVariants as expr
use Rattle.hcl_tree.specs.declared.tree.Item.{Item}
use Rattle.hcl_tree.specs.declared.tree.Item.TheVariants as item
use Rattle.hcl_read.specs.declared.fault.HclWhy.{HclWhy}
use Rattle.hcl_read.specs.declared.fault.HclWhy.TheVariants as whys
use Rattle.hcl_read.specs.declared.tokens.Token.{Token}
use Rattle.hcl_read.specs.declared.tokens.Token.TheVariants.{KeyQuote, KeySig, KeyDef, KeyIn, Ident, Number, Wide, Quoted, Assign, Semicolon, OrOr, AndAnd, Bang, Compare, OpenParen, CloseParen, OpenBrace, CloseBrace, OpenBracket, CloseBracket, Comma, Colon, Bad}
use Rattle.hcl_read.specs.declared.frames.Level.{Level}
use Rattle.hcl_read.specs.declared.frames.OperandSide.{OperandSide}
use Rattle.hcl_read.specs.declared.frames.OperandSide.TheVariants.{Left, Right}
use Rattle.hcl_read.specs.declared.frames.Frame.{Frame}
use Rattle.hcl_read.specs.declared.frames.Frame.TheVariants.{Paren, Set, Guard, Value}
use Rattle.hcl_read.specs.declared.frames.ExprState.{ExprState}
use Rattle.hcl_read.specs.declared.frames.ExprState.TheVariants.{Want, WantRight, AfterPrim, After, WantSet, Cases}
use Rattle.hcl_read.specs.declared.state.BodyMove.{BodyMove}
use Rattle.hcl_read.specs.declared.state.BodyMove.TheVariants.{On, Ended}
use Rattle.hcl_read.specs.declared.state.ItemState.{ItemState}
use Rattle.hcl_read.specs.declared.state.ItemState.TheVariants.{Between, WantQuote, WantSignal, WantSignalText, WantName, WantAssign, Body}
use Rattle.hcl_read.specs.declared.state.ReaderState.{ReaderState}
use Rattle.hcl_read.specs.Grammar.{or_of, and_of}
use Rattle.hcl_read.specs.Depth.{depth}
use Rattle.hcl_read.specs.Machine.{start_level, once_more_negated, negate, put, refusal, opened, prim, want, close, after, after_prim, want_set, after_branch, body_step, state, moved, place_step, step}

-- how a token's step with the limits determines its step without them
abbrev pub Told : {A : Type 0} → Token → Result A HclWhy → Result A HclWhy → Type 0
Told t (Ok x) loose = loose ≡ Ok x
Told t (Err whys.Syntax) loose = (t ≢ Bad) × (loose ≡ Err whys.Syntax)
Told t (Err whys.BadByte) loose = (t ≡ Bad) × (loose ≡ Err whys.BadByte)
Told {A} t (Err whys.NumberTooWide) loose = (t ≡ Wide) × (x : A) × (loose ≡ Ok x)
Told {A} t (Err whys.DepthOver64) loose = (t ≢ Wide) × (x : A) × (loose ≡ Ok x)
Told t (Err whys.NamesOver256) loose = ⊥
Told t (Err whys.Memory) loose = ⊥

is_bad : Token → Bool
is_bad Bad = true
is_bad t = false

is_wide : Token → Bool
is_wide Wide = true
is_wide t = false

not_bad : (t : Token) → is_bad t ≡ false → t ≢ Bad
unfolding is_bad
not_bad t h e = false≢true (sym h ∙ ap is_bad e)

not_wide : (t : Token) → is_wide t ≡ false → t ≢ Wide
unfolding is_wide
not_wide t h e = false≢true (sym h ∙ ap is_wide e)

refused : (A : Type 0) (t : Token) → Told {A = A} t (Err (refusal t)) (Err (refusal t))
unfolding refusal is_bad
refused A Bad = (refl, refl)
refused A t = (not_bad t refl, refl)

told_opened : (l : Level) (k : List Frame) (move : BodyMove) (t : Token) → is_wide t ≡ false → Told t (opened true l k move) (opened false l k move)
unfolding opened
told_opened l k move t w = go (nat_le 64 (depth l k))
  where
    go : (b : Bool) → Told t (cond b (Err whys.DepthOver64) (Ok move)) (Ok move)
    go true = (not_wide t w, move, refl)
    go false = refl

told_prim : (side : OperandSide) (l : Level) (k : List Frame) (t : Token) → Told t (prim true side l k t) (prim false side l k t)
unfolding prim is_wide
told_prim side l k (Number n) = refl
told_prim side l k Wide = (refl, On (put side l (expr.Num 0)) k, refl)
told_prim side l k (Ident text) = refl
told_prim side l k OpenParen = told_opened l k (On (Want start_level) (Paren side l ∷ k)) OpenParen refl
told_prim side l k OpenBracket = told_opened l k (On (Want start_level) (Guard side [] l ∷ k)) OpenBracket refl
told_prim side l k t = refused _ t

told_want : (l : Level) (k : List Frame) (t : Token) → Told t (want true l k t) (want false l k t)
unfolding want is_wide
told_want l k Bang = told_opened l k (On (Want (once_more_negated l)) k) Bang refl
told_want l k t = told_prim Left l k t

told_close : (e : Expr) (k : List Frame) (t : Token) → Told t (close e k t) (close e k t)
unfolding close
told_close e [] Semicolon = refl
told_close e (Paren side l ∷ k) CloseParen = refl
told_close e (Set left es l ∷ k) Comma = refl
told_close e (Set left es l ∷ k) CloseBrace = refl
told_close e (Guard side bs l ∷ k) Colon = refl
told_close e (Value side bs guard l ∷ k) Semicolon = refl
told_close e k t = refused _ t

told_after : (ands ors : List Expr) (k : List Frame) (t : Token) → Told t (after ands ors k t) (after ands ors k t)
unfolding after
told_after ands ors k AndAnd = refl
told_after ands ors k OrOr = refl
told_after ands ors k t = told_close (or_of (ors ++ and_of ands ∷ [])) k t

told_after_prim : (e : Expr) (l : Level) (k : List Frame) (t : Token) → Told t (after_prim e l k t) (after_prim e l k t)
unfolding after_prim
told_after_prim e l k (Compare op) = refl
told_after_prim e l k KeyIn = refl
told_after_prim e l k t = told_after (l.ands ++ negate l.nots e ∷ []) l.ors k t

told_want_set : (e : Expr) (l : Level) (k : List Frame) (t : Token) → Told t (want_set true e l k t) (want_set false e l k t)
unfolding want_set is_wide
told_want_set e l k OpenBrace = told_opened l k (On (Want start_level) (Set e [] l ∷ k)) OpenBrace refl
told_want_set e l k t = refused _ t

told_after_branch : (side : OperandSide) (bs : List Branch) (l : Level) (k : List Frame) (t : Token) → Told t (after_branch true side bs l k t) (after_branch false side bs l k t)
unfolding after_branch
told_after_branch side bs l k CloseBracket = refl
told_after_branch side bs l k t = told_want start_level (Guard side bs l ∷ k) t

told_body : (spot : ExprState) (k : List Frame) (t : Token) → Told t (body_step true spot k t) (body_step false spot k t)
unfolding body_step
told_body (Want l) k t = told_want l k t
told_body (WantRight op left l) k t = told_prim (Right op left) l k t
told_body (AfterPrim e l) k t = told_after_prim e l k t
told_body (After ands ors) k t = told_after ands ors k t
told_body (WantSet e l) k t = told_want_set e l k t
told_body (Cases side bs l) k t = told_after_branch side bs l k t

moves : (items : List Item) (kind : Kind) (name : List ℕ) (m : BodyMove) → (s : ReaderState) × (moved items kind name (Ok m) ≡ Ok s)
unfolding moved
moves items kind name (On spot k) = (state items (Body kind name spot k), refl)
moves items kind name (Ended e) = (state (items ++ item.Def kind name e ∷ []) Between, refl)

told_moved : (items : List Item) (kind : Kind) (name : List ℕ) (t : Token) (r loose : Result BodyMove HclWhy) → Told t r loose → Told t (moved items kind name r) (moved items kind name loose)
unfolding moved
told_moved items kind name t (Ok (On spot k)) loose h = ap (moved items kind name) h
told_moved items kind name t (Ok (Ended e)) loose h = ap (moved items kind name) h
told_moved items kind name t (Err whys.Syntax) loose h = (h.0, ap (moved items kind name) h.1)
told_moved items kind name t (Err whys.BadByte) loose h = (h.0, ap (moved items kind name) h.1)
told_moved items kind name t (Err whys.NumberTooWide) loose h =
    let m = moves items kind name h.1 in
    (h.0, m.0, ap (moved items kind name) h.2 ∙ m.1)
told_moved items kind name t (Err whys.DepthOver64) loose h =
    let m = moves items kind name h.1 in
    (h.0, m.0, ap (moved items kind name) h.2 ∙ m.1)
told_moved items kind name t (Err whys.NamesOver256) loose h = absurd h
told_moved items kind name t (Err whys.Memory) loose h = absurd h

told_place : (items : List Item) (place : ItemState) (t : Token) → Told t (place_step true items place t) (place_step false items place t)
unfolding place_step
told_place items Between KeyQuote = refl
told_place items Between (KeySig kind) = refl
told_place items Between (KeyDef kind) = refl
told_place items WantQuote (Quoted text) = refl
told_place items (WantSignal kind) (Ident name) = refl
told_place items (WantSignalText kind name) (Quoted text) = refl
told_place items (WantName kind) (Ident name) = refl
told_place items (WantAssign kind name) Assign = refl
told_place items (Body kind name spot k) t = told_moved items kind name t (body_step true spot k t) (body_step false spot k t) (told_body spot k t)
told_place items place t = refused _ t

pub told_step : (s : ReaderState) (t : Token) → Told t (step true s t) (step false s t)
told_step s t = told_place s.items s.place t
