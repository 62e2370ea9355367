-- The machine that reads a file token by token. Its first argument says whether the limits apply at a token.
use Rattle.std.specs.Prelude.{ℕ, zero, suc, Bool, true, ◌&&◌, nat_le, nat_lt, if◌then◌else◌, List, [], ◌∷◌, ◌++◌, length, Result, Ok, Err}
use Rattle.hcl_tree.specs.declared.tree.Kind.{Kind}
use Rattle.hcl_tree.specs.declared.tree.Expr.{Expr}
use Rattle.hcl_tree.specs.declared.tree.Expr.TheVariants as expr
use Rattle.hcl_tree.specs.declared.tree.Branch.{Branch}
use Rattle.hcl_tree.specs.declared.tree.Item.{Item}
use Rattle.hcl_tree.specs.declared.tree.Item.TheVariants as item
use Rattle.hcl_tree.specs.declared.tree.File.{File}
use Rattle.hcl_read.specs.declared.fault.HclWhy.{HclWhy}
use Rattle.hcl_read.specs.declared.fault.HclWhy.TheVariants as whys
use Rattle.hcl_read.specs.declared.tokens.Token.{Token}
use Rattle.hcl_read.specs.declared.tokens.Token.TheVariants.{KeyQuote, KeySig, KeyDef, KeyIn, Ident, Number, Wide, Quoted, Assign, Semicolon, OrOr, AndAnd, Bang, Compare, OpenParen, CloseParen, OpenBrace, CloseBrace, OpenBracket, CloseBracket, Comma, Colon, Bad}
use Rattle.hcl_read.specs.declared.frames.Level.{Level}
use Rattle.hcl_read.specs.declared.frames.OperandSide.{OperandSide}
use Rattle.hcl_read.specs.declared.frames.OperandSide.TheVariants.{Left, Right}
use Rattle.hcl_read.specs.declared.frames.Frame.{Frame}
use Rattle.hcl_read.specs.declared.frames.Frame.TheVariants.{Paren, Set, Guard, Value}
use Rattle.hcl_read.specs.declared.frames.ExprState.{ExprState}
use Rattle.hcl_read.specs.declared.frames.ExprState.TheVariants.{Want, WantRight, AfterPrim, After, WantSet, Cases}
use Rattle.hcl_read.specs.declared.state.BodyMove.{BodyMove}
use Rattle.hcl_read.specs.declared.state.BodyMove.TheVariants.{On, Ended}
use Rattle.hcl_read.specs.declared.state.ItemState.{ItemState}
use Rattle.hcl_read.specs.declared.state.ItemState.TheVariants.{Between, WantQuote, WantSignal, WantSignalText, WantName, WantAssign, Body}
use Rattle.hcl_read.specs.declared.state.ReaderState.{ReaderState}
use Rattle.hcl_read.specs.Grammar.{or_of, and_of, branch}
use Rattle.hcl_read.specs.Depth.{depth}
use Rattle.hcl_read.specs.Fault.{noted}

abbrev pub level : ℕ → List Expr → List Expr → Level
level nots ands ors = record { nots = nots; ands = ands; ors = ors }

-- an expression begins
abbrev pub start_level : Level
start_level = level 0 [] []

abbrev pub once_more_negated : Level → Level
once_more_negated l = level (suc l.nots) l.ands l.ors

-- an expression with some `!` in front
unfoldable pub negate : ℕ → Expr → Expr
negate zero e = e
negate (suc n) e = negate n (expr.Not e)

-- a comparison, or a single operand in its place, has been read
unfoldable pub related : Level → Expr → ExprState
related l e = After (l.ands ++ negate l.nots e ∷ []) l.ors

-- an operand of a comparison has been read
unfoldable pub put : OperandSide → Level → Expr → ExprState
put Left l e = AfterPrim e l
put (Right op left) l e = related l (expr.Cmp op left e)

-- the reason for a token that cannot occur here
unfoldable pub refusal : Token → HclWhy
refusal Bad = whys.BadByte
refusal _ = whys.Syntax

-- a bracket or `!` opens, unless 64 are open
unfoldable pub opened : Bool → Level → List Frame → BodyMove → Result BodyMove HclWhy
opened strict l k move = if strict && nat_le 64 (depth l k) then Err whys.DepthOver64 else Ok move

-- an operand of a comparison begins
unfoldable pub prim : Bool → OperandSide → Level → List Frame → Token → Result BodyMove HclWhy
prim strict side l k (Number n) = Ok (On (put side l (expr.Num n)) k)
prim strict side l k Wide = if strict then Err whys.NumberTooWide else Ok (On (put side l (expr.Num 0)) k)
prim strict side l k (Ident text) = Ok (On (put side l (expr.Name text)) k)
prim strict side l k OpenParen = opened strict l k (On (Want start_level) (Paren side l ∷ k))
prim strict side l k OpenBracket = opened strict l k (On (Want start_level) (Guard side [] l ∷ k))
prim strict side l k t = Err (refusal t)

-- an operand of `&&` begins
unfoldable pub want : Bool → Level → List Frame → Token → Result BodyMove HclWhy
want strict l k Bang = opened strict l k (On (Want (once_more_negated l)) k)
want strict l k t = prim strict Left l k t

-- an expression has ended
unfoldable pub close : Expr → List Frame → Token → Result BodyMove HclWhy
close e [] Semicolon = Ok (Ended e)
close e (Paren side l ∷ k) CloseParen = Ok (On (put side l e) k)
close e (Set left es l ∷ k) Comma = Ok (On (Want start_level) (Set left (es ++ e ∷ []) l ∷ k))
close e (Set left es l ∷ k) CloseBrace = Ok (On (related l (expr.In left (es ++ e ∷ []))) k)
close e (Guard side bs l ∷ k) Colon = Ok (On (Want start_level) (Value side bs e l ∷ k))
close e (Value side bs guard l ∷ k) Semicolon = Ok (On (Cases side (bs ++ branch guard e ∷ []) l) k)
close e k t = Err (refusal t)

-- an operand of `&&` has ended
unfoldable pub after : List Expr → List Expr → List Frame → Token → Result BodyMove HclWhy
after ands ors k AndAnd = Ok (On (Want (level 0 ands ors)) k)
after ands ors k OrOr = Ok (On (Want (level 0 [] (ors ++ and_of ands ∷ []))) k)
after ands ors k t = close (or_of (ors ++ and_of ands ∷ [])) k t

-- a left operand of a comparison has ended
unfoldable pub after_prim : Expr → Level → List Frame → Token → Result BodyMove HclWhy
after_prim e l k (Compare op) = Ok (On (WantRight op e l) k)
after_prim e l k KeyIn = Ok (On (WantSet e l) k)
after_prim e l k t = after (l.ands ++ negate l.nots e ∷ []) l.ors k t

-- `in` has been read
unfoldable pub want_set : Bool → Expr → Level → List Frame → Token → Result BodyMove HclWhy
want_set strict e l k OpenBrace = opened strict l k (On (Want start_level) (Set e [] l ∷ k))
want_set strict e l k t = Err (refusal t)

-- a branch has ended
unfoldable pub after_branch : Bool → OperandSide → List Branch → Level → List Frame → Token → Result BodyMove HclWhy
after_branch strict side bs l k CloseBracket = Ok (On (put side l (expr.Case bs)) k)
after_branch strict side bs l k t = want strict start_level (Guard side bs l ∷ k) t

-- a token of a definition's body
unfoldable pub body_step : Bool → ExprState → List Frame → Token → Result BodyMove HclWhy
body_step strict (Want l) k t = want strict l k t
body_step strict (WantRight op left l) k t = prim strict (Right op left) l k t
body_step strict (AfterPrim e l) k t = after_prim e l k t
body_step strict (After ands ors) k t = after ands ors k t
body_step strict (WantSet e l) k t = want_set strict e l k t
body_step strict (Cases side bs l) k t = after_branch strict side bs l k t

abbrev pub state : List Item → ItemState → ReaderState
state items place = record { items = items; place = place }

abbrev pub start : ReaderState
start = state [] Between

-- the state after a token of a body
unfoldable pub moved : List Item → Kind → List ℕ → Result BodyMove HclWhy → Result ReaderState HclWhy
moved items kind name (Ok (On spot k)) = Ok (state items (Body kind name spot k))
moved items kind name (Ok (Ended e)) = Ok (state (items ++ item.Def kind name e ∷ []) Between)
moved items kind name (Err why) = Err why

-- the state after a token of a file
unfoldable pub place_step : Bool → List Item → ItemState → Token → Result ReaderState HclWhy
place_step strict items Between KeyQuote = Ok (state items WantQuote)
place_step strict items Between (KeySig kind) = Ok (state items (WantSignal kind))
place_step strict items Between (KeyDef kind) = Ok (state items (WantName kind))
place_step strict items WantQuote (Quoted text) = Ok (state (items ++ item.Quote text ∷ []) Between)
place_step strict items (WantSignal kind) (Ident name) = Ok (state items (WantSignalText kind name))
place_step strict items (WantSignalText kind name) (Quoted text) = Ok (state (items ++ item.Decl kind name text ∷ []) Between)
place_step strict items (WantName kind) (Ident name) = Ok (state items (WantAssign kind name))
place_step strict items (WantAssign kind name) Assign = Ok (state items (Body kind name (Want start_level) []))
place_step strict items (Body kind name spot k) t = moved items kind name (body_step strict spot k t)
place_step strict items place t = Err (refusal t)

abbrev pub step : Bool → ReaderState → Token → Result ReaderState HclWhy
step strict s t = place_step strict s.items s.place t

-- The state after some tokens; the limits apply to each except the last `free` ones.
abbrev pub on : {A B : Type 0} → Result A HclWhy → (A → Result B HclWhy) → Result B HclWhy
on (Ok x) f = f x
on (Err why) f = Err why

unfoldable pub run : ℕ → ReaderState → List Token → Result ReaderState HclWhy
run free s [] = Ok s
run free s (t ∷ ts) = on (step (nat_lt free (suc (length ts))) s t) (λ next. run free next ts)

-- The file that has been read at the end, or the reason for its refusal.
unfoldable pub ended : List Item → ItemState → Result File HclWhy
ended items Between = Ok (record { items = items })
ended items place = Err whys.Syntax

-- The outcome of reading the rest of a text from a state, with the names met so far: the file, or the tokens from the
-- faulty one on with the reason.
abbrev pub Outcome : Type 0
Outcome = Result File (List Token × HclWhy)

abbrev pub at_end : Result File HclWhy → Outcome
at_end (Ok f) = Ok f
at_end (Err why) = Err ([], why)

abbrev pub outcome_at : List (List ℕ) → List Token → Result ReaderState HclWhy → (ReaderState → Outcome) → Outcome
outcome_at names ts (Err why) behind = Err (ts, why)
outcome_at names ts (Ok next) behind = if nat_le (length names) 256 then behind next else Err (ts, whys.NamesOver256)

unfoldable pub outcome : List (List ℕ) → ReaderState → List Token → Outcome
outcome names s [] = at_end (ended s.items s.place)
outcome names s (t ∷ ts) = outcome_at (noted names t) (t ∷ ts) (step true s t) (λ next. outcome (noted names t) next ts)
