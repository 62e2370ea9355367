-- Each step keeps what the state requires: if the text after a token leads from the next state to a file, then the
-- token and that text lead there from the state before.
use Rattle.std.proofs.Common.{◌≡◌, ◌≤◌, ◌+◌, ap, sym, subst, ◌∙◌, ℕ, suc, Bool, true, false, cond, List, [], ◌∷◌, ◌++◌, length, Result, Ok, Err, refl, arith, zero-add, append-nil}
use Rattle.std.specs.Prelude.{nat_lt, nat_le, ◌&&◌}
use Rattle.std.proofs.lemmas.Bool.Decides.{nat_tests}
use Rattle.hcl_tree.specs.declared.tree.Kind.{Kind}
use Rattle.hcl_tree.specs.declared.tree.CmpOp.{CmpOp}
use Rattle.hcl_tree.specs.declared.tree.Branch.{Branch}
use Rattle.hcl_tree.specs.declared.tree.Expr.{Expr}
use Rattle.hcl_tree.specs.declared.tree.Expr.TheVariants as expr
use Rattle.hcl_tree.specs.declared.tree.Item.{Item}
use Rattle.hcl_tree.specs.declared.tree.Item.TheVariants as item
use Rattle.hcl_read.specs.declared.fault.HclWhy.{HclWhy}
use Rattle.hcl_read.specs.declared.fault.HclWhy.TheVariants as whys
use Rattle.hcl_read.specs.declared.tokens.Token.{Token}
use Rattle.hcl_read.specs.declared.tokens.Token.TheVariants.{KeyQuote, KeySig, KeyDef, KeyIn, Ident, Number, Wide, Quoted, Assign, Semicolon, OrOr, AndAnd, Bang, Compare, OpenParen, CloseParen, OpenBrace, CloseBrace, OpenBracket, CloseBracket, Comma, Colon}
use Rattle.hcl_read.specs.declared.frames.Level.{Level}
use Rattle.hcl_read.specs.declared.frames.OperandSide.{OperandSide}
use Rattle.hcl_read.specs.declared.frames.OperandSide.TheVariants.{Left, Right}
use Rattle.hcl_read.specs.declared.frames.Frame.{Frame}
use Rattle.hcl_read.specs.declared.frames.Frame.TheVariants.{Paren, Set, Guard, Value}
use Rattle.hcl_read.specs.declared.frames.ExprState.{ExprState}
use Rattle.hcl_read.specs.declared.frames.ExprState.TheVariants.{Want, WantRight, AfterPrim, After, WantSet, Cases}
use Rattle.hcl_read.specs.declared.state.BodyMove.{BodyMove}
use Rattle.hcl_read.specs.declared.state.BodyMove.TheVariants.{On, Ended}
use Rattle.hcl_read.specs.declared.state.ItemState.{ItemState}
use Rattle.hcl_read.specs.declared.state.ItemState.TheVariants.{Between, WantQuote, WantSignal, WantSignalText, WantName, WantAssign, Body}
use Rattle.hcl_read.specs.declared.state.ReaderState.{ReaderState}
use Rattle.hcl_read.specs.Grammar.{or_of, and_of, branch, Room, IsExpr, IsNot, IsPrim, IsItem, IsItems, or_list, no_or, more_or, and_list, no_and, more_and, negated, plain, no_member, more_members, a_number, a_wide_number, a_name, group, case_list, guarded, no_case, more_cases, quoted, declared, defined, more_items}
use Rattle.hcl_read.specs.Depth.{depth, depth_of}
use Rattle.hcl_read.specs.Machine.{level, start_level, once_more_negated, negate, related, put, opened, prim, want, close, after, after_prim, want_set, after_branch, body_step, moved, place_step, step}
use Rattle.hcl_read.proofs.Opened.{test_room}
use Rattle.hcl_read.proofs.Complete.{asks, shifted}
use Rattle.hcl_read.proofs.Means.{RelTail, no_operator, operator, members, rel_of, Behind, RelIn, PutIn, Closed, MeansSpot, Rest, Bottom, MeansPlace, Means}

module _ (free : ℕ) where
  abbrev pub strict_before : List Token → Bool
  strict_before ts = nat_lt free (suc (length ts))

  module _ (bottom : Behind) where
    abbrev pub MeansMove : Result BodyMove HclWhy → List Token → Type 0
    MeansMove (Ok (On spot k)) ts = MeansSpot free bottom spot k ts
    MeansMove (Ok (Ended e)) ts = bottom e (Semicolon ∷ ts)
    MeansMove (Err why) ts = ⊥

    sound_opened : (l : Level) (k : List Frame) (t : Token) (ts : List Token) (move : BodyMove) → MeansMove (opened (strict_before ts) l k move) ts
        → Room free (suc (l.nots + depth_of k)) (t ∷ ts) × MeansMove (Ok move) ts
    unfolding opened depth
    sound_opened l k t ts move m = go (strict_before ts && nat_le 64 (l.nots + depth_of k)) refl m
      where
        go : (b : Bool) → (strict_before ts && nat_le 64 (l.nots + depth_of k)) ≡ b → MeansMove (cond b (Err whys.DepthOver64) (Ok move)) ts
            → Room free (suc (l.nots + depth_of k)) (t ∷ ts) × MeansMove (Ok move) ts
        go true e m = absurd m
        go false e m = (test_room free (l.nots + depth_of k) (length ts) e, m)

    -- what a bracket requires begins with an expression
    start_means : (k : List Frame) (ts : List Token) → MeansSpot free bottom (Want start_level) k ts → (x : Expr) × (rest : List Token) × IsExpr free (depth_of k) ts x rest × Closed free bottom k x rest
    unfolding MeansSpot negate
    start_means k ts m =
        (or_of (and_of (m.0 ∷ m.3.0) ∷ m.3.1), m.3.3, or_list (and_list (subst (λ d. IsNot free d ts m.0 m.1) (zero-add (depth_of k)) m.2) m.3.4) m.3.5, m.3.6)

    put_means : (side : OperandSide) (l : Level) (e : Expr) (k : List Frame) (ts : List Token) → MeansSpot free bottom (put side l e) k ts → PutIn free (depth_of k) (Closed free bottom k) side l e ts
    unfolding MeansSpot put related
    put_means Left l e k ts m = m
    put_means (Right op left) l e k ts m = m

    related_means : (l : Level) (e : Expr) (k : List Frame) (ts : List Token) → MeansSpot free bottom (related l e) k ts → RelIn free (depth_of k) (Closed free bottom k) l e ts
    unfolding MeansSpot related
    related_means l e k ts m = m

    asks_from : (side : OperandSide) (l : Level) (k : List Frame) {ts mid : List Token} {e : Expr} → IsPrim free (l.nots + depth_of k) ts e mid → PutIn free (depth_of k) (Closed free bottom k) side l e mid
        → MeansSpot free bottom (asks side l) k ts
    unfolding MeansSpot
    asks_from Left l k h p = (p.0, p.1, plain (rel_of h p.2), p.3)
    asks_from (Right op left) l k {mid = mid} {e = e} h p = (e, mid, h, p)

    wide_means : (side : OperandSide) (l : Level) (k : List Frame) (ts : List Token) (b : Bool) → strict_before ts ≡ b → MeansMove (cond b (Err whys.NumberTooWide) (Ok (On (put side l (expr.Num 0)) k))) ts
        → MeansSpot free bottom (asks side l) k (Wide ∷ ts)
    wide_means side l k ts true e m = absurd m
    wide_means side l k ts false e m = asks_from side l k (a_wide_number (is_free (length ts) e)) (put_means side l (expr.Num 0) k ts m)
      where
        is_free : (n : ℕ) → nat_lt free (suc n) ≡ false → suc n ≤ free
        is_free n e = grind (arith, nat_tests)

    paren_means : (side : OperandSide) (l : Level) (k : List Frame) (ts : List Token) → Room free (suc (l.nots + depth_of k)) (OpenParen ∷ ts) → MeansSpot free bottom (Want start_level) (Paren side l ∷ k) ts
        → MeansSpot free bottom (asks side l) k (OpenParen ∷ ts)
    unfolding Closed depth_of
    paren_means side l k ts room m =
        let s = start_means (Paren side l ∷ k) ts m in
        asks_from side l k (group room (subst (λ r. IsExpr free (suc (l.nots + depth_of k)) ts s.0 r) s.3.1 s.2)) s.3.2

    bracket_means : (side : OperandSide) (l : Level) (k : List Frame) (ts : List Token) → Room free (suc (l.nots + depth_of k)) (OpenBracket ∷ ts) → MeansSpot free bottom (Want start_level) (Guard side [] l ∷ k) ts
        → MeansSpot free bottom (asks side l) k (OpenBracket ∷ ts)
    unfolding Closed depth_of
    bracket_means side l k ts room m =
        let s = start_means (Guard side [] l ∷ k) ts m in
        asks_from side l k (case_list room (guarded (subst (λ r. IsExpr free (suc (l.nots + depth_of k)) ts s.0 r) s.3.5 s.2) s.3.6) s.3.7) s.3.8

    sound_prim : (side : OperandSide) (l : Level) (k : List Frame) (t : Token) (ts : List Token) → MeansMove (prim (strict_before ts) side l k t) ts → MeansSpot free bottom (asks side l) k (t ∷ ts)
    unfolding prim
    sound_prim side l k (Number n) ts m = asks_from side l k a_number (put_means side l (expr.Num n) k ts m)
    sound_prim side l k Wide ts m = wide_means side l k ts (strict_before ts) refl m
    sound_prim side l k (Ident text) ts m = asks_from side l k a_name (put_means side l (expr.Name text) k ts m)
    sound_prim side l k OpenParen ts m =
        let o = sound_opened l k OpenParen ts (On (Want start_level) (Paren side l ∷ k)) m in
        paren_means side l k ts o.0 o.1
    sound_prim side l k OpenBracket ts m =
        let o = sound_opened l k OpenBracket ts (On (Want start_level) (Guard side [] l ∷ k)) m in
        bracket_means side l k ts o.0 o.1
    sound_prim side l k t ts m = absurd m

    bang_means : (l : Level) (k : List Frame) (ts : List Token) → Room free (suc (l.nots + depth_of k)) (Bang ∷ ts) → MeansSpot free bottom (Want (once_more_negated l)) k ts → MeansSpot free bottom (Want l) k (Bang ∷ ts)
    unfolding MeansSpot negate
    bang_means l k ts room m =
        let deep : suc l.nots + depth_of k ≡ suc (l.nots + depth_of k) = omega arith in
        (expr.Not m.0, m.1, negated room (subst (λ d. IsNot free d ts m.0 m.1) deep m.2), m.3)

    sound_want : (l : Level) (k : List Frame) (t : Token) (ts : List Token) → MeansMove (want (strict_before ts) l k t) ts → MeansSpot free bottom (Want l) k (t ∷ ts)
    unfolding want
    sound_want l k Bang ts m =
        let o = sound_opened l k Bang ts (On (Want (once_more_negated l)) k) m in
        bang_means l k ts o.0 o.1
    sound_want l k t ts m = sound_prim Left l k t ts m

    comma_means : (e left : Expr) (es : List Expr) (l : Level) (k : List Frame) (ts : List Token) → MeansSpot free bottom (Want start_level) (Set left (es ++ e ∷ []) l ∷ k) ts → Closed free bottom (Set left es l ∷ k) e (Comma ∷ ts)
    unfolding Closed depth_of
    comma_means e left es l k ts m =
        let s = start_means (Set left (es ++ e ∷ []) l ∷ k) ts m in
        (s.0 ∷ s.3.0, s.3.1, more_members s.2 s.3.2, subst (λ ms. RelIn free (depth_of k) (Closed free bottom k) l (expr.In left ms) s.3.1) (shifted (es ++ e ∷ []) s.0 s.3.0) s.3.3)

    brace_means : (e left : Expr) (es : List Expr) (l : Level) (k : List Frame) (ts : List Token) → RelIn free (depth_of k) (Closed free bottom k) l (expr.In left (es ++ e ∷ [])) ts → Closed free bottom (Set left es l ∷ k) e (CloseBrace ∷ ts)
    unfolding Closed
    brace_means e left es l k ts m = ([], ts, no_member, subst (λ ms. RelIn free (depth_of k) (Closed free bottom k) l (expr.In left ms) ts) (sym (append-nil (es ++ e ∷ []))) m)

    colon_means : (e : Expr) (side : OperandSide) (bs : List Branch) (l : Level) (k : List Frame) (ts : List Token) → MeansSpot free bottom (Want start_level) (Value side bs e l ∷ k) ts → Closed free bottom (Guard side bs l ∷ k) e (Colon ∷ ts)
    unfolding Closed depth_of
    colon_means e side bs l k ts m =
        let s = start_means (Value side bs e l ∷ k) ts m in
        (ts, s.0, s.3.0, s.3.1, s.3.2, refl, subst (λ r. IsExpr free (suc (l.nots + depth_of k)) ts s.0 r) s.3.3 s.2, s.3.4, s.3.5)

    value_means : (e : Expr) (side : OperandSide) (bs : List Branch) (guard : Expr) (l : Level) (k : List Frame) (ts : List Token) → MeansSpot free bottom (Cases side (bs ++ branch guard e ∷ []) l) k ts → Closed free bottom (Value side bs guard l ∷ k) e (Semicolon ∷ ts)
    unfolding Closed MeansSpot
    value_means e side bs guard l k ts m = (ts, m.0, m.1, refl, m.2, m.3)

    close_means : (e : Expr) (side : OperandSide) (l : Level) (k : List Frame) (ts : List Token) → PutIn free (depth_of k) (Closed free bottom k) side l e ts → Closed free bottom (Paren side l ∷ k) e (CloseParen ∷ ts)
    unfolding Closed
    close_means e side l k ts m = (ts, refl, m)

    sound_close : (e : Expr) (k : List Frame) (t : Token) (ts : List Token) → MeansMove (close e k t) ts → Closed free bottom k e (t ∷ ts)
    unfolding close Closed
    sound_close e [] Semicolon ts m = m
    sound_close e (Paren side l ∷ k) CloseParen ts m = close_means e side l k ts (put_means side l e k ts m)
    sound_close e (Set left es l ∷ k) Comma ts m = comma_means e left es l k ts m
    sound_close e (Set left es l ∷ k) CloseBrace ts m = brace_means e left es l k ts (related_means l (expr.In left (es ++ e ∷ [])) k ts m)
    sound_close e (Guard side bs l ∷ k) Colon ts m = colon_means e side bs l k ts m
    sound_close e (Value side bs guard l ∷ k) Semicolon ts m = value_means e side bs guard l k ts m
    sound_close e k t ts m = absurd m

    and_means : (ands ors : List Expr) (k : List Frame) (ts : List Token) → MeansSpot free bottom (Want (level 0 ands ors)) k ts → MeansSpot free bottom (After ands ors) k (AndAnd ∷ ts)
    unfolding MeansSpot negate
    and_means ands ors k ts m = (
      m.0 ∷ m.3.0,
      m.3.1,
      m.3.2,
      m.3.3,
      more_and (subst (λ d. IsNot free d ts m.0 m.1) (zero-add (depth_of k)) m.2) m.3.4,
      m.3.5,
      subst (λ es. Closed free bottom k (or_of (ors ++ and_of es ∷ m.3.1)) m.3.3) (shifted ands m.0 m.3.0) m.3.6,
    )

    or_means : (ands ors : List Expr) (k : List Frame) (ts : List Token) → MeansSpot free bottom (Want (level 0 [] (ors ++ and_of ands ∷ []))) k ts → MeansSpot free bottom (After ands ors) k (OrOr ∷ ts)
    unfolding MeansSpot negate
    or_means ands ors k ts m =
        let more = and_of (m.0 ∷ m.3.0) ∷ m.3.1 in
        let same : (ors ++ and_of ands ∷ []) ++ and_of (m.0 ∷ m.3.0) ∷ m.3.1 ≡ ors ++ and_of (ands ++ []) ∷ and_of (m.0 ∷ m.3.0) ∷ m.3.1
        = shifted ors (and_of ands) more ∙ ap (λ es. ors ++ and_of es ∷ more) (sym (append-nil ands)) in (
          [],
          more,
          OrOr ∷ ts,
          m.3.3,
          no_and,
          more_or (and_list (subst (λ d. IsNot free d ts m.0 m.1) (zero-add (depth_of k)) m.2) m.3.4) m.3.5,
          subst (λ es. Closed free bottom k (or_of es) m.3.3) same m.3.6,
        )

    end_means : (ands ors : List Expr) (k : List Frame) (ts : List Token) → Closed free bottom k (or_of (ors ++ and_of ands ∷ [])) ts → MeansSpot free bottom (After ands ors) k ts
    unfolding MeansSpot
    end_means ands ors k ts m = ([], [], ts, ts, no_and, no_or, subst (λ es. Closed free bottom k (or_of (ors ++ and_of es ∷ [])) ts) (sym (append-nil ands)) m)

    sound_after : (ands ors : List Expr) (k : List Frame) (t : Token) (ts : List Token) → MeansMove (after ands ors k t) ts → MeansSpot free bottom (After ands ors) k (t ∷ ts)
    unfolding after
    sound_after ands ors k AndAnd ts m = and_means ands ors k ts m
    sound_after ands ors k OrOr ts m = or_means ands ors k ts m
    sound_after ands ors k t ts m = end_means ands ors k (t ∷ ts) (sound_close (or_of (ors ++ and_of ands ∷ [])) k t ts m)

    compare_means : (e : Expr) (l : Level) (k : List Frame) (op : CmpOp) (ts : List Token) → MeansSpot free bottom (WantRight op e l) k ts → MeansSpot free bottom (AfterPrim e l) k (Compare op ∷ ts)
    unfolding MeansSpot
    compare_means e l k op ts m = (expr.Cmp op e m.0, m.1, operator m.2, m.3)

    in_means : (e : Expr) (l : Level) (k : List Frame) (ts : List Token) → MeansSpot free bottom (WantSet e l) k ts → MeansSpot free bottom (AfterPrim e l) k (KeyIn ∷ ts)
    unfolding MeansSpot
    in_means e l k ts m = (
      expr.In e (m.1 ∷ m.3),
      m.4,
      subst (λ r. RelTail free (l.nots + depth_of k) e (KeyIn ∷ r) (expr.In e (m.1 ∷ m.3)) m.4) (sym m.5)
          (members (subst (λ r. Room free (suc (l.nots + depth_of k)) r) m.5 m.6) m.7 m.8),
      m.9,
    )

    alone_means : (e : Expr) (l : Level) (k : List Frame) (ts : List Token) → MeansSpot free bottom (After (l.ands ++ negate l.nots e ∷ []) l.ors) k ts → MeansSpot free bottom (AfterPrim e l) k ts
    unfolding MeansSpot
    alone_means e l k ts m = (e, ts, no_operator, m)

    sound_after_prim : (e : Expr) (l : Level) (k : List Frame) (t : Token) (ts : List Token) → MeansMove (after_prim e l k t) ts → MeansSpot free bottom (AfterPrim e l) k (t ∷ ts)
    unfolding after_prim
    sound_after_prim e l k (Compare op) ts m = compare_means e l k op ts m
    sound_after_prim e l k KeyIn ts m = in_means e l k ts m
    sound_after_prim e l k t ts m = alone_means e l k (t ∷ ts) (sound_after (l.ands ++ negate l.nots e ∷ []) l.ors k t ts m)

    set_means : (e : Expr) (l : Level) (k : List Frame) (ts : List Token) → Room free (suc (l.nots + depth_of k)) (OpenBrace ∷ ts) → MeansSpot free bottom (Want start_level) (Set e [] l ∷ k) ts
        → MeansSpot free bottom (WantSet e l) k (OpenBrace ∷ ts)
    unfolding MeansSpot Closed depth_of
    set_means e l k ts room m =
        let s = start_means (Set e [] l ∷ k) ts m in
        (ts, s.0, s.1, s.3.0, s.3.1, refl, room, s.2, s.3.2, s.3.3)

    sound_want_set : (e : Expr) (l : Level) (k : List Frame) (t : Token) (ts : List Token) → MeansMove (want_set (strict_before ts) e l k t) ts → MeansSpot free bottom (WantSet e l) k (t ∷ ts)
    unfolding want_set
    sound_want_set e l k OpenBrace ts m =
        let o = sound_opened l k OpenBrace ts (On (Want start_level) (Set e [] l ∷ k)) m in
        set_means e l k ts o.0 o.1
    sound_want_set e l k t ts m = absurd m

    bracket_closes : (side : OperandSide) (bs : List Branch) (l : Level) (k : List Frame) (ts : List Token) → PutIn free (depth_of k) (Closed free bottom k) side l (expr.Case bs) ts → MeansSpot free bottom (Cases side bs l) k (CloseBracket ∷ ts)
    unfolding MeansSpot
    bracket_closes side bs l k ts m = ([], ts, no_case, subst (λ x. PutIn free (depth_of k) (Closed free bottom k) side l (expr.Case x) ts) (sym (append-nil bs)) m)

    branch_means : (side : OperandSide) (bs : List Branch) (l : Level) (k : List Frame) (ts : List Token) → MeansSpot free bottom (Want start_level) (Guard side bs l ∷ k) ts → MeansSpot free bottom (Cases side bs l) k ts
    unfolding MeansSpot Closed depth_of
    branch_means side bs l k ts m =
        let s = start_means (Guard side bs l ∷ k) ts m in (
          branch s.0 s.3.1 ∷ s.3.3,
          s.3.4,
          more_cases (guarded (subst (λ r. IsExpr free (suc (l.nots + depth_of k)) ts s.0 r) s.3.5 s.2) s.3.6) s.3.7,
          subst (λ x. PutIn free (depth_of k) (Closed free bottom k) side l (expr.Case x) s.3.4) (shifted bs (branch s.0 s.3.1) s.3.3) s.3.8,
        )

    sound_after_branch : (side : OperandSide) (bs : List Branch) (l : Level) (k : List Frame) (t : Token) (ts : List Token) → MeansMove (after_branch (strict_before ts) side bs l k t) ts → MeansSpot free bottom (Cases side bs l) k (t ∷ ts)
    unfolding after_branch
    sound_after_branch side bs l k CloseBracket ts m = bracket_closes side bs l k ts (put_means side l (expr.Case bs) k ts m)
    sound_after_branch side bs l k t ts m = branch_means side bs l k (t ∷ ts) (sound_want start_level (Guard side bs l ∷ k) t ts m)

    sound_body : (spot : ExprState) (k : List Frame) (t : Token) (ts : List Token) → MeansMove (body_step (strict_before ts) spot k t) ts → MeansSpot free bottom spot k (t ∷ ts)
    unfolding body_step
    sound_body (Want l) k t ts m = sound_want l k t ts m
    sound_body (WantRight op left l) k t ts m = sound_prim (Right op left) l k t ts m
    sound_body (AfterPrim e l) k t ts m = sound_after_prim e l k t ts m
    sound_body (After ands ors) k t ts m = sound_after ands ors k t ts m
    sound_body (WantSet e l) k t ts m = sound_want_set e l k t ts m
    sound_body (Cases side bs l) k t ts m = sound_after_branch side bs l k t ts m

  module _ (file : List Item) where
    abbrev pub MeansNext : Result ReaderState HclWhy → List Token → Type 0
    MeansNext (Ok s) ts = Means free file s ts
    MeansNext (Err why) ts = ⊥

    moved_means : (items : List Item) (kind : Kind) (name : List ℕ) (r : Result BodyMove HclWhy) (ts : List Token) → MeansNext (moved items kind name r) ts → MeansMove (Bottom free file items kind name) r ts
    unfolding moved MeansPlace
    moved_means items kind name (Ok (On spot k)) ts m = m
    moved_means items kind name (Ok (Ended e)) ts m = (ts, refl, m)
    moved_means items kind name (Err why) ts m = m

    one_more : (items : List Item) (i : Item) (head ts rest : List Token) → IsItem free head i rest → ts ≡ head → Rest free file (items ++ i ∷ []) rest → Rest free file items ts
    one_more items i head ts rest h e m = (i ∷ m.0, subst (λ x. IsItems free x (i ∷ m.0)) (sym e) (more_items h m.1), m.2 ∙ shifted items i m.0)

    sound_place : (items : List Item) (place : ItemState) (t : Token) (ts : List Token) → MeansNext (place_step (strict_before ts) items place t) ts → MeansPlace free file items place (t ∷ ts)
    unfolding place_step MeansPlace Closed depth_of
    sound_place items Between KeyQuote ts m = one_more items (item.Quote m.0) (KeyQuote ∷ Quoted m.0 ∷ m.1) (KeyQuote ∷ ts) m.1 quoted (ap (λ r. KeyQuote ∷ r) m.2) m.3
    sound_place items Between (KeySig kind) ts m = one_more items (item.Decl kind m.0 m.1) (KeySig kind ∷ Ident m.0 ∷ Quoted m.1 ∷ m.2) (KeySig kind ∷ ts) m.2 declared (ap (λ r. KeySig kind ∷ r) m.3) m.4
    sound_place items Between (KeyDef kind) ts m =
        one_more items (item.Def kind m.0 m.1) (KeyDef kind ∷ Ident m.0 ∷ Assign ∷ m.2) (KeyDef kind ∷ ts) m.6.0 (defined (subst (λ r. IsExpr free 0 m.2 m.1 r) m.6.1 m.5)) (ap (λ r. KeyDef kind ∷ r) m.4) m.6.2
    sound_place items WantQuote (Quoted text) ts m = (text, ts, refl, m)
    sound_place items (WantSignal kind) (Ident name) ts m = (name, m.0, m.1, ap (λ r. Ident name ∷ r) m.2, m.3)
    sound_place items (WantSignalText kind name) (Quoted text) ts m = (text, ts, refl, m)
    sound_place items (WantName kind) (Ident name) ts m = (name, m.0, m.1, m.2, ap (λ r. Ident name ∷ r) m.3, m.4, m.5)
    sound_place items (WantAssign kind name) Assign ts m =
        let s = start_means (Bottom free file items kind name) [] ts m in
        (s.0, ts, s.1, refl, s.2, s.3)
    sound_place items (Body kind name spot k) t ts m = sound_body (Bottom free file items kind name) spot k t ts (moved_means items kind name (body_step (strict_before ts) spot k t) ts m)
    sound_place items place t ts m = absurd m

    pub sound_step : (s : ReaderState) (t : Token) (ts : List Token) → MeansNext (step (strict_before ts) s t) ts → Means free file s (t ∷ ts)
    sound_step s t ts m = sound_place s.items s.place t ts m
