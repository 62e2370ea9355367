-- The machine reads what the grammar relates to a text: `IsFile free ts f` gives `run free start ts ≡ Ok (state f.items
-- Between)`.
use Rattle.std.proofs.Common.{◌≡◌, ◌≤◌, ◌+◌, ap, sym, subst, ◌∙◌, ℕ, suc, Bool, false, cond, List, [], ◌∷◌, ◌++◌, length, Result, Ok, Err, refl, arith, zero-add, append_assoc, append-nil}
use Rattle.std.specs.Prelude.{nat_lt}
use Rattle.std.proofs.lemmas.Bool.Decides.{nat_tests}
use Rattle.hcl_tree.specs.declared.tree.Kind.{Kind}
use Rattle.hcl_tree.specs.declared.tree.CmpOp.{CmpOp}
use Rattle.hcl_tree.specs.declared.tree.Branch.{Branch}
use Rattle.hcl_tree.specs.declared.tree.Expr.{Expr}
use Rattle.hcl_tree.specs.declared.tree.Expr.TheVariants as expr
use Rattle.hcl_tree.specs.declared.tree.Item.{Item}
use Rattle.hcl_tree.specs.declared.tree.Item.TheVariants as item
use Rattle.hcl_tree.specs.declared.tree.File.{File}
use Rattle.hcl_read.specs.declared.fault.HclWhy.{HclWhy}
use Rattle.hcl_read.specs.declared.fault.HclWhy.TheVariants.{NumberTooWide}
use Rattle.hcl_read.specs.declared.tokens.Token.{Token}
use Rattle.hcl_read.specs.declared.tokens.Token.TheVariants.{KeyIn, Ident, Number, Wide, Semicolon, OrOr, AndAnd, Bang, Compare, OpenParen, CloseParen, OpenBrace, CloseBrace, OpenBracket, CloseBracket, Comma, Colon}
use Rattle.hcl_read.specs.declared.frames.Level.{Level}
use Rattle.hcl_read.specs.declared.frames.OperandSide.{OperandSide}
use Rattle.hcl_read.specs.declared.frames.OperandSide.TheVariants.{Left, Right}
use Rattle.hcl_read.specs.declared.frames.Frame.{Frame}
use Rattle.hcl_read.specs.declared.frames.Frame.TheVariants.{Paren, Set, Guard, Value}
use Rattle.hcl_read.specs.declared.frames.ExprState.{ExprState}
use Rattle.hcl_read.specs.declared.frames.ExprState.TheVariants.{Want, WantRight, AfterPrim, After, WantSet, Cases}
use Rattle.hcl_read.specs.declared.state.BodyMove.TheVariants.{On}
use Rattle.hcl_read.specs.declared.state.ItemState.TheVariants.{Between, Body}
use Rattle.hcl_read.specs.declared.state.ReaderState.{ReaderState}
use Rattle.hcl_read.specs.Grammar.{or_of, and_of, branch, Room, IsExpr, OrTail, IsAnd, AndTail, IsNot, IsRel, SetTail, IsPrim, IsCase, CaseTail, IsItem, IsItems, or_list, no_or, more_or, and_list, no_and, more_and, negated, plain, alone, compared, member, no_member, more_members, a_number, a_wide_number, a_name, group, case_list, guarded, no_case, more_cases, quoted, declared, defined, no_item, more_items, IsFile}
use Rattle.hcl_read.specs.Depth.{depth, depth_of, level_behind}
use Rattle.hcl_read.specs.Machine.{level, start_level, once_more_negated, negate, related, put, opened, prim, want, close, after, after_prim, want_set, after_branch, body_step, state, start, moved, place_step, on, run}
use Rattle.hcl_read.proofs.Opened.{opened_room}

-- a text that isn't empty and doesn't begin with a comparison operator
abbrev pub Calm : List Token → Type 0
Calm [] = ⊥
Calm (Compare op ∷ ts) = ⊥
Calm (KeyIn ∷ ts) = ⊥
Calm (t ∷ ts) = Unit {0}

-- a text that isn't empty and doesn't begin with `]`
abbrev pub Begins : List Token → Type 0
Begins [] = ⊥
Begins (CloseBracket ∷ ts) = ⊥
Begins (t ∷ ts) = Unit {0}

-- the state that waits for the operand on a side
abbrev pub asks : OperandSide → Level → ExprState
asks Left l = Want l
asks (Right op left) l = WantRight op left l

module _ {free : ℕ} where
  begins_prim : {d : ℕ} {ts rest : List Token} {e : Expr} → IsPrim free d ts e rest → Begins ts
  begins_prim a_number = tt
  begins_prim (a_wide_number h) = tt
  begins_prim a_name = tt
  begins_prim (group r h) = tt
  begins_prim (case_list r h t) = tt

  begins_rel : {d : ℕ} {ts rest : List Token} {e : Expr} → IsRel free d ts e rest → Begins ts
  begins_rel (alone h) = begins_prim h
  begins_rel (compared h r) = begins_prim h
  begins_rel (member h r e t) = begins_prim h

  begins_not : {d : ℕ} {ts rest : List Token} {e : Expr} → IsNot free d ts e rest → Begins ts
  begins_not (negated r h) = tt
  begins_not (plain h) = begins_rel h

  begins_and : {d : ℕ} {ts rest : List Token} {e : Expr} → IsAnd free d ts e rest → Begins ts
  begins_and (and_list h t) = begins_not h

  begins_expr : {d : ℕ} {ts rest : List Token} {e : Expr} → IsExpr free d ts e rest → Begins ts
  begins_expr (or_list h t) = begins_and h

  begins_case : {d : ℕ} {ts rest : List Token} {b : Branch} → IsCase free d ts b rest → Begins ts
  begins_case (guarded h v) = begins_expr h

  calm_and : {d : ℕ} {ts rest : List Token} {es : List Expr} → AndTail free d ts es rest → Calm rest → Calm ts
  calm_and no_and calm = calm
  calm_and (more_and h t) calm = tt

  calm_or : {d : ℕ} {ts rest : List Token} {es : List Expr} → OrTail free d ts es rest → Calm rest → Calm ts
  calm_or no_or calm = calm
  calm_or (more_or h t) calm = tt

  calm_set : {d : ℕ} {ts rest : List Token} {es : List Expr} → SetTail free d ts es rest → Calm rest → Calm ts
  calm_set no_member calm = calm
  calm_set (more_members h t) calm = tt

-- moving an element from the end of one list to the front of the next doesn't change their concatenation
pub shifted : {A : Type 0} (xs : List A) (x : A) (ys : List A) → (xs ++ x ∷ []) ++ ys ≡ xs ++ x ∷ ys
shifted xs x ys = append_assoc xs (x ∷ []) ys

module _ (free : ℕ) (items : List Item) (kind : Kind) (name : List ℕ) where
  -- the run from a state in the body on
  abbrev Runs : ExprState → List Frame → List Token → Result ReaderState HclWhy
  Runs spot k ts = run free (state items (Body kind name spot k)) ts

  -- an expression is read, up to what follows it
  abbrev ReadsExpr : ExprState → List Frame → List Token → Expr → List Token → Type 0
  ReadsExpr spot k ts e rest = (ands : List Expr) × (ors : List Expr) × (or_of (ors ++ and_of ands ∷ []) ≡ e) × (Runs spot k ts ≡ Runs (After ands ors) k rest)

  -- an operand that no comparison follows is a comparison
  after_alone : (e : Expr) (l : Level) (k : List Frame) (rest : List Token) → Calm rest → Runs (AfterPrim e l) k rest ≡ Runs (related l e) k rest
  unfolding run place_step body_step after_prim related
  after_alone e l k [] calm = absurd calm
  after_alone e l k (Compare op ∷ ts) calm = absurd calm
  after_alone e l k (KeyIn ∷ ts) calm = absurd calm
  after_alone e l k (t ∷ ts) calm = refl

  -- another branch begins
  branch_begins : (side : OperandSide) (bs : List Branch) (l : Level) (k : List Frame) (ts : List Token) → Begins ts → Runs (Cases side bs l) k ts ≡ Runs (Want start_level) (Guard side bs l ∷ k) ts
  unfolding run place_step body_step after_branch
  branch_begins side bs l k [] b = absurd b
  branch_begins side bs l k (CloseBracket ∷ ts) b = absurd b
  branch_begins side bs l k (t ∷ ts) b = refl

  opens : {d : ℕ} (spot : ExprState) (t : Token) (ts : List Token) (l : Level) (k : List Frame) (spot' : ExprState) (k' : List Frame) → depth l k ≡ d → Room free (suc d) (t ∷ ts)
      → body_step (nat_lt free (suc (length ts))) spot k t ≡ opened (nat_lt free (suc (length ts))) l k (On spot' k') → Runs spot k (t ∷ ts) ≡ Runs spot' k' ts
  unfolding run place_step moved
  opens spot t ts l k spot' k' e room same =
      ap (λ r. on (moved items kind name r) (λ next. run free next ts)) (same ∙ opened_room free l k t ts (On spot' k') (subst (λ n. Room free (suc n) (t ∷ ts)) (sym e) room))

  takes : (side : OperandSide) (l : Level) (k : List Frame) (t : Token) (ts : List Token) (e : Expr) → body_step (nat_lt free (suc (length ts))) (asks side l) k t ≡ Ok (On (put side l e) k)
      → Runs (asks side l) k (t ∷ ts) ≡ Runs (put side l e) k ts
  unfolding run place_step moved
  takes side l k t ts e same = ap (λ r. on (moved items kind name r) (λ next. run free next ts)) same

  asks_number : (strict : Bool) (side : OperandSide) (l : Level) (k : List Frame) (n : ℕ) → body_step strict (asks side l) k (Number n) ≡ Ok (On (put side l (expr.Num n)) k)
  unfolding body_step want prim
  asks_number strict Left l k n = refl
  asks_number strict (Right op left) l k n = refl

  asks_name : (strict : Bool) (side : OperandSide) (l : Level) (k : List Frame) (text : List ℕ) → body_step strict (asks side l) k (Ident text) ≡ Ok (On (put side l (expr.Name text)) k)
  unfolding body_step want prim
  asks_name strict Left l k n = refl
  asks_name strict (Right op left) l k n = refl

  asks_wide : (strict : Bool) (side : OperandSide) (l : Level) (k : List Frame) → strict ≡ false → body_step strict (asks side l) k Wide ≡ Ok (On (put side l (expr.Num 0)) k)
  unfolding body_step want prim
  asks_wide strict Left l k e = ap (λ b. cond b (Err NumberTooWide) (Ok (On (put Left l (expr.Num 0)) k))) e
  asks_wide strict (Right op left) l k e = ap (λ b. cond b (Err NumberTooWide) (Ok (On (put (Right op left) l (expr.Num 0)) k))) e

  asks_paren : (strict : Bool) (side : OperandSide) (l : Level) (k : List Frame) → body_step strict (asks side l) k OpenParen ≡ opened strict l k (On (Want start_level) (Paren side l ∷ k))
  unfolding body_step want prim
  asks_paren strict Left l k = refl
  asks_paren strict (Right op left) l k = refl

  asks_bracket : (strict : Bool) (side : OperandSide) (l : Level) (k : List Frame) → body_step strict (asks side l) k OpenBracket ≡ opened strict l k (On (Want start_level) (Guard side [] l ∷ k))
  unfolding body_step want prim
  asks_bracket strict Left l k = refl
  asks_bracket strict (Right op left) l k = refl

  -- the state after a comma, a `:` or `;`, a closing bracket
  comma_read : (ands ors : List Expr) (left : Expr) (es : List Expr) (l : Level) (k : List Frame) (ts : List Token)
      → Runs (After ands ors) (Set left es l ∷ k) (Comma ∷ ts) ≡ Runs (Want start_level) (Set left (es ++ or_of (ors ++ and_of ands ∷ []) ∷ []) l ∷ k) ts
  unfolding run place_step body_step after close moved
  comma_read ands ors left es l k ts = refl

  brace_read : (ands ors : List Expr) (left : Expr) (es : List Expr) (l : Level) (k : List Frame) (ts : List Token)
      → Runs (After ands ors) (Set left es l ∷ k) (CloseBrace ∷ ts) ≡ Runs (related l (expr.In left (es ++ or_of (ors ++ and_of ands ∷ []) ∷ []))) k ts
  unfolding run place_step body_step after close moved
  brace_read ands ors left es l k ts = refl

  paren_read : (ands ors : List Expr) (side : OperandSide) (l : Level) (k : List Frame) (ts : List Token)
      → Runs (After ands ors) (Paren side l ∷ k) (CloseParen ∷ ts) ≡ Runs (put side l (or_of (ors ++ and_of ands ∷ []))) k ts
  unfolding run place_step body_step after close moved
  paren_read ands ors side l k ts = refl

  colon_read : (ands ors : List Expr) (side : OperandSide) (bs : List Branch) (l : Level) (k : List Frame) (ts : List Token)
      → Runs (After ands ors) (Guard side bs l ∷ k) (Colon ∷ ts) ≡ Runs (Want start_level) (Value side bs (or_of (ors ++ and_of ands ∷ [])) l ∷ k) ts
  unfolding run place_step body_step after close moved
  colon_read ands ors side bs l k ts = refl

  branch_read : (ands ors : List Expr) (side : OperandSide) (bs : List Branch) (guard : Expr) (l : Level) (k : List Frame) (ts : List Token)
      → Runs (After ands ors) (Value side bs guard l ∷ k) (Semicolon ∷ ts) ≡ Runs (Cases side (bs ++ branch guard (or_of (ors ++ and_of ands ∷ [])) ∷ []) l) k ts
  unfolding run place_step body_step after close moved
  branch_read ands ors side bs guard l k ts = refl

  body_read : (ands ors : List Expr) (ts : List Token)
      → Runs (After ands ors) [] (Semicolon ∷ ts) ≡ run free (state (items ++ item.Def kind name (or_of (ors ++ and_of ands ∷ [])) ∷ []) Between) ts
  unfolding run place_step body_step after close moved
  body_read ands ors ts = refl

  and_read : (ands ors : List Expr) (k : List Frame) (ts : List Token) → Runs (After ands ors) k (AndAnd ∷ ts) ≡ Runs (Want (level 0 ands ors)) k ts
  unfolding run place_step body_step after moved
  and_read ands ors k ts = refl

  or_read : (ands ors : List Expr) (k : List Frame) (ts : List Token) → Runs (After ands ors) k (OrOr ∷ ts) ≡ Runs (Want (level 0 [] (ors ++ and_of ands ∷ []))) k ts
  unfolding run place_step body_step after moved
  or_read ands ors k ts = refl

  compare_read : (e : Expr) (l : Level) (k : List Frame) (op : CmpOp) (ts : List Token) → Runs (AfterPrim e l) k (Compare op ∷ ts) ≡ Runs (WantRight op e l) k ts
  unfolding run place_step body_step after_prim moved
  compare_read e l k op ts = refl

  in_read : (e : Expr) (l : Level) (k : List Frame) (ts : List Token) → Runs (AfterPrim e l) k (KeyIn ∷ ts) ≡ Runs (WantSet e l) k ts
  unfolding run place_step body_step after_prim moved
  in_read e l k ts = refl

  cases_read : (side : OperandSide) (bs : List Branch) (l : Level) (k : List Frame) (ts : List Token) → Runs (Cases side bs l) k (CloseBracket ∷ ts) ≡ Runs (put side l (expr.Case bs)) k ts
  unfolding run place_step body_step after_branch moved
  cases_read side bs l k ts = refl

  deeper : (l : Level) (k : List Frame) (f : Frame) {d : ℕ} → level_behind f ≡ l → depth l k ≡ d → depth_of (f ∷ k) ≡ suc d
  unfolding depth_of depth
  deeper l k f e h = ap (λ x. suc (x.nots + depth_of k)) e ∙ ap suc h

  no_deeper : (k : List Frame) (ands ors : List Expr) {d : ℕ} → depth_of k ≡ d → depth (level 0 ands ors) k ≡ d
  unfolding depth
  no_deeper k ands ors h = zero-add (depth_of k) ∙ h

  once_deeper : (l : Level) (k : List Frame) {d : ℕ} → depth l k ≡ d → depth (once_more_negated l) k ≡ suc d
  unfolding depth
  once_deeper l k h = omega arith

  bang_read : (strict : Bool) (l : Level) (k : List Frame) → body_step strict (Want l) k Bang ≡ opened strict l k (On (Want (once_more_negated l)) k)
  unfolding body_step want
  bang_read strict l k = refl

  set_opens : (strict : Bool) (e : Expr) (l : Level) (k : List Frame) → body_step strict (WantSet e l) k OpenBrace ≡ opened strict l k (On (Want start_level) (Set e [] l ∷ k))
  unfolding body_step want_set
  set_opens strict e l k = refl

  negation_moves : (l : Level) (e : Expr) → related (once_more_negated l) e ≡ related l (expr.Not e)
  unfolding related negate
  negation_moves l e = refl

  one_operand : (ands ors : List Expr) (e : Expr) → related (level 0 ands ors) e ≡ After (ands ++ e ∷ []) ors
  unfolding related negate
  one_operand ands ors e = refl

  put_left : (l : Level) (e : Expr) → put Left l e ≡ AfterPrim e l
  unfolding put
  put_left l e = refl

  put_right : (op : CmpOp) (left : Expr) (l : Level) (e : Expr) → put (Right op left) l e ≡ related l (expr.Cmp op left e)
  unfolding put
  put_right op left l e = refl

  wide_is_free : (n : ℕ) → suc n ≤ free → nat_lt free (suc n) ≡ false
  wide_is_free n h = grind (arith, nat_tests)

  mutual
    expr_read : {d : ℕ} {ts rest : List Token} {e : Expr} → IsExpr free d ts e rest → (k : List Frame) → depth_of k ≡ d → Calm rest → ReadsExpr (Want start_level) k ts e rest
    expr_read (or_list {es = es} h t) k deep calm =
        let first = and_read_all h k [] deep (calm_or t calm) in
        let more = or_tail_read t k first.0 [] deep calm in
        (more.0, more.1, ap or_of (more.2 ∙ ap (λ x. x ∷ es) first.1), first.2 ∙ more.3)

    or_tail_read : {d : ℕ} {ts rest : List Token} {es : List Expr} → OrTail free d ts es rest → (k : List Frame) (ands ors : List Expr) → depth_of k ≡ d → Calm rest
        → (ands' : List Expr) × (ors' : List Expr) × (ors' ++ and_of ands' ∷ [] ≡ (ors ++ and_of ands ∷ []) ++ es) × (Runs (After ands ors) k ts ≡ Runs (After ands' ors') k rest)
    or_tail_read no_or k ands ors deep calm = (ands, ors, sym (append-nil _), refl)
    or_tail_read (more_or {ts = ts} {e = e} {es = es} h t) k ands ors deep calm =
        let first = and_read_all h k (ors ++ and_of ands ∷ []) deep (calm_or t calm) in
        let more = or_tail_read t k first.0 (ors ++ and_of ands ∷ []) deep calm in (
          more.0,
          more.1,
          more.2 ∙ ap (λ x. ((ors ++ and_of ands ∷ []) ++ x ∷ []) ++ es) first.1 ∙ shifted (ors ++ and_of ands ∷ []) e es,
          or_read ands ors k ts ∙ first.2 ∙ more.3,
        )

    and_read_all : {d : ℕ} {ts rest : List Token} {e : Expr} → IsAnd free d ts e rest → (k : List Frame) (ors : List Expr) → depth_of k ≡ d → Calm rest
        → (ands : List Expr) × (and_of ands ≡ e) × (Runs (Want (level 0 [] ors)) k ts ≡ Runs (After ands ors) k rest)
    and_read_all (and_list {mid = mid} {e = e} h t) k ors deep calm =
        (e ∷ _, refl, not_read h (level 0 [] ors) k (no_deeper k [] ors deep) (calm_and t calm) ∙ ap (λ s. Runs s k mid) (one_operand [] ors e) ∙ and_tail_read t k (e ∷ []) ors deep calm)

    and_tail_read : {d : ℕ} {ts rest : List Token} {es : List Expr} → AndTail free d ts es rest → (k : List Frame) (ands ors : List Expr) → depth_of k ≡ d → Calm rest
        → Runs (After ands ors) k ts ≡ Runs (After (ands ++ es) ors) k rest
    and_tail_read (no_and {ts = ts}) k ands ors deep calm = ap (λ es. Runs (After es ors) k ts) (sym (append-nil ands))
    and_tail_read (more_and {ts = ts} {mid = mid} {rest = rest} {e = e} {es = es} h t) k ands ors deep calm =
        and_read ands ors k ts ∙ not_read h (level 0 ands ors) k (no_deeper k ands ors deep) (calm_and t calm)
        ∙ ap (λ s. Runs s k mid) (one_operand ands ors e) ∙ and_tail_read t k (ands ++ e ∷ []) ors deep calm ∙ ap (λ es. Runs (After es ors) k rest) (shifted ands e es)

    not_read : {d : ℕ} {ts rest : List Token} {e : Expr} → IsNot free d ts e rest → (l : Level) (k : List Frame) → depth l k ≡ d → Calm rest → Runs (Want l) k ts ≡ Runs (related l e) k rest
    not_read (negated {ts = ts} {rest = rest} {e = e} room h) l k deep calm =
        opens (Want l) Bang ts l k (Want (once_more_negated l)) k deep room (bang_read _ l k) ∙ not_read h (once_more_negated l) k (once_deeper l k deep) calm
        ∙ ap (λ s. Runs s k rest) (negation_moves l e)
    not_read (plain h) l k deep calm = rel_read h l k deep calm

    rel_read : {d : ℕ} {ts rest : List Token} {e : Expr} → IsRel free d ts e rest → (l : Level) (k : List Frame) → depth l k ≡ d → Calm rest → Runs (Want l) k ts ≡ Runs (related l e) k rest
    rel_read (alone {rest = rest} {e = e} h) l k deep calm =
        prim_read h Left l k deep ∙ ap (λ s. Runs s k rest) (put_left l e) ∙ after_alone e l k rest calm
    rel_read (compared {mid = mid} {rest = rest} {op = op} {left = left} {right = right} h r) l k deep calm =
        prim_read h Left l k deep ∙ ap (λ s. Runs s k (Compare op ∷ mid)) (put_left l left) ∙ compare_read left l k op mid ∙ prim_read r (Right op left) l k deep
        ∙ ap (λ s. Runs s k rest) (put_right op left l right)
    rel_read (member {inside = inside} {rest = rest} {left = left} {e = e} {es = es} h room first t) l k deep calm =
        let one = expr_read first (Set left [] l ∷ k) (deeper l k (Set left [] l) refl deep) (calm_set t tt) in
        let all = set_tail_read t left l k [] one.0 one.1 (ap suc deep) tt in
        prim_read h Left l k deep ∙ ap (λ s. Runs s k (KeyIn ∷ OpenBrace ∷ inside)) (put_left l left) ∙ in_read left l k (OpenBrace ∷ inside)
        ∙ opens (WantSet left l) OpenBrace inside l k (Want start_level) (Set left [] l ∷ k) deep room (set_opens _ left l k)
        ∙ one.3 ∙ all.4 ∙ brace_read all.0 all.1 left all.2 l k rest ∙ ap (λ ms. Runs (related l (expr.In left ms)) k rest) (all.3 ∙ ap (λ x. x ∷ es) one.2)

    set_tail_read : {d : ℕ} {ts rest : List Token} {es : List Expr} → SetTail free d ts es rest → (left : Expr) (l : Level) (k : List Frame) (ms ands ors : List Expr) → suc (depth l k) ≡ d → Calm rest
        → (ands' : List Expr) × (ors' : List Expr) × (ms' : List Expr) × (ms' ++ or_of (ors' ++ and_of ands' ∷ []) ∷ [] ≡ (ms ++ or_of (ors ++ and_of ands ∷ []) ∷ []) ++ es)
        × (Runs (After ands ors) (Set left ms l ∷ k) ts ≡ Runs (After ands' ors') (Set left ms' l ∷ k) rest)
    set_tail_read no_member left l k ms ands ors deep calm = (ands, ors, ms, sym (append-nil _), refl)
    set_tail_read (more_members {ts = ts} {e = e} {es = es} h t) left l k ms ands ors deep calm =
        let before = ms ++ or_of (ors ++ and_of ands ∷ []) ∷ [] in
        let one = expr_read h (Set left before l ∷ k) (deeper l k (Set left before l) refl refl ∙ deep) (calm_set t calm) in
        let all = set_tail_read t left l k before one.0 one.1 deep calm in
        (all.0, all.1, all.2, all.3 ∙ ap (λ x. (before ++ x ∷ []) ++ es) one.2 ∙ shifted before e es, comma_read ands ors left ms l k ts ∙ one.3 ∙ all.4)

    prim_read : {d : ℕ} {ts rest : List Token} {e : Expr} → IsPrim free d ts e rest → (side : OperandSide) (l : Level) (k : List Frame) → depth l k ≡ d → Runs (asks side l) k ts ≡ Runs (put side l e) k rest
    prim_read (a_number {n = n} {rest = rest}) side l k deep = takes side l k (Number n) rest (expr.Num n) (asks_number _ side l k n)
    prim_read (a_wide_number {rest = rest} h) side l k deep = takes side l k Wide rest (expr.Num 0) (asks_wide _ side l k (wide_is_free (length rest) h))
    prim_read (a_name {text = text} {rest = rest}) side l k deep = takes side l k (Ident text) rest (expr.Name text) (asks_name _ side l k text)
    prim_read (group {ts = ts} {rest = rest} room h) side l k deep =
        let inside = expr_read h (Paren side l ∷ k) (deeper l k (Paren side l) refl deep) tt in
        opens (asks side l) OpenParen ts l k (Want start_level) (Paren side l ∷ k) deep room (asks_paren _ side l k)
        ∙ inside.3 ∙ paren_read inside.0 inside.1 side l k rest ∙ ap (λ e. Runs (put side l e) k rest) inside.2
    prim_read (case_list {ts = ts} {rest = rest} {b = b} {bs = bs} room h t) side l k deep =
        opens (asks side l) OpenBracket ts l k (Want start_level) (Guard side [] l ∷ k) deep room (asks_bracket _ side l k)
        ∙ case_read h side [] l k (ap suc deep) ∙ case_tail_read t side (b ∷ []) l k (ap suc deep) ∙ cases_read side (b ∷ bs) l k rest

    case_read : {d : ℕ} {ts rest : List Token} {b : Branch} → IsCase free d ts b rest → (side : OperandSide) (bs : List Branch) (l : Level) (k : List Frame) → suc (depth l k) ≡ d
        → Runs (Want start_level) (Guard side bs l ∷ k) ts ≡ Runs (Cases side (bs ++ b ∷ []) l) k rest
    case_read (guarded {mid = mid} {rest = rest} {guard = guard} {value = value} h v) side bs l k deep =
        let g = expr_read h (Guard side bs l ∷ k) (deeper l k (Guard side bs l) refl refl ∙ deep) tt in
        let x = expr_read v (Value side bs guard l ∷ k) (deeper l k (Value side bs guard l) refl refl ∙ deep) tt in
        g.3 ∙ colon_read g.0 g.1 side bs l k mid ∙ ap (λ y. Runs (Want start_level) (Value side bs y l ∷ k) mid) g.2
        ∙ x.3 ∙ branch_read x.0 x.1 side bs guard l k rest ∙ ap (λ y. Runs (Cases side (bs ++ branch guard y ∷ []) l) k rest) x.2

    case_tail_read : {d : ℕ} {ts rest : List Token} {bs : List Branch} → CaseTail free d ts bs rest → (side : OperandSide) (before : List Branch) (l : Level) (k : List Frame) → suc (depth l k) ≡ d
        → Runs (Cases side before l) k ts ≡ Runs (Cases side (before ++ bs) l) k rest
    case_tail_read (no_case {ts = ts}) side before l k deep = ap (λ bs. Runs (Cases side bs l) k ts) (sym (append-nil before))
    case_tail_read (more_cases {ts = ts} {rest = rest} {b = b} {bs = bs} h t) side before l k deep =
        branch_begins side before l k ts (begins_case h) ∙ case_read h side before l k deep ∙ case_tail_read t side (before ++ b ∷ []) l k deep
        ∙ ap (λ bs. Runs (Cases side bs l) k rest) (shifted before b bs)

  -- the body of a definition, with its `;`
  pub body_is_read : {ts rest : List Token} {body : Expr} → IsExpr free 0 ts body (Semicolon ∷ rest)
      → Runs (Want start_level) [] ts ≡ run free (state (items ++ item.Def kind name body ∷ []) Between) rest
  unfolding depth_of
  body_is_read {ts} {rest} h =
      let b = expr_read h [] refl tt in
      b.3 ∙ body_read b.0 b.1 rest ∙ ap (λ e. run free (state (items ++ item.Def kind name e ∷ []) Between) rest) b.2

module _ {free : ℕ} where
  item_read : {ts rest : List Token} {i : Item} → IsItem free ts i rest → (items : List Item) → run free (state items Between) ts ≡ run free (state (items ++ i ∷ []) Between) rest
  unfolding run place_step
  item_read quoted items = refl
  item_read declared items = refl
  item_read (defined {kind = kind} {name = name} h) items = body_is_read free items kind name h

  items_read : {ts : List Token} {is : List Item} → IsItems free ts is → (items : List Item) → run free (state items Between) ts ≡ Ok (state (items ++ is) Between)
  unfolding run
  items_read no_item items = ap (λ x. Ok (state x Between)) (sym (append-nil items))
  items_read (more_items {i = i} {is = is} h t) items = item_read h items ∙ items_read t (items ++ i ∷ []) ∙ ap (λ x. Ok (state x Between)) (shifted items i is)

  pub file_read : (ts : List Token) (f : File) → IsFile free ts f → run free start ts ≡ Ok (state f.items Between)
  file_read ts f h = items_read h []
