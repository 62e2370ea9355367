-- A printed file is read again as the same tree, with the same names.
use Rattle.std.proofs.Common.{◌≡◌, ◌≤◌, sym, subst, ℕ, zero, suc, Bool, true, false, cond, List, [], ◌∷◌, map, refl, inl, inr, arith, le_refl, le_trans, suc-le-suc, not-suc-le-zero, nat_lt, zero-le, le_of_lt, lit≤}
use Rattle.std.specs.Prelude.{◌⊎◌}
use Rattle.std.proofs.lemmas.Bool.Decides.{nat_tests}
use Rattle.std.specs.List.{AllByRecursion}
use Rattle.hcl_tree.specs.declared.tree.CmpOp.{CmpOp}
use Rattle.hcl_tree.specs.declared.tree.Branch.{Branch, fold_out-Branch}
use Rattle.hcl_tree.specs.declared.tree.Expr.{Expr}
use Rattle.hcl_tree.specs.declared.tree.Expr.TheVariants as expr
use Rattle.hcl_tree.specs.declared.tree.Item.{Item}
use Rattle.hcl_read.specs.declared.tokens.Token.{Token}
use Rattle.hcl_read.specs.declared.tokens.Token.TheVariants.{KeyIn, Semicolon, OrOr, AndAnd, Bang, Compare, OpenParen, CloseParen, OpenBrace, CloseBrace, OpenBracket, CloseBracket, Comma, Colon}
use Rattle.hcl_read.specs.Grammar.{or_of, and_of, branch, Room, IsExpr, OrTail, IsAnd, AndTail, IsNot, IsRel, SetTail, IsPrim, IsCase, CaseTail, IsItem, IsItems, or_list, no_or, more_or, and_list, no_and, more_and, negated, plain, alone, compared, member, no_member, more_members, a_number, a_wide_number, a_name, group, case_list, guarded, no_case, more_cases, quoted, declared, defined, no_item, more_items}
use Rattle.hcl_laws.proofs.Said.{Said, said_as, put_within, put_further, put_joined, put_branches, said_layer, branch_layer, said, said_branch, said_Num, said_Name, said_Not, said_And, said_Or, said_Cmp, said_In, said_Case, put_item, put_items}

-- an expression of a rank is read by the nonterminal of that rank
abbrev pub ByRank : ℕ → ℕ → List Token → Expr → List Token → Type 0
ByRank zero d ts e rest = IsExpr 0 d ts e rest
ByRank (suc zero) d ts e rest = IsAnd 0 d ts e rest
ByRank (suc (suc zero)) d ts e rest = IsNot 0 d ts e rest
ByRank (suc (suc (suc zero))) d ts e rest = IsRel 0 d ts e rest
ByRank (suc (suc (suc (suc n)))) d ts e rest = IsPrim 0 d ts e rest

-- and by each of a lesser rank
less : (r d : ℕ) (ts : List Token) (e : Expr) (rest : List Token) → ByRank (suc r) d ts e rest → ByRank r d ts e rest
less zero d ts e rest h = or_list h no_or
less (suc zero) d ts e rest h = and_list h no_and
less (suc (suc zero)) d ts e rest h = plain h
less (suc (suc (suc zero))) d ts e rest h = alone h
less (suc (suc (suc (suc n)))) d ts e rest h = h

down : (r m d : ℕ) (ts : List Token) (e : Expr) (rest : List Token) → m ≤ r → ByRank r d ts e rest → ByRank m d ts e rest
down zero m d ts e rest le h = subst (λ x. ByRank x d ts e rest) (least m le) h
  where
    least : (m : ℕ) → m ≤ zero → zero ≡ m
    least m le = omega arith
down (suc r) m d ts e rest le h = go (last r m le) (λ l. down r m d ts e rest l (less r d ts e rest h))
  where
    last : (r m : ℕ) → m ≤ suc r → (suc r ≡ m) ⊎ (m ≤ r)
    last r m le = grind arith

    go : (suc r ≡ m) ⊎ (m ≤ r) → (m ≤ r → ByRank m d ts e rest) → ByRank m d ts e rest
    go (inl same) f = subst (λ x. ByRank x d ts e rest) same h
    go (inr l) f = f l

-- the tokens of an expression are read at a depth
abbrev pub Own : ℕ → Expr → Type 0
Own d e = (rest : List Token) → ByRank (said e).rank d ((said e).put rest) e rest

-- the expression is read at each depth up to d; if its rank is below m, also one level deeper, as within parentheses
abbrev pub Fine : ℕ → ℕ → Expr → Type 0
Fine m d e = (d0 : ℕ) → d0 ≤ d → Own d0 e × (nat_lt (said e).rank m ≡ true → Own (suc d0) e × (suc d0 ≤ 64))

fine_as : (m d r : ℕ) (e : Expr) (put : List Token → List Token) → said e ≡ said_as r put → nat_lt r m ≡ false
    → ((d0 : ℕ) → d0 ≤ d → (rest : List Token) → ByRank r d0 (put rest) e rest) → Fine m d e
fine_as m d r e put same enough reads d0 le = (
  (λ rest. subst (λ (s : Said). ByRank s.rank d0 (s.put rest) e rest) (sym same) (reads d0 le rest)),
  λ under. absurd (no (nat_lt r m) enough (subst (λ (s : Said). nat_lt s.rank m ≡ true) same under)),
)
  where
    no : (b : Bool) → b ≡ false → b ≡ true → ⊥
    no b e f = cc

fine_less : (m n d : ℕ) (e : Expr) → n ≤ m → Fine m d e → Fine n d e
fine_less m n d e le fine d0 h =
    let f = fine d0 h in
    (f.0, λ under. f.1 (weaker (said e).rank m n le under))
  where
    weaker : (r m n : ℕ) → n ≤ m → nat_lt r n ≡ true → nat_lt r m ≡ true
    weaker r m n le under = grind (arith, nat_tests)

reads : (m d : ℕ) (e : Expr) → m ≤ 4 → Fine m d e → (rest : List Token) → ByRank m d (put_within m (said e) rest) e rest
unfolding put_within
reads m d e most fine rest = go (nat_lt (said e).rank m) refl
  where
    f : Own d e × (nat_lt (said e).rank m ≡ true → Own (suc d) e × (suc d ≤ 64))
    f = fine d (le_refl d)

    enough : (r m : ℕ) → nat_lt r m ≡ false → m ≤ r
    enough r m e = grind (arith, nat_tests)

    go : (b : Bool) → nat_lt (said e).rank m ≡ b → ByRank m d (cond b (OpenParen ∷ (said e).put (CloseParen ∷ rest)) ((said e).put rest)) e rest
    go true under = down 4 m d (OpenParen ∷ (said e).put (CloseParen ∷ rest)) e rest most (group (inl (f.1 under).1) (down (said e).rank 0 (suc d) ((said e).put (CloseParen ∷ rest)) e (CloseParen ∷ rest) zero-le ((f.1 under).0 (CloseParen ∷ rest))))
    go false more = down (said e).rank m d ((said e).put rest) e rest (enough (said e).rank m more) (f.0 rest)

pub said_branch_is : (guard value : Expr) → said_branch (branch guard value) ≡ (λ rest. (said guard).put (Colon ∷ (said value).put (Semicolon ∷ rest)))
said_branch_is guard value = fold_out-Branch Said (List Token → List Token) said_layer branch_layer (branch guard value)

fine_at : (m d d0 : ℕ) (e : Expr) → d0 ≤ d → Fine m d e → Fine m d0 e
fine_at m d d0 e le fine d1 h = fine d1 (le_trans h le)

reads_at : (m d d0 : ℕ) (e : Expr) → m ≤ 4 → d0 ≤ d → Fine m d e → (rest : List Token) → ByRank m d0 (put_within m (said e) rest) e rest
reads_at m d d0 e most le fine rest = reads m d0 e most (fine_at m d d0 e le fine) rest

or_tail_reads : (d d0 : ℕ) → d0 ≤ d → (es : List Expr) → AllByRecursion (Fine 1 d) es → (rest : List Token) → OrTail 0 d0 (put_further OrOr 1 (map said es) rest) es rest
unfolding put_further
or_tail_reads d d0 le [] h rest = no_or
or_tail_reads d d0 le (e ∷ es) h rest = more_or (reads_at 1 d d0 e (lit≤ tt) le h.0 (put_further OrOr 1 (map said es) rest)) (or_tail_reads d d0 le es h.1 rest)

and_tail_reads : (d d0 : ℕ) → d0 ≤ d → (es : List Expr) → AllByRecursion (Fine 2 d) es → (rest : List Token) → AndTail 0 d0 (put_further AndAnd 2 (map said es) rest) es rest
unfolding put_further
and_tail_reads d d0 le [] h rest = no_and
and_tail_reads d d0 le (e ∷ es) h rest = more_and (reads_at 2 d d0 e (lit≤ tt) le h.0 (put_further AndAnd 2 (map said es) rest)) (and_tail_reads d d0 le es h.1 rest)

set_tail_reads : (d d0 : ℕ) → d0 ≤ d → (es : List Expr) → AllByRecursion (Fine 0 d) es → (rest : List Token) → SetTail 0 d0 (put_further Comma 0 (map said es) rest) es rest
unfolding put_further
set_tail_reads d d0 le [] h rest = no_member
set_tail_reads d d0 le (e ∷ es) h rest = more_members (reads_at 0 d d0 e zero-le le h.0 (put_further Comma 0 (map said es) rest)) (set_tail_reads d d0 le es h.1 rest)

fine_or : (d : ℕ) (e : Expr) (es : List Expr) → Fine 1 d e → AllByRecursion (Fine 1 d) es → Fine 0 d (or_of (e ∷ es))
unfolding put_joined
fine_or d e [] f all = fine_less 1 0 d e zero-le f
fine_or d e (x ∷ es) f more =
    fine_as 0 d 0 (expr.Or (e ∷ x ∷ es)) _ (said_Or (e ∷ x ∷ es)) refl
    (λ d0 le rest. or_list (reads_at 1 d d0 e (lit≤ tt) le f (put_further OrOr 1 (map said (x ∷ es)) rest)) (or_tail_reads d d0 le (x ∷ es) more rest))

fine_and : (d : ℕ) (e : Expr) (es : List Expr) → Fine 2 d e → AllByRecursion (Fine 2 d) es → Fine 1 d (and_of (e ∷ es))
unfolding put_joined
fine_and d e [] f all = fine_less 2 1 d e (lit≤ tt) f
fine_and d e (x ∷ es) f more =
    fine_as 1 d 1 (expr.And (e ∷ x ∷ es)) _ (said_And (e ∷ x ∷ es)) refl
    (λ d0 le rest. and_list (reads_at 2 d d0 e (lit≤ tt) le f (put_further AndAnd 2 (map said (x ∷ es)) rest)) (and_tail_reads d d0 le (x ∷ es) more rest))

-- a bracket that is allowed at a depth is allowed at any lesser depth
room_at : (d d0 : ℕ) (t : Token) (ts ts' : List Token) → d0 ≤ d → Room 0 (suc d) (t ∷ ts) → Room 0 (suc d0) (t ∷ ts')
room_at d d0 t ts ts' le (inl h) = inl (le_trans (suc-le-suc le) h)
room_at d d0 t ts ts' le (inr h) = absurd (not-suc-le-zero h)

within_64 : (d : ℕ) (t : Token) (ts : List Token) → Room 0 (suc d) (t ∷ ts) → suc d ≤ 64
within_64 d t ts (inl h) = h
within_64 d t ts (inr h) = absurd (not-suc-le-zero h)

-- each branch of a case list, read at any depth up to this one
abbrev FineBranch : ℕ → Branch → Type 0
FineBranch d b = (d0 : ℕ) → d0 ≤ d → (rest : List Token) → IsCase 0 d0 (said_branch b rest) b rest

case_tail_reads : (d d0 : ℕ) → d0 ≤ d → (bs : List Branch) → AllByRecursion (FineBranch d) bs → (rest : List Token) → CaseTail 0 d0 (put_branches (map said_branch bs) rest) bs rest
unfolding put_branches
case_tail_reads d d0 le [] h rest = no_case
case_tail_reads d d0 le (b ∷ bs) h rest = more_cases (h.0 d0 le (put_branches (map said_branch bs) rest)) (case_tail_reads d d0 le bs h.1 rest)

fine_branch : (d : ℕ) (guard value : Expr) → Fine 0 d guard → Fine 0 d value → FineBranch d (branch guard value)
unfolding put_within
fine_branch d guard value g v d0 le rest =
    subst (λ (put : List Token → List Token). IsCase 0 d0 (put rest) (branch guard value) rest) (sym (said_branch_is guard value))
    (guarded (down (said guard).rank 0 d0 _ guard (Colon ∷ (said value).put (Semicolon ∷ rest)) zero-le ((g d0 le).0 (Colon ∷ (said value).put (Semicolon ∷ rest))))
    (down (said value).rank 0 d0 _ value (Semicolon ∷ rest) zero-le ((v d0 le).0 (Semicolon ∷ rest))))

fine_not : (d : ℕ) (e : Expr) (ts : List Token) → Room 0 (suc d) (Bang ∷ ts) → Fine 2 (suc d) e → Fine 2 d (expr.Not e)
fine_not d e ts room f =
    fine_as 2 d 2 (expr.Not e) _ (said_Not e) refl
    (λ d0 le rest. negated (room_at d d0 Bang ts _ le room) (reads_at 2 (suc d) (suc d0) e (lit≤ tt) (suc-le-suc le) f rest))

fine_compare : (d : ℕ) (op : CmpOp) (left right : Expr) → Fine 4 d left → Fine 4 d right → Fine 3 d (expr.Cmp op left right)
fine_compare d op left right l r =
    fine_as 3 d 3 (expr.Cmp op left right) _ (said_Cmp op left right) refl
    (λ d0 le rest. compared (reads_at 4 d d0 left (le_refl 4) le l (Compare op ∷ put_within 4 (said right) rest)) (reads_at 4 d d0 right (le_refl 4) le r rest))

fine_in : (d : ℕ) (left e : Expr) (es : List Expr) (ts : List Token) → Fine 4 d left → Room 0 (suc d) (OpenBrace ∷ ts) → Fine 0 (suc d) e → AllByRecursion (Fine 0 (suc d)) es → Fine 3 d (expr.In left (e ∷ es))
unfolding put_joined
fine_in d left e es ts l room f more =
    fine_as 3 d 3 (expr.In left (e ∷ es)) _ (said_In left (e ∷ es)) refl
    (λ d0 le rest. member (reads_at 4 d d0 left (le_refl 4) le l (KeyIn ∷ OpenBrace ∷ put_within 0 (said e) (put_further Comma 0 (map said es) (CloseBrace ∷ rest)))) (room_at d d0 OpenBrace ts _ le room)
    (reads_at 0 (suc d) (suc d0) e zero-le (suc-le-suc le) f (put_further Comma 0 (map said es) (CloseBrace ∷ rest))) (set_tail_reads (suc d) (suc d0) (suc-le-suc le) es more (CloseBrace ∷ rest)))

fine_case : (d : ℕ) (b : Branch) (bs : List Branch) (ts : List Token) → Room 0 (suc d) (OpenBracket ∷ ts) → FineBranch (suc d) b → AllByRecursion (FineBranch (suc d)) bs → Fine 4 d (expr.Case (b ∷ bs))
unfolding put_branches
fine_case d b bs ts room f more =
    fine_as 4 d 4 (expr.Case (b ∷ bs)) _ (said_Case (b ∷ bs)) refl
    (λ d0 le rest. case_list (room_at d d0 OpenBracket ts _ le room) (f (suc d0) (suc-le-suc le) (put_branches (map said_branch bs) (CloseBracket ∷ rest)))
    (case_tail_reads (suc d) (suc d0) (suc-le-suc le) bs more (CloseBracket ∷ rest)))

-- parentheses of the source are left out or printed again
fine_group : (d : ℕ) (e : Expr) (ts : List Token) → Room 0 (suc d) (OpenParen ∷ ts) → Fine 0 (suc d) e → Fine 4 d e
fine_group d e ts room f d0 le =
    ((f d0 (le_trans le (le_of_lt (le_refl (suc d))))).0, λ under. ((f (suc d0) (suc-le-suc le)).0, le_trans (suc-le-suc le) (within_64 d OpenParen ts room)))

mutual
  again_expr : {d : ℕ} {ts rest : List Token} {e : Expr} → IsExpr 0 d ts e rest → Fine 0 d e
  again_expr (or_list {depth = d} {e = e} {es = es} h t) = fine_or d e es (again_and h) (again_or_tail t)

  again_or_tail : {d : ℕ} {ts rest : List Token} {es : List Expr} → OrTail 0 d ts es rest → AllByRecursion (Fine 1 d) es
  again_or_tail no_or = tt
  again_or_tail (more_or h t) = (again_and h, again_or_tail t)

  again_and : {d : ℕ} {ts rest : List Token} {e : Expr} → IsAnd 0 d ts e rest → Fine 1 d e
  again_and (and_list {depth = d} {e = e} {es = es} h t) = fine_and d e es (again_not h) (again_and_tail t)

  again_and_tail : {d : ℕ} {ts rest : List Token} {es : List Expr} → AndTail 0 d ts es rest → AllByRecursion (Fine 2 d) es
  again_and_tail no_and = tt
  again_and_tail (more_and h t) = (again_not h, again_and_tail t)

  again_not : {d : ℕ} {ts rest : List Token} {e : Expr} → IsNot 0 d ts e rest → Fine 2 d e
  again_not (negated {depth = d} {ts = ts} {e = e} room h) = fine_not d e ts room (again_not h)
  again_not (plain {depth = d} {e = e} h) = fine_less 3 2 d e (lit≤ tt) (again_rel h)

  again_rel : {d : ℕ} {ts rest : List Token} {e : Expr} → IsRel 0 d ts e rest → Fine 3 d e
  again_rel (alone {depth = d} {e = e} h) = fine_less 4 3 d e (lit≤ tt) (again_prim h)
  again_rel (compared {depth = d} {op = op} {left = left} {right = right} h r) = fine_compare d op left right (again_prim h) (again_prim r)
  again_rel (member {depth = d} {inside = inside} {left = left} {e = e} {es = es} h room i t) = fine_in d left e es inside (again_prim h) room (again_expr i) (again_set_tail t)

  again_set_tail : {d : ℕ} {ts rest : List Token} {es : List Expr} → SetTail 0 d ts es rest → AllByRecursion (Fine 0 d) es
  again_set_tail no_member = tt
  again_set_tail (more_members h t) = (again_expr h, again_set_tail t)

  again_prim : {d : ℕ} {ts rest : List Token} {e : Expr} → IsPrim 0 d ts e rest → Fine 4 d e
  again_prim (a_number {depth = d} {n = n}) = fine_as 4 d 4 (expr.Num n) _ (said_Num n) refl (λ d0 le rest. a_number)
  again_prim (a_wide_number h) = absurd (not-suc-le-zero h)
  again_prim (a_name {depth = d} {text = text}) = fine_as 4 d 4 (expr.Name text) _ (said_Name text) refl (λ d0 le rest. a_name)
  again_prim (group {depth = d} {ts = ts} {e = e} room h) = fine_group d e ts room (again_expr h)
  again_prim (case_list {depth = d} {ts = ts} {b = b} {bs = bs} room h t) = fine_case d b bs ts room (again_case h) (again_case_tail t)

  again_case : {d : ℕ} {ts rest : List Token} {b : Branch} → IsCase 0 d ts b rest → FineBranch d b
  again_case (guarded {depth = d} {guard = guard} {value = value} g v) = fine_branch d guard value (again_expr g) (again_expr v)

  again_case_tail : {d : ℕ} {ts rest : List Token} {bs : List Branch} → CaseTail 0 d ts bs rest → AllByRecursion (FineBranch d) bs
  again_case_tail no_case = tt
  again_case_tail (more_cases h t) = (again_case h, again_case_tail t)

item_again : {ts rest : List Token} {i : Item} → IsItem 0 ts i rest → (rest' : List Token) → IsItem 0 (put_item i rest') i rest'
item_again quoted rest' = quoted
item_again declared rest' = declared
item_again (defined {body = body} h) rest' =
    defined (down (said body).rank 0 0 ((said body).put (Semicolon ∷ rest')) body (Semicolon ∷ rest') zero-le ((again_expr h 0 zero-le).0 (Semicolon ∷ rest')))

pub items_again : {ts : List Token} {is : List Item} → IsItems 0 ts is → IsItems 0 (put_items is) is
unfolding put_items
items_again no_item = no_item
items_again (more_items {is = is} h t) = more_items (item_again h (put_items is)) (items_again t)
