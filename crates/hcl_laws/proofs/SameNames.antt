-- A printed file has the names of the text that was read.
use Rattle.std.proofs.Common.{◌≡◌, sym, subst, ℕ, Bool, true, false, cond, List, [], ◌∷◌, map, refl, nat_lt, not-suc-le-zero}
use Rattle.hcl_tree.specs.declared.tree.Branch.{Branch}
use Rattle.hcl_tree.specs.declared.tree.Expr.{Expr}
use Rattle.hcl_tree.specs.declared.tree.Expr.TheVariants as expr
use Rattle.hcl_tree.specs.declared.tree.Item.{Item}
use Rattle.hcl_read.specs.declared.tokens.Token.{Token}
use Rattle.hcl_read.specs.declared.tokens.Token.TheVariants.{KeyQuote, KeySig, KeyDef, KeyIn, Ident, Number, Quoted, Assign, Semicolon, OrOr, AndAnd, Bang, Compare, OpenParen, CloseParen, OpenBrace, CloseBrace, OpenBracket, CloseBracket, Comma, Colon}
use Rattle.hcl_read.specs.Grammar.{or_of, and_of, IsExpr, OrTail, IsAnd, AndTail, IsNot, IsRel, SetTail, IsPrim, IsCase, CaseTail, IsItem, IsItems, or_list, no_or, more_or, and_list, no_and, more_and, negated, plain, alone, compared, member, no_member, more_members, a_number, a_wide_number, a_name, group, case_list, guarded, no_case, more_cases, quoted, declared, defined, no_item, more_items}
use Rattle.hcl_read.specs.Fault.{noted, noted_all}
use Rattle.hcl_laws.proofs.Again.{said_branch_is}
use Rattle.hcl_laws.proofs.Said.{Said, said_as, put_within, put_further, put_joined, put_branches, said, said_branch, said_Num, said_Name, said_Not, said_And, said_Or, said_Cmp, said_In, said_Case, put_item, put_items}

-- two texts have the same names, whatever names came before
abbrev pub Same : List Token → List Token → Type 0
Same ts ts' = (names : List (List ℕ)) → noted_all names ts ≡ noted_all names ts'

-- a token in front of both
same_token : (t : Token) (ts ts' : List Token) → Same ts ts' → Same (t ∷ ts) (t ∷ ts')
unfolding noted_all
same_token t ts ts' s names = s (noted names t)

-- if rest' has the names of rest, then what put makes of rest' has the names of ts
abbrev Keeps : (List Token → List Token) → List Token → List Token → Type 0
Keeps put ts rest = (rest' : List Token) → Same rest rest' → Same ts (put rest')

keeps_as : (e : Expr) (r : ℕ) (put : List Token → List Token) (ts rest : List Token) → said e ≡ said_as r put → Keeps put ts rest → Keeps (said e).put ts rest
keeps_as e r put ts rest same k = subst (λ (s : Said). Keeps s.put ts rest) (sym same) k

within_keeps : (m : ℕ) (e : Expr) (ts rest : List Token) → Keeps (said e).put ts rest → Keeps (put_within m (said e)) ts rest
unfolding put_within noted noted_all
within_keeps m e ts rest k rest' s = go (nat_lt (said e).rank m)
  where
    go : (b : Bool) → Same ts (cond b (OpenParen ∷ (said e).put (CloseParen ∷ rest')) ((said e).put rest'))
    go true names = k (CloseParen ∷ rest') s names
    go false names = k rest' s names

-- parentheses of the source have no names
group_keeps : (e : Expr) (ts rest : List Token) → Keeps (said e).put ts (CloseParen ∷ rest) → Keeps (said e).put (OpenParen ∷ ts) rest
unfolding noted noted_all
group_keeps e ts rest k rest' s names = k rest' s names

or_keeps : (e : Expr) (es : List Expr) (ts mid rest : List Token) → Keeps (said e).put ts mid → Keeps (put_further OrOr 1 (map said es)) mid rest → Keeps (said (or_of (e ∷ es))).put ts rest
unfolding put_joined put_further
or_keeps e [] ts mid rest k t = λ rest' s. k rest' (t rest' s)
or_keeps e (x ∷ es) ts mid rest k t =
    keeps_as (expr.Or (e ∷ x ∷ es)) 0 _ ts rest (said_Or (e ∷ x ∷ es)) (λ rest' s. within_keeps 1 e ts mid k (put_further OrOr 1 (map said (x ∷ es)) rest') (t rest' s))

and_keeps : (e : Expr) (es : List Expr) (ts mid rest : List Token) → Keeps (said e).put ts mid → Keeps (put_further AndAnd 2 (map said es)) mid rest → Keeps (said (and_of (e ∷ es))).put ts rest
unfolding put_joined put_further
and_keeps e [] ts mid rest k t = λ rest' s. k rest' (t rest' s)
and_keeps e (x ∷ es) ts mid rest k t =
    keeps_as (expr.And (e ∷ x ∷ es)) 1 _ ts rest (said_And (e ∷ x ∷ es)) (λ rest' s. within_keeps 2 e ts mid k (put_further AndAnd 2 (map said (x ∷ es)) rest') (t rest' s))

further_keeps : (separator : Token) (m : ℕ) (e : Expr) (es : List Expr) (ts mid rest : List Token) → Keeps (said e).put ts mid → Keeps (put_further separator m (map said es)) mid rest
    → Keeps (put_further separator m (map said (e ∷ es))) (separator ∷ ts) rest
unfolding put_further
further_keeps separator m e es ts mid rest k t rest' s = same_token separator ts _ (within_keeps m e ts mid k (put_further separator m (map said es) rest') (t rest' s))

none_further : (separator : Token) (m : ℕ) (ts : List Token) → Keeps (put_further separator m (map said [])) ts ts
unfolding put_further
none_further separator m ts rest' s = s

mutual
  unfolding put_joined put_branches

  expr_keeps : {d : ℕ} {ts rest : List Token} {e : Expr} → IsExpr 0 d ts e rest → Keeps (said e).put ts rest
  expr_keeps (or_list {ts = ts} {mid = mid} {rest = rest} {e = e} {es = es} h t) = or_keeps e es ts mid rest (and_kept h) (or_tail_keeps t)

  or_tail_keeps : {d : ℕ} {ts rest : List Token} {es : List Expr} → OrTail 0 d ts es rest → Keeps (put_further OrOr 1 (map said es)) ts rest
  or_tail_keeps (no_or {ts = ts}) = none_further OrOr 1 ts
  or_tail_keeps (more_or {ts = ts} {mid = mid} {rest = rest} {e = e} {es = es} h t) = further_keeps OrOr 1 e es ts mid rest (and_kept h) (or_tail_keeps t)

  and_kept : {d : ℕ} {ts rest : List Token} {e : Expr} → IsAnd 0 d ts e rest → Keeps (said e).put ts rest
  and_kept (and_list {ts = ts} {mid = mid} {rest = rest} {e = e} {es = es} h t) = and_keeps e es ts mid rest (not_keeps h) (and_tail_keeps t)

  and_tail_keeps : {d : ℕ} {ts rest : List Token} {es : List Expr} → AndTail 0 d ts es rest → Keeps (put_further AndAnd 2 (map said es)) ts rest
  and_tail_keeps (no_and {ts = ts}) = none_further AndAnd 2 ts
  and_tail_keeps (more_and {ts = ts} {mid = mid} {rest = rest} {e = e} {es = es} h t) = further_keeps AndAnd 2 e es ts mid rest (not_keeps h) (and_tail_keeps t)

  not_keeps : {d : ℕ} {ts rest : List Token} {e : Expr} → IsNot 0 d ts e rest → Keeps (said e).put ts rest
  not_keeps (negated {ts = ts} {rest = rest} {e = e} room h) =
      keeps_as (expr.Not e) 2 _ (Bang ∷ ts) rest (said_Not e) (λ rest' s. same_token Bang ts _ (within_keeps 2 e ts rest (not_keeps h) rest' s))
  not_keeps (plain h) = rel_keeps h

  rel_keeps : {d : ℕ} {ts rest : List Token} {e : Expr} → IsRel 0 d ts e rest → Keeps (said e).put ts rest
  rel_keeps (alone h) = prim_keeps h
  rel_keeps (compared {ts = ts} {mid = mid} {rest = rest} {op = op} {left = left} {right = right} h r) =
      keeps_as (expr.Cmp op left right) 3 _ ts rest (said_Cmp op left right)
      (λ rest' s. within_keeps 4 left ts (Compare op ∷ mid) (prim_keeps h) _ (same_token (Compare op) mid _ (within_keeps 4 right mid rest (prim_keeps r) rest' s)))
  rel_keeps (member {ts = ts} {inside = inside} {mid = mid} {rest = rest} {left = left} {e = e} {es = es} h room i t) =
      keeps_as (expr.In left (e ∷ es)) 3 _ ts rest (said_In left (e ∷ es))
      (λ rest' s. within_keeps 4 left ts (KeyIn ∷ OpenBrace ∷ inside) (prim_keeps h) _
      (same_token KeyIn (OpenBrace ∷ inside) _ (same_token OpenBrace inside _
      (within_keeps 0 e inside mid (expr_keeps i) _ (set_tail_keeps t (CloseBrace ∷ rest') (same_token CloseBrace rest rest' s))))))

  set_tail_keeps : {d : ℕ} {ts rest : List Token} {es : List Expr} → SetTail 0 d ts es rest → Keeps (put_further Comma 0 (map said es)) ts rest
  set_tail_keeps (no_member {ts = ts}) = none_further Comma 0 ts
  set_tail_keeps (more_members {ts = ts} {mid = mid} {rest = rest} {e = e} {es = es} h t) = further_keeps Comma 0 e es ts mid rest (expr_keeps h) (set_tail_keeps t)

  prim_keeps : {d : ℕ} {ts rest : List Token} {e : Expr} → IsPrim 0 d ts e rest → Keeps (said e).put ts rest
  prim_keeps (a_number {n = n} {rest = rest}) = keeps_as (expr.Num n) 4 _ (Number n ∷ rest) rest (said_Num n) (λ rest' s. same_token (Number n) rest rest' s)
  prim_keeps (a_wide_number {rest = rest} h) = absurd (not-suc-le-zero h)
  prim_keeps (a_name {text = text} {rest = rest}) = keeps_as (expr.Name text) 4 _ (Ident text ∷ rest) rest (said_Name text) (λ rest' s. same_token (Ident text) rest rest' s)
  prim_keeps (group {ts = ts} {rest = rest} {e = e} room h) = group_keeps e ts rest (expr_keeps h)
  prim_keeps (case_list {ts = ts} {mid = mid} {rest = rest} {b = b} {bs = bs} room h t) =
      keeps_as (expr.Case (b ∷ bs)) 4 _ (OpenBracket ∷ ts) rest (said_Case (b ∷ bs))
      (λ rest' s. same_token OpenBracket ts _ (case_keeps h _ (case_tail_keeps t (CloseBracket ∷ rest') (same_token CloseBracket rest rest' s))))

  case_keeps : {d : ℕ} {ts rest : List Token} {b : Branch} → IsCase 0 d ts b rest → Keeps (said_branch b) ts rest
  case_keeps (guarded {ts = ts} {mid = mid} {rest = rest} {guard = guard} {value = value} g v) =
      subst (λ (put : List Token → List Token). Keeps put ts rest) (sym (said_branch_is guard value))
      (λ rest' s. expr_keeps g _ (same_token Colon mid _ (expr_keeps v _ (same_token Semicolon rest rest' s))))

  case_tail_keeps : {d : ℕ} {ts rest : List Token} {bs : List Branch} → CaseTail 0 d ts bs rest → Keeps (put_branches (map said_branch bs)) ts rest
  case_tail_keeps (no_case {ts = ts}) = λ rest' s. s
  case_tail_keeps (more_cases h t) = λ rest' s. case_keeps h _ (case_tail_keeps t rest' s)

item_keeps : {ts rest : List Token} {i : Item} → IsItem 0 ts i rest → Keeps (put_item i) ts rest
item_keeps (quoted {text = text} {rest = rest}) rest' s = same_token KeyQuote (Quoted text ∷ rest) _ (same_token (Quoted text) rest rest' s)
item_keeps (declared {kind = kind} {name = name} {text = text} {rest = rest}) rest' s =
    same_token (KeySig kind) (Ident name ∷ Quoted text ∷ rest) _ (same_token (Ident name) (Quoted text ∷ rest) _ (same_token (Quoted text) rest rest' s))
item_keeps (defined {kind = kind} {name = name} {ts = ts} {rest = rest} h) rest' s =
    same_token (KeyDef kind) (Ident name ∷ Assign ∷ ts) _ (same_token (Ident name) (Assign ∷ ts) _ (same_token Assign ts _ (expr_keeps h _ (same_token Semicolon rest rest' s))))

pub items_keep : {ts : List Token} {is : List Item} → IsItems 0 ts is → Same ts (put_items is)
unfolding put_items
items_keep no_item = λ names. refl
items_keep (more_items {is = is} h t) = item_keeps h (put_items is) (items_keep t)
