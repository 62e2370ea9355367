-- The tokens of a printed file, and that a printed file is read again.
use Rattle.std.proofs.Common.{◌≡◌, ◌<◌, ◌≤◌, ◌^◌, ap, sym, subst, ◌∙◌, ℕ, Bool, true, false, cond, List, [], ◌∷◌, ◌++◌, length, map, refl, nat_lt, append_assoc, codes, not-suc-le-zero, arith}
use Rattle.std.proofs.lemmas.Bool.{false≢true}
use Rattle.std.specs.Prelude.{◌==◌}
use Rattle.std.specs.List.{list_all}
use Rattle.std.proofs.lemmas.Bool.Decides.{nat_tests}
use Rattle.y86_base.specs.Text.{begins, is_letter}
use Rattle.y86_base.specs.Keyword.{meaning_of}
use Rattle.std.specs.List.{AllByRecursion}
use Rattle.hcl_tree.specs.declared.tree.Kind.{Kind}
use Rattle.hcl_tree.specs.declared.tree.Kind.TheVariants.{Word, Bool as Truth}
use Rattle.hcl_tree.specs.declared.tree.CmpOp.{CmpOp}
use Rattle.hcl_tree.specs.declared.tree.CmpOp.TheVariants.{Eq, Ne, Lt, Le, Gt, Ge}
use Rattle.hcl_tree.specs.declared.tree.Branch.{Branch}
use Rattle.hcl_tree.specs.declared.tree.Expr.{Expr}
use Rattle.hcl_tree.specs.declared.tree.Expr.TheVariants as expr
use Rattle.hcl_tree.specs.declared.tree.Item.{Item}
use Rattle.hcl_read.specs.declared.tokens.Token.{Token}
use Rattle.hcl_read.specs.declared.tokens.Token.TheVariants.{KeyQuote, KeySig, KeyDef, KeyIn, Ident, Quoted, Assign, Semicolon, OrOr, AndAnd, Bang, Compare, OpenParen, CloseParen, OpenBrace, OpenBracket, Comma, Colon}
use Rattle.hcl_read.specs.Grammar.{or_of, and_of, branch, IsExpr, OrTail, IsAnd, AndTail, IsNot, IsRel, SetTail, IsPrim, IsCase, CaseTail, IsItem, IsItems, or_list, no_or, more_or, and_list, no_and, more_and, negated, plain, alone, compared, member, no_member, more_members, a_number, a_wide_number, a_name, group, case_list, guarded, no_case, more_cases, quoted, declared, defined, no_item, more_items}
use Rattle.hcl_read.specs.Tokens.{is_quoted, tokens}
use Rattle.hcl_tree.specs.declared.tree.File.{File}
use Rattle.hcl_read.specs.Fault.{Accepts}
use Rattle.hcl_read.specs.Read.{ReadsAs}
use Rattle.hcl_print.specs.Print.{ShownTerm, shown_as, within, further, joined, operator, branches, shown, branch_text, signal_word, kind_word, item_text, printed}
use Rattle.hcl_laws.proofs.SameNames.{items_keep}
use Rattle.hcl_laws.proofs.Said.{Said, said_as, put_within, put_further, put_joined, put_branches, said, said_branch, said_Num, said_Name, said_Not, said_And, said_Or, said_Cmp, said_In, said_Case, put_item, put_items}
use Rattle.hcl_laws.proofs.ShownAs.{shown_Num, shown_Name, shown_Not, shown_And, shown_Or, shown_Cmp, shown_In, shown_Case, shown_branch}
use Rattle.hcl_laws.proofs.Again.{items_again, said_branch_is}
use Rattle.hcl_laws.proofs.Good.{Good, AllGood, good_tokens}
use Rattle.hcl_laws.proofs.Spelled.{Ends, space, line_feed, open_paren, close_paren, open_brace, close_brace, open_bracket, close_bracket, semicolon, comma, colon, assign, bang, or_or, and_and, compare, word_step, quoted_step, signed_step, signed_begins, nothing_left}

-- a text that isn't empty and doesn't begin with `=`
abbrev Starts : List ℕ → Type 0
Starts text = (x : ℕ) × (xs : List ℕ) × (text ≡ x ∷ xs) × ((x == 61) ≡ false)

-- the text of an expression has its tokens
record Spells (e : Expr) : Type 0 where
  same_rank : (shown e).rank ≡ (said e).rank
  starts : Starts (shown e).text
  spelled : (rest : List ℕ) → Ends rest → tokens ((shown e).text ++ rest) ≡ (said e).put (tokens rest)

spells_as : (e : Expr) (r : ℕ) (text : List ℕ) (put : List Token → List Token) → shown e ≡ shown_as r text → said e ≡ said_as r put → Starts text
    → ((rest : List ℕ) → Ends rest → tokens (text ++ rest) ≡ put (tokens rest)) → Spells e
spells_as e r text put h i starts spelled = record {
  same_rank = ap (λ (s : ShownTerm). s.rank) h ∙ sym (ap (λ (s : Said). s.rank) i);
  starts = subst (λ (s : ShownTerm). Starts s.text) (sym h) starts;
  spelled = λ rest ends. ap (λ (s : ShownTerm). tokens (s.text ++ rest)) h ∙ spelled rest ends ∙ ap (λ (s : Said). s.put (tokens rest)) (sym i);
}

as3 : (a b c : List ℕ) → (a ++ b) ++ c ≡ a ++ (b ++ c)
as3 a b c = append_assoc a b c

as4 : (a b c d : List ℕ) → ((a ++ b) ++ c) ++ d ≡ a ++ (b ++ (c ++ d))
as4 a b c d = append_assoc (a ++ b) c d ∙ append_assoc a b (c ++ d)

as5 : (a b c d e : List ℕ) → (((a ++ b) ++ c) ++ d) ++ e ≡ a ++ (b ++ (c ++ (d ++ e)))
as5 a b c d e = append_assoc ((a ++ b) ++ c) d e ∙ as4 a b c (d ++ e)

as6 : (a b c d e f : List ℕ) → ((((a ++ b) ++ c) ++ d) ++ e) ++ f ≡ a ++ (b ++ (c ++ (d ++ (e ++ f))))
as6 a b c d e f = append_assoc (((a ++ b) ++ c) ++ d) e f ∙ as5 a b c d (e ++ f)

within_spells : (m : ℕ) (e : Expr) → Spells e → (rest : List ℕ) → Ends rest → tokens (within m (shown e) ++ rest) ≡ put_within m (said e) (tokens rest)
unfolding within put_within
within_spells m e s rest ends =
    go (nat_lt (shown e).rank m) ∙ ap (λ r. cond (nat_lt r m) (OpenParen ∷ (said e).put (CloseParen ∷ tokens rest)) ((said e).put (tokens rest))) s.same_rank
  where
    text : List ℕ
    text = (shown e).text

    go : (b : Bool) → tokens (cond b (codes "(" ++ text ++ codes ")") text ++ rest) ≡ cond b (OpenParen ∷ (said e).put (CloseParen ∷ tokens rest)) ((said e).put (tokens rest))
    go true =
        open_paren ((text ++ codes ")") ++ rest)
        ∙ ap (λ ts. OpenParen ∷ ts) (ap tokens (as3 text (codes ")") rest) ∙ s.spelled (41 ∷ rest) refl ∙ ap (said e).put (close_paren rest))
    go false = s.spelled rest ends

within_starts : (m : ℕ) (e : Expr) → Spells e → Starts (within m (shown e))
unfolding within
within_starts m e s = go (nat_lt (shown e).rank m)
  where
    go : (b : Bool) → Starts (cond b (codes "(" ++ (shown e).text ++ codes ")") (shown e).text)
    go true = (40, (shown e).text ++ codes ")", refl, refl)
    go false = s.starts

starts_more : (text more : List ℕ) → Starts text → Starts (text ++ more)
starts_more text more s = (s.0, s.1 ++ more, ap (λ t. t ++ more) s.2, s.3)

-- a separator with its token
record Separates (separator : List ℕ) (t : Token) : Type 0 where
  steps : (rest : List ℕ) → tokens (separator ++ rest) ≡ t ∷ tokens rest
  ends : (rest : List ℕ) → Ends (separator ++ rest)

further_ends : (separator : List ℕ) (t : Token) (m : ℕ) → Separates separator t → (es : List Expr) (rest : List ℕ) → Ends rest → Ends (further separator m (map shown es) ++ rest)
unfolding further
further_ends separator t m s [] rest ends = ends
further_ends separator t m s (e ∷ es) rest ends =
    subst Ends (sym (as4 separator (within m (shown e)) (further separator m (map shown es)) rest)) (s.ends (within m (shown e) ++ (further separator m (map shown es) ++ rest)))

further_spells : (separator : List ℕ) (t : Token) (m : ℕ) → Separates separator t → (es : List Expr) → AllByRecursion Spells es → (rest : List ℕ) → Ends rest
    → tokens (further separator m (map shown es) ++ rest) ≡ put_further t m (map said es) (tokens rest)
unfolding further put_further
further_spells separator t m s [] h rest ends = refl
further_spells separator t m s (e ∷ es) h rest ends =
    let behind : List ℕ = further separator m (map shown es) ++ rest in
    ap tokens (as4 separator (within m (shown e)) (further separator m (map shown es)) rest)
    ∙ s.steps (within m (shown e) ++ behind)
    ∙ ap (λ ts. t ∷ ts) (within_spells m e h.0 behind (further_ends separator t m s es rest ends) ∙ ap (put_within m (said e)) (further_spells separator t m s es h.1 rest ends))

joined_spells : (separator : List ℕ) (t : Token) (m : ℕ) → Separates separator t → (e : Expr) (es : List Expr) → Spells e → AllByRecursion Spells es → (rest : List ℕ) → Ends rest
    → tokens (joined separator m (map shown (e ∷ es)) ++ rest) ≡ put_joined t m (map said (e ∷ es)) (tokens rest)
unfolding joined put_joined
joined_spells separator t m s e es h more rest ends =
    ap tokens (as3 (within m (shown e)) (further separator m (map shown es)) rest)
    ∙ within_spells m e h (further separator m (map shown es) ++ rest) (further_ends separator t m s es rest ends)
    ∙ ap (put_within m (said e)) (further_spells separator t m s es more rest ends)

joined_starts : (separator : List ℕ) (m : ℕ) (e : Expr) (es : List Expr) → Spells e → Starts (joined separator m (map shown (e ∷ es)))
unfolding joined
joined_starts separator m e es h = starts_more (within m (shown e)) (further separator m (map shown es)) (within_starts m e h)

or_separates : Separates (codes " || ") OrOr
or_separates = record { steps = or_or; ends = λ rest. refl }

and_separates : Separates (codes " && ") AndAnd
and_separates = record { steps = and_and; ends = λ rest. refl }

comma_separates : Separates (codes ", ") Comma
comma_separates = record { steps = λ rest. comma (32 ∷ rest) ∙ ap (λ ts. Comma ∷ ts) (space rest); ends = λ rest. refl }

spells_or : (e : Expr) (es : List Expr) → Spells e → AllByRecursion Spells es → Spells (or_of (e ∷ es))
spells_or e [] h all = h
spells_or e (x ∷ es) h more =
    spells_as (expr.Or (e ∷ x ∷ es)) 0 _ _ (shown_Or (e ∷ x ∷ es)) (said_Or (e ∷ x ∷ es)) (joined_starts (codes " || ") 1 e (x ∷ es) h) (joined_spells (codes " || ") OrOr 1 or_separates e (x ∷ es) h more)

spells_and : (e : Expr) (es : List Expr) → Spells e → AllByRecursion Spells es → Spells (and_of (e ∷ es))
spells_and e [] h all = h
spells_and e (x ∷ es) h more =
    spells_as (expr.And (e ∷ x ∷ es)) 1 _ _ (shown_And (e ∷ x ∷ es)) (said_And (e ∷ x ∷ es)) (joined_starts (codes " && ") 2 e (x ∷ es) h) (joined_spells (codes " && ") AndAnd 2 and_separates e (x ∷ es) h more)

spells_not : (e : Expr) → Spells e → Spells (expr.Not e)
spells_not e h = spells_as (expr.Not e) 2 _ _ (shown_Not e) (said_Not e) (33, within 2 (shown e), refl, refl) (λ rest ends. step rest ∙ ap (λ ts. Bang ∷ ts) (within_spells 2 e h rest ends))
  where
    step : (rest : List ℕ) → tokens (33 ∷ within 2 (shown e) ++ rest) ≡ Bang ∷ tokens (within 2 (shown e) ++ rest)
    step rest =
        let w = within_starts 2 e h in
        subst (λ text. tokens (33 ∷ text ++ rest) ≡ Bang ∷ tokens (text ++ rest)) (sym w.2) (bang w.0 (w.1 ++ rest) w.3)

spells_compare : (op : CmpOp) (left right : Expr) → Spells left → Spells right → Spells (expr.Cmp op left right)
spells_compare op left right l r =
    spells_as (expr.Cmp op left right) 3 _ _ (shown_Cmp op left right) (said_Cmp op left right)
    (starts_more (within 4 (shown left) ++ operator op) (within 4 (shown right)) (starts_more (within 4 (shown left)) (operator op) (within_starts 4 left l)))
    (λ rest ends.
    ap tokens (as4 (within 4 (shown left)) (operator op) (within 4 (shown right)) rest)
    ∙ within_spells 4 left l (operator op ++ (within 4 (shown right) ++ rest)) (blank_first op (within 4 (shown right) ++ rest))
    ∙ ap (put_within 4 (said left)) (compare op (within 4 (shown right) ++ rest) ∙ ap (λ ts. Compare op ∷ ts) (within_spells 4 right r rest ends)))
  where
    blank_first : (op : CmpOp) (rest : List ℕ) → Ends (operator op ++ rest)
    blank_first Eq rest = refl
    blank_first Ne rest = refl
    blank_first Lt rest = refl
    blank_first Le rest = refl
    blank_first Gt rest = refl
    blank_first Ge rest = refl

in_opens : (rest : List ℕ) → tokens (codes " in { " ++ rest) ≡ KeyIn ∷ OpenBrace ∷ tokens rest
unfolding meaning_of
in_opens rest =
    space _ ∙ word_step (codes "in") (32 ∷ 123 ∷ 32 ∷ rest) refl refl refl
    ∙ ap (λ ts. KeyIn ∷ ts) (space _ ∙ open_brace (32 ∷ rest) ∙ ap (λ ts. OpenBrace ∷ ts) (space rest))

spells_in : (left e : Expr) (es : List Expr) → Spells left → Spells e → AllByRecursion Spells es → Spells (expr.In left (e ∷ es))
spells_in left e es l h more =
    let inside : List ℕ = joined (codes ", ") 0 (map shown (e ∷ es)) in
    spells_as (expr.In left (e ∷ es)) 3 _ _ (shown_In left (e ∷ es)) (said_In left (e ∷ es))
    (starts_more ((within 4 (shown left) ++ codes " in { ") ++ inside) (codes " }")
    (starts_more (within 4 (shown left) ++ codes " in { ") inside (starts_more (within 4 (shown left)) (codes " in { ") (within_starts 4 left l))))
    (λ rest ends.
    ap tokens (as5 (within 4 (shown left)) (codes " in { ") inside (codes " }") rest)
    ∙ within_spells 4 left l (codes " in { " ++ (inside ++ (codes " }" ++ rest))) refl
    ∙ ap (put_within 4 (said left)) (in_opens (inside ++ (codes " }" ++ rest))
    ∙ ap (λ ts. KeyIn ∷ OpenBrace ∷ ts) (joined_spells (codes ", ") Comma 0 comma_separates e es h more (32 ∷ 125 ∷ rest) refl
    ∙ ap (put_joined Comma 0 (map said (e ∷ es))) (space _ ∙ close_brace rest))))

-- a branch of a case list
abbrev SpellsBranch : Branch → Type 0
SpellsBranch b = (rest : List ℕ) → tokens (branch_text b ++ rest) ≡ said_branch b (tokens rest)

spells_branch : (guard value : Expr) → Spells guard → Spells value → SpellsBranch (branch guard value)
spells_branch guard value g v rest =
    ap (λ text. tokens (text ++ rest)) (shown_branch guard value)
    ∙ ap tokens (as5 (shown guard).text (codes " : ") (shown value).text (codes "; ") rest)
    ∙ g.spelled (codes " : " ++ ((shown value).text ++ (codes "; " ++ rest))) refl
    ∙ ap (said guard).put (space _ ∙ colon _ ∙ ap (λ ts. Colon ∷ ts) (space _ ∙ v.spelled (codes "; " ++ rest) refl ∙ ap (said value).put (semicolon _ ∙ ap (λ ts. Semicolon ∷ ts) (space rest))))
    ∙ ap (λ (put : List Token → List Token). put (tokens rest)) (sym (said_branch_is guard value))

branches_spell : (bs : List Branch) → AllByRecursion SpellsBranch bs → (rest : List ℕ) → tokens (branches (map branch_text bs) ++ rest) ≡ put_branches (map said_branch bs) (tokens rest)
unfolding branches put_branches
branches_spell [] h rest = refl
branches_spell (b ∷ bs) h rest =
    ap tokens (as3 (branch_text b) (branches (map branch_text bs)) rest) ∙ h.0 (branches (map branch_text bs) ++ rest) ∙ ap (said_branch b) (branches_spell bs h.1 rest)

spells_case : (bs : List Branch) → AllByRecursion SpellsBranch bs → Spells (expr.Case bs)
spells_case bs all =
    let inside : List ℕ = branches (map branch_text bs) in
    spells_as (expr.Case bs) 4 _ _ (shown_Case bs) (said_Case bs) (91, 32 ∷ inside ++ codes "]", refl, refl)
    (λ rest ends.
    open_bracket _ ∙ ap (λ ts. OpenBracket ∷ ts) (space _ ∙ ap tokens (as3 inside (codes "]") rest) ∙ branches_spell bs all (93 ∷ rest) ∙ ap (put_branches (map said_branch bs)) (close_bracket rest)))

spells_number : (n : ℕ) → n < 2 ^ 64 → Spells (expr.Num n)
spells_number n h = spells_as (expr.Num n) 4 _ _ (shown_Num n) (said_Num n) (signed_begins n h) (λ rest ends. signed_step n rest h ends)

letter_first : (name : List ℕ) → begins is_letter name ≡ true → Starts name
letter_first [] e = absurd (false≢true e)
letter_first (byte ∷ bytes) e = (byte, bytes, refl, no_sign byte e)
  where
    no_sign : (byte : ℕ) → is_letter byte ≡ true → (byte == 61) ≡ false
    no_sign byte e = grind (arith, nat_tests)

name_spelled : (name rest : List ℕ) → Good (Ident name) → Ends rest → tokens (name ++ rest) ≡ Ident name ∷ tokens rest
name_spelled name rest good ends = word_step name rest good.0 good.1 ends ∙ ap (λ t. t ∷ tokens rest) good.2

spells_name : (name : List ℕ) → Good (Ident name) → Spells (expr.Name name)
spells_name name good = spells_as (expr.Name name) 4 _ _ (shown_Name name) (said_Name name) (letter_first name good.0) (λ rest ends. name_spelled name rest good ends)

mutual
  expr_spells : {d : ℕ} {ts rest : List Token} {e : Expr} → IsExpr 0 d ts e rest → AllGood ts → Spells e × AllGood rest
  expr_spells (or_list {e = e} {es = es} h t) good =
      let a = and_spells h good in
      let b = or_tail_spells t a.1 in
      (spells_or e es a.0 b.0, b.1)

  or_tail_spells : {d : ℕ} {ts rest : List Token} {es : List Expr} → OrTail 0 d ts es rest → AllGood ts → AllByRecursion Spells es × AllGood rest
  or_tail_spells no_or good = (tt, good)
  or_tail_spells (more_or h t) good =
      let a = and_spells h good.1 in
      let b = or_tail_spells t a.1 in
      ((a.0, b.0), b.1)

  and_spells : {d : ℕ} {ts rest : List Token} {e : Expr} → IsAnd 0 d ts e rest → AllGood ts → Spells e × AllGood rest
  and_spells (and_list {e = e} {es = es} h t) good =
      let a = not_spells h good in
      let b = and_tail_spells t a.1 in
      (spells_and e es a.0 b.0, b.1)

  and_tail_spells : {d : ℕ} {ts rest : List Token} {es : List Expr} → AndTail 0 d ts es rest → AllGood ts → AllByRecursion Spells es × AllGood rest
  and_tail_spells no_and good = (tt, good)
  and_tail_spells (more_and h t) good =
      let a = not_spells h good.1 in
      let b = and_tail_spells t a.1 in
      ((a.0, b.0), b.1)

  not_spells : {d : ℕ} {ts rest : List Token} {e : Expr} → IsNot 0 d ts e rest → AllGood ts → Spells e × AllGood rest
  not_spells (negated {e = e} room h) good =
      let a = not_spells h good.1 in
      (spells_not e a.0, a.1)
  not_spells (plain h) good = rel_spells h good

  rel_spells : {d : ℕ} {ts rest : List Token} {e : Expr} → IsRel 0 d ts e rest → AllGood ts → Spells e × AllGood rest
  rel_spells (alone h) good = prim_spells h good
  rel_spells (compared {op = op} {left = left} {right = right} h r) good =
      let a = prim_spells h good in
      let b = prim_spells r a.1.1 in
      (spells_compare op left right a.0 b.0, b.1)
  rel_spells (member {left = left} {e = e} {es = es} h room i t) good =
      let a = prim_spells h good in
      let b = expr_spells i a.1.1.1 in
      let c = set_tail_spells t b.1 in
      (spells_in left e es a.0 b.0 c.0, c.1.1)

  set_tail_spells : {d : ℕ} {ts rest : List Token} {es : List Expr} → SetTail 0 d ts es rest → AllGood ts → AllByRecursion Spells es × AllGood rest
  set_tail_spells no_member good = (tt, good)
  set_tail_spells (more_members h t) good =
      let a = expr_spells h good.1 in
      let b = set_tail_spells t a.1 in
      ((a.0, b.0), b.1)

  prim_spells : {d : ℕ} {ts rest : List Token} {e : Expr} → IsPrim 0 d ts e rest → AllGood ts → Spells e × AllGood rest
  prim_spells (a_number {n = n}) good = (spells_number n good.0, good.1)
  prim_spells (a_wide_number h) good = absurd (not-suc-le-zero h)
  prim_spells (a_name {text = text}) good = (spells_name text good.0, good.1)
  prim_spells (group room h) good =
      let a = expr_spells h good.1 in
      (a.0, a.1.1)
  prim_spells (case_list {b = b} {bs = bs} room h t) good =
      let a = case_spells h good.1 in
      let c = case_tail_spells t a.1 in
      (spells_case (b ∷ bs) (a.0, c.0), c.1.1)

  case_spells : {d : ℕ} {ts rest : List Token} {b : Branch} → IsCase 0 d ts b rest → AllGood ts → SpellsBranch b × AllGood rest
  case_spells (guarded {guard = guard} {value = value} g v) good =
      let a = expr_spells g good in
      let c = expr_spells v a.1.1 in
      (spells_branch guard value a.0 c.0, c.1.1)

  case_tail_spells : {d : ℕ} {ts rest : List Token} {bs : List Branch} → CaseTail 0 d ts bs rest → AllGood ts → AllByRecursion SpellsBranch bs × AllGood rest
  case_tail_spells no_case good = (tt, good)
  case_tail_spells (more_cases h t) good =
      let a = case_spells h good in
      let c = case_tail_spells t a.1 in
      ((a.0, c.0), c.1)

signal_spelled : (kind : Kind) (rest : List ℕ) → tokens (signal_word kind ++ rest) ≡ KeySig kind ∷ tokens rest
unfolding meaning_of
signal_spelled Word rest = word_step (codes "wordsig") (32 ∷ rest) refl refl refl ∙ ap (λ ts. KeySig Word ∷ ts) (space rest)
signal_spelled Truth rest = word_step (codes "boolsig") (32 ∷ rest) refl refl refl ∙ ap (λ ts. KeySig Truth ∷ ts) (space rest)

kind_spelled : (kind : Kind) (rest : List ℕ) → tokens (kind_word kind ++ rest) ≡ KeyDef kind ∷ tokens rest
unfolding meaning_of
kind_spelled Word rest = word_step (codes "word") (32 ∷ rest) refl refl refl ∙ ap (λ ts. KeyDef Word ∷ ts) (space rest)
kind_spelled Truth rest = word_step (codes "bool") (32 ∷ rest) refl refl refl ∙ ap (λ ts. KeyDef Truth ∷ ts) (space rest)

-- a quoted text at the end of a line
quote_spelled : (text rest : List ℕ) → list_all is_quoted text ≡ true → tokens (39 ∷ text ++ (39 ∷ 10 ∷ rest)) ≡ Quoted text ∷ tokens rest
quote_spelled text rest all = quoted_step text (10 ∷ rest) all ∙ ap (λ ts. Quoted text ∷ ts) (line_feed rest)

item_spells : {ts behind : List Token} {i : Item} → IsItem 0 ts i behind → AllGood ts → (rest : List ℕ) → tokens (item_text i ++ rest) ≡ put_item i (tokens rest)
unfolding item_text meaning_of
item_spells (quoted {text = text}) good rest =
    ap (λ xs. tokens (codes "quote '" ++ xs)) (as3 text (codes "'\n") rest)
    ∙ word_step (codes "quote") (32 ∷ 39 ∷ text ++ (39 ∷ 10 ∷ rest)) refl refl refl
    ∙ ap (λ ts. KeyQuote ∷ ts) (space _ ∙ quote_spelled text rest good.1.0)
item_spells (declared {kind = kind} {name = name} {text = text}) good rest =
    ap tokens (as6 (signal_word kind) name (codes " '") text (codes "'\n") rest)
    ∙ signal_spelled kind (name ++ (codes " '" ++ (text ++ (codes "'\n" ++ rest))))
    ∙ ap (λ ts. KeySig kind ∷ ts) (name_spelled name (32 ∷ 39 ∷ text ++ (39 ∷ 10 ∷ rest)) good.1.0 refl ∙ ap (λ ts. Ident name ∷ ts) (space _ ∙ quote_spelled text rest good.1.1.0))
item_spells (defined {kind = kind} {name = name} {body = body} h) good rest =
    ap tokens (as6 (kind_word kind) name (codes " = ") (shown body).text (codes ";\n") rest)
    ∙ kind_spelled kind (name ++ (codes " = " ++ ((shown body).text ++ (codes ";\n" ++ rest))))
    ∙ ap (λ ts. KeyDef kind ∷ ts) (name_spelled name (codes " = " ++ ((shown body).text ++ (codes ";\n" ++ rest))) good.1.0 refl
    ∙ ap (λ ts. Ident name ∷ ts) (space _ ∙ assign ((shown body).text ++ (codes ";\n" ++ rest))
    ∙ ap (λ ts. Assign ∷ ts) ((expr_spells h good.1.1.1).0.spelled (codes ";\n" ++ rest) refl ∙ ap (said body).put (semicolon _ ∙ ap (λ ts. Semicolon ∷ ts) (line_feed rest)))))

item_rest : {ts behind : List Token} {i : Item} → IsItem 0 ts i behind → AllGood ts → AllGood behind
item_rest quoted good = good.1.1
item_rest declared good = good.1.1.1
item_rest (defined h) good = (expr_spells h good.1.1.1).1.1

pub items_spell : {ts : List Token} {is : List Item} → IsItems 0 ts is → AllGood ts → tokens (printed is) ≡ put_items is
unfolding printed put_items
items_spell no_item good = nothing_left
items_spell (more_items {i = i} {is = is} h t) good = item_spells h good (printed is) ∙ ap (put_item i) (items_spell t (item_rest h good))

-- ---- a printed file is read again

pub printed_again : (text : List ℕ) (f : File) → ReadsAs text f → ReadsAs (printed f.items) f
printed_again text f a =
    subst (λ ts. Accepts ts f) (sym (items_spell a.0 (good_tokens text)))
    (items_again a.0, subst (λ names. length names ≤ 256) (items_keep a.0 []) a.1)
