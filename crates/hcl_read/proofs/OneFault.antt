-- A text has at most one fault.
use Rattle.std.proofs.Common.{◌≡◌, ◌≤◌, ap, sym, subst, ◌∙◌, ℕ, suc, Bool, true, false, cond, List, [], ◌∷◌, ◌++◌, length, drop, Result, Ok, Err, refl, arith, nat_lt, zero-le, le_trans, length-append}
use Rattle.std.specs.Prelude.{nat_le}
use Rattle.std.proofs.lemmas.Bool.Decides.{nat_tests}
use Rattle.std.proofs.lemmas.List.{append_cancel_right}
use Rattle.hcl_tree.specs.declared.tree.Expr.{Expr}
use Rattle.hcl_tree.specs.declared.tree.Item.{Item}
use Rattle.hcl_tree.specs.declared.tree.File.{File}
use Rattle.hcl_read.specs.declared.fault.HclFault.{HclFault}
use Rattle.hcl_read.specs.declared.fault.HclWhy.{HclWhy}
use Rattle.hcl_read.specs.declared.fault.HclWhy.TheVariants as whys
use Rattle.hcl_read.specs.declared.tokens.Token.{Token}
use Rattle.hcl_read.specs.declared.tokens.Token.TheVariants.{Wide, Bad}
use Rattle.hcl_read.specs.declared.frames.Frame.{Frame}
use Rattle.hcl_read.specs.declared.frames.Frame.TheVariants.{Paren, Set, Guard, Value}
use Rattle.hcl_read.specs.declared.frames.ExprState.{ExprState}
use Rattle.hcl_read.specs.declared.frames.ExprState.TheVariants.{Want, WantRight, AfterPrim, After, WantSet, Cases}
use Rattle.hcl_read.specs.declared.state.ItemState.{ItemState}
use Rattle.hcl_read.specs.declared.state.ItemState.TheVariants.{Between, WantQuote, WantSignal, WantSignalText, WantName, WantAssign, Body}
use Rattle.hcl_read.specs.declared.state.ReaderState.{ReaderState}
use Rattle.hcl_read.specs.Fault.{Accepts, noted, noted_all, NamesFit, Viable, IsViableWithin, GoesOnWith, Reason, FaultAt}
use Rattle.y86_base.specs.Cursor.{line_behind, column_behind}
use Rattle.hcl_read.specs.Tokens.{items, tokens}
use Rattle.hcl_read.specs.Read.{IsFault, ReadsAs, kinds, bytes_from}
use Rattle.hcl_read.specs.Machine.{refusal, prim, want, close, after, after_prim, want_set, after_branch, body_step, moved, place_step, step, run, ended, Outcome, at_end, outcome_at, outcome, start}
use Rattle.hcl_read.proofs.Exact.{Answers, answers, no_ok, same_ok, on_ok, strict_in_front, viable_reads, reads_viable, stands_steps, steps_stands, one_more_read, names_of_more, all_noted_grows, no_fault}
use Rattle.hcl_read.proofs.Told.{Told, told_step}

-- a bad byte is refused everywhere
close_bad : (e : Expr) (k : List Frame) → close e k Bad ≡ Err whys.BadByte
unfolding close refusal
close_bad e [] = refl
close_bad e (Paren side l ∷ k) = refl
close_bad e (Set left es l ∷ k) = refl
close_bad e (Guard side bs l ∷ k) = refl
close_bad e (Value side bs guard l ∷ k) = refl

body_bad : (strict : Bool) (spot : ExprState) (k : List Frame) → body_step strict spot k Bad ≡ Err whys.BadByte
unfolding body_step want prim after_prim after want_set after_branch refusal
body_bad strict (Want l) k = refl
body_bad strict (WantRight op left l) k = refl
body_bad strict (AfterPrim e l) k = close_bad _ k
body_bad strict (After ands ors) k = close_bad _ k
body_bad strict (WantSet e l) k = refl
body_bad strict (Cases side bs l) k = refl

place_bad : (strict : Bool) (items : List Item) (place : ItemState) → place_step strict items place Bad ≡ Err whys.BadByte
unfolding place_step refusal moved
place_bad strict items Between = refl
place_bad strict items WantQuote = refl
place_bad strict items (WantSignal kind) = refl
place_bad strict items (WantSignalText kind name) = refl
place_bad strict items (WantName kind) = refl
place_bad strict items (WantAssign kind name) = refl
place_bad strict items (Body kind name spot k) = ap (moved items kind name) (body_bad strict spot k)

same_err : {A : Type 0} (x y : HclWhy) → (let r : Result A HclWhy = Err x in r ≡ Err y) → x ≡ y
same_err x y e = cc

bad_is_not_wide : (t : Token) → t ≡ Bad → t ≡ Wide → ⊥
bad_is_not_wide t e f = cc

-- a number adds no name
nameless : (x : Token) → x ≡ Wide → (names : List (List ℕ)) → noted names x ≡ names
unfolding noted
nameless x w names = ap (noted names) w

module _ (front : List Token) (s : ReaderState) (e : run 0 start front ≡ Ok s) (fit : NamesFit front) (t : Token) where
  no_step : (loose : Result ReaderState HclWhy) (why : HclWhy) → step false s t ≡ Err why → GoesOnWith front t → ⊥
  no_step loose why h st = let n = stands_steps front t s st e in no_ok why n.0 (sym h ∙ n.1)

  -- the reason for which a token is refused
  refused_so : (w why : HclWhy) → step true s t ≡ Err w → Told t (Err w) (step false s t) → Reason front t why → w ≡ why
  refused_so w whys.BadByte h told r = same_err w whys.BadByte (sym h ∙ ap (step true s) r ∙ place_bad true s.items s.place)
  refused_so whys.Syntax whys.Syntax h told r = refl
  refused_so whys.BadByte whys.Syntax h told r = absurd (r.0 told.0)
  refused_so whys.NumberTooWide whys.Syntax h told r = absurd (r.1 (steps_stands front t s told.1 e told.2))
  refused_so whys.DepthOver64 whys.Syntax h told r = absurd (r.1 (steps_stands front t s told.1 e told.2))
  refused_so whys.Syntax whys.NumberTooWide h told r = absurd (no_step (step false s t) whys.Syntax told.1 r.1)
  refused_so whys.BadByte whys.NumberTooWide h told r = absurd (no_step (step false s t) whys.BadByte told.1 r.1)
  refused_so whys.NumberTooWide whys.NumberTooWide h told r = refl
  refused_so whys.DepthOver64 whys.NumberTooWide h told r = absurd (told.0 r.0)
  refused_so whys.Syntax whys.DepthOver64 h told r = absurd (no_step (step false s t) whys.Syntax told.1 r.1)
  refused_so whys.BadByte whys.DepthOver64 h told r = absurd (no_step (step false s t) whys.BadByte told.1 r.1)
  refused_so whys.NumberTooWide whys.DepthOver64 h told r = absurd (r.0 told.0)
  refused_so whys.DepthOver64 whys.DepthOver64 h told r = refl
  refused_so w whys.NamesOver256 h told r =
      let v = viable_reads (front ++ t ∷ []) r.0 in
      absurd (no_ok w v.0 (sym h ∙ sym (one_more_read front t s e) ∙ v.1))
  refused_so w whys.Memory h told r = absurd r
  refused_so whys.NamesOver256 why h told r = absurd told
  refused_so whys.Memory why h told r = absurd told

  -- if the grammar and the limits on depth and numbers allow a token, only its name can be at fault
  taken_so : (next : ReaderState) (why : HclWhy) → step true s t ≡ Ok next → Told t (Ok next) (step false s t) → (IsViableWithin (front ++ t ∷ []) → ⊥) → Reason front t why
      → (whys.NamesOver256 ≡ why) × (NamesFit (front ++ t ∷ []) → ⊥)
  taken_so next why h told bad r = (so why r, λ n. bad (viable, n))
    where
      viable : Viable (front ++ t ∷ [])
      viable = reads_viable (front ++ t ∷ []) next (one_more_read front t s e ∙ h)

      so : (why : HclWhy) → Reason front t why → whys.NamesOver256 ≡ why
      so whys.BadByte r = absurd (no_ok whys.BadByte next (sym (place_bad true s.items s.place) ∙ ap (step true s) (sym r) ∙ h))
      so whys.Syntax r = absurd (r.1 (steps_stands front t s next e told))
      so whys.NumberTooWide r = absurd (bad (viable, subst (λ names. length names ≤ 256) (sym (names_of_more front t ∙ nameless t r.0 (noted_all [] front))) fit))
      so whys.DepthOver64 r = absurd (r.2 viable)
      so whys.NamesOver256 r = refl
      so whys.Memory r = absurd r

  token_told : (ts : List Token) (why : HclWhy) (r : Result ReaderState HclWhy) → step true s t ≡ r → (IsViableWithin (front ++ t ∷ []) → ⊥) → Reason front t why
      → (behind : ReaderState → Outcome) → outcome_at (noted (noted_all [] front) t) (t ∷ ts) r behind ≡ Err (t ∷ ts, why)
  token_told ts why (Err w) h bad r behind = ap (λ x. Err (t ∷ ts, x)) (refused_so w why h (subst (λ x. Told t x (step false s t)) h (told_step s t)) r)
  token_told ts why (Ok next) h bad r behind =
      let names : List (List ℕ) = noted (noted_all [] front) t in
      let so = taken_so next why h (subst (λ x. Told t x (step false s t)) h (told_step s t)) bad r in
      ap (λ b. cond b (behind next) (Err (t ∷ ts, whys.NamesOver256))) (over (length names) (λ n. so.1 (subst (λ x. length x ≤ 256) (sym (names_of_more front t)) n)))
      ∙ ap (λ w. Err (t ∷ ts, w)) so.0
    where
      over : (n : ℕ) → (n ≤ 256 → ⊥) → nat_le n 256 ≡ false
      over n h = grind (arith, nat_tests)

-- the machine reads tokens that begin a file within the limits
outcome_front : (front rest : List Token) (names : List (List ℕ)) (s last : ReaderState) → run 0 s front ≡ Ok last → length (noted_all names front) ≤ 256
    → outcome names s (front ++ rest) ≡ outcome (noted_all names front) last rest
unfolding run outcome noted_all
outcome_front [] rest names s last e fit = ap (λ x. outcome names x rest) (same_ok s last e)
outcome_front (t ∷ ts) rest names s last e fit =
    let o = on_ok (step (nat_lt 0 (suc (length ts))) s t) (λ next. run 0 next ts) last e in
    let taken : step true s t ≡ Ok o.0 = ap (λ b. step b s t) (sym (strict_in_front 0 (length ts) zero-le)) ∙ o.1 in
    ap (λ r. outcome_at (noted names t) (t ∷ (ts ++ rest)) r (λ next. outcome (noted names t) next (ts ++ rest))) taken
    ∙ ap (λ b. cond b (outcome (noted names t) o.0 (ts ++ rest)) (Err (t ∷ (ts ++ rest), whys.NamesOver256))) (few (length (noted names t)) (le_trans (all_noted_grows (noted names t) ts) fit))
    ∙ outcome_front ts rest (noted names t) o.0 last o.2 fit
  where
    few : (n : ℕ) → n ≤ 256 → nat_le n 256 ≡ true
    few n h = grind (arith, nat_tests)

nothing : (names : List (List ℕ)) (s : ReaderState) → outcome names s [] ≡ at_end (ended s.items s.place)
unfolding outcome
nothing names s = refl

only_syntax : (items : List Item) (place : ItemState) (why : HclWhy) → ended items place ≡ Err why → why ≡ whys.Syntax
unfolding ended
only_syntax items Between why e = absurd (no_ok why (record { items = items }) (sym e))
only_syntax items place why e = sym (same_err whys.Syntax why e)

at_token : (front : List Token) (t : Token) (ts : List Token) (why : HclWhy) → FaultAt front (t ∷ ts) why → (s : ReaderState) → run 0 start front ≡ Ok s
    → outcome (noted_all [] front) s (t ∷ ts) ≡ Err (t ∷ ts, why)
unfolding outcome
at_token front t ts why fault s e =
    token_told front s e fault.0.1 t ts why (step true s t) refl fault.1 fault.2 (λ next. outcome (noted (noted_all [] front) t) next ts)

-- the machine reports a fault
pub fault_told : (front rest : List Token) (why : HclWhy) → FaultAt front rest why → outcome [] start (front ++ rest) ≡ Err (rest, why)
fault_told front [] why fault =
    let v = viable_reads front fault.0.0 in
    outcome_front front [] [] start v.0 v.1 fault.0.1 ∙ nothing (noted_all [] front) v.0
    ∙ last (ended v.0.items v.0.place) (λ f e. no_fault front [] why f (file v.0 v.1 f e) fault) (only_syntax v.0.items v.0.place) ∙ ap (λ w. Err ([], w)) (sym fault.2)
  where
    -- at the end the machine answers with a file exactly if the text is one
    file : (s : ReaderState) → run 0 start front ≡ Ok s → (f : File) → ended s.items s.place ≡ Ok f → Accepts (front ++ []) f
    file s e f h =
        subst (Answers (front ++ [])) (outcome_front front [] [] start s e fault.0.1 ∙ nothing (noted_all [] front) s ∙ ap at_end h) (answers (front ++ []))

    last : (r : Result File HclWhy) → ((f : File) → r ≡ Ok f → ⊥) → ((w : HclWhy) → r ≡ Err w → w ≡ whys.Syntax) → at_end r ≡ Err ([], whys.Syntax)
    last (Ok f) never so = absurd (never f refl)
    last (Err w) never so = ap (λ x. Err ([], x)) (so w refl)
fault_told front (t ∷ ts) why fault =
    let v = viable_reads front fault.0.0 in
    outcome_front front (t ∷ ts) [] start v.0 v.1 fault.0.1 ∙ at_token front t ts why fault v.0 v.1

-- suffixes of one list that are equally long are the same
same_end : {A : Type 0} (us vs xs ys : List A) → us ++ xs ≡ vs ++ ys → length xs ≡ length ys → xs ≡ ys
same_end [] [] xs ys e l = e
same_end [] (b ∷ vs) xs ys e l = absurd (longer b vs xs ys (ap length e) l)
  where
    longer : {A : Type 0} (b : A) (vs xs ys : List A) → length xs ≡ length (b ∷ vs ++ ys) → length xs ≡ length ys → ⊥
    longer b vs xs ys e l = grind (arith, length-append)
same_end (a ∷ us) [] xs ys e l = absurd (longer a us xs ys (ap length e) l)
  where
    longer : {A : Type 0} (a : A) (us xs ys : List A) → length (a ∷ us ++ xs) ≡ length ys → length xs ≡ length ys → ⊥
    longer a us xs ys e l = grind (arith, length-append)
same_end (a ∷ us) (b ∷ vs) xs ys e l = same_end us vs xs ys (ap (drop 1) e) l

kinds_append : (xs ys : List (Token × List ℕ)) → kinds (xs ++ ys) ≡ kinds xs ++ kinds ys
kinds_append [] ys = refl
kinds_append (x ∷ xs) ys = ap (λ ts. x.0 ∷ ts) (kinds_append xs ys)

length_kinds : (xs : List (Token × List ℕ)) → length (kinds xs) ≡ length xs
length_kinds [] = refl
length_kinds (x ∷ xs) = ap suc (length_kinds xs)

same_errs : {A B : Type 0} (x y : B) → (let r : Result A B = Err x in r ≡ Err y) → x ≡ y
same_errs x y e = cc

-- a text has at most one fault
pub one_fault : (text : List ℕ) (a b : HclFault) → IsFault text a → IsFault text b → a ≡ b
one_fault text a b f g =
    let told : outcome [] start (tokens text) ≡ Err (kinds f.rest, a.why) = ap (outcome [] start) (ap kinds f.whole ∙ kinds_append f.front f.rest) ∙ fault_told (kinds f.front) (kinds f.rest) a.why f.reason in
    let other : outcome [] start (tokens text) ≡ Err (kinds g.rest, b.why) = ap (outcome [] start) (ap kinds g.whole ∙ kinds_append g.front g.rest) ∙ fault_told (kinds g.front) (kinds g.rest) b.why g.reason in
    let x : List Token × HclWhy = (kinds f.rest, a.why) in
    let y : List Token × HclWhy = (kinds g.rest, b.why) in
    let same : x ≡ y = same_errs x y (sym told ∙ other) in
    let long : length f.rest ≡ length g.rest = sym (length_kinds f.rest) ∙ ap (λ (p : List Token × HclWhy). length p.0) same ∙ length_kinds g.rest in
    let rest : f.rest ≡ g.rest = same_end f.front g.front f.rest g.rest (sym f.whole ∙ g.whole) long in
    let before : f.before ≡ g.before = append_cancel_right f.before g.before (bytes_from f.rest) (sym f.place ∙ g.place ∙ ap (λ r. g.before ++ bytes_from r) (sym rest)) in
    made a b (f.line ∙ ap line_behind before ∙ sym g.line) (f.column ∙ ap column_behind before ∙ sym g.column) (ap (λ (p : List Token × HclWhy). p.1) same)
  where
    made : (a b : HclFault) → a.line ≡ b.line → a.col ≡ b.col → a.why ≡ b.why → a ≡ b
    made a b l c w = λ i. record { line = l i; col = c i; why = w i }

-- and none if it is a file
pub file_has_no_fault : (text : List ℕ) (file : File) (a : HclFault) → ReadsAs text file → IsFault text a → ⊥
file_has_no_fault text file a r f =
    no_fault (kinds f.front) (kinds f.rest) a.why file (subst (λ ts. Accepts ts file) (ap kinds f.whole ∙ kinds_append f.front f.rest) r) f.reason
