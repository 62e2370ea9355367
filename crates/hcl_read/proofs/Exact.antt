-- The machine answers with the file that the text is, or with its fault.
use Rattle.std.proofs.Common.{◌≡◌, ◌≤◌, ap, sym, subst, ◌∙◌, ℕ, suc, Bool, true, false, cond, List, [], ◌∷◌, ◌++◌, length, Result, Ok, Err, refl, arith, append-nil}
use Rattle.std.specs.Prelude.{nat_lt, nat_le}
use Rattle.std.proofs.lemmas.Bool.Decides.{nat_tests}
use Rattle.hcl_tree.specs.declared.tree.Item.{Item}
use Rattle.hcl_tree.specs.declared.tree.File.{File}
use Rattle.hcl_read.specs.declared.fault.HclWhy.{HclWhy}
use Rattle.hcl_read.specs.declared.fault.HclWhy.TheVariants as whys
use Rattle.hcl_read.specs.declared.tokens.Token.{Token}
use Rattle.hcl_read.specs.declared.tokens.Token.TheVariants.{Ident}
use Rattle.hcl_read.specs.declared.state.ItemState.{ItemState}
use Rattle.hcl_read.specs.declared.state.ItemState.TheVariants.{Between}
use Rattle.hcl_read.specs.declared.state.ReaderState.{ReaderState}
use Rattle.hcl_read.specs.Grammar.{IsItems, IsFile, no_item}
use Rattle.hcl_read.specs.Machine.{state, start, step, on, run}
use Rattle.std.proofs.Common.{le_of_lt, le_refl, le_trans, length-append, zero-le}
use Rattle.std.specs.Prelude.{nat_eq}
use Rattle.std.specs.Cmp.Lexicographic.{pointwise}
use Rattle.std.specs.List.{list_any}
use Rattle.std.proofs.lemmas.Bool.{false≢true}
use Rattle.hcl_read.specs.Fault.{noted, noted_all, NamesFit, Accepts, Viable, GoesOnWith, Reason, FaultAt}
use Rattle.hcl_read.specs.Machine.{ended, Outcome, at_end, outcome_at, outcome}
use Rattle.hcl_read.proofs.Complete.{file_read, shifted}
use Rattle.hcl_read.proofs.Means.{MeansPlace, Means}
use Rattle.hcl_read.proofs.Sound.{strict_before, MeansNext, sound_step}
use Rattle.hcl_read.proofs.Live.{state_lives}
use Rattle.hcl_read.proofs.Told.{Told, told_step}

pub strict_in_front : (n m : ℕ) → n ≤ m → nat_lt n (suc m) ≡ true
strict_in_front n m h = grind (arith, nat_tests)

free_at_last : (n : ℕ) → nat_lt (suc n) (suc n) ≡ false
free_at_last n = grind (arith, nat_tests)

length_behind : (xs ys : List Token) → length ys ≤ length (xs ++ ys)
length_behind xs ys = grind (arith, length-append)

-- the tokens in front of a text are read first, under the limits; then the rest
run_front : (front rest : List Token) (s : ReaderState) → run (length rest) s (front ++ rest) ≡ on (run 0 s front) (λ next. run (length rest) next rest)
unfolding run
run_front [] rest s = refl
run_front (t ∷ ts) rest s =
    ap (λ b. on (step b s t) (λ next. run (length rest) next (ts ++ rest))) (strict_in_front (length rest) (length (ts ++ rest)) (length_behind ts rest) ∙ sym (strict_in_front 0 (length ts) zero-le))
    ∙ go (step (nat_lt 0 (suc (length ts))) s t) (λ next. run_front ts rest next)
  where
    go : (r : Result ReaderState HclWhy) → ((next : ReaderState) → run (length rest) next (ts ++ rest) ≡ on (run 0 next ts) (λ last. run (length rest) last rest))
        → on r (λ next. run (length rest) next (ts ++ rest)) ≡ on (on r (λ next. run 0 next ts)) (λ last. run (length rest) last rest)
    go (Ok next) h = h next
    go (Err why) h = refl

pub no_ok : {A : Type 0} (why : HclWhy) (y : A) → (let r : Result A HclWhy = Err why in r ≡ Ok y) → ⊥
no_ok why y e = cc

pub same_ok : {A : Type 0} (x y : A) → (let r : Result A HclWhy = Ok x in r ≡ Ok y) → x ≡ y
same_ok x y e = cc

pub on_ok : {A B : Type 0} (r : Result A HclWhy) (f : A → Result B HclWhy) (y : B) → on r f ≡ Ok y → (x : A) × (r ≡ Ok x) × (f x ≡ Ok y)
on_ok (Ok x) f y e = (x, refl, e)
on_ok (Err why) f y e = absurd (no_ok why y e)

-- the tokens of a file are read, those in front under the limits
reads_front : (front rest : List Token) (f : File) → IsFile (length rest) (front ++ rest) f
    → (s : ReaderState) × (run 0 start front ≡ Ok s) × (run (length rest) s rest ≡ Ok (state f.items Between))
reads_front front rest f h = on_ok (run 0 start front) (λ next. run (length rest) next rest) (state f.items Between) (sym (run_front front rest start) ∙ file_read (front ++ rest) f h)

-- a text that leads from a state to a file leads there from the start
module _ (free : ℕ) (file : List Item) where
  next_means : (s : ReaderState) (t : Token) (ts : List Token) (next : ReaderState) → step (strict_before free ts) s t ≡ Ok next → Means free file next ts → Means free file s (t ∷ ts)
  next_means s t ts next e m = sound_step free file s t ts (subst (λ r. MeansNext free file r ts) (sym e) m)

front_means : (front rest : List Token) (file : List Item) (s last : ReaderState) → run 0 s front ≡ Ok last → Means (length rest) file last rest → Means (length rest) file s (front ++ rest)
unfolding run
front_means [] rest file s last e m = subst (λ x. Means (length rest) file x rest) (sym (same_ok s last e)) m
front_means (t ∷ ts) rest file s last e m =
    let o = on_ok (step (nat_lt 0 (suc (length ts))) s t) (λ next. run 0 next ts) last e in
    next_means (length rest) file s t (ts ++ rest) o.0
    (ap (λ b. step b s t) (strict_in_front (length rest) (length (ts ++ rest)) (length_behind ts rest) ∙ sym (strict_in_front 0 (length ts) zero-le)) ∙ o.1)
    (front_means ts rest file o.0 last o.2 m)

file_of : (free : ℕ) (file : List Item) (ts : List Token) → Means free file start ts → IsFile free ts (record { items = file })
unfolding MeansPlace
file_of free file ts m = subst (λ is. IsItems free ts is) (sym m.2) m.1

front_file : (front rest : List Token) (file : List Item) (s : ReaderState) → run 0 start front ≡ Ok s → Means (length rest) file s rest → IsFile (length rest) (front ++ rest) (record { items = file })
front_file front rest file s e m = file_of (length rest) file (front ++ rest) (front_means front rest file start s e m)

pub viable_reads : (front : List Token) → Viable front → (s : ReaderState) × (run 0 start front ≡ Ok s)
viable_reads front v =
    let r = reads_front front v.0 v.1 v.2 in
    (r.0, r.1)

pub reads_viable : (front : List Token) (s : ReaderState) → run 0 start front ≡ Ok s → Viable front
reads_viable front s e =
    let l = state_lives s in
    (l.0, record { items = l.1 }, front_file front l.0 l.1 s e (l.2 (length l.0) (le_refl (length l.0))))

pub stands_steps : (front : List Token) (t : Token) (s : ReaderState) → GoesOnWith front t → run 0 start front ≡ Ok s → (next : ReaderState) × (step false s t ≡ Ok next)
unfolding run
stands_steps front t s h e =
    let r = reads_front front (t ∷ h.0) h.1 h.2 in
    let o = on_ok (step (strict_before (suc (length h.0)) h.0) r.0 t) (λ next. run (suc (length h.0)) next h.0) (state h.1.items Between) r.2 in
    (o.0, ap (λ x. step false x t) (same_ok s r.0 (sym e ∙ r.1)) ∙ ap (λ b. step b r.0 t) (sym (free_at_last (length h.0))) ∙ o.1)

pub steps_stands : (front : List Token) (t : Token) (s next : ReaderState) → run 0 start front ≡ Ok s → step false s t ≡ Ok next → GoesOnWith front t
steps_stands front t s next e h =
    let l = state_lives next in (
      l.0,
      record { items = l.1 },
      front_file front (t ∷ l.0) l.1 s e (next_means (suc (length l.0)) l.1 s t l.0 next (ap (λ b. step b s t) (free_at_last (length l.0)) ∙ h) (l.2 (suc (length l.0)) (le_of_lt (le_refl (suc (length l.0)))))),
    )

-- one more token, under the limits
pub run_all : (front rest : List Token) (s : ReaderState) → run 0 s (front ++ rest) ≡ on (run 0 s front) (λ next. run 0 next rest)
unfolding run
run_all [] rest s = refl
run_all (t ∷ ts) rest s =
    ap (λ b. on (step b s t) (λ next. run 0 next (ts ++ rest))) (strict_in_front 0 (length (ts ++ rest)) zero-le ∙ sym (strict_in_front 0 (length ts) zero-le))
    ∙ go (step (nat_lt 0 (suc (length ts))) s t) (λ next. run_all ts rest next)
  where
    go : (r : Result ReaderState HclWhy) → ((next : ReaderState) → run 0 next (ts ++ rest) ≡ on (run 0 next ts) (λ last. run 0 last rest))
        → on r (λ next. run 0 next (ts ++ rest)) ≡ on (on r (λ next. run 0 next ts)) (λ last. run 0 last rest)
    go (Ok next) h = h next
    go (Err why) h = refl

pub one_more_read : (front : List Token) (t : Token) (s : ReaderState) → run 0 start front ≡ Ok s → run 0 start (front ++ t ∷ []) ≡ step true s t
unfolding run
one_more_read front t s e = run_all front (t ∷ []) start ∙ ap (λ r. on r (λ next. run 0 next (t ∷ []))) e ∙ go (step true s t)
  where
    go : (r : Result ReaderState HclWhy) → on r (λ next. Ok next) ≡ r
    go (Ok next) = refl
    go (Err why) = refl

-- the names of a text and of what follows it
noted_append : (names : List (List ℕ)) (xs ys : List Token) → noted_all names (xs ++ ys) ≡ noted_all (noted_all names xs) ys
unfolding noted_all
noted_append names [] ys = refl
noted_append names (t ∷ ts) ys = noted_append (noted names t) ts ys

noted_grows : (names : List (List ℕ)) (t : Token) → length names ≤ length (noted names t)
unfolding noted
noted_grows names (Ident name) = go (list_any (pointwise nat_eq name) names)
  where
    more : (xs : List (List ℕ)) (x : List ℕ) → length xs ≤ length (xs ++ x ∷ [])
    more xs x = grind (arith, length-append)

    go : (b : Bool) → length names ≤ length (cond b names (names ++ name ∷ []))
    go true = le_refl (length names)
    go false = more names name
noted_grows names t = le_refl (length names)

pub all_noted_grows : (names : List (List ℕ)) (ts : List Token) → length names ≤ length (noted_all names ts)
unfolding noted_all
all_noted_grows names [] = le_refl (length names)
all_noted_grows names (t ∷ ts) = le_trans (noted_grows names t) (all_noted_grows (noted names t) ts)

pub names_of_more : (front : List Token) (t : Token) → noted_all [] (front ++ t ∷ []) ≡ noted (noted_all [] front) t
unfolding noted_all
names_of_more front t = noted_append [] front (t ∷ [])

fits_front : (front rest : List Token) → NamesFit (front ++ rest) → NamesFit front
fits_front front rest h = le_trans (all_noted_grows (noted_all [] front) rest) (subst (λ n. length n ≤ 256) (noted_append [] front rest) h)

-- a text is at most one file
pub one_file : (ts : List Token) (f g : File) → IsFile 0 ts f → IsFile 0 ts g → f ≡ g
one_file ts f g h i = ap (λ (x : ReaderState). let file : File = record { items = x.items } in file) (same_ok (state f.items Between) (state g.items Between) (sym (file_read ts f h) ∙ file_read ts g i))

-- the text is the file, or has the fault
abbrev pub Answers : List Token → Outcome → Type 0
Answers ts (Ok f) = Accepts ts f
Answers ts (Err (rest, why)) = (front : List Token) × (ts ≡ front ++ rest) × FaultAt front rest why

module _ (front : List Token) (s : ReaderState) (e : run 0 start front ≡ Ok s) where
  not_viable : (t : Token) (why : HclWhy) → step true s t ≡ Err why → Viable (front ++ t ∷ []) → ⊥
  not_viable t why h v =
      let r = viable_reads (front ++ t ∷ []) v in
      no_ok why r.0 (sym h ∙ sym (one_more_read front t s e) ∙ r.1)

  reason : (t : Token) (why : HclWhy) → step true s t ≡ Err why → Told t (Err why) (step false s t) → Reason front t why
  reason t whys.BadByte h told = told.0
  reason t whys.Syntax h told =
      (told.0, λ st. let n = stands_steps front t s st e in no_ok whys.Syntax n.0 (sym told.1 ∙ n.1))
  reason t whys.NumberTooWide h told = (told.0, steps_stands front t s told.1 e told.2)
  reason t whys.DepthOver64 h told = (told.0, steps_stands front t s told.1 e told.2, not_viable t whys.DepthOver64 h)
  reason t whys.NamesOver256 h told = absurd told
  reason t whys.Memory h told = absurd told

  module _ (fit : NamesFit front) (t : Token) (ts : List Token) where
    names_answer : (next : ReaderState) → step true s t ≡ Ok next → (b : Bool) → nat_le (length (noted (noted_all [] front) t)) 256 ≡ b
        → (NamesFit (front ++ t ∷ []) → Answers (front ++ t ∷ ts) (outcome (noted (noted_all [] front) t) next ts))
        → Answers (front ++ t ∷ ts) (cond b (outcome (noted (noted_all [] front) t) next ts) (Err (t ∷ ts, whys.NamesOver256)))
    names_answer next h true b on = on (subst (λ n. length n ≤ 256) (sym (names_of_more front t)) (few (length (noted (noted_all [] front) t)) b))
      where
        few : (n : ℕ) → nat_le n 256 ≡ true → n ≤ 256
        few n e = grind (arith, nat_tests)
    names_answer next h false b on =
        let many : NamesFit (front ++ t ∷ []) → ⊥ = λ n. over (length (noted (noted_all [] front) t)) b (subst (λ x. length x ≤ 256) (names_of_more front t) n) in
        (front, refl, ((reads_viable front s e, fit), (λ v. many v.1), (reads_viable (front ++ t ∷ []) next (one_more_read front t s e ∙ h), many)))
      where
        over : (n : ℕ) → nat_le n 256 ≡ false → n ≤ 256 → ⊥
        over n e h = grind (arith, nat_tests)

    step_answer : (r : Result ReaderState HclWhy) → step true s t ≡ r
        → ((next : ReaderState) → step true s t ≡ Ok next → NamesFit (front ++ t ∷ []) → Answers (front ++ t ∷ ts) (outcome (noted (noted_all [] front) t) next ts))
        → Answers (front ++ t ∷ ts) (outcome_at (noted (noted_all [] front) t) (t ∷ ts) r (λ next. outcome (noted (noted_all [] front) t) next ts))
    step_answer (Ok next) h on = names_answer next h (nat_le (length (noted (noted_all [] front) t)) 256) refl (on next h)
    step_answer (Err why) h on =
        (front, refl, ((reads_viable front s e, fit), (λ v. not_viable t why h v.0), reason t why h (subst (λ r. Told t r (step false s t)) h (told_step s t))))

is_between : ItemState → Bool
is_between Between = true
is_between place = false

end_answer : (front : List Token) (items : List Item) (place : ItemState) → run 0 start front ≡ Ok (state items place) → NamesFit front → Answers (front ++ []) (at_end (ended items place))
unfolding ended MeansPlace is_between run
end_answer front items Between e fit =
    (front_file front [] items (state items Between) e ([], no_item, sym (append-nil items)), subst (λ ts. NamesFit ts) (sym (append-nil front)) fit)
end_answer front items place e fit =
    (front, refl, ((reads_viable front (state items place) e, fit), (λ f h. no_end f h), refl))
  where
    no_end : (f : File) → IsFile 0 front f → ⊥
    no_end f h =
        let r = reads_front front [] f (subst (λ ts. IsFile 0 ts f) (sym (append-nil front)) h) in
        false≢true (ap (λ (x : ReaderState). is_between x.place) (same_ok (state items place) (state f.items Between) (sym e ∙ r.1 ∙ r.2)))

outcome_answer : (ts front : List Token) (s : ReaderState) → run 0 start front ≡ Ok s → NamesFit front → Answers (front ++ ts) (outcome (noted_all [] front) s ts)
unfolding outcome
outcome_answer [] front s e fit = end_answer front s.items s.place e fit
outcome_answer (t ∷ ts) front s e fit =
    step_answer front s e fit t ts (step true s t) refl
    (λ next h n. subst (λ names. Answers (front ++ t ∷ ts) (outcome names next ts)) (names_of_more front t)
    (subst (λ text. Answers text (outcome (noted_all [] (front ++ t ∷ [])) next ts)) (shifted front t ts)
    (outcome_answer ts (front ++ t ∷ []) next (one_more_read front t s e ∙ h) n)))

-- the machine's answer is true of the text
pub answers : (ts : List Token) → Answers ts (outcome [] start ts)
unfolding run noted_all
answers ts = outcome_answer ts [] start refl zero-le

-- a file has no fault
pub no_fault : (front rest : List Token) (why : HclWhy) (f : File) → Accepts (front ++ rest) f → FaultAt front rest why → ⊥
no_fault front [] why f a fault = fault.1 f (subst (λ ts. IsFile 0 ts f) (append-nil front) a.0)
no_fault front (t ∷ rest) why f a fault =
    let text : (front ++ t ∷ []) ++ rest ≡ front ++ t ∷ rest = shifted front t rest in
    let o = on_ok (run 0 start (front ++ t ∷ [])) (λ next. run 0 next rest) (state f.items Between)
    (sym (run_all (front ++ t ∷ []) rest start) ∙ ap (λ ts. run 0 start ts) text ∙ file_read (front ++ t ∷ rest) f a.0) in
    fault.1 (reads_viable (front ++ t ∷ []) o.0 o.1, fits_front (front ++ t ∷ []) rest (subst (λ ts. NamesFit ts) (sym text) a.1))

-- and the machine answers with it
pub accepts : (ts : List Token) (f : File) → Accepts ts f → outcome [] start ts ≡ Ok f
accepts ts f a = go (outcome [] start ts) refl (answers ts)
  where
    go : (o : Outcome) → outcome [] start ts ≡ o → Answers ts o → outcome [] start ts ≡ Ok f
    go (Ok g) e h = e ∙ ap (λ x. Ok x) (one_file ts g f h.0 a.0)
    go (Err (rest, why)) e h = absurd (no_fault h.0 rest why f (subst (λ x. Accepts x f) h.1 a) h.2)
