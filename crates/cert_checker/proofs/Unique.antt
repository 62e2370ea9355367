-- A text has at most one first fault.
use Rattle.std.proofs.Common.{◌≡◌, ◌≢◌, ◌⊎◌, inl, inr, ⊎_elim, ℕ, suc, ◌+◌, ◌<◌, ◌≤◌, Bool, true, false, not, cond, List, [], ◌∷◌, ◌++◌, length, take, drop, get_or, slice_get, Some, None, refl, sym, ap, ◌∙◌, subst, append_assoc, length-append, arith}
use Rattle.std.proofs.lemmas.List.{append-nil, append_cancel_left, take_all, take_at}
use Rattle.std.proofs.lemmas.Option.{none-some, same_Some}
use Rattle.std.specs.Fmt.{decimal}
use Rattle.pipe_motion.specs.declared.settings.Settings.{Settings}
use Rattle.verdict_text.specs.PipeLines.{pipe_yes}
use Rattle.cert_checker.specs.Certificates.{AreRight, AreSeven, BeginsWith, CertOk, IsFinished, HasRightLines, HasTextAfterEnd, HasNoHead, IsFirstFault, StatesSettings, StatesOtherSettings, IsEndFault, IsLineFault, first_line, head_text, last_line, settings_at}
use Rattle.cert_checker.specs.Certificates as spec
use Rattle.cert_checker.specs.CheckerFacts.{CheckerFacts, facts_of}
use Rattle.cert_checker.specs.Faults.{FaultsAreFirst, IsOfGates, OthersRefuseByGates}
use Rattle.cert_checker.specs.Lines.{AreWords, IsLine, count, kind_of, letter, line_text, lines_text, numbers_of, numbers_text}
use Rattle.cert_checker.specs.Rules.{gate_matches, flaw, is_justified, names}
use Rattle.cert_checker.proofs.Sound.{right_line}
use Rattle.nets.specs.Nets.{Gates}
use Rattle.cert_checker.specs.declared.demands.Demands.{Demands}
use Rattle.cert_checker.specs.declared.fault.CertFault.{CertFault}
use Rattle.cert_checker.specs.declared.fault.CertWhy.{CertWhy}
use Rattle.cert_checker.specs.declared.fault.CertWhy.TheVariants as why
use Rattle.cert_checker.specs.declared.line.CertLine.{CertLine}
use Rattle.cert_checker.proofs.Decimals.{digits_only}
use Rattle.cert_checker.proofs.Fields.{stops as no_digit}
use Rattle.cert_checker.proofs.Heads.{yes_read}
use Rattle.cert_checker.proofs.Lines.{count_is, kind_only, letter_only, line_begins, line_only, no_letter}

-- ---- a text begins with at most one line

numbers_one : (ns ms x y : List ℕ) → AreWords ns → AreWords ms → numbers_text ns ++ x ≡ numbers_text ms ++ y → (ns ≡ ms) × (x ≡ y)
numbers_one [] [] x y v w e = (refl, ap (drop 1) e)
numbers_one [] (m ∷ ms) x y v w e = absurd (let f : 10 ≡ 32 = ap (λ (xs : List ℕ). get_or xs 0 0) e in omega (arith, f))
numbers_one (n ∷ ns) [] x y v w e = absurd (let f : 32 ≡ 10 = ap (λ (xs : List ℕ). get_or xs 0 0) e in omega (arith, f))
numbers_one (n ∷ ns) (m ∷ ms) x y v w e =
    let here : decimal n ++ (numbers_text ns ++ x) ≡ decimal m ++ (numbers_text ms ++ y) =
    sym (append_assoc (decimal n) (numbers_text ns) x) ∙ ap (drop 1) e ∙ append_assoc (decimal m) (numbers_text ms) y in
    let one = digits_only (decimal n ++ (numbers_text ns ++ x)) n (numbers_text ns ++ x) v.0 (no_digit ns x) refl in
    let two = digits_only (decimal n ++ (numbers_text ns ++ x)) m (numbers_text ms ++ y) w.0 (no_digit ms y) here in
    let first : n ≡ m = same_Some n m (sym one.0 ∙ two.0) in
    let more = numbers_one ns ms x y v.1 w.1 (sym one.1 ∙ two.1) in
    ((λ i. first i ∷ more.0 i), more.1)

whole_numbers : (line : CertLine) → take (count (kind_of line)) (numbers_of line) ≡ numbers_of line
whole_numbers line = take_all (count (kind_of line)) (numbers_of line) (omega (arith, count_is line))

one_line : (a b : CertLine) (x y : List ℕ) → IsLine a → IsLine b → line_text a ++ x ≡ line_text b ++ y → (a ≡ b) × (x ≡ y)
one_line a b x y v w e =
    let k = kind_only (line_text a ++ x) (numbers_text (numbers_of a) ++ x) y (letter (kind_of a)) (kind_of a) b refl (line_begins (line_text a ++ x) x a refl) e in
    let n = numbers_one (numbers_of a) (numbers_of b) x y v w k.1 in (
      sym (line_only (kind_of a) (numbers_of a) a refl (whole_numbers a)) ∙ line_only (kind_of a) (numbers_of a) b k.0 (whole_numbers a ∙ n.0),
      n.1,
    )

begins_one : (text : List ℕ) (a b : CertLine) → BeginsWith text a → BeginsWith text b → a ≡ b
begins_one text a b p q = (one_line a b p.rest q.rest p.is q.is (sym p.whole ∙ q.whole)).0

-- the last line has none of the kinds of lines
not_last : (text more : List ℕ) (line : CertLine) → text ≡ last_line ++ more → BeginsWith text line → ⊥
not_last text more line e b = letter_only text (drop 1 text) b.rest 101 line (no_letter 101 (λ f. omega (arith, f)) (λ f. omega (arith, f)) (λ f. omega (arith, f)) (λ f. omega (arith, f)) (λ f. omega (arith, f)) (λ f. omega (arith, f)) (λ f. omega (arith, f)))
    (e ∙ ap (λ (xs : List ℕ). 101 ∷ drop 1 xs) (sym e)) b.whole

-- ---- two lists of lines of one text

data Compared (a b : List CertLine) (x y : List ℕ) : Type 0 where
  same : a ≡ b → x ≡ y → Compared a b x y
  left_short : (line : CertLine) (more : List CertLine) → b ≡ a ++ line ∷ more → x ≡ line_text line ++ (lines_text more ++ y) → Compared a b x y
  right_short : (line : CertLine) (more : List CertLine) → a ≡ b ++ line ∷ more → y ≡ line_text line ++ (lines_text more ++ x) → Compared a b x y

compare_lines : (a b : List CertLine) (x y : List ℕ) → ((k : ℕ) (l : CertLine) → slice_get a k ≡ Some l → IsLine l) → ((k : ℕ) (l : CertLine) → slice_get b k ≡ Some l → IsLine l) →
    lines_text a ++ x ≡ lines_text b ++ y → Compared a b x y
unfolding lines_text
compare_lines [] [] x y p q e = same refl e
compare_lines [] (m ∷ b) x y p q e = left_short m b refl (e ∙ append_assoc (line_text m) (lines_text b) y)
compare_lines (l ∷ a) [] x y p q e = right_short l a refl (sym e ∙ append_assoc (line_text l) (lines_text a) x)
compare_lines (l ∷ a) (m ∷ b) x y p q e =
    by (one_line l m (lines_text a ++ x) (lines_text b ++ y) (p 0 l refl) (q 0 m refl) (sym (append_assoc (line_text l) (lines_text a) x) ∙ e ∙ append_assoc (line_text m) (lines_text b) y))
    (λ f. compare_lines a b x y (λ k. p (suc k)) (λ k. q (suc k)) f)
  where
    by : (l ≡ m) × (lines_text a ++ x ≡ lines_text b ++ y) → (lines_text a ++ x ≡ lines_text b ++ y → Compared a b x y) → Compared (l ∷ a) (m ∷ b) x y
    by (f, h) ih = more (ih h)
      where
        more : Compared a b x y → Compared (l ∷ a) (m ∷ b) x y
        more (same g i) = same (λ j. f j ∷ g j) i
        more (left_short line rest g i) = left_short line rest (λ j. sym f j ∷ g j) i
        more (right_short line rest g i) = right_short line rest (λ j. f j ∷ g j) i

-- a text continues with one more right line
Continues : Demands → List CertLine → List ℕ → Type 0
Continues g lines rest = (line : CertLine) × BeginsWith rest line × (flaw g.net (facts_of lines) line ≡ None)

continues : (g : Demands) (a b : List CertLine) (x y : List ℕ) (line : CertLine) (more : List CertLine) → AreRight g.net b → ((k : ℕ) (l : CertLine) → slice_get b k ≡ Some l → IsLine l) → b ≡ a ++ line ∷ more →
    x ≡ line_text line ++ (lines_text more ++ y) → Continues g a x
unfolding Continues
continues g a b x y line more right lines e f =
    let at : slice_get b (length a) ≡ Some line = ap (λ (ls : List CertLine). slice_get ls (length a)) e ∙ here a in
    let front : take (length a) b ≡ a = ap (take (length a)) e ∙ take_at a (line ∷ more) (length a) refl in
    (line, record { rest = lines_text more ++ y; is = lines (length a) line at; whole = f }, ap (λ (ls : List CertLine). flaw g.net (facts_of ls) line) (sym front) ∙ right (length a) line at)
  where
    here : (a : List CertLine) → slice_get (a ++ line ∷ more) (length a) ≡ Some line
    here [] = refl
    here (l ∷ a) = here a

-- if no further line is right after either of two lists of lines of a text, both are the same
same_lines : (g : Demands) (text : List ℕ) (a b : List CertLine) (x y : List ℕ) → HasRightLines g text a x → HasRightLines g text b y → (Continues g a x → ⊥) → (Continues g b y → ⊥) → (a ≡ b) × (x ≡ y)
same_lines g text a b x y p q no_more none =
    by (compare_lines a b x y p.each q.each (append_cancel_left (head_text g.settings) (lines_text a ++ x) (lines_text b ++ y) (sym p.whole ∙ q.whole)))
  where
    by : Compared a b x y → (a ≡ b) × (x ≡ y)
    by (same e f) = (e, f)
    by (left_short line more e f) = absurd (no_more (continues g a b x y line more q.right q.each e f))
    by (right_short line more e f) = absurd (none (continues g b a y x line more p.right p.each e f))

-- ---- where lines end

-- the faults after right lines: no line and no end; a wrong line; too early an end; an end with an open demand
data Case (g : Demands) (lines : List CertLine) (rest : List ℕ) (w : CertWhy) : Type 0 where
  none : w ≡ why.Syntax → ((line : CertLine) → BeginsWith rest line → ⊥) → ((more : List ℕ) → rest ≡ last_line ++ more → ⊥) → Case g lines rest w
  wrong : (line : CertLine) → BeginsWith rest line → flaw g.net (facts_of lines) line ≡ Some w → Case g lines rest w
  early : (more : List ℕ) → w ≡ why.Missing → rest ≡ last_line ++ more → length (facts_of lines).gates ≢ length g.net.gates → Case g lines rest w
  unmet : (more : List ℕ) (k v : ℕ) → w ≡ why.Rule → rest ≡ last_line ++ more → length (facts_of lines).gates ≡ length g.net.gates → slice_get g.want k ≡ Some v → slice_get (facts_of lines).gates v ≢ Some 1 →
      Case g lines rest w

case_of : (g : Demands) (lines : List CertLine) (rest : List ℕ) (w : CertWhy) → IsEndFault g lines rest w → Case g lines rest w
case_of g lines rest why.Syntax s = none refl s.0 s.1
case_of g lines rest why.Number s = wrong s.0 s.1 s.2
case_of g lines rest why.Claim s = wrong s.0 s.1 s.2
case_of g lines rest why.Gate s = wrong s.0 s.1 s.2
case_of g lines rest why.Missing s = early (s.0).0 refl (s.0).1 s.1
case_of g lines rest why.Rule s = unmet (s.0).0 (s.2).0 (s.2).1 refl (s.0).1 s.1 (s.2).2 (s.2).3

-- an end with all that is needed
Ended : Demands → List CertLine → List ℕ → Type 0
Ended g lines rest = ((more : List ℕ) × (rest ≡ last_line ++ more)) × IsFinished g lines

stops_here : (g : Demands) (lines : List CertLine) (rest : List ℕ) (w : CertWhy) → Case g lines rest w → Continues g lines rest → ⊥
unfolding Continues
stops_here g lines rest w (none e no_line no_end) c = no_line c.0 c.1
stops_here g lines rest w (wrong line begins f) c =
    none-some w (sym c.2 ∙ ap (flaw g.net (facts_of lines)) (begins_one rest c.0 line c.1 begins) ∙ f)
stops_here g lines rest w (early more e end apart) c = not_last rest more c.0 end c.1
stops_here g lines rest w (unmet more k v e end all is open_is) c = not_last rest more c.0 end c.1

ended_here : (g : Demands) (lines : List CertLine) (rest : List ℕ) → Ended g lines rest → Continues g lines rest → ⊥
unfolding Continues Ended
ended_here g lines rest e c = not_last rest (e.0).0 c.0 (e.0).1 c.1

-- an end with all that is needed is no fault
not_both : (g : Demands) (lines : List CertLine) (rest : List ℕ) (w : CertWhy) → Ended g lines rest → Case g lines rest w → ⊥
unfolding Ended
not_both g lines rest w e (none f no_line no_end) = no_end (e.0).0 (e.0).1
not_both g lines rest w e (wrong line begins f) = not_last rest (e.0).0 line (e.0).1 begins
not_both g lines rest w e (early more f end apart) = apart ((e.1).all)
not_both g lines rest w e (unmet more k v f end all is open_is) = open_is ((e.1).demanded k v is)

same_why : (g : Demands) (lines : List CertLine) (rest : List ℕ) (v w : CertWhy) → Case g lines rest v → Case g lines rest w → v ≡ w
same_why g lines rest v w (none e a b) (none f c d) = e ∙ sym f
same_why g lines rest v w (none e a b) (wrong line begins f) = absurd (a line begins)
same_why g lines rest v w (none e a b) (early more f end apart) = absurd (b more end)
same_why g lines rest v w (none e a b) (unmet more k x f end all is o) = absurd (b more end)
same_why g lines rest v w (wrong line begins f) (none e a b) = absurd (a line begins)
same_why g lines rest v w (wrong line begins f) (wrong other too h) =
    same_Some v w (sym f ∙ ap (flaw g.net (facts_of lines)) (begins_one rest line other begins too) ∙ h)
same_why g lines rest v w (wrong line begins f) (early more e end apart) = absurd (not_last rest more line end begins)
same_why g lines rest v w (wrong line begins f) (unmet more k x e end all is o) = absurd (not_last rest more line end begins)
same_why g lines rest v w (early more e end apart) (none f a b) = absurd (b more end)
same_why g lines rest v w (early more e end apart) (wrong line begins f) = absurd (not_last rest more line end begins)
same_why g lines rest v w (early more e end apart) (early other f too also) = e ∙ sym f
same_why g lines rest v w (early more e end apart) (unmet other k x f too all is o) = absurd (apart all)
same_why g lines rest v w (unmet more k x e end all is o) (none f a b) = absurd (b more end)
same_why g lines rest v w (unmet more k x e end all is o) (wrong line begins f) = absurd (not_last rest more line end begins)
same_why g lines rest v w (unmet more k x e end all is o) (early other f too apart) = absurd (apart all)
same_why g lines rest v w (unmet more k x e end all is o) (unmet other j y f too also it q) = e ∙ sym f

-- ---- the head

pub same_settings : (s t : Settings) (x y : List ℕ) → AreSeven s → AreSeven t → head_text s ++ x ≡ head_text t ++ y → s ≡ t
unfolding spec.head_text
same_settings s t x y p q e =
    let rest : pipe_yes s ++ x ≡ pipe_yes t ++ y =
    append_cancel_left first_line (pipe_yes s ++ x) (pipe_yes t ++ y)
    (sym (append_assoc first_line (pipe_yes s) x) ∙ e ∙ append_assoc first_line (pipe_yes t) y) in
    sym (yes_read s x p) ∙ ap settings_at rest ∙ yes_read t y q

-- a text that states settings has its first two lines
pub headed : (text rest : List ℕ) (s : Settings) (fault : CertFault) → AreSeven s → text ≡ head_text s ++ rest → HasNoHead text fault → ⊥
unfolding spec.head_text
headed text rest s fault seven whole h =
    let apart : text ≡ first_line ++ (pipe_yes s ++ rest) = whole ∙ append_assoc first_line (pipe_yes s) rest in
    ⊎_elim (λ one. one.1 (pipe_yes s ++ rest) apart) (λ two. two.1 (pipe_yes s ++ rest) apart s rest seven refl) h.line

same_fault : (a b : CertFault) → a.line ≡ b.line → a.why ≡ b.why → a ≡ b
same_fault a b e f = λ i. record { line = e i; why = f i }

no_head_one : (text : List ℕ) (a b : CertFault) → HasNoHead text a → HasNoHead text b → a ≡ b
no_head_one text a b p q = same_fault a b (by p.line q.line) (p.why ∙ sym q.why)
  where
    by : ((a.line ≡ 1) × ((rest : List ℕ) → text ≡ first_line ++ rest → ⊥))
        ⊎ ((a.line ≡ 2) × ((rest : List ℕ) → text ≡ first_line ++ rest → (s : Settings) (more : List ℕ) → AreSeven s → rest ≡ pipe_yes s ++ more → ⊥) × ((rest : List ℕ) × (text ≡ first_line ++ rest))) →
        ((b.line ≡ 1) × ((rest : List ℕ) → text ≡ first_line ++ rest → ⊥))
        ⊎ ((b.line ≡ 2) × ((rest : List ℕ) → text ≡ first_line ++ rest → (s : Settings) (more : List ℕ) → AreSeven s → rest ≡ pipe_yes s ++ more → ⊥) × ((rest : List ℕ) × (text ≡ first_line ++ rest))) →
        a.line ≡ b.line
    by (inl x) (inl y) = x.0 ∙ sym y.0
    by (inl x) (inr y) = absurd (x.1 (y.2).0 (y.2).1)
    by (inr x) (inl y) = absurd (y.1 (x.2).0 (x.2).1)
    by (inr x) (inr y) = x.0 ∙ sym y.0

-- ---- all together

module _ (g : Demands) (text : List ℕ) where
  -- a text that continues with right lines states the demands' settings
  not_headless : (fault : CertFault) (lines : List CertLine) (rest : List ℕ) → HasRightLines g text lines rest → HasNoHead text fault → ⊥
  not_headless fault lines rest o h = headed text (lines_text lines ++ rest) g.settings fault o.seven o.whole h

  not_others : (fault : CertFault) (lines : List CertLine) (rest : List ℕ) → HasRightLines g text lines rest → StatesOtherSettings g text fault → ⊥
  not_others fault lines rest o s =
      s.others (same_settings s.settings g.settings s.rest (lines_text lines ++ rest) ((s.states).seven) o.seven (sym ((s.states).whole) ∙ o.whole))

  others_headless : (a b : CertFault) → StatesOtherSettings g text a → HasNoHead text b → ⊥
  others_headless a b s h = headed text s.rest s.settings b ((s.states).seven) ((s.states).whole) h

  -- two ends of right lines
  stops_one : (a b : CertFault) → IsLineFault g text a → IsLineFault g text b → a ≡ b
  stops_one a b p q =
      let c = case_of g p.lines p.rest a.why p.stops in
      let d = case_of g q.lines q.rest b.why q.stops in
      let s = same_lines g text p.lines q.lines p.rest q.rest p.goes_on q.goes_on (stops_here g p.lines p.rest a.why c) (stops_here g q.lines q.rest b.why d) in
      same_fault a b (p.line ∙ ap (λ (ls : List CertLine). length ls + 3) s.0 ∙ sym q.line)
      (same_why g q.lines q.rest a.why b.why (subst (λ (r : List ℕ). Case g q.lines r a.why) s.1 (subst (λ (ls : List CertLine). Case g ls p.rest a.why) s.0 c)) d)

  stops_ended : (a : CertFault) (lines : List CertLine) (rest : List ℕ) → IsLineFault g text a → HasRightLines g text lines rest → Ended g lines rest → ⊥
  stops_ended a lines rest p o e =
      let c = case_of g p.lines p.rest a.why p.stops in
      let s = same_lines g text p.lines lines p.rest rest p.goes_on o (stops_here g p.lines p.rest a.why c) (ended_here g lines rest e) in
      not_both g lines rest a.why e (subst (λ (r : List ℕ). Case g lines r a.why) s.1 (subst (λ (ls : List CertLine). Case g ls p.rest a.why) s.0 c))

  past_ended : (a : CertFault) (p : HasTextAfterEnd g text a) → Ended g p.lines (last_line ++ p.more)
  unfolding Ended
  past_ended a p = ((p.more, refl), p.ends)

  ok_ended : (c : CertOk g text) → Ended g c.lines last_line
  unfolding Ended
  ok_ended c = (([], sym (append-nil last_line)), c.ends)

  past_one : (a b : CertFault) → HasTextAfterEnd g text a → HasTextAfterEnd g text b → a ≡ b
  past_one a b p q =
      let s =
      same_lines g text p.lines q.lines (last_line ++ p.more) (last_line ++ q.more) p.goes_on q.goes_on
      (ended_here g p.lines (last_line ++ p.more) (past_ended a p)) (ended_here g q.lines (last_line ++ q.more) (past_ended b q)) in
      same_fault a b (p.line ∙ ap (λ (ls : List CertLine). length ls + 4) s.0 ∙ sym q.line) (p.why ∙ sym q.why)

  ok_past : (a : CertFault) → CertOk g text → HasTextAfterEnd g text a → ⊥
  ok_past a c p =
      let s =
      same_lines g text c.lines p.lines last_line (last_line ++ p.more) c.goes_on p.goes_on
      (ended_here g c.lines last_line (ok_ended c)) (ended_here g p.lines (last_line ++ p.more) (past_ended a p)) in
      let l = ap length s.1 in
      let m = length-append last_line p.more in
      let n = p.some in
      omega (arith, l, m, n)

  no_fault : (a : CertFault) → IsFirstFault g text a → CertOk g text → ⊥
  no_fault a f c = by f
    where
      by : IsFirstFault g text a → ⊥
      by (inl h) = not_headless a c.lines last_line c.goes_on h
      by (inr (inl s)) = not_others a c.lines last_line c.goes_on s
      by (inr (inr (inl p))) = stops_ended a c.lines last_line p c.goes_on (ok_ended c)
      by (inr (inr (inr p))) = ok_past a c p

  one_fault : (a b : CertFault) → IsFirstFault g text a → IsFirstFault g text b → b ≡ a
  one_fault a b (inl h) (inl i) = no_head_one text b a i h
  one_fault a b (inl h) (inr (inl s)) = absurd (others_headless b a s h)
  one_fault a b (inl h) (inr (inr (inl p))) = absurd (not_headless a p.lines p.rest p.goes_on h)
  one_fault a b (inl h) (inr (inr (inr p))) = absurd (not_headless a p.lines (last_line ++ p.more) p.goes_on h)
  one_fault a b (inr (inl s)) (inl h) = absurd (others_headless a b s h)
  one_fault a b (inr (inl s)) (inr (inl t)) = t.is ∙ sym s.is
  one_fault a b (inr (inl s)) (inr (inr (inl p))) = absurd (not_others a p.lines p.rest p.goes_on s)
  one_fault a b (inr (inl s)) (inr (inr (inr p))) = absurd (not_others a p.lines (last_line ++ p.more) p.goes_on s)
  one_fault a b (inr (inr (inl p))) (inl h) = absurd (not_headless b p.lines p.rest p.goes_on h)
  one_fault a b (inr (inr (inl p))) (inr (inl s)) = absurd (not_others b p.lines p.rest p.goes_on s)
  one_fault a b (inr (inr (inl p))) (inr (inr (inl q))) = stops_one b a q p
  one_fault a b (inr (inr (inl p))) (inr (inr (inr q))) = absurd (stops_ended a q.lines (last_line ++ q.more) p q.goes_on (past_ended b q))
  one_fault a b (inr (inr (inr p))) (inl h) = absurd (not_headless b p.lines (last_line ++ p.more) p.goes_on h)
  one_fault a b (inr (inr (inr p))) (inr (inl s)) = absurd (not_others b p.lines (last_line ++ p.more) p.goes_on s)
  one_fault a b (inr (inr (inr p))) (inr (inr (inl q))) = absurd (stops_ended b p.lines (last_line ++ p.more) q p.goes_on (past_ended a p))
  one_fault a b (inr (inr (inr p))) (inr (inr (inr q))) = past_one b a q p

pub faults_are_first : FaultsAreFirst
faults_are_first g text fault f = (no_fault g text fault f, λ other h. one_fault g text fault other f h)

-- ---- a certificate over other gates

-- no line begins where a certificate ends
end_alone : (line : CertLine) → BeginsWith last_line line → ⊥
end_alone line b = not_last last_line [] line (sym (append-nil last_line)) b

gate_only : (f : Bool) (w : CertWhy) → cond (not f) (Some why.Gate) None ≡ Some w → w ≡ why.Gate
gate_only true w e = absurd (none-some w e)
gate_only false w e = sym (same_Some why.Gate w e)

-- a line that is right for one net is wrong for another with as many variables only because of its gate
wrong_gate : (g h : Gates) (k : CheckerFacts) (line : CertLine) (w : CertWhy) → g.vars ≡ h.vars → flaw g k line ≡ None → flaw h k line ≡ Some w → w ≡ why.Gate
unfolding flaw
wrong_gate g h k line w vars one fails =
    let r = right_line g k line one in
    let named : names h.vars k line ≡ true = ap (λ (n : ℕ). names n k line) (sym vars) ∙ r.0 in
    gate_only (gate_matches h k line) w
    ((λ i. cond (not (sym r.1 i)) (Some why.Claim) (cond (not (gate_matches h k line)) (Some why.Gate) None))
    ∙ (λ i. cond (not (sym named i)) (Some why.Number) (cond (not (is_justified k line)) (Some why.Claim) (cond (not (gate_matches h k line)) (Some why.Gate) None)))
    ∙ fails)

module _ (g h : Demands) (text : List ℕ) (settings : g.settings ≡ h.settings) (vars : g.net.vars ≡ h.net.vars) (c : CertOk g text) where
  compared : (lines : List CertLine) (rest : List ℕ) → HasRightLines h text lines rest → Compared c.lines lines last_line rest
  compared lines rest o =
      compare_lines c.lines lines last_line rest c.goes_on.each o.each
      (append_cancel_left (head_text g.settings) (lines_text c.lines ++ last_line) (lines_text lines ++ rest)
      (sym c.goes_on.whole ∙ o.whole ∙ ap (λ (s : Settings). head_text s ++ (lines_text lines ++ rest)) (sym settings)))

  -- if the lines for the other net are all lines
  same_end : (rest : List ℕ) (lines : List CertLine) (w : CertWhy) → last_line ≡ rest → Case h lines rest w → IsOfGates w
  same_end rest lines w e (none f no_line no_end) = absurd (no_end [] (sym e ∙ sym (append-nil last_line)))
  same_end rest lines w e (wrong line begins f) = absurd (not_last rest [] line (sym e ∙ sym (append-nil last_line)) begins)
  same_end rest lines w e (early more f end apart) = subst IsOfGates (sym f) tt
  same_end rest lines w e (unmet more k v f end all is open_is) = subst IsOfGates (sym f) tt

  -- if one more line is right for the first net
  one_more : (rest : List ℕ) (lines : List CertLine) (w : CertWhy) (line : CertLine) → BeginsWith rest line → flaw g.net (facts_of lines) line ≡ None → Case h lines rest w → IsOfGates w
  one_more rest lines w line begins right (none f no_line no_end) = absurd (no_line line begins)
  one_more rest lines w line begins right (wrong other too f) =
      subst IsOfGates
      (sym (wrong_gate g.net h.net (facts_of lines) line w vars right (ap (flaw h.net (facts_of lines)) (begins_one rest line other begins too) ∙ f)))
      tt
  one_more rest lines w line begins right (early more f end apart) = absurd (not_last rest more line end begins)
  one_more rest lines w line begins right (unmet more k v f end all is open_is) = absurd (not_last rest more line end begins)

  -- there can't be more lines for the other net
  no_more : (lines : List CertLine) (rest : List ℕ) (line : CertLine) (more : List CertLine) → HasRightLines h text lines rest → lines ≡ c.lines ++ line ∷ more →
      last_line ≡ line_text line ++ (lines_text more ++ rest) → ⊥
  unfolding Continues
  no_more lines rest line more o e f =
      let k = continues h c.lines lines last_line rest line more o.right o.each e f in
      end_alone k.0 k.1

  -- if there are fewer, the next one is right for the first net
  next_right : (lines : List CertLine) (rest : List ℕ) (line : CertLine) (more : List CertLine) → c.lines ≡ lines ++ line ∷ more → rest ≡ line_text line ++ (lines_text more ++ last_line) →
      (l : CertLine) × BeginsWith rest l × (flaw g.net (facts_of lines) l ≡ None)
  unfolding Continues
  next_right lines rest line more e f = continues g lines c.lines rest last_line line more c.goes_on.right c.goes_on.each e f

  by_compared : (lines : List CertLine) (rest : List ℕ) (w : CertWhy) → HasRightLines h text lines rest → Case h lines rest w → Compared c.lines lines last_line rest → IsOfGates w
  by_compared lines rest w o found (same e f) = same_end rest lines w f found
  by_compared lines rest w o found (left_short line more e f) = absurd (no_more lines rest line more o e f)
  by_compared lines rest w o found (right_short line more e f) =
      let k = next_right lines rest line more e f in
      one_more rest lines w k.0 k.1 k.2 found

  past_compared : (lines : List CertLine) (more : List ℕ) → HasRightLines h text lines (last_line ++ more) → 0 < length more → Compared c.lines lines last_line (last_line ++ more) → ⊥
  past_compared lines more o some (same e f) =
      let l = ap length f in
      let m = length-append last_line more in
      omega (arith, l, m, some)
  past_compared lines more o some (left_short line lines_more e f) = no_more lines (last_line ++ more) line lines_more o e f
  past_compared lines more o some (right_short line lines_more e f) =
      let k = next_right lines (last_line ++ more) line lines_more e f in
      not_last (last_line ++ more) more k.0 refl k.1

  stops_by_gates : (fault : CertFault) → IsLineFault h text fault → IsOfGates fault.why
  stops_by_gates fault p =
      by_compared p.lines p.rest fault.why p.goes_on (case_of h p.lines p.rest fault.why p.stops) (compared p.lines p.rest p.goes_on)

  not_past : (fault : CertFault) → HasTextAfterEnd h text fault → ⊥
  not_past fault p = past_compared p.lines p.more p.goes_on p.some (compared p.lines (last_line ++ p.more) p.goes_on)

pub others_refuse_by_gates : OthersRefuseByGates
others_refuse_by_gates g h text fault settings vars c (inl n) = absurd (headed text (lines_text c.lines ++ last_line) g.settings fault c.goes_on.seven c.goes_on.whole n)
others_refuse_by_gates g h text fault settings vars c (inr (inl s)) =
    absurd (s.others (same_settings s.settings g.settings s.rest (lines_text c.lines ++ last_line) ((s.states).seven) c.goes_on.seven (sym ((s.states).whole) ∙ c.goes_on.whole) ∙ settings))
others_refuse_by_gates g h text fault settings vars c (inr (inr (inl p))) = (stops_by_gates g h text settings vars c fault p, (let l = p.line in omega (arith, l)))
others_refuse_by_gates g h text fault settings vars c (inr (inr (inr p))) = absurd (not_past g h text settings vars c fault p)
