-- The state of the reader after the first tokens of a text.
use Rattle.std.proofs.Common.{◌≡◌, ℕ, zero, suc, ◌+◌, ◌<◌, ◌≤◌, ap, sym, ◌∙◌, refl, subst, Bool, true, false, List, [], ◌∷◌, ◌++◌, length, map, take, arith, append-nil, append_assoc, length-append}
use Rattle.std.specs.Prelude.{◌≢◌, ◌↔◌, Option, Some, None, Result, Ok, Err, IfOk, is_ok, nat_lt}
use Rattle.std.proofs.lemmas.List.{take_all, take_at}
use Rattle.hcl_read.specs.declared.fault.HclWhy.{HclWhy}
use Rattle.hcl_read.specs.declared.fault.HclWhy.TheVariants as whys
use Rattle.hcl_read.specs.declared.tokens.Token.{Token}
use Rattle.hcl_read.specs.declared.state.ReaderState.{ReaderState}
use Rattle.hcl_read.specs.Machine.{on, run, start, step}
use Rattle.hcl_read.specs.Steps.{Refuses, Steps}
use Rattle.hcl_read.specs.Tokens.{items, skipped, front, tokens}
use Rattle.hcl_read.specs.Fault.{Viable}
use Rattle.hcl_read.proofs.Items.{items_ended}
use Rattle.hcl_read.proofs.Exact.{one_more_read, run_all, strict_in_front, viable_reads, reads_viable, no_ok}
use Rattle.hcl_faults.specs.declared.kinds.TokenKind.{TokenKind}
use Rattle.hcl_faults.specs.Kinds.{sample}
use Rattle.hcl_faults.specs.Expected.{follows}
use Rattle.hcl_faults.proofs.Listing.{is_token}

kind_list : List (Token × List ℕ) → List Token
kind_list some = map (λ item. item.0) some

-- the loop invariant: the reader has taken the tokens so far
pub record Reached (text : List ℕ) (count : ℕ) (state : ReaderState) (rest : List ℕ) : Type 0 where
  pub taken : List Token
  pub whole : tokens text ≡ taken ++ tokens rest
  pub count_is : length taken ≡ count
  pub ran : run 0 start taken ≡ Ok state

pub reached_first : (text : List ℕ) → Reached text 0 start text
unfolding run
reached_first text = record { taken = []; whole = refl; count_is = refl; ran = refl }

tokens_next : (rest here : List ℕ) (t : Token) (behind : List ℕ) → here ≡ skipped false rest → front here ≡ Some (t, behind) → tokens rest ≡ t ∷ tokens behind
tokens_next rest here t behind gap e = ap (λ some. map (λ (item : Token × List ℕ). item.0) some) (is_token rest here t behind gap e).items_are

pub reached_step : (text rest here : List ℕ) (t : Token) (behind : List ℕ) (count : ℕ) (state next : ReaderState) → Reached text count state rest → here ≡ skipped false rest →
    front here ≡ Some (t, behind) → step true state t ≡ Ok next → Reached text (count + 1) next behind
reached_step text rest here t behind count state next r gap e s =
    record {
      taken = r.taken ++ t ∷ [];
      whole = r.whole ∙ ap (λ some. r.taken ++ some) (tokens_next rest here t behind gap e) ∙ sym (append_assoc r.taken (t ∷ []) (tokens behind));
      count_is = length-append r.taken (t ∷ []) ∙ ap (λ n. n + 1) r.count_is;
      ran = one_more_read r.taken t state r.ran ∙ s;
    }

-- the first `most` tokens of a text that has no more tokens
pub reached_end : (text rest here : List ℕ) (count most : ℕ) (state : ReaderState) → Reached text count state rest → here ≡ skipped false rest → here ≡ [] → count ≤ most →
    run 0 start (take most (tokens text)) ≡ Ok state
reached_end text rest here count most state r gap e h =
    let none : tokens rest ≡ [] = ap (λ some. map (λ (item : Token × List ℕ). item.0) some) (items_ended rest (sym gap ∙ e)) in
    let all : tokens text ≡ r.taken = r.whole ∙ ap (λ some. r.taken ++ some) none ∙ append-nil r.taken in
    let fits : length r.taken ≤ most = let c = r.count_is in omega arith in
    ap (λ some. run 0 start (take most some)) all ∙ ap (run 0 start) (take_all most r.taken fits) ∙ r.ran

pub reached_whole : (text rest : List ℕ) (count : ℕ) (state : ReaderState) → Reached text count state rest → run 0 start (take count (tokens text)) ≡ Ok state
reached_whole text rest count state r =
    ap (λ some. run 0 start (take count some)) r.whole ∙ ap (run 0 start) (take_at r.taken (tokens rest) count r.count_is) ∙ r.ran

more_of : {A : Type 0} (xs : List A) (x : A) (ys : List A) (n : ℕ) → length xs < n → (zs : List A) × (take n (xs ++ x ∷ ys) ≡ xs ++ x ∷ zs)
more_of [] x ys zero h = absurd (omega (arith, h))
more_of [] x ys (suc n) h = (take n ys, refl)
more_of (z ∷ zs) x ys zero h = absurd (omega (arith, h))
more_of (z ∷ zs) x ys (suc n) h = let m = more_of zs x ys n (omega (arith, h)) in (m.0, ap (λ some. z ∷ some) m.1)

refused_run : (taken behind : List Token) (t : Token) (state : ReaderState) (why : HclWhy) → run 0 start taken ≡ Ok state → step true state t ≡ Err why →
    run 0 start (taken ++ t ∷ behind) ≡ Err why
unfolding run
refused_run taken behind t state why ran s =
    run_all taken (t ∷ behind) start ∙ ap (λ r. on r (λ next. run 0 next (t ∷ behind))) ran
    ∙ ap (λ strict. on (step strict state t) (λ next. run 0 next behind)) (strict_in_front 0 (length behind) (omega arith))
    ∙ ap (λ r. on r (λ next. run 0 next behind)) s

pub reached_refused : (text rest here : List ℕ) (t : Token) (behind : List ℕ) (count most : ℕ) (state : ReaderState) (why : HclWhy) → Reached text count state rest →
    here ≡ skipped false rest → front here ≡ Some (t, behind) → count < most → Refuses why (step true state t) → Refuses why (run 0 start (take most (tokens text)))
reached_refused text rest here t behind count most state why r gap e h s = go why s
  where
    by : (reason : HclWhy) → step true state t ≡ Err reason → run 0 start (take most (tokens text)) ≡ Err reason
    by reason f =
        let short : length r.taken < most = let c = r.count_is in omega arith in
        let more = more_of r.taken t (tokens behind) most short in
        ap (λ some. run 0 start (take most some)) (r.whole ∙ ap (λ some. r.taken ++ some) (tokens_next rest here t behind gap e))
        ∙ ap (run 0 start) more.1 ∙ refused_run r.taken more.0 t state reason r.ran f

    go : (reason : HclWhy) → Refuses reason (step true state t) → Refuses reason (run 0 start (take most (tokens text)))
    go whys.Memory f = tt
    go whys.Syntax f = by whys.Syntax f
    go whys.BadByte f = by whys.BadByte f
    go whys.NumberTooWide f = by whys.NumberTooWide f
    go whys.DepthOver64 f = by whys.DepthOver64 f
    go whys.NamesOver256 f = by whys.NamesOver256 f

-- whether a kind follows
pub follows_on : (taken : List Token) (kind : TokenKind) (state : ReaderState) → run 0 start taken ≡ Ok state → follows taken kind ≡ is_ok (step true state (sample kind))
unfolding follows
follows_on taken kind state ran = ap is_ok (one_more_read taken (sample kind) state ran)

pub not_ok : {A : Type 0} (why : HclWhy) (r : Result A HclWhy) → Refuses why r → (why ≡ whys.Memory → ⊥) → (reason : HclWhy) × (r ≡ Err reason)
not_ok whys.Memory r f other = absurd (other refl)
not_ok whys.Syntax r f other = (whys.Syntax, f)
not_ok whys.BadByte r f other = (whys.BadByte, f)
not_ok whys.NumberTooWide r f other = (whys.NumberTooWide, f)
not_ok whys.DepthOver64 r f other = (whys.DepthOver64, f)
not_ok whys.NamesOver256 r f other = (whys.NamesOver256, f)

pub follows_not : (taken : List Token) (kind : TokenKind) (why : HclWhy) → Refuses why (run 0 start taken) → (why ≡ whys.Memory → ⊥) → false ≡ follows taken kind
unfolding follows
follows_not taken kind why f other =
    let e = not_ok why (run 0 start taken) f other in
    sym (ap is_ok (run_all taken (sample kind ∷ []) start ∙ ap (λ r. on r (λ next. run 0 next (sample kind ∷ []))) e.1))

-- the answer if the reader refuses
pub refused_step : {A E : Type 0} (r : Result Bool E) (why : HclWhy) (w : Result A HclWhy) → IfOk r (λ yes. (yes ≡ false) × (why ≢ whys.Memory)) → Refuses why w →
    IfOk r (λ yes. yes ≡ is_ok w)
refused_step (Ok said) why w h f = let e = not_ok why w f h.1 in h.0 ∙ sym (ap is_ok e.1)
refused_step (Err memory) why w h f = tt

pub refused_run_of : {E : Type 0} (r : Result Bool E) (why : HclWhy) (taken : List Token) (kind : TokenKind) → IfOk r (λ yes. (yes ≡ false) × (why ≢ whys.Memory)) →
    Refuses why (run 0 start taken) → IfOk r (λ yes. yes ≡ follows taken kind)
refused_run_of (Ok said) why taken kind h f = h.0 ∙ follows_not taken kind why f h.1
refused_run_of (Err memory) why taken kind h f = tt

pub taken_run : {E : Type 0} (r : Result Bool E) (taken : List Token) (kind : TokenKind) (state : ReaderState) → run 0 start taken ≡ Ok state →
    IfOk r (λ yes. yes ≡ is_ok (step true state (sample kind))) → IfOk r (λ yes. yes ≡ follows taken kind)
taken_run (Ok said) taken kind state ran h = h ∙ sym (follows_on taken kind state ran)
taken_run (Err memory) taken kind state ran h = tt

-- the same by the grammar
pub follows_in_files : (front : List Token) (kind : TokenKind) → (follows front kind ≡ true) ↔ Viable (front ++ sample kind ∷ [])
unfolding follows
follows_in_files front kind = (λ e. by (run 0 start (front ++ sample kind ∷ [])) refl e, λ v. ap is_ok (viable_reads (front ++ sample kind ∷ []) v).1)
  where
    by : (r : Result ReaderState HclWhy) → run 0 start (front ++ sample kind ∷ []) ≡ r → is_ok r ≡ true → Viable (front ++ sample kind ∷ [])
    by (Ok s) p e = reads_viable (front ++ sample kind ∷ []) s p
    by (Err why) p e = absurd (grind (arith, e))
