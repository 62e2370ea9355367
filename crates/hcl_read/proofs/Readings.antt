-- The reader's loop computes what the machine does.
use Rattle.std.proofs.Common.{◌≡◌, ℕ, ◌-◌, ◌<◌, ◌≤◌, ap, sym, subst, ◌∙◌, refl, true, false, List, [], ◌∷◌, ◌++◌, length, take, Ok, Err, Some, inl, inr, arith, append_assoc, length-append}
use Rattle.std.specs.Prelude.{nat_le}
use Rattle.std.proofs.lemmas.Bool.Decides.{nat_tests}
use Rattle.std.proofs.lemmas.List.{append_cancel_right, map-append, take_at}
use Rattle.y86_base.specs.Cursor.{column_behind, line_behind}
use Rattle.hcl_read.specs.declared.fault.HclFault.{HclFault}
use Rattle.hcl_read.specs.declared.fault.HclWhy.{HclWhy}
use Rattle.hcl_read.specs.declared.fault.HclWhy.TheVariants as whys
use Rattle.hcl_read.specs.declared.reading.ReadStop.{ReadStop}
use Rattle.hcl_read.specs.declared.state.ReaderState.{ReaderState}
use Rattle.hcl_read.specs.declared.tokens.Token.{Token}
use Rattle.hcl_tree.specs.declared.tree.File.{File}
use Rattle.hcl_read.specs.Fault.{FaultAt, noted}
use Rattle.hcl_read.specs.Machine.{Outcome, at_end, ended, outcome, outcome_at, start, step}
use Rattle.hcl_read.specs.Read.{IsReadAnswer, ReadsAs, IsReadFault, bytes_from, kinds}
use Rattle.hcl_read.specs.Steps.{Refuses}
use Rattle.hcl_read.specs.Stops.{HaltsAt, Refused, Stopped, TakesToken}
use Rattle.hcl_read.specs.Tokens.{front, items, skipped, token, tokens}
use Rattle.hcl_read.proofs.Exact.{Answers, accepts, answers}
use Rattle.hcl_read.proofs.Items.{Ends, ends_more, ends_shorter, ends_through, items_listed, listed, listed_more, listed_none, skipped_ends, token_ends}
use Rattle.hcl_read.proofs.OneFault.{file_has_no_fault}

pub too_many : (names : List (List ℕ)) (state next : ReaderState) (token : Token) → step true state token ≡ Ok next → false ≡ nat_le (length (noted names token)) 256
    → Refused names state token whys.NamesOver256
too_many names state next token e many = inr (λ ts behind. rw (e, ← many) refl)

pub refused : (names : List (List ℕ)) (state : ReaderState) (token : Token) (why : HclWhy) → Refuses why (step true state token) → Refused names state token why
refused names state token whys.Memory h = inl refl
refused names state token whys.Syntax h = inr (λ ts behind. rw h refl)
refused names state token whys.BadByte h = inr (λ ts behind. rw h refl)
refused names state token whys.NumberTooWide h = inr (λ ts behind. rw h refl)
refused names state token whys.DepthOver64 h = inr (λ ts behind. rw h refl)
refused names state token whys.NamesOver256 h = inr (λ ts behind. rw h refl)

-- the loop's invariant: reading the rest gives what reading the whole text gives
pub record Follows (text : List ℕ) (names : List (List ℕ)) (state : ReaderState) (rest : List ℕ) : Type 0 where
  pub few : length names ≤ 256
  pub ends : Ends text rest
  pub front : List (Token × List ℕ)
  pub whole : items text ≡ front ++ listed rest
  pub same : outcome [] start (tokens text) ≡ outcome names state (kinds (listed rest))

pub follows_first : (text : List ℕ) → Follows text [] start (skipped false text)
follows_first text = record {
  few = omega arith;
  ends = skipped_ends false text;
  front = [];
  whole = items_listed text;
  same = ap (λ some. outcome [] start (kinds some)) (items_listed text);
}

-- the first token of a rest, and the rest after it
pub front_is : (rest : List ℕ) (t : Token) (behind : List ℕ) → front rest ≡ Some (t, behind) →
    (listed rest ≡ (t, rest) ∷ listed (skipped false behind)) × Ends rest (skipped false behind) × (length (skipped false behind) < length rest)
front_is [] t behind e = let no : ⊥ = cc in absurd no
front_is (byte ∷ bytes) t behind e =
    let same : token byte bytes ≡ (t, behind) = cc in
    let ends = ends_through bytes (token byte bytes).1 _ (token_ends byte bytes) (skipped_ends false (token byte bytes).1) in
    let short = ends_shorter bytes (skipped false (token byte bytes).1) ends in (
      listed_more byte bytes ∙ ap (λ (x : Token × List ℕ). (x.0, byte ∷ bytes) ∷ listed (skipped false x.1)) same,
      subst (λ (x : Token × List ℕ). Ends (byte ∷ bytes) (skipped false x.1)) same (ends_more byte bytes _ ends),
      subst (λ (x : Token × List ℕ). length (skipped false x.1) < length (byte ∷ bytes)) same (omega arith),
    )

outcome_on : (names names_next : List (List ℕ)) (state next : ReaderState) (t : Token) (ts : List Token) → TakesToken names state t names_next next →
    outcome names state (t ∷ ts) ≡ outcome names_next next ts
unfolding outcome
outcome_on names names_next state next t ts takes =
    let fit : nat_le (length (noted names t)) 256 ≡ true = ap (λ some. nat_le (length some) 256) (sym takes.known) ∙ takes.few in
    rw (takes.stepped, fit) (ap (λ some. outcome some next ts) (sym takes.known))

pub follows_next : (text : List ℕ) (names names_next : List (List ℕ)) (state next : ReaderState) (rest : List ℕ) (t : Token) (behind : List ℕ) →
    Follows text names state rest → front rest ≡ Some (t, behind) → TakesToken names state t names_next next → Follows text names_next next (skipped false behind)
follows_next text names names_next state next rest t behind follows e takes =
    let f = front_is rest t behind e in
    record {
      few = let h = takes.few in grind (arith, nat_tests);
      ends = ends_through text rest (skipped false behind) follows.ends f.1;
      front = follows.front ++ (t, rest) ∷ [];
      whole = follows.whole ∙ ap (λ some. follows.front ++ some) f.0 ∙ sym (append_assoc follows.front ((t, rest) ∷ []) (listed (skipped false behind)));
      same = follows.same ∙ ap (λ some. outcome names state (kinds some)) f.0 ∙ outcome_on names names_next state next t (kinds (listed (skipped false behind))) takes;
    }

-- the end of the text
at_the_end : (text : List ℕ) (names : List (List ℕ)) (state : ReaderState) (rest : List ℕ) → rest ≡ [] → Follows text names state rest →
    outcome [] start (tokens text) ≡ at_end (ended state.items state.place)
unfolding outcome
at_the_end text names state rest e follows = follows.same ∙ ap (λ some. outcome names state (kinds (listed some))) e ∙ ap (λ some. outcome names state (kinds some)) listed_none

pub found_at_end : (text : List ℕ) (names : List (List ℕ)) (state : ReaderState) (rest : List ℕ) (file : File) → rest ≡ [] → Follows text names state rest →
    ended state.items state.place ≡ Ok file → outcome [] start (tokens text) ≡ Ok file
found_at_end text names state rest file e follows end = at_the_end text names state rest e follows ∙ ap at_end end

length_before : (text before rest : List ℕ) → text ≡ before ++ rest → length before ≡ length text - length rest
length_before text before rest e = let n = ap length e ∙ length-append before rest in omega arith

pub stopped_at_end : (text : List ℕ) (names : List (List ℕ)) (state : ReaderState) (rest : List ℕ) (at : ℕ) (why : HclWhy) → rest ≡ [] → Follows text names state rest →
    at ≡ length text - length rest → Refuses why (ended state.items state.place) → Stopped text (record { at = at; why = why })
stopped_at_end text names state rest at why e follows place h = go why h
  where
    halts : (reason : HclWhy) → ended state.items state.place ≡ Err reason → HaltsAt text (record { at = at; why = reason })
    halts reason end = record {
      front = follows.front;
      rest = [];
      whole = follows.whole ∙ ap (λ some. follows.front ++ listed some) e ∙ ap (λ some. follows.front ++ some) listed_none;
      refused = at_the_end text names state rest e follows ∙ ap at_end end;
      before = follows.ends.0;
      place = follows.ends.1 ∙ ap (λ some. follows.ends.0 ++ some) e;
      at = length_before text follows.ends.0 rest follows.ends.1 ∙ sym place;
    }

    go : (reason : HclWhy) → Refuses reason (ended state.items state.place) → Stopped text (record { at = at; why = reason })
    go whys.Memory h = inl refl
    go whys.Syntax h = inr (halts whys.Syntax h)
    go whys.BadByte h = inr (halts whys.BadByte h)
    go whys.NumberTooWide h = inr (halts whys.NumberTooWide h)
    go whys.DepthOver64 h = inr (halts whys.DepthOver64 h)
    go whys.NamesOver256 h = inr (halts whys.NamesOver256 h)

-- a token that is refused
from_listed : (rest : List ℕ) → bytes_from (listed rest) ≡ rest
from_listed [] = ap bytes_from listed_none
from_listed (byte ∷ bytes) = ap bytes_from (listed_more byte bytes)

outcome_refused : (names : List (List ℕ)) (state : ReaderState) (t : Token) (ts : List Token) (why : HclWhy) →
    ((some : List Token) (behind : ReaderState → Outcome) → outcome_at (noted names t) some (step true state t) behind ≡ Err (some, why)) →
    outcome names state (t ∷ ts) ≡ Err (t ∷ ts, why)
unfolding outcome
outcome_refused names state t ts why h = h (t ∷ ts) (λ next. outcome (noted names t) next ts)

pub stopped_here : (text : List ℕ) (names : List (List ℕ)) (state : ReaderState) (rest : List ℕ) (at : ℕ) (why : HclWhy) (t : Token) (behind : List ℕ) →
    Follows text names state rest → at ≡ length text - length rest → front rest ≡ Some (t, behind) → Refused names state t why → Stopped text (record { at = at; why = why })
stopped_here text names state rest at why t behind follows place e (inl memory) = inl memory
stopped_here text names state rest at why t behind follows place e (inr h) =
    let f = front_is rest t behind e in
    inr (record {
      front = follows.front;
      rest = listed rest;
      whole = follows.whole;
      refused = follows.same ∙ subst (λ some. outcome names state (kinds some) ≡ Err (kinds some, why)) (sym f.0) (outcome_refused names state t (kinds (listed (skipped false behind))) why h);
      before = follows.ends.0;
      place = follows.ends.1 ∙ ap (λ some. follows.ends.0 ++ some) (sym (from_listed rest));
      at = length_before text follows.ends.0 rest follows.ends.1 ∙ sym place;
    })

-- the public clauses
pub found : (text : List ℕ) (file : File) → outcome [] start (tokens text) ≡ Ok file → ReadsAs text file
found text file e = subst (λ o. Answers (tokens text) o) e (answers (tokens text))

pub gives_found : (text : List ℕ) (file : File) → outcome [] start (tokens text) ≡ Ok file → (wanted : File) → ReadsAs text wanted → IsReadAnswer (Ok file) wanted
gives_found text file e wanted accepted = let o = accepts (tokens text) wanted accepted in cc

fault_at : (text : List ℕ) (stop : ReadStop) (halts : HaltsAt text stop) → FaultAt (kinds halts.front) (kinds halts.rest) stop.why
fault_at text stop halts =
    let a = subst (λ o. Answers (tokens text) o) halts.refused (answers (tokens text)) in
    let split : tokens text ≡ kinds halts.front ++ kinds halts.rest = ap kinds halts.whole ∙ map-append (λ (item : Token × List ℕ). item.0) halts.front halts.rest in
    let same : a.0 ≡ kinds halts.front = append_cancel_right a.0 (kinds halts.front) (kinds halts.rest) (sym a.1 ∙ split) in
    subst (λ some. FaultAt some (kinds halts.rest) stop.why) same a.2

pub told : (text : List ℕ) (stop : ReadStop) (line col : ℕ) → Stopped text stop → (stop.why ≡ whys.Memory → ⊥) →
    line ≡ line_behind (take stop.at text) → col ≡ column_behind (take stop.at text) → IsReadFault text (record { line = line; col = col; why = stop.why })
told text stop line col (inl memory) other l c = absurd (other memory)
told text stop line col (inr halts) other l c =
    let taken : take stop.at text ≡ halts.before = ap (take stop.at) halts.place ∙ take_at halts.before (bytes_from halts.rest) stop.at halts.at in
    inr (record {
      front = halts.front;
      rest = halts.rest;
      whole = halts.whole;
      reason = fault_at text stop halts;
      before = halts.before;
      place = halts.place;
      line = l ∙ ap line_behind taken;
      column = c ∙ ap column_behind taken;
    })

pub gives_fault : (text : List ℕ) (fault : HclFault) → IsReadFault text fault → (wanted : File) → ReadsAs text wanted → IsReadAnswer (Err fault) wanted
gives_fault text fault (inl memory) wanted accepted = memory.0
gives_fault text fault (inr is) wanted accepted = absurd (file_has_no_fault text wanted fault accepted is)

-- the loop's steps, from the contracts of its calls
pub follows_start : (text : List ℕ) (names : List (List ℕ)) (state : ReaderState) (rest : List ℕ) → names ≡ [] → state ≡ start → rest ≡ skipped false text → Follows text names state rest
follows_start text names state rest n s r =
    subst (λ x. Follows text x state rest) (sym n) (subst (λ x. Follows text [] x rest) (sym s) (subst (λ x. Follows text [] start x) (sym r) (follows_first text)))

pub follows_step : (text : List ℕ) (names names_next : List (List ℕ)) (state next : ReaderState) (rest : List ℕ) (t : Token) (behind rest_next : List ℕ) →
    Follows text names state rest → front rest ≡ Some (t, behind) → TakesToken names state t names_next next → rest_next ≡ skipped false behind → Follows text names_next next rest_next
follows_step text names names_next state next rest t behind rest_next follows e takes r =
    subst (λ x. Follows text names_next next x) (sym r) (follows_next text names names_next state next rest t behind follows e takes)

pub shrinks : (rest : List ℕ) (t : Token) (behind rest_next : List ℕ) → front rest ≡ Some (t, behind) → rest_next ≡ skipped false behind → length rest_next < length rest
shrinks rest t behind rest_next e r = subst (λ x. length x < length rest) (sym r) (front_is rest t behind e).2
