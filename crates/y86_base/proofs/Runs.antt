-- The longest run of bytes at the front of a text that pass a test (`law_of_runs`).
use Rattle.std.proofs.Common.{◌≡◌, ◌↔◌, ℕ, suc, ◌+◌, ◌<◌, Bool, true, false, cond, eqb, List, [], ◌∷◌, ◌++◌, length, take, drop, refl, sym, ap, ◌∙◌, Some, None, take_while, arith}
use Rattle.std.specs.List.{list_all, prefix_len}
use Rattle.std.proofs.Math.Numerals.{one-add}
use Rattle.std.proofs.Math.Seq.{drop-append_seam, take-append_seam}
use Rattle.std.proofs.lemmas.Bool.{eqb-true, and_parts}
use Rattle.std.proofs.lemmas.List.{take-append-drop}
use Rattle.y86_base.specs.Text.{IsRun, after_byte, begins, behind}

step_true : (b : Bool) (n : ℕ) → b ≡ true → cond b (1 + n) 0 ≡ suc n
step_true b n e = rw (e, one-add) refl

prefix_len-run : (passes : ℕ → Bool) (run text : List ℕ) → list_all passes run ≡ true → begins passes text ≡ false → prefix_len passes (run ++ text) ≡ length run
prefix_len-run passes [] [] h stops = refl
prefix_len-run passes [] (first ∷ rest) h stops = rw stops refl
prefix_len-run passes (x ∷ run) text h stops =
    let b = and_parts (passes x) (list_all passes run) h in
    step_true (passes x) _ b.0 ∙ ap suc (prefix_len-run passes run text b.1 stops)

pub behind-run : (passes : ℕ → Bool) (run text : List ℕ) → list_all passes run ≡ true → begins passes text ≡ false → behind passes (run ++ text) ≡ text
behind-run passes run text h stops = rw (prefix_len-run passes run text h stops) (drop-append_seam run text)

pub take_while-run : (passes : ℕ → Bool) (run text : List ℕ) → list_all passes run ≡ true → begins passes text ≡ false → take_while passes (run ++ text) ≡ run
take_while-run passes run text h stops = rw (prefix_len-run passes run text h stops) (take-append_seam run text)

pub run_and_rest : (passes : ℕ → Bool) (text : List ℕ) → text ≡ take_while passes text ++ behind passes text
run_and_rest passes text = sym (take-append-drop (prefix_len passes text) text)

first_passes : (b : Bool) (passes : ℕ → Bool) (x : ℕ) (text : List ℕ) → passes x ≡ b → list_all passes (take_while passes text) ≡ true →
    list_all passes (take (cond b (1 + prefix_len passes text) 0) (x ∷ text)) ≡ true
first_passes true passes x text e h = rw (one-add, e) h
first_passes false passes x text e h = refl

pub run_passes : (passes : ℕ → Bool) (text : List ℕ) → list_all passes (take_while passes text) ≡ true
run_passes passes [] = refl
run_passes passes (x ∷ text) = first_passes (passes x) passes x text refl (run_passes passes text)

rest_stops : (b : Bool) (passes : ℕ → Bool) (x : ℕ) (text : List ℕ) → passes x ≡ b → begins passes (behind passes text) ≡ false →
    begins passes (drop (cond b (1 + prefix_len passes text) 0) (x ∷ text)) ≡ false
rest_stops true passes x text e h = rw one-add h
rest_stops false passes x text e h = e

pub run_stops : (passes : ℕ → Bool) (text : List ℕ) → begins passes (behind passes text) ≡ false
run_stops passes [] = refl
run_stops passes (x ∷ text) = rest_stops (passes x) passes x text refl (run_stops passes text)

pub is_run : (passes : ℕ → Bool) (text : List ℕ) → IsRun passes text (take_while passes text) (behind passes text)
is_run passes text = record { whole = run_and_rest passes text; each = run_passes passes text; longest = run_stops passes text }

pub run_is : (passes : ℕ → Bool) (text front rest : List ℕ) →
    ((take_while passes text ≡ front) × (behind passes text ≡ rest)) ↔ IsRun passes text front rest
run_is passes text front rest = (
  λ h. rw (← h.0, ← h.1) (is_run passes text),
  λ r. (
    rw r.whole (take_while-run passes front rest r.each r.longest),
    rw r.whole (behind-run passes front rest r.each r.longest),
  ),
)

front_some : (b : Bool) (passes : ℕ → Bool) (x : ℕ) (text : List ℕ) → b ≡ true → 0 < length (take (cond b (1 + prefix_len passes text) 0) (x ∷ text))
front_some true passes x text e = rw one-add (omega arith)
front_some false passes x text e = absurd (cc)

pub run_some : (passes : ℕ → Bool) (text : List ℕ) → begins passes text ≡ true → 0 < length (take_while passes text)
run_some passes [] h = absurd (cc)
run_some passes (x ∷ text) h = front_some (passes x) passes x text h

pub begins_front : (passes : ℕ → Bool) (front rest : List ℕ) → 0 < length front → list_all passes front ≡ true → begins passes (front ++ rest) ≡ true
begins_front passes [] rest some each = absurd (omega arith)
begins_front passes (x ∷ front) rest some each = (and_parts (passes x) (list_all passes front) each).0

pub after_byte_some : (byte : ℕ) (text rest : List ℕ) → after_byte byte text ≡ Some rest → text ≡ byte ∷ rest
after_byte_some byte [] rest h = absurd (cc)
after_byte_some byte (first ∷ text) rest h = at (eqb first byte) refl h
  where
    at : (same : Bool) → eqb first byte ≡ same → cond same (Some text) None ≡ Some rest → first ∷ text ≡ byte ∷ rest
    at true e found = let this : first ≡ byte = eqb-true first byte e in cc
    at false e found = absurd (cc)

pub list_all-append : (passes : ℕ → Bool) (xs ys : List ℕ) → list_all passes xs ≡ true → list_all passes ys ≡ true → list_all passes (xs ++ ys) ≡ true
list_all-append passes [] ys h k = k
list_all-append passes (x ∷ xs) ys h k =
    let b = and_parts (passes x) (list_all passes xs) h in rw (b.0, list_all-append passes xs ys b.1 k) refl
