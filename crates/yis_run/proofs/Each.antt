-- The texts for the numbers from 0 to n - 1, written one after another.
use Rattle.std.proofs.Common.{◌≡◌, ℕ, zero, suc, ◌+◌, ◌<◌, ◌≤◌, List, [], ◌∷◌, ◌++◌, map, Option, refl, ap, sym, subst, ◌∙◌, arith, append_assoc, append-nil, inl, inr, ◌⊎◌, add-one}
use Rattle.std.specs.List.{concat, range_with_len}
use Rattle.std.proofs.lemmas.Bool.{cases_lt}
use Rattle.std.proofs.lemmas.List.Folds.{concat-append}
use Rattle.std.proofs.lemmas.List.FromFn.{map-range_with_len_more}
use Rattle.wb_io.specs.Sinks.{Appended, AppendedPrefix}
use Rattle.wb_io.proofs.Writes.{took_nothing, took_more, part_more, part_after}
use Rattle.yis_run.specs.Report.{each_below}

pub each_below-zero : (text : ℕ → List ℕ) → each_below 0 text ≡ []
unfolding each_below
each_below-zero text = refl

pub each_below-more : (n : ℕ) (text : ℕ → List ℕ) → each_below (n + 1) text ≡ each_below n text ++ text n
unfolding each_below
each_below-more n text =
    ap concat (map-range_with_len_more text 0 n n (omega arith))
    ∙ concat-append (map text (range_with_len 0 n)) (text n ∷ [])
    ∙ ap (λ xs. concat (map text (range_with_len 0 n)) ++ xs) (append-nil (text n))

pub each_below-suc : (n : ℕ) (text : ℕ → List ℕ) → each_below (suc n) text ≡ each_below n text ++ text n
each_below-suc n text = rw (← add-one n) (each_below-more n text)

-- no text is written yet
pub took_none : (sink : Option (List ℕ)) (text : ℕ → List ℕ) → Appended sink sink (each_below 0 text)
took_none sink text = rw each_below-zero (took_nothing sink)

-- the first texts, then one more
pub took_each : (first second third : Option (List ℕ)) (n : ℕ) (text : ℕ → List ℕ) →
    Appended first second (each_below n text) → Appended second third (text n) → Appended first third (each_below (n + 1) text)
took_each first second third n text p q = rw each_below-more (took_more first second third (each_below n text) (text n) p q)

-- the first texts are a prefix of all
front_each : (n all : ℕ) (text : ℕ → List ℕ) → n ≤ all → (rest : List ℕ) × (each_below all text ≡ each_below n text ++ rest)
front_each n zero text h = let e : n ≡ 0 = omega arith in ([], rw e (sym (append-nil (each_below 0 text))))
front_each n (suc all) text h =
    elim (last n all h) [
      | inl e ↦ ([], rw e (sym (append-nil (each_below (suc all) text))))
      | inr l ↦
          let front = front_each n all text l in
          (front.0 ++ text all, each_below-suc all text ∙ ap (λ xs. xs ++ text all) front.1 ∙ append_assoc (each_below n text) front.0 (text all))
    ]
  where
    last : (n all : ℕ) → n ≤ suc all → (n ≡ suc all) ⊎ (n ≤ all)
    last n all h = elim (cases_lt all n) [ inl l ↦ inl (omega arith) | inr g ↦ inr g ]

-- the first texts, then a prefix of the next
pub part_each : (first second third : Option (List ℕ)) (n all : ℕ) (text : ℕ → List ℕ) → n < all →
    Appended first second (each_below n text) → AppendedPrefix second third (text n) → AppendedPrefix first third (each_below all text)
part_each first second third n all text h p q =
    let front = front_each (n + 1) all text (omega arith) in
    let P : List ℕ → Type 0 = λ xs. AppendedPrefix first third xs in
    subst P (sym (front.1 ∙ ap (λ xs. xs ++ front.0) (each_below-more n text)))
    (part_more first third (each_below n text ++ text n) front.0 (part_after first second third (each_below n text) (text n) p q))
