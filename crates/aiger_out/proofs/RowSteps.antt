-- The lines of a text, read one after another.
use Rattle.std.proofs.Common.{◌≡◌, ◌⊎◌, inl, inr, ℕ, zero, suc, ◌+◌, ◌<◌, ◌≤◌, List, [], ◌∷◌, ◌++◌, drop, slice_get, Option, refl, sym, ap, ◌∙◌, arith}
use Rattle.std.specs.Option.{option_map_or}
use Rattle.std.proofs.lemmas.Bool.{cases_lt}
use Rattle.std.proofs.lemmas.List.{drop-drop, get_or_append_left, get_or_push, length_push}
use Rattle.aiger_out.specs.declared.form.Header.{Header}
use Rattle.aiger_out.specs.declared.form.AagLine.{AagLine}
use Rattle.aiger_out.specs.declared.form.AagLine.TheVariants.{Other}
use Rattle.aiger_out.specs.Lines.{ended, unended}
use Rattle.aiger_out.specs.Form.{line_at, line_read}
use Rattle.aiger_out.specs.Rows.{AreRows, row}

pub slice_get_drop : {X : Type 0} (n : ℕ) (xs : List X) (k : ℕ) → slice_get (drop n xs) k ≡ slice_get xs (n + k)
slice_get_drop zero xs k = ap (slice_get xs) (omega arith)
slice_get_drop (suc n) [] k = refl
slice_get_drop (suc n) (x ∷ xs) k =
    let e : suc n + k ≡ suc (n + k) = omega arith in
    slice_get_drop n xs k ∙ sym (ap (slice_get (x ∷ xs)) e)

pub rows_none : (h : Header) (text : List ℕ) → AreRows h text 0 [] text
rows_none h text = record {
  size = refl;
  lines = λ j l. absurd (omega (arith, l));
  rest = refl;
  more = refl;
}

pub rows_more : (h : Header) (text : List ℕ) (j : ℕ) (rows : List AagLine) (rest behind : List ℕ) (line : AagLine) → AreRows h text j rows rest
    → line ≡ option_map_or (line_read h j) (slice_get (ended rest) 0) Other → ended behind ≡ drop 1 (ended rest) → unended behind ≡ unended rest
    → AreRows h text (j + 1) (rows ++ line ∷ []) behind
unfolding line_at
rows_more h text j rows rest behind line a is after same = record {
  size = omega (arith, length_push rows line, a.size);
  lines = λ i l. by i l (cases_lt i j);
  rest = after ∙ ap (drop 1) a.rest ∙ drop-drop 1 j (ended text);
  more = same ∙ a.more;
}
  where
    there : line ≡ line_at h (ended text) j
    there =
        is ∙ ap (λ (x : Option (List ℕ)). option_map_or (line_read h j) x Other)
        (ap (λ (xs : List (List ℕ)). slice_get xs 0) a.rest ∙ (slice_get_drop j (ended text) 0 ∙ ap (slice_get (ended text)) (omega arith)))

    by : (i : ℕ) → i < j + 1 → (i < j) ⊎ (j ≤ i) → row (rows ++ line ∷ []) i ≡ line_at h (ended text) i
    by i l (inl low) = get_or_append_left rows (line ∷ []) Other i (omega (arith, low, a.size)) ∙ a.lines i low
    by i l (inr le) =
        let e : j ≡ i = omega (arith, l, le) in
        get_or_push rows line Other i (omega (arith, e, a.size)) ∙ (there ∙ ap (line_at h (ended text)) e)
