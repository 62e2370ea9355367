-- The numbers at which two words differ, and the lines of the report for them.
use Rattle.std.proofs.Common.{◌≡◌, ◌≢◌, ℕ, zero, suc, ◌+◌, ◌/◌, ◌<◌, inl, inr, Bool, true, false, not, cond, ◌&&◌, ◌==◌, List, [], ◌∷◌, ◌++◌, length, map, refl, sym, ap, subst, ◌∙◌, arith}
use Rattle.std.specs.Prelude.{◌↔◌}
use Rattle.std.specs.List.{Contains, concat, filter, range_with_len}
use Rattle.std.specs.List.Sorted.{IsStrictlyIncreasing}
use Rattle.std.specs.Set.{is_member}
use Rattle.std.proofs.lemmas.Bool.{and_parts, and_from, eq-eqb, ne_eqb, false≢true, cases_lt, lt-ltb, le-ltb, not-true}
use Rattle.std.proofs.lemmas.Bool.Decides.{Decides-eqb}
use Rattle.std.proofs.lemmas.Cmp.{nat_eq_equiv}
use Rattle.std.proofs.lemmas.List.{get_or-replicate}
use Rattle.std.proofs.lemmas.List.FromFn.{length-range_with_len, get_or-range_with_len}
use Rattle.std.proofs.lemmas.List.Kept.{IsStrictlyIncreasing-filter}
use Rattle.std.proofs.lemmas.Map.Made.{is_member-Decides, is_member-filter}
use Rattle.y86_base.specs.Registers.{register, register_name}
use Rattle.y86_isa.specs.declared.machine.Machine.{Machine}
use Rattle.y86_isa.specs.Machine.{start}
use Rattle.yis_run.specs.Report.{each_below, change, register_line, register_lines, aligned_word, word_name, memory_line, memory_lines}
use Rattle.yis_run.specs.Laws.{ListsChanges}
use Rattle.yis_run.proofs.Each.{each_below-zero, each_below-suc}

-- ---- the lines

one_line : (line : ℕ → List ℕ) (same : Bool) (x : ℕ) (rest : List ℕ) (kept : List ℕ) → rest ≡ concat (map line kept) →
    cond same [] (line x) ++ rest ≡ concat (map line (cond (not same) (x ∷ kept) kept))
one_line line true x rest kept e = e
one_line line false x rest kept e = ap (λ r. line x ++ r) e

kept_lines : (line : ℕ → List ℕ) (same : ℕ → Bool) (xs : List ℕ) →
    concat (map (λ x. cond (same x) [] (line x)) xs) ≡ concat (map line (filter (λ x. not (same x)) xs))
kept_lines line same [] = refl
kept_lines line same (x ∷ xs) = one_line line (same x) x _ (filter (λ y. not (same y)) xs) (kept_lines line same xs)

-- ---- the numbers

increasing : (n : ℕ) → IsStrictlyIncreasing (range_with_len 0 n)
increasing n k h =
    let lt : k + 1 < n = omega (arith, length-range_with_len 0 n) in
    rw (get_or-range_with_len 0 n k 0 (omega arith), get_or-range_with_len 0 n (k + 1) 0 lt) (omega arith)

below-from_contained : (n number : ℕ) → Contains (range_with_len 0 n) number → number < n
below-from_contained n number (k, lt, e) =
    let within : k < n = omega (arith, length-range_with_len 0 n) in
    omega (arith, e, get_or-range_with_len 0 n k number within)

contained-from_below : (n number : ℕ) → number < n → Contains (range_with_len 0 n) number
contained-from_below n number lt =
    let e : 0 + number ≡ number = omega arith in
    (number, rw (length-range_with_len 0 n) lt, get_or-range_with_len 0 n number number lt ∙ e)

differ : (a b : ℕ) → not (a == b) ≡ true → b ≢ a
differ a b h = λ e. false≢true (sym (not-true (a == b) h) ∙ eq-eqb a b (sym e))

differ_test : (a b : ℕ) → b ≢ a → not (a == b) ≡ true
differ_test a b h = rw (ne_eqb a b (λ e. h (sym e))) refl

module _ (start end : ℕ → ℕ) (n : ℕ) where
  abbrev test : ℕ → Bool
  test number = not (start number == end number)

  abbrev differing : List ℕ
  differing = filter test (range_with_len 0 n)

  member : (number : ℕ) → is_member (λ x y. x == y) differing number ≡ (is_member (λ x y. x == y) (range_with_len 0 n) number && test number)
  member number = is_member-filter nat_eq_equiv test number (λ x e. ap test ((Decides-eqb number x).0 e)) (range_with_len 0 n)

  contains : (number : ℕ) → Contains differing number ↔ ((number < n) × (end number ≢ start number))
  contains number =
      let all = is_member-Decides Decides-eqb (range_with_len 0 n) number in
      let some = is_member-Decides Decides-eqb differing number in (
        λ h.
            let both = and_parts _ _ (sym (member number) ∙ some.1 h) in
            (below-from_contained n number (all.0 both.0), differ (start number) (end number) both.1),
        λ h. some.0 (member number ∙ and_from _ _ (all.1 (contained-from_below n number h.0)) (differ_test (start number) (end number) h.1)),
      )

-- lines with those omitted at which two words are equal list the changes
changes_of_lines : (start end : ℕ → ℕ) (name : ℕ → List ℕ) (n : ℕ) →
    ListsChanges start end name n (each_below n (λ k. cond (start k == end k) [] (change (name k) (start k) (end k))))
unfolding each_below
changes_of_lines start end name n =
    record {
      numbers = differing start end n;
      ascending = IsStrictlyIncreasing-filter (test start end n) (range_with_len 0 n) (increasing n);
      changed = contains start end n;
      lines = kept_lines (λ k. change (name k) (start k) (end k)) (λ k. start k == end k) (range_with_len 0 n);
    }

-- ---- the registers, which are 0 at the start, and the words of memory

each_same : (one other : ℕ → List ℕ) → ((k : ℕ) → one k ≡ other k) → (n : ℕ) → each_below n one ≡ each_below n other
each_same one other h zero = each_below-zero one ∙ sym (each_below-zero other)
each_same one other h (suc n) = each_below-suc n one ∙ rw (each_same one other h n, h n) (sym (each_below-suc n other))

zero_at_start : (first : List ℕ) (number : ℕ) → register (start first).regs number ≡ 0
unfolding register
zero_at_start first number =
    elim (cases_lt number 15) [
      | inl lt ↦ rw (lt-ltb number 15 lt) (get_or-replicate 15 number 0 0 lt)
      | inr le ↦ rw (le-ltb number 15 le) refl
    ]

line_from_start : (first registers : List ℕ) (number : ℕ) →
    cond (register (start first).regs number == register registers number) []
    (change (register_name number) (register (start first).regs number) (register registers number))
    ≡ register_line registers number
unfolding register_line
line_from_start first registers number = rw (zero_at_start first number, nat_eq_equiv.symm 0 (register registers number)) refl

pub ListsChanges-registers : (first : List ℕ) (m : Machine) → ListsChanges (register (start first).regs) (register m.regs) register_name 15 (register_lines m.regs)
ListsChanges-registers first m =
    let P : List ℕ → Type 0 = λ text. ListsChanges (register (start first).regs) (register m.regs) register_name 15 text in
    subst P (each_same _ (register_line m.regs) (line_from_start first m.regs) 15)
    (changes_of_lines (register (start first).regs) (register m.regs) register_name 15)

pub ListsChanges-memory : (first : List ℕ) (m : Machine) → ListsChanges (aligned_word first) (aligned_word m.mem) word_name (length first / 8) (memory_lines first m.mem)
unfolding memory_line
ListsChanges-memory first m = changes_of_lines (aligned_word first) (aligned_word m.mem) word_name (length first / 8)
