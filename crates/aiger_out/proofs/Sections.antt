-- A header, followed by five sections of lines, by their places.
use Rattle.std.proofs.Common.{◌≡◌, ℕ, suc, ◌+◌, ◌<◌, All, List, ◌∷◌, ◌++◌, length, slice_get, Some, refl, ap, ◌∙◌, arith, length-append}
use Rattle.std.proofs.lemmas.List.Elements.{All-append, All-cons}
use Rattle.y86_base.specs.Text.{HasNoLineFeed}
use Rattle.aiger_out.specs.Written.{each}
use Rattle.aiger_out.proofs.Each.{each_at, each_free, each_size, left_part, right_part}

behind_first : (x : List ℕ) (xs : List (List ℕ)) (n k : ℕ) → n ≡ 1 + k → slice_get (x ∷ xs) n ≡ slice_get xs k
behind_first x xs n k e = let s : n ≡ suc k = omega (arith, e) in ap (slice_get (x ∷ xs)) s

-- a section at the front, and what follows it
in_front : (line : ℕ → List ℕ) (n k : ℕ) (rest : List (List ℕ)) → k < n → slice_get (each line n ++ rest) k ≡ Some (line k)
in_front line n k rest l = left_part (each line n) rest k (omega (arith, each_size line n, l)) ∙ each_at line n k l

beyond : (line : ℕ → List ℕ) (n k m : ℕ) (rest : List (List ℕ)) → m ≡ n + k → slice_get (each line n ++ rest) m ≡ slice_get rest k
beyond line n k m rest e = ap (slice_get (each line n ++ rest)) e ∙ right_part (each line n) rest n k (each_size line n)

module _ (head : List ℕ) (fa fb fc fd fe : ℕ → List ℕ) (i o a : ℕ) where
  abbrev pub sections : List (List ℕ)
  sections = head ∷ (each fa i ++ (each fb o ++ (each fc a ++ (each fd i ++ each fe o))))

  pub section_a : (k : ℕ) → k < i → slice_get sections (1 + k) ≡ Some (fa k)
  section_a k l = behind_first head _ (1 + k) k refl ∙ in_front fa i k (each fb o ++ (each fc a ++ (each fd i ++ each fe o))) l

  past_a : (k n : ℕ) → n ≡ 1 + i + k → slice_get sections n ≡ slice_get (each fb o ++ (each fc a ++ (each fd i ++ each fe o))) k
  past_a k n e = behind_first head _ n (i + k) (omega (arith, e)) ∙ beyond fa i k (i + k) (each fb o ++ (each fc a ++ (each fd i ++ each fe o))) refl

  pub section_b : (k : ℕ) → k < o → slice_get sections (1 + i + k) ≡ Some (fb k)
  section_b k l = past_a k (1 + i + k) refl ∙ in_front fb o k (each fc a ++ (each fd i ++ each fe o)) l

  past_b : (k n : ℕ) → n ≡ 1 + i + o + k → slice_get sections n ≡ slice_get (each fc a ++ (each fd i ++ each fe o)) k
  past_b k n e = past_a (o + k) n (omega (arith, e)) ∙ beyond fb o k (o + k) (each fc a ++ (each fd i ++ each fe o)) refl

  pub section_c : (k : ℕ) → k < a → slice_get sections (1 + i + o + k) ≡ Some (fc k)
  section_c k l = past_b k (1 + i + o + k) refl ∙ in_front fc a k (each fd i ++ each fe o) l

  past_c : (k n : ℕ) → n ≡ 1 + i + o + a + k → slice_get sections n ≡ slice_get (each fd i ++ each fe o) k
  past_c k n e = past_b (a + k) n (omega (arith, e)) ∙ beyond fc a k (a + k) (each fd i ++ each fe o) refl

  pub section_d : (k : ℕ) → k < i → slice_get sections (1 + i + o + a + k) ≡ Some (fd k)
  section_d k l = past_c k (1 + i + o + a + k) refl ∙ in_front fd i k (each fe o) l

  pub section_e : (k : ℕ) → k < o → slice_get sections (1 + i + o + a + i + k) ≡ Some (fe k)
  section_e k l = past_c (i + k) (1 + i + o + a + i + k) (omega arith) ∙ (beyond fd i k (i + k) (each fe o) refl ∙ each_at fe o k l)

  pub sections_size : length sections ≡ 1 + i + o + a + i + o
  sections_size =
      omega (
        arith,
        length-append (each fa i) (each fb o ++ (each fc a ++ (each fd i ++ each fe o))),
        length-append (each fb o) (each fc a ++ (each fd i ++ each fe o)),
        length-append (each fc a) (each fd i ++ each fe o),
        length-append (each fd i) (each fe o),
        each_size fa i,
        each_size fb o,
        each_size fc a,
        each_size fd i,
        each_size fe o,
      )

  pub sections_free : HasNoLineFeed head → ((k : ℕ) → HasNoLineFeed (fa k)) → ((k : ℕ) → HasNoLineFeed (fb k)) → ((k : ℕ) → HasNoLineFeed (fc k)) → ((k : ℕ) → HasNoLineFeed (fd k))
      → ((k : ℕ) → HasNoLineFeed (fe k)) → All HasNoLineFeed sections
  sections_free x xa xb xc xd xe =
      All-cons HasNoLineFeed head _ x (All-append HasNoLineFeed (each fa i) _ (each_free fa i xa) (All-append HasNoLineFeed (each fb o) _ (each_free fb o xb)
      (All-append HasNoLineFeed (each fc a) _ (each_free fc a xc) (All-append HasNoLineFeed (each fd i) (each fe o) (each_free fd i xd) (each_free fe o xe)))))
