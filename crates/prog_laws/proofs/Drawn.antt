-- Numbers each of which may follow those before it are those with which some allowed valuation begins.
use Rattle.std.proofs.Common.{◌≡◌, ◌⊎◌, inl, inr, ℕ, zero, suc, ◌+◌, ◌-◌, ◌%◌, ◌^◌, ◌<◌, ◌≤◌, Bool, true, false, List, [], ◌∷◌, ◌++◌, length, map, get_or, take, None, refl, sym, ap, ◌∙◌, subst, arith}
use Rattle.std.specs.List.{All, Contains, filter, range_with_len}
use Rattle.std.proofs.lemmas.Bool.{cases_eq}
use Rattle.std.proofs.lemmas.List.{ext_get_or, get_or-take, length-take, take-append-le, take_all, length-append, length_push}
use Rattle.std.proofs.lemmas.List.Elements.{All-contains, All-filter, filter_passes, Contains-append_left, Contains-get_or, Contains-push}
use Rattle.std.proofs.lemmas.List.FromFn.{get_or-map-range_with_len, get_or-range_with_len, length-range_with_len}
use Rattle.std.proofs.lemmas.Option.{unwrap_or-slice_get}
use Rattle.std.proofs.Math.ListN.{get_or-append}
use Rattle.std.proofs.Math.Seq.{get_or-append_seam}
use Rattle.y86_base.specs.declared.parts.Variant.{Variant}
use Rattle.dp_signals.specs.PipeNames as signal
use Rattle.net_fields.specs.FieldSpecs as table
use Rattle.net_fields.specs.declared.field_specs.FieldSpec.{FieldSpec}
use Rattle.pipe_fields.specs.Layout.{Fields, InRange, fields_by, fields_of, numbers, field_specs, field_count}
use Rattle.pipe_fields.specs.Allowed.{allowed}
use Rattle.pipe_fields.proofs.Told.{has_pattern}
use Rattle.prog_gen.specs.Choices.{AreChosen, choices, chosen, choice_allowed, numbers_drawn, truths_drawn, valuation, valuation_from, width, word_behind}
use Rattle.prog_gen.specs.Draws.{lcg_next, lcg_output}
use Rattle.prog_laws.specs.AllowedPrefix.{PrefixGoesOn, IsAllowedPrefix}
use Rattle.prog_laws.proofs.Behind.{allowed_chosen}
use Rattle.prog_gen.proofs.Chosen.{passes_more, passes_same}
use Rattle.prog_laws.proofs.Lines.{place}
use Rattle.prog_laws.proofs.Lawful.{chosen_allowed}
use Rattle.prog_laws.proofs.Witness.{Some_below, witness}

-- each number is one of its field's, and may follow those before it
pub record IsFront (v : Variant) (xs : List ℕ) : Type 0 where
  pub most : length xs ≤ field_count
  pub chosen : AreChosen v xs
  pub small : (j : ℕ) → j < length xs → get_or xs j 0 < 2 ^ width j

-- ---- numbers as fields and back

entries : (xs : List ℕ) (j : ℕ) → j < field_count → get_or (numbers (fields_by xs)) j 0 ≡ get_or xs j 0
entries xs j h =
    let in_order : numbers (fields_by xs) ≡ map (λ k. get_or xs k 0) (range_with_len 0 field_count) = refl in
    ap (λ (ys : List ℕ). get_or ys j 0) in_order ∙ get_or-map-range_with_len (λ k. get_or xs k 0) 0 field_count j j 0 h (omega arith)

count : (c : Fields) → length (numbers c) ≡ field_count
count c = refl

taken_same : (xs ys : List ℕ) (k : ℕ) → k ≤ length xs → k ≤ length ys → ((j : ℕ) → j < k → get_or xs j 0 ≡ get_or ys j 0) → take k xs ≡ take k ys
taken_same xs ys k hx hy same =
    let lx : length (take k xs) ≡ k = omega (arith, length-take k xs, hx) in
    let ly : length (take k ys) ≡ k = omega (arith, length-take k ys, hy) in
    ext_get_or 0 (take k xs) (take k ys) (lx ∙ sym ly)
    (λ j h. let lt : j < k = omega (arith, h, lx) in get_or-take k xs j 0 lt ∙ (same j lt ∙ sym (get_or-take k ys j 0 lt)))

front_taken : (xs : List ℕ) (k : ℕ) → k ≤ length xs → length xs ≤ field_count → take k (numbers (fields_by xs)) ≡ take k xs
front_taken xs k h most =
    taken_same (numbers (fields_by xs)) xs k (omega (arith, h, most, count (fields_by xs))) h (λ j lt. entries xs j (omega (arith, lt, h, most)))

whole_numbers : (xs : List ℕ) → length xs ≡ field_count → numbers (fields_by xs) ≡ xs
whole_numbers xs size = ext_get_or 0 (numbers (fields_by xs)) xs (count (fields_by xs) ∙ sym size) (λ j h. entries xs j (omega (arith, h, count (fields_by xs))))

taken_twice : (xs : List ℕ) (j k : ℕ) → j ≤ k → k ≤ length xs → take j (take k xs) ≡ take j xs
taken_twice xs j k h room =
    taken_same (take k xs) xs j (omega (arith, length-take k xs, h, room)) (omega (arith, h, room)) (λ i lt. get_or-take k xs i 0 (omega (arith, lt, h)))

-- ---- one more number

pub front_more : (v : Variant) (xs : List ℕ) (n : ℕ) → IsFront v xs → length xs < field_count → n < 2 ^ width (length xs) → choice_allowed v (length xs) (fields_by xs) n ≡ true → IsFront v (xs ++ n ∷ [])
front_more v xs n f room small may = record {
  most = omega (arith, room, longer);
  chosen = λ j h. at j (omega (arith, h, longer));
  small = λ j h. size j (omega (arith, h, longer));
}
  where
    longer : length (xs ++ n ∷ []) ≡ length xs + 1
    longer = length-append xs (n ∷ []) ∙ refl

    last : get_or (xs ++ n ∷ []) (length xs) 0 ≡ n
    last = get_or-append_seam xs n [] 0

    at : (j : ℕ) → j < length xs + 1 → choice_allowed v j (fields_by (take j (xs ++ n ∷ []))) (get_or (xs ++ n ∷ []) j 0) ≡ true
    at j h = by (cases_eq j (length xs))
      where
        by : (j ≡ length xs) ⊎ (j ≡ length xs → ⊥) → choice_allowed v j (fields_by (take j (xs ++ n ∷ []))) (get_or (xs ++ n ∷ []) j 0) ≡ true
        by (inl e) =
            subst (λ (i : ℕ). choice_allowed v i (fields_by (take i (xs ++ n ∷ []))) (get_or (xs ++ n ∷ []) i 0) ≡ true) (sym e)
            (subst (λ (m : ℕ). choice_allowed v (length xs) (fields_by (take (length xs) (xs ++ n ∷ []))) m ≡ true) (sym last)
            (subst (λ (ys : List ℕ). choice_allowed v (length xs) (fields_by ys) n ≡ true)
            (sym (take-append-le (length xs) xs (n ∷ []) (omega arith) ∙ take_all (length xs) xs (omega arith))) may))
        by (inr ne) =
            let lt : j < length xs = grind (arith, ne, h) in
            subst (λ (m : ℕ). choice_allowed v j (fields_by (take j (xs ++ n ∷ []))) m ≡ true) (sym (get_or-append xs (n ∷ []) 0 j lt))
            (subst (λ (ys : List ℕ). choice_allowed v j (fields_by ys) (get_or xs j 0) ≡ true) (sym (take-append-le j xs (n ∷ []) (omega (arith, lt)))) (f.chosen j lt))

    size : (j : ℕ) → j < length xs + 1 → get_or (xs ++ n ∷ []) j 0 < 2 ^ width j
    size j h = by (cases_eq j (length xs))
      where
        by : (j ≡ length xs) ⊎ (j ≡ length xs → ⊥) → get_or (xs ++ n ∷ []) j 0 < 2 ^ width j
        by (inl e) = subst (λ (i : ℕ). get_or (xs ++ n ∷ []) i 0 < 2 ^ width i) (sym e) (subst (λ (m : ℕ). m < 2 ^ width (length xs)) (sym last) small)
        by (inr ne) =
            let lt : j < length xs = grind (arith, ne, h) in
            subst (λ (m : ℕ). m < 2 ^ width j) (sym (get_or-append xs (n ∷ []) 0 j lt)) (f.small j lt)

-- another number may follow them
pub front_next : (v : Variant) (xs : List ℕ) → IsFront v xs → length xs < field_count → Some_below (2 ^ width (length xs)) (choice_allowed v (length xs) (fields_by xs))
front_next v xs f room =
    let some = witness v (fields_by xs) (length xs) room before in
    record {
      n = some.n;
      small = some.small;
      may_be = subst (λ (ys : List ℕ). choice_allowed v (length xs) (fields_by ys) some.n ≡ true) (front_taken xs (length xs) (omega arith) f.most ∙ take_all (length xs) xs (omega arith)) some.may_be;
    }
  where
    before : (k : ℕ) → k < length xs → choice_allowed v k (fields_by (take k (numbers (fields_by xs)))) (get_or (numbers (fields_by xs)) k 0) ≡ true
    before k h =
        subst (λ (m : ℕ). choice_allowed v k (fields_by (take k (numbers (fields_by xs)))) m ≡ true) (sym (entries xs k (omega (arith, h, f.most))))
        (subst (λ (ys : List ℕ). choice_allowed v k (fields_by ys) (get_or xs k 0) ≡ true) (sym (front_taken xs k (omega (arith, h)) f.most)) (f.chosen k h))

-- further numbers, one for each field that is left
pub record IsFilled (v : Variant) (xs ys : List ℕ) : Type 0 where
  pub front : IsFront v ys
  pub size : length ys ≡ field_count
  pub begins : take (length xs) ys ≡ xs

filled_back : (v : Variant) (xs ys : List ℕ) (n : ℕ) → length xs < field_count → IsFilled v (xs ++ n ∷ []) ys → IsFilled v xs ys
filled_back v xs ys n room f = record {
  front = f.front;
  size = f.size;
  begins = sym (taken_twice ys (length xs) (length xs + 1) (omega arith) (omega (arith, f.size, room)))
      ∙ (ap (take (length xs)) (sym (ap (λ (m : ℕ). take m ys) (length_push xs n)) ∙ f.begins)
      ∙ (take-append-le (length xs) xs (n ∷ []) (omega arith) ∙ take_all (length xs) xs (omega arith)));
}

pub fill : (k : ℕ) (v : Variant) (xs : List ℕ) → length xs + k ≡ field_count → IsFront v xs → (ys : List ℕ) × IsFilled v xs ys
fill zero v xs size f = (xs, record { front = f; size = omega (arith, size); begins = take_all (length xs) xs (omega arith) })
fill (suc k) v xs size f =
    let room : length xs < field_count = omega (arith, size) in
    let some = front_next v xs f room in
    let rest = fill k v (xs ++ some.n ∷ []) (omega (arith, size, length_push xs some.n)) (front_more v xs some.n f room some.small some.may_be) in
    (rest.0, filled_back v xs rest.0 some.n room rest.1)

-- ---- all of them are those of an allowed valuation

ranges : (ss : List FieldSpec) (xs : List ℕ) (d : FieldSpec) → length ss ≡ length xs → ((j : ℕ) → j < length ss → get_or xs j 0 < 2 ^ (get_or ss j d).bits) → table.InRange ss xs
ranges [] [] d size h = tt
ranges [] (x ∷ xs) d size h = absurd (omega (arith, size))
ranges (s ∷ ss) [] d size h = absurd (omega (arith, size))
ranges (s ∷ ss) (x ∷ xs) d size h = (h 0 (omega arith), ranges ss xs d (omega (arith, size)) (λ j lt. h (suc j) (omega (arith, lt))))

ranges_back : (ss : List FieldSpec) (xs : List ℕ) (d : FieldSpec) → table.InRange ss xs → (j : ℕ) → j < length ss → get_or xs j 0 < 2 ^ (get_or ss j d).bits
ranges_back [] xs d h j lt = absurd (omega (arith, lt))
ranges_back (s ∷ ss) [] d h j lt = absurd h
ranges_back (s ∷ ss) (x ∷ xs) d h zero lt = h.0
ranges_back (s ∷ ss) (x ∷ xs) d h (suc j) lt = ranges_back ss xs d h.1 j (omega (arith, lt))

pub record IsLawful (v : Variant) (xs : List ℕ) : Type 0 where
  pub numbers_are : numbers (fields_by xs) ≡ xs
  pub range : InRange (fields_by xs)
  pub lawful : allowed v (fields_by xs) ≡ true

pub whole_lawful : (v : Variant) (xs : List ℕ) → IsFront v xs → length xs ≡ field_count → IsLawful v xs
whole_lawful v xs f size =
    let e = whole_numbers xs size in
    record {
      numbers_are = e;
      range = subst (table.InRange field_specs) (sym e) (ranges field_specs xs (record { bits = 0; name = None }) (sym size) (λ j h. f.small j (omega (arith, h, size))));
      lawful = chosen_allowed v (fields_by xs) (f.small (place signal.e_Cnd) (omega (arith, size))) (subst (AreChosen v) (sym e) f.chosen);
    }

pub front_begun : (v : Variant) (xs : List ℕ) → IsFront v xs → IsAllowedPrefix v xs
front_begun v xs f =
    let filled = fill (field_count - length xs) v xs (omega (arith, f.most)) f in
    let whole = whole_lawful v filled.0 filled.1.front filled.1.size in
    record { fields = fields_by filled.0; range = whole.range; lawful = whole.lawful; begins = ap (take (length xs)) whole.numbers_are ∙ filled.1.begins }

taken_front : (v : Variant) (c : Fields) (k : ℕ) → k ≤ field_count → InRange c → allowed v c ≡ true → IsFront v (take k (numbers c))
taken_front v c k most range lawful = record {
  most = omega (arith, most, size);
  chosen = λ j h.
      let lt : j < k = omega (arith, h, size) in
      subst (λ (m : ℕ). choice_allowed v j (fields_by (take j (take k (numbers c)))) m ≡ true) (sym (get_or-take k (numbers c) j 0 lt))
      (subst (λ (ys : List ℕ). choice_allowed v j (fields_by ys) (get_or (numbers c) j 0) ≡ true) (sym (taken_twice (numbers c) j k (omega (arith, lt)) (omega (arith, most, count c))))
      (allowed_chosen v c lawful j (omega (arith, lt, most, count c))));
  small = λ j h.
      let lt : j < k = omega (arith, h, size) in
      subst (λ (m : ℕ). m < 2 ^ width j) (sym (get_or-take k (numbers c) j 0 lt)) (ranges_back field_specs (numbers c) (record { bits = 0; name = None }) range j (omega (arith, lt, most)));
}
  where
    size : length (take k (numbers c)) ≡ k
    size = omega (arith, length-take k (numbers c), most, count c)

pub begun_front : (v : Variant) (xs : List ℕ) → length xs ≤ field_count → IsAllowedPrefix v xs → IsFront v xs
begun_front v xs most b = subst (IsFront v) b.begins (taken_front v b.fields (length xs) most b.range b.lawful)

-- ---- the choices after a front

has : (p : ℕ → Bool) (upto n : ℕ) → n < upto → p n ≡ true → Contains (filter p (range_with_len 0 upto)) n
has p zero n h t = absurd (omega (arith, h))
has p (suc m) n h t =
    let next : suc m ≡ m + 1 = omega arith in
    subst (λ (k : ℕ). Contains (filter p (range_with_len 0 k)) n) (sym next) (has_more p m n h t (has p m n) (cases_eq n m) (p m) refl)
  where
    has_more : (p : ℕ → Bool) (m n : ℕ) → n < suc m → p n ≡ true → (n < m → p n ≡ true → Contains (filter p (range_with_len 0 m)) n)
        → (n ≡ m) ⊎ (n ≡ m → ⊥) → (b : Bool) → p m ≡ b → Contains (filter p (range_with_len 0 (m + 1))) n
    has_more p m n h t earlier (inl e) b is =
        subst (λ (xs : List ℕ). Contains xs n) (sym (passes_more p m (ap p (sym e) ∙ t)))
        (subst (Contains (filter p (range_with_len 0 m) ++ m ∷ [])) (sym e) (Contains-push (filter p (range_with_len 0 m)) m))
    has_more p m n h t earlier (inr ne) true is =
        subst (λ (xs : List ℕ). Contains xs n) (sym (passes_more p m is)) (Contains-append_left (filter p (range_with_len 0 m)) (m ∷ []) n (earlier (grind (arith, ne, h)) t))
    has_more p m n h t earlier (inr ne) false is = subst (λ (xs : List ℕ). Contains xs n) (sym (passes_same p m is)) (earlier (grind (arith, ne, h)) t)

below_all : (upto : ℕ) → All (λ n. n < upto) (range_with_len 0 upto)
below_all upto k d h =
    let small : k < upto = omega (arith, h, length-range_with_len 0 upto) in
    subst (λ (m : ℕ). m < upto) (sym (get_or-range_with_len 0 upto k d small)) (omega (arith, small))

pub record IsChoice (v : Variant) (xs : List ℕ) (n : ℕ) : Type 0 where
  pub small : n < 2 ^ width (length xs)
  pub may : choice_allowed v (length xs) (fields_by xs) n ≡ true

pub choice_is : (v : Variant) (xs : List ℕ) (n : ℕ) → Contains (choices v xs) n → IsChoice v xs n
choice_is v xs n h =
    let p : ℕ → Bool = choice_allowed v (length xs) (fields_by xs) in
    let numbers_below : List ℕ = range_with_len 0 (2 ^ width (length xs)) in
    record {
      small = All-contains (λ m. m < 2 ^ width (length xs)) (filter p numbers_below) n (All-filter p (λ m. m < 2 ^ width (length xs)) numbers_below (below_all (2 ^ width (length xs)))) h;
      may = All-contains (λ m. p m ≡ true) (filter p numbers_below) n (filter_passes p numbers_below) h;
    }

pub choices_some : (v : Variant) (xs : List ℕ) → IsFront v xs → length xs < field_count → 0 < length (choices v xs)
choices_some v xs f room =
    let s = front_next v xs f room in
    let found = has (choice_allowed v (length xs) (fields_by xs)) (2 ^ width (length xs)) s.n s.small s.may_be in
    omega (arith, found.1)

pub go_on : (v : Variant) (before : List ℕ) → length before < field_count → IsAllowedPrefix v before → PrefixGoesOn v before
go_on v before room b =
    let f = begun_front v before (omega (arith, room)) b in
    record {
      some = choices_some v before f room;
      just = λ n. (forth n f, back n);
    }
  where
    forth : (n : ℕ) → IsFront v before → Contains (choices v before) n → IsAllowedPrefix v (before ++ n ∷ [])
    forth n f h = (let c = choice_is v before n h in front_begun v (before ++ n ∷ []) (front_more v before n f room c.small c.may))

    back : (n : ℕ) → IsAllowedPrefix v (before ++ n ∷ []) → Contains (choices v before) n
    back n b =
        let longer = length_push before n in
        let f = begun_front v (before ++ n ∷ []) (omega (arith, longer, room)) b in
        let here : length before < length (before ++ n ∷ []) = omega (arith, longer) in
        let last : get_or (before ++ n ∷ []) (length before) 0 ≡ n = get_or-append_seam before n [] 0 in
        has (choice_allowed v (length before) (fields_by before)) (2 ^ width (length before)) n
        (subst (λ (m : ℕ). m < 2 ^ width (length before)) last (f.small (length before) here))
        (subst (λ (ys : List ℕ). choice_allowed v (length before) (fields_by ys) n ≡ true) (take-append-le (length before) before (n ∷ []) (omega arith) ∙ take_all (length before) before (omega arith))
        (subst (λ (m : ℕ). choice_allowed v (length before) (fields_by (take (length before) (before ++ n ∷ []))) m ≡ true) last (f.chosen (length before) here)))

-- ---- a drawn valuation

chosen_in : (some : List ℕ) (position : ℕ) → 0 < length some → Contains some (chosen some position)
chosen_in some position h =
    subst (Contains some) (sym (unwrap_or-slice_get some (position % length some) 0)) (Contains-get_or some (position % length some) 0 (omega (arith, h)))

pub record AreDrawn (v : Variant) (xs : List ℕ) : Type 0 where
  pub front : IsFront v xs
  pub size : length xs ≡ field_count

pub drawn_front : (k : ℕ) (v : Variant) (xs : List ℕ) (word : ℕ) → length xs + k ≡ field_count → IsFront v xs → AreDrawn v (numbers_drawn v k xs word)
unfolding numbers_drawn
drawn_front zero v xs word size f = record { front = f; size = omega (arith, size) }
drawn_front (suc k) v xs word size f =
    let room : length xs < field_count = omega (arith, size) in
    let n : ℕ = chosen (choices v xs) (lcg_output (lcg_next word)) in
    let c = choice_is v xs n (chosen_in (choices v xs) (lcg_output (lcg_next word)) (choices_some v xs f room)) in
    drawn_front k v (xs ++ n ∷ []) (lcg_next word) (omega (arith, size, length_push xs n)) (front_more v xs n f room c.small c.may)

none_front : (v : Variant) → IsFront v []
none_front v = record { most = omega arith; chosen = λ j h. absurd (omega (arith, h)); small = λ j h. absurd (omega (arith, h)) }

pub drawn_allowed : (v : Variant) (atoms seed i : ℕ) → allowed v (fields_of (valuation v atoms seed i)) ≡ true
unfolding valuation_from
drawn_allowed v atoms seed i =
    let word : ℕ = (seed + i) % 2 ^ 64 in
    let xs : List ℕ = numbers_drawn v field_count [] word in
    let rest : List Bool = truths_drawn atoms (word_behind field_count word) in
    let d = drawn_front field_count v [] word (omega arith) (none_front v) in
    let whole = whole_lawful v xs d.front d.size in
    let told = has_pattern (fields_by xs) rest whole.range in
    subst (λ (ys : List ℕ). allowed v (fields_of (table.pattern field_specs ys rest)) ≡ true) whole.numbers_are (subst (λ (c : Fields). allowed v c ≡ true) (sym told.spells) whole.lawful)
