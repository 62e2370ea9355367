-- Terms of diagrams.
use Rattle.std.proofs.Common.{zero, ◌≡◌, ◌≢◌, ◌⊎◌, inl, inr, ⊎_elim, ℕ, ◌+◌, ◌-◌, ◌^◌, ◌<◌, ◌≤◌, Bool, true, false, cond, ltb, List, [], ◌∷◌, ◌++◌, length, map, take, drop, get_or, replicate, slice_get, Option, Some, None, refl, sym, ap, ◌∙◌, subst, arith}
use Rattle.std.proofs.Math.ListN.{set}
use Rattle.std.proofs.lemmas.Bool.{cases_eq, cases_lt, lt-ltb, false≢true, true≢false}
use Rattle.std.proofs.lemmas.List.{get_or-map, get_or-replicate, get_or_append_left, get_or_default, get_or_past, length-replicate, length-append, get_or-set_other, get_or-set_same, length-map, length-set, length_push, same_lists, set-get_or, set-set, set_comm, take-append-drop, take-append-le, take_all, take-take}
use Rattle.std.proofs.lemmas.Option.{slice_get-get_or, slice_get_within, slice_get_cases}
use Rattle.bdd_core.specs.Diagrams.{Diagrams}
use Rattle.bdd_core.specs.Meaning.{Always, Depends, IsChoice, IsDia, truth_of}
use Rattle.bdd_core.specs.declared.store.Dia.{Dia}
use Rattle.cert_checker.specs.declared.known.TermDef.{TermDef}
use Rattle.cert_checker.specs.Meaning.{cert_value}
use Rattle.cert_checker.specs.Rules.{made_at}
use Rattle.cert_checker.proofs.Sound.{pushed}
use Rattle.cert_checker.proofs.Values.{value_kept, value_last, value_one, value_zero}
use Rattle.cert_writer.specs.Terms.{AreOrdered, AreRanks, rank_by, rank_of}
use Rattle.cert_writer.specs.Nodes.{ExtendsTerms, IsVariableOrder, IsTermOf, IsTermTable, TermTable, places_of}
use Rattle.cert_writer.proofs.Ordered.{rank_from}

-- ---- the order

pub ranks_are : (order ranks : List ℕ) → IsVariableOrder order ranks → AreRanks ranks
ranks_are order ranks o = record {
  below = λ v h. (let s = o.size in let b = o.below v (omega (arith, h, s)) in omega (arith, b, s));
  own = λ v w h k e. (let s = o.size in sym (o.forth v (omega (arith, h, s))) ∙ ap (λ x. get_or order x 0) e ∙ o.forth w (omega (arith, k, s)));
}

pub places_length : (order : List ℕ) (w : List Bool) → length (places_of order w) ≡ length order
places_length order w = length-map order (λ v. get_or w v false)

place_at : (order : List ℕ) (w : List Bool) (x : ℕ) → x < length order → get_or (places_of order w) x false ≡ get_or w (get_or order x 0) false
place_at order w x h = get_or-map (λ v. get_or w v false) order x 0 false h

places_set : (order ranks : List ℕ) → IsVariableOrder order ranks → (w : List Bool) (v : ℕ) (b : Bool) → v < length order → length w ≡ length order →
    places_of order (set w v b) ≡ set (places_of order w) (get_or ranks v 0) b
places_set order ranks o w v b h size =
    same_lists (places_of order (set w v b)) (set (places_of order w) (get_or ranks v 0) b)
    (places_length order (set w v b) ∙ sym (length-set (places_of order w) (get_or ranks v 0) b ∙ places_length order w))
    (λ k d i. each k d (let l = places_length order (set w v b) in omega (arith, i, l)) (cases_eq k (get_or ranks v 0)))
  where
    read : (k : ℕ) (d : Bool) → k < length order → get_or (places_of order (set w v b)) k d ≡ get_or (set w v b) (get_or order k 0) false
    read k d i = get_or-map (λ x. get_or (set w v b) x false) order k 0 d i

    each : (k : ℕ) (d : Bool) → k < length order → (k ≡ get_or ranks v 0) ⊎ (k ≢ get_or ranks v 0) → get_or (places_of order (set w v b)) k d ≡ get_or (set (places_of order w) (get_or ranks v 0) b) k d
    each k d i (inl e) =
        read k d i
        ∙ ap (λ n. get_or (set w v b) n false) (ap (λ n. get_or order n 0) e ∙ o.forth v h)
        ∙ get_or-set_same w v b false (omega (arith, h, size))
        ∙ sym (get_or-set_same (places_of order w) (get_or ranks v 0) b d (let l = places_length order w in let x = o.below v h in omega (arith, l, x)))
        ∙ ap (λ n. get_or (set (places_of order w) (get_or ranks v 0) b) n d) (sym e)
    each k d i (inr f) =
        read k d i
        ∙ get_or-set_other w v (get_or order k 0) b false (λ e. f (sym (o.back k i) ∙ ap (λ n. get_or ranks n 0) e))
        ∙ sym (get_or-map (λ x. get_or w x false) order k 0 d i)
        ∙ sym (get_or-set_other (places_of order w) (get_or ranks v 0) k b d f)

-- each pattern of the diagrams' variables comes from one of the net's
abbrev pub nets_of : List ℕ → List Bool → List Bool
nets_of ranks u = map (λ x. get_or u x false) ranks

pub nets_length : (ranks : List ℕ) (u : List Bool) → length (nets_of ranks u) ≡ length ranks
nets_length ranks u = length-map ranks (λ x. get_or u x false)

pub places_onto : (order ranks : List ℕ) → IsVariableOrder order ranks → (u : List Bool) → length u ≡ length order → places_of order (nets_of ranks u) ≡ u
places_onto order ranks o u size =
    same_lists (places_of order (nets_of ranks u)) u (places_length order (nets_of ranks u) ∙ sym size)
    (λ k d i. each k d (let l = places_length order (nets_of ranks u) in omega (arith, i, l)))
  where
    each : (k : ℕ) (d : Bool) → k < length order → get_or (places_of order (nets_of ranks u)) k d ≡ get_or u k d
    each k d i =
        get_or-map (λ x. get_or (nets_of ranks u) x false) order k 0 d i
        ∙ get_or-map (λ x. get_or u x false) ranks (get_or order k 0) 0 false (let s = o.size in let t = o.there k i in omega (arith, s, t))
        ∙ ap (λ n. get_or u n false) (o.back k i)
        ∙ get_or_default u k false d (omega (arith, i, size))

-- ---- diagrams

same_bits : (a b : Bool) → (a ≢ b → ⊥) → a ≡ b
same_bits true true f = refl
same_bits false false f = refl
same_bits true false f = absurd (f true≢false)
same_bits false true f = absurd (f false≢true)

-- if the truth doesn't depend on a variable, its bit may change
set_kept : (s : Diagrams) (d : Dia) (y : ℕ) → (Depends s d y → ⊥) → (b : Bool) (v : List Bool) → length v ≡ s.vars → truth_of s d (set v y b) ≡ truth_of s d v
set_kept s d y none b v size = both b (get_or v y false) ∙ ap (truth_of s d) (set-get_or v y false)
  where
    ends : truth_of s d (set v y false) ≡ truth_of s d (set v y true)
    ends = same_bits (truth_of s d (set v y false)) (truth_of s d (set v y true)) (λ apart. none (v, size, apart))

    both : (b c : Bool) → truth_of s d (set v y b) ≡ truth_of s d (set v y c)
    both true true = refl
    both false false = refl
    both false true = ends
    both true false = sym ends

choice_value : (s : Diagrams) (d low high : Dia) (x : ℕ) → IsChoice s d x low high → (v : List Bool) → length v ≡ s.vars →
    truth_of s d v ≡ cond (get_or v x false) (truth_of s high v) (truth_of s low v)
choice_value s d low high x c v size = by (get_or v x false) refl
  where
    by : (b : Bool) → get_or v x false ≡ b → truth_of s d v ≡ cond b (truth_of s high v) (truth_of s low v)
    by true e = ap (truth_of s d) (sym (set-get_or v x false) ∙ ap (set v x) e) ∙ sym (c.high_is v size)
    by false e = ap (truth_of s d) (sym (set-get_or v x false) ∙ ap (set v x) e) ∙ sym (c.low_is v size)

-- a part depends only on later variables
part_free : (s : Diagrams) (d : Dia) (x : ℕ) (c : Bool) (p : Dia) → ((y : ℕ) → y < x → Depends s d y → ⊥) → ((v : List Bool) → length v ≡ s.vars → truth_of s p v ≡ truth_of s d (set v x c)) →
    (y : ℕ) → y ≤ x → (b : Bool) (v : List Bool) → length v ≡ s.vars → truth_of s p (set v y b) ≡ truth_of s p v
part_free s d x c p first is y h b v size = by (cases_eq y x)
  where
    by : (y ≡ x) ⊎ (y ≢ x) → truth_of s p (set v y b) ≡ truth_of s p v
    by (inl e) =
        ap (λ n. truth_of s p (set v n b)) e
        ∙ is (set v x b) (length-set v x b ∙ size)
        ∙ ap (truth_of s d) (set-set v x b c)
        ∙ sym (is v size)
    by (inr f) =
        let less : y < x = ⊎_elim (λ l. l) (λ m. absurd (f (let e : y ≡ x = omega (arith, h, m) in e))) (cases_lt y x) in
        is (set v y b) (length-set v y b ∙ size)
        ∙ ap (truth_of s d) (set_comm v y x b c f)
        ∙ set_kept s d y (first y less) b (set v x c) (length-set v x c ∙ size)
        ∙ sym (is v size)

part_least : (s : Diagrams) (d : Dia) (x : ℕ) (c : Bool) (p : Dia) → ((y : ℕ) → y < x → Depends s d y → ⊥) → ((v : List Bool) → length v ≡ s.vars → truth_of s p v ≡ truth_of s d (set v x c)) →
    (y : ℕ) → y < x + 1 → Depends s p y → ⊥
part_least s d x c p first is y h (v, size, apart) =
    apart (part_free s d x c p first is y (omega (arith, h)) false v size ∙ sym (part_free s d x c p first is y (omega (arith, h)) true v size))

pub low_least : (s : Diagrams) (d low high : Dia) (x : ℕ) → IsChoice s d x low high → (y : ℕ) → y < x + 1 → Depends s low y → ⊥
low_least s d low high x c = part_least s d x false low c.first c.low_is

pub high_least : (s : Diagrams) (d low high : Dia) (x : ℕ) → IsChoice s d x low high → (y : ℕ) → y < x + 1 → Depends s high y → ⊥
high_least s d low high x c = part_least s d x true high c.first c.high_is

-- the variable of a choice isn't before the least one
pub falls : (s : Diagrams) (d low high : Dia) (x least : ℕ) → IsChoice s d x low high → ((y : ℕ) → y < least → Depends s d y → ⊥) → (least ≤ x) × (x < s.vars)
falls s d low high x least c none = (⊎_elim (λ less. absurd (none x less c.depends)) (λ more. more) (cases_lt x least), c.variable)

-- ---- terms of diagrams

-- the term of a part has a later variable
part_rank : (s : Diagrams) (order ranks : List ℕ) (terms : List TermDef) (d : Dia) (x : ℕ) (c : Bool) (p : Dia) (t : ℕ) → s.vars ≡ length order → IsVariableOrder order ranks → AreOrdered ranks terms → x < s.vars →
    ((y : ℕ) → y < x → Depends s d y → ⊥) → ((v : List Bool) → length v ≡ s.vars → truth_of s p v ≡ truth_of s d (set v x c)) → IsTermOf s order terms p t → x + 1 ≤ rank_of ranks terms t
part_rank s order ranks terms d x c p t vars o ordered inside first is i =
    rank_from ranks terms ordered t (x + 1) i.within (let z = o.size in omega (arith, z, vars, inside))
    (λ y b w h early size. (let z = o.size in
    let within : y < length order = omega (arith, h, z) in
    let whole : length w ≡ length order = omega (arith, size, z) in
    i.is (set w y b) (length-set w y b ∙ whole)
    ∙ ap (truth_of s p) (places_set order ranks o w y b within whole)
    ∙ part_free s d x c p first is (get_or ranks y 0) (omega (arith, early)) b (places_of order w) (places_length order w ∙ sym vars)
    ∙ sym (i.is w whole)))

pub zero_is : (s : Diagrams) (order : List ℕ) (terms : List TermDef) (d : Dia) → s.vars ≡ length order → Always s d false → IsTermOf s order terms d 0
zero_is s order terms d vars always = record { within = omega arith; is = λ w size. value_zero terms w ∙ sym (always (places_of order w) (places_length order w ∙ sym vars)) }

pub one_is : (s : Diagrams) (order : List ℕ) (terms : List TermDef) (d : Dia) → s.vars ≡ length order → Always s d true → IsTermOf s order terms d 1
one_is s order terms d vars always = record { within = omega arith; is = λ w size. value_one terms w ∙ sym (always (places_of order w) (places_length order w ∙ sym vars)) }

-- ---- one more term

slice_left : {A : Type 0} (xs ys : List A) (i : ℕ) → i < length xs → slice_get (xs ++ ys) i ≡ slice_get xs i
slice_left {A = A} xs ys i h = by (slice_get_cases xs i).1
  where
    by : ((x : A) × (i < length xs) × (slice_get xs i ≡ Some x) × (get_or xs i x ≡ x)) ⊎ ((length xs ≤ i) × (slice_get xs i ≡ None)) → slice_get (xs ++ ys) i ≡ slice_get xs i
    by (inl (x, l, is, at)) =
        slice_get-get_or (xs ++ ys) i x (omega (arith, h, length-append xs ys)) ∙ ap Some (get_or_append_left xs ys x i h ∙ at) ∙ sym is
    by (inr p) = absurd (let q = p.0 in omega (arith, h, q))

pub made_kept : (terms more : List TermDef) (t : ℕ) → t < length terms + 2 → made_at (terms ++ more) t ≡ made_at terms t
made_kept terms more t h = ⊎_elim
    (λ small. ap (λ (x : Bool). cond x None (slice_get (terms ++ more) (t - 2))) (lt-ltb t 2 small) ∙ sym (ap (λ (x : Bool). cond x None (slice_get terms (t - 2))) (lt-ltb t 2 small)))
    (λ large. ap (λ (q : Option TermDef). cond (ltb t 2) None q) (slice_left terms more (t - 2) (omega (arith, h, large))))
    (cases_lt t 2)

rank_kept : (ranks : List ℕ) (terms more : List TermDef) (t : ℕ) → t < length terms + 2 → rank_of ranks (terms ++ more) t ≡ rank_of ranks terms t
rank_kept ranks terms more t h = ap (rank_by ranks) (made_kept terms more t h)

pub ordered_push : (ranks : List ℕ) (terms : List TermDef) (m : TermDef) → AreOrdered ranks terms → m.var < length ranks → m.low < length terms + 2 → m.high < length terms + 2 →
    get_or ranks m.var 0 < rank_of ranks terms m.low → get_or ranks m.var 0 < rank_of ranks terms m.high →
    (((w : List Bool) → length w ≡ length ranks → cert_value terms m.low w ≡ cert_value terms m.high w) → ⊥) → AreOrdered ranks (terms ++ m ∷ [])
ordered_push ranks terms m o var low high low_later high_later differ = record {
  within = λ k x e. ⊎_elim (λ old. o.within k x old) (λ new. subst (λ (y : TermDef). y.var < length ranks) (sym new.1) var) (pushed terms m x k e);
  low = λ k x e. ⊎_elim (λ old. o.low k x old) (λ new. subst (λ (y : TermDef). y.low < k + 2) (sym new.1) (let n = new.0 in omega (arith, n, low))) (pushed terms m x k e);
  high = λ k x e. ⊎_elim (λ old. o.high k x old) (λ new. subst (λ (y : TermDef). y.high < k + 2) (sym new.1) (let n = new.0 in omega (arith, n, high))) (pushed terms m x k e);
  low_later = λ k x e. ⊎_elim
      (λ old. (let i = slice_get_within terms k x old in let l = o.low k x old in let r = o.low_later k x old in let q = rank_kept ranks terms (m ∷ []) x.low (omega (arith, i, l)) in omega (arith, r, q)))
      (λ new. subst (λ (y : TermDef). get_or ranks y.var 0 < rank_of ranks (terms ++ m ∷ []) y.low) (sym new.1) (let q = rank_kept ranks terms (m ∷ []) m.low low in omega (arith, q, low_later)))
      (pushed terms m x k e);
  high_later = λ k x e. ⊎_elim
      (λ old. (let i = slice_get_within terms k x old in let l = o.high k x old in let r = o.high_later k x old in let q = rank_kept ranks terms (m ∷ []) x.high (omega (arith, i, l)) in omega (arith, r, q)))
      (λ new. subst (λ (y : TermDef). get_or ranks y.var 0 < rank_of ranks (terms ++ m ∷ []) y.high) (sym new.1) (let q = rank_kept ranks terms (m ∷ []) m.high high in omega (arith, q, high_later)))
      (pushed terms m x k e);
  differ = λ k x e. ⊎_elim
      (λ old f. (let i = slice_get_within terms k x old in let l = o.low k x old in let h = o.high k x old in
      o.differ k x old (λ w size. sym (value_kept terms (m ∷ []) x.low w (omega (arith, i, l))) ∙ f w size ∙ value_kept terms (m ∷ []) x.high w (omega (arith, i, h)))))
      (λ new f. differ (λ w size. sym (value_kept terms (m ∷ []) m.low w low) ∙ subst (λ (y : TermDef). cert_value (terms ++ m ∷ []) y.low w ≡ cert_value (terms ++ m ∷ []) y.high w) new.1 (f w size) ∙ value_kept terms (m ∷ []) m.high w high))
      (pushed terms m x k e);
}

term_kept : (s : Diagrams) (order : List ℕ) (terms more : List TermDef) (d : Dia) (t : ℕ) → IsTermOf s order terms d t → IsTermOf s order (terms ++ more) d t
term_kept s order terms more d t i = record {
  within = (let w = i.within in omega (arith, w, length-append terms more));
  is = λ w size. value_kept terms more t w i.within ∙ i.is w size;
}

-- ---- the terms written so far

pub goes_self : (w : TermTable) → ExtendsTerms w w
goes_self w = record { store = refl; order = refl; ranks = refl; more = omega arith; terms = take_all (length w.terms) w.terms (omega arith) }

pub goes_more : (a b c : TermTable) → ExtendsTerms a b → ExtendsTerms b c → ExtendsTerms a c
goes_more a b c p q = record {
  store = q.store ∙ p.store;
  order = q.order ∙ p.order;
  ranks = q.ranks ∙ p.ranks;
  more = (let x = p.more in let y = q.more in omega (arith, x, y));
  terms = sym (take-take (length a.terms) (length b.terms) c.terms p.more) ∙ ap (take (length a.terms)) q.terms ∙ p.terms;
}

pub made_goes : (a b : TermTable) (m : TermDef) → b.store ≡ a.store → b.order ≡ a.order → b.ranks ≡ a.ranks → b.terms ≡ a.terms ++ m ∷ [] → ExtendsTerms a b
made_goes a b m store order ranks terms = record {
  store = store;
  order = order;
  ranks = ranks;
  more = omega (arith, ap length terms, length_push a.terms m);
  terms = ap (take (length a.terms)) terms ∙ take-append-le (length a.terms) a.terms (m ∷ []) (omega arith) ∙ take_all (length a.terms) a.terms (omega arith);
}

-- the term of a diagram stays
pub term_stays : (a b : TermTable) (d : Dia) (t : ℕ) → ExtendsTerms a b → IsTermOf a.store a.order a.terms d t → IsTermOf b.store b.order b.terms d t
term_stays a b d t g i =
    let terms : b.terms ≡ a.terms ++ drop (length a.terms) b.terms = sym (take-append-drop (length a.terms) b.terms) ∙ ap (λ (xs : List TermDef). xs ++ drop (length a.terms) b.terms) g.terms in
    subst (λ (s : Diagrams). IsTermOf s b.order b.terms d t) (sym g.store)
    (subst (λ (o : List ℕ). IsTermOf a.store o b.terms d t) (sym g.order)
    (subst (λ (xs : List TermDef). IsTermOf a.store a.order xs d t) (sym terms) (term_kept a.store a.order a.terms (drop (length a.terms) b.terms) d t i)))

pub written_found : (s : Diagrams) (order ranks : List ℕ) (terms : List TermDef) (found : List ℕ) (d : Dia) (t : ℕ) →
    IsTermTable (record { store = s; order = order; ranks = ranks; terms = terms; found = found }) → d.id < length found → IsTermOf s order terms d t →
    IsTermTable (record { store = s; order = order; ranks = ranks; terms = terms; found = set found d.id t })
written_found s order ranks terms found d t w inside i = record { vars = w.vars; small = w.small; order = w.order; ordered = w.ordered; few = w.few; found = λ e h two. by e h two (cases_eq e.id d.id) }
  where
    by : (e : Dia) → IsDia s e → 2 ≤ get_or (set found d.id t) e.id 0 → (e.id ≡ d.id) ⊎ (e.id ≢ d.id) → IsTermOf s order terms e (get_or (set found d.id t) e.id 0)
    by e h two (inl same) =
        let cert_value : get_or (set found d.id t) e.id 0 ≡ t = ap (λ n. get_or (set found d.id t) n 0) same ∙ get_or-set_same found d.id t 0 inside in
        subst (λ n. IsTermOf s order terms e n) (sym cert_value) (subst (λ (x : Dia). IsTermOf s order terms x t) (λ j. record { id = sym same j }) i)
    by e h two (inr other) =
        let cert_value : get_or (set found d.id t) e.id 0 ≡ get_or found e.id 0 = get_or-set_other found d.id e.id t 0 other in
        subst (λ n. IsTermOf s order terms e n) (sym cert_value) (w.found e h (subst (λ n. 2 ≤ n) cert_value two))

module _ (s : Diagrams) (order ranks : List ℕ) (terms : List TermDef) (found : List ℕ) (d low high : Dia) (x l h : ℕ)
    (w : IsTermTable (record { store = s; order = order; ranks = ranks; terms = terms; found = found })) (c : IsChoice s d x low high) (li : IsTermOf s order terms low l) (hi : IsTermOf s order terms high h) where
  inside : x < length order
  inside = (let v = c.variable in let e = w.vars in omega (arith, v, e))

  there : get_or order x 0 < length order
  there = w.order.there x inside

  differ : ((v : List Bool) → length v ≡ length ranks → cert_value terms l v ≡ cert_value terms h v) → ⊥
  differ same = by c.depends
    where
      by : Depends s d x → ⊥
      by (v, size, apart) =
          let whole : length v ≡ length order = size ∙ w.vars in
          let net : List Bool = nets_of ranks v in
          let net_size : length net ≡ length ranks = nets_length ranks v in
          let net_whole : length net ≡ length order = net_size ∙ w.order.size in
          let back : places_of order net ≡ v = places_onto order ranks w.order v whole in
          apart (sym (c.low_is v size) ∙ ap (truth_of s low) (sym back) ∙ sym (li.is net net_whole) ∙ same net net_size ∙ hi.is net net_whole ∙ ap (truth_of s high) back ∙ c.high_is v size)

  ordered : AreOrdered ranks (terms ++ record { var = get_or order x 0; low = l; high = h } ∷ [])
  ordered =
      let back = w.order.back x inside in
      let size = w.order.size in
      let after_low = part_rank s order ranks terms d x false low l w.vars w.order w.ordered c.variable c.first c.low_is li in
      let after_high = part_rank s order ranks terms d x true high h w.vars w.order w.ordered c.variable c.first c.high_is hi in
      ordered_push ranks terms (record { var = get_or order x 0; low = l; high = h }) w.ordered (omega (arith, there, size)) li.within hi.within
      (omega (arith, back, after_low)) (omega (arith, back, after_high)) differ

  made_is : IsTermOf s order (terms ++ record { var = get_or order x 0; low = l; high = h } ∷ []) d (length terms + 2)
  made_is = record {
    within = omega (arith, length_push terms (record { var = get_or order x 0; low = l; high = h }));
    is = λ v size.
        value_last terms (record { var = get_or order x 0; low = l; high = h }) v
        ∙ (λ j. cond (sym (place_at order v x inside) j) (hi.is v size j) (li.is v size j))
        ∙ sym (choice_value s d low high x c (places_of order v) (places_length order v ∙ sym w.vars));
  }

pub written_push : (s : Diagrams) (order ranks : List ℕ) (terms : List TermDef) (found : List ℕ) (m : TermDef) → IsTermTable (record { store = s; order = order; ranks = ranks; terms = terms; found = found }) →
    length terms < 4000000000 → AreOrdered ranks (terms ++ m ∷ []) → IsTermTable (record { store = s; order = order; ranks = ranks; terms = terms ++ m ∷ []; found = found })
written_push s order ranks terms found m w few ordered = record {
  vars = w.vars;
  small = w.small;
  order = w.order;
  ordered = ordered;
  few = omega (arith, few, length_push terms m);
  found = λ e i two. term_kept s order terms (m ∷ []) e (get_or found e.id 0) (w.found e i two);
}

-- ---- the calls of `term`

pub next_fits : (w : TermTable) (d low high : Dia) (x : ℕ) → IsTermTable w → IsChoice w.store d x low high → (x < length w.order) × (x + 1 < 2 ^ 32)
next_fits w d low high x i c = (let v = c.variable in let e = i.vars in let s = i.small in (omega (arith, v, e), omega (arith, v, e, s)))

choice_stays : (a b : TermTable) (d low high : Dia) (x : ℕ) → ExtendsTerms a b → IsChoice a.store d x low high → IsChoice b.store d x low high
choice_stays a b d low high x g c = subst (λ (s : Diagrams). IsChoice s d x low high) (sym g.store) c

pub low_call : (w : TermTable) (d low high : Dia) (x least t : ℕ) → IsTermTable w → IsChoice w.store d x low high → ((y : ℕ) → y < least → Depends w.store d y → ⊥) → length w.order - least ≡ t →
    (length w.order - (x + 1) < t) × (IsDia w.store low × ((y : ℕ) → y < x + 1 → Depends w.store low y → ⊥))
low_call w d low high x least t i c none most =
    let f = falls w.store d low high x least c none in
    let below = f.0 in
    let within = f.1 in
    let vars = i.vars in
    (omega (arith, below, within, vars, most), (c.low_in, low_least w.store d low high x c))

pub high_call : (w v : TermTable) (d low high : Dia) (x least t : ℕ) → IsTermTable w → ExtendsTerms w v → IsChoice w.store d x low high → ((y : ℕ) → y < least → Depends w.store d y → ⊥) → length w.order - least ≡ t →
    (length v.order - (x + 1) < t) × (IsDia v.store high × ((y : ℕ) → y < x + 1 → Depends v.store high y → ⊥))
high_call w v d low high x least t i g c none most =
    let f = falls w.store d low high x least c none in
    let below = f.0 in
    let within = f.1 in
    let vars = i.vars in
    let e : IsChoice v.store d x low high = choice_stays w v d low high x g c in
    (omega (arith, below, within, vars, most, ap length g.order), (e.high_in, high_least v.store d low high x e))

-- the term after those of both parts
written_as : (w : TermTable) → IsTermTable w → IsTermTable (record { store = w.store; order = w.order; ranks = w.ranks; terms = w.terms; found = w.found })
written_as w i = record { vars = i.vars; small = i.small; order = i.order; ordered = i.ordered; few = i.few; found = i.found }

pub push_call : (a b c : TermTable) (d low high : Dia) (x l h var : ℕ) → IsTermTable c → ExtendsTerms a b → ExtendsTerms b c → IsChoice a.store d x low high → IsTermOf b.store b.order b.terms low l → IsTermOf c.store c.order c.terms high h →
    var ≡ get_or c.order x 0 → AreOrdered c.ranks (c.terms ++ record { var = var; low = l; high = h } ∷ [])
push_call a b c d low high x l h var i g k choice li hi e =
    subst (λ n. AreOrdered c.ranks (c.terms ++ record { var = n; low = l; high = h } ∷ [])) (sym e)
    (ordered c.store c.order c.ranks c.terms c.found d low high x l h (written_as c i) (choice_stays a c d low high x (goes_more a b c g k) choice) (term_stays b c low l k li) hi)

pub pushed_is : (a b c e : TermTable) (d low high : Dia) (x l h var t : ℕ) → IsTermTable c → ExtendsTerms a b → ExtendsTerms b c → IsChoice a.store d x low high → IsTermOf b.store b.order b.terms low l → IsTermOf c.store c.order c.terms high h →
    var ≡ get_or c.order x 0 → ExtendsTerms c e → t ≡ length c.terms + 2 → e.terms ≡ c.terms ++ record { var = var; low = l; high = h } ∷ [] → IsTermOf e.store e.order e.terms d t
pushed_is a b c e d low high x l h var t i g k choice li hi at p t_is terms =
    subst (λ (s : Diagrams). IsTermOf s e.order e.terms d t) (sym p.store)
    (subst (λ (o : List ℕ). IsTermOf c.store o e.terms d t) (sym p.order)
    (subst (λ (xs : List TermDef). IsTermOf c.store c.order xs d t) (sym (terms ∙ ap (λ n. c.terms ++ record { var = n; low = l; high = h } ∷ []) at))
    (subst (λ n. IsTermOf c.store c.order (c.terms ++ record { var = get_or c.order x 0; low = l; high = h } ∷ []) d n) (sym t_is)
    (made_is c.store c.order c.ranks c.terms c.found d low high x l h (written_as c i) (choice_stays a c d low high x (goes_more a b c g k) choice) (term_stays b c low l k li) hi))))

pub written_none : (s : Diagrams) (order ranks : List ℕ) (terms : List TermDef) (found : List ℕ) (n : ℕ) → s.vars ≡ length order → length order < 2 ^ 32 → IsVariableOrder order ranks → terms ≡ [] → found ≡ replicate n zero →
    IsTermTable (record { store = s; order = order; ranks = ranks; terms = terms; found = found })
written_none s order ranks terms found n vars small o e f = record {
  vars = vars;
  small = small;
  order = o;
  ordered = record {
    within = λ k m is. absurd (none k m is);
    low = λ k m is. absurd (none k m is);
    high = λ k m is. absurd (none k m is);
    low_later = λ k m is. absurd (none k m is);
    high_later = λ k m is. absurd (none k m is);
    differ = λ k m is. absurd (none k m is);
  };
  few = (let l = ap length e in omega (arith, l));
  found = λ d h two. absurd (let z = zero_at d.id (cases_lt d.id n) in let g = ap (λ (xs : List ℕ). get_or xs d.id zero) f in omega (arith, two, z, g));
}
  where
    none : (k : ℕ) (m : TermDef) → slice_get terms k ≡ Some m → ⊥
    none k m is = (let h = slice_get_within terms k m is in let l = ap length e in omega (arith, h, l))

    zero_at : (i : ℕ) → (i < n) ⊎ (n ≤ i) → get_or (replicate n zero) i zero ≡ zero
    zero_at i (inl less) = get_or-replicate n i zero zero less
    zero_at i (inr past) = get_or_past (replicate n zero) i zero (let l = length-replicate n zero in omega (arith, past, l))
