-- Operations on diagrams: which have a result at once, how an operation splits, and how its two results join.
use Rattle.std.proofs.Common.{◌≡◌, ◌⊎◌, inl, inr, ℕ, ◌<◌, ◌≤◌, min, Bool, true, false, not, ◌&&◌, cond, List, get_or, slice_get, Option, Some, None, refl, sym, ap, ◌∙◌, subst, arith}
use Rattle.std.specs.Prelude.{nat_eq, IfSome}
use Rattle.std.proofs.lemmas.Bool.{cases_Bool}
use Rattle.std.proofs.Math.Bool.{and-true, and-false}
use Rattle.bdd_core.specs.Diagrams.{Diagrams, at, count, reach, dia_truth, child, cofactor_of, IsReduced, Keeps}
use Rattle.bdd_core.specs.Answers.{op_truth, IsKey, IsAnswer, AreAnswers, IsSplit, IsMade, IsSettled}
use Rattle.bdd_core.specs.Results.{AreBlank, IsCached}
use Rattle.bdd_core.proofs.Reaching.{reach_first, reach_second}
use Rattle.bdd_core.proofs.Canonical.{part_truth, part_rises, part_within, parts_fall, var_most}
use Rattle.bdd_core.proofs.Truths.{truth_kept}
use Rattle.bdd_core.specs.declared.nodes.ChoiceNode.{ChoiceNode}
use Rattle.bdd_core.specs.declared.results.Op.{Op}
use Rattle.bdd_core.specs.declared.results.Op.TheVariants.{And, Not}
use Rattle.bdd_core.specs.declared.results.OpKey.{OpKey}
use Rattle.bdd_core.specs.declared.results.CachedResult.{CachedResult}
use Rattle.bdd_core.specs.declared.apply.OperandSplit.{OperandSplit}

pub first_truth : (s : Diagrams) (v : List Bool) → IsReduced s → dia_truth s 0 v ≡ false
unfolding dia_truth
first_truth s v well = reach_first well 0 v

pub second_truth : (s : Diagrams) (v : List Bool) → IsReduced s → dia_truth s 1 v ≡ true
unfolding dia_truth
second_truth s v well = reach_second well 1 v

and_same : (x : Bool) → x && x ≡ x
and_same true = refl
and_same false = refl

-- no variable comes after the ends
top_first : (s : Diagrams) → IsReduced s → (d e : ℕ) → d < count s → min (at s d).var (at s e).var ≤ (at s 0).var
top_first s well d e h = let m = var_most well d h in let f = ap (λ (c : ChoiceNode). c.var) well.first in omega (arith, m, f)

top_second : (s : Diagrams) → IsReduced s → (d e : ℕ) → d < count s → min (at s d).var (at s e).var ≤ (at s 1).var
top_second s well d e h = let m = var_most well d h in let f = ap (λ (c : ChoiceNode). c.var) well.second in omega (arith, m, f)

-- the truth of an operation whose kind is known
op_is : (k : OpKey) (o : Op) (x y : Bool) → k.op ≡ o → op_truth k.op x y ≡ op_truth o x y
op_is k o x y e = ap (λ p. op_truth p x y) e

pub not_first : (k : OpKey) → k.op ≡ Not → k.left ≡ 0 → IsSettled k 1
not_first k e f s well key = record {
  left = key.left;
  right = key.right;
  within = omega arith;
  top = top_second s well k.left k.right key.left;
  truth_is = λ v h. second_truth s v well ∙ sym (op_is k Not (dia_truth s k.left v) (dia_truth s k.right v) e ∙ ap not (ap (λ d. dia_truth s d v) f ∙ first_truth s v well));
}

pub not_second : (k : OpKey) → k.op ≡ Not → k.left ≡ 1 → IsSettled k 0
not_second k e f s well key = record {
  left = key.left;
  right = key.right;
  within = omega arith;
  top = top_first s well k.left k.right key.left;
  truth_is = λ v h. first_truth s v well ∙ sym (op_is k Not (dia_truth s k.left v) (dia_truth s k.right v) e ∙ ap not (ap (λ d. dia_truth s d v) f ∙ second_truth s v well));
}

pub and_first : (k : OpKey) → k.op ≡ And → (k.left ≡ 0) ⊎ (k.right ≡ 0) → IsSettled k 0
and_first k e f s well key = record {
  left = key.left;
  right = key.right;
  within = omega arith;
  top = top_first s well k.left k.right key.left;
  truth_is = λ v h. first_truth s v well ∙ sym (op_is k And (dia_truth s k.left v) (dia_truth s k.right v) e ∙ by v f);
}
  where
    by : (v : List Bool) → (k.left ≡ 0) ⊎ (k.right ≡ 0) → dia_truth s k.left v && dia_truth s k.right v ≡ false
    by v (inl l) = ap (λ x. x && dia_truth s k.right v) (ap (λ d. dia_truth s d v) l ∙ first_truth s v well)
    by v (inr r) = ap (λ x. dia_truth s k.left v && x) (ap (λ d. dia_truth s d v) r ∙ first_truth s v well) ∙ and-false (dia_truth s k.left v)

pub and_left : (k : OpKey) → k.op ≡ And → k.left ≡ 1 → IsSettled k k.right
and_left k e f s well key = record {
  left = key.left;
  right = key.right;
  within = key.right;
  top = omega arith;
  truth_is = λ v h. sym (op_is k And (dia_truth s k.left v) (dia_truth s k.right v) e ∙ ap (λ x. x && dia_truth s k.right v) (ap (λ d. dia_truth s d v) f ∙ second_truth s v well));
}

pub and_right : (k : OpKey) → k.op ≡ And → (k.right ≡ 1) ⊎ (k.left ≡ k.right) → IsSettled k k.left
and_right k e f s well key = record {
  left = key.left;
  right = key.right;
  within = key.left;
  top = omega arith;
  truth_is = λ v h. sym (op_is k And (dia_truth s k.left v) (dia_truth s k.right v) e ∙ by v f);
}
  where
    by : (v : List Bool) → (k.right ≡ 1) ⊎ (k.left ≡ k.right) → dia_truth s k.left v && dia_truth s k.right v ≡ dia_truth s k.left v
    by v (inl l) = ap (λ x. dia_truth s k.left v && x) (ap (λ d. dia_truth s d v) l ∙ second_truth s v well) ∙ and-true (dia_truth s k.left v)
    by v (inr r) = ap (λ x. dia_truth s k.left v && x) (ap (λ d. dia_truth s d v) (sym r)) ∙ and_same (dia_truth s k.left v)

pub splits : (s : Diagrams) (k : OpKey) (p : OperandSplit) → IsReduced s → IsKey s k → 2 ≤ k.left → p.var ≡ min (at s k.left).var (at s k.right).var
    → p.low_left ≡ cofactor_of (at s) p.var false k.left → p.low_right ≡ cofactor_of (at s) p.var false k.right
    → p.high_left ≡ cofactor_of (at s) p.var true k.left → p.high_right ≡ cofactor_of (at s) p.var true k.right → IsSplit s k p
splits s k p well key h is ll lr hl hr =
    let under : p.var < s.vars = let w = well.within k.left h key.left in omega (arith, w, is) in
    record {
      var = is;
      under = under;
      low_left = ll;
      low_right = lr;
      high_left = hl;
      high_right = hr;
      low_left_in = let w = part_within well p.var false k.left key.left in omega (arith, w, ll);
      low_right_in = let w = part_within well p.var false k.right key.right in omega (arith, w, lr);
      high_left_in = let w = part_within well p.var true k.left key.left in omega (arith, w, hl);
      high_right_in = let w = part_within well p.var true k.right key.right in omega (arith, w, hr);
      low_falls = let f = parts_fall well p.var false k.left k.right key.left key.right under is in omega (arith, f, ll, lr);
      high_falls = let f = parts_fall well p.var true k.left k.right key.left key.right under is in omega (arith, f, hl, hr);
    }

-- properties of the diagrams are kept as they grow
pub key_kept : {a b : Diagrams} {k : OpKey} → Keeps a b → IsKey a k → IsKey b k
key_kept {a} {b} {k} keeps key = record {
  left = let m = keeps.more in let l = key.left in omega arith;
  right = let m = keeps.more in let r = key.right in omega arith;
}

var_kept : {a b : Diagrams} → Keeps a b → (d : ℕ) → d < count a → (at b d).var ≡ (at a d).var
var_kept {a} {b} keeps d h = ap (λ (c : ChoiceNode). c.var) (keeps.nodes d h)

part_kept : {a b : Diagrams} → Keeps a b → (x : ℕ) (c : Bool) (d : ℕ) → d < count a → cofactor_of (at b) x c d ≡ cofactor_of (at a) x c d
part_kept {a} {b} keeps x c d h = ap (λ (e : ChoiceNode). cond (nat_eq e.var x) (child e c) d) (keeps.nodes d h)

pub split_kept : {a b : Diagrams} {k : OpKey} {p : OperandSplit} → Keeps a b → IsKey a k → IsSplit a k p → IsSplit b k p
split_kept {a} {b} {k} {p} keeps key split =
    let more = keeps.more in
    record {
      var = let l = var_kept keeps k.left key.left in let r = var_kept keeps k.right key.right in let v = split.var in omega (arith, l, r, v);
      under = let u = split.under in let v = keeps.vars in omega (arith, u, v);
      low_left = split.low_left ∙ sym (part_kept keeps p.var false k.left key.left);
      low_right = split.low_right ∙ sym (part_kept keeps p.var false k.right key.right);
      high_left = split.high_left ∙ sym (part_kept keeps p.var true k.left key.left);
      high_right = split.high_right ∙ sym (part_kept keeps p.var true k.right key.right);
      low_left_in = let i = split.low_left_in in omega arith;
      low_right_in = let i = split.low_right_in in omega arith;
      high_left_in = let i = split.high_left_in in omega arith;
      high_right_in = let i = split.high_right_in in omega arith;
      low_falls = split.low_falls;
      high_falls = split.high_falls;
    }

pub answer_kept : {a b : Diagrams} {k : OpKey} {r : ℕ} → IsReduced a → Keeps a b → IsAnswer a k r → IsAnswer b k r
answer_kept {a} {b} {k} {r} well keeps answer =
    let more = keeps.more in
    record {
      left = let i = answer.left in omega arith;
      right = let i = answer.right in omega arith;
      within = let i = answer.within in omega arith;
      top = let l = var_kept keeps k.left answer.left in let m = var_kept keeps k.right answer.right in let n = var_kept keeps r answer.within in let t = answer.top in omega (arith, l, m, n, t);
      truth_is = λ v h.
          truth_kept well keeps r v answer.within
          ∙ (answer.truth_is v (h ∙ keeps.vars)
          ∙ (ap (λ x. op_truth k.op x (dia_truth a k.right v)) (sym (truth_kept well keeps k.left v answer.left))
          ∙ ap (λ y. op_truth k.op (dia_truth b k.left v) y) (sym (truth_kept well keeps k.right v answer.right))));
    }

pub answers_kept : {a b : Diagrams} {entries : List CachedResult} → IsReduced a → Keeps a b → AreAnswers a entries → AreAnswers b entries
answers_kept well keeps all = record { each = λ i e is. answer_kept well keeps (all.each i e is) }

-- the operation on both low parts, and on both high parts
abbrev pub low_key : OpKey → OperandSplit → OpKey
low_key k p = record { op = k.op; left = p.low_left; right = p.low_right }

abbrev pub high_key : OpKey → OperandSplit → OpKey
high_key k p = record { op = k.op; left = p.high_left; right = p.high_right }

module _ {s : Diagrams} {k : OpKey} {p : OperandSplit} (well : IsReduced s) (key : IsKey s k) (split : IsSplit s k p) where
  first_left : p.var ≤ (at s k.left).var
  first_left = let v = split.var in omega arith

  first_right : p.var ≤ (at s k.right).var
  first_right = let v = split.var in omega arith

  later : (c : Bool) (d e : ℕ) → d < count s → p.var ≤ (at s d).var → e ≡ cofactor_of (at s) p.var c d → p.var < (at s e).var
  later c d e h first is = subst (λ (x : ℕ). p.var < (at s x).var) (sym is) (part_rises well p.var c d h split.under first)

  pub low_later : {r : ℕ} → IsAnswer s (low_key k p) r → p.var < (at s r).var
  low_later {r} answer =
      let a = later false k.left p.low_left key.left first_left split.low_left in
      let b = later false k.right p.low_right key.right first_right split.low_right in
      let t = answer.top in omega arith

  pub high_later : {r : ℕ} → IsAnswer s (high_key k p) r → p.var < (at s r).var
  high_later {r} answer =
      let a = later true k.left p.high_left key.left first_left split.high_left in
      let b = later true k.right p.high_right key.right first_right split.high_right in
      let t = answer.top in omega arith

  side_truth : (c : Bool) (d e : ℕ) (v : List Bool) → d < count s → e ≡ cofactor_of (at s) p.var c d → get_or v p.var false ≡ c → dia_truth s e v ≡ dia_truth s d v
  unfolding dia_truth
  side_truth c d e v h is b = ap (λ (x : ℕ). reach (at s) x x v) is ∙ part_truth well p.var c d v h b

  pub joined_answer : {low high d : ℕ} → IsAnswer s (low_key k p) low → IsAnswer s (high_key k p) high → IsMade s p.var low high d → IsAnswer s k d
  joined_answer {low} {high} {d} is_low is_high made = record {
    left = key.left;
    right = key.right;
    within = made.within;
    top = let v = split.var in let t = made.top in omega arith;
    truth_is = λ v h. elim (cases_Bool (get_or v p.var false)) [
      | inl b ↦ sym (side_truth true d high v made.within (sym made.is_high) b)
          ∙ (is_high.truth_is v h
          ∙ (ap (λ x. op_truth k.op x (dia_truth s p.high_right v)) (side_truth true k.left p.high_left v key.left split.high_left b)
          ∙ ap (λ y. op_truth k.op (dia_truth s k.left v) y) (side_truth true k.right p.high_right v key.right split.high_right b)))
      | inr b ↦ sym (side_truth false d low v made.within (sym made.is_low) b)
          ∙ (is_low.truth_is v h
          ∙ (ap (λ x. op_truth k.op x (dia_truth s p.low_right v)) (side_truth false k.left p.low_left v key.left split.low_left b)
          ∙ ap (λ y. op_truth k.op (dia_truth s k.left v) y) (side_truth false k.right p.low_right v key.right split.low_right b)))
    ];
  }

-- and also if the diagrams grow by the node that joins
pub finished : {a b : Diagrams} {k : OpKey} {p : OperandSplit} {low high d : ℕ} → IsReduced a → IsReduced b → Keeps a b → IsKey a k → IsSplit a k p
    → IsAnswer a (low_key k p) low → IsAnswer a (high_key k p) high → IsMade b p.var low high d → IsAnswer b k d
finished wa wb keeps key split low high made =
    joined_answer wb (key_kept keeps key) (split_kept keeps key split) (answer_kept wa keeps low) (answer_kept wa keeps high) made

-- a cached result is right
pub recalled : (s : Diagrams) (entries : List CachedResult) (k : OpKey) (o : Option ℕ) → AreAnswers s entries → IfSome o (IsCached entries k) → IfSome o (IsAnswer s k)
recalled s entries k None all h = tt
recalled s entries k (Some r) all h = all.each h.0 (record { key = k; answer = r }) h.1

pub remembered : (s : Diagrams) (old new : List CachedResult) (k : OpKey) (r : ℕ) → AreAnswers s old → IsAnswer s k r
    → ((i : ℕ) (e : CachedResult) → slice_get new i ≡ Some e → (slice_get old i ≡ Some e) ⊎ (e ≡ record { key = k; answer = r })) → AreAnswers s new
remembered s old new k r all is keeps = record {
  each = λ i e at. elim (keeps i e at) [ inl p ↦ all.each i e p | inr p ↦ subst (λ (x : CachedResult). IsAnswer s x.key x.answer) (sym p) is ];
}

-- the entries of an empty table are right
pub blank_answers : (s : Diagrams) (entries : List CachedResult) → IsReduced s → AreBlank entries → AreAnswers s entries
blank_answers s entries well blank = record {
  each = λ i e is. subst (λ (x : CachedResult). IsAnswer s x.key x.answer) (sym (blank i e is))
      (and_first (record { op = And; left = 0; right = 0 }) refl (inl refl) s well (record { left = omega arith; right = omega arith }));
}
