-- Gates for the values of variables, line after line.
use Rattle.std.proofs.Common.{◌≡◌, ◌≢◌, ◌⊎◌, inl, inr, ℕ, zero, suc, ◌+◌, ◌-◌, ◌/◌, ◌<◌, ◌≤◌, Bool, true, false, ◌&&◌, ◌==◌, if◌then◌else◌, List, [], ◌∷◌, ◌++◌, length, get_or, set, replicate, refl, sym, ap, ◌∙◌, subst, arith}
use Rattle.std.proofs.lemmas.Bool.{cases_lt, cases_eq}
use Rattle.std.proofs.lemmas.Bool.Decides.{nat_tests}
use Rattle.std.proofs.lemmas.List.{get_or-set_same, get_or-set_other, get_or_append_left, get_or_push, length_push, length-replicate}
use Rattle.std.proofs.Math.ListN.{length-set}
use Rattle.nets.specs.Nets.{ExtendsNet, Gates, IsGate, truth}
use Rattle.nets.proofs.Truths.{gate_kept}
use Rattle.aiger_out.specs.declared.form.Header.{Header}
use Rattle.aiger_out.specs.declared.form.AndLine.{AndLine}
use Rattle.aiger_out.specs.declared.form.AagLine.{AagLine}
use Rattle.aiger_out.specs.declared.form.AagLine.TheVariants.{Input, Output, And, Other}
use Rattle.aiger_out.specs.Form.{defines, may_be_defined, line_fault, outputs_from, rest_from}
use Rattle.aiger_out.specs.Values.{literal_value, output_literal}
use Rattle.aiger_out.specs.Rows.{IsFine}
use Rattle.aiger_out.specs.Solution.{AreBuilt, AreOutputs, HasGates, InputsFollow, IsBuilt, MayBuild, gate_values, line_value, solution, with_line}
use Rattle.aiger_out.proofs.Faults.{fine_and, fine_input, fresh_bounds}
use Rattle.aiger_out.proofs.Solutions.{same_literal, solution_next}

pub within_later : (h : Header) (old new : Gates) (gates : List ℕ) (none : ℕ) → HasGates h old gates none → ExtendsNet old new → (v : ℕ) → get_or gates v none < length new.gates
within_later h old new gates none g b v = omega (arith, g.within v, b.more)

values_kept : (h : Header) (old new : Gates) (gates : List ℕ) (none : ℕ) → HasGates h old gates none → ExtendsNet old new → (bits : List Bool) (v : ℕ)
    → gate_values new gates none bits v ≡ gate_values old gates none bits v
values_kept h old new gates none g b bits v = b.same (get_or gates v none) bits (g.within v)

both_sides : (fresh : Bool) (x v : ℕ) (a b : Bool) → fresh ≡ true → x ≢ v → (if fresh && x == v then a else b) ≡ b
both_sides true x v a b e ne = let f : (x == v) ≡ false = grind (arith, nat_tests) in ap (λ (t : Bool). if t then a else b) f
both_sides false x v a b e ne = absurd (cc)

this_side : (fresh : Bool) (x v : ℕ) (a b : Bool) → fresh ≡ true → v ≡ x → (if fresh && x == v then a else b) ≡ a
this_side true x v a b e is = let f : (x == v) ≡ true = grind (arith, nat_tests) in ap (λ (t : Bool). if t then a else b) f
this_side false x v a b e is = absurd (cc)

placed : (h : Header) (old new : Gates) (gates : List ℕ) (none j : ℕ) (line : AagLine) (x g : ℕ) (f : List Bool → Bool) → HasGates h old gates none → ExtendsNet old new → IsGate new g f
    → may_be_defined h x ≡ true → ((v : ℕ) → defines h line v ≡ (may_be_defined h x && x / 2 == v)) → ((bits : List Bool) → f bits ≡ line_value bits (gate_values old gates none bits) j line)
    → IsBuilt h old gates none j line new (set gates (x / 2) g)
placed h old new gates none j line x g f has b is fresh d value = record {
  has = record {
    size = length-set gates (x / 2) g ∙ has.size;
    within = λ v. within_by v (cases_eq v (x / 2));
  };
  values = λ bits v. by bits v (cases_eq v (x / 2));
}
  where
    inside : x / 2 < length gates
    inside = let t = fresh_bounds h x fresh in omega (arith, t.1, has.size)

    at_same : (v : ℕ) → v ≡ x / 2 → get_or (set gates (x / 2) g) v none ≡ g
    at_same v e = ap (λ (i : ℕ). get_or (set gates (x / 2) g) i none) e ∙ get_or-set_same gates (x / 2) g none inside

    at_other : (v : ℕ) → v ≢ x / 2 → get_or (set gates (x / 2) g) v none ≡ get_or gates v none
    at_other v ne = get_or-set_other gates (x / 2) v g none ne

    within_by : (v : ℕ) → (v ≡ x / 2) ⊎ (v ≢ x / 2) → get_or (set gates (x / 2) g) v none < length new.gates
    within_by v (inl e) = omega (arith, at_same v e, is.within)
    within_by v (inr ne) = omega (arith, at_other v ne, has.within v, b.more)

    by : (bits : List Bool) (v : ℕ) → (v ≡ x / 2) ⊎ (v ≢ x / 2) → gate_values new (set gates (x / 2) g) none bits v ≡ with_line h bits (gate_values old gates none bits) j line v
    by bits v (inl e) =
        ap (λ (i : ℕ). truth new i bits) (at_same v e) ∙ (is.is bits ∙ (value bits
        ∙ (sym (this_side (may_be_defined h x) (x / 2) v (line_value bits (gate_values old gates none bits) j line) (gate_values old gates none bits v) fresh e)
        ∙ ap (λ (t : Bool). if t then line_value bits (gate_values old gates none bits) j line else gate_values old gates none bits v) (sym (d v)))))
    by bits v (inr ne) =
        ap (λ (i : ℕ). truth new i bits) (at_other v ne) ∙ (values_kept h old new gates none has b bits v
        ∙ (sym (both_sides (may_be_defined h x) (x / 2) v (line_value bits (gate_values old gates none bits) j line) (gate_values old gates none bits v) fresh (λ q. ne (sym q)))
        ∙ ap (λ (t : Bool). if t then line_value bits (gate_values old gates none bits) j line else gate_values old gates none bits v) (sym (d v))))

pub built_input : (h : Header) (old new : Gates) (gates : List ℕ) (none j : ℕ) (line : AagLine) (x g : ℕ) → line ≡ Input x → HasGates h old gates none → MayBuild h old.vars j line
    → ExtendsNet old new → IsGate new g (λ w. get_or w (j - 1) false) → IsBuilt h old gates none j line new (set gates (x / 2) g)
built_input h old new gates none j line x g e has may b is =
    subst (λ (l : AagLine). IsBuilt h old gates none j l new (set gates (x / 2) g)) (sym e)
    (placed h old new gates none j (Input x) x g (λ w. get_or w (j - 1) false) has b is (let m : MayBuild h old.vars j (Input x) = subst (MayBuild h old.vars j) e may in m.0) (λ v. refl) (λ bits. refl))

pub built_and : (h : Header) (old one two new : Gates) (gates : List ℕ) (none j : ℕ) (line : AagLine) (a : AndLine) (first second g : ℕ) → line ≡ And a → HasGates h old gates none
    → MayBuild h old.vars j line → ExtendsNet old one → IsGate one first (λ w. literal_value (gate_values old gates none w) a.rhs0)
    → ExtendsNet one two → IsGate two second (λ w. literal_value (gate_values one gates none w) a.rhs1)
    → ExtendsNet two new → IsGate new g (λ w. truth two first w && truth two second w) → ExtendsNet old new → IsBuilt h old gates none j line new (set gates (a.lhs / 2) g)
built_and h old one two new gates none j line a first second g e has may b1 is1 b2 is2 b3 is3 b =
    subst (λ (l : AagLine). IsBuilt h old gates none j l new (set gates (a.lhs / 2) g)) (sym e)
    (placed h old new gates none j (And a) a.lhs g (λ w. truth two first w && truth two second w) has b is3 (subst (MayBuild h old.vars j) e may) (λ v. refl) value)
  where
    value : (bits : List Bool) → (truth two first bits && truth two second bits) ≡ (literal_value (gate_values old gates none bits) a.rhs0 && literal_value (gate_values old gates none bits) a.rhs1)
    value bits =
        ap (λ (t : Bool). t && truth two second bits) (b2.same first bits is1.within ∙ is1.is bits)
        ∙ ap (λ (t : Bool). literal_value (gate_values old gates none bits) a.rhs0 && t)
        (is2.is bits ∙ same_literal (gate_values one gates none bits) (gate_values old gates none bits) a.rhs1 (values_kept h old one gates none has b1 bits (a.rhs1 / 2)))

-- a line that defines nothing
pub built_none : (h : Header) (net : Gates) (gates : List ℕ) (none j : ℕ) (line : AagLine) → ((v : ℕ) → defines h line v ≡ false) → HasGates h net gates none → IsBuilt h net gates none j line net gates
built_none h net gates none j line d has = record {
  has = has;
  values = λ bits v. ap (λ (t : Bool). if t then line_value bits (gate_values net gates none bits) j line else gate_values net gates none bits v) (sym (d v));
}

pub built_start : (h : Header) (at : ℕ → AagLine) (net : Gates) (gates : List ℕ) (none : ℕ) → HasGates h net gates none → ((w : List Bool) (v : ℕ) → gate_values net gates none w v ≡ false)
    → AreBuilt h at 0 net gates none
unfolding solution
built_start h at net gates none has start = record { has = has; values = start }

same_with : (h : Header) (bits : List Bool) (env other : ℕ → Bool) (j : ℕ) (line : AagLine) (v : ℕ) → ((u : ℕ) → env u ≡ other u) → with_line h bits env j line v ≡ with_line h bits other j line v
same_with h bits env other j (Input x) v e = ap (λ (b : Bool). if defines h (Input x) v then get_or bits (j - 1) false else b) (e v)
same_with h bits env other j (And a) v e =
    ap (λ (b : Bool). if defines h (And a) v then b else env v)
    (ap (λ (b : Bool). b && literal_value env a.rhs1) (same_literal env other a.rhs0 (e (a.rhs0 / 2))) ∙ ap (λ (b : Bool). literal_value other a.rhs0 && b) (same_literal env other a.rhs1 (e (a.rhs1 / 2))))
    ∙ ap (λ (b : Bool). if defines h (And a) v then literal_value other a.rhs0 && literal_value other a.rhs1 else b) (e v)
same_with h bits env other j (Output x) v e = e v
same_with h bits env other j Other v e = e v

pub built_more : (h : Header) (at : ℕ → AagLine) (j : ℕ) (old new : Gates) (before after : List ℕ) (none : ℕ) → AreBuilt h at j old before none → IsBuilt h old before none j (at j) new after
    → AreBuilt h at (j + 1) new after none
built_more h at j old new before after none a b = record {
  has = b.has;
  values = λ bits v.
      b.values bits v ∙ (same_with h bits (gate_values old before none bits) (solution h at bits j) j (at j) v (a.values bits) ∙ sym (solution_next h at bits j v));
}

pub outputs_start : (h : Header) (at : ℕ → AagLine) (values : List Bool → ℕ → Bool) (net : Gates) → AreOutputs h at values 0 net []
outputs_start h at values net = record { size = refl; gates = λ i l. absurd (omega (arith, l)) }

abbrev HasOutput : Header → (ℕ → AagLine) → Gates → List ℕ → ℕ → Gates → ℕ → ℕ → Type 0
HasOutput h at first gates none net k o = IsGate net o (λ bits. literal_value (gate_values first gates none bits) (output_literal (at (outputs_from h + k))))

pub outputs_more : (h : Header) (at : ℕ → AagLine) (first old new : Gates) (gates : List ℕ) (none i : ℕ) (outs : List ℕ) (g : ℕ) → HasGates h first gates none → ExtendsNet first old → ExtendsNet old new
    → AreOutputs h at (gate_values first gates none) i old outs
    → IsGate new g (λ w. literal_value (gate_values old gates none w) (output_literal (at (1 + h.inputs + i))))
    → AreOutputs h at (gate_values first gates none) (i + 1) new (outs ++ g ∷ [])
outputs_more h at first old new gates none i outs g has b0 b a is = record {
  size = omega (arith, length_push outs g, a.size);
  gates = λ k l. by k l (cases_lt k i);
}
  where
    this : HasOutput h at first gates none new i g
    this = record {
      within = is.within;
      is = λ w. is.is w ∙ same_literal (gate_values old gates none w) (gate_values first gates none w) (output_literal (at (1 + h.inputs + i))) (values_kept h first old gates none has b0 w (output_literal (at (1 + h.inputs + i)) / 2));
    }

    by : (k : ℕ) → k < i + 1 → (k < i) ⊎ (i ≤ k) → HasOutput h at first gates none new k (get_or (outs ++ g ∷ []) k 0)
    by k l (inl low) = subst (HasOutput h at first gates none new k) (sym (get_or_append_left outs (g ∷ []) 0 k (omega (arith, low, a.size)))) (gate_kept b (a.gates k low))
    by k l (inr le) =
        let e : i ≡ k = omega (arith, l, le) in
        subst (HasOutput h at first gates none new k) (sym (get_or_push outs g 0 k (a.size ∙ e))) (subst (λ (m : ℕ). HasOutput h at first gates none new m g) e this)

pub all_same : (n v x : ℕ) → get_or (replicate n x) v x ≡ x
all_same zero v x = refl
all_same (suc n) zero x = refl
all_same (suc n) (suc v) x = all_same n v x

-- the gates with which the builder begins: false for each variable
pub start_has : (h : Header) (net : Gates) (none : ℕ) (gates : List ℕ) → gates ≡ replicate (h.most + 1) none → none < length net.gates → HasGates h net gates none
start_has h net none gates e inside = record {
  size = ap length e ∙ length-replicate (h.most + 1) none;
  within = λ v. omega (arith, ap (λ (xs : List ℕ). get_or xs v none) e, all_same (h.most + 1) v none, inside);
}

pub start_false : (h : Header) (net : Gates) (none : ℕ) (gates : List ℕ) → gates ≡ replicate (h.most + 1) none → IsGate net none (λ w. false) → (w : List Bool) (v : ℕ)
    → gate_values net gates none w v ≡ false
start_false h net none gates e is w v = ap (λ (g : ℕ). truth net g w) (ap (λ (xs : List ℕ). get_or xs v none) e ∙ all_same (h.most + 1) v none) ∙ is.is w

may_by : (h : Header) (at : ℕ → AagLine) (j : ℕ) (line : AagLine) → at j ≡ line → at 0 ≡ Other → IsFine h at (rest_from h) → InputsFollow h at → j < rest_from h → MayBuild h h.inputs j line
may_by h at j (Input x) e zero_other fine follow low =
    let f = follow j x e in
    ((fine_input h at j x (sym (ap (line_fault h at j) e) ∙ fine j f.0 low)).fresh, f.0, f.1)
may_by h at zero (And a) e zero_other fine follow low = absurd (two_kinds a (sym e ∙ zero_other))
  where
    two_kinds : (b : AndLine) → And b ≡ Other → ⊥
    two_kinds b f = cc
may_by h at (suc j) (And a) e zero_other fine follow low = (fine_and h at (suc j) a (sym (ap (line_fault h at (suc j)) e) ∙ fine (suc j) (omega arith) low)).fresh
may_by h at j (Output x) e zero_other fine follow low = tt
may_by h at j Other e zero_other fine follow low = tt

pub may_build : (h : Header) (at : ℕ → AagLine) (vars : ℕ) → vars ≡ h.inputs → at 0 ≡ Other → IsFine h at (rest_from h) → InputsFollow h at → (j : ℕ) → j < rest_from h → MayBuild h vars j (at j)
may_build h at vars e zero_other fine follow j low = subst (λ (n : ℕ). MayBuild h n j (at j)) (sym e) (may_by h at j (at j) refl zero_other fine follow low)

-- the values of all lines can replace those of the gates
pub outputs_are : (h : Header) (at : ℕ → AagLine) (net new : Gates) (gates : List ℕ) (none : ℕ) (outs : List ℕ) → AreBuilt h at (rest_from h) net gates none
    → AreOutputs h at (gate_values net gates none) h.outputs new outs → AreOutputs h at (λ bits. solution h at bits (rest_from h)) h.outputs new outs
outputs_are h at net new gates none outs b a = record {
  size = a.size;
  gates = λ i l.
      let g = a.gates i l in
      record {
        within = g.within;
        is = λ w. g.is w ∙ same_literal (gate_values net gates none w) (solution h at w (rest_from h)) (output_literal (at (outputs_from h + i))) (b.values w (output_literal (at (outputs_from h + i)) / 2));
      };
}
