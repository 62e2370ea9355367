-- A property of the code of a leaf: found by testing the code against all numbers below a bound, one after another.
use Rattle.std.proofs.Common.{◌≡◌, ℕ, ◌+◌, ◌<◌, ◌≤◌, Bool, true, false, not, ◌&&◌, ◌||◌, ◌==◌, if◌then◌else◌, nat_lt, List, length, get_or, refl, sym, ap, ◌∙◌, arith}
use Rattle.std.specs.Prelude.{unwrap_or}
use Rattle.std.proofs.lemmas.Bool.{ne_eqb}
use Rattle.std.proofs.lemmas.Bool.Decides.{nat_tests}
use Rattle.std.proofs.lemmas.List.{get_or_past}
use Rattle.std.proofs.lemmas.Option.{slice_get_past}
use Rattle.y86_base.specs.declared.parts.Variant.{Variant}
use Rattle.y86_base.specs.declared.parts.Variant.TheVariants.{Base, Full}
use Rattle.y86_isa.specs.Table.{row, rows, dash_row}
use Rattle.nets.specs.Nets.{agree}
use Rattle.ctl_atoms.specs.declared.leaf.Leaf.{Leaf}
use Rattle.ctl_atoms.specs.declared.leaf.Leaf.TheVariants.{Name, Number}
use Rattle.ctl_atoms.specs.Leaves.{leaf_eq}
use Rattle.pipe_gates.specs.declared.columns.RowTest.{RowTest}
use Rattle.pipe_gates.specs.declared.columns.RowTest.TheVariants.{Ret, Jump, StoresA, CarriesP, CarriesA, Loads, Stores, SetsFlags, Conditional, Computes}
use Rattle.pipe_gates.specs.Columns.{has, row_passes}
use Rattle.pipe_obligations.specs.Obligations.{code_of}
use Rattle.pipe_motion.specs.Flow.{StageFlow, Flow, RegisterControls, of_youngest, o25}
use Rattle.pipe_gates.proofs.Found.{found_step}

-- a leaf is a number below 15 exactly if its code is that number
pub code_is : (l : Leaf) (k : ℕ) → k < 15 → leaf_eq l (Number k) ≡ (code_of l == k)
code_is (Number n) k lt = refl
code_is (Name x) k lt = sym (ne_eqb 15 k (λ e. omega (arith, e, lt)))

pub code_step : (P : ℕ → Bool) (l : Leaf) (k : ℕ) → k < 15 →
    ((nat_lt (code_of l) k && P (code_of l)) || (leaf_eq l (Number k) && P k)) ≡ (nat_lt (code_of l) (k + 1) && P (code_of l))
code_step P l k lt = found_step P (code_of l) k (nat_lt (code_of l) k && P (code_of l)) (leaf_eq l (Number k) && P k)
    ((nat_lt (code_of l) k && P (code_of l)) || (leaf_eq l (Number k) && P k)) refl (ap (λ z. z && P k) (code_is l k lt)) refl

-- the test of all numbers below a bound is complete if the property holds for none from there on
pub below_all : (P : ℕ → Bool) (n : ℕ) → ((s : ℕ) → n ≤ s → P s ≡ false) → (s : ℕ) → (nat_lt s n && P s) ≡ P s
below_all P n past s = by (nat_lt s n) refl
  where
    by : (b : Bool) → nat_lt s n ≡ b → (b && P s) ≡ P s
    by true e = refl
    by false e = sym (past s (grind (arith, nat_tests, e)))

pub listed_past : (list : List Bool) (s : ℕ) → length list ≤ s → get_or list s false ≡ false
listed_past list s h = get_or_past list s false h

dashes : (test : RowTest) → row_passes dash_row test ≡ false
dashes Ret = refl
dashes Jump = refl
dashes StoresA = refl
dashes CarriesP = refl
dashes CarriesA = refl
dashes Loads = refl
dashes Stores = refl
dashes SetsFlags = refl
dashes Conditional = refl
dashes Computes = refl

few_rows : (v : Variant) → length (rows v) ≤ 15
few_rows Base = omega arith
few_rows Full = omega arith

-- an icode from 15 on has no row
pub has_past : (v : Variant) (test : RowTest) (s : ℕ) → 15 ≤ s → has v test s ≡ false
unfolding row
has_past v test s h = ap (λ o. row_passes (unwrap_or o dash_row) test) (slice_get_past (rows v) s (let few = few_rows v in omega (arith, few, h))) ∙ dashes test

pub not_both : (a z : Bool) → not (a && z) ≡ (not a || not z)
not_both true z = refl
not_both false z = refl

pub choose_other : {A : Type 0} (z : Bool) (p q : A) → (if z then p else q) ≡ (if not z then q else p)
choose_other true p q = refl
choose_other false p q = refl

pub other_way : (z p : Bool) → agree z p ≡ not (agree (not z) p)
other_way true true = refl
other_way true false = refl
other_way false p = refl

pub youngest_by : (y y' : Flow) (d d' e e' m m' w w' : Bool) → y ≡ y' → d ≡ d' → e ≡ e' → m ≡ m' → w ≡ w' → of_youngest y d e m w ≡ of_youngest y' d' e' m' w'
youngest_by y y' d d' e e' m m' w w' p q r s t = rw (p, q, r, s, t) refl

pub next_by : (je rm : Bool) (k k' : RegisterControls) (g g' : Bool) (f f' : StageFlow) (y y' : Flow) → k ≡ k' → g ≡ g' → f ≡ f' → y ≡ y' → o25 je rm k g f y ≡ o25 je rm k' g' f' y'
next_by je rm k k' g g' f f' y y' p q r s = rw (p, q, r, s) refl
