-- Lists of rules, extended by one rule at a time; a gate keeps its truth as the net grows.
use Rattle.std.proofs.Common.{◌≡◌, ℕ, ◌+◌, ◌<◌, ◌⊎◌, inl, inr, Bool, true, false, not, ◌||◌, if◌then◌else◌, List, [], ◌∷◌, ◌++◌, length, get_or, slice_set, refl, sym, ap, subst, ◌∙◌, arith}
use Rattle.std.proofs.lemmas.List.{get_or-set_same, get_or-set_other}
use Rattle.y86_base.specs.declared.parts.Variant.{Variant}
use Rattle.nets.specs.Nets.{Gates, ExtendsNet}
use Rattle.ctl_atoms.specs.declared.leaf.Atom.{Atom}
use Rattle.ctl_picks.specs.declared.controls.Entry.{Entry}
use Rattle.ctl_picks.specs.Picks.{IsInside}
use Rattle.pipe_motion.specs.declared.settings.Settings.{Settings}
use Rattle.ctl_rules.specs.declared.rules.Rule.{Rule}
use Rattle.ctl_rules.proofs.Kept.{tells_less}
use Rattle.ctl_rules.proofs.Lists.{pushed, below_or}
use Rattle.pipe_obligations.specs.FileSettings.{ValuationTruth, picks_target}
use Rattle.hazard_rules.specs.Parts.{IsRuleGate, AreRuleGates, ArePredictionGates}
use Rattle.pipe_gates.specs.GateTruths.{IsTruthGate}

pub told_more : {old new : Gates} {ctl : List Entry} {atoms : List Atom} {g : ℕ} {f : ValuationTruth} → ExtendsNet old new → IsInside old ctl → IsTruthGate old ctl atoms g f → IsTruthGate new ctl atoms g f
told_more {old} {new} {ctl} {atoms} {g} {f} k i q = record {
  within = let x = k.more in let y = q.within in omega arith;
  is = λ w α cv h t. k.same g w q.within ∙ q.is w α cv h (tells_less k i t);
}

pub rules_more : {old new : Gates} {ctl : List Entry} {atoms : List Atom} (v : Variant) (s : Settings) (list : List Rule) → ExtendsNet old new → IsInside old ctl → AreRuleGates v s old ctl atoms list → AreRuleGates v s new ctl atoms list
rules_more v s list k i h = λ n x e. record { number = (h n x e).number; told = told_more k i (h n x e).told }

pub rules_pushed : {net : Gates} {ctl : List Entry} {atoms : List Atom} (v : Variant) (s : Settings) (xs ys : List Rule) (y : Rule) (n : ℕ) → ys ≡ xs ++ y ∷ [] → length xs ≡ n → AreRuleGates v s net ctl atoms xs
    → IsRuleGate v s net ctl atoms n y → AreRuleGates v s net ctl atoms ys
rules_pushed {net} {ctl} {atoms} v s xs ys y n e size h last =
    subst (λ zs. AreRuleGates v s net ctl atoms zs) (sym e) (pushed (λ k x. IsRuleGate v s net ctl atoms k x) xs y h (subst (λ m. IsRuleGate v s net ctl atoms m y) (sym size) last))

-- a gate put at its place in a list, whose earlier gates have grown
pub prediction_put : {old new : Gates} {ctl : List Entry} {atoms : List Atom} (v : Variant) (back : Bool) (gates : List ℕ) (n g : ℕ) → n < length gates → ExtendsNet old new → IsInside old ctl
    → ArePredictionGates v old ctl atoms back gates n → IsTruthGate new ctl atoms g (picks_target v atoms n back) → ArePredictionGates v new ctl atoms back (slice_set gates n g) (n + 1)
prediction_put {old} {new} {ctl} {atoms} v back gates n g inside k i h last j lt = by_place (below_or j n lt)
  where
    apart : j < n → j ≡ n → ⊥
    apart lt e = omega (arith, lt, e)

    by_place : (j < n) ⊎ (j ≡ n) → IsTruthGate new ctl atoms (get_or (slice_set gates n g) j 0) (picks_target v atoms j back)
    by_place (inl lt) = subst (λ x. IsTruthGate new ctl atoms x (picks_target v atoms j back)) (sym (get_or-set_other gates n j g 0 (apart lt))) (told_more k i (h j lt))
    by_place (inr eq) = subst (λ m. IsTruthGate new ctl atoms (get_or (slice_set gates n g) m 0) (picks_target v atoms m back)) (sym eq)
        (subst (λ x. IsTruthGate new ctl atoms x (picks_target v atoms n back)) (sym (get_or-set_same gates n g 0 inside)) last)

-- the premise of a rule is the first of two gates or the second
pub premise_by : (T : ℕ → Bool) (asked : Bool → Bool) (always : Bool) (p x y : ℕ) → p ≡ (if always then x else y) → T x ≡ asked true → T y ≡ asked false → T p ≡ asked always
premise_by T asked true p x y e h k = ap T e ∙ h
premise_by T asked false p x y e h k = ap T e ∙ k

pub rule_by : (g p d p' d' : Bool) → g ≡ (not p || d) → p ≡ p' → d ≡ d' → g ≡ (not p' || d')
rule_by g p d p' d' e f h = rw (e, f, h) refl
