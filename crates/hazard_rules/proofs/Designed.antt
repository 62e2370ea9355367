-- The atoms of a design are one list; each field of a signal is spelt at its place.
use Rattle.std.proofs.Common.{◌≡◌, ℕ, ◌+◌, ◌-◌, ◌≤◌, Bool, true, false, not, List, length, Result, Ok, Err, IfOk, refl, sym, ap, subst, ◌∙◌, arith}
use Rattle.hcl_types.specs.declared.term.Term.{Term}
use Rattle.hcl_types.specs.declared.table.Row.{Row}
use Rattle.dp_signals.specs.Tables.{constant_rows}
use Rattle.dp_signals.specs.PipeTable.{pipe_rows, pipe_state, pipe_hardware, pipe_defined}
use Rattle.ctl_atoms.specs.Atoms.{AreAtoms}
use Rattle.ctl_atoms.specs.declared.leaf.Atom.{Atom}
use Rattle.ctl_given.specs.Places.{HavePlaces, Spells}
use Rattle.pipe_fields.specs.Layout.{Fields, bit_count, fields_of, number_of}
use Rattle.y86_base.specs.declared.parts.Variant.{Variant}
use Rattle.nets.specs.Nets.{Gates, ExtendsNet}
use Rattle.ctl_picks.proofs.Inside.{inside_more, tells_more}
use Rattle.pipe_motion.specs.declared.settings.Settings.{Settings}
use Rattle.ctl_rules.specs.declared.rules.Rule.{Rule}
use Rattle.pipe_obligations.specs.Rules.{obligation, rule_count}
use Rattle.pipe_obligations.specs.StageFlows.{flow_of}
use Rattle.pipe_obligations.specs.FileSettings.{ValuationTruth, alu_passes_target, may_witness, permissive, picks_target, witnesses_je, witnesses_lf, witnesses_rm}
use Rattle.hazard_rules.specs.Parts.{IsDesignGate, AreRuleGates, AreRules, AreEarlyGates, AreLateGates, ArePredictionGates}
use Rattle.pipe_gates.specs.GateTruths.{IsTruthGate}
use Rattle.ctl_atoms.specs.declared.leaf.Leaf.{Leaf}
use Rattle.ctl_atoms.specs.Leaves.{Assignment, AtomsAre}
use Rattle.ctl_equations.specs.Controls.{AreControls}
use Rattle.ctl_picks.specs.declared.controls.Entry.{Entry}
use Rattle.ctl_given.specs.declared.places.Place.{Place}
use Rattle.ctl_picks.specs.Picks.{Covers, IsInside, EncodesControls}
use Rattle.hazard_rules.specs.Designs.{places, IsTranslated}
use Rattle.hazard_rules.specs.Belonging.{BelongTo}
use Rattle.hazard_rules.specs.declared.parts.Parts.{Parts}

-- each field of a signal is spelt at its place
pub spelt_at_places : (w : List Bool) → Spells places w (number_of (fields_of w))
unfolding fields_of number_of
spelt_at_places w = (
  refl,
  (
    refl,
    (
      refl,
      (
        refl,
        (
          refl,
          (
            refl,
            (
              refl,
              (
                refl,
                (
                  refl,
                  (
                    refl,
                    (
                      refl,
                      (
                        refl,
                        (
                          refl,
                          (
                            refl,
                            (refl, (refl, (refl, (refl, (refl, (refl, (refl, (refl, (refl, (refl, (refl, (refl, (refl, tt))))))))))))),
                          ),
                        ),
                      ),
                    ),
                  ),
                ),
              ),
            ),
          ),
        ),
      ),
    ),
  ),
)

pub places_stand : (vars : ℕ) → bit_count ≤ vars → HavePlaces pipe_rows places vars
unfolding pipe_rows constant_rows pipe_state pipe_hardware pipe_defined
places_stand vars le = record {
  placed = refl;
  inside = ((omega arith, omega arith), ((omega arith, omega arith), ((omega arith, omega arith), ((omega arith, omega arith), ((omega arith, omega arith), ((omega arith, omega arith), ((omega arith, omega arith), ((omega arith, omega arith), ((omega arith, omega arith), ((omega arith, omega arith), ((omega arith, omega arith), ((omega arith, omega arith), ((omega arith, omega arith), ((omega arith, omega arith), ((omega arith, omega arith), ((omega arith, omega arith), ((omega arith, omega arith), ((omega arith, omega arith), ((omega arith, omega arith), ((omega arith, omega arith), ((omega arith, omega arith), ((omega arith, omega arith), ((omega arith, omega arith), ((omega arith, omega arith), ((omega arith, omega arith), ((omega arith, omega arith), ((omega arith, omega arith), tt)))))))))))))))))))))))))));
}

-- what the translation of a design guarantees, given that its table and places are those of PIPE
pub told_design : {translated : Gates} (terms : List Term) (rows : List Row) (ps : List Place) (ctl : List Entry) (atoms : List Atom) (vars : ℕ)
    → rows ≡ pipe_rows → ps ≡ places → AreAtoms rows terms atoms → vars ≡ bit_count + length atoms → translated.vars ≡ vars → IsInside translated ctl → Covers rows ctl
    → ((w : List Bool) (α : Assignment) (field : ℕ → ℕ) (cv : ℕ → Leaf) (listed : List Atom) → AreAtoms rows terms listed → AtomsAre listed (vars - length listed) w α
    → Spells ps w field → AreControls rows terms field α cv → EncodesControls translated ctl w α cv)
    → IsTranslated terms translated ctl atoms
told_design {translated} terms rows ps ctl atoms vars e f are size same inside covers tells = record {
  are = subst (λ r. AreAtoms r terms atoms) e are;
  vars = same ∙ size;
  inside = inside;
  covers = subst (λ r. Covers r ctl) e covers;
  tells = λ w α cv l c. tells w α (number_of (fields_of w)) cv atoms are (subst (λ n. AtomsAre atoms n w α) (sym from) l)
      (subst (λ p. Spells p w (number_of (fields_of w))) (sym f) (spelt_at_places w)) (subst (λ r. AreControls r terms (number_of (fields_of w)) α cv) (sym e) c);
}
  where
    from : vars - length atoms ≡ bit_count
    from = omega (arith, size)

-- the same settings, but with every early fetch and late word allowed
pub freed : (s : Settings) (pt pb : List Bool) (tv : Bool) → s.pt ≡ pt → s.pb ≡ pb → s.tv ≡ tv → permissive s ≡ record { pt = pt; pb = pb; tv = tv; lf = true; je = true; rm = true }
freed s pt pb tv e f g = λ i. record { pt = e i; pb = f i; tv = g i; lf = true; je = true; rm = true }

-- the truths that decide lf, je and rm read no other setting
pub lf_freed : (v : Variant) (s : Settings) (atoms : List Atom) (c : Fields) (α : Assignment) (cv : ℕ → Leaf) → witnesses_lf v s atoms c α cv ≡ witnesses_lf v (permissive s) atoms c α cv
unfolding witnesses_lf may_witness flow_of
lf_freed v s atoms c α cv = refl

pub je_freed : (v : Variant) (s : Settings) (atoms : List Atom) (c : Fields) (α : Assignment) (cv : ℕ → Leaf) → witnesses_je v s atoms c α cv ≡ witnesses_je v (permissive s) atoms c α cv
unfolding witnesses_je may_witness flow_of
je_freed v s atoms c α cv = refl

pub rm_freed : (v : Variant) (s : Settings) (atoms : List Atom) (c : Fields) (α : Assignment) (cv : ℕ → Leaf) → witnesses_rm v s atoms c α cv ≡ witnesses_rm v (permissive s) atoms c α cv
unfolding witnesses_rm may_witness flow_of
rm_freed v s atoms c α cv = refl

-- a formula stays one as the net grows
pub formula_more : {old new : Gates} {terms : List Term} {atoms : List Atom} {g : ℕ} {f : ValuationTruth} → ExtendsNet old new → IsDesignGate terms atoms old g f → IsDesignGate terms atoms new g f
formula_more {old} k h = record {
  within = (let l = h.within in let m = k.more in omega (arith, l, m));
  is = λ w α cv l c. k.same _ w h.within ∙ h.is w α cv l c;
}

-- the gates of a design's names stay theirs as the net grows
pub names_more : {old new : Gates} {terms : List Term} {ctl : List Entry} {atoms : List Atom} → ExtendsNet old new → IsTranslated terms old ctl atoms → IsTranslated terms new ctl atoms
names_more k h = record {
  are = h.are;
  vars = k.vars ∙ h.vars;
  inside = inside_more k h.inside;
  covers = h.covers;
  tells = λ w α cv l c. tells_more k h.inside (h.tells w α cv l c);
}

-- parts whose net grows belong to the same designs
pub belongs_more : (terms : List Term) (p q : Parts) → BelongTo terms p → ExtendsNet p.net q.net
    → q ≡ record { variant = p.variant; net = q.net; pt = p.pt; pb = p.pb; tv = p.tv; atoms = p.atoms; ctl = p.ctl } → BelongTo terms q
belongs_more terms p q h k rest = subst (BelongTo terms) (sym rest) (record {
  names = names_more k h.names;
  settings = record {
    atoms = h.settings.atoms;
    are = h.settings.are;
    vars = k.vars ∙ h.settings.vars;
    forward = λ i lt. formula_more k (h.settings.forward i lt);
    backward = λ i lt. formula_more k (h.settings.backward i lt);
    target = λ s. formula_more k (h.settings.target s);
  };
})

-- three properties of a result, if there is one, and what follows from them
pub told_of_three : {T E : Type 0} {A B C D : T → Type 0} → (r : Result T E) → IfOk r A → IfOk r B → IfOk r C → ((x : T) → A x → B x → C x → D x) → IfOk r D
told_of_three (Ok x) a b c f = f x a b c
told_of_three (Err e) a b c f = tt

-- a formula with an equal truth
pub formula_as : {net : Gates} {terms : List Term} {atoms : List Atom} {g : ℕ} {f h : ValuationTruth} → IsDesignGate terms atoms net g f → ((c : Fields) (α : Assignment) (cv : ℕ → Leaf) → f c α cv ≡ h c α cv) → IsDesignGate terms atoms net g h
formula_as q e = record { within = q.within; is = λ w α cv l k. q.is w α cv l k ∙ e (fields_of w) α cv }

-- what the gates of a design's names encode is a formula of the design
pub formula_of : {net new : Gates} (terms : List Term) (ctl : List Entry) (atoms : List Atom) (g : ℕ) (f : ValuationTruth) → IsTranslated terms net ctl atoms → ExtendsNet net new → IsTruthGate new ctl atoms g f → IsDesignGate terms atoms new g f
formula_of terms ctl atoms g f made k told = record { within = told.within; is = λ w α cv h c. told.is w α cv h (tells_more k made.inside (made.tells w α cv h c)) }

pub rules_of : {net new : Gates} (v : Variant) (terms : List Term) (s : Settings) (ctl : List Entry) (atoms : List Atom) (list : List Rule) → IsTranslated terms net ctl atoms → ExtendsNet net new
    → length list ≡ rule_count → AreRuleGates v s new ctl atoms list → AreRules v terms s new list
rules_of v terms s ctl atoms list made k count told = record {
  atoms = atoms;
  are = made.are;
  vars = k.vars ∙ made.vars;
  count = count;
  numbers = λ i x e. (told i x e).number;
  gates = λ i x e. formula_of terms ctl atoms x.gate (obligation v s atoms (i + 1)) made k (told i x e).told;
}

pub closed_of : {net new : Gates} (v : Variant) (terms : List Term) (ctl : List Entry) (atoms : List Atom) (pt pb : List ℕ) (tv : ℕ) → IsTranslated terms net ctl atoms → ExtendsNet net new
    → ArePredictionGates v new ctl atoms false pt 7 → ArePredictionGates v new ctl atoms true pb 7 → ((s : Settings) → IsTruthGate new ctl atoms tv (alu_passes_target v s)) → AreEarlyGates v terms new pt pb tv
closed_of v terms ctl atoms pt pb tv made k forward backward target = record {
  atoms = atoms;
  are = made.are;
  vars = k.vars ∙ made.vars;
  forward = λ i lt. formula_of terms ctl atoms _ (picks_target v atoms i false) made k (forward i lt);
  backward = λ i lt. formula_of terms ctl atoms _ (picks_target v atoms i true) made k (backward i lt);
  target = λ s. formula_of terms ctl atoms tv (alu_passes_target v s) made k (target s);
}

pub late_of : {net new : Gates} (v : Variant) (terms : List Term) (ctl : List Entry) (atoms : List Atom) (pt pb : List Bool) (tv : Bool) (s : Settings) (lf je rm : ℕ)
    → s ≡ record { pt = pt; pb = pb; tv = tv; lf = true; je = true; rm = true } → IsTranslated terms net ctl atoms → ExtendsNet net new
    → IsTruthGate new ctl atoms lf (λ c α cv. not (witnesses_lf v s atoms c α cv)) → IsTruthGate new ctl atoms je (λ c α cv. not (witnesses_je v s atoms c α cv))
    → IsTruthGate new ctl atoms rm (λ c α cv. not (witnesses_rm v s atoms c α cv)) → AreLateGates v terms pt pb tv new lf je rm
late_of v terms ctl atoms pt pb tv s lf je rm same made k late jump ret = record {
  atoms = atoms;
  are = made.are;
  vars = k.vars ∙ made.vars;
  late = λ z e f g. formula_as (formula_of terms ctl atoms lf (λ c α cv. not (witnesses_lf v s atoms c α cv)) made k late)
      (λ c α cv. ap (λ (x : Settings). not (witnesses_lf v x atoms c α cv)) (same ∙ sym (freed z pt pb tv e f g)) ∙ sym (ap not (lf_freed v z atoms c α cv)));
  jump = λ z e f g. formula_as (formula_of terms ctl atoms je (λ c α cv. not (witnesses_je v s atoms c α cv)) made k jump)
      (λ c α cv. ap (λ (x : Settings). not (witnesses_je v x atoms c α cv)) (same ∙ sym (freed z pt pb tv e f g)) ∙ sym (ap not (je_freed v z atoms c α cv)));
  ret = λ z e f g. formula_as (formula_of terms ctl atoms rm (λ c α cv. not (witnesses_rm v s atoms c α cv)) made k ret)
      (λ c α cv. ap (λ (x : Settings). not (witnesses_rm v x atoms c α cv)) (same ∙ sym (freed z pt pb tv e f g)) ∙ sym (ap not (rm_freed v z atoms c α cv)));
}
