-- The demands of a file, and what its certificate shows.
use Rattle.std.proofs.Common.{◌≡◌, ℕ, ◌+◌, ◌-◌, ◌<◌, ◌≤◌, Bool, true, false, cond, List, [], ◌∷◌, ◌++◌, length, map, take, get_or, slice_get, Some, unwrap_or, inl, inr, refl, sym, ap, ◌∙◌, subst, length-append, arith}
use Rattle.std.proofs.lemmas.Bool.{cases_lt, false≢true}
use Rattle.std.proofs.lemmas.List.{get_or-map, get_or_append_left, get_or_push, length-map, map_more, take_all}
use Rattle.std.proofs.lemmas.Option.{slice_get-get_or, slice_get_within}
use Rattle.y86_base.specs.declared.parts.Variant.{Variant}
use Rattle.nets.specs.Nets.{ExtendsNet, Gates, truth}
use Rattle.hcl_types.specs.Tables.{IsOrderOf}
use Rattle.hcl_types.specs.declared.term.Term.{Term}
use Rattle.dp_signals.specs.PipeTable.{pipe_rows}
use Rattle.ctl_atoms.specs.Atoms.{AreAtoms}
use Rattle.ctl_atoms.specs.Leaves.{Assignment}
use Rattle.ctl_atoms.specs.declared.leaf.Atom.{Atom}
use Rattle.ctl_atoms.proofs.Solved.{leaves_exist}
use Rattle.ctl_equations.specs.Laws.{HasControls}
use Rattle.ctl_equations.proofs.Solved.{controls_exist}
use Rattle.pipe_fields.specs.Layout.{fields_of}
use Rattle.pipe_fields.proofs.Told.{in_range}
use Rattle.pipe_motion.specs.declared.settings.Settings.{Settings}
use Rattle.pipe_obligations.specs.Rules.{obligation, rule_count}
use Rattle.pipe_obligations.specs.FileSettings.{Everywhere, ValuationTruth, alu_passes_target, PipeControls}
use Rattle.pipe_theorem.specs.Theorem.{MeetsObligations}
use Rattle.pipe_theorem.proofs.Top.{accepted_refines}
use Rattle.ctl_rules.specs.declared.rules.Rule.{Rule}
use Rattle.hazard_rules.specs.Belonging.{BelongTo}
use Rattle.hazard_rules.specs.Parts.{AreRules, IsDesignGate}
use Rattle.hazard_rules.specs.declared.parts.Parts.{Parts}
use Rattle.hazard_rules.specs.declared.parts.Parts as whole
use Rattle.ctl_verdicts.proofs.AtomBits.{AreApart, apart_added}
use Rattle.control_check.proofs.OneSettings.{one_list}
use Rattle.control_check.proofs.PipeVerdict.{everywhere, somewhere}
use Rattle.cert_checker.specs.Certificates.{CertOk}
use Rattle.cert_checker.specs.declared.demands.Demands.{Demands}
use Rattle.cert_checker.proofs.Sound.{certificates_show}
use Rattle.cert_writer.specs.Writing.{AreInside, AreDemandsTrue}
use Rattle.cert_log.specs.DesignDemands.{CertifiedFilesHold, CertifiedFilesRefine, DemandsFor, DemandsAreExact, gate_of}

pub gates_none : (list : List Rule) (gates : List ℕ) → gates ≡ [] → gates ≡ map gate_of (take 0 list)
gates_none list gates e = e

pub gates_more : (list : List Rule) (old new : List ℕ) (k : ℕ) (rule : Rule) → k < length list → old ≡ map gate_of (take k list) → new ≡ old ++ (get_or list k rule).gate ∷ [] → new ≡ map gate_of (take (k + 1) list)
gates_more list old new k rule h e f = f ∙ ap (λ (xs : List ℕ). xs ++ (get_or list k rule).gate ∷ []) e ∙ sym (map_more gate_of list k rule h)

pub gates_all : (list : List Rule) (gates : List ℕ) (k : ℕ) → length list ≤ k → gates ≡ map gate_of (take k list) → gates ≡ map gate_of list
gates_all list gates k h e = e ∙ ap (map gate_of) (take_all k list h)

-- ---- the demands

formula_kept : (terms : List Term) (atoms : List Atom) (old new : Gates) (g : ℕ) (f : ValuationTruth) → ExtendsNet old new → IsDesignGate terms atoms old g f → IsDesignGate terms atoms new g f
formula_kept terms atoms old new g f b h = record {
  within = (let w = h.within in let m = b.more in omega (arith, w, m));
  is = λ w α cv are controls. b.same g w h.within ∙ h.is w α cv are controls;
}

pub demanded : (v : Variant) (terms : List Term) (ids : List ℕ) (s : Settings) (p : whole.Parts) (net : Gates) (list : List Rule) (want : List ℕ) → IsOrderOf pipe_rows terms ids → BelongTo terms p → p.variant ≡ v →
    AreRules p.variant terms s net list → ExtendsNet p.net net → want ≡ map gate_of list ++ cond s.tv (p.tv ∷ []) [] → DemandsFor v terms s (record { settings = s; net = net; want = want })
demanded v terms ids s p net list want o belong same rules begins e = record {
  settings = refl;
  atoms = rules.atoms;
  are = rules.are;
  vars = rules.vars;
  count = ap length e ∙ length-append (map gate_of list) (cond s.tv (p.tv ∷ []) []) ∙ counted s.tv;
  obligations = obliged;
  target = λ t. told t;
}
  where
    size : length (map gate_of list) ≡ rule_count
    size = length-map list gate_of ∙ rules.count

    counted : (b : Bool) → length (map gate_of list) + length (cond b (p.tv ∷ []) []) ≡ cond b (rule_count + 1) rule_count
    counted true = omega (arith, size)
    counted false = omega (arith, size)

    none : Rule
    none = record { number = 0; gate = 0 }

    obliged : (k : ℕ) → k < rule_count → IsDesignGate terms rules.atoms net (get_or want k 0) (obligation v s rules.atoms (k + 1))
    obliged k h =
        let inside : k < length list = (let c = rules.count in omega (arith, h, c)) in
        let gate : get_or want k 0 ≡ (get_or list k none).gate =
        ap (λ (xs : List ℕ). get_or xs k 0) e ∙ get_or_append_left (map gate_of list) (cond s.tv (p.tv ∷ []) []) 0 k (omega (arith, h, size)) ∙ get_or-map gate_of list k none 0 inside in
        let formula = rules.gates k (get_or list k none) (slice_get-get_or list k none inside) in
        subst (λ n. IsDesignGate terms rules.atoms net n (obligation v s rules.atoms (k + 1))) (sym gate)
        (subst (λ x. IsDesignGate terms rules.atoms net (get_or list k none).gate (obligation x s rules.atoms (k + 1))) same formula)

    told : s.tv ≡ true → IsDesignGate terms rules.atoms net (get_or want rule_count 0) (alu_passes_target v s)
    told t =
        let last : get_or want rule_count 0 ≡ p.tv =
        ap (λ (xs : List ℕ). get_or xs rule_count 0) (e ∙ ap (λ b. map gate_of list ++ cond b (p.tv ∷ []) []) t) ∙ get_or_push (map gate_of list) p.tv 0 rule_count size in
        let closed = belong.settings in
        let kept = formula_kept terms closed.atoms p.net net p.tv (alu_passes_target p.variant s) begins (closed.target s) in
        subst (λ n. IsDesignGate terms rules.atoms net n (alu_passes_target v s)) (sym last)
        (subst (λ x. IsDesignGate terms rules.atoms net p.tv (alu_passes_target x s)) same
        (subst (λ (a : List Atom). IsDesignGate terms a net p.tv (alu_passes_target p.variant s)) (one_list terms ids o closed.atoms rules.atoms closed.are rules.are) kept))

-- ---- the demanded gates are gates of the net

entry_is : (xs : List ℕ) (k i : ℕ) → slice_get xs k ≡ Some i → get_or xs k 0 ≡ i
entry_is xs k i at = ap (λ o. unwrap_or o 0) (sym (slice_get-get_or xs k 0 (slice_get_within xs k i at)) ∙ at)

-- at most one gate follows the obligations
last_is : (b : Bool) (k : ℕ) → k < cond b (rule_count + 1) rule_count → rule_count ≤ k → (b ≡ true) × (k ≡ rule_count)
last_is true k lt le = (refl, omega (arith, lt, le))
last_is false k lt le = absurd (omega (arith, lt, le))

-- what holds for each obligation, and for the gate after them, holds for each demanded gate
each_demanded : (v : Variant) (terms : List Term) (s : Settings) (g : Demands) (d : DemandsFor v terms s g) (P : ℕ → Type 0) →
    ((k : ℕ) → k < rule_count → P (get_or g.want k 0)) → (s.tv ≡ true → P (get_or g.want rule_count 0)) → (k i : ℕ) → slice_get g.want k ≡ Some i → P i
each_demanded v terms s g d P rules target k i at =
    elim (cases_lt k rule_count) [
      | inl lt ↦ subst P (entry_is g.want k i at) (rules k lt)
      | inr le ↦
          (let last = last_is s.tv k (subst (λ n. k < n) d.count (slice_get_within g.want k i at)) le in
          subst P (ap (λ j. get_or g.want j 0) (sym last.1) ∙ entry_is g.want k i at) (target last.0))
    ]

pub inside : (v : Variant) (terms : List Term) (s : Settings) (g : Demands) → DemandsFor v terms s g → AreInside g
inside v terms s g d = each_demanded v terms s g d (λ n. n < length g.net.gates) (λ k lt. (d.obligations k lt).within) (λ t. (d.target t).within)

-- ---- what a certificate shows about a file

module _ (v : Variant) (terms : List Term) (ids : List ℕ) (o : IsOrderOf pipe_rows terms ids) where
  apart : (a : List Atom) → AreAtoms pipe_rows terms a → AreApart a
  apart a h = (let some = leaves_exist pipe_rows terms ids o in subst AreApart (sym (h.are some.0 some.1)) (apart_added [] _ tt))

  exists : (field : ℕ → ℕ) (α : Assignment) → HasControls pipe_rows terms field α
  exists field α = controls_exist pipe_rows terms ids field α o

  module _ (s : Settings) (g : Demands) (d : DemandsFor v terms s g) where
    -- a demanded gate that is true at every pattern of bits: its formula is true everywhere
    shown : AreDemandsTrue g → (k : ℕ) → k < length g.want → (f : ValuationTruth) → IsDesignGate terms d.atoms g.net (get_or g.want k 0) f → Everywhere v d.atoms (PipeControls terms) f
    shown all k h f formula =
        everywhere v terms d.atoms (apart d.atoms d.are) exists g.net d.vars (get_or g.want k 0) f formula
        (λ w size. all.each k (get_or g.want k 0) (slice_get-get_or g.want k 0 h) w size)

    met : AreDemandsTrue g → MeetsObligations v terms d.atoms s
    met all = record {
      obligations = λ i l h.
          (let back : i - 1 + 1 ≡ i = omega (arith, l) in
          let inside : i - 1 < rule_count = omega (arith, l, h) in
          subst (λ n. Everywhere v d.atoms (PipeControls terms) (obligation v s d.atoms n)) back
          (shown all (i - 1) (let n = d.count in let m = most s.tv in omega (arith, inside, n, m)) (obligation v s d.atoms (i - 1 + 1)) (d.obligations (i - 1) inside)));
      target = λ t. shown all rule_count (let n = d.count ∙ ap (λ b. cond b (rule_count + 1) rule_count) t in omega (arith, n)) (alu_passes_target v s) (d.target t);
    }
      where
        most : (b : Bool) → rule_count ≤ cond b (rule_count + 1) rule_count
        most true = omega arith
        most false = omega arith

    -- and back
    true_where : (gate : ℕ) (f : ValuationTruth) → IsDesignGate terms d.atoms g.net gate f → Everywhere v d.atoms (PipeControls terms) f → (w : List Bool) → truth g.net gate w ≡ true
    true_where gate f formula all w = at (truth g.net gate w) refl
      where
        at : (b : Bool) → truth g.net gate w ≡ b → truth g.net gate w ≡ true
        at true e = e
        at false e =
            let x = somewhere v terms d.atoms (apart d.atoms d.are) exists g.net d.vars gate f formula w e in
            absurd (false≢true (sym x.4 ∙ all (fields_of w) x.0 x.1 (in_range w) x.3))

    all_true : MeetsObligations v terms d.atoms s → AreDemandsTrue g
    all_true meets = record {
      each = λ k i at w size.
          each_demanded v terms s g d (λ n. truth g.net n w ≡ true)
          (λ j lt. true_where (get_or g.want j 0) (obligation v s d.atoms (j + 1)) (d.obligations j lt) (meets.obligations (j + 1) (omega arith) (omega (arith, lt))) w)
          (λ t. true_where (get_or g.want rule_count 0) (alu_passes_target v s) (d.target t) (meets.target t) w)
          k i at;
    }

    certified : (text : List ℕ) → CertOk g text → MeetsObligations v terms d.atoms s
    certified text c = met (record { each = λ k i at w size. certificates_show g text c k i at w })

pub demands_tell : DemandsAreExact
demands_tell v terms ids atoms s g o are d =
    let same = one_list terms ids o d.atoms atoms d.are are in (
      λ all. subst (λ (a : List Atom). MeetsObligations v terms a s) same (met v terms ids o s g d all),
      λ meets. all_true v terms ids o s g d (subst (λ (a : List Atom). MeetsObligations v terms a s) (sym same) meets),
    )

pub certified_hold : CertifiedFilesHold
certified_hold v terms ids atoms s g text o are d c =
    subst (λ (a : List Atom). MeetsObligations v terms a s) (one_list terms ids o d.atoms atoms d.are are) (certified v terms ids o s g d text c)

pub certified_refine : CertifiedFilesRefine
certified_refine v terms ids s g text image k bound o d c is_image pure =
    accepted_refines (record { v = v; s = s; image = image }) terms ids d.atoms bound o (certified v terms ids o s g d text c) k is_image pure
