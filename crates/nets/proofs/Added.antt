-- Adding a gate to a net: an equal gate is found, or the gate goes last.
use Rattle.std.proofs.Common.{◌≡◌, ◌⊎◌, inl, inr, ℕ, ◌<◌, ◌≤◌, List, [], ◌∷◌, ◌++◌, length, take, get_or, slice_get, Some, None, refl, sym, ap, ◌∙◌, subst, arith}
use Rattle.std.proofs.lemmas.List.{take-append-le, take_all, length_push, get_or_append_left, get_or_push}
use Rattle.std.proofs.lemmas.Option.{slice_get_cases, slice_get_within, slice_get-get_or, get_or_from_slice_get}
use Rattle.nets.specs.Nets.{Gates, IsNet, ReadsEarlier, ExtendsNet, IsAdded, IsGate, gate_value, truths}
use Rattle.nets.proofs.Truths.{begins_by, begins_self, truth_is}
use Rattle.nets.specs.declared.net.Gate.{Gate}

module _ {vars : ℕ} {old : List Gate} {gate : Gate} (reads : ReadsEarlier vars (length old) gate) (net : IsNet record { vars = vars; gates = old }) where
  pushed_earlier : (i : ℕ) (g : Gate) → slice_get (old ++ gate ∷ []) i ≡ Some g → ReadsEarlier vars i g
  pushed_earlier i g is = by (slice_get_cases old i).1
    where
      inside : i < length (old ++ gate ∷ [])
      inside = slice_get_within (old ++ gate ∷ []) i g is

      read : get_or (old ++ gate ∷ []) i g ≡ g
      read = get_or_from_slice_get (old ++ gate ∷ []) i g g is

      by : ((x : Gate) × (i < length old) × (slice_get old i ≡ Some x) × (get_or old i x ≡ x)) ⊎ ((length old ≤ i) × (slice_get old i ≡ None)) → ReadsEarlier vars i g
      by (inl p) =
          let same : get_or old i g ≡ g = sym (get_or_append_left old (gate ∷ []) g i p.1) ∙ read in
          net.earlier i g (slice_get-get_or old i g p.1 ∙ ap Some same)
      by (inr p) =
          let last : i ≡ length old = let b = p.0 in omega (arith, inside, b, length_push old gate) in
          let same : gate ≡ g = sym (get_or_push old gate g i (sym last)) ∙ read in
          subst (λ (x : Gate). ReadsEarlier vars i x) same (subst (λ (j : ℕ). ReadsEarlier vars j gate) (sym last) reads)

  pub added_net : {new : List Gate} → IsAdded old new gate → IsNet record { vars = vars; gates = new }
  added_net (inl e) = subst (λ (gs : List Gate). IsNet record { vars = vars; gates = gs }) (sym e) net
  added_net (inr e) = subst (λ (gs : List Gate). IsNet record { vars = vars; gates = gs }) (sym e) (record { earlier = pushed_earlier })

pub added_begins : (vars : ℕ) (old new : List Gate) (gate : Gate) → IsAdded old new gate → ExtendsNet record { vars = vars; gates = old } record { vars = vars; gates = new }
added_begins vars old new gate (inl e) = subst (λ (gs : List Gate). ExtendsNet record { vars = vars; gates = old } record { vars = vars; gates = gs }) (sym e) (begins_self _)
added_begins vars old new gate (inr e) =
    begins_by record { vars = vars; gates = old } record { vars = vars; gates = new } refl (omega (arith, ap length e, length_push old gate))
    (ap (take (length old)) e ∙ (take-append-le (length old) old (gate ∷ []) (omega arith) ∙ take_all (length old) old (omega arith)))

-- an added gate has the truth that the gates it reads determine
pub added_gate : {n : Gates} {i : ℕ} {gate : Gate} → IsNet n → slice_get n.gates i ≡ Some gate → IsGate n i (λ w. gate_value w (truths n w) gate)
added_gate {n} {i} {gate} net is =
    let h : i < length n.gates = slice_get_within n.gates i gate is in
    record { within = h; is = truth_is n net i gate is h }
