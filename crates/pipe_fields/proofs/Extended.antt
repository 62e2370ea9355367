-- A gate joined with an earlier one.
use Rattle.std.proofs.Common.{ℕ, Bool, List, ◌&&◌, Result, IfOk, ap}
use Rattle.std.proofs.lemmas.Result.{IfOk-weaker}
use Rattle.nets.specs.Nets.{Gates, IsGate, truth}
use Rattle.net_fields.proofs.Fields.{gate_as}

-- the meaning of the earlier gate can replace its truth
pub extended : {mid last : Gates} {x g : ℕ} {p : List Bool → Bool} (q : List Bool → Bool) → IsGate mid x p → IsGate last g (λ w. truth mid x w && q w) → IsGate last g (λ w. p w && q w)
extended q a made = gate_as made (λ w. ap (λ (b : Bool). b && q w) (a.is w))

-- the same, where the gate is the result of a last call
pub extended_last : {E : Type 0} {mid : Gates} {x : ℕ} {p : List Bool → Bool} (r : Result ℕ E) (last : Gates) (q : List Bool → Bool) → IsGate mid x p → IfOk r (λ g. IsGate last g (λ w. truth mid x w && q w)) → IfOk r (λ g. IsGate last g (λ w. p w && q w))
extended_last {E} {mid} {x} {p} r last q a made =
    IfOk-weaker r (λ g. IsGate last g (λ w. truth mid x w && q w)) (λ g. IsGate last g (λ w. p w && q w)) (λ g is. extended q a is) made
