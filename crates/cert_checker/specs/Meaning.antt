-- What the terms of a certificate mean: functions of a pattern of bits.
use Rattle.std.specs.Prelude.{ℕ, ◌≡◌, Bool, true, false, not, ◌&&◌, cond, List, [], ◌∷◌, ◌++◌, get_or, slice_get, Some}
use Rattle.nets.specs.Nets.{truth}
use Rattle.cert_checker.specs.Certificates.{CertOk}
use Rattle.cert_checker.specs.declared.demands.Demands.{Demands}
use Rattle.cert_checker.specs.declared.known.Claim.{Claim}
use Rattle.cert_checker.specs.declared.known.Claim.TheVariants as claim
use Rattle.cert_checker.specs.declared.known.TermDef.{TermDef}

-- the value of a term, from the values of the earlier ones
abbrev pub made_value : List Bool → List Bool → TermDef → Bool
made_value w earlier m = cond (get_or w m.var false) (get_or earlier m.high false) (get_or earlier m.low false)

-- the values of earlier terms, followed by those of further ones, under a pattern of bits
unfoldable pub term_values : List Bool → List Bool → List TermDef → List Bool
term_values w earlier [] = earlier
term_values w earlier (m ∷ more) = term_values w (earlier ++ made_value w earlier m ∷ []) more

-- the value of a term under a pattern of bits: term 0 is false, and term 1 is true
unfoldable pub cert_value : List TermDef → ℕ → List Bool → Bool
cert_value terms t w = get_or (term_values w (false ∷ true ∷ []) terms) t false

-- a claim holds under a pattern of bits
abbrev pub ClaimHolds : List TermDef → List Bool → Claim → Type 0
ClaimHolds terms w (claim.And a b c) = cert_value terms c w ≡ cert_value terms a w && cert_value terms b w
ClaimHolds terms w (claim.Not a c) = cert_value terms c w ≡ not (cert_value terms a w)

-- a certificate shows what is demanded: each demanded gate is true at every pattern of bits
abbrev pub CertificatesShow : Type 0
CertificatesShow =
    (g : Demands) (text : List ℕ) → CertOk g text → (k gate : ℕ) → slice_get g.want k ≡ Some gate → (w : List Bool) → truth g.net gate w ≡ true
