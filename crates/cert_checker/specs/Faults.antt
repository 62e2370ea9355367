-- A text has at most one first fault, and none if it is a certificate; and the faults that a certificate can have for
-- another net.
use Rattle.std.specs.Prelude.{ℕ, ◌≡◌, ◌≤◌, List}
use Rattle.cert_checker.specs.Certificates.{CertOk, IsFirstFault}
use Rattle.cert_checker.specs.declared.demands.Demands.{Demands}
use Rattle.cert_checker.specs.declared.fault.CertFault.{CertFault}
use Rattle.cert_checker.specs.declared.fault.CertWhy.{CertWhy}
use Rattle.cert_checker.specs.declared.fault.CertWhy.TheVariants as why

abbrev pub FaultsAreFirst : Type 0
FaultsAreFirst =
    (g : Demands) (text : List ℕ) (fault : CertFault) → IsFirstFault g text fault →
    (CertOk g text → ⊥) × ((other : CertFault) → IsFirstFault g text other → other ≡ fault)

-- the errors that depend on the gates of the net or on the demanded ones; the others depend only on the text and the
-- number of variables
abbrev pub IsOfGates : CertWhy → Type 0
IsOfGates why.Syntax = ⊥
IsOfGates why.Number = ⊥
IsOfGates why.Claim = ⊥
IsOfGates why.Gate = Unit {0}
IsOfGates why.Missing = Unit {0}
IsOfGates why.Rule = Unit {0}

-- a certificate of some demands can have a fault for other demands with as many variables and the same settings only
-- because of their gates, and only after its head
abbrev pub OthersRefuseByGates : Type 0
OthersRefuseByGates =
    (g h : Demands) (text : List ℕ) (fault : CertFault) → g.settings ≡ h.settings → g.net.vars ≡ h.net.vars → CertOk g text → IsFirstFault h text fault →
    IsOfGates fault.why × (3 ≤ fault.line)
