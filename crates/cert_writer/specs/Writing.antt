-- The output so far: the text of right lines, and the facts that they make.
use Rattle.std.specs.Prelude.{ℕ, ◌≡◌, ◌<◌, ◌+◌, Bool, List, [], ◌∷◌, ◌++◌, length, map, get_or, slice_get, cond, true, false, Some}
use Rattle.std.specs.Fmt.{decimal}
use Rattle.nets.specs.Nets.{Gates, truth}
use Rattle.nets.specs.declared.net.Gate.{Gate}
use Rattle.nets.specs.declared.net.Gate.TheVariants as gate
use Rattle.cert_checker.specs.Certificates.{HasRightLines}
use Rattle.cert_checker.specs.CheckerFacts.{CheckerFacts, facts_of}
use Rattle.cert_checker.specs.Meaning.{cert_value}
use Rattle.cert_checker.specs.Rules.{is_made, made_at}
use Rattle.cert_checker.specs.declared.demands.Demands.{Demands}
use Rattle.cert_checker.specs.declared.known.Claim.TheVariants as claim
use Rattle.cert_checker.specs.declared.known.TermDef.{TermDef}
use Rattle.cert_checker.specs.declared.line.CertLine.{CertLine}
use Rattle.cert_checker.specs.declared.line.CertLine.TheVariants as line
use Rattle.cert_writer.specs.Proofs.{HasClaim, Proof, claim_of}

-- numbers in decimal, each after a blank
unfoldable pub spaced : List ℕ → List ℕ
spaced [] = []
spaced (n ∷ more) = 32 ∷ (decimal n ++ spaced more)

-- a text of right lines, which make these facts
pub record IsCertificatePrefix (g : Demands) (text : List ℕ) (facts : CheckerFacts) : Type 0 where
  pub lines : List CertLine
  pub goes_on : HasRightLines g text lines []
  pub facts_are : facts_of lines ≡ facts

-- the facts of some terms and claims and of the terms of the first gates
abbrev pub facts_with : List TermDef → List CertLine → List ℕ → CheckerFacts
facts_with terms steps gates = record { terms = terms; claims = map claim_of steps; gates = gates }

-- terms are made of earlier terms and of variables
pub record AreNamed (vars : ℕ) (terms : List TermDef) : Type 0 where
  pub var : (k : ℕ) (m : TermDef) → slice_get terms k ≡ Some m → m.var < vars
  pub low : (k : ℕ) (m : TermDef) → slice_get terms k ≡ Some m → m.low < k + 2
  pub high : (k : ℕ) (m : TermDef) → slice_get terms k ≡ Some m → m.high < k + 2

-- a term is that of a constant, or of a variable
abbrev pub MatchesPlainly : List TermDef → ℕ → Gate → Type 0
MatchesPlainly terms t (gate.Const b) = t ≡ cond b 1 0
MatchesPlainly terms t (gate.Var v) = is_made (made_at terms t) v 0 1 ≡ true
MatchesPlainly terms t (gate.Not a) = Unit {0}
MatchesPlainly terms t (gate.And a b) = Unit {0}

-- a term has the truth of a gate at every pattern of bits, and fits it if it is a constant or a variable
pub record IsGateTerm (n : Gates) (vars : ℕ) (terms : List TermDef) (i t : ℕ) : Type 0 where
  pub within : t < length terms + 2
  pub is : (w : List Bool) → length w ≡ vars → cert_value terms t w ≡ truth n i w
  pub plain : (g : Gate) → slice_get n.gates i ≡ Some g → MatchesPlainly terms t g

-- the terms of the first gates of a net
pub record AreGateTerms (n : Gates) (vars : ℕ) (terms : List TermDef) (ts : List ℕ) (count : ℕ) : Type 0 where
  pub size : length ts ≡ count
  pub each : (i : ℕ) → i < count → IsGateTerm n vars terms i (get_or ts i 0)

-- a claim says about the terms of gates what a gate requires
abbrev pub MatchesBy : Proof → List ℕ → ℕ → ℕ → Gate → Type 0
MatchesBy s gates t p (gate.Const b) = Unit {0}
MatchesBy s gates t p (gate.Var v) = Unit {0}
MatchesBy s gates t p (gate.Not a) = HasClaim s (claim.Not (get_or gates a 0) t) p
MatchesBy s gates t p (gate.And a b) = HasClaim s (claim.And (get_or gates a 0) (get_or gates b 0) t) p

-- the claims of the first gates of a net
pub record AreClaims (n : Gates) (s : Proof) (ts by : List ℕ) (count : ℕ) : Type 0 where
  pub size : length by ≡ count
  pub each : (i : ℕ) → i < count → (g : Gate) → slice_get n.gates i ≡ Some g → MatchesBy s ts (get_or ts i 0) (get_or by i 0) g

-- for each gate of a net a term and a claim that match it
pub record AreGates (net : Gates) (s : Proof) (gates claims : List ℕ) : Type 0 where
  pub size : length gates ≡ length net.gates
  pub claims_size : length claims ≡ length net.gates
  pub within : (i : ℕ) → i < length net.gates → get_or gates i 0 < length s.terms + 2
  pub plain : (i : ℕ) (g : Gate) → slice_get net.gates i ≡ Some g → MatchesPlainly s.terms (get_or gates i 0) g
  pub by : (i : ℕ) (g : Gate) → slice_get net.gates i ≡ Some g → MatchesBy s gates (get_or gates i 0) (get_or claims i 0) g

-- the line of a gate with its term and its claim
abbrev pub gate_line : Gate → ℕ → ℕ → CertLine
gate_line (gate.Const b) t p = line.Gate t
gate_line (gate.Var v) t p = line.Gate t
gate_line (gate.Not a) t p = line.GateBy t p
gate_line (gate.And a b) t p = line.GateBy t p

-- the demands name gates of the net
abbrev pub AreInside : Demands → Type 0
AreInside g = (k i : ℕ) → slice_get g.want k ≡ Some i → i < length g.net.gates

-- a demanded gate is false at a pattern of bits
pub record HasFalseDemand (g : Demands) : Type 0 where
  pub k : ℕ
  pub gate : ℕ
  pub pattern : List Bool
  pub is : slice_get g.want k ≡ Some gate
  pub size : length pattern ≡ g.net.vars
  pub fails : truth g.net gate pattern ≡ false

-- each demanded gate is true at every pattern of bits
pub record AreDemandsTrue (g : Demands) : Type 0 where
  pub each : (k i : ℕ) → slice_get g.want k ≡ Some i → (w : List Bool) → length w ≡ g.net.vars → truth g.net i w ≡ true
