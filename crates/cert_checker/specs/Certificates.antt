-- Certificates: their text, when one is right, and otherwise its first fault.
use Rattle.std.specs.Prelude.{ℕ, ◌≡◌, ◌≢◌, ◌⊎◌, ◌+◌, ◌<◌, ◌==◌, codes, Bool, List, [], ◌∷◌, ◌++◌, length, take, get_or, slice_get, Some, None}
use Rattle.pipe_motion.specs.declared.settings.Settings.{Settings}
use Rattle.nets.specs.Nets.{Gates}
use Rattle.verdict_text.specs.PipeLines.{pipe_yes}
use Rattle.cert_checker.specs.declared.demands.Demands.{Demands}
use Rattle.cert_checker.specs.declared.fault.CertError.{CertError}
use Rattle.cert_checker.specs.declared.fault.CertError.TheVariants as error
use Rattle.cert_checker.specs.declared.fault.CertFault.{CertFault}
use Rattle.cert_checker.specs.declared.fault.CertWhy.{CertWhy}
use Rattle.cert_checker.specs.declared.fault.CertWhy.TheVariants as why
use Rattle.cert_checker.specs.declared.line.CertLine.{CertLine}
use Rattle.cert_checker.specs.CheckerFacts.{facts_of}
use Rattle.cert_checker.specs.Lines.{IsLine, line_text, lines_text}
use Rattle.cert_checker.specs.Rules.{flaw}

-- ---- the head: the first line, and the `yes` of PIPE's check

abbrev pub first_line : List ℕ
first_line = codes "y86cert 1\n"

abbrev pub last_line : List ℕ
last_line = codes "end\n"

-- a setting for each of seven ifuns
abbrev pub AreSeven : Settings → Type 0
AreSeven s = (length s.pt ≡ 7) × (length s.pb ≡ 7)

unfoldable pub head_text : Settings → List ℕ
head_text s = first_line ++ pipe_yes s

-- the text states these settings, followed by the rest
pub record StatesSettings (text : List ℕ) (s : Settings) (rest : List ℕ) : Type 0 where
  pub seven : AreSeven s
  pub whole : text ≡ head_text s ++ rest

-- the settings that a `yes` states, read from the places of its digits
abbrev pub is_set : List ℕ → ℕ → Bool
is_set text i = get_or text i 0 == 49

unfoldable pub settings_at : List ℕ → Settings
settings_at t = record {
  pt = is_set t 7 ∷ is_set t 8 ∷ is_set t 9 ∷ is_set t 10 ∷ is_set t 11 ∷ is_set t 12 ∷ is_set t 13 ∷ [];
  pb = is_set t 18 ∷ is_set t 19 ∷ is_set t 20 ∷ is_set t 21 ∷ is_set t 22 ∷ is_set t 23 ∷ is_set t 24 ∷ [];
  tv = is_set t 29;
  lf = is_set t 34;
  je = is_set t 39;
  rm = is_set t 44;
}

-- the text states no settings: its first or its second line is malformed
pub record HasNoHead (text : List ℕ) (fault : CertFault) : Type 0 where
  pub why : fault.why ≡ why.Syntax
  pub line : ((fault.line ≡ 1) × ((rest : List ℕ) → text ≡ first_line ++ rest → ⊥))
      ⊎ ((fault.line ≡ 2) × ((rest : List ℕ) → text ≡ first_line ++ rest → (s : Settings) (more : List ℕ) → AreSeven s → rest ≡ pipe_yes s ++ more → ⊥)
      × ((rest : List ℕ) × (text ≡ first_line ++ rest)))

-- ---- the lines

-- each line is right after the lines before it
abbrev pub AreRight : Gates → List CertLine → Type 0
AreRight net lines = (k : ℕ) (line : CertLine) → slice_get lines k ≡ Some line → flaw net (facts_of (take k lines)) line ≡ None

-- a text that states the demands' settings and continues with these lines, all of them right
pub record HasRightLines (g : Demands) (text : List ℕ) (lines : List CertLine) (rest : List ℕ) : Type 0 where
  pub seven : AreSeven g.settings
  pub each : (k : ℕ) (line : CertLine) → slice_get lines k ≡ Some line → IsLine line
  pub right : AreRight g.net lines
  pub whole : text ≡ head_text g.settings ++ (lines_text lines ++ rest)

-- each gate of the net has its line, and each demanded gate has term 1, truth
pub record IsFinished (g : Demands) (lines : List CertLine) : Type 0 where
  pub all : length (facts_of lines).gates ≡ length g.net.gates
  pub demanded : (k w : ℕ) → slice_get g.want k ≡ Some w → slice_get (facts_of lines).gates w ≡ Some 1

-- the text is a certificate of the demands
pub record CertOk (g : Demands) (text : List ℕ) : Type 0 where
  pub lines : List CertLine
  pub goes_on : HasRightLines g text lines last_line
  pub ends : IsFinished g lines

-- ---- the first fault

-- a text that begins with a line
pub record BeginsWith (text : List ℕ) (line : CertLine) : Type 0 where
  pub rest : List ℕ
  pub is : IsLine line
  pub whole : text ≡ line_text line ++ rest

-- the error that follows right lines
abbrev pub IsEndFault : Demands → List CertLine → List ℕ → CertWhy → Type 0
IsEndFault g lines rest why.Syntax = ((line : CertLine) → BeginsWith rest line → ⊥) × ((more : List ℕ) → rest ≡ last_line ++ more → ⊥)
IsEndFault g lines rest why.Number = (line : CertLine) × BeginsWith rest line × (flaw g.net (facts_of lines) line ≡ Some why.Number)
IsEndFault g lines rest why.Claim = (line : CertLine) × BeginsWith rest line × (flaw g.net (facts_of lines) line ≡ Some why.Claim)
IsEndFault g lines rest why.Gate = (line : CertLine) × BeginsWith rest line × (flaw g.net (facts_of lines) line ≡ Some why.Gate)
IsEndFault g lines rest why.Missing = ((more : List ℕ) × (rest ≡ last_line ++ more)) × (length (facts_of lines).gates ≢ length g.net.gates)
IsEndFault g lines rest why.Rule =
    ((more : List ℕ) × (rest ≡ last_line ++ more)) × (length (facts_of lines).gates ≡ length g.net.gates)
    × ((k : ℕ) × (w : ℕ) × (slice_get g.want k ≡ Some w) × (slice_get (facts_of lines).gates w ≢ Some 1))

-- the head states other settings
pub record StatesOtherSettings (g : Demands) (text : List ℕ) (fault : CertFault) : Type 0 where
  pub is : fault ≡ record { line = 2; why = why.Syntax }
  pub settings : Settings
  pub rest : List ℕ
  pub states : StatesSettings text settings rest
  pub others : settings ≢ g.settings

-- after some right lines another line is wrong
pub record IsLineFault (g : Demands) (text : List ℕ) (fault : CertFault) : Type 0 where
  pub lines : List CertLine
  pub rest : List ℕ
  pub goes_on : HasRightLines g text lines rest
  pub stops : IsEndFault g lines rest fault.why
  pub line : fault.line ≡ length lines + 3

-- a text continues after a right end
pub record HasTextAfterEnd (g : Demands) (text : List ℕ) (fault : CertFault) : Type 0 where
  pub lines : List CertLine
  pub more : List ℕ
  pub goes_on : HasRightLines g text lines (last_line ++ more)
  pub ends : IsFinished g lines
  pub some : 0 < length more
  pub why : fault.why ≡ why.Syntax
  pub line : fault.line ≡ length lines + 4

-- the first line with a fault
abbrev pub IsFirstFault : Demands → List ℕ → CertFault → Type 0
IsFirstFault g text fault = HasNoHead text fault ⊎ (StatesOtherSettings g text fault ⊎ (IsLineFault g text fault ⊎ HasTextAfterEnd g text fault))

abbrev pub fault_at : ℕ → CertWhy → CertError
fault_at line w = error.Cert (record { line = line; why = w })

abbrev pub syntax_at : ℕ → CertError
syntax_at line = fault_at line why.Syntax

-- why a text isn't accepted: its first fault, or out of memory
abbrev pub IsRefusal : Demands → List ℕ → CertError → Type 0
IsRefusal g text (error.Cert fault) = IsFirstFault g text fault
IsRefusal g text error.Memory = Unit {0}

-- why a text states no settings
abbrev pub StatesNoSettings : List ℕ → CertError → Type 0
StatesNoSettings text (error.Cert fault) = HasNoHead text fault
StatesNoSettings text error.Memory = Unit {0}
