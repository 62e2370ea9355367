-- A file with or without a fault, from the parts of the answer.
use Rattle.std.proofs.Common.{◌≡◌, ◌↔◌, arith, refl, sym, ℕ, List, [], ◌∷◌, Option, Result, Ok, Err}
use Rattle.fault_report.specs.Told.{IsTold, Reports, ReportsHcl, ReportsObject, rows_in}
use Rattle.fault_report.specs.declared.facts.Fault.{Fault}
use Rattle.fault_report.specs.declared.facts.Report.{Report}
use Rattle.fault_report.specs.declared.facts.Tables.{Tables}
use Rattle.hcl_types.specs.declared.table.Datapath.{Datapath}
use Rattle.hcl_types.specs.declared.table.Datapath.TheVariants.{Pipe, Seq, SeqPlus}
use Rattle.seq_plus.specs.Datapaths.{table_rows}
use Rattle.tell_faults.specs.declared.faulty.Kind.{Kind}
use Rattle.tell_faults.specs.Faultless.{HasWantedDesign, IsFaultlessFile, IsFaultlessText, IsLoadable, kind_of}
use Rattle.tell_faults.specs.Told.{HasBytesWith}
use Rattle.tell_words.specs.declared.questions.FaultQuestion.{FaultQuestion}
use Rattle.wb_io.specs.Files.{HasBytes}
use Rattle.yas_asm.specs.declared.fault.AsmFault.{AsmFault}
use Rattle.yas_asm.specs.declared.listing.Line.{Line}
use Rattle.yo_object.specs.ObjectText.{object_of}
use Rattle.yo_object.specs.declared.object.YoFault.{YoFault}

told_nothing : (line : ℕ) → IsTold line [] → ⊥
told_nothing line told = absurd (omega (arith, told.there.1))

not_told : (line : ℕ) (faults : List Fault) → IsTold line faults → faults ≡ [] → ⊥
not_told line [] told none = told_nothing line told
not_told line (fault ∷ faults) told none = absurd (cc (none))

pub source_faultless : (r : Result (List Line) AsmFault) (faults : List Fault) → Reports r faults → (faults ≡ []) ↔ ((lines : List Line) × (r ≡ Ok lines))
source_faultless (Ok lines) faults told = (λ none. (lines, refl), λ accepted. told)
source_faultless (Err first) faults told = (λ none. absurd (not_told first.line faults told none), λ (lines, accepted). absurd (cc (accepted)))

pub object_faultless : (text : List ℕ) (size : ℕ) (r : Result (List ℕ) YoFault) (faults : List Fault) → object_of text size ≡ r → ReportsObject text r faults → (faults ≡ []) ↔ IsLoadable size text
object_faultless text size (Ok image) faults same told = (λ none. (image, same, told.0 none), λ (other, loads, puts). told.1 puts)
object_faultless text size (Err first) faults same told = (λ none. absurd (not_told first.line faults told none), λ (image, loads, puts). absurd (cc (loads, same)))

pub each_table : (t : Tables) → t.seq.rows ≡ table_rows Seq → t.seq_plus.rows ≡ table_rows SeqPlus → t.pipe.rows ≡ table_rows Pipe → (path : Datapath) → rows_in t path ≡ table_rows path
each_table t seq plus pipe Seq = seq
each_table t seq plus pipe SeqPlus = plus
each_table t seq plus pipe Pipe = pipe

pub hcl_faultless : (t : Tables) (asked : Option Datapath) (text : List ℕ) (report : Report) → ((path : Datapath) → rows_in t path ≡ table_rows path) → ReportsHcl t asked text report →
    (report.faults ≡ []) ↔ HasWantedDesign asked text
hcl_faultless t asked text report rows reports = (
  λ none. let found = reports.faultless none in (found.path, found.wanted, rw (rows found.path) at found.design),
  λ (path, wanted, design). reports.accepted path wanted (rw (sym (rows path)) at design),
)

-- ---- what the file has

pub has_none : (name : List ℕ) (asked : FaultQuestion) (kind : Kind) (told : Option (Option (List ℕ))) (text : List ℕ) → kind ≡ kind_of name asked.path → HasBytes told text → IsFaultlessText kind asked text →
    HasBytesWith told (IsFaultlessFile name asked)
has_none name asked kind told text same bytes accepted = (text, bytes, rw same at accepted)

pub has_some : (name : List ℕ) (asked : FaultQuestion) (kind : Kind) (told : Option (Option (List ℕ))) (text : List ℕ) → kind ≡ kind_of name asked.path → HasBytes told text → (IsFaultlessText kind asked text → ⊥) →
    HasBytesWith told (λ text. IsFaultlessFile name asked text → ⊥)
has_some name asked kind told text same bytes refused = (text, bytes, rw same at refused)
