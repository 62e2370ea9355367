use Rattle.std.proofs.Common.{◌∙◌, sym, Result, MatchResult, Ok, Err}
use Rattle.aiger_out.specs.declared.fault.AagError.{AagError}
use Rattle.aiger_out.specs.declared.form.Header.{Header}
use Rattle.aiger_out.specs.declared.reader.Aig.{Aig}
use Rattle.aiger_out.specs.Lines.{ended}
use Rattle.aiger_out.specs.Rows.{row}
use Rattle.aiger_out.specs.Reading.{AreGoodLines, IsError, IsLineError}
use Rattle.aiger_out.specs.Values.{IsNetOfText}
use Rattle.aiger_out.proofs.FromRows.{read_err, read_ok, rows_follow, rows_header}
use Rattle.aiger_out.proofs.reader.read.Goals as goal

pub read_lines-requires-clause-header : goal.read_lines-requires-clause-header
read_lines-requires-clause-header c = rows_header c.in-Some-header_of.h c.args.bytes.now c.in-Ok.rows.items c.in-Ok.rest.now c.in-Ok.ensures

pub read_lines-requires-clause-inputs : goal.read_lines-requires-clause-inputs
read_lines-requires-clause-inputs c = rows_follow c.in-Some-header_of.h c.args.bytes.now c.in-Ok.rows.items c.in-Ok.rest.now c.in-Ok.ensures

each_case : (r : Result Aig AagError) (P Q : Aig → Type 0) (E F : AagError → Type 0) → ((a : Aig) → P a → Q a) → ((e : AagError) → E e → F e) → MatchResult r P E → MatchResult r Q F
each_case (Ok a) P Q E F f g m = f a m
each_case (Err e) P Q E F f g m = g e m

pub returns-in-Ok : goal.returns-in-Ok
returns-in-Ok c =
    let h = c.in-Some-header_of.h in
    let text = c.args.bytes.now in
    let rows = c.in-Ok.rows.items in
    let left = c.in-Ok.rest.now in
    let is = sym c.header_of.ensures ∙ c.in-Some-header_of.is in
    let good = sym c.header_fault.ensures.fault ∙ c.in_default-header_fault.is in
    each_case c.read_lines.result (λ a. AreGoodLines h (row rows) left a.net a.outs) (λ a. (x : Header) × IsNetOfText 1000000 text a.net a.outs x)
    (IsLineError h (row rows) left) (IsError 1000000 text)
    (λ a g. (h, read_ok h text rows left c.in-Ok.ensures c.in-Some.first.now (ended c.in-Some.field-0-1.now) c.in-Some.ensures.lines is good a.net a.outs g))
    (λ e l. read_err h text rows left c.in-Ok.ensures c.in-Some.first.now (ended c.in-Some.field-0-1.now) c.in-Some.ensures.lines is good e l)
    c.read_lines.ensures
