use Rattle.std.proofs.Common.{◌≡◌, ◌∙◌, sym, ap, List}
use Rattle.nets.proofs.Truths.{begins_more}
use Rattle.aiger_out.specs.declared.form.AagLine.{AagLine}
use Rattle.aiger_out.specs.declared.form.AagLine.TheVariants.{And, Input}
use Rattle.aiger_out.specs.Rows.{row}
use Rattle.aiger_out.proofs.Built.{built_and, built_input}
use Rattle.aiger_out.proofs.build.put_line.Goals as goal

pub returns-in_ok-g-in-Input-clause-built : goal.returns-in_ok-g-in-Input-clause-built
returns-in_ok-g-in-Input-clause-built c =
    let line : row c.args.t.now.rows.items c.args.j ≡ Input c.in-Input.x =
    ap (λ (rows : List AagLine). row rows c.args.j) (sym c.as_slice.ensures.value) ∙ (sym c.row_at.ensures ∙ c.in-Input.is) in
    built_input c.args.t.now.header c.args.b.now c.variable.new.self c.args.gates.now c.args.none c.args.j (row c.args.t.now.rows.items c.args.j)
    c.in-Input.x c.in_ok-g-in-Input.g line c.requires.has c.requires.may c.in_ok-g-in-Input.ensures.extends c.in_ok-g-in-Input.ensures.has_truth

pub returns-in_ok-g-in-And-clause-built : goal.returns-in_ok-g-in-And-clause-built
returns-in_ok-g-in-And-clause-built c =
    let line : row c.args.t.now.rows.items c.args.j ≡ And c.in-And.a =
    ap (λ (rows : List AagLine). row rows c.args.j) (sym c.as_slice.ensures.value) ∙ (sym c.row_at.ensures ∙ c.in-And.is) in
    built_and c.args.t.now.header c.args.b.now c.literal_gate.new.b c.literal_gate-in-And.new.b c.and.new.self c.args.gates.now c.args.none c.args.j (row c.args.t.now.rows.items c.args.j)
    c.in-And.a c.in_ok-first-in-And.first c.in_ok-second-in-And.second c.in_ok-g-in-And.g line c.requires.has c.requires.may
    c.in_ok-first-in-And.ensures.extends c.in_ok-first-in-And.ensures.has_truth c.in_ok-second-in-And.ensures.extends c.in_ok-second-in-And.ensures.has_truth
    c.in_ok-g-in-And.ensures.extends c.in_ok-g-in-And.ensures.has_truth
    (begins_more c.in_ok-first-in-And.ensures.extends (begins_more c.in_ok-second-in-And.ensures.extends c.in_ok-g-in-And.ensures.extends))
