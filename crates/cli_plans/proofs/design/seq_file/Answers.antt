use Rattle.std.proofs.Common.{List}
use Rattle.hcl_types.specs.declared.term.Term.{Term}
use Rattle.seq_plus.specs.Datapaths.{rows_of}
use Rattle.hcl_design.specs.Designs.{IsDesign}
use Rattle.cli_plans.specs.Designs.{RefusesDesign}
use Rattle.hcl_types.specs.declared.table.BoundDesign.{BoundDesign}
use Rattle.cli_plans.proofs.Does.{stage_read}
use Rattle.cli_plans.proofs.design.seq_file.Goals as goal

pub returns-in-Ok-clause-design : goal.returns-in-Ok-clause-design
returns-in-Ok-clause-design g c =
    stage_read {A = List Term} _ _ (IsDesign (rows_of c.args.which)) (RefusesDesign c.args.name.now (rows_of c.args.which)) (λ (b : BoundDesign). b.ordered.design.terms) _ _ c.in-Ok.source.items _
    c.in-Ok.ensures.later c.in-Ok.ensures.bytes.0 c.in-Ok.ensures.bytes.1 (rw c.as_slice.ensures.value at c.seq_design.ensures.design)
