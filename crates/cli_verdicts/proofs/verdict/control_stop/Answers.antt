use Rattle.std.proofs.Common.{ℕ, List, codes, refl, inr, ap, subst}
use Rattle.ctl_atoms.specs.Atoms.{IsCtlFault}
use Rattle.cli_plans.specs.Lines.{names_line}
use Rattle.cli_plans.specs.Plan.{refused}
use Rattle.cli_verdicts.proofs.verdict.control_stop.Goals as goal

pub returns-in-AtomsOver64 : goal.returns-in-AtomsOver64
returns-in-AtomsOver64 c = λ terms is.
    inr (
      refl,
      inr (record {
        over = subst (IsCtlFault c.args.bound.now.table.rows terms) c.in-AtomsOver64.is is;
        told = ap (λ (names : List ℕ). refused 5 (names_line c.args.name.now (codes "AtomsOver64") names)) c.new.ensures.items;
      }),
    )
