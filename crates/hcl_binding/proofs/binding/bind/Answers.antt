use Rattle.std.proofs.Common.{Ok, Err}
use Rattle.hcl_binding.proofs.Bound.{as_bound}
use Rattle.hcl_binding.proofs.Designs.{design_bound}
use Rattle.hcl_binding.proofs.binding.bind.Goals as goal

pub returns-in_default-clause-fault : goal.returns-in_default-clause-fault
returns-in_default-clause-fault c = λ told.
    as_bound c.args.t.now.rows c.items.result.now c.args.f.now.items c.items-2.result.now c.items.ensures c.items-2.ensures c.requires.apart (Err c.in-Err.fault) (c.in-Err.ensures told)

pub returns-in-Ok-clause-design : goal.returns-in-Ok-clause-design
returns-in-Ok-clause-design c =
    as_bound c.args.t.now.rows c.items.result.now c.args.f.now.items c.items-2.result.now c.items.ensures c.items-2.ensures c.requires.apart (Ok c.in-Ok.terms) c.in-Ok.ensures

pub returns-in-Ok-clause-belongs : goal.returns-in-Ok-clause-belongs
returns-in-Ok-clause-belongs c =
    design_bound c.args.t.now.rows c.requires.apart c.args.f.now.items c.in-Ok.terms
    (as_bound c.args.t.now.rows c.items.result.now c.args.f.now.items c.items-2.result.now c.items.ensures c.items-2.ensures c.requires.apart (Ok c.in-Ok.terms) c.in-Ok.ensures)
