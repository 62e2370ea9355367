use Rattle.std.proofs.Common.{sym, arith}
use Rattle.hcl_read.proofs.NameSets.{unnamed}
use Rattle.hcl_read.proofs.names.Names.note.Goals as goal

pub returns-in_default : goal.returns-in_default
returns-in_default c =
    let e = unnamed c.args.self.now c.args.token.now c.in_default.not-Ident in
    record { fits = rw e (grind (arith, c.requires)); names = λ _. sym e }
