use Rattle.std.proofs.Common.{◌∙◌, ap}
use Rattle.std.specs.Prelude.{nat_eq}
use Rattle.std.specs.Cmp.Lexicographic.{pointwise}
use Rattle.std.specs.List.{list_any}
use Rattle.hcl_read.proofs.NameSets.{among}
use Rattle.hcl_read.proofs.names.Names.contains.Goals as goal

pub returns : goal.returns
returns c =
    c.contains.ensures ∙ among c.self.inside.set.keys c.args.name.now
    ∙ ap (list_any (pointwise nat_eq c.args.name.now)) c.self.view_is
