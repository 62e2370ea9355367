use Rattle.std.proofs.Common.{◌∙◌, ap, [], ◌∷◌, ◌++◌}
use Rattle.std.specs.Prelude.{nat_eq}
use Rattle.std.specs.Cmp.Lexicographic.{pointwise}
use Rattle.std.specs.List.{list_any}
use Rattle.hcl_read.proofs.NameSets.{inserted, texts}
use Rattle.hcl_read.proofs.names.Names.insert.Goals as goal

pub returns : goal.returns
returns c =
    ap texts c.in-Ok.ensures.keys
    ∙ inserted c.self.inside.set.keys c.args.name (ap (list_any (pointwise nat_eq c.args.name.items)) c.self.view_is ∙ c.requires)
    ∙ ap (λ names. names ++ c.args.name.items ∷ []) c.self.view_is
