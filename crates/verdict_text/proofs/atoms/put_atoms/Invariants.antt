use Rattle.std.proofs.Common.{◌≡◌, ◌++◌, ◌+◌, drop, codes}
use Rattle.hcl_types.specs.Tables.{row_names}
use Rattle.verdict_text.specs.Atoms.{atoms_text}
use Rattle.verdict_text.proofs.atoms.put_atoms.Given as goal

abbrev pub invariant-loop-atom : goal.invariant-loop-atom
invariant-loop-atom l = record {
  at : l.at ≡ l.first + l.atom-index;
  text : l.out.items ++ atoms_text (row_names l.rows) l.bits l.at (drop l.atom-index l.atoms) ≡ (l.fn.out.items ++ codes "atoms") ++ atoms_text (row_names l.rows) l.bits l.first l.atoms;
}
