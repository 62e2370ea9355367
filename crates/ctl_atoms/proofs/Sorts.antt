-- Laws of the sort of several terms.
use Rattle.std.proofs.Common.{◌≡◌, false, refl}
use Rattle.std.proofs.Math.Bool.{or-false, or_assoc}
use Rattle.ctl_atoms.specs.declared.mixing.InferredSort.{InferredSort}
use Rattle.ctl_atoms.specs.Mixing.{either, truth_sort}

pub either_assoc : (a b c : InferredSort) → either (either a b) c ≡ either a (either b c)
either_assoc a b c = rw (or_assoc a.code b.code c.code, or_assoc a.value b.value c.value, or_assoc a.mixed b.mixed c.mixed) refl

pub either_none : (a : InferredSort) → either a (truth_sort false) ≡ a
either_none a = rw (or-false a.code, or-false a.value, or-false a.mixed) refl
