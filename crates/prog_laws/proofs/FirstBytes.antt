-- The first bytes of programs 1, 2, 5 and 7, computed.
use Rattle.std.proofs.Common.{◌≡◌, length, take, refl}
use Rattle.y86_isa.specs.Encoding.{encoded}
use Rattle.y86_isa.specs.Table.{row}
use Rattle.prog_gen.specs.Draws.{lcg_next, lcg_output}
use Rattle.prog_gen.specs.Programs.{code, next_drawn, program}
use Rattle.prog_laws.specs.FirstBytes.{bytes_of_1, bytes_of_2, bytes_of_5, bytes_of_7}

pub begins_1 : take (length bytes_of_1) (program 1) ≡ bytes_of_1
unfolding program code next_drawn lcg_next lcg_output encoded row
begins_1 = refl

pub begins_2 : take (length bytes_of_2) (program 2) ≡ bytes_of_2
unfolding program code next_drawn lcg_next lcg_output encoded row
begins_2 = refl

pub begins_5 : take (length bytes_of_5) (program 5) ≡ bytes_of_5
unfolding program code next_drawn lcg_next lcg_output encoded row
begins_5 = refl

pub begins_7 : take (length bytes_of_7) (program 7) ≡ bytes_of_7
unfolding program code next_drawn lcg_next lcg_output encoded row
begins_7 = refl
