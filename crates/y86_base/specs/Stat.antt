-- The numbers of the statuses, as HCL's constants SBUB, SAOK, SHLT, SADR and SINS have them, and their names.
use Rattle.std.specs.Prelude.{ℕ, List, codes, if◌then◌else◌, ◌==◌}
use Rattle.y86_base.specs.declared.parts.Stat.{Stat}
use Rattle.y86_base.specs.declared.parts.Stat.TheVariants.{Bub, Aok, Hlt, Adr, Ins, Pip, Bad}

-- the status with a number; a number over 4 is no status, which gives `Bad`
abbrev pub stat_of : ℕ → Stat
stat_of n =
    if n == 0 then Bub else (if n == 1 then Aok else (if n == 2 then Hlt else (if n == 3 then Adr else (if n == 4 then Ins else Bad))))

-- the number of a status: 0 to 4, which `stat_of` reads back; 5 and 6 are for the two that have no number in HCL
abbrev pub stat_number : Stat → ℕ
stat_number Bub = 0
stat_number Aok = 1
stat_number Hlt = 2
stat_number Adr = 3
stat_number Ins = 4
stat_number Pip = 5
stat_number Bad = 6

-- the name of a status in output
abbrev pub stat_name : Stat → List ℕ
stat_name Bub = codes "BUB"
stat_name Aok = codes "AOK"
stat_name Hlt = codes "HLT"
stat_name Adr = codes "ADR"
stat_name Ins = codes "INS"
stat_name Pip = codes "PIP"
stat_name Bad = codes "BAD"
