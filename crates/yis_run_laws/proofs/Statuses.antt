-- The statuses with which instructions end, and their numbers.
use Rattle.std.proofs.Common.{◌≡◌, ℕ, Bool, true, false, not, ◌||◌, ◌==◌, cond, List, refl, sym, ap, ◌∙◌}
use Rattle.std.proofs.Math.Bool.{or-false}
use Rattle.std.proofs.lemmas.Bool.{or_right}
use Rattle.y86_base.specs.Stat.{stat_of, stat_number}
use Rattle.y86_base.specs.declared.parts.Stat.{Stat}
use Rattle.y86_base.specs.declared.parts.Stat.TheVariants.{Bub, Aok, Hlt, Adr, Ins, Pip, Bad}
use Rattle.y86_base.specs.declared.parts.Variant.{Variant}
use Rattle.y86_isa.specs.Machine.{is_aok}
use Rattle.y86_isa.specs.Blocks.{fetched}
use Rattle.yis_run_laws.specs.Instructions.{state_before, work_at, stops_at}
use Rattle.yis_run_laws.specs.Laws.{IsStepStatus}
use Rattle.yis_run_laws.specs.Laws.IsStepStatus.{aok, hlt, adr, ins}
use Rattle.yis_run_laws.proofs.Walk.{follows, fetches}

end_by : (error fault a b : Bool) → IsStepStatus (cond fault Adr (cond error Adr (cond a Ins (cond b Hlt Aok))))
end_by error true a b = adr
end_by true false a b = adr
end_by false false true b = ins
end_by false false false true = hlt
end_by false false false false = aok

pub ends : (v : Variant) (image : List ℕ) (i : ℕ) → IsStepStatus (work_at v image i).stat
ends v image i =
    let g = fetched v (state_before v image i).mem (state_before v image i).pc in
    rw ((follows v image i).stat, (fetches v image i).fetch_stat) (end_by g.error (work_at v image i).fault (g.icode == 15) (g.icode == 0))

pub fetch_ends : (v : Variant) (image : List ℕ) (i : ℕ) → IsStepStatus (work_at v image i).fetch_stat
fetch_ends v image i =
    let g = fetched v (state_before v image i).mem (state_before v image i).pc in
    rw (fetches v image i).fetch_stat (end_by g.error false (g.icode == 15) (g.icode == 0))

end_one : (s : Stat) → IsStepStatus s → (stat_number s == 1) ≡ is_aok s
end_one _ aok = refl
end_one _ hlt = refl
end_one _ adr = refl
end_one _ ins = refl

end_stat : (s : Stat) → IsStepStatus s → stat_of (stat_number s) ≡ s
end_stat _ aok = refl
end_stat _ hlt = refl
end_stat _ adr = refl
end_stat _ ins = refl

pub one_is : (v : Variant) (image : List ℕ) (i : ℕ) → (stat_number (work_at v image i).stat == 1) ≡ is_aok (work_at v image i).stat
one_is v image i = end_one _ (ends v image i)

pub fetch_one : (v : Variant) (image : List ℕ) (i : ℕ) → (stat_number (work_at v image i).fetch_stat == 1) ≡ is_aok (work_at v image i).fetch_stat
fetch_one v image i = end_one _ (fetch_ends v image i)

pub stat_is : (v : Variant) (image : List ℕ) (i : ℕ) → stat_of (stat_number (work_at v image i).stat) ≡ (work_at v image i).stat
stat_is v image i = end_stat _ (ends v image i)

pub stat_one : (s : Stat) → is_aok s ≡ true → stat_number s ≡ 1
stat_one Bub h = cc
stat_one Aok h = refl
stat_one Hlt h = cc
stat_one Adr h = cc
stat_one Ins h = cc
stat_one Pip h = cc
stat_one Bad h = cc

stop_by : (fault : Bool) (s : Stat) → not (is_aok s) || fault ≡ not (is_aok (cond fault Adr s))
stop_by true s = or_right (not (is_aok s)) true refl
stop_by false s = or-false (not (is_aok s))

-- an instruction stops the run at its fetch, or at memory
pub stops_is : (v : Variant) (image : List ℕ) (i : ℕ) → not (stat_number (work_at v image i).fetch_stat == 1) || (work_at v image i).fault ≡ stops_at v image i
stops_is v image i =
    rw (fetch_one v image i) (stop_by (work_at v image i).fault (work_at v image i).fetch_stat ∙ ap (λ s. not (is_aok s)) (sym (follows v image i).stat))
