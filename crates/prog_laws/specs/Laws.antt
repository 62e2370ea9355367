-- What the run of an image does as a whole.
use Rattle.std.specs.Prelude.{◌≡◌, ℕ, ◌+◌, ◌*◌, ◌%◌, ◌<◌, ◌≤◌, List, length}
use Rattle.y86_base.specs.declared.parts.Stat.TheVariants.{Aok, Hlt}
use Rattle.y86_base.specs.declared.parts.Variant.{Variant}
use Rattle.y86_isa.specs.Step.{retired}
use Rattle.y86_isa.specs.Run.{run, records, IsFetched, IsStoredBy}

-- the run has `count` instructions, and the last one is a halt
pub record RunsToHalt (v : Variant) (image : List ℕ) (count : ℕ) : Type 0 where
  pub records : length (records v image count) ≡ count
  pub halted : (run v image count).stat ≡ Hlt

-- every address from which the run fetches is below data_at, and every address to which it stores isn't
pub record KeepsCode (v : Variant) (image : List ℕ) (data_at : ℕ) : Type 0 where
  pub fetched : (i address : ℕ) → (run v image i).stat ≡ Aok → IsFetched v (run v image i).mem (run v image i).pc address → address < data_at
  pub stored : (i address : ℕ) → IsStoredBy (retired v (run v image i)) address → data_at ≤ address

-- the data area of an image of n instructions: 256 words, the last of the image, from the first multiple of 8 on that
-- leaves space for n instructions of at most 10 bytes and for 8 bytes of zeros
pub record HasDataArea (image : List ℕ) (n data_at : ℕ) : Type 0 where
  pub words : length image ≡ data_at + 256 * 8
  pub room : 10 * n + 8 ≤ data_at
  pub first : data_at < 10 * n + 8 + 8
  pub aligned : data_at % 8 ≡ 0
