-- The correct answers of a step of the reader.
use Rattle.std.specs.Prelude.{◌≡◌, Result, Ok, Err}
use Rattle.hcl_read.specs.declared.fault.HclWhy.{HclWhy}
use Rattle.hcl_read.specs.declared.fault.HclWhy.TheVariants.{Syntax, BadByte, NumberTooWide, DepthOver64, NamesOver256, Memory}

-- a reason is the wanted one, or out of memory
abbrev pub Refuses : {A : Type 0} → HclWhy → Result A HclWhy → Type 0
Refuses Memory wanted = Unit
Refuses Syntax wanted = wanted ≡ Err Syntax
Refuses BadByte wanted = wanted ≡ Err BadByte
Refuses NumberTooWide wanted = wanted ≡ Err NumberTooWide
Refuses DepthOver64 wanted = wanted ≡ Err DepthOver64
Refuses NamesOver256 wanted = wanted ≡ Err NamesOver256

-- an answer is the wanted one, or out of memory
abbrev pub Steps : {A : Type 0} → Result A HclWhy → Result A HclWhy → Type 0
Steps (Ok x) wanted = wanted ≡ Ok x
Steps (Err why) wanted = Refuses why wanted
