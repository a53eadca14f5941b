-- The number of each refusal. Every promise that names a refusal names it by this number.
use Rattle.std.specs.Prelude.{ℕ, Ok, Err, Result}
use Rattle.refusal.specs.declared.Refusal.{Refusal}
use Rattle.refusal.specs.declared.Refusal.TheVariants.{NoSuchRegister, Busy, NoSuchOperation, DepthNotTaken, StartBitPastUnit, LevelTooHigh, OutsideWindowLimits, PastMemory, NoByteAwaited, NothingToRun, NothingUnderWay, NoSuchAddress}

abbrev pub number_of : Refusal → ℕ
number_of NoSuchRegister = 1
number_of Busy = 2
number_of NoSuchOperation = 3
number_of DepthNotTaken = 4
number_of StartBitPastUnit = 5
number_of LevelTooHigh = 6
number_of OutsideWindowLimits = 7
number_of PastMemory = 8
number_of NoByteAwaited = 9
number_of NothingToRun = 10
number_of NothingUnderWay = 11
number_of NoSuchAddress = 12

-- an answer with its refusal as a number
abbrev pub numbered : {A : Type 0} → Result A Refusal → Result A ℕ
numbered (Ok x) = Ok x
numbered (Err e) = Err (number_of e)
