-- How reports name the errors that end a settling or a recovery.
use Rattle.std.specs.Prelude.{ℕ, List, codes}
use Rattle.station_pair.specs.declared.settle_error.SettleError.{SettleError}
use Rattle.station_pair.specs.declared.settle_error.SettleError.TheVariants.{NoMemory, StoreFailed, TableFull}
use Rattle.station_pair.specs.declared.recover_error.RecoverError.{RecoverError}
use Rattle.station_pair.specs.declared.recover_error.RecoverError.TheVariants.{Settle, StillArmed}

abbrev pub settle_error_number : SettleError → ℕ
settle_error_number NoMemory = 1
settle_error_number StoreFailed = 2
settle_error_number TableFull = 3

abbrev pub settle_error_name : SettleError → List ℕ
settle_error_name NoMemory = codes "NoMemory"
settle_error_name StoreFailed = codes "StoreFailed"
settle_error_name TableFull = codes "TableFull"

abbrev pub recover_error_number : RecoverError → ℕ
recover_error_number (Settle error) = settle_error_number error
recover_error_number StillArmed = 4

abbrev pub recover_error_name : RecoverError → List ℕ
recover_error_name (Settle error) = settle_error_name error
recover_error_name StillArmed = codes "StillArmed"
