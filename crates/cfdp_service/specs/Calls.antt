-- Calls of a user and of a console, each with what it answered.
use Rattle.std.specs.Prelude.{◌≡◌, List, [], ◌∷◌, Option}
use Rattle.std.specs.List.{flat_map}
use Rattle.cfdp_directives.specs.declared.user.indication.Indication.{Indication}
use Rattle.cfdp_service.specs.declared.console.OperatorCommand.{OperatorCommand}
use Rattle.cfdp_service.specs.declared.user.Intent.{Intent}
use Rattle.cfdp_service.specs.declared.wish.Reply.{Reply}
use Rattle.cfdp_service.specs.declared.wish.Wish.{Wish}

-- A user was asked what it wishes next; it heard how that was answered, or what the station
-- indicated; it was asked what it intends; or it heard that the station ended.
pub data UserCall : Type 0 where
  Asks : (wish : Option Wish) → UserCall
  Answered : (reply : Reply) → UserCall
  Hears : (indication : Indication) → UserCall
  Intends : (intent : Intent) → UserCall
  Ends : UserCall

-- A console was asked for the next command; it heard how a wish was answered, what the station
-- indicated, or what became of a file.
pub data ConsoleCall : Type 0 where
  Gives : (command : Option OperatorCommand) → ConsoleCall
  Replied : (reply : Reply) → ConsoleCall
  Heard : (indication : Indication) → ConsoleCall
  Tells : ConsoleCall

-- what a user heard of the station's indications, by these calls
abbrev pub heard_in : UserCall → List Indication
heard_in (Hears indication) = indication ∷ []
heard_in _ = []

abbrev pub heard_by : List UserCall → List Indication
heard_by calls = flat_map heard_in calls

-- These calls were made of a user, one after another.
unfoldable pub Chain : {U : Type 0} → (Steps : U → UserCall → U → Type 0) → List UserCall
    → (old new : U) → Type 0
Chain Steps [] old new = new ≡ old
Chain {U} Steps (call ∷ calls) old new =
    (mid : U) × (Steps old call mid × Chain Steps calls mid new)
