-- What a station does for a request of its user.
use Rattle.std.specs.Prelude.{◌≡◌, Result, OnErr}
use Rattle.cfdp_header.specs.declared.value.TransactionId.{TransactionId}
use Rattle.cfdp_entity.specs.declared.request.Request.{Request}
use Rattle.cfdp_entity.specs.declared.error.RequestError.{RequestError}
use Rattle.cfdp_entity.specs.Requests.{AnswersRequest}
use Rattle.cfdp_station.specs.Station.{StationState, KeepsLink}

-- Its entity answered a request of a transaction: if it wasn't accepted, this is why, and all is
-- as it was. Both ends of the link are as they were.
pub record StationAnswers (c : Request) (id : TransactionId)
    (answer : Result (Unit {0}) RequestError) (old new : StationState) : Type 0 where
  pub entity : AnswersRequest c id answer old.entity new.entity
  pub err : OnErr answer (new ≡ old)
  pub link : KeepsLink old new
