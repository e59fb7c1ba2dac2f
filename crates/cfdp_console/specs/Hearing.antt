-- What is heard over a connection of the console.
use Rattle.std.specs.Prelude.{◌≡◌, ◌⊎◌, ◌∷◌, ◌++◌, ℕ, List, Option, Some, None, Result, Ok, Err, IsFalse}
use Rattle.http.specs.declared.request.Request.{Request}
use Rattle.http_server.specs.declared.response.Response.{Response}
use Rattle.http_server.specs.Connection.{history}
use Rattle.http_server.specs.Exchange.{Call}
use Rattle.cfdp_console.specs.Asking.{May}
use Rattle.cfdp_console.specs.Denying.{IsDenied}
use Rattle.cfdp_console.specs.declared.asking.Ask.{Ask}
use Rattle.cfdp_console.specs.declared.caller.Caller.{Caller}
use Rattle.cfdp_console.specs.declared.caller.Hearing.{Hearing}
use Rattle.cfdp_console.specs.declared.caller.Stage.TheVariants as stage
use Rattle.cfdp_console.specs.declared.denial.Denial.{Denial}
use Rattle.cfdp_console.specs.declared.guard.Guard.{Guard}

-- a request asks this, which it may ask, or is denied for this
abbrev pub IsJudged : Guard → Request (List ℕ) → Result Ask Denial → Type 0
IsJudged guard request (Ok it) = May guard request it
IsJudged guard request (Err why) = IsDenied guard request why

-- The first request is judged. Those after it change nothing.
pub record HearsRequest (old : Hearing) (request : Request (List ℕ)) (new : Hearing) : Type 0 where
  pub first : old.asked ≡ None → (judged : Result Ask Denial) × (new.asked ≡ Some judged)
      × IsJudged old.guard.now request judged
  pub later : (before : Result Ask Denial) → old.asked ≡ Some before → new.asked ≡ Some before

-- The octets that a caller sent and that were read, and the requests that they spell: these are, by
-- `always_served` of `http_server`, the first requests of these octets, in their order.
abbrev pub octets_of : Caller → List ℕ
octets_of caller = (history caller.hearing).received

abbrev pub requests_of : Caller → List Call
requests_of caller = (history caller.hearing).calls

-- this request is the next one of the caller's octets, after those of before
pub record IsNext (old new : Caller) (request : Request (List ℕ)) : Type 0 where
  pub response : Response
  pub later : List Call
  pub is : requests_of new ≡ requests_of old ++ (request, response) ∷ later

-- the caller must be answered
abbrev pub Waits : Caller → Type 0
Waits caller = caller.stage ≡ stage.Awaiting

-- What a caller is said to ask: what its next request asks, if that may ask it. Nothing is asked if
-- no request is whole, or the next one is denied.
abbrev pub Heard : Guard → Caller → Caller → Option Ask → Type 0
Heard guard old new (Some it) =
    (request : Request (List ℕ)) × IsNext old new request × May guard request it × Waits new
Heard guard old new None = (requests_of new ≡ requests_of old)
    ⊎ ((request : Request (List ℕ)) × IsNext old new request
    × (why : Denial) × IsDenied guard request why)

-- octets of the caller are read
abbrev pub Listens : Caller → Type 0
Listens caller = (caller.stage ≡ stage.Hearing) × IsFalse (history caller.hearing).ended

abbrev pub IsGone : Caller → Type 0
IsGone caller = caller.stage ≡ stage.Gone

-- All these octets were read, in their order, unless nothing more is heard of the caller.
abbrev pub Reads : Caller → Caller → List ℕ → Type 0
Reads old new octets = IsGone new ⊎ (octets_of new ≡ octets_of old ++ octets)

-- nothing was read, and no request was taken
pub record HearsNothing (old new : Caller) : Type 0 where
  pub octets : octets_of new ≡ octets_of old
  pub requests : requests_of new ≡ requests_of old
  pub gone : IsGone old → IsGone new
