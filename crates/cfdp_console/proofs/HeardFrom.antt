-- Exported, for callers that do something else with a caller before it hears: what is heard from a
-- state on is heard from each one with the same requests.
use Rattle.std.specs.Prelude.{◌≡◌, ℕ, List, ◌∷◌, ◌++◌, Option, Some, None, IfSome}
use Rattle.std.proofs.Common.{◌∙◌, ap, inl, inr}
use Rattle.http.specs.declared.request.Request.{Request}
use Rattle.http_server.specs.Exchange.{Call}
use Rattle.cfdp_console.specs.Asking.{May}
use Rattle.cfdp_console.specs.Hearing.{Heard, IsNext, requests_of}
use Rattle.cfdp_console.specs.declared.asking.Ask.{Ask}
use Rattle.cfdp_console.specs.declared.caller.Caller.{Caller}
use Rattle.cfdp_console.specs.declared.guard.Guard.{Guard}

next_from : (old mid new : Caller) (request : Request (List ℕ)) → requests_of mid ≡ requests_of old
    → IsNext mid new request → IsNext old new request
next_from old mid new request same next = record {
  response = next.response;
  later = next.later;
  is = next.is ∙ ap (λ (l : List Call). l ++ (request, next.response) ∷ next.later) same;
}

pub heard_from : (guard : Guard) (old mid new : Caller) (given : Option Ask)
    → requests_of mid ≡ requests_of old → Heard guard mid new given → Heard guard old new given
heard_from guard old mid new (Some it) same (request, next, may, waits) =
    (request, next_from old mid new request same next, may, waits)
heard_from guard old mid new None same (inl none) = inl (none ∙ same)
heard_from guard old mid new None same (inr (request, next, why, denied)) =
    inr (request, next_from old mid new request same next, why, denied)

-- what is said to be asked may be asked by some request
pub may_be : (guard : Guard) (old new : Caller) (given : Option Ask) → Heard guard old new given
    → IfSome given (λ ask. (request : Request (List ℕ)) × May guard request ask)
may_be guard old new (Some it) (request, next, may, waits) = (request, may)
may_be guard old new None h = tt
