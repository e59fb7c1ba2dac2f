-- When a request of the user is refused, and what it does otherwise.
use Rattle.std.specs.Prelude.{◌≡◌, ℕ, not, Bool, true, false, is_some, Option, Some, None, slice_get, if◌then◌else◌}
use Rattle.cfdp_sender.specs.declared.phase.SenderPhase.{SenderPhase}
use Rattle.cfdp_sender.specs.declared.phase.SenderPhase.TheVariants.{Sending, Cancelling, Closed}
use Rattle.cfdp_receiver.specs.State.{is_receiving}
use Rattle.cfdp_entity.specs.declared.request.Request.{Request}
use Rattle.cfdp_entity.specs.declared.request.Request.TheVariants as request
use Rattle.cfdp_entity.specs.declared.error.RequestError.{RequestError}
use Rattle.cfdp_entity.specs.declared.error.RequestError.TheVariants.{Unknown, WrongSide, AlreadyClosed, AlreadySo, NoMemory}
use Rattle.cfdp_entity.specs.Seen.{Seen, Sends, Receives}
use Rattle.cfdp_entity.specs.Table.{TableState, Entry, called_at}

abbrev pub is_sending : SenderPhase → Bool
is_sending Sending = true
is_sending Cancelling = false
is_sending Closed = false

-- only a sender prompts
abbrev pub is_wrong_side : Request → Seen → Bool
is_wrong_side (request.Prompt keep_alive) (Receives r m) = true
is_wrong_side _ _ = false

-- `true` if the transaction is no longer sent or received
abbrev pub is_over : Seen → Bool
is_over (Sends x) = not (is_sending x.phase)
is_over (Receives r m) = not (is_receiving r.phase)

abbrev pub is_suspended : Seen → Bool
is_suspended (Sends x) = x.suspended
is_suspended (Receives r m) = r.suspended

abbrev pub has_prompt : Seen → Bool
has_prompt (Sends x) = is_some x.prompt_due
has_prompt (Receives r m) = false

-- `true` if what is asked for is so already: never of a cancel
abbrev pub is_so : Request → Seen → Bool
is_so request.Cancel s = false
is_so request.Suspend s = is_suspended s
is_so request.Resume s = not (is_suspended s)
is_so (request.Prompt keep_alive) s = has_prompt s

-- the first cause that holds, by the record
abbrev pub refusal : Request → Seen → Option RequestError
refusal c s =
    if is_wrong_side c s then Some WrongSide
    else if is_over s then Some AlreadyClosed
    else if is_so c s then Some AlreadySo
    else None

-- why a request is refused, if the transaction has a record or not
abbrev pub refusal_of : Request → Option Entry → Option RequestError
refusal_of c (Some e) = refusal c e.1
refusal_of c None = Some Unknown

-- by the index of its record
abbrev pub refusal_in : Request → Option ℕ → TableState → Option RequestError
refusal_in c (Some place) st = refusal_of c (slice_get st.records place)
refusal_in c None st = Some Unknown

-- `true` if a request may ask something of the inbox: only if it cancels what is received
abbrev pub is_received : Seen → Bool
is_received (Sends x) = false
is_received (Receives r m) = true

abbrev pub asks_inbox : Request → Seen → Bool
asks_inbox request.Cancel s = is_received s
asks_inbox request.Suspend s = false
asks_inbox request.Resume s = false
asks_inbox (request.Prompt keep_alive) s = false

abbrev pub asks_of : Request → Option Entry → Bool
asks_of c (Some e) = asks_inbox c e.1
asks_of c None = false

abbrev pub asks_in : Request → Option ℕ → TableState → Bool
asks_in c (Some place) st = asks_of c (slice_get st.records place)
asks_in c None st = false

abbrev pub called_in : Request → Option ℕ → TableState → TableState
called_in c (Some place) st = called_at place c st
called_in c None st = st

-- if a request of a transaction is refused, this is the cause, or there is no memory
abbrev pub IsRefusal : Option RequestError → RequestError → Type 0
IsRefusal (Some e) by = by ≡ e
IsRefusal None by = by ≡ NoMemory
