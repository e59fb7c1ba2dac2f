-- What holds of two stations in service, in the words of puts, indications and files.
use Rattle.std.specs.Prelude.{◌≡◌, ◌<◌, ◌≤◌, ℕ, List, [], ◌∷◌, ◌++◌, length, map, count_by, Some}
use Rattle.std.specs.Prelude.{Contains, ⊤}
use Rattle.std.specs.FinMap.{get}
use Rattle.link_stack.specs.AnyOrder.{ReceivesAll}
use Rattle.link_stack.specs.Downward.{both_counted_from, first_down}
use Rattle.link_stack.specs.EndToEnd.{DoesAll}
use Rattle.link_stack.specs.Lives.{AreComingOf, IsLife, life_at, octets_coming}
use Rattle.link_stack.specs.Upward.{first_up}
use Rattle.cfdp_header.specs.declared.value.TransactionId.{TransactionId}
use Rattle.cfdp_header.specs.Files.{FileMap}
use Rattle.cfdp_header.specs.Ids.{same_id}
use Rattle.cfdp_directives.specs.declared.user.indication.Indication.{Indication}
use Rattle.cfdp_directives.specs.User.Completions.{FinishedOnce, IsToldComplete, completions}
use Rattle.cfdp_directives.specs.User.Put.{Put, inbox_after}
use Rattle.cfdp_station.specs.declared.config.StationConfig.{StationConfig}
use Rattle.any_order.specs.Calls.{End, Pair, Setup, Side, at, entity_of, lives, other, setup_of}
use Rattle.any_order.specs.Kept.{IsOf}
use Rattle.any_order.specs.Promise.{CausedAt, HasSent, ToldAt, TruthAt, found}
use Rattle.cfdp_port.specs.Port.{table_of}
use Rattle.cfdp_service.specs.Calls.{UserCall}
use Rattle.cfdp_service.specs.Clerk.{IsAccepted}
use Rattle.promises.specs.Serving.{InboxLife, Served, Stations, inboxes, kept_sending, served_at}

-- its entity
abbrev pub own_of : Served → ℕ
own_of s = s.kept.station.entity.state.config.entity

-- all that it indicated to its user, in all its lives, and the transactions that it completed
abbrev pub told_by : Served → List Indication
told_by s = s.kept.told_before ++ (table_of s.kept.station).told

abbrev pub completed_by : Served → List TransactionId
completed_by s = completions (own_of s) (told_by s)

-- the files of its inbox
abbrev pub inbox_of : Served → FileMap
inbox_of s = (table_of s.kept.station).files

-- ---- an inbox, life by life
-- What an inbox has, or had as a life of it ended, is what it had as this life began, overwritten
-- by the files of the puts that its station, the entity `own`, indicated complete in this life, in
-- that order.
abbrev pub IsFolded : (own : ℕ) → List Put → InboxLife → Type 0
IsFolded own puts l = l.files ≡ inbox_after (found puts) l.begun (completions own l.told)

-- The first of these lives began with these files, and each other one with those that the inbox had
-- as the one before ended.
abbrev pub FollowEachOther : FileMap → List InboxLife → Type 0
FollowEachOther first [] = ⊤
FollowEachOther first (l ∷ ls) = (l.begun ≡ first) × FollowEachOther l.files ls

-- ---- the promise
-- A history that can be one of a station that is set up so, beside that of the other one: in each
-- of its lives its frames are made of the PDUs that it put on the link, one after another; what
-- came to it in this life are frames that the other station made, or octets from which no packet
-- can come; what was heard in this life came up of these; and what was heard before, the other
-- station has put on the link.
pub record CanBe (c t : StationConfig) (mine theirs : End) : Type 0 where
  pub each : (k : ℕ) → k < length (lives mine) → IsLife c.sends c.capacity (life_at (lives mine) k)
  pub sends : DoesAll mine.sent (both_counted_from mine.first (first_down c.sends c.capacity))
      mine.station.down
  pub coming : AreComingOf t.sends (lives theirs) mine.came
  pub heard : ReceivesAll (map (octets_coming (lives theirs)) mine.came) (first_up t.sends)
      mine.station.up [] mine.heard
  pub heard_before : (pdu : List ℕ) → Contains mine.heard_before pdu → HasSent theirs pdu

-- The promise holds of both stations and of all that was done with them. There are histories of
-- both, with what their files to send have, that can be and that this is kept of; there in one life
-- no transaction was finished twice, each put that was completed was heard in full, if a sender
-- indicated its put complete, so it is, and what was said of a file is true. In each of its lives
-- an inbox is what it was as the life began, overwritten by the files of the puts that its station
-- completed. So if each life began with what the one before ended with, it is the first one,
-- overwritten by the files of the puts that its station completed, over all its lives, in that
-- order.
pub record KeepPromise (c : Setup) (files : Side → FileMap) (w : Stations) : Type 0 where
  pub now : Pair
  pub is : (s : Side) → IsOf (kept_sending (served_at s w).has (served_at s w).kept) (at s now)
  pub puts : now.puts ≡ w.puts
  pub can_be : (s : Side) → CanBe (setup_of s c) (setup_of (other s) c) (at s now)
      (at (other s) now)
  pub once : (s : Side) → FinishedOnce (entity_of (at s now)).table.told
  pub caused : (s : Side) → CausedAt s now
  pub told : (s : Side) → ToldAt s now
  pub truth : (s : Side) → TruthAt s now
  pub folded : (s : Side) (l : InboxLife) → Contains (inboxes (served_at s w)) l
      → IsFolded (own_of (served_at s w)) w.puts l
  pub inbox : (s : Side) → FollowEachOther (files s) (inboxes (served_at s w))
      → inbox_of (served_at s w)
      ≡ inbox_after (found w.puts) (files s) (completed_by (served_at s w))

-- ---- a file that was sent
-- A put of a file under its own name was accepted at a station, which indicated it complete.
pub record IsSent (s : Side) (name : List ℕ) (put : Put) (w : Stations) : Type 0 where
  pub is_put : found w.puts put.id ≡ Some put
  pub source : put.source ≡ name
  pub destination : put.destination ≡ name
  pub told : IsToldComplete (own_of (served_at s w)) (told_by (served_at s w)) put.id

-- In one of its lives a station completed a put; and under the put's name its inbox has the file of
-- that put, or of one that was completed later in this life under the same name, or had it as this
-- life ended.
pub record Lies (s : Side) (put : Put) (w : Stations) : Type 0 where
  pub life : InboxLife
  pub one_of : Contains (inboxes (served_at s w)) life
  pub before : List TransactionId
  pub behind : List TransactionId
  pub is : completions (own_of (served_at s w)) life.told ≡ before ++ put.id ∷ behind
  pub last : Put
  pub among : Contains (put.id ∷ behind) last.id
  pub is_put : found w.puts last.id ≡ Some last
  pub name : last.destination ≡ put.destination
  pub file : get life.files put.destination ≡ Some last.octets

-- Files of these names were sent from this side, by these calls of its user, and lie at the other
-- side: there is a put of each, in this order, which was wished and accepted by these calls; and no
-- two of these puts are of one transaction.
pub record AreDelivered (s : Side) (calls : List UserCall) (names : List (List ℕ)) (w : Stations)
    : Type 0 where
  pub puts : List Put
  pub named : map (λ put. put.source) puts ≡ names
  pub apart : (id : TransactionId) → count_by (λ put. same_id put.id id) puts ≤ 1
  pub accepted : (put : Put) → Contains puts put → IsAccepted calls put.source put.id
  pub sent : (put : Put) → Contains puts put → IsSent s put.source put w
  pub lie : (put : Put) → Contains puts put → Lies (other s) put w
