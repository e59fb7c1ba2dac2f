-- A short outage, after which the next two expiries get through.
use Rattle.std.proofs.Common.{◌≡◌, ◌≢◌, ℕ, ◌+◌, ◌<◌, ◌≤◌, List, Option, Some, None, arith}
use Rattle.cfdp_header.specs.declared.value.TransactionId.{TransactionId}
use Rattle.cfdp_directives.specs.declared.user.limits.Limits.{Limits}
use Rattle.cfdp_timers.specs.declared.kind.Kind.{Kind}
use Rattle.cfdp_timers.specs.declared.kind.Kind.TheVariants.{EofAck, Nak, FinishedAck, Inactivity}
use Rattle.cfdp_entity.specs.Seen.{Seen, Sends, Receives}
use Rattle.cfdp_entity.specs.Table.{record_of}
use Rattle.station_pair.specs.declared.side.Side.{Side}
use Rattle.link_sim.specs.Waiting.{IsCompleted, IsWaiting, policy_at}
use Rattle.link_sim.specs.World.State.{WorldState, entity_at}
use Rattle.link_sim.proofs.Clean.Settles.{CleanLaws}
use Rattle.outages.specs.Lasting.{IsShort}
use Rattle.outages.specs.Outage.{AreOfOutage, Happening}
use Rattle.outages.specs.Spared.{GetsThrough}
use Rattle.outages.specs.Tries.{AreCalm, HasTriesIn, MayTry, NoneExpires, expiries}
use Rattle.outages.proofs.Completing.{completes}
use Rattle.outages.proofs.Lasting.{lasting}
use Rattle.outages.proofs.Tracking.{IsReached}

-- after fewer expiries there are as many tries
fewer-tries : (limits : Limits) (n m : Kind → ℕ) → ((k : Kind) → k ≢ Inactivity → m k ≤ n k) → (q : Option Seen) → HasTriesIn limits n q → HasTriesIn limits m q
fewer-tries limits n m less None h =
    let naks : m Nak ≤ n Nak = less Nak (λ e. cc) in
    let finisheds : m FinishedAck ≤ n FinishedAck = less FinishedAck (λ e. cc) in
    let a : n Nak < limits.nak = h.0 in
    let b : n FinishedAck < limits.finished = h.1 in
    (omega (arith, naks, a), omega (arith, finisheds, b))
fewer-tries limits n m less (Some (Sends x)) h = λ open_. (
    let eofs : m EofAck ≤ n EofAck = less EofAck (λ e. cc) in
    let a : x.count + n EofAck < limits.eof = h open_ in
    omega (arith, eofs, a))
fewer-tries limits n m less (Some (Receives r o)) h = λ open_. (
    let naks : m Nak ≤ n Nak = less Nak (λ e. cc) in
    let finisheds : m FinishedAck ≤ n FinishedAck = less FinishedAck (λ e. cc) in
    let a : r.nak_count + n Nak < limits.nak = (h open_).0 in
    let b : r.finished_count + n FinishedAck < limits.finished = (h open_).1 in
    (omega (arith, naks, a), omega (arith, finisheds, b)))

module _ (all : CleanLaws) (w a b c d : WorldState) (before between : List Happening) (r : IsReached w) (id : TransactionId) where
  pub completes-in-time : IsWaiting id w → AreOfOutage id before w a → AreCalm id w before → IsShort id w a → GetsThrough id a b → AreOfOutage id between b c → AreCalm id b between →
      NoneExpires id b between → GetsThrough id c d
      → IsCompleted id d
  completes-in-time waits are calm short g are1 calm1 none g1 =
      let may : MayTry id (expiries id w before) w = lasting id before w a r are short in
      let less : (s : Side) (k : Kind) → k ≢ Inactivity → expiries id w before s k + expiries id b between s k ≤ expiries id w before s k = λ s k apart. (
      let zero_is : expiries id b between s k ≡ 0 = none s k apart in
      omega (arith, zero_is)) in
      completes all w a b c d before between r id waits are calm g are1 calm1 g1
      (λ s. fewer-tries (policy_at s w).limits (expiries id w before s) (λ k. expiries id w before s k + expiries id b between s k) (less s) (record_of id (entity_at s w).table.records) (may s))
