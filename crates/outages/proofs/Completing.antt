-- A transaction is complete if twice nothing of it was lost after an expiry.
use Rattle.std.proofs.Common.{◌≡◌, inl, inr, ℕ, suc, ◌+◌, true, false, List, subst, arith}
use Rattle.std.proofs.lemmas.Bool.{both_ways}
use Rattle.cfdp_header.specs.declared.value.TransactionId.{TransactionId}
use Rattle.cfdp_directives.specs.User.Put.{Put}
use Rattle.cfdp_timers.specs.declared.kind.Kind.{Kind}
use Rattle.cfdp_timers.specs.declared.kind.Kind.TheVariants.{EofAck, Nak, FinishedAck}
use Rattle.station_pair.specs.declared.side.Side.{Side}
use Rattle.station_pair.specs.Stations.{other}
use Rattle.link_sim.specs.Exchange.{is_closed, maybe}
use Rattle.link_sim.specs.Found.{IsPutOf}
use Rattle.link_sim.specs.Runs.{Exchange}
use Rattle.link_sim.specs.Stages.{is_answered}
use Rattle.link_sim.specs.Waiting.{IsCompleted, IsWaiting, policy_at}
use Rattle.link_sim.specs.World.State.{WorldState}
use Rattle.link_sim.proofs.Clean.Settles.{CleanLaws}
use Rattle.link_sim.proofs.Found.Exchanges.{has-exchange}
use Rattle.outages.specs.Outage.{AreOfOutage, Happening}
use Rattle.outages.specs.Spared.{GetsThrough}
use Rattle.outages.specs.Tries.{AreCalm, MayTry, expiries}
use Rattle.outages.proofs.Ends.{IsTracked, completed-by, first-holds, tracked}
use Rattle.outages.proofs.Outlasting.{Outlasts, fewer, limits-so, outlasts}
use Rattle.outages.proofs.Through.{Gains, gains}
use Rattle.outages.proofs.Tracking.{IsReached}

module _ (all : CleanLaws) (w a b c d : WorldState) (before between : List Happening) (r : IsReached w) where
  -- of a put
  through : (s : Side) (put : Put) → IsPutOf s put w → IsWaiting put.id w → AreOfOutage put.id before w a → AreCalm put.id w before → GetsThrough put.id a b → AreOfOutage put.id between b c →
      AreCalm put.id b between → GetsThrough put.id c d
      → MayTry put.id (λ t k. expiries put.id w before t k + expiries put.id b between t k) w → IsCompleted put.id d
  through s put own waits are calm g are1 calm1 g1 may =
      let n : Side → Kind → ℕ = expiries put.id w before in
      let m : Side → Kind → ℕ = expiries put.id b between in
      let x = has-exchange s put w r.sound r.kept.course own in
      let o : Outlasts all false s put (suc (m s EofAck)) (suc (m (other s) Nak)) (suc (m (other s) FinishedAck)) w a x.0 =
      outlasts all false s put before w a r own x.0 x.1 (suc (m s EofAck)) (suc (m (other s) Nak)) (suc (m (other s) FinishedAck)) are calm
      (fewer false (policy_at s w).limits (policy_at (other s) w).limits put (suc (n s EofAck + m s EofAck)) (suc (n (other s) Nak + m (other s) Nak)) (suc (n (other s) FinishedAck + m (other s) FinishedAck))
      (n s EofAck + suc (m s EofAck)) (n (other s) Nak + suc (m (other s) Nak)) (n (other s) FinishedAck + suc (m (other s) FinishedAck)) x.0 (omega arith) (omega arith) (omega arith)
      (first-holds false s put w r own x.0 x.1 waits (λ t k. n t k + m t k) may)) in
      let e0 : Exchange = o.comes.end in
      let first : Gains all s put (m s EofAck) (m (other s) Nak) (m (other s) FinishedAck) a b e0 =
      gains all a b o.reached (m s EofAck) (m (other s) Nak) (m (other s) FinishedAck) put g s o.own e0 o.comes.has
      (limits-so false put (suc (m s EofAck)) (suc (m (other s) Nak)) (suc (m (other s) FinishedAck)) s w a e0 o.policy o.comes.holds) in
      let e1 : Exchange = first.comes.end in
      let holds1 = limits-so false put (suc (m s EofAck)) (suc (m (other s) Nak)) (suc (m (other s) FinishedAck)) s a b e1 first.policy first.comes.holds in
      let o1 : Outlasts all false s put 1 1 1 b c e1 =
      outlasts all false s put between b c first.reached first.own e1 first.comes.has 1 1 1 are1 calm1
      (fewer false (policy_at s b).limits (policy_at (other s) b).limits put (suc (m s EofAck)) (suc (m (other s) Nak)) (suc (m (other s) FinishedAck)) (m s EofAck + 1) (m (other s) Nak + 1) (m (other s) FinishedAck + 1) e1
      (omega arith) (omega arith) (omega arith) holds1) in
      let e2 : Exchange = o1.comes.end in
      let last : Gains all s put 0 0 0 c d e2 =
      gains all c d o1.reached 0 0 0 put g1 s o1.own e2 o1.comes.has (limits-so false put 1 1 1 s b c e2 o1.policy o1.comes.holds) in
      let closed_if : maybe is_closed e1.receiver ≡ true → maybe is_closed last.comes.end.receiver ≡ true = λ t. last.comes.onward.closed (o1.comes.onward.closed t) in
      let closed : maybe is_closed last.comes.end.receiver ≡ true = elim last.gained [
        | inl over ↦ over
        | inr anew ↦ elim first.gained [
          | inl over ↦ closed_if over
          | inr answered ↦ absurd (both_ways (is_answered e2.sender) anew.0 (o1.comes.onward.answered answered.1))
        ]
      ] in
      completed-by false s put d last.reached last.own last.comes.end last.comes.has 1 1 1 (limits-so false put 1 1 1 s c d last.comes.end last.policy last.comes.holds) closed

  pub completes : (id : TransactionId) → IsWaiting id w → AreOfOutage id before w a → AreCalm id w before → GetsThrough id a b → AreOfOutage id between b c → AreCalm id b between → GetsThrough id c d
      → MayTry id (λ t k. expiries id w before t k + expiries id b between t k) w → IsCompleted id d
  completes id waits are calm g are1 calm1 g1 may =
      let t : IsTracked id w = tracked id w r waits.unfinished in
      subst (λ i. IsWaiting i w → AreOfOutage i before w a → AreCalm i w before → GetsThrough i a b → AreOfOutage i between b c → AreCalm i b between → GetsThrough i c d
      → MayTry i (λ t k. expiries i w before t k + expiries i b between t k) w → IsCompleted i d) t.of
      (λ waits are calm g are1 calm1 g1 may. through t.side t.put t.own waits are calm g are1 calm1 g1 may) waits are calm g are1 calm1 g1 may
