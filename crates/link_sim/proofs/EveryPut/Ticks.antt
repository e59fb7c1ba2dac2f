-- A put stays on its course if timers of one of the two entities expire.
use Rattle.std.proofs.Common.{◌≡◌, ℕ, Bool, true, false, if◌then◌else◌, List, [], ◌∷◌, append-nil, take, Option, Some, None, refl, sym, ap, ap₂, subst, ◌∙◌}
use Rattle.std.specs.List.{IsDistinct}
use Rattle.std.specs.Prelude.{slice_get}
use Rattle.cfdp_header.specs.Files.{FileMap}
use Rattle.cfdp_header.specs.declared.value.TransactionId.{TransactionId}
use Rattle.cfdp_header.specs.Ids.{same_id}
use Rattle.cfdp_directives.specs.declared.pdu.addressing.Addressing.{Addressing}
use Rattle.cfdp_directives.specs.declared.user.handler.Handler.{Handler}
use Rattle.cfdp_directives.specs.declared.user.handler.Handler.TheVariants as handlers
use Rattle.cfdp_directives.specs.declared.user.policy.Policy.{Policy}
use Rattle.cfdp_directives.specs.User.Policy.{another_try}
use Rattle.cfdp_directives.specs.User.Put.{Put}
use Rattle.cfdp_store.specs.Files.{octets_in}
use Rattle.cfdp_store.specs.Staged.{OctetMap}
use Rattle.cfdp_timers.specs.declared.kind.Kind.{Kind}
use Rattle.cfdp_timers.specs.declared.kind.Kind.TheVariants as kinds
use Rattle.cfdp_timers.specs.Order.{Timer}
use Rattle.cfdp_sender.specs.declared.phase.SenderPhase.{SenderPhase}
use Rattle.cfdp_sender.specs.declared.phase.SenderPhase.TheVariants as sending
use Rattle.cfdp_sender.specs.declared.transfer.Transfer.{Transfer}
use Rattle.cfdp_sender.specs.Inputs as inputs
use Rattle.cfdp_sender.specs.Inputs.{IsSenderOf}
use Rattle.cfdp_sender.specs.State.{SenderState, transfer_of}
use Rattle.cfdp_sender.specs.Steps as sender
use Rattle.cfdp_sender.proofs.InFile.{step-in}
use Rattle.cfdp_sender.proofs.KeepsPut.{step-same}
use Rattle.cfdp_receiver.specs.State.{ReceiverState}
use Rattle.cfdp_receiver.specs.Steps as receiver
use Rattle.cfdp_receiver.specs.Steps.{ReceiverAfter}
use Rattle.cfdp_entity.specs.Entity.{EntityState, with_table}
use Rattle.cfdp_entity.specs.Seen.{Seen, Sends, Receives}
use Rattle.cfdp_entity.specs.Sending.{SendsPut}
use Rattle.cfdp_entity.specs.Steps.{expires}
use Rattle.cfdp_entity.specs.Table.{Entry, TableState, place_of, record_of, step_of, step_at, at_time, expired_in, expired, all_expired, Ticks}
use Rattle.cfdp_entity.specs.Table as Table
use Rattle.cfdp_entity.proofs.Entries.{keys_set}
use Rattle.cfdp_entity.proofs.Tellings.{holds-set}
use Rattle.link_sim.specs.Between.{Pdu, StaysOnCourse}
use Rattle.link_sim.proofs.Course.Laws.{CourseLaws}
use Rattle.link_sim.proofs.EveryPut.Views.{grew-none}
use Rattle.link_sim.proofs.EveryPut.Goes.{stays-same}
use Rattle.link_sim.proofs.EveryPut.Sends.{sender-expires}
use Rattle.link_sim.proofs.EveryPut.Receives.{receiver-expires}
use Rattle.link_sim.proofs.EveryPut.Steps.{IsOwn, IsInOrder, mine-at, theirs-at}

-- ---- an expiry leaves whose a record is
-- the front of the file that was sent, and what is kept of it for its checksum
abbrev SameFront : SenderState → SenderState → Type 0
SameFront x y = (y.sent ≡ x.sent) × (y.sums ≡ x.sums)

handled-front : (h : Handler) (condition : ℕ) (ignored x : SenderState) → SameFront x ignored → SameFront x (sender.handled h condition ignored x)
handled-front handlers.Cancel condition ignored x is = (refl, refl)
handled-front handlers.Suspend condition ignored x is = (refl, refl)
handled-front handlers.Ignore condition ignored x is = is
handled-front handlers.Abandon condition ignored x is = (refl, refl)

unacknowledged-front : (p : SenderPhase) (h : Handler) (x : SenderState) → SameFront x (sender.unacknowledged_in p h x).sender
unacknowledged-front sending.Sending h x = handled-front h _ _ x (refl, refl)
unacknowledged-front sending.Cancelling h x = (refl, refl)
unacknowledged-front sending.Closed h x = (refl, refl)

again-front : (o : Option ℕ) (h : Handler) (x : SenderState) → SameFront x (sender.sends_again o h x).sender
again-front (Some count) h x = (refl, refl)
again-front None h x = unacknowledged-front x.phase h x

fires-front : (k : Kind) (policy : Policy) (x : SenderState) → SameFront x (sender.expires k policy x).sender
fires-front kinds.EofAck policy x = again-front (another_try x.count policy.limits.eof) policy.handlers.ack x
fires-front kinds.Inactivity policy x = handled-front policy.handlers.inactivity _ _ x (refl, refl)
fires-front kinds.Nak policy x = (refl, refl)
fires-front kinds.FinishedAck policy x = (refl, refl)

expires-front : (k : Kind) (policy : Policy) (x : SenderState) → SameFront x (sender.sender_expires k policy x).sender
expires-front k policy x = by (sender.sender_waits k x)
  where
    by : (b : Bool) → SameFront x (if b then sender.expires k policy x else sender.quiet x).sender
    by true = fires-front k policy x
    by false = (refl, refl)

expires-put : (put_of : TransactionId → Option Put) (sources : FileMap) (id : TransactionId) (k : Kind) (policy : Policy) (x : SenderState) → SendsPut put_of sources id x →
    SendsPut put_of sources id (sender.sender_expires k policy x).sender
expires-put put_of sources id k policy x s =
    let y : SenderState = (sender.sender_expires k policy x).sender in
    let same : transfer_of y ≡ transfer_of x = step-same policy [] (inputs.Expires k) x in
    let front = expires-front k policy x in
    let i : IsSenderOf s.put x = s.sender in
    record {
      put = s.put;
      is_put = s.is_put;
      sender = record {
        id = ap (λ (t : Transfer). t.addressing.id) same ∙ i.id;
        source = ap (λ (t : Transfer). t.source) same ∙ i.source;
        destination = ap (λ (t : Transfer). t.destination) same ∙ i.destination;
        kind = ap (λ (t : Transfer). t.checksum_kind) same ∙ i.kind;
        size = ap (λ (t : Transfer). t.size) same ∙ i.size;
        front = front.1 ∙ i.front ∙ ap₂ (λ kind n. inputs.front_sums kind (take n s.put.octets)) (sym (ap (λ (t : Transfer). t.checksum_kind) same)) (sym front.0);
      };
      in_file = step-in policy [] (inputs.Expires k) x s.in_file tt;
      octets = s.octets ∙ ap (octets_in sources) (sym (ap (λ (t : Transfer). t.source) same));
    }

-- of a receiver
handled-same : (h : Handler) (condition : ℕ) (m : OctetMap) (files : FileMap) (r : ReceiverState) → (receiver.handled h condition m files r).receiver.addressing ≡ r.addressing
handled-same handlers.Cancel condition m files r = refl
handled-same handlers.Suspend condition m files r = refl
handled-same handlers.Ignore condition m files r = refl
handled-same handlers.Abandon condition m files r = refl

asking-same : (h : Handler) (a : ReceiverAfter) → (receiver.asking_again h a).receiver.addressing ≡ a.receiver.addressing
asking-same handlers.Cancel a = refl
asking-same handlers.Suspend a = refl
asking-same handlers.Ignore a = refl
asking-same handlers.Abandon a = refl

fires-same : (k : Kind) (policy : Policy) (m : OctetMap) (files : FileMap) (r : ReceiverState) → (receiver.expires_by k policy m files r).receiver.addressing ≡ r.addressing
fires-same kinds.Nak policy m files r = by (another_try r.nak_count policy.limits.nak)
  where
    by : (o : Option ℕ) → (receiver.nak_expires o policy.handlers.nak m files r).receiver.addressing ≡ r.addressing
    by (Some count) = refl
    by None = asking-same policy.handlers.nak (receiver.handled policy.handlers.nak _ m files r) ∙ handled-same policy.handlers.nak _ m files r
fires-same kinds.FinishedAck policy m files r = by (another_try r.finished_count policy.limits.finished)
  where
    by : (o : Option ℕ) → (receiver.finished_expires o m files r).receiver.addressing ≡ r.addressing
    by (Some count) = refl
    by None = refl
fires-same kinds.Inactivity policy m files r = handled-same policy.handlers.inactivity _ m files r
fires-same kinds.EofAck policy m files r = refl

expires-same : (k : Kind) (policy : Policy) (m : OctetMap) (files : FileMap) (r : ReceiverState) → (receiver.expires k policy m files r).receiver.addressing ≡ r.addressing
expires-same k policy m files r = by (receiver.waits k r)
  where
    by : (b : Bool) → (if b then record (receiver.tidying (receiver.expires_by k policy m files r)) { anew = receiver.anew_once_expired k } else receiver.leaving m files r).receiver.addressing
        ≡ r.addressing
    by true = fires-same k policy m files r
    by false = refl

module _ (put_of : TransactionId → Option Put) where
  own-expires : (sources : FileMap) (policy : Policy) (files : FileMap) (k : Kind) (id : TransactionId) (s : Seen) → IsOwn put_of sources (id, s) →
      IsOwn put_of sources (id, (expires policy files k s).seen)
  own-expires sources policy files k id (Sends x) own = (ap (λ (t : Transfer). t.addressing.id) (step-same policy [] (inputs.Expires k) x) ∙ own.0, expires-put put_of sources id k policy x own.1)
  own-expires sources policy files k id (Receives r m) own = (ap (λ (a : Addressing). a.id) (expires-same k policy m files r) ∙ own.0, tt)

  order-of : (k : Kind) (place : ℕ) (st : TableState) (o : Option Entry) → slice_get st.records place ≡ o → IsInOrder put_of st →
      IsInOrder put_of (step_of (λ e. expires st.policy st.files k e.1) place o st)
  order-of k place st None at order = order
  order-of k place st (Some e) at order = record {
    distinct = subst (IsDistinct same_id) (sym (keys_set st.records place (expires st.policy st.files k e.1).seen)) order.distinct;
    own = holds-set (IsOwn put_of st.sources) st.records place e (expires st.policy st.files k e.1).seen at (own-expires st.sources st.policy st.files k e.0 e.1 (order.own place e at)) order.own;
  }

  order-expired : (place : Option ℕ) (k : Kind) (st : TableState) → IsInOrder put_of st → IsInOrder put_of (expired_in place k st)
  order-expired None k st order = order
  order-expired (Some place) k st order = order-of k place st (slice_get st.records place) refl order

  order-time : (now : ℕ) (st : TableState) → IsInOrder put_of st → IsInOrder put_of (at_time now st)
  order-time now st order = record { distinct = order.distinct; own = order.own }

-- ---- timers that fired, one after another
module _ (laws : CourseLaws) (lossless : Bool) (put : Put) (put_of : TransactionId → Option Put) (found : put_of put.id ≡ Some put) (mine theirs : EntityState) (forth back : List Pdu) where
  -- of the put's entity
  one-mine : (o : Option ℕ) (k : Kind) (st : TableState) → IsInOrder put_of st → StaysOnCourse lossless put (with_table mine st) theirs forth back →
      StaysOnCourse lossless put (with_table mine (expired_in o k st)) theirs forth back
  one-mine None k st order s = s
  one-mine (Some place) k st order s = mine-at laws lossless put put_of found (expires st.policy st.files k) place forth forth back back (with_table mine st)
      (with_table mine (expired_in (Some place) k st)) theirs order refl (λ h. h)
      (λ _. (refl, refl)) (λ _ _ _. (refl, refl)) (λ x i _. sender-expires laws lossless put x i.is_sender i.in_file st.policy st.files k _ _) s

  fired-mine : (timers : List Timer) (st : TableState) → IsInOrder put_of st → StaysOnCourse lossless put (with_table mine st) theirs forth back →
      StaysOnCourse lossless put (with_table mine (all_expired timers st)) theirs forth back
  unfolding Table.all_expired
  fired-mine [] st order s = s
  fired-mine (timer ∷ timers) st order s = fired-mine timers (expired timer st) (order-expired put_of (place_of timer.0 st.records) timer.1 st order)
      (one-mine (place_of timer.0 st.records) timer.1 st order s)

  pub ticks-mine : (now : ℕ) (mine1 : EntityState) → IsInOrder put_of mine.table → Ticks now mine.table mine1.table → mine1 ≡ with_table mine mine1.table →
      StaysOnCourse lossless put mine theirs forth back → StaysOnCourse lossless put mine1 theirs forth back
  ticks-mine now mine1 order t is s =
      let told : StaysOnCourse lossless put (with_table mine (at_time now mine.table)) theirs forth back =
      stays-same laws lossless put mine (with_table mine (at_time now mine.table)) theirs theirs [] [] (record { told = sym (append-nil mine.table.told); drops = λ h. h })
      (grew-none theirs) forth forth back back refl refl refl refl s in
      subst (λ e. StaysOnCourse lossless put e theirs forth back) (sym (is ∙ ap (with_table mine) t.ticked)) (fired-mine t.fired (at_time now mine.table) (order-time put_of now mine.table order) told)

  -- of the other one
  module _ (order_mine : IsInOrder put_of mine.table) where
    one-theirs : (o : Option ℕ) (k : Kind) (st : TableState) → IsInOrder put_of st → StaysOnCourse lossless put mine (with_table theirs st) forth back →
        StaysOnCourse lossless put mine (with_table theirs (expired_in o k st)) forth back
    one-theirs None k st order s = s
    one-theirs (Some place) k st order s = theirs-at laws lossless put put_of found (expires st.policy st.files k) place forth forth back back mine (with_table theirs st)
        (with_table theirs (expired_in (Some place) k st)) order_mine order refl (λ h. h)
        (λ _. (refl, refl)) (λ _ _ _. (refl, refl)) (λ x r m size is_id _. receiver-expires laws lossless put x size r m is_id st.policy st.files k _ _) s

    fired-theirs : (timers : List Timer) (st : TableState) → IsInOrder put_of st → StaysOnCourse lossless put mine (with_table theirs st) forth back →
        StaysOnCourse lossless put mine (with_table theirs (all_expired timers st)) forth back
    unfolding Table.all_expired
    fired-theirs [] st order s = s
    fired-theirs (timer ∷ timers) st order s = fired-theirs timers (expired timer st) (order-expired put_of (place_of timer.0 st.records) timer.1 st order)
        (one-theirs (place_of timer.0 st.records) timer.1 st order s)

    pub ticks-theirs : (now : ℕ) (theirs1 : EntityState) → IsInOrder put_of theirs.table → Ticks now theirs.table theirs1.table → theirs1 ≡ with_table theirs theirs1.table →
        StaysOnCourse lossless put mine theirs forth back → StaysOnCourse lossless put mine theirs1 forth back
    ticks-theirs now theirs1 order t is s =
        let told : StaysOnCourse lossless put mine (with_table theirs (at_time now theirs.table)) forth back =
        stays-same laws lossless put mine mine theirs (with_table theirs (at_time now theirs.table)) [] [] (grew-none mine)
        (record { told = sym (append-nil theirs.table.told); drops = λ h. h }) forth forth back back refl refl refl refl s in
        subst (λ e. StaysOnCourse lossless put mine e forth back) (sym (is ∙ ap (with_table theirs) t.ticked))
        (fired-theirs t.fired (at_time now theirs.table) (order-time put_of now theirs.table order) told)
