-- How a put or a PDU opens a record.
use Rattle.std.proofs.Common.{◌≡◌, ℕ, Bool, true, ◌++◌, ◌∷◌, [], Some, refl, sym, ap, subst, ◌∙◌}
use Rattle.std.specs.Prelude.{unwrap_or}
use Rattle.std.specs.FinMap.{empty}
use Rattle.std.specs.FinSet as set
use Rattle.std.proofs.lemmas.List.{append-nil}
use Rattle.cfdp_header.specs.declared.value.TransactionId.{TransactionId}
use Rattle.cfdp_header.specs.Files.{FileMap}
use Rattle.cfdp_directives.specs.declared.pdu.addressing.Addressing.{Addressing}
use Rattle.cfdp_directives.specs.declared.user.indication.Indication.TheVariants as indication
use Rattle.cfdp_directives.specs.Pdu.Content.{Content}
use Rattle.cfdp_store.specs.declared.stored.Stored.{Stored}
use Rattle.cfdp_store.specs.declared.stored.Stored.TheVariants.{Done, Refused}
use Rattle.cfdp_store.specs.Staged.{OthersKeep, staged_for}
use Rattle.cfdp_timers.specs.Armed.{TimersState}
use Rattle.cfdp_timers.specs.declared.effects.Effects.{Effects}
use Rattle.cfdp_timers.proofs.CallerLemmas.{has_room-kept}
use Rattle.cfdp_sender.specs.Does.{HasFile, HasOwnFile}
use Rattle.cfdp_sender.specs.State.{SenderState, opened_sender}
use Rattle.cfdp_sender.specs.declared.transfer.Transfer.{Transfer}
use Rattle.cfdp_receiver.specs.Does as receiver_does
use Rattle.cfdp_receiver.specs.Does.{Scene, with_room}
use Rattle.cfdp_receiver.specs.State.{ReceiverState, IsReady, opened_receiver}
use Rattle.cfdp_receiver.specs.Steps.{opened_closed}
use Rattle.cfdp_receiver.specs.Steps as receiver
use Rattle.cfdp_entity.specs.declared.record.Record.TheVariants as held
use Rattle.cfdp_entity.specs.Desk.{Staged, DeskState, scene}
use Rattle.cfdp_entity.specs.Does.{Does, Opens, ReceiverDoes, found, with_room_of}
use Rattle.cfdp_entity.specs.Opening.{closing, begins, opens, opens_by, puts}
use Rattle.cfdp_entity.specs.Seen.{Seen, seen, octets_seen}
use Rattle.cfdp_entity.specs.Seen as seens
use Rattle.cfdp_entity.specs.Steps.{After, receiver_after, hears, with_waits}
use Rattle.cfdp_entity.proofs.Entries.{sender-ready, receiver-ready}
use Rattle.cfdp_entity.proofs.Records.{receiver-hears, seen-after}

-- timers with room for one transaction more still have room for the others
pub roomier-by : (old now : TimersState) (id : TransactionId) → now.roomy ≡ set.insert old.roomy id → (k : TransactionId) → set.contains old.roomy k ≡ true → set.contains now.roomy k ≡ true
roomier-by old now id made k h = ap (λ s. set.contains s k) made ∙ has_room-kept old.roomy id k h

-- timers of which only the room changed
pub roomed : (old new : TimersState) (id : TransactionId) → new ≡ record old { roomy = set.insert old.roomy id } → new ≡ record old { roomy = new.roomy }
roomed old new id made = made ∙ (λ i. record old { roomy = ap (λ (t : TimersState). t.roomy) (sym made) i })

-- what other transactions keep over two calls
pub others-chain : (id k : TransactionId) → k ≡ id → (old mid new : Staged) → OthersKeep id old mid → OthersKeep k mid new → OthersKeep id old new
others-chain id k same old mid new first second other apart = second other (λ e. apart (e ∙ same)) ∙ first other apart

-- what a branch left, by what it is there
pub as-left : (P : Stored → Stored → ReceiverState → DeskState → Type 0) {b c s t : Stored} {r q : ReceiverState} {d e : DeskState} → b ≡ c → s ≡ t → r ≡ q → d ≡ e → P c t q e → P b s r d
as-left P {b} {c} {s} {t} {r} {q} {d} {e} begun stored receiver desk h =
    subst (λ x. P x s r d) (sym begun) (subst (λ x. P c x r d) (sym stored) (subst (λ x. P c t x d) (sym receiver) (subst (P c t q) (sym desk) h)))

-- a put
pub opens-put : (t : Transfer) (x : SenderState) (old new : DeskState) → x ≡ opened_sender t → new.effects.told.items ≡ old.effects.told.items ++ indication.Transaction t.addressing.id ∷ []
    → new.effects.timers ≡ record old.effects.timers { roomy = set.insert old.effects.timers.roomy t.addressing.id } → new.files ≡ old.files → HasFile new.sources t.source t.size
    → set.contains new.effects.timers.roomy t.addressing.id ≡ true → Opens t.addressing.id (puts old.files t) (held.Sends x) old new
opens-put t x old new is tells timers files file room = record {
  does = record { state = ap seens.Sends is; tells = tells; timers = roomed old.effects.timers new.effects.timers t.addressing.id timers; files = files };
  ready = sender-ready new.staged new.sources t.addressing.id x (ap (λ (y : SenderState). y.addressing.id) is)
      (subst (λ (y : SenderState). HasOwnFile new.sources y) (sym is) file);
  has_room = room;
}

-- an EOF with an error
pub opens-closed : (a : Addressing) (large : Bool) (condition : ℕ) (v : Content) (r : ReceiverState) (old new : DeskState) → r ≡ opened_closed large condition a → Some condition ≡ closing v
    → new.effects ≡ with_room a.id old.effects → new.files ≡ old.files → set.contains new.effects.timers.roomy a.id ≡ true
    → Opens a.id (opens Done Done old.policy.times old.files large v a) (held.Receives r) old new
opens-closed a large condition v r old new is closes effects files room =
    subst (λ o. Opens a.id (opens_by o Done Done old.policy.times old.files large v a) (held.Receives r) old new) closes
    (record {
      does = record {
        state = ap (λ (x : ReceiverState). seens.Receives x (octets_seen x (staged_for new.staged a.id))) is;
        tells = ap (λ (e : Effects). e.told.items) effects ∙ sym (append-nil old.effects.told.items);
        timers = roomed old.effects.timers new.effects.timers a.id (ap (λ (e : Effects). e.timers) effects);
        files = files;
      };
      ready = receiver-ready new.staged new.sources a.id r (ap (λ (x : ReceiverState). x.addressing.id) is)
          (subst (IsReady new.staged) (sym is) (record { begun = λ h. absurd cc; backed = λ h n g. absurd cc }));
      has_room = room;
    })

-- ---- a PDU, which the inbox was asked to begin for
module _ (a : Addressing) (large : Bool) (v : Content) (r : ReceiverState) (old : DeskState) where
  -- the receiver before, whose timers have room
  abbrev pub first : Scene
  first = record (scene (opened_receiver a) old) { timers = (with_room a.id old.effects).timers }

  -- the inbox refused
  pub opens-refused : (stored : Stored) (new : DeskState) → receiver_does.Does receiver_does.timers_kept Refused (λ m files s. receiver.opens Refused large files a) first (scene r new)
      → r.addressing ≡ a → IsReady new.staged r → set.contains new.effects.timers.roomy a.id ≡ true → Opens a.id (begins Refused stored old.policy.times old.files large v a) (held.Receives r) old new
  opens-refused stored new does addr ready room = record {
    does = record {
      state = seen-after (receiver.opens Refused large old.files a) r a.id new.staged does.receiver (ap (λ (k : Addressing). k.id) addr) does.octets;
      tells = does.tells;
      timers = roomed old.effects.timers new.effects.timers a.id does.timers;
      files = does.files;
    };
    ready = receiver-ready new.staged new.sources a.id r (ap (λ (k : Addressing). k.id) addr) ready;
    has_room = room;
  }

  -- it began the transaction, and the receiver heard the PDU
  module _ (staged : Staged) (files : FileMap) (effects : Effects) (failures : ℕ) where
    abbrev pub mid : DeskState
    mid = record old { staged = staged; files = files; effects = effects; inbox_failures = failures }

    pub opens-begun : (stored : Stored) (s : ReceiverState) (new : DeskState) → receiver_does.Does receiver_does.timers_kept Done (λ m files s. receiver.opens Done large files a) first (scene r mid)
        → ReceiverDoes old.policy.times stored (found (receiver_after stored large v) (scene r mid)) (scene r mid) (scene s new)
        → s.addressing ≡ r.addressing → IsReady new.staged s → set.contains effects.timers.roomy a.id ≡ true → Opens a.id (begins Done stored old.policy.times old.files large v a)
        (held.Receives s) old new
    opens-begun stored s new begun heard addr ready room =
        let r0 : ReceiverState = opened_receiver a in
        let id_is : r.addressing.id ≡ a.id = ap (λ (x : ReceiverState). x.addressing.id) begun.receiver in
        let start : seens.Receives r (octets_seen r (staged_for staged r.addressing.id)) ≡ seens.Receives r0 empty =
        ap (λ x. seens.Receives x (octets_seen x (staged_for staged x.addressing.id))) begun.receiver ∙ ap (λ o. seens.Receives r0 (unwrap_or o empty)) (begun.octets refl) in
        let after : After = hears stored old.policy.times old.files large v (seens.Receives r0 empty) in
        let made : Does a.id after (seen (new.staged a.id) (held.Receives s)) mid new =
        subst (λ k. Does k after (seen (new.staged k) (held.Receives s)) mid new) id_is
        (subst (λ f. Does r.addressing.id (hears stored old.policy.times f large v (seens.Receives r0 empty)) (seen (new.staged r.addressing.id) (held.Receives s)) mid new) begun.files
        (subst (λ (k : Seen). Does r.addressing.id (hears stored old.policy.times files large v k) (seen (new.staged r.addressing.id) (held.Receives s)) mid new) start
        (receiver-hears r s mid new addr stored large v heard))) in
        let roomy : new.effects.timers.roomy ≡ effects.timers.roomy = ap (λ (t : TimersState). t.roomy) made.timers in
        let base : effects.timers ≡ (with_room_of new old).effects.timers =
        begun.timers ∙ (λ i. record old.effects.timers { roomy = (sym (ap (λ (t : TimersState). t.roomy) begun.timers) ∙ sym roomy) i }) in
        record {
          does = record {
            state = made.state;
            tells = made.tells ∙ ap (λ l. l ++ after.told) (begun.tells ∙ append-nil old.effects.told.items);
            timers = made.timers ∙ (λ i. record (base i) { armed = with_waits (base i).time a.id after.waits (base i).armed });
            files = made.files;
          };
          ready = receiver-ready new.staged new.sources a.id s (ap (λ (k : Addressing). k.id) addr ∙ id_is) ready;
          has_room = subst (λ k. set.contains k a.id ≡ true) (sym roomy) room;
        }
