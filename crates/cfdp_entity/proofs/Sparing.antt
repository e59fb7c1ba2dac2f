-- Exported: a record that is as it was is one that found no memory.
use Rattle.std.proofs.Common.{◌≡◌, ℕ, zero, suc, List, [], ◌∷◌, slice_get, Option, Some, None, Result, Ok, Err, OnErr, refl, sym, ap, subst, true, false}
use Rattle.std.specs.FinMap as map
use Rattle.std.specs.FinSet as set
use Rattle.indexmap.specs.IndexMap.{set_value_at}
use Rattle.cfdp_directives.specs.Pdu.Content.{Content, FileData, Metadata, Eof, Finished, Ack, Nak, Prompt, KeepAlive}
use Rattle.cfdp_sender.specs.declared.phase.SenderPhase.{SenderPhase}
use Rattle.cfdp_sender.specs.declared.phase.SenderPhase.TheVariants as phases
use Rattle.cfdp_sender.specs.declared.transfer.Transfer.{Transfer}
use Rattle.cfdp_sender.specs.State.{SenderState, opened_sender}
use Rattle.cfdp_sender.specs.Steps.{asks_in}
use Rattle.cfdp_store.specs.Staged.{OctetMap}
use Rattle.cfdp_receiver.specs.State.{ReceiverState}
use Rattle.cfdp_entity.specs.Entity.{own_id}
use Rattle.cfdp_entity.specs.Seen.{Seen, Sends, Receives}
use Rattle.cfdp_entity.specs.Steps.{Spoils}
use Rattle.cfdp_entity.specs.Table.{Entry, TableState, SpoiledAt}

-- a record of which nothing is due
abbrev pub nobody : Transfer
nobody = record {
  addressing = record { id = own_id 0 0; destination = 0; id_width = 0; number_width = 0; crc = false };
  checksum_kind = 0;
  segment = 0;
  source = [];
  destination = [];
  size = 0;
}

abbrev pub resting : Seen
resting = Sends (record (opened_sender nobody) { suspended = true })

-- A receiver that found no memory is as it was, except for octets at offsets that are not held.
pub spoils-receives : (v : Content) (r : ReceiverState) (m : OctetMap) (new : Seen) → Spoils v (Receives r m) new →
    (octets : OctetMap) × ((new ≡ Receives r octets) × ((n : ℕ) → set.contains r.held n ≡ true → map.get octets n ≡ map.get m n))
spoils-receives (FileData offset bytes) r m new h = h
spoils-receives (Metadata kind size source destination options) r m new h = (m, (h, λ n held. refl))
spoils-receives (Eof condition checksum size tlvs) r m new h = (m, (h, λ n held. refl))
spoils-receives (Finished condition delivery status tlvs) r m new h = (m, (h, λ n held. refl))
spoils-receives (Ack of condition status) r m new h = (m, (h, λ n held. refl))
spoils-receives (Nak start end pairs) r m new h = (m, (h, λ n held. refl))
spoils-receives (Prompt keep_alive) r m new h = (m, (h, λ n held. refl))
spoils-receives (KeepAlive progress) r m new h = (m, (h, λ n held. refl))

asks-none : (p : SenderPhase) (x : SenderState) → x ≡ asks_in p [] x
asks-none phases.Sending x = refl
asks-none phases.Cancelling x = refl
asks-none phases.Closed x = refl

spoils-same : (v : Content) (s : Seen) → Spoils v s s
spoils-same (FileData offset bytes) (Receives r m) = (m, (refl, λ n h. refl))
spoils-same (Metadata kind size source destination options) (Receives r m) = refl
spoils-same (Eof condition checksum size tlvs) (Receives r m) = refl
spoils-same (Finished condition delivery status tlvs) (Receives r m) = refl
spoils-same (Ack of condition status) (Receives r m) = refl
spoils-same (Nak start end pairs) (Receives r m) = refl
spoils-same (Prompt keep_alive) (Receives r m) = refl
spoils-same (KeepAlive progress) (Receives r m) = refl
spoils-same (Nak start end pairs) (Sends x) = (0, ap Sends (asks-none x.phase x))
spoils-same (FileData offset bytes) (Sends x) = refl
spoils-same (Metadata kind size source destination options) (Sends x) = refl
spoils-same (Eof condition checksum size tlvs) (Sends x) = refl
spoils-same (Finished condition delivery status tlvs) (Sends x) = refl
spoils-same (Ack of condition status) (Sends x) = refl
spoils-same (Prompt keep_alive) (Sends x) = refl
spoils-same (KeepAlive progress) (Sends x) = refl

set-same : (xs : List Entry) (place : ℕ) (e : Entry) → slice_get xs place ≡ Some e → xs ≡ set_value_at xs place e.1
set-same [] place e at = refl
set-same (x ∷ xs) zero e at = let is : x ≡ e = cc in ap (λ (y : Entry). (x.0, y.1) ∷ xs) is
set-same (x ∷ xs) (suc n) e at = ap (λ ys. x ∷ ys) (set-same xs n e at)

set-none : (xs : List Entry) (place : ℕ) (s : Seen) → slice_get xs place ≡ None → xs ≡ set_value_at xs place s
set-none [] place s at = refl
set-none (x ∷ xs) zero s at = absurd (cc)
set-none (x ∷ xs) (suc n) s at = ap (λ ys. x ∷ ys) (set-none xs n s at)

pub spoiled-same : (place : ℕ) (v : Content) (t : TableState) → SpoiledAt place v t t
spoiled-same place v t = by (slice_get t.records place) refl
  where
    by : (o : Option Entry) → slice_get t.records place ≡ o → SpoiledAt place v t t
    by (Some e) at = record {
      seen = e.1;
      spoils = λ d is. (let same : e ≡ d = cc in subst (λ (d : Entry). Spoils v d.1 e.1) same (spoils-same v e.1));
      table = ap (λ xs. record t { records = xs }) (set-same t.records place e at);
    }
    by None at = record {
      seen = resting;
      spoils = λ d is. absurd (cc);
      table = ap (λ xs. record t { records = xs }) (set-none t.records place resting at);
    }

pub on_err : {X E : Type 0} (r : Result X E) {P : Type 0} → P → OnErr r P
on_err (Ok x) p = tt
on_err (Err e) p = p

pub spoiled-so : (place : ℕ) (v : Content) (old new : TableState) → new ≡ old → SpoiledAt place v old new
spoiled-so place v old new same = subst (SpoiledAt place v old) (sym same) (spoiled-same place v old)
