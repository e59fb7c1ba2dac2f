-- In Finishing, a Finished is due or was taken.
use Rattle.std.proofs.Common.{◌≡◌, ℕ, ◌+◌, true, List, length, Option, refl, rules, if◌then◌else◌, Bool}
use Rattle.std.specs.FinSet as set
use Rattle.std.proofs.lemmas.Bool.{cond_both}
use Rattle.cfdp_header.specs.Files.{FileMap}
use Rattle.cfdp_directives.specs.Pdu.Codes.{file_size_error}
use Rattle.cfdp_directives.specs.Pdu.Content.{FileData, Metadata, Eof, Finished, Ack, Nak, Prompt, KeepAlive}
use Rattle.cfdp_extents.specs.Offsets.{range}
use Rattle.cfdp_store.specs.declared.stored.Stored.{Stored}
use Rattle.cfdp_store.specs.declared.stored.Stored.TheVariants.{Done, Refused}
use Rattle.cfdp_store.specs.Staged.{OctetMap}
use Rattle.cfdp_receiver.specs.declared.state.FileInfo.{FileInfo}
use Rattle.cfdp_receiver.specs.declared.state.Ending.{Ending}
use Rattle.cfdp_receiver.specs.State.{ReceiverState, is_receiving, flagged}
use Rattle.cfdp_receiver.specs.Pieces.{new_pieces, staged_with}
use Rattle.cfdp_receiver.specs.Steps.{ReceiverAfter, leaving, faulted, completed, completed_by, exceeds, with_data, receives_new, receives_data, hears_data}
use Rattle.cfdp_receiver.specs.Sound.{ReceiverInput, Hears, Takes, Expires, Cancels, Suspends, Resumes, receiver_step, owes_finished}

completed-owes : (stored : Stored) (metadata : Option FileInfo) (ending : Option Ending) (m : OctetMap) (files : FileMap) (r : ReceiverState) → owes_finished r ≡ true →
    owes_finished (completed_by stored metadata ending m files r).receiver ≡ true
completed-owes stored metadata ending m files r h = search rules

new-owes : (stored : Stored) (offset : ℕ) (bytes : List ℕ) (m : OctetMap) (files : FileMap) (r : ReceiverState) → owes_finished r ≡ true →
    owes_finished (receives_new stored offset bytes m files r).receiver ≡ true
new-owes Done offset bytes m files r h = (let r1 : ReceiverState = with_data offset bytes r in completed-owes Done r1.metadata r1.ending (staged_with m (new_pieces r.held offset bytes)) files r1 h)
new-owes Refused offset bytes m files r h = refl

data-owes : (stored : Stored) (large : Bool) (offset : ℕ) (bytes : List ℕ) (m : OctetMap) (files : FileMap) (r : ReceiverState) → owes_finished r ≡ true →
    owes_finished (hears_data stored large offset bytes m files r).receiver ≡ true
data-owes stored large offset bytes m files r h =
    let Owes : ReceiverAfter → Type 0 = λ a. owes_finished a.receiver ≡ true in
    cond_both (is_receiving r.phase) (receives_data stored large offset bytes m files r) (leaving m files r) Owes
    (λ _. cond_both (exceeds large r.ending (offset + length bytes)) (faulted file_size_error m files r)
    (if set.is_subset (range offset (offset + length bytes)) r.held then completed stored m files r else receives_new stored offset bytes m files r) Owes
    (λ _. refl)
    (λ _. cond_both (set.is_subset (range offset (offset + length bytes)) r.held) (completed stored m files r) (receives_new stored offset bytes m files r) Owes
    (λ _. completed-owes stored r.metadata r.ending m files r h)
    (λ _. new-owes stored offset bytes m files r h)))
    (λ _. h)

pub step-owes : (stored : Stored) (input : ReceiverInput) (m : OctetMap) (files : FileMap) (r : ReceiverState) → owes_finished r ≡ true → owes_finished (receiver_step stored input m files r).receiver
    ≡ true
step-owes stored (Hears large (FileData offset bytes)) m files r h = data-owes stored large offset bytes m files (flagged large r) h
step-owes stored (Hears large (Metadata checksum_kind size source destination options)) m files r h = search rules
step-owes stored (Hears large (Eof condition checksum size tlvs)) m files r h = search rules
step-owes stored (Hears large (Ack of condition status)) m files r h = search rules
step-owes stored (Hears large (Prompt keep_alive)) m files r h = search rules
step-owes stored (Hears large (Finished condition delivery status tlvs)) m files r h = h
step-owes stored (Hears large (Nak start end pairs)) m files r h = h
step-owes stored (Hears large (KeepAlive progress)) m files r h = h
step-owes stored (Takes d) m files r h = search rules
step-owes stored (Expires k policy) m files r h = search rules
step-owes stored Cancels m files r h = search rules
step-owes stored Suspends m files r h = search rules
step-owes stored Resumes m files r h = search rules
