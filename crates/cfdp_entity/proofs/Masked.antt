-- What is staged for a receiver that receives no more is in no step.
use Rattle.std.proofs.Common.{◌≡◌, ℕ, Bool, true, false, ◌&&◌, Some, List, [], ◌∷◌, if◌then◌else◌, refl, sym, ap, ◌∙◌}
use Rattle.std.specs.FinMap.{empty}
use Rattle.cfdp_header.specs.Files.{FileMap}
use Rattle.cfdp_directives.specs.declared.user.limits.Times.{Times}
use Rattle.cfdp_store.specs.declared.stored.Stored.{Stored}
use Rattle.cfdp_store.specs.Staged.{OctetMap}
use Rattle.cfdp_receiver.specs.declared.due.Due.{Due}
use Rattle.cfdp_receiver.specs.declared.due.Due.TheVariants as due
use Rattle.cfdp_receiver.specs.State.{ReceiverState, is_receiving, is_finishing}
use Rattle.cfdp_receiver.specs.Steps.{ReceiverAfter, hears_metadata, hears_data, hears_eof, hears_ack, hears_prompt, takes, heard, leaving, closed, receives_metadata, receives_data, receives_eof, prompted_for}
use Rattle.cfdp_receiver.specs.Does.{waits_of}
use Rattle.cfdp_entity.specs.Seen as seens
use Rattle.cfdp_entity.specs.Steps.{by_receiver}

-- a step leaves the same whatever is staged
abbrev pub Masks : (OctetMap → ReceiverAfter) → Type 0
Masks f = (times : Times) (m : OctetMap) → by_receiver times (f m) ≡ by_receiver times (f empty)

core : (times : Times) (a : ReceiverAfter) → is_receiving a.receiver.phase ≡ false → (m : OctetMap) → by_receiver times (record a { octets = m }) ≡ by_receiver times a
core times a over m =
    let octets : (if is_receiving a.receiver.phase then m else empty) ≡ (if is_receiving a.receiver.phase then a.octets else empty) =
    ap (λ b. if b then m else empty) over ∙ sym (ap (λ b. if b then a.octets else empty) over) in
    λ i. record {
      seen = seens.Receives a.receiver (octets i);
      told = a.told;
      waits = waits_of times a.anew a.receiver ∷ [];
      files = a.files;
    }

module _ (files : FileMap) (r : ReceiverState) (over : is_receiving r.phase ≡ false) where
  pub masks-metadata : (stored : Stored) (checksum_kind size : ℕ) (source destination : List ℕ) → Masks (λ m. hears_metadata stored checksum_kind size source destination m files r)
  masks-metadata stored checksum_kind size source destination times m =
      ap (λ b. by_receiver times (heard (if b then receives_metadata stored checksum_kind size source destination m files r else leaving m files r))) over
      ∙ core times (heard (leaving empty files r)) over m
      ∙ sym (ap (λ b. by_receiver times (heard (if b then receives_metadata stored checksum_kind size source destination empty files r else leaving empty files r))) over)

  pub masks-data : (stored : Stored) (large : Bool) (offset : ℕ) (bytes : List ℕ) → Masks (λ m. hears_data stored large offset bytes m files r)
  masks-data stored large offset bytes times m =
      ap (λ b. by_receiver times (heard (if b then receives_data stored large offset bytes m files r else leaving m files r))) over
      ∙ core times (heard (leaving empty files r)) over m
      ∙ sym (ap (λ b. by_receiver times (heard (if b then receives_data stored large offset bytes empty files r else leaving empty files r))) over)

  pub masks-eof : (stored : Stored) (large : Bool) (condition checksum size : ℕ) → Masks (λ m. hears_eof stored large condition checksum size m files r)
  masks-eof stored large condition checksum size times m =
      ap (λ b. by_receiver times (heard (if b then receives_eof stored large condition checksum size m files r else leaving m files (record r { ack_due = Some condition })))) over
      ∙ core times (heard (leaving empty files (record r { ack_due = Some condition }))) over m
      ∙ sym (ap (λ b. by_receiver times (heard (if b then receives_eof stored large condition checksum size empty files r else leaving empty files (record r { ack_due = Some condition })))) over)

  pub masks-prompt : (keep_alive : Bool) → Masks (λ m. hears_prompt keep_alive m files r)
  masks-prompt keep_alive times m =
      ap (λ b. by_receiver times (heard (leaving m files (if b then prompted_for keep_alive r else r)))) over
      ∙ core times (heard (leaving empty files r)) over m
      ∙ sym (ap (λ b. by_receiver times (heard (leaving empty files (if b then prompted_for keep_alive r else r)))) over)

  pub masks-ack : Masks (λ m. hears_ack m files r)
  masks-ack times m =
      elim (is_finishing r.phase && r.finished_taken) as (λ b. by_receiver times (heard (leaving m files (if b then closed r else r)))
      ≡ by_receiver times (heard (leaving empty files (if b then closed r else r)))) [
        | true ↦ refl
        | false ↦ core times (heard (leaving empty files r)) over m
      ]

  pub masks-takes : (d : Due) → Masks (λ m. takes d m files r)
  masks-takes (due.AckOfEof condition) times m = core times (takes (due.AckOfEof condition) empty files r) over m
  masks-takes (due.Nak cursor) times m = core times (takes (due.Nak cursor) empty files r) over m
  masks-takes due.KeepAlive times m = core times (takes due.KeepAlive empty files r) over m
  masks-takes (due.Finished o) times m = core times (takes (due.Finished o) empty files r) over m
