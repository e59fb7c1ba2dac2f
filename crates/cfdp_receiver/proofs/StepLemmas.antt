-- Steps at one of their cases.
use Rattle.std.proofs.Common.{◌≡◌, ◌++◌, [], ◌∷◌, ◌∙◌, ℕ, Bool, false, List, Some, ap, sym, subst, append_assoc, if◌then◌else◌}
use Rattle.cfdp_directives.specs.declared.user.indication.Indication.{Indication}
use Rattle.cfdp_directives.specs.declared.user.indication.Indication.TheVariants as indication
use Rattle.cfdp_directives.specs.Pdu.Codes.{no_error, file_size_error}
use Rattle.cfdp_store.specs.declared.stored.Stored.{Stored}
use Rattle.cfdp_store.specs.Staged.{OctetMap, staged_for}
use Rattle.cfdp_receiver.specs.State.{ReceiverState}
use Rattle.cfdp_receiver.specs.Steps.{ReceiverAfter, completed, faulted, contradicts, first_eof}
use Rattle.cfdp_receiver.specs.Does.{Does, Scene, timers_kept}

-- a first EOF that is taken was noted and indicated, and then came the completion test
pub first_eof_does : (stored : Stored) (large : Bool) (checksum size : ℕ) (r : ReceiverState) (told : List Indication) (old new : Scene) →
    r ≡ old.receiver → contradicts large size r ≡ false → told ≡ old.told ++ indication.EofRecv r.addressing.id ∷ [] →
    Does timers_kept stored (completed stored)
    (record old { receiver = record r { ending = Some (record { checksum = checksum; size = size }); ack_due = Some no_error; nak_cursor = Some 0 }; told = told }) new →
    Does timers_kept stored (first_eof stored large checksum size) old new
first_eof_does stored large checksum size r told old new is fits heard does =
    let r1 : ReceiverState = record r { ending = Some (record { checksum = checksum; size = size }); ack_due = Some no_error; nak_cursor = Some 0 } in
    let m : OctetMap = staged_for old.staged r.addressing.id in
    let by : Bool → ReceiverAfter = λ b. if b then faulted file_size_error m old.files r1 else completed stored m old.files r1 in
    let now : Does timers_kept stored (λ _ _ _. by false) (record old { receiver = r1; told = told }) new = record {
      receiver = does.receiver;
      tells = does.tells;
      timers = does.timers;
      files = does.files;
      octets = does.octets;
      counts = does.counts;
    } in
    let s : Does timers_kept stored (λ _ _ _. by (contradicts large size r)) (record old { receiver = r1; told = told }) new =
    subst (λ (b : Bool). Does timers_kept stored (λ _ _ _. by b) (record old { receiver = r1; told = told }) new) (sym fits) now in
    subst (λ (x : ReceiverState). Does timers_kept stored (first_eof stored large checksum size) (record old { receiver = x }) new) is (record {
      receiver = s.receiver;
      tells = s.tells
          ∙ ap (λ (l : List Indication). l ++ (by (contradicts large size r)).told) heard
          ∙ append_assoc old.told (indication.EofRecv r.addressing.id ∷ []) (by (contradicts large size r)).told;
      timers = s.timers;
      files = s.files;
      octets = s.octets;
      counts = s.counts;
    })
