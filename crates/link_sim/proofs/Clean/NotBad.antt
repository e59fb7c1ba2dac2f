-- What isn't bad spoils no transaction, and pauses none.
use Rattle.std.proofs.Common.{◌≡◌, ◌==◌, not, Bool, true, false, List, [], ◌∷◌, refl, sym, ◌∙◌}
use Rattle.std.specs.List.{list_any}
use Rattle.std.proofs.lemmas.Bool.{false≢true, and_parts, or_parts, or_from, false_from_ne_true}
use Rattle.cfdp_header.specs.declared.value.TransactionId.{TransactionId}
use Rattle.cfdp_header.specs.Ids.{same_id}
use Rattle.cfdp_directives.specs.declared.user.indication.Indication.{Indication}
use Rattle.cfdp_directives.specs.declared.user.indication.Indication.TheVariants as indication
use Rattle.cfdp_directives.specs.Pdu.Codes.{no_error}
use Rattle.cfdp_directives.specs.User.Put.{Put}
use Rattle.link_sim.specs.Clean.{is_bad}
use Rattle.link_sim.specs.Exchange.{pauses}
use Rattle.link_sim.specs.Waiting.{spoils}
use Rattle.link_sim.proofs.Course.Laws.{TellsWell}

pub none-weaker : {X : Type 0} (p q : X → Bool) → ((x : X) → q x ≡ true → p x ≡ true) → (xs : List X) → list_any p xs ≡ false → list_any q xs ≡ false
none-weaker p q so [] none = refl
none-weaker p q so (x ∷ xs) none =
    let parts = or_parts (p x) (list_any p xs) none in
    or_from (q x) (list_any q xs) (false_from_ne_true (q x) (λ is. false≢true (sym parts.0 ∙ so x is))) (none-weaker p q so xs parts.1)

pub spoils-bad : (id : TransactionId) (i : Indication) → spoils id i ≡ true → is_bad i ≡ true
spoils-bad id (indication.Fault of condition) is = refl
spoils-bad id (indication.Suspended of condition) is = refl
spoils-bad id (indication.Abandoned of condition) is = refl
spoils-bad id (indication.Finished of condition delivery status) is = (and_parts (same_id id of) (not (condition == no_error)) is).1
spoils-bad id (indication.Transaction of) is = absurd cc
spoils-bad id (indication.EofSent of) is = absurd cc
spoils-bad id (indication.MetadataRecv of source destination size) is = absurd cc
spoils-bad id (indication.EofRecv of) is = absurd cc
spoils-bad id (indication.Resumed of) is = absurd cc
spoils-bad id (indication.Progress of octets) is = absurd cc

pub pauses-bad : (id : TransactionId) (i : Indication) → pauses id i ≡ true → is_bad i ≡ true
pauses-bad id (indication.Suspended of condition) is = refl
pauses-bad id (indication.Fault of condition) is = refl
pauses-bad id (indication.Abandoned of condition) is = refl
pauses-bad id (indication.Finished of condition delivery status) is = absurd cc
pauses-bad id (indication.Transaction of) is = absurd cc
pauses-bad id (indication.EofSent of) is = absurd cc
pauses-bad id (indication.MetadataRecv of source destination size) is = absurd cc
pauses-bad id (indication.EofRecv of) is = absurd cc
pauses-bad id (indication.Resumed of) is = absurd cc
pauses-bad id (indication.Progress of octets) is = absurd cc

pub tells-well : (put : Put) (awake : Bool) (told : List Indication) → list_any is_bad told ≡ false → TellsWell put awake told
tells-well put awake told none = record {
  good = none-weaker is_bad (spoils put.id) (spoils-bad put.id) told none;
  unpaused = λ _. none-weaker is_bad (pauses put.id) (pauses-bad put.id) told none;
}
