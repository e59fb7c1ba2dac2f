-- A table from whose inbox a file was taken.
use Rattle.std.proofs.Common.{◌≡◌, ℕ, Bool, List, refl, sym, subst}
use Rattle.std.specs.FinMap.{remove}
use Rattle.cfdp_header.specs.Files.{FileMap}
use Rattle.cfdp_header.specs.declared.value.TransactionId.{TransactionId}
use Rattle.cfdp_directives.specs.declared.user.indication.Indication.{Indication}
use Rattle.cfdp_entity.specs.declared.record.Record.{Record}
use Rattle.cfdp_entity.specs.Desk.{Staged, DeskState}
use Rattle.cfdp_entity.specs.Forgetting.{without_file}
use Rattle.cfdp_entity.specs.Roomy.{Becomes}
use Rattle.cfdp_entity.specs.Whole.{IsWhole, roomy_of}

module _ (past : List Indication) (desk : DeskState) (staged : Staged) (files : FileMap) (failures : ℕ) (name : List ℕ)
    (same : staged ≡ desk.staged) (gone : files ≡ remove desk.files name) (counted : failures ≡ desk.inbox_failures)
    (es : List (TransactionId × Record)) where
  abbrev now : DeskState
  now = record desk { staged = staged; files = files; inbox_failures = failures }

  is-now : now ≡ record desk { files = remove desk.files name }
  is-now = λ i. record desk { staged = same i; files = gone i; inbox_failures = counted i }

  pub whole-without : (flags : List Bool) → IsWhole desk es flags → IsWhole now es flags
  whole-without flags whole = subst (λ d. IsWhole d es flags) (sym is-now)
      (record { distinct = whole.distinct; ready = whole.ready; flagged = whole.flagged; few = whole.few })

  pub becomes-without : Becomes (without_file name (roomy_of past desk es).state) (roomy_of past desk es) (roomy_of past now es)
  becomes-without = subst (λ d. Becomes (without_file name (roomy_of past desk es).state) (roomy_of past desk es) (roomy_of past d es)) (sym is-now)
      (record { state = refl; inbox = refl; outbox = refl })
