-- How each part of a record is written and read.
use Rattle.std.proofs.Common.{◌≡◌, ℕ, zero, suc, ◌+◌, ◌<◌, Bool, true, false, List, [], ◌∷◌, ◌++◌, slice_get, Option, Some, None, Ok, refl, ap, subst, ◌∙◌, arith}
use Rattle.std.specs.Prelude.{IfSome}
use Rattle.std.proofs.lemmas.Bool.Decides.{nat_tests}
use Rattle.cfdp_directives.specs.declared.pdu.codes.Delivery.{Delivery}
use Rattle.cfdp_directives.specs.declared.pdu.codes.Delivery.TheVariants.{Complete, Incomplete}
use Rattle.cfdp_directives.specs.declared.pdu.codes.FileStatus.{FileStatus}
use Rattle.cfdp_directives.specs.declared.pdu.codes.FileStatus.TheVariants.{Discarded, Rejected, Retained, Unreported}
use Rattle.cfdp_directives.specs.declared.user.telling.Outcome.{Outcome}
use Rattle.cfdp_directives.specs.Pdu.Codes.{IsCondition, delivery_code, file_status_code}
use Rattle.journal_records.specs.declared.record.RecordKind.{RecordKind}
use Rattle.journal_records.specs.declared.record.RecordKind.TheVariants as kind
use Rattle.journal_records.specs.Writing.{FitsAddress, FitsId, FitsOutcome, FitsRange, FitsRanges, FitsTransfer, addressing_octets, flag_code, flag_octets, id_octets, kind_code, octet, optional_octets, outcome_octets, range_octets, ranges_octets, transfer_octets}
use Rattle.journal_records.specs.Reading.{◌>>=◌, Read, addressing_at, choice_at, deliveries, flags, id_at, is_checksum_kind, is_condition, kinds, optional_at, outcome_at, outcome_if, range_at, ranges_at, statuses, tested_at, transfer_at}
use Rattle.journal_records.proofs.Parts.{AreCoded, IsBytes, IsForm, Taken, Takes, Takes-then, bind_ok, ok_is, both-form, choice-form, form16, form64, list-again, list-taken, made-form, name-form, octet-form, tested-form}

-- ---- codes
some_is : {A : Type 0} (a b : A) (o : Option A) → o ≡ Some a → o ≡ Some b → a ≡ b
some_is a b o p q = cc

-- the codes of a list rise by one
abbrev RisesFrom : {A : Type 0} → (A → ℕ) → ℕ → List A → Type 0
RisesFrom code from [] = Unit {0}
RisesFrom code from (a ∷ all) = (code a ≡ from) × RisesFrom code (suc from) all

code-at : {A : Type 0} (code : A → ℕ) (from : ℕ) (all : List A) (n : ℕ) (a : A) → RisesFrom code from all → slice_get all n ≡ Some a → code a ≡ from + n
code-at code from [] n a rises e = absurd cc
code-at code from (b ∷ all) zero a rises e = ap code (some_is a b (Some b) e refl) ∙ rises.0 ∙ omega arith
code-at code from (b ∷ all) (suc n) a rises e = code-at code (suc from) all n a rises.1 e ∙ omega arith

coded : {A : Type 0} (all : List A) (code : A → ℕ) → ((a : A) → slice_get all (code a) ≡ Some a) → RisesFrom code 0 all → AreCoded all code
coded all code there rises = record { there = there; only = λ n a e. code-at code 0 all n a rises e ∙ omega arith }

flag-there : (b : Bool) → slice_get flags (flag_code b) ≡ Some b
flag-there true = refl
flag-there false = refl

delivery-there : (d : Delivery) → slice_get deliveries (delivery_code d) ≡ Some d
delivery-there Complete = refl
delivery-there Incomplete = refl

status-there : (s : FileStatus) → slice_get statuses (file_status_code s) ≡ Some s
status-there Discarded = refl
status-there Rejected = refl
status-there Retained = refl
status-there Unreported = refl

kind-there : (k : RecordKind) → slice_get kinds (kind_code k) ≡ Some k
kind-there kind.Station = refl
kind-there kind.Put = refl
kind-there kind.Sent = refl
kind-there kind.EofTaken = refl
kind-there kind.Cancelling = refl
kind-there kind.Opened = refl
kind-there kind.HeardMetadata = refl
kind-there kind.HeardEof = refl
kind-there kind.Held = refl
kind-there kind.Publishing = refl
kind-there kind.Finishing = refl
kind-there kind.Closed = refl
kind-there kind.Suspended = refl
kind-there kind.PendingFinished = refl
kind-there kind.PendingAbandoned = refl
kind-there kind.Forgotten = refl

pub kind-form : IsForm (λ k. Unit {0}) (λ k. octet (kind_code k)) (choice_at kinds)
kind-form = choice-form kinds kind_code (coded kinds kind_code kind-there
    (refl, (refl, (refl, (refl, (refl, (refl, (refl, (refl, (refl, (refl, (refl, (refl, (refl, (refl, (refl, (refl, tt)))))))))))))))))

pub flag-form : IsForm (λ b. Unit {0}) flag_octets (choice_at flags)
flag-form = choice-form flags flag_code (coded flags flag_code flag-there (refl, (refl, tt)))

delivery-form : IsForm (λ d. Unit {0}) (λ d. octet (delivery_code d)) (choice_at deliveries)
delivery-form = choice-form deliveries delivery_code (coded deliveries delivery_code delivery-there (refl, (refl, tt)))

status-form : IsForm (λ s. Unit {0}) (λ s. octet (file_status_code s)) (choice_at statuses)
status-form = choice-form statuses file_status_code (coded statuses file_status_code status-there (refl, (refl, (refl, (refl, tt)))))

-- ---- tests
condition-means : (n : ℕ) → is_condition n ≡ true → IsCondition n
condition-means n h = grind (arith, nat_tests)

condition-is : (n : ℕ) → IsCondition n → is_condition n ≡ true
condition-is n h = grind (arith, nat_tests)

pub condition-form : IsForm IsCondition octet (tested_at is_condition)
condition-form = tested-form is_condition IsCondition condition-means condition-is

pub checksum-form : IsForm (λ n. n < 16) octet (tested_at is_checksum_kind)
checksum-form = tested-form is_checksum_kind (λ n. n < 16) (λ n h. grind (arith, nat_tests)) (λ n h. grind (arith, nat_tests))

-- ---- fields
pub id-form : IsForm FitsId id_octets id_at
unfolding id_at
id-form = made-form (λ p. record { source = p.0; number = p.1 }) (λ id. (id.source, id.number)) (λ p. (refl, λ f. f)) (λ id. (refl, refl, λ f. f)) (both-form form64 form64)

range-form : IsForm FitsRange range_octets range_at
unfolding range_at
range-form = both-form form64 form64

pub ranges-form : IsForm FitsRanges ranges_octets ranges_at
unfolding ranges_at
ranges-form = record { taken = list-taken FitsRange range_octets range_at range-form; again = list-again FitsRange range_octets range_at range-form }

pub addressing-form : IsForm FitsAddress addressing_octets addressing_at
unfolding addressing_at
addressing-form = made-form
    (λ p. record { id = p.0.0.0.0; destination = p.0.0.0.1; id_width = p.0.0.1; number_width = p.0.1; crc = p.1 })
    (λ a. ((((a.id, a.destination), a.id_width), a.number_width), a.crc))
    (λ p. (refl, λ f. record { id = f.0.0.0.0; destination = f.0.0.0.1; id_width = f.0.0.1; number_width = f.0.1 }))
    (λ a. (refl, refl, λ f. ((((f.id, f.destination), f.id_width), f.number_width), tt)))
    (both-form (both-form (both-form (both-form id-form form64) octet-form) octet-form) flag-form)

pub outcome-form : IsForm FitsOutcome outcome_octets outcome_at
unfolding outcome_at
outcome-form = made-form
    (λ p. record { condition = p.0.0; delivery = p.0.1; status = p.1 }) (λ o. ((o.condition, o.delivery), o.status))
    (λ p. (refl, λ f. f.0.0)) (λ o. (refl, refl, λ f. ((f, tt), tt)))
    (both-form (both-form condition-form delivery-form) status-form)

-- ---- an outcome or none
abbrev some_read : Outcome × List ℕ → Read (Option Outcome)
some_read p = Ok (Some p.0, p.1)

optional-rest : (b : Bool) (bytes mid : List ℕ) (x : Option Outcome × List ℕ) → Takes bytes (flag_octets b) mid → outcome_if b mid ≡ Ok x → Taken (λ o. IfSome o FitsOutcome) optional_octets bytes x
optional-rest false bytes mid x t e =
    let none : Option Outcome × List ℕ = (None, mid) in
    let is : Taken (λ o. IfSome o FitsOutcome) optional_octets bytes none = record { takes = t; fits = tt } in
    subst (λ y. Taken (λ o. IfSome o FitsOutcome) optional_octets bytes y) (ok_is none x e) is
optional-rest true bytes mid x t e =
    let o = bind_ok (outcome_at mid) (λ (p : Outcome × List ℕ). some_read p) x e in
    let to = outcome-form.taken mid o.0 t.rest_fits o.1 in
    let some : Option Outcome × List ℕ = (Some o.0.0, o.0.1) in
    let is : Taken (λ o. IfSome o FitsOutcome) optional_octets bytes some =
    record { takes = Takes-then bytes (flag_octets true) mid (outcome_octets o.0.0) o.0.1 t to.takes; fits = to.fits } in
    subst (λ y. Taken (λ o. IfSome o FitsOutcome) optional_octets bytes y) (ok_is some x o.2) is

optional-taken : (bytes : List ℕ) (x : Option Outcome × List ℕ) → IsBytes bytes → optional_at bytes ≡ Ok x → Taken (λ o. IfSome o FitsOutcome) optional_octets bytes x
unfolding optional_at
optional-taken bytes x fits e =
    let f = bind_ok (choice_at flags bytes) (λ (f : Bool × List ℕ). outcome_if f.0 f.1) x e in
    optional-rest f.0.0 bytes f.0.1 x (flag-form.taken bytes f.0 fits f.1).takes f.2

after_flag : Read Bool → Read (Option Outcome)
after_flag read = read >>= λ f. outcome_if f.0 f.1

optional-again : (o : Option Outcome) (rest : List ℕ) → IfSome o FitsOutcome → optional_at (optional_octets o ++ rest) ≡ Ok (o, rest)
unfolding optional_at after_flag
optional-again None rest fits = ap after_flag (flag-form.again false rest tt)
optional-again (Some o) rest fits =
    ap after_flag (flag-form.again true (outcome_octets o ++ rest) tt) ∙ ap (λ (r : Read Outcome). r >>= λ p. some_read p) (outcome-form.again o rest fits)

pub optional-form : IsForm (λ o. IfSome o FitsOutcome) optional_octets optional_at
optional-form = record { taken = optional-taken; again = optional-again }

pub transfer-form : IsForm FitsTransfer transfer_octets transfer_at
unfolding transfer_at
transfer-form = made-form
    (λ p. record { addressing = p.0.0.0.0.0; checksum_kind = p.0.0.0.0.1; segment = p.0.0.0.1; source = p.0.0.1; destination = p.0.1; size = p.1 })
    (λ t. (((((t.addressing, t.checksum_kind), t.segment), t.source), t.destination), t.size))
    (λ p. (refl, λ f. record { addressing = f.0.0.0.0.0; checksum_kind = f.0.0.0.0.1; segment = f.0.0.0.1; source = f.0.0.1; destination = f.0.1; size = f.1 }))
    (λ t. (refl, refl, λ f. (((((f.addressing, f.checksum_kind), f.segment), f.source), f.destination), f.size)))
    (both-form (both-form (both-form (both-form (both-form addressing-form checksum-form) form16) name-form) name-form) form64)
