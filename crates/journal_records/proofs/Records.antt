-- What is read of octets is what was written, and what was written is read again: records.
use Rattle.std.proofs.Common.{◌≡◌, ℕ, List, [], ◌∷◌, ◌++◌, Result, Ok, Err, refl, sym, ap, subst, ◌∙◌}
use Rattle.std.specs.Prelude.{IfOk}
use Rattle.std.specs.Global.{Vec}
use Rattle.std.proofs.lemmas.List.{append-nil}
use Rattle.journal_records.specs.declared.fault.ReadError.{ReadError}
use Rattle.journal_records.specs.declared.record.RecordKind.{RecordKind}
use Rattle.journal_records.specs.declared.record.RecordKind.TheVariants as kind
use Rattle.journal_records.specs.declared.record.JournalRecord.{JournalRecord}
use Rattle.journal_records.specs.declared.record.JournalRecord.TheVariants.{Station, Put, Sent, EofTaken, Cancelling, Opened, HeardMetadata, HeardEof, Held, Publishing, Finishing, Closed, Suspended, PendingFinished, PendingAbandoned, Forgotten}
use Rattle.journal_records.specs.Writing.{AreRecords, FitsRecord, body_octets, kind_code, kind_of, octet, record_octets, records_octets}
use Rattle.journal_records.specs.Reading.{◌>>=◌, Gives, Read, body_at, choice_at, ended, kinds, made, record_at, records_at, records_in}
use Rattle.journal_records.proofs.Parts.{IsBytes, IsForm, Taken, Takes, Takes-then, bind_ok, both-form, form32, form64, list-again, list-taken, made-again, name-form, ok_is}
use Rattle.journal_records.proofs.Forms.{addressing-form, checksum-form, condition-form, flag-form, id-form, kind-form, optional-form, outcome-form, ranges-form, transfer-form}

-- a record of this kind that was read
pub record TakenBody (k : RecordKind) (bytes : List ℕ) (x : JournalRecord × List ℕ) : Type 0 where
  pub is : kind_of x.0 ≡ k
  pub taken : Taken FitsRecord body_octets bytes x

abbrev done : JournalRecord × List ℕ → Read JournalRecord
done x = Ok x

-- Records of this kind are made of these values.
abbrev AreMade : {A : Type 0} → (A → Type 0) → (A → List ℕ) → RecordKind → (A → JournalRecord) → Type 0
AreMade {A} F w k make = (a : A) → (kind_of (make a) ≡ k) × (body_octets (make a) ≡ w a) × (F a → FitsRecord (make a))

arm : {A : Type 0} {F : A → Type 0} {w : A → List ℕ} {r : List ℕ → Read A} (k : RecordKind) (make : A → JournalRecord) → IsForm F w r → ((a : A) → (kind_of (make a) ≡ k) × (body_octets (make a) ≡ w a) × (F a → FitsRecord (make a))) →
    (bytes : List ℕ) (x : JournalRecord × List ℕ) → IsBytes bytes → made make r bytes ≡ Ok x → TakenBody k bytes x
arm {A} {F} {w} {r} k make form are bytes x fits e =
    let a = bind_ok (r bytes) (λ (p : A × List ℕ). done (make p.0, p.1)) x e in
    let t = form.taken bytes a.0 fits a.1 in
    let value : JournalRecord × List ℕ = (make a.0.0, a.0.1) in
    let is : TakenBody k bytes value = record {
      is = (are a.0.0).0;
      taken = record { takes = subst (λ (l : List ℕ). Takes bytes l a.0.1) (sym (are a.0.0).1) t.takes; fits = (are a.0.0).2 t.fits };
    } in
    subst (λ y. TakenBody k bytes y) (ok_is value x a.2) is

arm-again : {A : Type 0} {F : A → Type 0} {w : A → List ℕ} {r : List ℕ → Read A} (make : A → JournalRecord) → IsForm F w r → (a : A) (rest : List ℕ) → F a → made make r (w a ++ rest) ≡ Ok (make a, rest)
arm-again {w = w} {r = r} make form a rest fits = made-again r make a (w a ++ rest) rest (form.again a rest fits)

body-taken : (k : RecordKind) (bytes : List ℕ) (x : JournalRecord × List ℕ) → IsBytes bytes → body_at k bytes ≡ Ok x → TakenBody k bytes x
unfolding body_at
body-taken kind.Station bytes x fits e = arm kind.Station (λ p. Station (record { entity = p.0.0; peer = p.0.1; start = p.1 })) (both-form (both-form form64 form64) form64) (λ p. (refl, refl, λ f. (f.0.0, f.0.1, f.1))) bytes x fits e
body-taken kind.Put bytes x fits e = arm kind.Put Put transfer-form (λ t. (refl, refl, λ f. f)) bytes x fits e
body-taken kind.Sent bytes x fits e = arm kind.Sent (λ p. Sent p.0 p.1) (both-form id-form form64) (λ p. (refl, refl, λ f. f)) bytes x fits e
body-taken kind.EofTaken bytes x fits e = arm kind.EofTaken EofTaken id-form (λ id. (refl, refl, λ f. f)) bytes x fits e
body-taken kind.Cancelling bytes x fits e = arm kind.Cancelling (λ p. Cancelling p.0 p.1) (both-form id-form condition-form) (λ p. (refl, refl, λ f. f)) bytes x fits e
body-taken kind.Opened bytes x fits e = arm kind.Opened (λ p. Opened p.0 p.1) (both-form addressing-form flag-form) (λ p. (refl, refl, λ f. f.0)) bytes x fits e
body-taken kind.HeardMetadata bytes x fits e =
    arm kind.HeardMetadata (λ p. HeardMetadata p.0.0 (record { checksum_kind = p.0.1; destination = p.1 })) (both-form (both-form id-form checksum-form) name-form) (λ p. (refl, refl, λ f. (f.0.0, f.0.1, f.1))) bytes x fits e
body-taken kind.HeardEof bytes x fits e =
    arm kind.HeardEof (λ p. HeardEof p.0.0 (record { checksum = p.0.1; size = p.1 })) (both-form (both-form id-form form32) form64) (λ p. (refl, refl, λ f. (f.0.0, f.0.1, f.1))) bytes x fits e
body-taken kind.Held bytes x fits e = arm kind.Held (λ p. Held p.0.0 p.0.1 p.1) (both-form (both-form id-form flag-form) ranges-form) (λ p. (refl, refl, λ f. (f.0.0, f.1))) bytes x fits e
body-taken kind.Publishing bytes x fits e = arm kind.Publishing (λ p. Publishing p.0.0 p.0.1 p.1) (both-form (both-form id-form name-form) form64) (λ p. (refl, refl, λ f. (f.0.0, f.0.1, f.1))) bytes x fits e
body-taken kind.Finishing bytes x fits e = arm kind.Finishing (λ p. Finishing p.0 p.1) (both-form id-form outcome-form) (λ p. (refl, refl, λ f. f)) bytes x fits e
body-taken kind.Closed bytes x fits e = arm kind.Closed (λ p. Closed p.0 p.1) (both-form id-form optional-form) (λ p. (refl, refl, λ f. f)) bytes x fits e
body-taken kind.Suspended bytes x fits e = arm kind.Suspended (λ p. Suspended p.0 p.1) (both-form id-form flag-form) (λ p. (refl, refl, λ f. f.0)) bytes x fits e
body-taken kind.PendingFinished bytes x fits e = arm kind.PendingFinished (λ p. PendingFinished p.0 p.1) (both-form id-form outcome-form) (λ p. (refl, refl, λ f. f)) bytes x fits e
body-taken kind.PendingAbandoned bytes x fits e = arm kind.PendingAbandoned (λ p. PendingAbandoned p.0 p.1) (both-form id-form condition-form) (λ p. (refl, refl, λ f. f)) bytes x fits e
body-taken kind.Forgotten bytes x fits e = arm kind.Forgotten (λ p. Forgotten p.0 p.1) (both-form form64 ranges-form) (λ p. (refl, refl, λ f. f)) bytes x fits e

body-again : (r : JournalRecord) (rest : List ℕ) → FitsRecord r → body_at (kind_of r) (body_octets r ++ rest) ≡ Ok (r, rest)
unfolding body_at
body-again (Station o) rest f = arm-again (λ p. Station (record { entity = p.0.0; peer = p.0.1; start = p.1 })) (both-form (both-form form64 form64) form64) ((o.entity, o.peer), o.start) rest ((f.0, f.1), f.2)
body-again (Put t) rest f = arm-again Put transfer-form t rest f
body-again (Sent id sent) rest f = arm-again (λ p. Sent p.0 p.1) (both-form id-form form64) (id, sent) rest f
body-again (EofTaken id) rest f = arm-again EofTaken id-form id rest f
body-again (Cancelling id condition) rest f = arm-again (λ p. Cancelling p.0 p.1) (both-form id-form condition-form) (id, condition) rest f
body-again (Opened a large) rest f = arm-again (λ p. Opened p.0 p.1) (both-form addressing-form flag-form) (a, large) rest (f, tt)
body-again (HeardMetadata id i) rest f =
    arm-again (λ p. HeardMetadata p.0.0 (record { checksum_kind = p.0.1; destination = p.1 })) (both-form (both-form id-form checksum-form) name-form) ((id, i.checksum_kind), i.destination) rest ((f.0, f.1), f.2)
body-again (HeardEof id d) rest f = arm-again (λ p. HeardEof p.0.0 (record { checksum = p.0.1; size = p.1 })) (both-form (both-form id-form form32) form64) ((id, d.checksum), d.size) rest ((f.0, f.1), f.2)
body-again (Held id large ranges) rest f = arm-again (λ p. Held p.0.0 p.0.1 p.1) (both-form (both-form id-form flag-form) ranges-form) ((id, large), ranges) rest ((f.0, tt), f.1)
body-again (Publishing id name size) rest f = arm-again (λ p. Publishing p.0.0 p.0.1 p.1) (both-form (both-form id-form name-form) form64) ((id, name), size) rest ((f.0, f.1), f.2)
body-again (Finishing id o) rest f = arm-again (λ p. Finishing p.0 p.1) (both-form id-form outcome-form) (id, o) rest f
body-again (Closed id o) rest f = arm-again (λ p. Closed p.0 p.1) (both-form id-form optional-form) (id, o) rest f
body-again (Suspended id is) rest f = arm-again (λ p. Suspended p.0 p.1) (both-form id-form flag-form) (id, is) rest (f, tt)
body-again (PendingFinished id o) rest f = arm-again (λ p. PendingFinished p.0 p.1) (both-form id-form outcome-form) (id, o) rest f
body-again (PendingAbandoned id condition) rest f = arm-again (λ p. PendingAbandoned p.0 p.1) (both-form id-form condition-form) (id, condition) rest f
body-again (Forgotten source ranges) rest f = arm-again (λ p. Forgotten p.0 p.1) (both-form form64 ranges-form) (source, ranges) rest f

-- ---- whole records
after_kind : Read RecordKind → Read JournalRecord
after_kind read = read >>= λ k. body_at k.0 k.1

record-taken : (bytes : List ℕ) (x : JournalRecord × List ℕ) → IsBytes bytes → record_at bytes ≡ Ok x → Taken FitsRecord record_octets bytes x
unfolding record_at
record-taken bytes x fits e =
    let k = bind_ok (choice_at kinds bytes) (λ (k : RecordKind × List ℕ). body_at k.0 k.1) x e in
    let t : Takes bytes (octet (kind_code k.0.0)) k.0.1 = (kind-form.taken bytes k.0 fits k.1).takes in
    let b = body-taken k.0.0 k.0.1 x t.rest_fits k.2 in
    let of : Takes bytes (octet (kind_code (kind_of x.0))) k.0.1 = subst (λ (c : RecordKind). Takes bytes (octet (kind_code c)) k.0.1) (sym b.is) t in
    record { takes = Takes-then bytes (octet (kind_code (kind_of x.0))) k.0.1 (body_octets x.0) x.1 of b.taken.takes; fits = b.taken.fits }

record-again : (r : JournalRecord) (rest : List ℕ) → FitsRecord r → record_at (record_octets r ++ rest) ≡ Ok (r, rest)
unfolding record_at after_kind
record-again r rest fits = ap after_kind (kind-form.again (kind_of r) (body_octets r ++ rest) tt) ∙ body-again r rest fits

record-form : IsForm FitsRecord record_octets record_at
record-form = record { taken = record-taken; again = record-again }

-- ---- all records of a text
ended_ok : (x : List JournalRecord × List ℕ) (rs : List JournalRecord) → ended x ≡ Ok rs → (x.0 ≡ rs) × (x.1 ≡ [])
ended_ok (x, []) rs e = (cc, refl)
ended_ok (x, n ∷ rest) rs e = absurd cc

pub records-found : (bytes : List ℕ) (rs : List JournalRecord) → IsBytes bytes → records_in bytes ≡ Ok rs → AreRecords rs × (bytes ≡ records_octets rs)
unfolding records_in records_at
records-found bytes rs fits e =
    let x = bind_ok (records_at bytes) (λ (p : List JournalRecord × List ℕ). ended p) rs e in
    let t = list-taken FitsRecord record_octets record_at record-form bytes x.0 fits x.1 in
    let d = ended_ok x.0 rs x.2 in
    let whole : bytes ≡ records_octets x.0.0 = t.takes.parts ∙ ap (λ (l : List ℕ). records_octets x.0.0 ++ l) d.1 ∙ append-nil (records_octets x.0.0) in
    subst (λ (l : List JournalRecord). AreRecords l × (bytes ≡ records_octets l)) d.0 (t.fits, whole)

pub records-again : (rs : List JournalRecord) → AreRecords rs → records_in (records_octets rs) ≡ Ok rs
unfolding records_in records_at
records-again rs fits =
    let one : records_at (records_octets rs) ≡ Ok (rs, []) = ap records_at (sym (append-nil (records_octets rs))) ∙ list-again FitsRecord record_octets record_at record-form rs [] fits in
    ap (λ (r : Read (List JournalRecord)). r >>= λ p. ended p) one

-- ---- what the reader returns
pub is-found : (bytes : List ℕ) (r : Result (Vec JournalRecord) ReadError) → IsBytes bytes → Gives (λ v. v.items) r (records_in bytes) → IfOk r (λ v. AreRecords v.items × (bytes ≡ records_octets v.items))
is-found bytes (Ok v) fits gives = records-found bytes v.items fits gives
is-found bytes (Err e) fits gives = tt
