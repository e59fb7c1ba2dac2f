-- Batches of records, one after another.
use Rattle.std.proofs.Common.{◌≡◌, ℕ, ◌+◌, ◌^◌, ◌<◌, ◌≤◌, List, [], ◌∷◌, ◌++◌, length, map, take, drop, Ok, Err, refl, sym, ap, ap₂, subst, ◌∙◌, append_assoc, arith}
use Rattle.std.specs.List.{flat_map, AllByRecursion}
use Rattle.std.specs.Int.{w64, to_be_bytes}
use Rattle.std.proofs.lemmas.List.{append-nil, append_cancel_left, drop-drop, length-append, length-drop}
use Rattle.batches.specs.Batch.{AreBatches, BeginsWithNone, FitsBatch, batch, batches_of}
use Rattle.batches.proofs.Cutting.{length-batch, same-text}
use Rattle.journal_records.specs.declared.fault.BatchFault.{BatchFault}
use Rattle.journal_records.specs.declared.record.JournalRecord.{JournalRecord}
use Rattle.journal_records.specs.Journal.{FitBatch, IsFaulty, IsJournal, all_records}
use Rattle.journal_records.specs.Reading.{records_in}
use Rattle.journal_records.specs.Writing.{AreRecords, record_octets, records_octets}
use Rattle.journal_records.proofs.Parts.{ok_is}
use Rattle.journal_records.proofs.Records.{records-again}

-- ---- what fits
text-fits : (rs : List JournalRecord) → FitBatch rs → FitsBatch (records_octets rs)
text-fits rs f =
    let count : length (to_be_bytes w64 (length rs)) ≡ 8 = refl in
    record { some = omega (arith, length-append (to_be_bytes w64 (length rs)) (flat_map record_octets rs), count); short = f.short }

texts-fit : (lists : List (List JournalRecord)) → AllByRecursion FitBatch lists → AllByRecursion FitsBatch (map records_octets lists)
texts-fit [] f = tt
texts-fit (rs ∷ lists) f = (text-fits rs f.0, texts-fit lists f.1)

pub journal-of : (bytes : List ℕ) (lists : List (List JournalRecord)) (tail : List ℕ) → AllByRecursion FitBatch lists → (AllByRecursion FitsBatch (map records_octets lists) → AreBatches bytes (map records_octets lists) tail) → IsJournal bytes lists tail
journal-of bytes lists tail f are = record { batches = are (texts-fit lists f); fit = f }

pub journal-cut : ((texts : List (List ℕ)) (text : List ℕ) (n : ℕ) → AllByRecursion FitsBatch texts → FitsBatch text → n < length (batch text) → AreBatches (batches_of texts ++ take n (batch text)) texts (take n (batch text))) →
    (lists : List (List JournalRecord)) (rs : List JournalRecord) (n : ℕ) → AllByRecursion FitBatch lists → FitBatch rs → n < length (batch (records_octets rs)) →
    IsJournal (batches_of (map records_octets lists) ++ take n (batch (records_octets rs))) lists (take n (batch (records_octets rs)))
journal-cut cut lists rs n fit fits low =
    journal-of (batches_of (map records_octets lists) ++ take n (batch (records_octets rs))) lists (take n (batch (records_octets rs))) fit
    (λ texts. cut (map records_octets lists) (records_octets rs) n texts (text-fits rs fits) low)

-- ---- one reading
same-records : (rs others : List JournalRecord) → AreRecords rs → AreRecords others → records_octets others ≡ records_octets rs → others ≡ rs
same-records rs others f g e = ok_is others rs (sym (records-again others g) ∙ ap records_in e ∙ records-again rs f)

head-is : {A : Type 0} (x y : A) (xs ys : List A) → x ∷ xs ≡ y ∷ ys → x ≡ y
head-is x y xs ys e = cc

tail-is : {A : Type 0} (x y : A) (xs ys : List A) → x ∷ xs ≡ y ∷ ys → xs ≡ ys
tail-is x y xs ys e = cc

same-lists : (lists others : List (List JournalRecord)) → AllByRecursion FitBatch lists → AllByRecursion FitBatch others → map records_octets others ≡ map records_octets lists → others ≡ lists
same-lists [] [] f g e = refl
same-lists [] (o ∷ others) f g e = absurd cc
same-lists (rs ∷ lists) [] f g e = absurd cc
same-lists (rs ∷ lists) (o ∷ others) f g e =
    ap₂ (λ (x : List JournalRecord) (l : List (List JournalRecord)). x ∷ l)
    (same-records rs o f.0.records g.0.records (head-is (records_octets o) (records_octets rs) (map records_octets others) (map records_octets lists) e))
    (same-lists lists others f.1 g.1 (tail-is (records_octets o) (records_octets rs) (map records_octets others) (map records_octets lists) e))

pub one-journal : ((bytes tail rest : List ℕ) (texts others : List (List ℕ)) → AreBatches bytes texts tail → AreBatches bytes others rest → (others ≡ texts) × (rest ≡ tail)) →
    (bytes tail rest : List ℕ) (lists others : List (List JournalRecord)) → IsJournal bytes lists tail → IsJournal bytes others rest → (others ≡ lists) × (rest ≡ tail)
one-journal one bytes tail rest lists others a b =
    let same = one bytes tail rest (map records_octets lists) (map records_octets others) a.batches b.batches in
    (same-lists lists others a.fit b.fit same.0, same.1)

-- ---- a journal isn't faulty
no-fault : (before lists : List (List JournalRecord)) (tail text rest : List ℕ) (fault : BatchFault) → AllByRecursion FitBatch before → AllByRecursion FitBatch lists → BeginsWithNone tail → FitsBatch text → records_in text ≡ Err fault →
    batches_of (map records_octets lists) ++ tail ≡ batches_of (map records_octets before) ++ (batch text ++ rest) → ⊥
no-fault [] [] tail text rest fault f g none is faulty e = none text rest is e
no-fault [] (rs ∷ lists) tail text rest fault f g none is faulty e =
    let more : List ℕ = batches_of (map records_octets lists) ++ tail in
    let both : batch text ++ rest ≡ batch (records_octets rs) ++ more = sym e ∙ append_assoc (batch (records_octets rs)) (batches_of (map records_octets lists)) tail in
    let same : text ≡ records_octets rs = same-text text (records_octets rs) rest more is.short g.0.short both in
    let read : records_in text ≡ Ok rs = ap records_in same ∙ records-again rs g.0.records in
    absurd cc
no-fault (u ∷ before) [] tail text rest fault f g none is faulty e =
    none (records_octets u) (batches_of (map records_octets before) ++ (batch text ++ rest)) (text-fits u f.0) (e ∙ append_assoc (batch (records_octets u)) (batches_of (map records_octets before)) (batch text ++ rest))
no-fault (u ∷ before) (rs ∷ lists) tail text rest fault f g none is faulty e =
    let left : List ℕ = batches_of (map records_octets lists) ++ tail in
    let right : List ℕ = batches_of (map records_octets before) ++ (batch text ++ rest) in
    let both : batch (records_octets rs) ++ left ≡ batch (records_octets u) ++ right =
    sym (append_assoc (batch (records_octets rs)) (batches_of (map records_octets lists)) tail) ∙ e ∙ append_assoc (batch (records_octets u)) (batches_of (map records_octets before)) (batch text ++ rest) in
    let same : records_octets rs ≡ records_octets u = same-text (records_octets rs) (records_octets u) left right g.0.short f.0.short both in
    no-fault before lists tail text rest fault f.1 g.1 none is faulty
    (append_cancel_left (batch (records_octets rs)) left right (both ∙ ap (λ (t : List ℕ). batch t ++ right) (sym same)))

pub never-faulty : (bytes tail : List ℕ) (lists : List (List JournalRecord)) (fault : BatchFault) → IsJournal bytes lists tail → IsFaulty bytes fault → ⊥
never-faulty bytes tail lists fault j f = no-fault f.lists lists tail f.text f.rest fault f.fit j.fit j.batches.none f.is_batch f.faulty (sym j.batches.octets ∙ f.octets)

-- ---- reading
pub record ReadSoFar (bytes : List ℕ) (records : List JournalRecord) (end : ℕ) : Type 0 where
  pub lists : List (List JournalRecord)
  pub octets : bytes ≡ batches_of (map records_octets lists) ++ drop end bytes
  pub fit : AllByRecursion FitBatch lists
  pub are : records ≡ all_records lists
  pub within : end ≤ length bytes

pub reads-none : (bytes : List ℕ) → ReadSoFar bytes [] 0
reads-none bytes = record { lists = []; octets = refl; fit = tt; are = refl; within = omega arith }

all-push : {A : Type 0} (P : A → Type 0) (xs : List A) (x : A) → AllByRecursion P xs → P x → AllByRecursion P (xs ++ x ∷ [])
all-push P [] x f p = (p, tt)
all-push P (y ∷ xs) x f p = (f.0, all-push P xs x f.1 p)

batches-push : (lists : List (List JournalRecord)) (rs : List JournalRecord) → batches_of (map records_octets (lists ++ rs ∷ [])) ≡ batches_of (map records_octets lists) ++ batch (records_octets rs)
batches-push [] rs = append-nil (batch (records_octets rs))
batches-push (l ∷ lists) rs =
    ap (λ (b : List ℕ). batch (records_octets l) ++ b) (batches-push lists rs) ∙ sym (append_assoc (batch (records_octets l)) (batches_of (map records_octets lists)) (batch (records_octets rs)))

records-push : (lists : List (List JournalRecord)) (rs : List JournalRecord) → all_records (lists ++ rs ∷ []) ≡ all_records lists ++ rs
records-push [] rs = append-nil rs
records-push (l ∷ lists) rs = ap (λ (b : List JournalRecord). l ++ b) (records-push lists rs) ∙ sym (append_assoc l (all_records lists) rs)

-- one batch more
pub reads-more : (bytes : List ℕ) (records now : List JournalRecord) (end then : ℕ) (text : List ℕ) (rs : List JournalRecord) → ReadSoFar bytes records end → drop end bytes ≡ batch text ++ drop (12 + length text) (drop end bytes) → FitsBatch text →
    AreRecords rs → text ≡ records_octets rs → now ≡ records ++ rs → then ≡ end + (12 + length text) → ReadSoFar bytes now then
reads-more bytes records now end then text rs so found fits are same grown moved =
    let behind : drop (12 + length text) (drop end bytes) ≡ drop then bytes = drop-drop (12 + length text) end bytes ∙ ap (λ (k : ℕ). drop k bytes) (sym moved) in
    let front : List ℕ = batches_of (map records_octets so.lists) in
    let parts : drop end bytes ≡ batch (records_octets rs) ++ drop then bytes = found ∙ ap₂ (λ (a b : List ℕ). batch a ++ b) same behind in
    let whole : bytes ≡ batches_of (map records_octets (so.lists ++ rs ∷ [])) ++ drop then bytes =
    so.octets ∙ ap (λ (l : List ℕ). front ++ l) parts ∙ sym (append_assoc front (batch (records_octets rs)) (drop then bytes))
    ∙ ap (λ (l : List ℕ). l ++ drop then bytes) (sym (batches-push so.lists rs)) in
    let fit : FitBatch rs = record { records = are; short = subst (λ (t : List ℕ). length t < 2 ^ 64) same fits.short } in
    let room : 12 + length text ≤ length (drop end bytes) =
    omega (arith, ap length found, length-append (batch text) (drop (12 + length text) (drop end bytes)), length-batch text) in
    record {
      lists = so.lists ++ rs ∷ [];
      octets = whole;
      fit = all-push FitBatch so.lists rs so.fit fit;
      are = grown ∙ ap (λ (l : List JournalRecord). l ++ rs) so.are ∙ sym (records-push so.lists rs);
      within = omega (arith, room, moved, length-drop end bytes, so.within);
    }

-- no batch more
pub reads-end : (bytes : List ℕ) (records : List JournalRecord) (end : ℕ) → ReadSoFar bytes records end → BeginsWithNone (drop end bytes) →
    (lists : List (List JournalRecord)) × IsJournal bytes lists (drop end bytes) × (records ≡ all_records lists)
reads-end bytes records end so none = (so.lists, record { batches = record { octets = so.octets; fit = texts-fit so.lists so.fit; none = none }; fit = so.fit }, so.are)

-- a batch whose text is no records
pub reads-fault : (bytes : List ℕ) (records : List JournalRecord) (end : ℕ) (text : List ℕ) (fault : BatchFault) → ReadSoFar bytes records end → drop end bytes ≡ batch text ++ drop (12 + length text) (drop end bytes) → FitsBatch text →
    records_in text ≡ Err fault → IsFaulty bytes fault
reads-fault bytes records end text fault so found fits faulty = record {
  lists = so.lists;
  text = text;
  rest = drop (12 + length text) (drop end bytes);
  octets = so.octets ∙ ap (λ (l : List ℕ). batches_of (map records_octets so.lists) ++ l) found;
  fit = so.fit;
  is_batch = fits;
  faulty = faulty;
}
