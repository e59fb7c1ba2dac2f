-- What comes back is restored, and true of a receiver.
use Rattle.std.proofs.Common.{◌≡◌, inr, ℕ, ◌≤◌, Bool, true, false, not, ◌&&◌, ◌||◌, List, take, Option, Some, None, refl, sym, ap, ◌∙◌, if◌then◌else◌, is_some}
use Rattle.std.specs.FinMap as map
use Rattle.std.specs.FinSet as set
use Rattle.std.specs.Ordering.{nat_cmp}
use Rattle.std.specs.Cmp.{nat_cmp_total}
use Rattle.std.proofs.lemmas.Bool.{false≢true}
use Rattle.cfdp_directives.specs.declared.pdu.sums.Checksums.{Checksums}
use Rattle.cfdp_extents.specs.Offsets.{Offsets, range}
use Rattle.cfdp_store.specs.Staged.{OctetMap}
use Rattle.cfdp_sender.specs.declared.phase.SenderPhase.{SenderPhase}
use Rattle.cfdp_sender.specs.declared.phase.SenderPhase.TheVariants as sending
use Rattle.cfdp_sender.specs.State.{SenderState, IsCause}
use Rattle.cfdp_sender.specs.Inputs.{front_sums}
use Rattle.cfdp_receiver.specs.declared.state.Ending.{Ending}
use Rattle.cfdp_receiver.specs.declared.state.FileInfo.{FileInfo}
use Rattle.cfdp_receiver.specs.declared.state.ReceiverPhase.{ReceiverPhase}
use Rattle.cfdp_receiver.specs.declared.state.ReceiverPhase.TheVariants as receiving
use Rattle.cfdp_receiver.specs.Missing.{missing_pairs, is_empty, cursor_by, tidied}
use Rattle.cfdp_receiver.specs.State.{ReceiverState, kind_told, is_finishing, is_receiving}
use Rattle.cfdp_receiver.specs.Sound.{asks_from, is_whole, is_lacking, is_tidy, goes_well, owes_finished}
use Rattle.cfdp_receiver.specs.Back as back
use Rattle.cfdp_receiver.specs.Back.{asks_anew, received_in}
use Rattle.cfdp_sender.specs.Back as sending_back
use Rattle.cfdp_sender.specs.Back.{sent_in}
use Rattle.cfdp_resuming.specs.Receiver.{IsKeptOf, IsRestoredReceiver, SumsStaged}
use Rattle.cfdp_resuming.specs.Sender.{IsRestoredSender}

-- an offset that is held was held, and its octet is there
abbrev pub IsPartOf : Offsets → Offsets → Type 0
IsPartOf held all = (k : ℕ) → set.contains held k ≡ true → set.contains all k ≡ true

pub no-such : (p : ReceiverPhase) → is_receiving p ≡ false → p ≡ receiving.Receiving → ⊥
no-such p over is = false≢true (sym over ∙ ap is_receiving is)

module _ (r : ReceiverState) (m : OctetMap) (held : Offsets) (sums : Checksums) (n : OctetMap) (part : IsPartOf held r.held)
    (there : (k : ℕ) → set.contains held k ≡ true → map.get n k ≡ map.get m k) (summed : SumsStaged (kind_told r.metadata) held n sums) where
  pub back-restored : (p : ReceiverPhase) → r.phase ≡ p → IsRestoredReceiver r m (received_in p held sums (back.committed_of r)) n
  back-restored receiving.Receiving is = record {
    addressing = refl;
    metadata = inr refl;
    ending = inr refl;
    held = λ now k has. (is, part k has, there k has);
    sums = λ now. summed;
  }
  back-restored receiving.Finishing is = record {
    addressing = refl;
    metadata = inr refl;
    ending = inr refl;
    held = λ now. absurd (no-such r.phase (ap is_receiving is) now);
    sums = λ now. absurd (no-such r.phase (ap is_receiving is) now);
  }
  back-restored receiving.Closed is = record {
    addressing = refl;
    metadata = inr refl;
    ending = inr refl;
    held = λ now. absurd (no-such r.phase (ap is_receiving is) now);
    sums = λ now. absurd (no-such r.phase (ap is_receiving is) now);
  }

-- the same, as one of what it has come to
pub back-as : (r s : ReceiverState) (m n : OctetMap) (held : Offsets) (sums : Checksums) → s.addressing ≡ r.addressing → IsKeptOf s.metadata r.metadata → IsKeptOf s.ending r.ending
    → ((k : ℕ) → set.contains held k ≡ true → (s.phase ≡ receiving.Receiving) × (set.contains s.held k ≡ true) × (map.get n k ≡ map.get m k)) → SumsStaged (kind_told r.metadata) held n sums
    → (p : ReceiverPhase) → r.phase ≡ p → IsRestoredReceiver s m (received_in p held sums (back.committed_of r)) n
back-as r s m n held sums same named ended there summed receiving.Receiving is = record {
  addressing = sym same;
  metadata = named;
  ending = ended;
  held = λ now. there;
  sums = λ now. summed;
}
back-as r s m n held sums same named ended there summed receiving.Finishing is = record {
  addressing = sym same;
  metadata = named;
  ending = ended;
  held = λ now. absurd (no-such r.phase (ap is_receiving is) now);
  sums = λ now. absurd (no-such r.phase (ap is_receiving is) now);
}
back-as r s m n held sums same named ended there summed receiving.Closed is = record {
  addressing = sym same;
  metadata = named;
  ending = ended;
  held = λ now. absurd (no-such r.phase (ap is_receiving is) now);
  sums = λ now. absurd (no-such r.phase (ap is_receiving is) now);
}

-- ---- what is true of a receiver
not-more : (a b : Bool) → (b ≡ true → a ≡ true) → not a ≡ true → not b ≡ true
not-more a true f h = absurd (false≢true (ap not (sym (f refl)) ∙ h))
not-more a false f h = refl

whole-less : (held all : Offsets) → IsPartOf held all → (info : Option FileInfo) (ending : Option Ending) → is_whole info ending held ≡ true → is_whole info ending all ≡ true
whole-less held all part (Some info) (Some ending) h =
    set.contains-is_subset nat_cmp_total (range 0 ending.size) all (λ q is. part q (set.is_subset-contains nat_cmp_total (range 0 ending.size) held h q is))
whole-less held all part (Some info) None h = h
whole-less held all part None ending h = h

or-none : (a b : Bool) → a ≡ false → (a || b) ≡ true → b ≡ true
or-none true b off h = absurd (false≢true (sym off))
or-none false b off h = h

over-so : (a b : Bool) → a ≡ false → (not a || b) ≡ true
over-so true b h = absurd (false≢true (sym h))
over-so false b h = refl

pub back-lacking : (held : Offsets) (sums : Checksums) (r : ReceiverState) → IsPartOf held r.held → is_lacking r ≡ true → (p : ReceiverPhase) → r.phase ≡ p → is_lacking (received_in p held sums (back.committed_of r)) ≡ true
back-lacking held sums r part lacking receiving.Receiving is =
    let some : not (is_whole r.metadata r.ending r.held) ≡ true = or-none (not (is_receiving r.phase)) (not (is_whole r.metadata r.ending r.held)) (ap (λ q. not (is_receiving q)) is) lacking in
    let none : not (is_whole r.metadata r.ending held) ≡ true = not-more (is_whole r.metadata r.ending r.held) (is_whole r.metadata r.ending held) (whole-less held r.held part r.metadata r.ending) some in
    ap (λ b. not (is_receiving r.phase) || b) none ∙ either (not (is_receiving r.phase))
  where
    either : (a : Bool) → (a || true) ≡ true
    either true = refl
    either false = refl
back-lacking held sums r part lacking receiving.Finishing is = over-so (is_receiving r.phase) _ (ap is_receiving is)
back-lacking held sums r part lacking receiving.Closed is = over-so (is_receiving r.phase) _ (ap is_receiving is)

by-empty : (from : ℕ) (r : ReceiverState) (b : Bool) → is_empty (missing_pairs from r) ≡ b → asks_from (if b then None else Some from) r ≡ true
by-empty from r true e = refl
by-empty from r false e = ap not e

tidy-of : (o : Option ℕ) (r : ReceiverState) → asks_from (cursor_by o r) r ≡ true
tidy-of None r = refl
tidy-of (Some from) r = by-empty from r (is_empty (missing_pairs from r)) refl

like : (o : Option ℕ) (r s : ReceiverState) → ((from : ℕ) → missing_pairs from s ≡ missing_pairs from r) → asks_from o r ≡ true → asks_from o s ≡ true
like None r s same h = refl
like (Some from) r s same h = ap (λ l. not (is_empty l)) (same from) ∙ h

pub back-tidy : (held : Offsets) (sums : Checksums) (r : ReceiverState) (p : ReceiverPhase) → is_tidy (received_in p held sums (back.committed_of r)) ≡ true
back-tidy held sums r receiving.Receiving =
    let t : ReceiverState = record (back.committed (back.committed_of r)) { held = held; sums = sums; nak_cursor = asks_anew r.ending } in
    like (cursor_by t.nak_cursor t) t (tidied t) (λ from. refl) (tidy-of t.nak_cursor t)
back-tidy held sums r receiving.Finishing = refl
back-tidy held sums r receiving.Closed = refl

pub back-well : (held : Offsets) (sums : Checksums) (r : ReceiverState) (p : ReceiverPhase) → goes_well r ≡ true → goes_well (received_in p held sums (back.committed_of r)) ≡ true
back-well held sums r receiving.Receiving h = h
back-well held sums r receiving.Finishing h = h
back-well held sums r receiving.Closed h = h

second : (a b c : Bool) → (a || (b && c)) ≡ true → (a || c) ≡ true
second true b c h = refl
second false true c h = h
second false false c h = absurd (false≢true h)

pub back-owes : (held : Offsets) (sums : Checksums) (r : ReceiverState) → owes_finished r ≡ true → (p : ReceiverPhase) → r.phase ≡ p → owes_finished (received_in p held sums (back.committed_of r)) ≡ true
back-owes held sums r h receiving.Receiving is = over-so (is_finishing r.phase) _ (ap is_finishing is)
back-owes held sums r h receiving.Finishing is = second _ (r.finished_due || r.finished_taken) (is_some r.outcome) h
back-owes held sums r h receiving.Closed is = over-so (is_finishing r.phase) _ (ap is_finishing is)

-- ---- a sender
pub sender-back : (file : List ℕ) (sent : ℕ) (sums : Checksums) (x : SenderState) → sent ≤ x.size → sums ≡ front_sums x.checksum_kind (take sent file) → IsCause x.phase x.condition → (p : SenderPhase) → x.phase ≡ p
    → IsRestoredSender file x (sent_in p sent sums (sending_back.committed_of x))
sender-back file sent sums x low front cause sending.Sending is =
    record { transfer = refl; sent = low; front = front; asked = λ n has. absurd (false≢true (sym (set.contains-empty nat_cmp n) ∙ has)); cause = cause }
sender-back file sent sums x low front cause sending.Cancelling is =
    record { transfer = refl; sent = low; front = front; asked = λ n has. absurd (false≢true (sym (set.contains-empty nat_cmp n) ∙ has)); cause = cause }
sender-back file sent sums x low front cause sending.Closed is =
    record { transfer = refl; sent = low; front = front; asked = λ n has. absurd (false≢true (sym (set.contains-empty nat_cmp n) ∙ has)); cause = cause }
