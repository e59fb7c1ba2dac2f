-- A receiver that hears the truth of a put keeps it, and publishes the put's file.
use Rattle.std.proofs.Common.{◌≡◌, ◌⊎◌, inl, inr, ℕ, zero, suc, ◌+◌, ◌-◌, ◌<◌, ◌≤◌, Bool, true, false, not, ◌&&◌, ◌||◌, ◌==◌, List, [], ◌∷◌, ◌++◌, length, take, drop, Option, Some, None, refl, sym, ap, subst, ◌∙◌, arith, if◌then◌else◌}
use Rattle.std.specs.Prelude.{IfSome, slice_get, unwrap_or}
use Rattle.std.specs.List.{list_any}
use Rattle.std.specs.FinMap as map
use Rattle.std.specs.FinSet as set
use Rattle.std.specs.Cmp.{nat_cmp_total}
use Rattle.std.proofs.lemmas.Bool.{both_ways, cond_both, eq-eqb, or_right}
use Rattle.cfdp_header.specs.declared.value.TransactionId.{TransactionId}
use Rattle.cfdp_header.specs.Files.{FileMap}
use Rattle.cfdp_directives.specs.declared.user.indication.Indication.{Indication}
use Rattle.cfdp_directives.specs.Pdu.Codes.{filestore_rejection, file_checksum_failure, null}
use Rattle.cfdp_directives.specs.User.Completions.{completions}
use Rattle.cfdp_directives.specs.declared.pdu.sums.Checksums.{Checksums}
use Rattle.cfdp_directives.specs.Pdu.Checksum.{checksum_of}
use Rattle.cfdp_directives.specs.Pdu.Sums.{nothing_summed, wants, sum_told}
use Rattle.cfdp_directives.specs.User.Put.{Put}
use Rattle.cfdp_directives.proofs.Puts.{completions-append}
use Rattle.cfdp_extents.specs.Offsets.{Offsets, range, is_within}
use Rattle.cfdp_extents.specs.Terms.{end_of}
use Rattle.cfdp_store.specs.declared.stored.Stored.{Stored}
use Rattle.cfdp_store.specs.declared.stored.Stored.TheVariants.{Done, Refused}
use Rattle.cfdp_store.specs.Staged.{OctetMap, front_from, front}
use Rattle.cfdp_timers.specs.declared.kind.Kind.{Kind}
use Rattle.cfdp_receiver.specs.declared.state.ReceiverPhase.{ReceiverPhase}
use Rattle.cfdp_receiver.specs.declared.state.ReceiverPhase.TheVariants.{Receiving, Finishing}
use Rattle.cfdp_receiver.specs.declared.state.FileInfo.{FileInfo}
use Rattle.cfdp_receiver.specs.declared.state.Ending.{Ending}
use Rattle.cfdp_receiver.specs.State.{ReceiverState, kind_told, is_receiving}
use Rattle.cfdp_receiver.specs.Missing.{tidied}
use Rattle.cfdp_receiver.specs.Pieces.{new_pieces, staged_with}
use Rattle.cfdp_receiver.specs.Steps.{ReceiverAfter, leaving, telling, faulted, agrees, published_by, completed_by, completed}
use Rattle.cfdp_receiver.specs.Sound.{PublishesNone, IsNameOf, IsEndOf, HoldsOctet, KeepsTruth, Sound, PublishesPut, is_file_fault}
use Rattle.cfdp_receiver.proofs.Facts.{RangesHold, in_range}
use Rattle.cfdp_receiver.proofs.Sums.{SetLaws, ChecksumsHold, sums-all, wants-it}

-- ---- octets of a file
taken-is : (n : ℕ) (ys : List ℕ) (k x : ℕ) → slice_get (take n ys) k ≡ Some x → slice_get ys k ≡ Some x
taken-is zero ys k x h = cc
taken-is (suc n) [] k x h = h
taken-is (suc n) (y ∷ ys) zero x h = h
taken-is (suc n) (y ∷ ys) (suc k) x h = taken-is n ys k x h

dropped-is : (at : ℕ) (file : List ℕ) (k : ℕ) → slice_get (drop at file) k ≡ slice_get file (at + k)
dropped-is zero file k = let e : 0 + k ≡ k = omega arith in ap (slice_get file) (sym e)
dropped-is (suc at) [] k = refl
dropped-is (suc at) (y ∷ file) k = let e : suc at + k ≡ suc (at + k) = omega arith in dropped-is at file k ∙ ap (slice_get (y ∷ file)) (sym e)

some-at : (xs : List ℕ) (k : ℕ) → k < length xs → (x : ℕ) × (slice_get xs k ≡ Some x)
some-at [] k h = absurd (omega arith)
some-at (y ∷ xs) zero h = (y, refl)
some-at (y ∷ xs) (suc k) h = some-at xs k (omega arith)

-- an octet of truthful file data is the file's
pub data-is : (file bytes : List ℕ) (offset n : ℕ) → bytes ≡ take (length bytes) (drop offset file) → offset ≤ n → n < offset + length bytes → slice_get bytes (n - offset) ≡ slice_get file n
data-is file bytes offset n truth low high =
    let there : offset + (n - offset) ≡ n = omega (arith, low) in
    let one = some-at bytes (n - offset) (omega arith) in
    one.1 ∙ sym (ap (slice_get file) (sym there) ∙ sym (dropped-is offset file (n - offset))
    ∙ taken-is (length bytes) (drop offset file) (n - offset) one.0 (ap (λ xs. slice_get xs (n - offset)) (sym truth) ∙ one.1))

-- what is staged is the file
front-is : (m : OctetMap) (file : List ℕ) (at size : ℕ) → size ≡ length file → ((n : ℕ) → n < size → map.get m (at + n) ≡ slice_get file n) → front_from m at size ≡ file
unfolding front_from
front-is m [] at zero e h = refl
front-is m (x ∷ file) at zero e h = absurd (omega arith)
front-is m [] at (suc size) e h = absurd (omega arith)
front-is m (x ∷ file) at (suc size) e h =
    let zero_at : at + 0 ≡ at = omega arith in
    let first : map.get m at ≡ Some x = ap (map.get m) (sym zero_at) ∙ h 0 (omega arith) in
    let rest : front_from m (at + 1) size ≡ file = front-is m file (at + 1) size (omega arith)
    (λ n low. let next : at + 1 + n ≡ at + suc n = omega arith in ap (map.get m) next ∙ h (suc n) (omega arith)) in
    ap (λ o. unwrap_or o 0 ∷ front_from m (at + 1) size) first ∙ ap (λ xs. x ∷ xs) rest

-- ---- the laws of the crates below
pub record LowerLaws : Type 0 where
  pub sets : SetLaws
  pub checksums : ChecksumsHold
  pub last : (held : Offsets) → 0 < end_of held → set.contains held (end_of held - 1) ≡ true
  pub staged : (m : OctetMap) (held : Offsets) (offset : ℕ) (bytes : List ℕ) (n : ℕ) →
      map.get (staged_with m (new_pieces held offset bytes)) n
      ≡ (if is_within offset (offset + length bytes) n && not (set.contains held n) then slice_get bytes (n - offset) else map.get m n)

-- What a step leaves is true of the put, and it publishes the put's file or nothing. If the put
-- can be received it raises no fault of the file.
pub record TrueAfter (put : Put) (heard_pdus : List (List ℕ)) (fits : Type 0) (id : TransactionId) (files : FileMap) (a : ReceiverAfter) : Type 0 where
  pub sound : Sound put heard_pdus a.receiver a.octets
  pub publishes : PublishesNone files a ⊎ PublishesPut put heard_pdus id files a
  pub faultless : fits → list_any is_file_fault a.told ≡ false

module _ (laws : LowerLaws) (put : Put) (pdus : List (List ℕ)) (fits : Type 0) (files : FileMap) where
  abbrev pub After : ReceiverState → ReceiverAfter → Type 0
  After r a = TrueAfter put pdus fits r.addressing.id files a

  abbrev pub Known : ReceiverState → Type 0
  Known r = IfSome r.metadata (IsNameOf put pdus) × IfSome r.ending (IsEndOf put pdus)

  -- once it doesn't receive
  pub over : (phase : ReceiverPhase) (metadata : Option FileInfo) (ending : Option Ending) (held : Offsets) (sums : Checksums) (m : OctetMap) → is_receiving phase ≡ false
      → IfSome metadata (IsNameOf put pdus) → IfSome ending (IsEndOf put pdus) → KeepsTruth put pdus phase metadata ending held sums m
  over phase metadata ending held sums m not_now n e = record {
    name = n;
    end = e;
    octets = λ is. absurd (both_ways (is_receiving phase) not_now (ap is_receiving is));
    sum = λ is. absurd (both_ways (is_receiving phase) not_now (ap is_receiving is));
  }

  -- nothing ends
  pub keeps : (id : TransactionId) (a : ReceiverAfter) → Sound put pdus a.receiver a.octets → a.files ≡ files → ((own : ℕ) → completions own a.told ≡ []) → list_any is_file_fault a.told ≡ false
      → TrueAfter put pdus fits id files a
  keeps id a s still none fine = record { sound = s; publishes = inl (record { same_files = still; no_completion = none }); faultless = λ _. fine }

  pub faults : (condition : ℕ) (m : OctetMap) (r : ReceiverState) → Known r → (fits → list_any is_file_fault (faulted condition m files r).told ≡ false) → After r (faulted condition m files r)
  faults condition m r k fine = record {
    sound = over Finishing r.metadata r.ending set.empty nothing_summed m refl k.0 k.1;
    publishes = inl (record { same_files = refl; no_completion = λ own. refl });
    faultless = fine;
  }

  pub telling-first : (i : Indication) (id : TransactionId) (a : ReceiverAfter) → ((own : ℕ) → completions own (i ∷ []) ≡ []) → is_file_fault i ≡ false → TrueAfter put pdus fits id files a →
      TrueAfter put pdus fits id files (telling (i ∷ []) a)
  telling-first i id a none fine t = record {
    sound = t.sound;
    publishes = elim t.publishes [
      | inl n ↦ inl (record { same_files = n.same_files; no_completion = λ own. more own ∙ n.no_completion own })
      | inr p ↦ inr (record { heard_in_full = p.heard_in_full; written_over = p.written_over; one_completion = λ own. more own ∙ p.one_completion own })
    ];
    faultless = λ f. ap (λ b. b || list_any is_file_fault a.told) fine ∙ t.faultless f;
  }
    where
      more : (own : ℕ) → completions own (i ∷ a.told) ≡ completions own a.told
      more own = completions-append own (i ∷ []) a.told ∙ ap (λ (ids : List TransactionId). ids ++ completions own a.told) (none own)

  pub timed : (anew : Option Kind) (id : TransactionId) (a : ReceiverAfter) → TrueAfter put pdus fits id files a →
      TrueAfter put pdus fits id files (record a { receiver = tidied a.receiver; anew = anew })
  timed anew id a t = record {
    sound = t.sound;
    publishes = elim t.publishes [
      | inl n ↦ inl (record { same_files = n.same_files; no_completion = n.no_completion })
      | inr p ↦ inr (record { heard_in_full = p.heard_in_full; written_over = p.written_over; one_completion = p.one_completion })
    ];
    faultless = t.faultless;
  }

  -- ---- the completion test
  module _ (m : OctetMap) (r : ReceiverState) (is : r.phase ≡ Receiving) (s : Sound put pdus r m) where
    known : Known r
    known = (s.name, s.end)

    publication : (stored : Stored) (info : FileInfo) (ending : Ending) → r.metadata ≡ Some info → r.ending ≡ Some ending → set.is_subset (range 0 ending.size) r.held ≡ true
        → After r (published_by stored info ending m files r)
    publication Done info ending named ended whole =
        let n : IsNameOf put pdus info = subst (λ o. IfSome o (IsNameOf put pdus)) named s.name in
        let e : IsEndOf put pdus ending = subst (λ o. IfSome o (IsEndOf put pdus)) ended s.end in
        let size : ending.size ≡ length put.octets = e.1 in
        let here : (k : ℕ) → k < ending.size → HoldsOctet put pdus m k =
        λ k low. s.octets is k (set.is_subset-contains nat_cmp_total (range 0 ending.size) r.held whole k (in_range laws.sets.ranges 0 ending.size k (omega arith) low)) in
        let file : front m ending.size ≡ put.octets = front-is m put.octets 0 ending.size size (λ k low. let e : 0 + k ≡ k = omega arith in ap (map.get m) e ∙ (here k low).same) in
        record {
          sound = over Finishing r.metadata r.ending set.empty nothing_summed m refl s.name s.end;
          publishes = inr (record {
            heard_in_full = record { metadata = n.2; ending = e.2; file = λ k low. (here k (omega (arith, size))).was_heard };
            written_over = ap (λ d. map.insert files d (front m ending.size)) n.1 ∙ ap (map.insert files put.destination) file;
            one_completion = λ own. refl;
          });
          faultless = λ _. refl;
        }
    publication Refused info ending named ended whole = faults filestore_rejection m r known (λ _. refl)

    agrees-here : (info : FileInfo) (ending : Ending) → r.metadata ≡ Some info → r.ending ≡ Some ending → set.is_subset (range 0 ending.size) r.held ≡ true → agrees info ending r.sums ≡ true
    agrees-here info ending named ended whole =
        let n : IsNameOf put pdus info = subst (λ o. IfSome o (IsNameOf put pdus)) named s.name in
        let e : IsEndOf put pdus ending = subst (λ o. IfSome o (IsEndOf put pdus)) ended s.end in
        let size : ending.size ≡ length put.octets = e.1 in
        let kind : ℕ = info.checksum_kind in
        let its : wants (kind_told r.metadata) kind ≡ true = ap (λ o. wants (kind_told o) kind) named ∙ wants-it kind kind refl in
        let sum : sum_told kind r.sums ≡ checksum_of kind put.octets = sums-all laws.checksums (kind_told r.metadata) kind put.octets r.held r.sums its (s.sum is)
        (λ k low. set.is_subset-contains nat_cmp_total (range 0 ending.size) r.held whole k (in_range laws.sets.ranges 0 ending.size k (omega arith) (omega (arith, size)))) in
        or_right (kind == null) (sum_told kind r.sums == ending.checksum)
        (eq-eqb (sum_told kind r.sums) ending.checksum (sum ∙ ap (λ k. checksum_of k put.octets) n.0 ∙ sym e.0))

    pub itself : After r (leaving m files r)
    itself = keeps r.addressing.id (leaving m files r) s refl (λ own. refl) refl

    completes-by : (stored : Stored) (metadata : Option FileInfo) (ending : Option Ending) → r.metadata ≡ metadata → r.ending ≡ ending → After r (completed_by stored metadata ending m files r)
    completes-by stored (Some info) (Some ending) named ended =
        cond_both (set.is_subset (range 0 ending.size) r.held)
        (if agrees info ending r.sums then published_by stored info ending m files r else faulted file_checksum_failure m files r) (leaving m files r) (After r)
        (λ whole. cond_both (agrees info ending r.sums) (published_by stored info ending m files r) (faulted file_checksum_failure m files r) (After r)
        (λ _. publication stored info ending named ended whole)
        (λ differs. absurd (both_ways (agrees info ending r.sums) differs (agrees-here info ending named ended whole))))
        (λ _. itself)
    completes-by stored (Some info) None named ended = itself
    completes-by stored None ending named ended = itself

    pub completes : (stored : Stored) → After r (completed stored m files r)
    completes stored = completes-by stored r.metadata r.ending refl refl
