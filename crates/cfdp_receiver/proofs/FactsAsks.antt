-- Exported: a NAK that is due has something to ask for.
use Rattle.std.proofs.Common.{◌≡◌, ℕ, zero, suc, ◌<◌, ◌≤◌, ◌==◌, Bool, true, false, not, ◌&&◌, nat_le, nat_lt, List, [], ◌∷◌, ◌++◌, length, take, Option, Some, None, is_none, refl, sym, ap, ◌∙◌, arith, if◌then◌else◌}
use Rattle.std.specs.FinSet as set
use Rattle.std.specs.Ordering.{nat_cmp}
use Rattle.std.proofs.lemmas.Bool.{false≢true, cond_both, or_left, or_right, and_parts, ltb-true}
use Rattle.cfdp_header.specs.Files.{FileMap}
use Rattle.cfdp_directives.specs.declared.pdu.codes.Acknowledged.TheVariants as acknowledged
use Rattle.cfdp_directives.specs.declared.user.indication.Indication.{Indication}
use Rattle.cfdp_directives.specs.declared.user.indication.Indication.TheVariants as indication
use Rattle.cfdp_directives.specs.Pdu.Codes.{suspend_request, cancel_request}
use Rattle.cfdp_directives.specs.Pdu.Content.{Content, FileData, Metadata, Eof, Finished, Ack, Nak, Prompt, KeepAlive}
use Rattle.cfdp_extents.specs.Offsets.{Offsets, is_within, range, union_of, AreApart, StartBehind}
use Rattle.cfdp_extents.specs.Terms.{gaps_of}
use Rattle.cfdp_store.specs.declared.stored.Stored.{Stored}
use Rattle.cfdp_store.specs.Staged.{OctetMap}
use Rattle.cfdp_receiver.specs.declared.due.Due.{Due}
use Rattle.cfdp_receiver.specs.declared.due.Due.TheVariants as due
use Rattle.cfdp_receiver.specs.State.{ReceiverState, is_receiving, flagged}
use Rattle.cfdp_receiver.specs.Due.{receiver_taken}
use Rattle.cfdp_receiver.specs.Missing.{metadata_pair, missing_pairs, is_empty, asked, has_more, last_end, next_cursor, cursor_by, tidied, scope_limit}
use Rattle.cfdp_receiver.specs.Steps.{ReceiverAfter, leaving, telling, receives_metadata, receives_data, receives_eof, acknowledged_by, prompted_for, ends, failed, takes, waits, expires_by, tidying, anew_once_expired}
use Rattle.cfdp_receiver.specs.Sound.{ReceiverInput, Hears, Takes, Expires, Cancels, Suspends, Resumes, receiver_hears, receiver_step, asks_from, is_tidy, hears_content}
use Rattle.cfdp_receiver.proofs.Facts.{RangesHold}
use Rattle.cfdp_receiver.proofs.FactsPieces.{UnionsHold, DifferencesHold, GapsAre, is_inside}

not-empty : (rs : List (ℕ × ℕ)) (k : ℕ) → set.contains (union_of rs) k ≡ true → is_empty rs ≡ false
unfolding union_of
not-empty [] k h = absurd (false≢true (sym (set.contains-empty nat_cmp k) ∙ h))
not-empty (r ∷ rs) k h = refl

not_true : (b : Bool) → not b ≡ true → b ≡ false
not_true true h = absurd (false≢true h)
not_true false h = refl

append_some : (xs ys : List (ℕ × ℕ)) → is_empty ys ≡ false → is_empty (xs ++ ys) ≡ false
append_some [] ys h = h
append_some (x ∷ xs) ys h = refl

-- what is due otherwise says nothing of what is missing
asks-same : (cursor : Option ℕ) (r r1 : ReceiverState) → ((c : ℕ) → missing_pairs c r1 ≡ missing_pairs c r) → asks_from cursor r1 ≡ asks_from cursor r
asks-same (Some cursor) r r1 h = ap (λ (pairs : List (ℕ × ℕ)). not (is_empty pairs)) (h cursor)
asks-same None r r1 h = refl

-- ---- ranges after the first ones
module _ (ranges : RangesHold) (unions : UnionsHold) (differences : DifferencesHold) (gaps : GapsAre) where
  -- an offset that lies in the ranges, after the end of the first k
  record Behind (end : ℕ) (rs : List (ℕ × ℕ)) : Type 0 where
    pub offset : ℕ
    pub inside : set.contains (union_of rs) offset ≡ true
    pub past : end ≤ offset

  beyond : (k end : ℕ) (rs : List (ℕ × ℕ)) → AreApart rs → StartBehind end rs → k < length rs → Behind (last_end end (take k rs)) rs
  beyond zero end [] apart start more = absurd (omega arith)
  beyond zero end (q ∷ qs) apart start more = record {
    offset = q.0;
    inside = unions q qs q.0 ∙ or_left (is_within q.0 q.1 q.0) (set.contains (union_of qs) q.0) (is_inside q.0 q.1 q.0 (omega arith) apart.0);
    past = (let s : end < q.0 = start in omega (arith, s));
  }
  beyond (suc k) end [] apart start more = absurd (omega arith)
  beyond (suc k) end (q ∷ qs) apart start more =
      let b : Behind (last_end q.1 (take k qs)) qs = beyond k q.1 qs apart.2 apart.1 (omega arith) in
      record {
        offset = b.offset;
        inside = unions q qs b.offset ∙ or_right (is_within q.0 q.1 b.offset) (set.contains (union_of qs) b.offset) b.inside;
        past = b.past;
      }

  beyond-some : (k end : ℕ) (rs : List (ℕ × ℕ)) → AreApart rs → suc k < length rs → Behind (last_end end (take (suc k) rs)) rs
  beyond-some k end [] apart more = absurd (omega arith)
  beyond-some k end (q ∷ qs) apart more =
      let b : Behind (last_end q.1 (take k qs)) qs = beyond k q.1 qs apart.2 apart.1 (omega arith) in
      record {
        offset = b.offset;
        inside = unions q qs b.offset ∙ or_right (is_within q.0 q.1 b.offset) (set.contains (union_of qs) b.offset) b.inside;
        past = b.past;
      }

  -- if an offset is missing there is a gap
  some-gap : (held : Offsets) (start limit k : ℕ) → start ≤ k → k < limit → set.contains held k ≡ false → is_empty (gaps_of held start limit) ≡ false
  some-gap held start limit k low high isnt =
      let rs : List (ℕ × ℕ) = gaps_of held start limit in
      let here : set.contains (union_of rs) k ≡ true =
      ap (λ s. set.contains s k) (gaps held start limit).union ∙ differences (range start limit) held k
      ∙ ap (λ b. b && not (set.contains held k)) (ranges start limit k ∙ is_inside start limit k low high) ∙ ap not isnt in
      not-empty rs k here

  missing-is : (held : Offsets) (start limit k : ℕ) → set.contains (union_of (gaps_of held start limit)) k ≡ true → (k < limit) × (set.contains held k ≡ false)
  missing-is held start limit k h =
      let both : (set.contains (range start limit) k && not (set.contains held k)) ≡ true = sym (ap (λ s. set.contains s k) (gaps held start limit).union ∙ differences (range start limit) held k)
      ∙ h in
      let parts = and_parts (set.contains (range start limit) k) (not (set.contains held k)) both in
      let inside = and_parts (nat_le start k) (nat_lt k limit) (sym (ranges start limit k) ∙ parts.0) in
      (ltb-true k limit inside.1, not_true (set.contains held k) parts.1)

  -- after the first gaps there is one, if there are more
  gap-behind : (held : Offsets) (start limit end k : ℕ) → suc k < length (gaps_of held start limit) → is_empty (gaps_of held (last_end end (take (suc k) (gaps_of held start limit))) limit) ≡ false
  gap-behind held start limit end k more =
      let b : Behind (last_end end (take (suc k) (gaps_of held start limit))) (gaps_of held start limit) = beyond-some k end (gaps_of held start limit) (gaps held start limit).apart more in
      let is = missing-is held start limit b.offset b.inside in
      some-gap held (last_end end (take (suc k) (gaps_of held start limit))) limit b.offset b.past is.0 is.1

  rest-asks : (cursor : ℕ) (r : ReceiverState) → has_more (missing_pairs cursor r) ≡ true → is_empty (missing_pairs (last_end 0 (asked (missing_pairs cursor r))) r) ≡ false
  rest-asks cursor r more =
      let limit : ℕ = scope_limit r in
      let gs : List (ℕ × ℕ) = gaps_of r.held cursor limit in
      let end : ℕ = last_end 0 (asked (missing_pairs cursor r)) in
      append_some (metadata_pair end r) (gaps_of r.held end limit)
      (cond_both (is_none r.metadata && (cursor == 0)) ((0, 0) ∷ []) [] (λ (l : List (ℕ × ℕ)). has_more (l ++ gs) ≡ true → is_empty (gaps_of r.held (last_end 0 (asked (l ++ gs))) limit) ≡ false)
      (λ _ m. let many : 32 < suc (length gs) = ltb-true 32 (suc (length gs)) m in gap-behind r.held cursor limit 0 30 (omega (arith, many)))
      (λ _ m. let many : 32 < length gs = ltb-true 32 (length gs) m in gap-behind r.held cursor limit 0 31 (omega (arith, many)))
      more)

  -- a NAK that was taken
  taken-tidy : (cursor : ℕ) (r : ReceiverState) → asks_from (next_cursor (missing_pairs cursor r)) r ≡ true
  taken-tidy cursor r =
      cond_both (has_more (missing_pairs cursor r)) (Some (last_end 0 (asked (missing_pairs cursor r)))) None (λ o. asks_from o r ≡ true)
      (λ more. ap not (rest-asks cursor r more)) (λ _. refl)

  -- what is tidied is tidy
  tidied-asks : (cursor : Option ℕ) (r : ReceiverState) → asks_from (cursor_by cursor r) r ≡ true
  tidied-asks (Some from) r =
      cond_both (is_empty (missing_pairs from r)) None (Some from) (λ o. asks_from o r ≡ true) (λ _. refl) (λ some. ap not some)
  tidied-asks None r = refl

  tidied-tidy : (r : ReceiverState) → is_tidy (tidied r) ≡ true
  tidied-tidy r = asks-same (cursor_by r.nak_cursor r) r (tidied r) (λ c. refl) ∙ tidied-asks r.nak_cursor r

  module _ (stored : Stored) (m : OctetMap) (files : FileMap) (r : ReceiverState) (was : is_tidy r ≡ true) where
    abbrev Tidy : ReceiverAfter → Type 0
    Tidy a = is_tidy a.receiver ≡ true

    -- if neither the cursor nor what is missing changes
    still : (r1 : ReceiverState) → r1.nak_cursor ≡ r.nak_cursor → ((c : ℕ) → missing_pairs c r1 ≡ missing_pairs c r) → is_tidy r1 ≡ true
    still r1 cursor missing = ap (λ o. asks_from o r1) cursor ∙ asks-same r.nak_cursor r r1 missing ∙ was

    content-tidy : (large : Bool) (v : Content) → Tidy (hears_content stored large v m files r)
    content-tidy large (Metadata checksum_kind size source destination options) =
        tidied-tidy (if is_receiving r.phase then receives_metadata stored checksum_kind size source destination m files r else leaving m files r).receiver
    content-tidy large (FileData offset bytes) = tidied-tidy (if is_receiving r.phase then receives_data stored large offset bytes m files r else leaving m files r).receiver
    content-tidy large (Eof condition checksum size tlvs) = tidied-tidy (if is_receiving r.phase then receives_eof stored large condition checksum size m files r
        else leaving m files (record r { ack_due = Some condition })).receiver
    content-tidy large (Ack acknowledged.Finished condition status) = tidied-tidy (acknowledged_by r)
    content-tidy large (Ack acknowledged.Eof condition status) = was
    content-tidy large (Prompt keep_alive) = tidied-tidy (if is_receiving r.phase then prompted_for keep_alive r else r)
    content-tidy large (Finished condition delivery status tlvs) = was
    content-tidy large (Nak start end pairs) = was
    content-tidy large (KeepAlive progress) = was

    takes-tidy : (d : Due) → Tidy (takes d m files r)
    takes-tidy (due.AckOfEof condition) = still (receiver_taken (due.AckOfEof condition) r) refl (λ c. refl)
    takes-tidy (due.Nak cursor) = asks-same (next_cursor (missing_pairs cursor r)) r (receiver_taken (due.Nak cursor) r) (λ c. refl) ∙ taken-tidy cursor r
    takes-tidy due.KeepAlive = still (receiver_taken due.KeepAlive r) refl (λ c. refl)
    takes-tidy (due.Finished o) = still (receiver_taken (due.Finished o) r) refl (λ c. refl)

    step-by : ((large : Bool) (v : Content) → Tidy (receiver_hears stored large v m files r)) → (input : ReceiverInput) → Tidy (receiver_step stored input m files r)
    step-by heard (Hears large v) = heard large v
    step-by heard (Takes d) = takes-tidy d
    step-by heard (Expires k policy) =
        let a : ReceiverAfter = expires_by k policy m files r in
        cond_both (waits k r) (record (tidying a) { anew = anew_once_expired k }) (leaving m files r) Tidy (λ _. tidied-tidy a.receiver) (λ _. was)
    step-by heard Cancels = cond_both (is_receiving r.phase) (ends (failed cancel_request) m files r) (leaving m files r) Tidy (λ _. refl) (λ _. was)
    step-by heard Suspends =
        let told : List Indication = indication.Suspended r.addressing.id suspend_request ∷ [] in
        cond_both (is_receiving r.phase && not r.suspended) (telling told (leaving m files (record r { suspended = true }))) (leaving m files r) Tidy
        (λ _. still (record r { suspended = true }) refl (λ c. refl)) (λ _. was)
    step-by heard Resumes =
        let told : List Indication = indication.Resumed r.addressing.id ∷ [] in
        cond_both r.suspended (telling told (leaving m files (record r { suspended = false; nak_count = 0; finished_count = 0 }))) (leaving m files r) Tidy
        (λ _. still (record r { suspended = false; nak_count = 0; finished_count = 0 }) refl (λ c. refl)) (λ _. was)

  -- In any step a NAK that is due keeps something to ask for.
  pub step-tidy : (stored : Stored) (m : OctetMap) (files : FileMap) (r : ReceiverState) → is_tidy r ≡ true → (input : ReceiverInput) → is_tidy (receiver_step stored input m files r).receiver ≡ true
  step-tidy stored m files r was = step-by stored m files r was (λ large v. content-tidy stored m files (flagged large r) (asks-same r.nak_cursor r (flagged large r) (λ c. refl) ∙ was) large v)
