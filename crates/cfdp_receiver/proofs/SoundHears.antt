-- What a receiver that heard the truth does about the next PDU that is true of the put.
use Rattle.std.proofs.Common.{◌≡◌, inl, inr, ℕ, ◌+◌, ◌-◌, ◌<◌, ◌≤◌, Bool, true, false, not, ◌&&◌, ◌||◌, ◌==◌, nat_lt, nat_le, List, [], ◌∷◌, ◌++◌, length, drop, Option, Some, None, is_none, is_some, refl, sym, ap, subst, ◌∙◌, arith, if◌then◌else◌, length-take, length-drop}
use Rattle.std.specs.Prelude.{IfSome, slice_get}
use Rattle.std.specs.List.{list_any}
use Rattle.std.specs.FinMap as map
use Rattle.std.specs.FinSet as set
use Rattle.std.proofs.lemmas.Bool.{false≢true, both_ways, cond_both, or_from, eqb-true, le-ltb, cases_Bool, and_parts, leb-true, ltb-true, cases_lt}
use Rattle.cfdp_header.specs.Files.{FileMap}
use Rattle.cfdp_directives.specs.declared.pdu.codes.Acknowledged.TheVariants as acknowledged
use Rattle.cfdp_directives.specs.declared.user.handler.Handler.{Handler}
use Rattle.cfdp_directives.specs.declared.user.handler.Handler.TheVariants.{Cancel, Suspend, Ignore, Abandon}
use Rattle.cfdp_directives.specs.declared.user.indication.Indication.{Indication}
use Rattle.cfdp_directives.specs.declared.user.indication.Indication.TheVariants as indication
use Rattle.cfdp_directives.specs.declared.user.policy.Policy.{Policy}
use Rattle.cfdp_directives.specs.Pdu.Codes.{size_limit, no_error, positive_ack_limit, filestore_rejection, file_size_error, nak_limit, inactivity, unsupported_checksum_type, suspend_request, cancel_request}
use Rattle.cfdp_directives.specs.User.Completions.{completions}
use Rattle.cfdp_directives.specs.Pdu.Content.{Content, FileData, Metadata, Eof, Finished, Ack, Nak, Prompt, KeepAlive}
use Rattle.cfdp_directives.specs.User.Policy.{another_try, fault_told}
use Rattle.cfdp_directives.specs.Pdu.Sums.{nothing_summed}
use Rattle.cfdp_directives.specs.Pdu.Tlv.{Tlv}
use Rattle.cfdp_directives.specs.User.Put.{Put, IsTruthful}
use Rattle.cfdp_extents.specs.Offsets.{range, is_within}
use Rattle.cfdp_extents.specs.Terms.{end_of}
use Rattle.cfdp_store.specs.declared.stored.Stored.{Stored}
use Rattle.cfdp_store.specs.declared.stored.Stored.TheVariants.{Done, Refused}
use Rattle.cfdp_store.specs.Staged.{OctetMap}
use Rattle.cfdp_timers.specs.declared.kind.Kind.{Kind}
use Rattle.cfdp_timers.specs.declared.kind.Kind.TheVariants as kind
use Rattle.cfdp_receiver.specs.declared.due.Due.{Due}
use Rattle.cfdp_receiver.specs.declared.due.Due.TheVariants as due
use Rattle.cfdp_receiver.specs.declared.state.ReceiverPhase.TheVariants.{Receiving, Finishing, Closed}
use Rattle.cfdp_receiver.specs.declared.state.FileInfo.{FileInfo}
use Rattle.cfdp_receiver.specs.declared.state.Ending.{Ending}
use Rattle.cfdp_receiver.specs.State.{ReceiverState, kind_told, flagged, is_receiving, is_finishing}
use Rattle.cfdp_receiver.specs.Due.{receiver_taken}
use Rattle.cfdp_receiver.specs.Pieces.{new_pieces, staged_with}
use Rattle.cfdp_receiver.specs.Steps.{ReceiverAfter, leaving, telling, closed, ends, failed, faulted, completed, is_supported, receives_metadata, exceeds, with_data, receives_new, receives_data, first_eof, cancelled_by, receives_eof, heard, acknowledged_by, prompted_for, takes, waits, handled, asking_again, nak_expires, finished_expires, expires_by, tidying, anew_once_expired}
use Rattle.cfdp_receiver.specs.Sound.{ReceiverInput, Hears, Takes, Expires, Cancels, Suspends, Resumes, receiver_hears, receiver_step, IsEndOf, HoldsOctet, SumsHeld, Sound, IsAmong, IsTrueInput, BeginsWithin, is_file_fault, IsReceivable, hears_content}
use Rattle.cfdp_receiver.proofs.Facts.{is_receiving-is}
use Rattle.cfdp_receiver.proofs.Sums.{sums-with, sums-named}
use Rattle.cfdp_receiver.proofs.SoundSteps.{data-is, LowerLaws, After, Known, over, keeps, faults, telling-first, timed, completes, itself}

none-there : (o : Option FileInfo) → is_some o ≡ false → o ≡ None
none-there None h = refl
none-there (Some info) h = absurd (false≢true (sym h))

not_false : (b : Bool) → not b ≡ false → b ≡ true
not_false true h = refl
not_false false h = absurd (false≢true (sym h))

-- ---- file data
by_and : (a b : Bool) (x y : Option ℕ) → (a && not b) ≡ true → (if a && not b then x else y) ≡ x
by_and a b x y h = ap (λ c. if c then x else y) h

no_longer : (a b : Bool) → b ≡ true → (a && not b) ≡ false
no_longer true b h = ap not h
no_longer false b h = refl

or_other : (a b : Bool) → (a || b) ≡ true → a ≡ false → b ≡ true
or_other a b h isnt = sym (ap (λ c. c || b) isnt) ∙ h

and_new : (a b : Bool) → a ≡ true → b ≡ false → (a && not b) ≡ true
and_new a b p q = ap (λ c. c && not b) p ∙ ap not q

module _ (laws : LowerLaws) (put : Put) (pdus : List (List ℕ)) (fits : Type 0) (receivable : fits → IsReceivable put) (files : FileMap) (m : OctetMap) (r : ReceiverState)
    (s : Sound put pdus r m) where
  abbrev To : ReceiverAfter → Type 0
  To a = After laws put pdus fits files r a

  known : Known laws put pdus fits files r
  known = (s.name, s.end)

  new-octet : (offset : ℕ) (bytes : List ℕ) → r.phase ≡ Receiving → IsTruthful put (FileData offset bytes) → IsAmong put pdus (FileData offset bytes)
      → (n : ℕ) → set.contains (set.union r.held (range offset (offset + length bytes))) n ≡ true → HoldsOctet put pdus (staged_with m (new_pieces r.held offset bytes)) n
  new-octet offset bytes is truth among n h =
      let end : ℕ = offset + length bytes in
      let m1 : OctetMap = staged_with m (new_pieces r.held offset bytes) in
      let staged = laws.staged m r.held offset bytes n in
      elim (cases_Bool (set.contains r.held n)) [
        | inl was ↦
            let o : HoldsOctet put pdus m n = s.octets is n was in
            record {
              within = o.within;
              same = staged ∙ ap (λ b. if b then slice_get bytes (n - offset) else map.get m n) (no_longer (is_within offset end n) (set.contains r.held n) was) ∙ o.same;
              was_heard = o.was_heard;
            }
        | inr wasnt ↦
            let inside : is_within offset end n ≡ true = sym (laws.sets.ranges offset end n)
            ∙ or_other (set.contains r.held n) (set.contains (range offset end) n) (sym (laws.sets.sets r.held (range offset end) n) ∙ h) wasnt in
            let parts = and_parts (nat_le offset n) (nat_lt n end) inside in
            let low : offset ≤ n = leb-true offset n parts.0 in
            let high : n < offset + length bytes = ltb-true n end parts.1 in
            record {
              within = omega (arith, low, high, ap length truth, length-take (length bytes) (drop offset put.octets), length-drop offset put.octets);
              same = staged ∙ by_and (is_within offset end n) (set.contains r.held n) (slice_get bytes (n - offset)) (map.get m n)
                  (and_new (is_within offset end n) (set.contains r.held n) inside wasnt) ∙ data-is put.octets bytes offset n truth low high;
              was_heard = among n low high;
            }
      ]

  no-excess : (large : Bool) (offset : ℕ) (bytes : List ℕ) → length put.octets ≤ size_limit large → offset ≤ length put.octets → IsTruthful put (FileData offset bytes) → (ending : Option Ending) →
      IfSome ending (IsEndOf put pdus) → exceeds large ending (offset + length bytes) ≡ false
  no-excess large offset bytes most low truth (Some ending) e =
      let end : ℕ = offset + length bytes in
      let within : end ≤ length put.octets = omega (arith, low, ap length truth, length-take (length bytes) (drop offset put.octets), length-drop offset put.octets) in
      let size : ending.size ≡ length put.octets = e.1 in
      or_from (nat_lt ending.size end) (nat_lt (size_limit large) end) (le-ltb ending.size end (omega (arith, within, size))) (le-ltb (size_limit large) end (omega (arith, within, most)))
  no-excess large offset bytes most low truth None e =
      let end : ℕ = offset + length bytes in
      let within : end ≤ length put.octets = omega (arith, low, ap length truth, length-take (length bytes) (drop offset put.octets), length-drop offset put.octets) in
      le-ltb (size_limit large) end (omega (arith, within, most))

  data-true : (stored : Stored) (large : Bool) (offset : ℕ) (bytes : List ℕ) → r.phase ≡ Receiving → IsTruthful put (FileData offset bytes) → IsAmong put pdus (FileData offset bytes) →
      (fits → (offset ≤ length put.octets) × (length put.octets ≤ size_limit large))
      → To (receives_data stored large offset bytes m files r)
  data-true stored large offset bytes is truth among begins =
      let end : ℕ = offset + length bytes in
      cond_both (exceeds large r.ending end) (faulted file_size_error m files r)
      (if set.is_subset (range offset end) r.held then completed stored m files r else receives_new stored offset bytes m files r) To
      (λ far. faults laws put pdus fits files file_size_error m r known (λ f. absurd (both_ways (exceeds large r.ending end) (no-excess large offset bytes (begins f).1
      (begins f).0 truth r.ending s.end) far)))
      (λ _. cond_both (set.is_subset (range offset end) r.held) (completed stored m files r) (receives_new stored offset bytes m files r) To
      (λ _. completes laws put pdus fits files m r is s stored)
      (λ _. new stored))
    where
      r1 : ReceiverState
      r1 = with_data offset bytes r

      m1 : OctetMap
      m1 = staged_with m (new_pieces r.held offset bytes)

      new : (stored : Stored) → To (receives_new stored offset bytes m files r)
      new Done = completes laws put pdus fits files m1 r1 is (record {
        name = s.name;
        end = s.end;
        octets = λ _. new-octet offset bytes is truth among;
        sum = λ _. sums-with laws.sets laws.checksums (kind_told r.metadata) put.octets r.held r.sums offset bytes truth (s.sum is);
      }) Done
      new Refused = faults laws put pdus fits files filestore_rejection m r known (λ _. refl)

  -- ---- Metadata
  metadata-true : (stored : Stored) (checksum_kind size : ℕ) (source destination : List ℕ) (options : List Tlv) → r.phase ≡ Receiving →
      IsTruthful put (Metadata checksum_kind size source destination options)
      → IsAmong put pdus (Metadata checksum_kind size source destination options) → To (receives_metadata stored checksum_kind size source destination m files r)
  metadata-true stored checksum_kind size source destination options is truth among =
      let i : Indication = indication.MetadataRecv r.addressing.id source destination size in
      let info : FileInfo = record { checksum_kind = checksum_kind; destination = destination } in
      let r1 : ReceiverState = record r { metadata = Some info; nak_count = 0 } in
      let heard_first : r.metadata ≡ None → Sound put pdus r1 m = λ none. record {
        name = (truth.0, truth.3, among);
        end = s.end;
        octets = s.octets;
        sum = λ _. sums-named laws.checksums checksum_kind put.octets r.held r.sums (subst (λ o. SumsHeld (kind_told o) r.held put.octets r.sums) none (s.sum is));
      } in
      let tested : ReceiverAfter = if is_supported checksum_kind then completed stored m files r1 else faulted unsupported_checksum_type m files r1 in
      cond_both (is_some r.metadata) (leaving m files r) (telling (i ∷ []) tested) To
      (λ _. itself laws put pdus fits files m r is s)
      (λ first. let s1 = heard_first (none-there r.metadata first) in telling-first laws put pdus fits files i r.addressing.id tested (λ own. refl) refl
      (cond_both (is_supported checksum_kind) (completed stored m files r1) (faulted unsupported_checksum_type m files r1) To
      (λ _. completes laws put pdus fits files m r1 is s1 stored)
      (λ other. faults laws put pdus fits files unsupported_checksum_type m r1 (s1.name, s1.end)
      (λ f. let able : IsReceivable put = receivable f in absurd (both_ways (is_supported checksum_kind) other (ap is_supported truth.0 ∙ able.supported))))))

  -- ---- EOF
  end-within : r.phase ≡ Receiving → (size : ℕ) → size ≡ length put.octets → end_of r.held ≤ size
  end-within is size same = elim (cases_lt 0 (end_of r.held)) [
    | inl some ↦ let o : HoldsOctet put pdus m (end_of r.held - 1) = s.octets is (end_of r.held - 1) (laws.last r.held some) in let low : end_of r.held - 1 < length put.octets = o.within in
        omega (arith, low, same)
    | inr none ↦ omega arith
  ]

  eof-true : (stored : Stored) (large : Bool) (condition checksum size : ℕ) (tlvs : List Tlv) → r.phase ≡ Receiving → IsTruthful put (Eof condition checksum size tlvs) →
      IsAmong put pdus (Eof condition checksum size tlvs) → (fits → length put.octets ≤ size_limit large)
      → To (receives_eof stored large condition checksum size m files r)
  eof-true stored large condition checksum size tlvs is truth among begins =
      let again : ReceiverAfter = leaving m files (record r { ack_due = Some no_error; nak_cursor = Some 0 }) in
      let i : Indication = indication.EofRecv r.addressing.id in
      let ending : Ending = record { checksum = checksum; size = size } in
      let r1 : ReceiverState = record r { ending = Some ending; ack_due = Some no_error; nak_cursor = Some 0 } in
      let tested : ReceiverAfter = if nat_lt size (end_of r.held) || nat_lt (size_limit large) size then faulted file_size_error m files r1 else completed stored m files r1 in
      cond_both (not (condition == no_error)) (cancelled_by condition m files r) (if is_none r.ending then first_eof stored large checksum size m files r else again) To
      (λ _. keeps laws put pdus fits files r.addressing.id (cancelled_by condition m files r) (over laws put pdus fits files Closed r.metadata r.ending set.empty nothing_summed m refl s.name s.end) refl
      (λ own. refl) refl)
      (λ fine.
      let clean : condition ≡ no_error = eqb-true condition no_error (not_false (condition == no_error) fine) in
      let t = truth clean in
      let s1 : Sound put pdus r1 m = record { name = s.name; end = (t.0, t.1, among clean); octets = s.octets; sum = s.sum } in
      cond_both (is_none r.ending) (first_eof stored large checksum size m files r) again To
      (λ _. telling-first laws put pdus fits files i r.addressing.id tested (λ own. refl) refl
      (cond_both (nat_lt size (end_of r.held) || nat_lt (size_limit large) size) (faulted file_size_error m files r1) (completed stored m files r1) To
      (λ far. faults laws put pdus fits files file_size_error m r1 (s1.name, s1.end)
      (λ f. absurd (both_ways (nat_lt size (end_of r.held) || nat_lt (size_limit large) size) (not-far is size t.1 (begins f)) far)))
      (λ _. completes laws put pdus fits files m r1 is s1 stored)))
      (λ _. keeps laws put pdus fits files r.addressing.id again s refl (λ own. refl) refl))
    where
      not-far : r.phase ≡ Receiving → (size : ℕ) → size ≡ length put.octets → length put.octets ≤ size_limit large → (nat_lt size (end_of r.held) || nat_lt (size_limit large) size) ≡ false
      not-far is size same most =
          or_from (nat_lt size (end_of r.held)) (nat_lt (size_limit large) size) (le-ltb size (end_of r.held) (end-within is size same)) (le-ltb (size_limit large) size (omega (arith, most, same)))

  -- ---- all that is heard
  -- what differs in what is due alone
  quiet : (r1 : ReceiverState) → Sound put pdus r1 m → To (leaving m files r1)
  quiet r1 s1 = keeps laws put pdus fits files r.addressing.id (leaving m files r1) s1 refl (λ own. refl) refl

  same : To (leaving m files r)
  same = quiet r s

  heard-one : (step other : ReceiverAfter) → (r.phase ≡ Receiving → To step) → To other → To (heard (if is_receiving r.phase then step else other))
  heard-one step other does others =
      timed laws put pdus fits files (Some kind.Inactivity) r.addressing.id (if is_receiving r.phase then step else other)
      (cond_both (is_receiving r.phase) step other To (λ is. does (is_receiving-is r.phase is)) (λ _. others))

  -- a closed receiver
  shut : Sound put pdus (closed r) m
  shut = over laws put pdus fits files Closed r.metadata r.ending set.empty nothing_summed m refl s.name s.end

  content-true : (stored : Stored) (large : Bool) (v : Content) → IsTruthful put v → IsAmong put pdus v → (fits → BeginsWithin put (Hears large v)) → To (hears_content stored large v m files r)
  content-true stored large (Metadata checksum_kind size source destination options) truth among begins =
      heard-one (receives_metadata stored checksum_kind size source destination m files r) (leaving m files r)
      (λ is. metadata-true stored checksum_kind size source destination options is truth among) same
  content-true stored large (FileData offset bytes) truth among begins =
      heard-one (receives_data stored large offset bytes m files r) (leaving m files r) (λ is. data-true stored large offset bytes is truth among begins) same
  content-true stored large (Eof condition checksum size tlvs) truth among begins =
      heard-one (receives_eof stored large condition checksum size m files r) (leaving m files (record r { ack_due = Some condition }))
      (λ is. eof-true stored large condition checksum size tlvs is truth among begins)
      (quiet (record r { ack_due = Some condition }) s)
  content-true stored large (Ack acknowledged.Finished condition status) truth among begins =
      timed laws put pdus fits files (Some kind.Inactivity) r.addressing.id (leaving m files (acknowledged_by r))
      (quiet (acknowledged_by r) (cond_both (is_finishing r.phase && r.finished_taken) (closed r) r (λ (x : ReceiverState). Sound put pdus x m) (λ _. shut) (λ _. s)))
  content-true stored large (Ack acknowledged.Eof condition status) truth among begins = same
  content-true stored large (Prompt true) truth among begins =
      timed laws put pdus fits files (Some kind.Inactivity) r.addressing.id (leaving m files (if is_receiving r.phase then prompted_for true r else r))
      (quiet (if is_receiving r.phase then prompted_for true r else r) (cond_both (is_receiving r.phase) (prompted_for true r) r (λ (x : ReceiverState). Sound put pdus x m) (λ _. s) (λ _. s)))
  content-true stored large (Prompt false) truth among begins =
      timed laws put pdus fits files (Some kind.Inactivity) r.addressing.id (leaving m files (if is_receiving r.phase then prompted_for false r else r))
      (quiet (if is_receiving r.phase then prompted_for false r else r) (cond_both (is_receiving r.phase) (prompted_for false r) r (λ (x : ReceiverState). Sound put pdus x m) (λ _. s) (λ _. s)))
  content-true stored large (Finished condition delivery status tlvs) truth among begins = same
  content-true stored large (Nak start end pairs) truth among begins = same
  content-true stored large (KeepAlive progress) truth among begins = same

  -- ---- all else
  tells-quiet : (r1 : ReceiverState) (told : List Indication) → Sound put pdus r1 m → ((own : ℕ) → completions own (told ++ []) ≡ []) → list_any is_file_fault (told ++ []) ≡ false →
      To (telling told (leaving m files r1))
  tells-quiet r1 told s1 none fine = keeps laws put pdus fits files r.addressing.id (telling told (leaving m files r1)) s1 refl none fine

  ended : (condition : ℕ) → list_any is_file_fault (faulted condition m files r).told ≡ false → To (faulted condition m files r)
  ended condition fine = faults laws put pdus fits files condition m r known (λ _. fine)

  handled-true : (h : Handler) (condition : ℕ) → list_any is_file_fault (indication.Fault r.addressing.id condition ∷ []) ≡ false → To (handled h condition m files r)
  handled-true Cancel condition fine = ended condition fine
  handled-true Suspend condition fine = tells-quiet (record r { suspended = true }) (fault_told Suspend r.addressing.id condition) s (λ own. refl) fine
  handled-true Ignore condition fine = tells-quiet (record r { nak_count = 0; finished_count = 0 }) (fault_told Ignore r.addressing.id condition) s (λ own. refl) fine
  handled-true Abandon condition fine = tells-quiet (closed r) (fault_told Abandon r.addressing.id condition) shut (λ own. refl) fine

  asks-true : (h : Handler) → To (asking_again h (handled h nak_limit m files r))
  asks-true Cancel = handled-true Cancel nak_limit refl
  asks-true Suspend = handled-true Suspend nak_limit refl
  asks-true Ignore = tells-quiet (record r { nak_count = 0; finished_count = 0; nak_cursor = Some 0 }) (fault_told Ignore r.addressing.id nak_limit) s (λ own. refl) refl
  asks-true Abandon = handled-true Abandon nak_limit refl

  nak-true : (count : Option ℕ) (h : Handler) → To (nak_expires count h m files r)
  nak-true (Some count) h = quiet (record r { nak_count = count; nak_cursor = Some 0 }) s
  nak-true None h = asks-true h

  finished-true : (count : Option ℕ) → To (finished_expires count m files r)
  finished-true (Some count) = quiet (record r { finished_count = count; finished_due = true }) s
  finished-true None = handled-true Abandon positive_ack_limit refl

  expires-true : (k : Kind) (policy : Policy) → To (expires_by k policy m files r)
  expires-true kind.Nak policy = nak-true (another_try r.nak_count policy.limits.nak) policy.handlers.nak
  expires-true kind.FinishedAck policy = finished-true (another_try r.finished_count policy.limits.finished)
  expires-true kind.Inactivity policy = handled-true policy.handlers.inactivity inactivity refl
  expires-true kind.EofAck policy = same

  takes-true : (d : Due) → To (takes d m files r)
  takes-true (due.AckOfEof condition) = quiet (receiver_taken (due.AckOfEof condition) r) s
  takes-true (due.Nak cursor) = quiet (receiver_taken (due.Nak cursor) r) s
  takes-true due.KeepAlive = quiet (receiver_taken due.KeepAlive r) s
  takes-true (due.Finished o) = keeps laws put pdus fits files r.addressing.id (takes (due.Finished o) m files r) s refl (λ own. refl) refl

  -- Any step of a receiver that heard the truth, if one is so that hears a PDU.
  step-by : (stored : Stored) → ((large : Bool) (v : Content) → IsTruthful put v → IsAmong put pdus v → (fits → BeginsWithin put (Hears large v)) → To (receiver_hears stored large v m files r)) →
      (input : ReceiverInput) → IsTrueInput put pdus input → (fits → BeginsWithin put input) → To (receiver_step stored input m files r)
  step-by stored heard (Hears large v) t begins = heard large v t.0 t.1 begins
  step-by stored heard (Takes d) t begins = takes-true d
  step-by stored heard (Expires k policy) t begins =
      let a : ReceiverAfter = expires_by k policy m files r in
      cond_both (waits k r) (record (tidying a) { anew = anew_once_expired k }) (leaving m files r) To
      (λ _. timed laws put pdus fits files (anew_once_expired k) r.addressing.id a (expires-true k policy)) (λ _. same)
  step-by stored heard Cancels t begins =
      cond_both (is_receiving r.phase) (ends (failed cancel_request) m files r) (leaving m files r) To
      (λ _. keeps laws put pdus fits files r.addressing.id (ends (failed cancel_request) m files r) (over laws put pdus fits files Finishing r.metadata r.ending set.empty nothing_summed m refl s.name s.end) refl
      (λ own. refl) refl) (λ _. same)
  step-by stored heard Suspends t begins =
      let r1 : ReceiverState = record r { suspended = true } in
      let told : List Indication = indication.Suspended r.addressing.id suspend_request ∷ [] in
      cond_both (is_receiving r.phase && not r.suspended) (telling told (leaving m files r1)) (leaving m files r) To (λ _. tells-quiet r1 told s (λ own. refl) refl) (λ _. same)
  step-by stored heard Resumes t begins =
      let r1 : ReceiverState = record r { suspended = false; nak_count = 0; finished_count = 0 } in
      let told : List Indication = indication.Resumed r.addressing.id ∷ [] in
      cond_both r.suspended (telling told (leaving m files r1)) (leaving m files r) To (λ _. tells-quiet r1 told s (λ own. refl) refl) (λ _. same)

-- Any step of a receiver that heard the truth.
pub step-true : (laws : LowerLaws) (put : Put) (pdus : List (List ℕ)) (fits : Type 0) → (fits → IsReceivable put) → (files : FileMap) (m : OctetMap) (r : ReceiverState) → Sound put pdus r m →
    (stored : Stored) (input : ReceiverInput) → IsTrueInput put pdus input → (fits → BeginsWithin put input) → After laws put pdus fits files r (receiver_step stored input m files r)
step-true laws put pdus fits receivable files m r s stored =
    step-by laws put pdus fits receivable files m r s stored (λ large v. content-true laws put pdus fits receivable files m (flagged large r) s stored large v)
