-- What a step leaves of what is held, and of what is staged there.
use Rattle.std.proofs.Common.{◌≡◌, ℕ, ◌+◌, ◌-◌, Bool, true, false, not, ◌&&◌, ◌||◌, List, length, Option, refl, sym, ap, ◌∙◌, rules, if◌then◌else◌}
use Rattle.std.specs.Prelude.{slice_get}
use Rattle.std.specs.FinMap as map
use Rattle.std.specs.FinSet as set
use Rattle.std.specs.Cmp.{nat_cmp_total}
use Rattle.std.proofs.lemmas.Bool.{false≢true, both_ways, cond_both}
use Rattle.cfdp_header.specs.Files.{FileMap}
use Rattle.cfdp_directives.specs.declared.pdu.codes.Acknowledged.TheVariants as acknowledged
use Rattle.cfdp_directives.specs.declared.user.policy.Policy.{Policy}
use Rattle.cfdp_directives.specs.Pdu.Codes.{file_size_error}
use Rattle.cfdp_header.specs.declared.value.PduType.TheVariants.{FileDirective}
use Rattle.cfdp_directives.specs.Pdu.Content.{Content, FileData, Metadata, Eof, Finished, Ack, Nak, Prompt, KeepAlive, pdu_type_of}
use Rattle.cfdp_extents.specs.Offsets.{Offsets, range, is_within}
use Rattle.cfdp_store.specs.declared.stored.Stored.{Stored}
use Rattle.cfdp_store.specs.declared.stored.Stored.TheVariants.{Done, Refused}
use Rattle.cfdp_store.specs.Staged.{OctetMap}
use Rattle.cfdp_timers.specs.declared.kind.Kind.{Kind}
use Rattle.cfdp_receiver.specs.declared.due.Due.{Due}
use Rattle.cfdp_receiver.specs.declared.state.FileInfo.{FileInfo}
use Rattle.cfdp_receiver.specs.declared.state.Ending.{Ending}
use Rattle.cfdp_receiver.specs.declared.state.ReceiverPhase.TheVariants.{Receiving, Finishing}
use Rattle.cfdp_receiver.specs.State.{ReceiverState, is_receiving, flagged}
use Rattle.cfdp_receiver.specs.Pieces.{new_pieces, staged_with}
use Rattle.cfdp_receiver.specs.Steps.{ReceiverAfter, leaving, faulted, completed, completed_by, exceeds, with_data, receives_new, receives_data, hears_data}
use Rattle.cfdp_receiver.specs.Sound.{ReceiverInput, Hears, Takes, Expires, Cancels, Suspends, Resumes, receiver_step, held_after}

completed-octets : (stored : Stored) (metadata : Option FileInfo) (ending : Option Ending) (m : OctetMap) (files : FileMap) (r : ReceiverState) → (completed_by stored metadata ending m files r).octets
    ≡ m
completed-octets stored metadata ending m files r = search rules

-- of what is held while it receives
completed-held : (stored : Stored) (metadata : Option FileInfo) (ending : Option Ending) (m : OctetMap) (files : FileMap) (r : ReceiverState) →
    (completed_by stored metadata ending m files r).receiver.phase ≡ Receiving
    → (completed_by stored metadata ending m files r).receiver.held ≡ r.held
completed-held stored metadata ending m files r = search rules

no_more : {Y : Type 0} → Finishing ≡ Receiving → Y
no_more e = absurd (false≢true (ap is_receiving e))

or_same : (a b : Bool) → (b ≡ true → a ≡ true) → a ≡ (a || b)
or_same true b h = refl
or_same false true h = h refl
or_same false false h = refl

-- what the law of held octets says
abbrev pub StagedNew : Type 0
StagedNew = (m : OctetMap) (held : Offsets) (offset : ℕ) (bytes : List ℕ) (n : ℕ) →
    map.get (staged_with m (new_pieces held offset bytes)) n
    ≡ (if is_within offset (offset + length bytes) n && not (set.contains held n) then slice_get bytes (n - offset) else map.get m n)

abbrev pub SetsHold : Type 0
SetsHold = (a b : Offsets) (n : ℕ) → set.contains (set.union a b) n ≡ (set.contains a n || set.contains b n)

no_new : (a b : Bool) (x y : Option ℕ) → b ≡ true → (if a && not b then x else y) ≡ y
no_new true b x y h = ap (λ c. if not c then x else y) h
no_new false b x y h = refl

-- ---- file data
module _ (staged : StagedNew) (sets : SetsHold) (offset : ℕ) (bytes : List ℕ) (n : ℕ) where
  new-octets : (stored : Stored) (m : OctetMap) (files : FileMap) (r : ReceiverState) → set.contains r.held n ≡ true → map.get (receives_new stored offset bytes m files r).octets n ≡ map.get m n
  new-octets Done m files r was =
      let m1 : OctetMap = staged_with m (new_pieces r.held offset bytes) in
      let r1 : ReceiverState = with_data offset bytes r in
      ap (λ o. map.get o n) (completed-octets Done r1.metadata r1.ending m1 files r1)
      ∙ staged m r.held offset bytes n
      ∙ no_new (is_within offset (offset + length bytes) n) (set.contains r.held n) (slice_get bytes (n - offset)) (map.get m n) was
  new-octets Refused m files r was = refl

  pub data-octets : (large : Bool) (stored : Stored) (m : OctetMap) (files : FileMap) (r : ReceiverState) → set.contains r.held n ≡ true →
      map.get (hears_data stored large offset bytes m files r).octets n ≡ map.get m n
  data-octets large stored m files r was =
      let Same : ReceiverAfter → Type 0 = λ a. map.get a.octets n ≡ map.get m n in
      cond_both (is_receiving r.phase) (receives_data stored large offset bytes m files r) (leaving m files r) Same
      (λ _. cond_both (exceeds large r.ending (offset + length bytes)) (faulted file_size_error m files r)
      (if set.is_subset (range offset (offset + length bytes)) r.held then completed stored m files r else receives_new stored offset bytes m files r) Same
      (λ _. refl)
      (λ _. cond_both (set.is_subset (range offset (offset + length bytes)) r.held) (completed stored m files r) (receives_new stored offset bytes m files r) Same
      (λ _. ap (λ o. map.get o n) (completed-octets stored r.metadata r.ending m files r))
      (λ _. new-octets stored m files r was)))
      (λ _. refl)

  new-held : (stored : Stored) (m : OctetMap) (files : FileMap) (r : ReceiverState) → (receives_new stored offset bytes m files r).receiver.phase ≡ Receiving
      → set.contains (receives_new stored offset bytes m files r).receiver.held n ≡ set.contains (set.union r.held (range offset (offset + length bytes))) n
  new-held Done m files r is =
      let r1 : ReceiverState = with_data offset bytes r in
      ap (λ h. set.contains h n) (completed-held Done r1.metadata r1.ending (staged_with m (new_pieces r.held offset bytes)) files r1 is)
  new-held Refused m files r is = no_more is

  pub data-held : (large : Bool) (stored : Stored) (m : OctetMap) (files : FileMap) (r : ReceiverState) → (hears_data stored large offset bytes m files r).receiver.phase ≡ Receiving
      → set.contains (hears_data stored large offset bytes m files r).receiver.held n ≡ set.contains (set.union r.held (range offset (offset + length bytes))) n
  data-held large stored m files r =
      let Holds : ReceiverAfter → Type 0 = λ a. a.receiver.phase ≡ Receiving → set.contains a.receiver.held n ≡ set.contains (set.union r.held (range offset (offset + length bytes))) n in
      cond_both (is_receiving r.phase) (receives_data stored large offset bytes m files r) (leaving m files r) Holds
      (λ _. cond_both (exceeds large r.ending (offset + length bytes)) (faulted file_size_error m files r)
      (if set.is_subset (range offset (offset + length bytes)) r.held then completed stored m files r else receives_new stored offset bytes m files r) Holds
      (λ _ is. no_more is)
      (λ _. cond_both (set.is_subset (range offset (offset + length bytes)) r.held) (completed stored m files r) (receives_new stored offset bytes m files r) Holds
      (λ held is.
      ap (λ h. set.contains h n) (completed-held stored r.metadata r.ending m files r is)
      ∙ or_same (set.contains r.held n) (set.contains (range offset (offset + length bytes)) n) (λ h. set.is_subset-contains nat_cmp_total (range offset (offset + length bytes)) r.held held n h)
      ∙ sym (sets r.held (range offset (offset + length bytes)) n))
      (λ _ is. new-held stored m files r is)))
      (λ over is. absurd (both_ways (is_receiving r.phase) over (ap is_receiving is)))

-- ---- all else leaves what is staged, and holds what it held while it receives
module _ (stored : Stored) (m : OctetMap) (files : FileMap) (r : ReceiverState) where
  record Leaves (a : ReceiverAfter) : Type 0 where
    pub octets : a.octets ≡ m
    pub held : a.receiver.phase ≡ Receiving → a.receiver.held ≡ r.held

  hears-leaves : (large : Bool) (v : Content) → pdu_type_of v ≡ FileDirective → Leaves (receiver_step stored (Hears large v) m files r)
  hears-leaves large (Metadata checksum_kind size source destination options) other = record { octets = search rules; held = search rules }
  hears-leaves large (FileData offset bytes) other = absurd cc
  hears-leaves large (Eof condition checksum size tlvs) other = record { octets = search rules; held = search rules }
  hears-leaves large (Ack acknowledged.Finished condition status) other = record { octets = refl; held = search rules }
  hears-leaves large (Ack acknowledged.Eof condition status) other = record { octets = refl; held = λ _. refl }
  hears-leaves large (Prompt keep_alive) other = record { octets = refl; held = search rules }
  hears-leaves large (Finished condition delivery status tlvs) other = record { octets = refl; held = λ _. refl }
  hears-leaves large (Nak start end pairs) other = record { octets = refl; held = λ _. refl }
  hears-leaves large (KeepAlive progress) other = record { octets = refl; held = λ _. refl }

  expires-leaves : (k : Kind) (policy : Policy) → Leaves (receiver_step stored (Expires k policy) m files r)
  expires-leaves k policy = record { octets = search rules; held = search rules }

  takes-leaves : (d : Due) → Leaves (receiver_step stored (Takes d) m files r)
  takes-leaves d = record { octets = refl; held = search rules }

  cancels-leaves : Leaves (receiver_step stored Cancels m files r)
  cancels-leaves = record { octets = search rules; held = search rules }

  suspends-leaves : Leaves (receiver_step stored Suspends m files r)
  suspends-leaves = record { octets = search rules; held = search rules }

  resumes-leaves : Leaves (receiver_step stored Resumes m files r)
  resumes-leaves = record { octets = search rules; held = search rules }

-- ---- any input
module _ (staged : StagedNew) (sets : SetsHold) (stored : Stored) (m : OctetMap) (files : FileMap) (r : ReceiverState) (n : ℕ) where
  from_leaves : (a : ReceiverAfter) → Leaves stored m files r a → map.get a.octets n ≡ map.get m n
  from_leaves a l = ap (λ o. map.get o n) l.octets

  held_leaves : (a : ReceiverAfter) → Leaves stored m files r a → a.receiver.phase ≡ Receiving → set.contains a.receiver.held n ≡ set.contains r.held n
  held_leaves a l is = ap (λ h. set.contains h n) (l.held is)

  pub step-octets : (input : ReceiverInput) → set.contains r.held n ≡ true → map.get (receiver_step stored input m files r).octets n ≡ map.get m n
  step-octets (Hears large (FileData offset bytes)) was = data-octets staged sets offset bytes n large stored m files (flagged large r) was
  step-octets (Hears large (Metadata checksum_kind size source destination options)) was =
      from_leaves (receiver_step stored (Hears large (Metadata checksum_kind size source destination options)) m files r)
      (hears-leaves stored m files r large (Metadata checksum_kind size source destination options) refl)
  step-octets (Hears large (Eof condition checksum size tlvs)) was = from_leaves (receiver_step stored (Hears large (Eof condition checksum size tlvs)) m files r)
      (hears-leaves stored m files r large (Eof condition checksum size tlvs) refl)
  step-octets (Hears large (Ack of condition status)) was = from_leaves (receiver_step stored (Hears large (Ack of condition status)) m files r) (hears-leaves stored m files r large
      (Ack of condition status) refl)
  step-octets (Hears large (Prompt keep_alive)) was = refl
  step-octets (Hears large (Finished condition delivery status tlvs)) was = refl
  step-octets (Hears large (Nak start end pairs)) was = refl
  step-octets (Hears large (KeepAlive progress)) was = refl
  step-octets (Takes d) was = refl
  step-octets (Expires k policy) was = from_leaves (receiver_step stored (Expires k policy) m files r) (expires-leaves stored m files r k policy)
  step-octets Cancels was = from_leaves (receiver_step stored Cancels m files r) (cancels-leaves stored m files r)
  step-octets Suspends was = from_leaves (receiver_step stored Suspends m files r) (suspends-leaves stored m files r)
  step-octets Resumes was = from_leaves (receiver_step stored Resumes m files r) (resumes-leaves stored m files r)

  pub step-held : (input : ReceiverInput) → (receiver_step stored input m files r).receiver.phase ≡ Receiving → set.contains (receiver_step stored input m files r).receiver.held n
      ≡ set.contains (held_after input r.held) n
  step-held (Hears large (FileData offset bytes)) = data-held staged sets offset bytes n large stored m files (flagged large r)
  step-held (Hears large (Metadata checksum_kind size source destination options)) =
      held_leaves (receiver_step stored (Hears large (Metadata checksum_kind size source destination options)) m files r)
      (hears-leaves stored m files r large (Metadata checksum_kind size source destination options) refl)
  step-held (Hears large (Eof condition checksum size tlvs)) = held_leaves (receiver_step stored (Hears large (Eof condition checksum size tlvs)) m files r)
      (hears-leaves stored m files r large (Eof condition checksum size tlvs) refl)
  step-held (Hears large (Ack of condition status)) = held_leaves (receiver_step stored (Hears large (Ack of condition status)) m files r) (hears-leaves stored m files r large
      (Ack of condition status) refl)
  step-held (Hears large (Prompt keep_alive)) = held_leaves (receiver_step stored (Hears large (Prompt keep_alive)) m files r) (hears-leaves stored m files r large (Prompt keep_alive) refl)
  step-held (Hears large (Finished condition delivery status tlvs)) = λ _. refl
  step-held (Hears large (Nak start end pairs)) = λ _. refl
  step-held (Hears large (KeepAlive progress)) = λ _. refl
  step-held (Takes d) = held_leaves (receiver_step stored (Takes d) m files r) (takes-leaves stored m files r d)
  step-held (Expires k policy) = held_leaves (receiver_step stored (Expires k policy) m files r) (expires-leaves stored m files r k policy)
  step-held Cancels = held_leaves (receiver_step stored Cancels m files r) (cancels-leaves stored m files r)
  step-held Suspends = held_leaves (receiver_step stored Suspends m files r) (suspends-leaves stored m files r)
  step-held Resumes = held_leaves (receiver_step stored Resumes m files r) (resumes-leaves stored m files r)
