-- Whose turn it is, of what type its PDU is, and that it has octets.
use Rattle.std.proofs.Common.{arith, ◌≡◌, ℕ, zero, suc, ◌≤◌, Bool, true, false, List, [], ◌∷◌, length, get_or, slice_get, Option, Some, None, is_some, refl, sym, ap, subst, ◌∙◌}
use Rattle.cfdp_header.specs.Files.{FileMap}
use Rattle.cfdp_directives.specs.declared.pdu.addressing.Addressing.{Addressing}
use Rattle.cfdp_directives.specs.Pdu.Codes.{is_large}
use Rattle.cfdp_directives.specs.Pdu.Content.{Content}
use Rattle.cfdp_store.specs.declared.stored.Stored.TheVariants.{Done, Refused}
use Rattle.cfdp_store.specs.Files.{octets_in}
use Rattle.cfdp_sender.specs.State.{SenderState}
use Rattle.cfdp_sender.specs.Due.{sender_due}
use Rattle.cfdp_sender.specs.declared.due.SenderDue.{SenderDue}
use Rattle.cfdp_receiver.specs.State.{ReceiverState}
use Rattle.cfdp_receiver.specs.Due.{receiver_due}
use Rattle.cfdp_receiver.specs.declared.due.Due.{Due}
use Rattle.cfdp_entity.specs.Entity.{EntityState, own_id}
use Rattle.cfdp_entity.specs.declared.polled.Rooms.{Rooms}
use Rattle.cfdp_entity.specs.declared.record.Gave.{Gave}
use Rattle.cfdp_entity.specs.declared.record.Gave.TheVariants.{Octets, Failed}
use Rattle.cfdp_entity.specs.Gives.{Gives, Writes, stored_by_gave}
use Rattle.cfdp_entity.specs.Polling.{turn, turn_by, turn_data, turn_len, turn_octets, turn_room, room_in, served, Turn, Place, MovesPdu, LosesPdu}
use Rattle.cfdp_entity.specs.Seen.{Seen, Sends, Receives, is_due, due_len, sender_content, receiver_content, len_of}
use Rattle.cfdp_entity.specs.Sound.{SpellsTurn}
use Rattle.cfdp_entity.specs.Spelled.{EntryIsSpelled}
use Rattle.cfdp_entity.specs.Strays.{StrayAck}
use Rattle.cfdp_entity.specs.Table.{Entry, has_due, next_due, data_at, due_at, len_at, len_due}
use Rattle.cfdp_entity.proofs.CallerLemmas.{next-due}
use Rattle.cfdp_entity.proofs.Sparing.{resting}
use Rattle.cfdp_entity.proofs.Spelled.{entry-spells}

some-len : (large : Bool) (a : Addressing) (v : Content) → 1 ≤ len_of large a (Some v)
some-len large a v = omega arith

sender-len : (file : List ℕ) (x : SenderState) (o : Option SenderDue) → is_some o ≡ true → 1 ≤ len_of (is_large x.size) x.addressing (sender_content file x o)
sender-len file x None due = absurd (cc)
sender-len file x (Some d) due = some-len (is_large x.size) x.addressing _

receiver-len : (r : ReceiverState) (o : Option Due) → is_some o ≡ true → 1 ≤ len_of r.large r.addressing (receiver_content r o)
receiver-len r None due = absurd (cc)
receiver-len r (Some d) due = some-len r.large r.addressing _

seen-len : (sources : FileMap) (s : Seen) → is_due s ≡ true → 1 ≤ due_len sources s
seen-len sources (Sends x) due = sender-len (octets_in sources x.source) x (sender_due x) due
seen-len sources (Receives r m) due = receiver-len r (receiver_due r) due

-- the record at an index, or one of which nothing is due
due-there : (records : List Entry) (place : ℕ) (d : Entry) → has_due d ≡ false → has_due (get_or records place d) ≡ true → (sources : FileMap) → 1 ≤ len_due sources (slice_get records place)
due-there [] place d rests due sources = absurd (cc)
due-there (e ∷ es) zero d rests due sources = seen-len sources e.1 due
due-there (e ∷ es) (suc n) d rests due sources = due-there es n d rests due sources

-- a stray acknowledgement has the room of a directive
pub stray-room : (rooms : Rooms) (e : EntityState) → 1 ≤ length e.strays → turn_room rooms e ≡ rooms.directives
stray-room rooms e = by e.strays
  where
    by : (strays : List StrayAck) → 1 ≤ length strays → room_in rooms (turn_data (turn_by strays (next_due e.cursor e.table.records)) e) ≡ rooms.directives
    by [] some = absurd (omega arith)
    by (s ∷ strays) some = refl

module _ (rooms : Rooms) (place : ℕ) (old new : EntityState) (no_stray : old.strays ≡ []) (next : next_due old.cursor old.table.records ≡ Some place) where
  turn-is : turn old ≡ Place place
  turn-is = λ i. turn_by (no_stray i) (next i)

  -- a record has the room for the type of what it has due
  room-is : turn_room rooms old ≡ room_in rooms (data_at place old.table)
  room-is = ap (λ (t : Turn). room_in rooms (turn_data t old)) turn-is

  next-len : 1 ≤ len_at place old.table
  next-len = due-there old.table.records place (own_id 0 0, resting) refl (next-due old.cursor old.table.records place (own_id 0 0, resting) next) old.table.sources

  -- its octets are those of what it says, if that is so of what the record has due
  pub place-spells : EntryIsSpelled old.table.sources (slice_get old.table.records place) → SpellsTurn (turn old) old
  place-spells is = subst (λ t. SpellsTurn t old) (sym turn-is) (entry-spells old.table.sources (slice_get old.table.records place) is next-len)

  fits-room : len_at place old.table ≤ room_in rooms (data_at place old.table) → turn_len (turn old) old ≤ turn_room rooms old
  fits-room fits = subst (λ (r : ℕ). turn_len (turn old) old ≤ r) (sym room-is) (subst (λ (t : Turn). turn_len t old ≤ room_in rooms (data_at place old.table)) (sym turn-is) fits)

  moves-place : (n : ℕ) (is_data : Bool) (out out_now : List ℕ) → is_data ≡ data_at place old.table → len_at place old.table ≤ room_in rooms (data_at place old.table) →
      n ≡ len_at place old.table → Writes (due_at place old.table) n out out_now → new ≡ served Done (Place place) old → MovesPdu n (turn_room rooms old) is_data old new out out_now
  moves-place n is_data out out_now type fits len writes is =
      let turn_len_is : n ≡ turn_len (turn old) old = len ∙ sym (ap (λ t. turn_len t old) turn-is) in
      record {
        type = type ∙ sym (ap (λ t. turn_data t old) turn-is);
        some = subst (λ k. 1 ≤ k) (sym len) next-len;
        fits = subst (λ (k : ℕ). k ≤ turn_room rooms old) (sym turn_len_is) (fits-room fits);
        len = turn_len_is;
        writes = subst (λ t. Writes (turn_octets t old) n out out_now) (sym turn-is) writes;
        served = is ∙ sym (ap (λ t. served Done t old) turn-is);
      }

  pub moves-gave : (gave : Gave) (n : ℕ) (is_data : Bool) (out out_now : List ℕ) → gave ≡ Octets n → is_data ≡ data_at place old.table →
      len_at place old.table ≤ room_in rooms (data_at place old.table) → new ≡ served (stored_by_gave gave) (Place place) old →
      Gives (due_at place old.table) (len_at place old.table) gave out out_now → MovesPdu n (turn_room rooms old) is_data old new out out_now
  moves-gave gave n is_data out out_now is type fits state gives =
      let given : Gives (due_at place old.table) (len_at place old.table) (Octets n) out out_now = subst (λ g. Gives (due_at place old.table) (len_at place old.table) g out out_now) is gives in
      moves-place n is_data out out_now type fits given.0 given.1 (state ∙ ap (λ g. served (stored_by_gave g) (Place place) old) is)

  pub loses-gave : (gave : Gave) → gave ≡ Failed → len_at place old.table ≤ room_in rooms (data_at place old.table) → new ≡ served (stored_by_gave gave) (Place place) old →
      (gave ≡ Failed → data_at place old.table ≡ true) → LosesPdu (turn_room rooms old) old new
  loses-gave gave is fits state carries = record {
    place = place;
    is_next = turn-is;
    carries = carries is;
    fits = fits-room fits;
    served = state ∙ ap (λ g. served (stored_by_gave g) (Place place) old) is ∙ sym (ap (λ t. served Refused t old) turn-is);
  }
