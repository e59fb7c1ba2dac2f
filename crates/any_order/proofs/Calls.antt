-- What each call does at a station, by the laws of an entity.
use Rattle.std.proofs.Common.{◌≡◌, ℕ, zero, suc, ◌+◌, ◌<◌, false, Option, Some, None, List, [], ◌∷◌, ◌++◌, ◌⊎◌, refl, sym, ap, subst, ◌∙◌, inl, inr, arith, append-nil, append_assoc}
use Rattle.std.specs.Prelude.{Contains}
use Rattle.aos_frame.specs.declared.config.Lane.{Lane}
use Rattle.aos_frame.specs.declared.config.Lane.TheVariants.{Directives, Data}
use Rattle.link_stack.specs.AnyOrder.{Receives}
use Rattle.link_stack.specs.EndToEnd.{AreNear, DoesAll, DownCall, Put, Fill, Make, puts_of}
use Rattle.link_stack.specs.Lives.{AreComingOf, ComingOf, numbers_of, octets_coming}
use Rattle.cfdp_header.specs.declared.value.Header.{Header}
use Rattle.cfdp_header.specs.declared.value.TransactionId.{TransactionId}
use Rattle.cfdp_header.specs.Files.{FileMap}
use Rattle.cfdp_header.specs.Ids.{same_id}
use Rattle.cfdp_header.proofs.Ids.{other_id}
use Rattle.cfdp_directives.specs.Pdu.Content.{Content}
use Rattle.cfdp_directives.specs.Pdu.Grammar.{SpellsPdu}
use Rattle.cfdp_directives.specs.User.Put as user
use Rattle.cfdp_directives.specs.User.Put.{SaysTruth}
use Rattle.cfdp_store.specs.declared.stored.Stored.{Stored}
use Rattle.cfdp_store.specs.declared.stored.Stored.TheVariants.{Done, Refused}
use Rattle.cfdp_entity.specs.declared.request.Request.{Request}
use Rattle.cfdp_entity.specs.Entity.{Counted, EntityState, with_table}
use Rattle.cfdp_entity.specs.Polling.{served, turn, turn_octets}
use Rattle.cfdp_entity.specs.Putting.{Accepts}
use Rattle.cfdp_entity.specs.Requests.{IsCalled}
use Rattle.cfdp_entity.specs.Sound.{GoesOn, IsSound, SaysDelivered, SpellsTurn, next_put}
use Rattle.cfdp_entity.specs.Table.{Ticks}
use Rattle.cfdp_station.specs.declared.config.StationConfig.{StationConfig}
use Rattle.cfdp_station.specs.declared.polled.Polled.TheVariants.{Moved, Nothing, Full, SourceFailed}
use Rattle.cfdp_station.specs.Link.{next_lane}
use Rattle.cfdp_station.specs.Polling.{next_pdu}
use Rattle.cfdp_station.specs.Station.{KeepsLink}
use Rattle.cfdp_station.specs.Taking.{HearsAll}
use Rattle.cfdp_station.proofs.AnyOrder.{TruthLaws, all_sound, one_goes}
use Rattle.any_order.specs.Calls.{Call, Puts, Asks, Tells, Polls, Fills, Gives, Receives as receives, Refuses, Restarts, Does, DoesCall, End, StartsAnew, entity_of, lives}
use Rattle.any_order.specs.Promise.{found}
use Rattle.any_order.proofs.Kept.{KeepsLife, Moves, SaysSo}
use Rattle.any_order.proofs.Link.{receives_behind}
use Rattle.any_order.proofs.Puts.{finds_by_id, finds_last}

-- The laws of an entity, except for those of what it hears.
pub record EntityLaws : Type 0 where
  pub put : (p : TransactionId → Option user.Put) (heard : List (List ℕ)) (first : FileMap) (source destination : List ℕ) (id : TransactionId) (old new : EntityState) →
      Accepts source destination id old new → p id ≡ Some (next_put source destination old) → IsSound p heard first old → IsSound p heard first new
  pub called : (p : TransactionId → Option user.Put) (heard : List (List ℕ)) (first : FileMap) (c : Request) (id : TransactionId) (old new : EntityState) → IsCalled c id old new →
      IsSound p heard first old → IsSound p heard first new
  pub ticked : (p : TransactionId → Option user.Put) (heard : List (List ℕ)) (first : FileMap) (now : ℕ) (old new : EntityState) → Ticks now old.table new.table → new ≡ with_table old new.table →
      IsSound p heard first old → IsSound p heard first new
  pub served_by : (p : TransactionId → Option user.Put) (heard : List (List ℕ)) (first : FileMap) (stored : Stored) (e : EntityState) → IsSound p heard first e →
      IsSound p heard first (served stored (turn e) e)
  pub put_on : (source destination : List ℕ) (id : TransactionId) (old new : EntityState) → Accepts source destination id old new → GoesOn old new
  pub called_on : (c : Request) (id : TransactionId) (old new : EntityState) → IsCalled c id old new → GoesOn old new
  pub ticked_on : (now : ℕ) (old new : EntityState) → Ticks now old.table new.table → new ≡ with_table old new.table → GoesOn old new
  pub served_on : (stored : Stored) (e : EntityState) → GoesOn e (served stored (turn e) e)
  pub sends : (p : TransactionId → Option user.Put) (heard : List (List ℕ)) (first : FileMap) (e : EntityState) (h : Header) (v : Content) → IsSound p heard first e → SpellsTurn (turn e) e →
      SpellsPdu h v (turn_octets (turn e) e) →
      SaysTruth e.config.entity p h.id v × SaysDelivered e.config.entity e.table.told h.id v

-- ---- going on
pub goes_same : (old new : EntityState) → new ≡ old → GoesOn old new
goes_same old new e =
    subst (λ (x : EntityState). GoesOn old x) (sym e)
    (record { gained = []; told = sym (append-nil old.table.told); gone = refl; sources = refl; stands = refl; config = refl; next = omega arith })

pub goes_both : (first second third : EntityState) → GoesOn first second → GoesOn second third → GoesOn first third
goes_both first second third g h = record {
  gained = g.gained ++ h.gained;
  told = h.told ∙ ap (λ l. l ++ h.gained) g.told ∙ append_assoc first.table.told g.gained h.gained;
  gone = h.gone ∙ g.gone;
  sources = h.sources ∙ g.sources;
  stands = h.stands ∙ g.stands;
  config = h.config ∙ g.config;
  next = omega (arith, g.next, h.next);
}

pub all_goes : TruthLaws → (pdus : List (List ℕ)) (a b : Counted) → HearsAll pdus a b → GoesOn a.state b.state
all_goes laws [] a b same = goes_same a.state b.state (ap (λ (x : Counted). x.state) same)
all_goes laws (pdu ∷ pdus) a b (mid, here, rest) = goes_both a.state mid.state b.state (one_goes laws pdu a mid here) (all_goes laws pdus mid b rest)

-- ---- what is put into a lane
none_in : {X : Type 0} (x : X) → Contains [] x → ⊥
none_in x c = let k = c.0 in let low : k < 0 = c.1 in omega arith

one_in : {X : Type 0} (y x : X) → Contains (y ∷ []) x → x ≡ y
one_in y x (zero, low, e) = sym e
one_in y x (suc k, low, e) = absurd (omega (arith, low))

put_only : (lane its : Lane) (pdu x : List ℕ) → Contains (puts_of lane (Put its pdu ∷ [])) x → x ≡ pdu
put_only Directives Directives pdu x c = one_in pdu x c
put_only Data Data pdu x c = one_in pdu x c
put_only Directives Data pdu x c = absurd (none_in x c)
put_only Data Directives pdu x c = absurd (none_in x c)

fill_none : (lane its : Lane) (x : List ℕ) → Contains (puts_of lane (Fill its ∷ [])) x → ⊥
fill_none Directives its x c = none_in x c
fill_none Data its x c = none_in x c

make_none : (lane its : Lane) (frame x : List ℕ) → Contains (puts_of lane (Make its frame ∷ [])) x → ⊥
make_none Directives its frame x c = none_in x c
make_none Data its frame x c = none_in x c

-- what a call comes to that hears nothing
down_moves : (t : StationConfig) (old theirs new : End) (puts puts_then : List user.Put) (calls : List DownCall) (added : List user.Put) → Does calls added old new puts puts_then →
    DoesAll calls old.station.down new.station.down → new.station.up ≡ old.station.up → GoesOn (entity_of old) (entity_of new) →
    ((p : TransactionId → Option user.Put) (heard : List (List ℕ)) (first : FileMap) → IsSound p heard first (entity_of old) → (lane : Lane) (x : List ℕ) → Contains (puts_of lane calls) x →
    SaysSo p (entity_of old).config.entity (entity_of old).table.told x) → ((q : user.Put) → Contains added q → (q.id.source ≡ (entity_of old).config.entity) × (q.id.number < (entity_of new).next)) →
    ((heard : List (List ℕ)) (first : FileMap) → IsSound (found puts_then) heard first (entity_of old) → IsSound (found puts_then) heard first (entity_of new)) → Moves t old theirs new puts puts_then
down_moves t old theirs new puts puts_then calls added d does up goes says numbered kept = record {
  one_life = d.goes_on;
  goes = goes;
  calls = calls;
  sent = d.sent;
  does = does;
  says = says;
  comings = [];
  came = d.came ∙ sym (append-nil old.came);
  coming = tt;
  near = λ near lane. subst (λ (l : List ComingOf). AreNear None (numbers_of lane (lives theirs) l)) (sym d.came) (near lane);
  received = (up, d.heard);
  more = [];
  heard = d.heard ∙ sym (append-nil old.heard);
  added = added;
  accepted = d.accepted;
  numbered = numbered;
  kept = λ heard first true_ sound. kept heard first sound;
}

-- the same if the link is as it was, and no put is accepted
quiet : (t : StationConfig) (old theirs new : End) (puts puts_then : List user.Put) → Does [] [] old new puts puts_then → KeepsLink old.station new.station → GoesOn (entity_of old) (entity_of new) →
    ((heard : List (List ℕ)) (first : FileMap) → IsSound (found puts_then) heard first (entity_of old) → IsSound (found puts_then) heard first (entity_of new)) → Moves t old theirs new puts puts_then
quiet t old theirs new puts puts_then d link goes kept =
    down_moves t old theirs new puts puts_then [] [] d link.0 link.1 goes (λ p heard first sound lane x c. absurd (none_in x c)) (λ q c. absurd (none_in q c)) kept

-- A new one was made.
abbrev pub Anew : StationConfig → (old new : End) → (puts puts_then : List user.Put) → Type 0
Anew c old new puts puts_then = (first : ℕ) × ((number : ℕ) × (StartsAnew first number c old new × (puts_then ≡ puts)))

-- an entity that is as it was, or was served
same_kept : (p : TransactionId → Option user.Put) (heard : List (List ℕ)) (first : FileMap) (old new : EntityState) → new ≡ old → IsSound p heard first old → IsSound p heard first new
same_kept p heard first old new same sound = subst (λ (e : EntityState). IsSound p heard first e) (sym same) sound

module _ (laws : EntityLaws) where
  pub served_goes : (stored : Stored) (old new : EntityState) → new ≡ served stored (turn old) old → GoesOn old new
  served_goes stored old new is = subst (λ (e : EntityState). GoesOn old e) (sym is) (laws.served_on stored old)

  served_kept : (p : TransactionId → Option user.Put) (heard : List (List ℕ)) (first : FileMap) (stored : Stored) (old new : EntityState) → new ≡ served stored (turn old) old → IsSound p heard first old →
      IsSound p heard first new
  served_kept p heard first stored old new is sound = subst (λ (e : EntityState). IsSound p heard first e) (sym is) (laws.served_by p heard first stored old sound)

  pub call_moves : TruthLaws → (call : Call) (c t : StationConfig) (first : FileMap) (puts puts_then : List user.Put) (old theirs new : End) → c.receives ≡ t.sends →
      KeepsLife c t first puts old theirs → DoesCall call c old theirs new puts puts_then → Moves t old theirs new puts puts_then ⊎ Anew c old new puts puts_then
  call_moves truth (Puts source destination id) c t first puts puts_then old theirs new link k (accepts, keeps, d) =
      inl (
      let e : EntityState = entity_of old in
      let its : user.Put = next_put source destination e in
      let after : (entity_of new).next ≡ e.next + 1 = ap (λ x. x.next) accepts.opened in
      let none : (q : user.Put) → Contains puts q → same_id q.id its.id ≡ false =
      (λ (q : user.Put) (among : Contains puts q).
      other_id q.id its.id (λ (same : its.id ≡ q.id).
      let source : q.id.source ≡ c.entity.entity = sym (ap (λ i. i.source) same) ∙ k.own in
      let low : q.id.number < e.next = k.numbers q among source in
      let number : e.next ≡ q.id.number = ap (λ i. i.number) same in
      omega arith)) in
      let there : found puts_then id ≡ Some its =
      ap (λ l. found l id) d.accepted ∙ ap (λ i. found (puts ++ its ∷ []) i) accepts.is_next ∙ finds_last puts its none in
      down_moves t old theirs new puts puts_then [] (its ∷ []) d keeps.0 keeps.1 (laws.put_on source destination id e (entity_of new) accepts) (λ p heard first sound lane x c. absurd (none_in x c))
      (λ (q : user.Put) (among : Contains (its ∷ []) q).
      let same : q ≡ its = one_in its q among in (
        ap (λ x. x.id.source) same,
        let number : q.id.number ≡ e.next = ap (λ x. x.id.number) same in omega arith,
      ))
      (λ heard first sound. laws.put (found puts_then) heard first source destination id e (entity_of new) accepts there sound)
      )
  call_moves truth (Asks request id) c t first puts puts_then old theirs new link k (called, keeps, d) =
      inl (
      quiet t old theirs new puts puts_then d keeps (laws.called_on request id (entity_of old) (entity_of new) called)
      (λ heard first sound. laws.called (found puts_then) heard first request id (entity_of old) (entity_of new) called sound)
      )
  call_moves truth (Tells now) c t first puts puts_then old theirs new link k (ticks, table, keeps, d) =
      inl (
      quiet t old theirs new puts puts_then d keeps (laws.ticked_on now (entity_of old) (entity_of new) ticks table)
      (λ heard first sound. laws.ticked (found puts_then) heard first now (entity_of old) (entity_of new) ticks table sound)
      )
  call_moves truth (Polls Moved) c t first puts puts_then old theirs new link k ((moves, up), spells, d) =
      inl (
      let e : EntityState = entity_of old in
      down_moves t old theirs new puts puts_then (Put (next_lane e) (next_pdu e) ∷ []) [] d (new.station.down, (moves.sent, moves.other), refl) up (served_goes Done e (entity_of new) moves.served)
      (λ p heard first sound lane x among h v spelled.
      laws.sends p heard first e h v sound (spells refl) (subst (λ (l : List ℕ). SpellsPdu h v l) (put_only lane (next_lane e) (next_pdu e) x among) spelled))
      (λ q among. absurd (none_in q among)) (λ heard first sound. served_kept (found puts_then) heard first Done e (entity_of new) moves.served sound)
      )
  call_moves truth (Polls Nothing) c t first puts puts_then old theirs new link k ((nothing, up), spells, d) =
      inl (
      let same : entity_of new ≡ entity_of old = ap (λ (x : Counted). x.state) nothing.1 in
      quiet t old theirs new puts puts_then d (nothing.2, up) (goes_same (entity_of old) (entity_of new) same)
      (λ heard first sound. same_kept (found puts_then) heard first (entity_of old) (entity_of new) same sound)
      )
  call_moves truth (Polls Full) c t first puts puts_then old theirs new link k ((full, up), spells, d) =
      inl (
      let same : entity_of new ≡ entity_of old = ap (λ (x : Counted). x.state) full.1 in
      quiet t old theirs new puts puts_then d (full.2, up) (goes_same (entity_of old) (entity_of new) same)
      (λ heard first sound. same_kept (found puts_then) heard first (entity_of old) (entity_of new) same sound)
      )
  call_moves truth (Polls SourceFailed) c t first puts puts_then old theirs new link k ((loses, up), spells, d) =
      inl (
      quiet t old theirs new puts puts_then d (loses.1, up) (served_goes Refused (entity_of old) (entity_of new) loses.0.served)
      (λ heard first sound. served_kept (found puts_then) heard first Refused (entity_of old) (entity_of new) loses.0.served sound)
      )
  call_moves truth (Fills lane) c t first puts puts_then old theirs new link k (flushes, other_, rest, d) =
      inl (
      let same : entity_of new ≡ entity_of old = ap (λ (x : Counted). x.state) rest.0 in
      down_moves t old theirs new puts puts_then (Fill lane ∷ []) [] d (new.station.down, (flushes, other_), refl) rest.1 (goes_same (entity_of old) (entity_of new) same)
      (λ p heard first sound l x among. absurd (fill_none l lane x among)) (λ q among. absurd (none_in q among))
      (λ heard first sound. same_kept (found puts_then) heard first (entity_of old) (entity_of new) same sound)
      )
  call_moves truth (Gives lane frame) c t first puts puts_then old theirs new link k (gives, d) =
      inl (
      let same : entity_of new ≡ entity_of old = ap (λ (x : Counted). x.state) gives.rest.0 in
      down_moves t old theirs new puts puts_then (Make lane frame ∷ []) [] d (new.station.down, (gives.made, gives.other), refl) gives.rest.1 (goes_same (entity_of old) (entity_of new) same)
      (λ p heard first sound l x among. absurd (make_none l lane frame x among)) (λ q among. absurd (none_in q among))
      (λ heard first sound. same_kept (found puts_then) heard first (entity_of old) (entity_of new) same sound)
      )
  call_moves truth (receives coming) c t first puts puts_then old theirs new link k (are, near, (taken, heard), sent, came, one_life, same) =
      inl (
      let octets : List ℕ = octets_coming (lives theirs) coming in
      let one : Receives octets old.station.up new.station.up old.heard new.heard =
      subst (λ (l : List (List ℕ)). Receives octets old.station.up new.station.up old.heard l) (sym heard) (receives_behind octets old.station new.station old.heard taken) in
      record {
        one_life = one_life;
        goes = all_goes truth taken.pdus old.station.entity new.station.entity taken.heard;
        calls = [];
        sent = sent ∙ sym (append-nil old.sent);
        does = taken.down;
        says = λ p heard first sound lane x c. absurd (none_in x c);
        comings = coming ∷ [];
        came = came;
        coming = subst (λ l. AreComingOf l (lives theirs) (coming ∷ [])) link are;
        near = λ before lane. subst (λ (l : List ComingOf). AreNear None (numbers_of lane (lives theirs) l)) (sym came) (near lane);
        received = (new.station.up, new.heard, one, (refl, refl));
        more = taken.pdus;
        heard = heard;
        added = [];
        accepted = same ∙ sym (append-nil puts);
        numbered = λ q c. absurd (none_in q c);
        kept = λ heard first true_ sound. all_sound truth (found puts_then) heard first (finds_by_id puts_then) taken.pdus old.station.entity new.station.entity taken.heard true_ sound;
      }
      )
  call_moves truth Refuses c t first puts puts_then old theirs new link k (same, keeps, d) =
      inl (
      quiet t old theirs new puts puts_then d keeps (goes_same (entity_of old) (entity_of new) same)
      (λ heard first sound. same_kept (found puts_then) heard first (entity_of old) (entity_of new) same sound)
      )
  call_moves truth (Restarts counted number) c t first puts puts_then old theirs new link k (anew, same) = inr (counted, (number, (anew, same)))

  -- The files to send stay.
  pub call_sources : TruthLaws → (call : Call) (c : StationConfig) (old theirs new : End) (puts puts_then : List user.Put) → DoesCall call c old theirs new puts puts_then →
      (entity_of new).table.sources ≡ (entity_of old).table.sources
  call_sources truth (Puts source destination id) c old theirs new puts puts_then (accepts, keeps, d) = (laws.put_on source destination id (entity_of old) (entity_of new) accepts).sources
  call_sources truth (Asks request id) c old theirs new puts puts_then (called, keeps, d) = (laws.called_on request id (entity_of old) (entity_of new) called).sources
  call_sources truth (Tells now) c old theirs new puts puts_then (ticks, table, keeps, d) = (laws.ticked_on now (entity_of old) (entity_of new) ticks table).sources
  call_sources truth (Polls Moved) c old theirs new puts puts_then ((moves, up), spells, d) = (served_goes Done (entity_of old) (entity_of new) moves.served).sources
  call_sources truth (Polls Nothing) c old theirs new puts puts_then ((nothing, up), spells, d) = ap (λ (x : Counted). x.state.table.sources) nothing.1
  call_sources truth (Polls Full) c old theirs new puts puts_then ((full, up), spells, d) = ap (λ (x : Counted). x.state.table.sources) full.1
  call_sources truth (Polls SourceFailed) c old theirs new puts puts_then ((loses, up), spells, d) = (served_goes Refused (entity_of old) (entity_of new) loses.0.served).sources
  call_sources truth (Fills lane) c old theirs new puts puts_then (flushes, other_, rest, d) = ap (λ (x : Counted). x.state.table.sources) rest.0
  call_sources truth (Gives lane frame) c old theirs new puts puts_then (gives, d) = ap (λ (x : Counted). x.state.table.sources) gives.rest.0
  call_sources truth (receives coming) c old theirs new puts puts_then (are, near, (taken, heard), sent, came, one_life, same) = (all_goes truth taken.pdus old.station.entity new.station.entity taken.heard).sources
  call_sources truth Refuses c old theirs new puts puts_then (same, keeps, d) = ap (λ (e : EntityState). e.table.sources) same
  call_sources truth (Restarts first number) c old theirs new puts puts_then (anew, same) = ap (λ (e : EntityState). e.table.sources) anew.entity
