-- What every call keeps of a station and of the one at the other end.
use Rattle.std.proofs.Common.{◌≡◌, ◌≢◌, ℕ, zero, suc, ◌<◌, ◌≤◌, Option, None, List, [], ◌∷◌, ◌++◌, ◌⊎◌, length, map, refl, sym, ap, subst, ◌∙◌, inl, inr, arith, append-nil, append_assoc}
use Rattle.std.specs.Prelude.{Contains, Some}
use Rattle.std.proofs.lemmas.List.{map-append}
use Rattle.aos_frame.specs.Frame.{IsLink}
use Rattle.aos_frame.specs.declared.config.Lane.{Lane}
use Rattle.aos_frame.specs.declared.config.LinkConfig.{LinkConfig}
use Rattle.link_stack.specs.AnyOrder.{ReceivesAll}
use Rattle.link_stack.specs.Downward.{both_counted_from, first_down}
use Rattle.link_stack.specs.EndToEnd.{AreNear, DoesAll, DownCall, puts_of}
use Rattle.link_stack.specs.Lives.{AreApart, AreComingOf, ComingOf, IsLife, Life, WerePutIn, life_at, numbers_of, octets_coming}
use Rattle.link_stack.specs.Upward.{UpState, first_up}
use Rattle.cfdp_header.specs.declared.value.Header.{Header}
use Rattle.cfdp_header.specs.declared.value.TransactionId.{TransactionId}
use Rattle.cfdp_header.specs.Files.{FileMap}
use Rattle.cfdp_directives.specs.declared.user.indication.Indication.{Indication}
use Rattle.cfdp_directives.specs.Pdu.Content.{Content, FileData, Metadata, Eof, Finished, Ack, Nak, Prompt, KeepAlive}
use Rattle.cfdp_directives.specs.Pdu.Grammar.{SpellsPdu}
use Rattle.cfdp_directives.specs.User.Completions.{completions, IsToldComplete}
use Rattle.cfdp_directives.specs.User.Put.{HeardInFull, IsOfPut, Put, SaysComplete, SaysTruth, SomePdu, inbox_after, overwritten}
use Rattle.cfdp_directives.proofs.Puts.{completions-append, Contains-append_left, Contains-append_right, HeardInFull-append, SomePdu-append_left}
use Rattle.cfdp_entity.specs.Entity.{EntityState}
use Rattle.cfdp_entity.specs.Sound.{ComesTrue, FindsMore, GoesOn, IsSound, SaysDelivered}
use Rattle.cfdp_station.specs.declared.config.StationConfig.{StationConfig}
use Rattle.any_order.specs.Calls.{End, IsOneLife, entity_of, lives}
use Rattle.any_order.specs.Promise.{found, heard_ever, told_ever}
use Rattle.any_order.proofs.Lists.{does_append, puts_append, receives_append}
use Rattle.any_order.proofs.Lives.{Grow, IsLonger, WasPut, apart_last, coming_both, coming_grown, count_lives, each_life, grow_last, life_before, life_last, numbers_grown, octets_grown, put_grown}
use Rattle.any_order.proofs.Puts.{finds_more}

-- A PDU says the truth of an entity's puts, and says that a file was delivered only if that was
-- indicated.
abbrev pub SaysSo : (TransactionId → Option Put) → ℕ → List Indication → List ℕ → Type 0
SaysSo p own told text = (h : Header) (v : Content) → SpellsPdu h v text → SaysTruth own p h.id v × SaysDelivered own told h.id v

-- its present sending end
abbrev pub this_life : End → Life
this_life e = record { first = e.first; calls = e.sent }

-- What holds of its lives before: what was completed and indicated then was heard.
pub record IsPast (own : ℕ) (puts : List Put) (told : List Indication) (heard : List (List ℕ)) : Type 0 where
  pub caused : (id : TransactionId) → Contains (completions own told) id → (put : Put) × ((found puts id ≡ Some put) × HeardInFull put heard)
  pub was_told : (id : TransactionId) → IsToldComplete own told id → SomePdu (SaysComplete id) heard

-- What holds of a station, set up so, whose inbox had these files as its life began, beside another one.
pub record KeepsLife (c t : StationConfig) (begun : FileMap) (puts : List Put) (mine theirs : End) : Type 0 where
  pub each : (k : ℕ) → k < length (lives mine) → IsLife c.sends c.capacity (life_at (lives mine) k)
  pub sending : DoesAll mine.sent (both_counted_from mine.first (first_down c.sends c.capacity)) mine.station.down
  pub apart : AreApart (lives mine)
  pub coming : AreComingOf t.sends (lives theirs) mine.came
  pub near : (lane : Lane) → AreNear None (numbers_of lane (lives theirs) mine.came)
  pub received : ReceivesAll (map (octets_coming (lives theirs)) mine.came) (first_up t.sends) mine.station.up [] mine.heard
  pub own : (entity_of mine).config.entity ≡ c.entity.entity
  pub peer : (entity_of mine).config.peer ≡ c.entity.peer
  pub entity : IsSound (found puts) (heard_ever mine) begun (entity_of mine)
  pub past : IsPast c.entity.entity puts mine.told_before (heard_ever mine)
  pub sent_before : (pdu : List ℕ) → Contains mine.heard_before pdu → WasPut (lives theirs) pdu
  pub truth : (pdu : List ℕ) → WasPut (lives mine) pdu → SaysSo (found puts) c.entity.entity (told_ever mine) pdu
  pub numbers : (p : Put) → Contains puts p → p.id.source ≡ c.entity.entity → p.id.number < (entity_of mine).next

-- What a call does at a station that goes on.
pub record Moves (t : StationConfig) (old theirs new : End) (puts puts_then : List Put) : Type 0 where
  pub one_life : IsOneLife old new
  pub goes : GoesOn (entity_of old) (entity_of new)
  pub calls : List DownCall
  pub sent : new.sent ≡ old.sent ++ calls
  pub does : DoesAll calls old.station.down new.station.down
  pub says : (p : TransactionId → Option Put) (heard : List (List ℕ)) (first : FileMap) → IsSound p heard first (entity_of old) → (lane : Lane) (x : List ℕ) → Contains (puts_of lane calls) x →
      SaysSo p (entity_of old).config.entity (entity_of old).table.told x
  pub comings : List ComingOf
  pub came : new.came ≡ old.came ++ comings
  pub coming : AreComingOf t.sends (lives theirs) comings
  pub near : ((lane : Lane) → AreNear None (numbers_of lane (lives theirs) old.came)) → (lane : Lane) → AreNear None (numbers_of lane (lives theirs) new.came)
  pub received : ReceivesAll (map (octets_coming (lives theirs)) comings) old.station.up new.station.up old.heard new.heard
  pub more : List (List ℕ)
  pub heard : new.heard ≡ old.heard ++ more
  pub added : List Put
  pub accepted : puts_then ≡ puts ++ added
  pub numbered : (q : Put) → Contains added q → (q.id.source ≡ (entity_of old).config.entity) × (q.id.number < (entity_of new).next)
  pub kept : (heard : List (List ℕ)) (first : FileMap) → ((x : List ℕ) → Contains more x → ComesTrue (entity_of old).config.peer (found puts_then) heard x) →
      IsSound (found puts_then) heard first (entity_of old) → IsSound (found puts_then) heard first (entity_of new)

-- The laws of a link and of an entity.
pub record Grounds : Type 0 where
  pub put_in : (link : LinkConfig) (capacity : ℕ) (ls : List Life) (came : List ComingOf) (up new : UpState) (before after : List (List ℕ)) → IsLink link → link.spacecraft < 256 →
      ((k : ℕ) → k < length ls → IsLife link capacity (life_at ls k)) → AreApart ls → AreComingOf link ls came → ((lane : Lane) → AreNear None (numbers_of lane ls came)) → up ≡ first_up link →
      ReceivesAll (map (octets_coming ls) came) up new before after → WerePutIn ls before after
  pub more : (p q : TransactionId → Option Put) (heard more : List (List ℕ)) (first : FileMap) (e : EntityState) → FindsMore p q → IsSound p heard first e → IsSound q (heard ++ more) first e

-- How both are joined, as far as it matters here.
pub record IsJoinedTo (c t : StationConfig) : Type 0 where
  pub valid : IsLink t.sends
  pub spacecraft : t.sends.spacecraft < 256
  pub peer : c.entity.peer ≡ t.entity.entity
  pub apart : t.entity.entity ≢ c.entity.entity

-- ---- what was said stays true
of_more : (own : ℕ) (p q : TransactionId → Option Put) (id : TransactionId) (v : Content) → FindsMore p q → IsOfPut own p id v → IsOfPut own q id v
of_more own p q id v more t = (t.0, (t.1.0, more id t.0 t.1.1, t.1.2))

truth_more : (own : ℕ) (p q : TransactionId → Option Put) (id : TransactionId) (v : Content) → FindsMore p q → SaysTruth own p id v → SaysTruth own q id v
truth_more own p q id (FileData offset bytes) more t = of_more own p q id (FileData offset bytes) more t
truth_more own p q id (Metadata kind size source destination options) more t = of_more own p q id (Metadata kind size source destination options) more t
truth_more own p q id (Eof condition checksum size tlvs) more t = of_more own p q id (Eof condition checksum size tlvs) more t
truth_more own p q id (Finished condition delivery status tlvs) more t = tt
truth_more own p q id (Ack of condition status) more t = tt
truth_more own p q id (Nak start end pairs) more t = tt
truth_more own p q id (Prompt keep_alive) more t = tt
truth_more own p q id (KeepAlive progress) more t = tt

-- what was completed is among what was, if more was indicated
abbrev pub TellsAll : ℕ → List Indication → List Indication → Type 0
TellsAll own old new = (id : TransactionId) → Contains (completions own old) id → Contains (completions own new) id

pub tells_behind : (own : ℕ) (told gained : List Indication) → TellsAll own told (told ++ gained)
tells_behind own told gained id c =
    subst (λ (ids : List TransactionId). Contains ids id) (sym (completions-append own told gained)) (Contains-append_left (completions own told) (completions own gained) id c)

pub tells_front : (own : ℕ) (before told : List Indication) → TellsAll own told (before ++ told)
tells_front own before told id c =
    subst (λ (ids : List TransactionId). Contains ids id) (sym (completions-append own before told)) (Contains-append_right (completions own before) (completions own told) id c)

pub says_more : (p q : TransactionId → Option Put) (own : ℕ) (old new : List Indication) (text : List ℕ) → FindsMore p q → TellsAll own old new → SaysSo p own old text → SaysSo q own new text
says_more p q own old new text more tells says h v spelled =
    let s = says h v spelled in (truth_more own p q h.id v more s.0, λ tlvs is. tells h.id (s.1 tlvs is))

-- an item of two lists joined
pub in_either : {X : Type 0} (xs ys : List X) (x : X) → Contains (xs ++ ys) x → Contains xs x ⊎ Contains ys x
in_either [] ys x c = inr c
in_either (z ∷ xs) ys x (zero, low, e) = inl (0, omega arith, e)
in_either (z ∷ xs) ys x (suc k, low, e) = behind z xs ys x (in_either xs ys x (k, omega (arith, low), e))
  where
    behind : {X : Type 0} (z : X) (xs ys : List X) (x : X) → Contains xs x ⊎ Contains ys x → Contains (z ∷ xs) x ⊎ Contains ys x
    behind z xs ys x (inl c) = inl (suc c.0, (let n = c.0 in let h : n < length xs = c.1 in omega arith), c.2)
    behind z xs ys x (inr c) = inr c

-- ids that name the same puts
pub inbox_same : (p q : TransactionId → Option Put) (first : FileMap) (ids : List TransactionId) → ((id : TransactionId) → Contains ids id → p id ≡ q id) → inbox_after p first ids ≡ inbox_after q first ids
inbox_same p q first [] same = refl
inbox_same p q first (id ∷ ids) same =
    ap (λ put. inbox_after p (overwritten first put) ids) (same id (0, omega arith, refl))
    ∙ inbox_same p q (overwritten first (q id)) ids (λ other c. same other (suc c.0, (let k = c.0 in let low : k < length ids = c.1 in omega arith), c.2))

-- the past stays what it was, if more is put and heard
past_more : (own : ℕ) (puts puts_then : List Put) (told : List Indication) (heard more : List (List ℕ)) → FindsMore (found puts) (found puts_then) →
    IsPast own puts told heard → IsPast own puts_then told (heard ++ more)
past_more own puts puts_then told heard more finds past = record {
  caused = λ id c. let k = past.caused id c in (k.0, (finds id k.0 k.1.0, HeardInFull-append k.0 heard more k.1.1));
  was_told = λ id t. SomePdu-append_left (SaysComplete id) heard more (past.was_told id t);
}

-- ---- what was heard was put in at the other end
pub heard_put : Grounds → (c t : StationConfig) (first there : FileMap) (puts : List Put) (mine theirs : End) → IsJoinedTo c t → KeepsLife c t first puts mine theirs → KeepsLife t c there puts theirs mine → (x : List ℕ) →
    Contains (heard_ever mine) x → WasPut (lives theirs) x
heard_put grounds c t first there puts mine theirs joined k o x among = elim (in_either mine.heard_before mine.heard x among) [
  | inl before ↦ k.sent_before x before
  | inr now ↦
      let w : WerePutIn (lives theirs) [] mine.heard =
      grounds.put_in t.sends t.capacity (lives theirs) mine.came (first_up t.sends) mine.station.up [] mine.heard joined.valid joined.spacecraft o.each o.apart k.coming
      k.near refl k.received in
      let put = w.put x (subst (λ (l : List (List ℕ)). Contains l x) w.appended now) in
      record { life = put.0; one = put.1.0; lane = put.1.1.0; among = put.1.1.1 }
]

-- ---- the other station, while more is put, and more is done with this one's sending ends
pub stays : Grounds → (c t : StationConfig) (there : FileMap) (puts puts_then : List Put) (old theirs new : End) → FindsMore (found puts) (found puts_then) → Grow (lives old) (lives new) →
    KeepsLife t c there puts theirs old → ((p : Put) → Contains puts_then p → p.id.source ≡ t.entity.entity → p.id.number < (entity_of theirs).next) → KeepsLife t c there puts_then theirs new
stays grounds c t there puts puts_then old theirs new finds grows o numbers = record {
  each = o.each;
  sending = o.sending;
  apart = o.apart;
  coming = coming_grown c.sends (lives old) (lives new) theirs.came grows o.coming;
  near = λ lane. subst (AreNear None) (sym (numbers_grown lane c.sends (lives old) (lives new) theirs.came grows o.coming)) (o.near lane);
  received =
      subst (λ (l : List (List ℕ)). ReceivesAll l (first_up c.sends) theirs.station.up [] theirs.heard) (sym (octets_grown c.sends (lives old) (lives new) theirs.came grows o.coming)) o.received;
  own = o.own;
  peer = o.peer;
  entity =
      subst (λ (l : List (List ℕ)). IsSound (found puts_then) l there (entity_of theirs)) (append-nil (heard_ever theirs))
      (grounds.more (found puts) (found puts_then) (heard_ever theirs) [] there (entity_of theirs) finds o.entity);
  past =
      subst (λ (l : List (List ℕ)). IsPast t.entity.entity puts_then theirs.told_before l) (append-nil (heard_ever theirs))
      (past_more t.entity.entity puts puts_then theirs.told_before (heard_ever theirs) [] finds o.past);
  sent_before = λ pdu among. put_grown (lives old) (lives new) pdu grows (o.sent_before pdu among);
  truth = λ pdu was. says_more (found puts) (found puts_then) t.entity.entity (told_ever theirs) (told_ever theirs) pdu finds (λ id done. done) (o.truth pdu was);
  numbers = numbers;
}

-- ---- the station at which something is done
module _ (grounds : Grounds) (c t : StationConfig) (first there : FileMap) (puts puts_then : List Put) (old theirs new : End) (joined : IsJoinedTo c t)
    (k : KeepsLife c t first puts old theirs) (o : KeepsLife t c there puts theirs old) (m : Moves t old theirs new puts puts_then) where
  finds : FindsMore (found puts) (found puts_then)
  finds = subst (λ (l : List Put). FindsMore (found puts) (found l)) (sym m.accepted) (finds_more puts m.added)

  longer : IsLonger (this_life old) (this_life new)
  longer = record { first = m.one_life.first; more = m.calls; calls = m.sent }

  all_lives : lives new ≡ old.lives_before ++ this_life new ∷ []
  all_lives = ap (λ l. l ++ this_life new ∷ []) m.one_life.lives_before

  grows : Grow (lives old) (lives new)
  grows = subst (λ (l : List Life). Grow (lives old) l) (sym all_lives) (grow_last old.lives_before (this_life old) (this_life new) longer)

  sending : DoesAll new.sent (both_counted_from new.first (first_down c.sends c.capacity)) new.station.down
  sending =
      subst (λ (n : ℕ). DoesAll new.sent (both_counted_from n (first_down c.sends c.capacity)) new.station.down) (sym m.one_life.first)
      (subst (λ (l : List DownCall). DoesAll l (both_counted_from old.first (first_down c.sends c.capacity)) new.station.down) (sym m.sent)
      (does_append old.sent m.calls (both_counted_from old.first (first_down c.sends c.capacity)) old.station.down new.station.down k.sending m.does))

  each : (i : ℕ) → i < length (lives new) → IsLife c.sends c.capacity (life_at (lives new) i)
  each = subst (λ (l : List Life). (i : ℕ) → i < length l → IsLife c.sends c.capacity (life_at l i)) (sym all_lives)
      (each_life (λ i l. IsLife c.sends c.capacity l) old.lives_before (this_life new)
      (λ i low. subst (λ (l : Life). IsLife c.sends c.capacity l) (life_before old.lives_before (this_life old) i low)
      (k.each i (let n = count_lives old.lives_before (this_life old) in omega (arith, low, n))))
      (record { now = new.station.down; does = sending }))

  apart : AreApart (lives new)
  apart = subst AreApart (sym all_lives) (apart_last old.lives_before (this_life old) (this_life new) m.one_life.first k.apart)

  coming : AreComingOf t.sends (lives theirs) new.came
  coming = subst (λ (l : List ComingOf). AreComingOf t.sends (lives theirs) l) (sym m.came) (coming_both t.sends (lives theirs) old.came m.comings k.coming m.coming)

  received : ReceivesAll (map (octets_coming (lives theirs)) new.came) (first_up t.sends) new.station.up [] new.heard
  received =
      let frames : map (octets_coming (lives theirs)) new.came ≡ map (octets_coming (lives theirs)) old.came ++ map (octets_coming (lives theirs)) m.comings =
      ap (map (octets_coming (lives theirs))) m.came ∙ map-append (octets_coming (lives theirs)) old.came m.comings in
      subst (λ (l : List (List ℕ)). ReceivesAll l (first_up t.sends) new.station.up [] new.heard) (sym frames)
      (receives_append (map (octets_coming (lives theirs)) old.came) (map (octets_coming (lives theirs)) m.comings) (first_up t.sends) old.station.up new.station.up [] old.heard new.heard k.received
      m.received)

  near : (lane : Lane) → AreNear None (numbers_of lane (lives theirs) new.came)
  near = m.near k.near

  all_heard : heard_ever new ≡ heard_ever old ++ m.more
  all_heard = ap (λ l. l ++ new.heard) m.one_life.heard_before ∙ ap (λ l. old.heard_before ++ l) m.heard ∙ sym (append_assoc old.heard_before old.heard m.more)

  -- what it hears now was put in at the other end, and is true
  comes_true : (x : List ℕ) → Contains m.more x → ComesTrue (entity_of old).config.peer (found puts_then) (heard_ever old ++ m.more) x
  comes_true x here =
      let now : Contains new.heard x = subst (λ (l : List (List ℕ)). Contains l x) (sym m.heard) (Contains-append_right old.heard m.more x here) in
      let w : WerePutIn (lives theirs) [] new.heard =
      grounds.put_in t.sends t.capacity (lives theirs) new.came (first_up t.sends) new.station.up [] new.heard joined.valid joined.spacecraft o.each o.apart coming near
      refl received in
      let put = w.put x (subst (λ (l : List (List ℕ)). Contains l x) w.appended now) in
      let was : WasPut (lives theirs) x = record { life = put.0; one = put.1.0; lane = put.1.1.0; among = put.1.1.1 } in
      let peer : t.entity.entity ≡ (entity_of old).config.peer = sym joined.peer ∙ sym k.peer in
      record {
        among = Contains-append_right (heard_ever old) m.more x here;
        says = λ h v spelled. subst (λ (n : ℕ). SaysTruth n (found puts_then) h.id v) peer (truth_more t.entity.entity (found puts) (found puts_then) h.id v finds (o.truth x was h v spelled).0);
      }

  entity : IsSound (found puts_then) (heard_ever new) first (entity_of new)
  entity =
      let before : IsSound (found puts_then) (heard_ever old ++ m.more) first (entity_of old) = grounds.more (found puts) (found puts_then) (heard_ever old) m.more first (entity_of old) finds k.entity in
      subst (λ (l : List (List ℕ)). IsSound (found puts_then) l first (entity_of new)) (sym all_heard) (m.kept (heard_ever old ++ m.more) first comes_true before)

  past : IsPast c.entity.entity puts_then new.told_before (heard_ever new)
  past =
      subst (λ (l : List (List ℕ)). IsPast c.entity.entity puts_then new.told_before l) (sym all_heard)
      (subst (λ (l : List Indication). IsPast c.entity.entity puts_then l (heard_ever old ++ m.more)) (sym m.one_life.told_before)
      (past_more c.entity.entity puts puts_then old.told_before (heard_ever old) m.more finds k.past))

  all_told : told_ever new ≡ told_ever old ++ m.goes.gained
  all_told = ap (λ l. l ++ (entity_of new).table.told) m.one_life.told_before ∙ ap (λ l. old.told_before ++ l) m.goes.told ∙ sym (append_assoc old.told_before (entity_of old).table.told m.goes.gained)

  tells : TellsAll c.entity.entity (told_ever old) (told_ever new)
  tells = subst (λ (l : List Indication). TellsAll c.entity.entity (told_ever old) l) (sym all_told) (tells_behind c.entity.entity (told_ever old) m.goes.gained)

  -- what a lane of this life has put in
  said_now : (lane : Lane) (x : List ℕ) → Contains (puts_of lane new.sent) x → SaysSo (found puts_then) c.entity.entity (told_ever new) x
  said_now lane x among =
      let all : puts_of lane new.sent ≡ puts_of lane old.sent ++ puts_of lane m.calls = ap (puts_of lane) m.sent ∙ puts_append lane old.sent m.calls in
      let last : this_life old ≡ life_at (lives old) (length old.lives_before) = sym (life_last old.lives_before (this_life old)) in
      elim (in_either (puts_of lane old.sent) (puts_of lane m.calls) x (subst (λ (l : List (List ℕ)). Contains l x) all among)) [
        | inl before ↦
            let was : WasPut (lives old) x = record {
              life = length old.lives_before;
              one = (let n = count_lives old.lives_before (this_life old) in omega (arith, n));
              lane = lane;
              among = subst (λ (l : Life). Contains (puts_of lane l.calls) x) last before;
            } in
            says_more (found puts) (found puts_then) c.entity.entity (told_ever old) (told_ever new) x finds tells (k.truth x was)
        | inr now ↦
            let said : SaysSo (found puts) c.entity.entity (entity_of old).table.told x =
            subst (λ (n : ℕ). SaysSo (found puts) n (entity_of old).table.told x) k.own (m.says (found puts) (heard_ever old) first k.entity lane x now) in
            says_more (found puts) (found puts_then) c.entity.entity (entity_of old).table.told (told_ever new) x finds
            (λ id done. tells id (tells_front c.entity.entity old.told_before (entity_of old).table.told id done)) said
      ]

  truth : (pdu : List ℕ) → WasPut (lives new) pdu → SaysSo (found puts_then) c.entity.entity (told_ever new) pdu
  truth pdu was =
      let said : (i : ℕ) → i < length (old.lives_before ++ this_life new ∷ []) → (lane : Lane) → Contains (puts_of lane (life_at (old.lives_before ++ this_life new ∷ []) i).calls) pdu →
      SaysSo (found puts_then) c.entity.entity (told_ever new) pdu =
      each_life (λ i l. (lane : Lane) → Contains (puts_of lane l.calls) pdu → SaysSo (found puts_then) c.entity.entity (told_ever new) pdu) old.lives_before (this_life new)
      (λ i low lane among.
      let before : WasPut (lives old) pdu = record {
        life = i;
        one = (let n = count_lives old.lives_before (this_life old) in omega (arith, low, n));
        lane = lane;
        among = subst (λ (l : Life). Contains (puts_of lane l.calls) pdu) (sym (life_before old.lives_before (this_life old) i low)) among;
      } in
      says_more (found puts) (found puts_then) c.entity.entity (told_ever old) (told_ever new) pdu finds tells (k.truth pdu before))
      (λ lane among. said_now lane pdu among) in
      subst (λ (ls : List Life). (i : ℕ) → i < length ls → (lane : Lane) → Contains (puts_of lane (life_at ls i).calls) pdu → SaysSo (found puts_then) c.entity.entity (told_ever new) pdu) (sym all_lives) said
      was.life was.one was.lane was.among

  numbers : (p : Put) → Contains puts_then p → p.id.source ≡ c.entity.entity → p.id.number < (entity_of new).next
  numbers p among of_mine =
      elim (in_either puts m.added p (subst (λ (l : List Put). Contains l p) m.accepted among)) [
        | inl before ↦
            let low : p.id.number < (entity_of old).next = k.numbers p before of_mine in
            let up : (entity_of old).next ≤ (entity_of new).next = m.goes.next in
            omega arith
        | inr now ↦ (m.numbered p now).1
      ]

  pub kept_mine : KeepsLife c t first puts_then new theirs
  kept_mine = record {
    each = each;
    sending = sending;
    apart = apart;
    coming = coming;
    near = near;
    received = received;
    own = ap (λ e. e.entity) m.goes.config ∙ k.own;
    peer = ap (λ e. e.peer) m.goes.config ∙ k.peer;
    entity = entity;
    past = past;
    sent_before = λ pdu among. k.sent_before pdu (subst (λ (l : List (List ℕ)). Contains l pdu) m.one_life.heard_before among);
    truth = truth;
    numbers = numbers;
  }

  -- no number of a put of the other station is new
  pub others_numbers : (p : Put) → Contains puts_then p → p.id.source ≡ t.entity.entity → p.id.number < (entity_of theirs).next
  others_numbers p among of_theirs =
      elim (in_either puts m.added p (subst (λ (l : List Put). Contains l p) m.accepted among)) [
        | inl before ↦ o.numbers p before of_theirs
        | inr now ↦ absurd (joined.apart (sym of_theirs ∙ (m.numbered p now).0 ∙ k.own))
      ]

  pub kept_theirs : KeepsLife t c there puts_then theirs new
  kept_theirs = stays grounds c t there puts puts_then old theirs new finds grows o others_numbers

-- ---- an inbox over all lives
-- The same of a station whose inbox had these files at first, and as each of its lives began what it had as the one before ended.
pub record IsKept (c t : StationConfig) (first : FileMap) (puts : List Put) (mine theirs : End) : Type 0 where
  pub begun : FileMap
  pub life : KeepsLife c t begun puts mine theirs
  pub inbox : begun ≡ inbox_after (found puts) first (completions c.entity.entity mine.told_before)

-- its inbox as this life began was made by the same puts, if more are found
inbox_more : (c t : StationConfig) (first begun : FileMap) (puts puts_then : List Put) (mine theirs new : End) → FindsMore (found puts) (found puts_then) → KeepsLife c t begun puts mine theirs →
    new.told_before ≡ mine.told_before → begun ≡ inbox_after (found puts) first (completions c.entity.entity mine.told_before) →
    begun ≡ inbox_after (found puts_then) first (completions c.entity.entity new.told_before)
inbox_more c t first begun puts puts_then mine theirs new finds k same inbox =
    inbox
    ∙ inbox_same (found puts) (found puts_then) first (completions c.entity.entity mine.told_before) (λ id done. let q = k.past.caused id done in q.1.0 ∙ sym (finds id q.0 q.1.0))
    ∙ ap (λ (l : List Indication). inbox_after (found puts_then) first (completions c.entity.entity l)) (sym same)

-- the other station, as `stays`
pub kept_stays : Grounds → (c t : StationConfig) (there : FileMap) (puts puts_then : List Put) (old theirs new : End) → FindsMore (found puts) (found puts_then) → Grow (lives old) (lives new) →
    IsKept t c there puts theirs old → ((p : Put) → Contains puts_then p → p.id.source ≡ t.entity.entity → p.id.number < (entity_of theirs).next) → IsKept t c there puts_then theirs new
kept_stays grounds c t there puts puts_then old theirs new finds grows o numbers = record {
  begun = o.begun;
  life = stays grounds c t o.begun puts puts_then old theirs new finds grows o.life numbers;
  inbox = inbox_more t c there o.begun puts puts_then theirs old theirs finds o.life refl o.inbox;
}

-- both, as something is done at one
module _ (grounds : Grounds) (c t : StationConfig) (first there : FileMap) (puts puts_then : List Put) (old theirs new : End) (joined : IsJoinedTo c t)
    (k : IsKept c t first puts old theirs) (o : IsKept t c there puts theirs old) (m : Moves t old theirs new puts puts_then) where
  more_found : FindsMore (found puts) (found puts_then)
  more_found = finds grounds c t k.begun o.begun puts puts_then old theirs new joined k.life o.life m

  pub both_mine : IsKept c t first puts_then new theirs
  both_mine = record {
    begun = k.begun;
    life = kept_mine grounds c t k.begun o.begun puts puts_then old theirs new joined k.life o.life m;
    inbox = inbox_more c t first k.begun puts puts_then old theirs new more_found k.life m.one_life.told_before k.inbox;
  }

  pub both_theirs : IsKept t c there puts_then theirs new
  both_theirs = record {
    begun = o.begun;
    life = kept_theirs grounds c t k.begun o.begun puts puts_then old theirs new joined k.life o.life m;
    inbox = inbox_more t c there o.begun puts puts_then theirs old theirs more_found o.life refl o.inbox;
  }
