-- From two stations at which nothing was done to what holds of them after any calls.
use Rattle.std.proofs.Common.{◌≡◌, ℕ, ◌+◌, ◌<◌, ◌≤◌, Option, Some, None, List, [], ◌∷◌, ◌++◌, length, map, refl, sym, ap, subst, ◌∙◌, inl, inr, arith, append-nil}
use Rattle.std.specs.Prelude.{Contains}
use Rattle.aos_frame.specs.declared.config.Lane.{Lane}
use Rattle.link_stack.specs.AnyOrder.{ReceivesAll}
use Rattle.link_stack.specs.Downward.{both_counted_from, first_down}
use Rattle.link_stack.specs.EndToEnd.{AreNear, DoesAll, DownCall, made_of, puts_of}
use Rattle.link_stack.specs.Lives.{AreApart, AreComingOf, ComingOf, IsLife, Life, life_at, numbers_of, octets_coming}
use Rattle.link_stack.specs.Upward.{first_up}
use Rattle.cfdp_header.specs.declared.value.Header.{Header}
use Rattle.cfdp_header.specs.declared.value.TransactionId.{TransactionId}
use Rattle.cfdp_header.specs.Files.{FileMap}
use Rattle.cfdp_directives.specs.declared.user.indication.Indication.{Indication}
use Rattle.cfdp_directives.specs.declared.user.indication.Indication.TheVariants as indication
use Rattle.cfdp_directives.specs.declared.pdu.codes.Delivery.TheVariants.{Complete}
use Rattle.cfdp_directives.specs.declared.pdu.codes.FileStatus.TheVariants.{Retained}
use Rattle.cfdp_directives.specs.Pdu.Codes.{no_error}
use Rattle.cfdp_directives.specs.Pdu.Content.{Content}
use Rattle.cfdp_directives.specs.Pdu.Grammar.{SpellsPdu}
use Rattle.cfdp_directives.specs.User.Completions.{completions, IsToldComplete}
use Rattle.cfdp_directives.specs.User.Put.{Put, HeardInFull, SaysComplete, SaysTruth, SomePdu, inbox_after}
use Rattle.cfdp_directives.proofs.Puts.{completions-append, inbox_after-append}
use Rattle.cfdp_entity.specs.declared.config.EntityConfig.{EntityConfig}
use Rattle.cfdp_entity.specs.Config.{IsConfig}
use Rattle.cfdp_entity.specs.Entity.{EntityState, first_entity}
use Rattle.cfdp_entity.specs.Sound.{IsSound}
use Rattle.cfdp_station.specs.declared.config.StationConfig.{StationConfig}
use Rattle.cfdp_station.proofs.AnyOrder.{TruthLaws}
use Rattle.any_order.specs.Calls.{AreJoined, At, Call, DoesCall, End, Event, Happen, Happens, IsNew, One, Two, Pair, Setup, Side, StartsAnew, at, entity_of, lives, numbered_from, other, setup_of}
use Rattle.any_order.specs.Promise.{HasSent, HoldsAt, IsTold, completed, found, heard_ever, own, told_ever}
use Rattle.any_order.proofs.Calls.{EntityLaws, call_moves}
use Rattle.any_order.proofs.Kept.{Grounds, IsJoinedTo, IsKept, IsPast, KeepsLife, SaysSo, TellsAll, both_mine, both_theirs, heard_put, in_either, says_more, stays, tells_behind, this_life}
use Rattle.any_order.proofs.Lives.{Grow, WasPut, apart_more, apart_one, each_life, grow_more}

pub record Laws : Type 0 where
  pub grounds : Grounds
  pub entity : EntityLaws
  pub truth : TruthLaws
  pub first : (p : TransactionId → Option Put) (heard : List (List ℕ)) (sources files : FileMap) (config : EntityConfig) → IsConfig config → IsSound p heard files (first_entity sources files config)

-- What the frames of each are counted from at first, and the first files of its inbox.
abbrev Counts : Type 0
Counts = Side → ℕ

abbrev Firsts : Type 0
Firsts = Side → FileMap

-- What holds of both.
abbrev pub AreKept : Setup → Firsts → Pair → Type 0
AreKept c firsts w = (s : Side) → IsKept (setup_of s c) (setup_of (other s) c) (firsts s) w.puts (at s w) (at (other s) w)

pub joined_to : (c : Setup) (s : Side) → AreJoined c → IsJoinedTo (setup_of s c) (setup_of (other s) c)
joined_to c One joined =
    record { valid = (joined.valid Two).sends; spacecraft = joined.spacecraft Two; peer = joined.peer One; apart = λ e. (joined.valid Two).entity.ids.apart (e ∙ sym (joined.peer Two)) }
joined_to c Two joined =
    record { valid = (joined.valid One).sends; spacecraft = joined.spacecraft One; peer = joined.peer Two; apart = λ e. (joined.valid One).entity.ids.apart (e ∙ sym (joined.peer One)) }

none_in : {X : Type 0} (x : X) → Contains [] x → ⊥
none_in x c = let k = c.0 in let low : k < 0 = c.1 in omega arith

-- ---- all its lives up to now
module _ (c t : StationConfig) (begun : FileMap) (puts : List Put) (mine theirs : End) (k : KeepsLife c t begun puts mine theirs) where
  abbrev own_told : List Indication
  own_told = (entity_of mine).table.told

  all_done : completions c.entity.entity (told_ever mine) ≡ completions c.entity.entity mine.told_before ++ completions (entity_of mine).config.entity own_told
  all_done = completions-append c.entity.entity mine.told_before own_told ∙ ap (λ n. completions c.entity.entity mine.told_before ++ completions n own_told) (sym k.own)

  pub whole : IsPast c.entity.entity puts (told_ever mine) (heard_ever mine)
  whole = record {
    caused = λ id done.
        elim (in_either (completions c.entity.entity mine.told_before) (completions (entity_of mine).config.entity own_told) id (subst (λ (l : List TransactionId). Contains l id) all_done done)) [
          | inl before ↦ k.past.caused id before
          | inr now ↦ k.entity.knows.caused id now
        ];
    was_told = λ id (t : IsToldComplete c.entity.entity (told_ever mine) id).
        elim (in_either mine.told_before own_told (indication.Finished id no_error Complete Retained) t.1) [
          | inl before ↦ k.past.was_told id (t.0, before)
          | inr now ↦ k.entity.tells.told id (t.0 ∙ sym k.own, now)
        ];
  }

  -- its inbox, by what it had as this life began
  pub life_inbox : (entity_of mine).table.files ≡ inbox_after (found puts) begun (completions c.entity.entity own_told)
  life_inbox = k.entity.knows.inbox ∙ ap (λ n. inbox_after (found puts) begun (completions n own_told)) k.own

  -- and by what it had at first
  pub whole_inbox : (first : FileMap) → begun ≡ inbox_after (found puts) first (completions c.entity.entity mine.told_before) →
      (entity_of mine).table.files ≡ inbox_after (found puts) first (completions c.entity.entity (told_ever mine))
  whole_inbox first inbox =
      k.entity.knows.inbox
      ∙ ap (λ (f : FileMap). inbox_after (found puts) f (completions (entity_of mine).config.entity own_told)) inbox
      ∙ sym (inbox_after-append (found puts) first (completions c.entity.entity mine.told_before) (completions (entity_of mine).config.entity own_told))
      ∙ ap (inbox_after (found puts) first) (sym all_done)

-- ---- nothing was done
pub new_life : Laws → (c t : StationConfig) (count : ℕ) (sources files : FileMap) (puts : List Put) (mine theirs : End) → IsConfig c.entity → c.receives ≡ t.sends → IsNew c count sources files mine →
    puts ≡ [] → KeepsLife c t files puts mine theirs
new_life laws c t count sources files puts mine theirs valid link is none =
    let all : lives mine ≡ this_life mine ∷ [] = ap (λ l. l ++ this_life mine ∷ []) is.lives_before in
    let sending : DoesAll mine.sent (both_counted_from mine.first (first_down c.sends c.capacity)) mine.station.down =
    subst (λ (l : List DownCall). DoesAll l (both_counted_from mine.first (first_down c.sends c.capacity)) mine.station.down) (sym is.sent)
    (subst (λ (n : ℕ). mine.station.down ≡ both_counted_from n (first_down c.sends c.capacity)) (sym is.first) is.down) in
    record {
      each = subst (λ (l : List Life). (i : ℕ) → i < length l → IsLife c.sends c.capacity (life_at l i)) (sym all)
          (each_life (λ i l. IsLife c.sends c.capacity l) [] (this_life mine) (λ i low. absurd (omega (arith, low))) (record { now = mine.station.down; does = sending }));
      sending = sending;
      apart = subst AreApart (sym all) (apart_one (this_life mine));
      coming = subst (λ (l : List ComingOf). AreComingOf t.sends (lives theirs) l) (sym is.came) tt;
      near = λ lane. subst (λ (l : List ComingOf). AreNear None (numbers_of lane (lives theirs) l)) (sym is.came) tt;
      received =
          subst (λ (l : List ComingOf). ReceivesAll (map (octets_coming (lives theirs)) l) (first_up t.sends) mine.station.up [] mine.heard) (sym is.came) (is.up ∙ ap first_up link, is.heard);
      own = ap (λ e. e.config.entity) is.entity;
      peer = ap (λ e. e.config.peer) is.entity;
      entity = subst (λ (e : EntityState). IsSound (found puts) (heard_ever mine) files e) (sym is.entity) (laws.first (found puts) (heard_ever mine) sources files c.entity valid);
      past = subst (λ (l : List Indication). IsPast c.entity.entity puts l (heard_ever mine)) (sym is.told_before)
          (record { caused = λ id done. absurd (none_in id done); was_told = λ id t. absurd (none_in _ t.1) });
      sent_before = λ pdu among. absurd (none_in pdu (subst (λ (l : List (List ℕ)). Contains l pdu) is.heard_before among));
      truth = λ pdu was.
          absurd (nothing_put (this_life mine) (lives mine) pdu all is.sent was);
      numbers = λ p among of_mine. absurd (none_in p (subst (λ (l : List Put). Contains l p) none among));
    }
  where
    nothing_put : (life : Life) (ls : List Life) (pdu : List ℕ) → ls ≡ life ∷ [] → life.calls ≡ [] → WasPut ls pdu → ⊥
    nothing_put life ls pdu one none was =
        each_life (λ i l. (lane : Lane) → Contains (puts_of lane l.calls) pdu → ⊥) [] life (λ i low. absurd (omega (arith, low)))
        (λ lane among. none_in pdu (subst (λ (l : List DownCall). Contains (puts_of lane l) pdu) none among)) was.life (subst (λ (l : List Life). was.life < length l) one was.one) was.lane
        (subst (λ (l : List Life). Contains (puts_of was.lane (life_at l was.life).calls) pdu) one was.among)

pub new_kept : Laws → (c t : StationConfig) (count : ℕ) (sources files : FileMap) (puts : List Put) (mine theirs : End) → IsConfig c.entity → c.receives ≡ t.sends → IsNew c count sources files mine →
    puts ≡ [] → IsKept c t files puts mine theirs
new_kept laws c t count sources files puts mine theirs valid link is none = record {
  begun = files;
  life = new_life laws c t count sources files puts mine theirs valid link is none;
  inbox = subst (λ (l : List Indication). files ≡ inbox_after (found puts) files (completions c.entity.entity l)) (sym is.told_before) refl;
}

-- ---- a start
-- A new station was made, as `StartsAnew` has it, but with any files to send and in its inbox.
pub record BeginsWith (first number : ℕ) (sources files : FileMap) (c : StationConfig) (old new : End) : Type 0 where
  pub valid : IsConfig (numbered_from number c.entity)
  pub entity : entity_of new ≡ first_entity sources files (numbered_from number c.entity)
  pub unused : (entity_of old).next ≤ number
  pub down : new.station.down ≡ both_counted_from first (first_down c.sends c.capacity)
  pub up : new.station.up ≡ first_up c.receives
  pub counted : new.first ≡ first
  pub apart : (lane : Lane) → old.first + length (made_of lane old.sent) < first
  pub sent : new.sent ≡ []
  pub came : new.came ≡ []
  pub heard : new.heard ≡ []
  pub lives_before : new.lives_before ≡ lives old
  pub told_before : new.told_before ≡ told_ever old
  pub heard_before : new.heard_before ≡ heard_ever old

with_its : (first number : ℕ) (c : StationConfig) (old new : End) → StartsAnew first number c old new → BeginsWith first number (entity_of old).table.sources (entity_of old).table.files c old new
with_its first number c old new a = record {
  valid = a.valid;
  entity = a.entity;
  unused = a.unused;
  down = a.down;
  up = a.up;
  counted = a.counted;
  apart = a.apart;
  sent = a.sent;
  came = a.came;
  heard = a.heard;
  lives_before = a.lives_before;
  told_before = a.told_before;
  heard_before = a.heard_before;
}

module _ (laws : Laws) (c t : StationConfig) (first there : FileMap) (puts : List Put) (old theirs new : End) (joined : IsJoinedTo c t) (link : c.receives ≡ t.sends)
    (k : KeepsLife c t first puts old theirs) (o : KeepsLife t c there puts theirs old) (counted number : ℕ) (sources files : FileMap) (a : BeginsWith counted number sources files c old new) where
  all_lives : lives new ≡ lives old ++ this_life new ∷ []
  all_lives = ap (λ l. l ++ this_life new ∷ []) a.lives_before

  pub grows_anew : Grow (lives old) (lives new)
  grows_anew = subst (λ (l : List Life). Grow (lives old) l) (sym all_lives) (grow_more (lives old) (this_life new))

  sending_anew : DoesAll new.sent (both_counted_from new.first (first_down c.sends c.capacity)) new.station.down
  sending_anew =
      subst (λ (l : List DownCall). DoesAll l (both_counted_from new.first (first_down c.sends c.capacity)) new.station.down) (sym a.sent)
      (subst (λ (n : ℕ). new.station.down ≡ both_counted_from n (first_down c.sends c.capacity)) (sym a.counted) a.down)

  heard_same : heard_ever new ≡ heard_ever old
  heard_same = ap (λ l. l ++ new.heard) a.heard_before ∙ ap (λ l. heard_ever old ++ l) a.heard ∙ append-nil (heard_ever old)

  tells_anew : TellsAll c.entity.entity (told_ever old) (told_ever new)
  tells_anew =
      subst (λ (l : List Indication). TellsAll c.entity.entity (told_ever old) (l ++ (entity_of new).table.told)) (sym a.told_before)
      (tells_behind c.entity.entity (told_ever old) (entity_of new).table.told)

  pub life_anew : KeepsLife c t files puts new theirs
  life_anew = record {
    each = subst (λ (l : List Life). (i : ℕ) → i < length l → IsLife c.sends c.capacity (life_at l i)) (sym all_lives)
        (each_life (λ i l. IsLife c.sends c.capacity l) (lives old) (this_life new) k.each (record { now = new.station.down; does = sending_anew }));
    sending = sending_anew;
    apart = subst AreApart (sym all_lives)
        (apart_more old.lives_before (this_life old) (this_life new) k.apart (λ lane. subst (λ (n : ℕ). old.first + length (made_of lane old.sent) < n) (sym a.counted) (a.apart lane)));
    coming = subst (λ (l : List ComingOf). AreComingOf t.sends (lives theirs) l) (sym a.came) tt;
    near = λ lane. subst (λ (l : List ComingOf). AreNear None (numbers_of lane (lives theirs) l)) (sym a.came) tt;
    received =
        subst (λ (l : List ComingOf). ReceivesAll (map (octets_coming (lives theirs)) l) (first_up t.sends) new.station.up [] new.heard) (sym a.came) (a.up ∙ ap first_up link, a.heard);
    own = ap (λ e. e.config.entity) a.entity;
    peer = ap (λ e. e.config.peer) a.entity;
    entity =
        subst (λ (e : EntityState). IsSound (found puts) (heard_ever new) files e) (sym a.entity)
        (laws.first (found puts) (heard_ever new) sources files (numbered_from number c.entity) a.valid);
    past =
        subst (λ (l : List Indication). IsPast c.entity.entity puts l (heard_ever new)) (sym a.told_before)
        (subst (λ (l : List (List ℕ)). IsPast c.entity.entity puts (told_ever old) l) (sym heard_same) (whole c t first puts old theirs k));
    sent_before = λ pdu among. heard_put laws.grounds c t first there puts old theirs joined k o pdu (subst (λ (l : List (List ℕ)). Contains l pdu) a.heard_before among);
    truth = λ pdu was.
        subst (λ (ls : List Life). (i : ℕ) → i < length ls → (lane : Lane) → Contains (puts_of lane (life_at ls i).calls) pdu → SaysSo (found puts) c.entity.entity (told_ever new) pdu) (sym all_lives)
        (each_life (λ i l. (lane : Lane) → Contains (puts_of lane l.calls) pdu → SaysSo (found puts) c.entity.entity (told_ever new) pdu) (lives old) (this_life new)
        (λ i low lane among. says_more (found puts) (found puts) c.entity.entity (told_ever old) (told_ever new) pdu (λ id put f. f) tells_anew
        (k.truth pdu (record { life = i; one = low; lane = lane; among = among })))
        (λ lane among. absurd (none_in pdu (subst (λ (l : List DownCall). Contains (puts_of lane l) pdu) a.sent among)))) was.life was.one was.lane was.among;
    numbers = λ p among of_mine.
        let low : p.id.number < (entity_of old).next = k.numbers p among of_mine in
        let up : (entity_of old).next ≤ number = a.unused in
        let is : (entity_of new).next ≡ number = ap (λ e. e.next) a.entity in
        omega (arith, low, up, is);
  }

  pub theirs_anew : KeepsLife t c there puts theirs new
  theirs_anew = stays laws.grounds c t there puts puts old theirs new (λ id put f. f) grows_anew o o.numbers

-- ---- a call more
pub record BothKept (c t : StationConfig) (first there : FileMap) (puts : List Put) (mine theirs : End) : Type 0 where
  pub mine_kept : IsKept c t first puts mine theirs
  pub theirs_kept : IsKept t c there puts theirs mine

-- a start with the files that the inbox had
both_anew : Laws → (c t : StationConfig) (first there : FileMap) (puts : List Put) (old theirs new : End) → IsJoinedTo c t → c.receives ≡ t.sends → IsKept c t first puts old theirs →
    IsKept t c there puts theirs old → (counted number : ℕ) → StartsAnew counted number c old new → BothKept c t first there puts new theirs
both_anew laws c t first there puts old theirs new joined link k o counted number a =
    let its : BeginsWith counted number (entity_of old).table.sources (entity_of old).table.files c old new = with_its counted number c old new a in
    record {
      mine_kept = record {
        begun = (entity_of old).table.files;
        life = life_anew laws c t k.begun o.begun puts old theirs new joined link k.life o.life counted number (entity_of old).table.sources (entity_of old).table.files its;
        inbox =
            whole_inbox c t k.begun puts old theirs k.life first k.inbox ∙ ap (λ (l : List Indication). inbox_after (found puts) first (completions c.entity.entity l)) (sym a.told_before);
      };
      theirs_kept = record {
        begun = o.begun;
        life = theirs_anew laws c t k.begun o.begun puts old theirs new joined link k.life o.life counted number (entity_of old).table.sources (entity_of old).table.files its;
        inbox = o.inbox;
      };
    }

pub call_kept : Laws → (call : Call) (c t : StationConfig) (first there : FileMap) (puts puts_then : List Put) (old theirs new : End) → IsJoinedTo c t → c.receives ≡ t.sends → IsKept c t first puts old theirs →
    IsKept t c there puts theirs old → DoesCall call c old theirs new puts puts_then → BothKept c t first there puts_then new theirs
call_kept laws call c t first there puts puts_then old theirs new joined link k o does = elim (call_moves laws.entity laws.truth call c t k.begun puts puts_then old theirs new link k.life does) [
  | inl m ↦ record {
    mine_kept = both_mine laws.grounds c t first there puts puts_then old theirs new joined k o m;
    theirs_kept = both_theirs laws.grounds c t first there puts puts_then old theirs new joined k o m;
  }
  | inr a ↦
      subst (λ (l : List Put). BothKept c t first there l new theirs) (sym a.1.1.1)
      (both_anew laws c t first there puts old theirs new joined link k o a.0 a.1.0 a.1.1.0)
]

pub happens_kept : Laws → (c : Setup) (firsts : Firsts) (event : Event) (old new : Pair) → AreJoined c → Happens c event old new → AreKept c firsts old → AreKept c firsts new
happens_kept laws c firsts (At One call) old new joined (does, same) k =
    let both : BothKept c.one c.two (firsts One) (firsts Two) new.puts new.one old.two =
    call_kept laws call c.one c.two (firsts One) (firsts Two) old.puts new.puts old.one old.two new.one (joined_to c One joined) (joined.link One) (k One) (k Two) does in
    each_side c firsts new (subst (λ (e : End). BothKept c.one c.two (firsts One) (firsts Two) new.puts new.one e) (sym same) both)
  where
    each_side : (c : Setup) (firsts : Firsts) (new : Pair) → BothKept c.one c.two (firsts One) (firsts Two) new.puts new.one new.two → AreKept c firsts new
    each_side c firsts new both One = both.mine_kept
    each_side c firsts new both Two = both.theirs_kept
happens_kept laws c firsts (At Two call) old new joined (does, same) k =
    let both : BothKept c.two c.one (firsts Two) (firsts One) new.puts new.two old.one =
    call_kept laws call c.two c.one (firsts Two) (firsts One) old.puts new.puts old.two old.one new.two (joined_to c Two joined) (joined.link Two) (k Two) (k One) does in
    each_side c firsts new (subst (λ (e : End). BothKept c.two c.one (firsts Two) (firsts One) new.puts new.two e) (sym same) both)
  where
    each_side : (c : Setup) (firsts : Firsts) (new : Pair) → BothKept c.two c.one (firsts Two) (firsts One) new.puts new.two new.one → AreKept c firsts new
    each_side c firsts new both One = both.theirs_kept
    each_side c firsts new both Two = both.mine_kept

happen_kept : Laws → (c : Setup) (firsts : Firsts) (events : List Event) (old new : Pair) → AreJoined c → Happen c events old new → AreKept c firsts old → AreKept c firsts new
happen_kept laws c firsts [] old new joined same k = subst (λ (w : Pair). AreKept c firsts w) (sym same) k
happen_kept laws c firsts (event ∷ events) old new joined (mid, here, rest) k =
    happen_kept laws c firsts events mid new joined rest (happens_kept laws c firsts event old mid joined here k)

-- ---- what holds
module _ (laws : Laws) (c t : StationConfig) (first there : FileMap) (puts : List Put) (mine theirs : End) (joined : IsJoinedTo c t) (k : KeepsLife c t first puts mine theirs)
    (o : KeepsLife t c there puts theirs mine) where
  -- a Finished that was heard was sent by the other station, which completed the transaction
  its_completed : (id : TransactionId) → SomePdu (SaysComplete id) (heard_ever mine) → Contains (completions t.entity.entity (told_ever theirs)) id
  its_completed id heard =
      let text : List ℕ = heard.1 in
      let was : WasPut (lives theirs) text = heard_put laws.grounds c t first there puts mine theirs joined k o text (heard.0, heard.2, heard.3) in
      let said = heard.4 in
      let is = said.1.1.1 in
      let told = (o.truth text was said.0 said.1.0 said.1.1.0).1 in
      subst (λ (x : TransactionId). Contains (completions t.entity.entity (told_ever theirs)) x) is.0 (told is.1.0 is.1.1)

  pub is_told : (id : TransactionId) → IsToldComplete (own mine) (told_ever mine) id → IsTold mine theirs id
  is_told id told =
      let heard : SomePdu (SaysComplete id) (heard_ever mine) = (whole c t first puts mine theirs k).was_told id (told.0 ∙ k.own, told.1) in
      record { heard = heard; completed = subst (λ (n : ℕ). Contains (completions n (told_ever theirs)) id) (sym o.own) (its_completed id heard) }

  pub says_truth : (text : List ℕ) → HasSent mine text → (h : Header) (v : Content) → SpellsPdu h v text → SaysTruth (own mine) (found puts) h.id v
  says_truth text sent h v spelled =
      subst (λ (n : ℕ). SaysTruth n (found puts) h.id v) (sym k.own) (k.truth text (record { life = sent.0; one = sent.1.0; lane = sent.1.1.0; among = sent.1.1.1 }) h v spelled).0

-- what holds whatever files the inbox had as this life began
pub caused_at : (c t : StationConfig) (begun : FileMap) (puts : List Put) (mine theirs : End) → KeepsLife c t begun puts mine theirs → (id : TransactionId) → Contains (completed mine) id →
    (put : Put) × ((found puts id ≡ Some put) × HeardInFull put (heard_ever mine))
caused_at c t begun puts mine theirs k id done =
    (whole c t begun puts mine theirs k).caused id (subst (λ (n : ℕ). Contains (completions n (told_ever mine)) id) k.own done)

pub all_hold : Laws → (c : Setup) (firsts : Firsts) (w : Pair) (s : Side) → AreJoined c → AreKept c firsts w → HoldsAt s (firsts s) w
all_hold laws c firsts w s joined k =
    let mine = k s in
    let theirs : IsKept (setup_of (other s) c) (setup_of s c) (firsts (other s)) w.puts (at (other s) w) (at s w) =
    subst (λ (r : Side). IsKept (setup_of (other s) c) (setup_of r c) (firsts (other s)) w.puts (at (other s) w) (at r w)) (other_other s) (k (other s)) in
    let d : StationConfig = setup_of s c in
    let t : StationConfig = setup_of (other s) c in
    record {
      inbox =
          whole_inbox d t mine.begun w.puts (at s w) (at (other s) w) mine.life (firsts s) mine.inbox
          ∙ ap (λ n. inbox_after (found w.puts) (firsts s) (completions n (told_ever (at s w)))) (sym mine.life.own);
      once = λ id. (let o = mine.life.entity.once.once id in omega (arith, o));
      caused = caused_at d t mine.begun w.puts (at s w) (at (other s) w) mine.life;
      told = is_told laws d t mine.begun theirs.begun w.puts (at s w) (at (other s) w) (joined_to c s joined) mine.life theirs.life;
      truth = says_truth laws d t mine.begun theirs.begun w.puts (at s w) (at (other s) w) (joined_to c s joined) mine.life theirs.life;
    }
  where
    other_other : (s : Side) → other (other s) ≡ s
    other_other One = refl
    other_other Two = refl

pub promise : Laws → (c : Setup) (counts : Counts) (sources firsts : Firsts) (events : List Event) (start w : Pair) → AreJoined c → ((s : Side) → IsNew (setup_of s c) (counts s) (sources s) (firsts s) (at s start)) →
    start.puts ≡ [] → Happen c events start w → (s : Side) → HoldsAt s (firsts s) w
promise laws c counts sources firsts events start w joined new none happen s =
    let kept : AreKept c firsts start =
    (λ (r : Side). new_kept laws (setup_of r c) (setup_of (other r) c) (counts r) (sources r) (firsts r) start.puts (at r start) (at (other r) start) (joined.valid r).entity (joined.link r) (new r) none) in
    all_hold laws c firsts w s joined (happen_kept laws c firsts events start w joined happen kept)
