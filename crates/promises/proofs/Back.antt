-- What is kept of two stations, with histories of both for which the promise holds, if one of them resumes.
use Rattle.std.proofs.Common.{◌≡◌, ℕ, ◌+◌, ◌<◌, ◌≤◌, Option, None, true, List, [], ◌∷◌, ◌++◌, length, map, refl, sym, ap, subst, ◌∙◌, arith, append-nil}
use Rattle.std.specs.Prelude.{Contains}
use Rattle.aos_frame.specs.declared.config.Lane.{Lane}
use Rattle.aos_frame.specs.declared.config.Lane.TheVariants.{Directives, Data}
use Rattle.link_stack.specs.AnyOrder.{ReceivesAll}
use Rattle.link_stack.specs.Downward.{both_counted_from, first_down}
use Rattle.link_stack.specs.EndToEnd.{AreNear, DoesAll, DownCall, made_of, puts_of}
use Rattle.link_stack.specs.Lives.{AreApart, AreComingOf, ComingOf, IsLife, Life, life_at, numbers_of, octets_coming}
use Rattle.link_stack.specs.Upward.{first_up}
use Rattle.cfdp_header.specs.declared.value.TransactionId.{TransactionId}
use Rattle.cfdp_header.specs.Files.{FileMap}
use Rattle.cfdp_directives.specs.declared.user.indication.Indication.{Indication}
use Rattle.cfdp_directives.specs.User.Completions.{completions}
use Rattle.cfdp_directives.specs.User.Put.{Put}
use Rattle.cfdp_directives.proofs.Puts.{completions-append}
use Rattle.cfdp_entity.specs.Entity.{EntityState}
use Rattle.cfdp_entity.specs.Sound.{IsSound}
use Rattle.cfdp_station.specs.declared.config.StationConfig.{StationConfig}
use Rattle.cfdp_station.specs.Station.{StationState}
use Rattle.cfdp_resuming.specs.Entity.{IsResumed}
use Rattle.shown_sources.specs.Shown.{entity_sending, station_sending}
use Rattle.any_order.specs.Calls.{End, entity_of, lives}
use Rattle.any_order.specs.Kept.{EndKept, HasTaken, IsOf, LifeKept, last_at}
use Rattle.any_order.specs.Promise.{found, heard_ever, told_ever}
use Rattle.any_order.proofs.Coming.{kept_lives}
use Rattle.any_order.proofs.Keeping.{taken_grown}
use Rattle.any_order.proofs.Kept.{IsJoinedTo, IsPast, KeepsLife, SaysSo, TellsAll, heard_put, says_more, stays, this_life}
use Rattle.any_order.proofs.Lives.{Grow, apart_more, each_life, grow_more}
use Rattle.any_order.proofs.Promise.{Laws}
use Rattle.any_order.specs.Resuming.{Resumes}
use Rattle.promises.specs.Serving.{kept_sending}
use Rattle.promises.proofs.Doing.{AllLaws}
use Rattle.promises.proofs.Holding.{Held, held_like}
use Rattle.promises.proofs.Sounds.{sound_else}
use Rattle.promises.proofs.Telling.{told_of}
use Rattle.promises.specs.Resuming.{ResumesFrom, ServiceLife, entity_in}

-- what a law says of an entity that is brought back
abbrev pub ResumedSound : Type 0
ResumedSound = (put_of : TransactionId → Option Put) (heard : List (List ℕ)) (first : FileMap) (old new : EntityState) → IsResumed old new → IsSound put_of heard first old → IsSound put_of heard first new

none_in : {X : Type 0} (x : X) → Contains [] x → ⊥
none_in x c = let k = c.0 in let low : k < 0 = c.1 in omega arith

-- ---- a history
-- The station `new` resumed from `old`, whose inbox had any files as its life began.
module _ (laws : Laws) (sound : ResumedSound) (c t : StationConfig) (first there : FileMap) (puts : List Put) (old theirs new : End) (joined : IsJoinedTo c t) (link : c.receives ≡ t.sends)
    (k : KeepsLife c t first puts old theirs) (o : KeepsLife t c there puts theirs old) (counted : ℕ) (a : Resumes counted c old new) where
  all_lives : lives new ≡ lives old ++ this_life new ∷ []
  all_lives = ap (λ l. l ++ this_life new ∷ []) a.lives_before

  pub grows_resumed : Grow (lives old) (lives new)
  grows_resumed = subst (λ (l : List Life). Grow (lives old) l) (sym all_lives) (grow_more (lives old) (this_life new))

  sending_resumed : DoesAll new.sent (both_counted_from new.first (first_down c.sends c.capacity)) new.station.down
  sending_resumed =
      subst (λ (l : List DownCall). DoesAll l (both_counted_from new.first (first_down c.sends c.capacity)) new.station.down) (sym a.sent)
      (subst (λ (n : ℕ). new.station.down ≡ both_counted_from n (first_down c.sends c.capacity)) (sym a.counted) a.down)

  heard_same : heard_ever new ≡ heard_ever old
  heard_same = ap (λ l. l ++ new.heard) a.heard_before ∙ ap (λ l. heard_ever old ++ l) a.heard ∙ append-nil (heard_ever old)

  -- what was completed is what was
  done_same : completions c.entity.entity (told_ever new) ≡ completions c.entity.entity (told_ever old)
  done_same =
      ap (λ l. completions c.entity.entity (l ++ (entity_of new).table.told)) a.told_before
      ∙ completions-append c.entity.entity old.told_before (entity_of new).table.told
      ∙ ap (λ ids. completions c.entity.entity old.told_before ++ ids) (subst (λ (n : ℕ). completions n (entity_of new).table.told ≡ completions n (entity_of old).table.told) k.own a.entity.published)
      ∙ sym (completions-append c.entity.entity old.told_before (entity_of old).table.told)

  tells_same : TellsAll c.entity.entity (told_ever old) (told_ever new)
  tells_same id done = subst (λ (ids : List TransactionId). Contains ids id) (sym done_same) done

  pub life_resumed : KeepsLife c t first puts new theirs
  life_resumed = record {
    each = subst (λ (l : List Life). (i : ℕ) → i < length l → IsLife c.sends c.capacity (life_at l i)) (sym all_lives)
        (each_life (λ i l. IsLife c.sends c.capacity l) (lives old) (this_life new) k.each (record { now = new.station.down; does = sending_resumed }));
    sending = sending_resumed;
    apart = subst AreApart (sym all_lives)
        (apart_more old.lives_before (this_life old) (this_life new) k.apart (λ lane. subst (λ (n : ℕ). old.first + length (made_of lane old.sent) < n) (sym a.counted) (a.apart lane)));
    coming = subst (λ (l : List ComingOf). AreComingOf t.sends (lives theirs) l) (sym a.came) tt;
    near = λ lane. subst (λ (l : List ComingOf). AreNear None (numbers_of lane (lives theirs) l)) (sym a.came) tt;
    received =
        subst (λ (l : List ComingOf). ReceivesAll (map (octets_coming (lives theirs)) l) (first_up t.sends) new.station.up [] new.heard) (sym a.came) (a.up ∙ ap first_up link, a.heard);
    own = a.entity.own ∙ k.own;
    peer = a.entity.peer ∙ k.peer;
    entity =
        subst (λ (l : List (List ℕ)). IsSound (found puts) l first (entity_of new)) (sym heard_same)
        (sound (found puts) (heard_ever old) first (entity_of old) (entity_of new) a.entity k.entity);
    past = subst (λ (l : List Indication). IsPast c.entity.entity puts l (heard_ever new)) (sym a.told_before)
        (subst (λ (l : List (List ℕ)). IsPast c.entity.entity puts old.told_before l) (sym heard_same) k.past);
    sent_before = λ pdu among. heard_put laws.grounds c t first there puts old theirs joined k o pdu (subst (λ (l : List (List ℕ)). Contains l pdu) a.heard_before among);
    truth = λ pdu was.
        subst (λ (ls : List Life). (i : ℕ) → i < length ls → (lane : Lane) → Contains (puts_of lane (life_at ls i).calls) pdu → SaysSo (found puts) c.entity.entity (told_ever new) pdu) (sym all_lives)
        (each_life (λ i l. (lane : Lane) → Contains (puts_of lane l.calls) pdu → SaysSo (found puts) c.entity.entity (told_ever new) pdu) (lives old) (this_life new)
        (λ i low lane among. says_more (found puts) (found puts) c.entity.entity (told_ever old) (told_ever new) pdu (λ id put f. f) tells_same
        (k.truth pdu (record { life = i; one = low; lane = lane; among = among })))
        (λ lane among. absurd (none_in pdu (subst (λ (l : List DownCall). Contains (puts_of lane l) pdu) a.sent among)))) was.life was.one was.lane was.among;
    numbers = λ p among of_mine.
        let low : p.id.number < (entity_of old).next = k.numbers p among of_mine in
        let up : (entity_of old).next ≤ (entity_of new).next = a.entity.next in
        omega (arith, low, up);
  }

  pub theirs_resumed : KeepsLife t c there puts theirs new
  theirs_resumed = stays laws.grounds c t there puts puts old theirs new (λ id put f. f) grows_resumed o o.numbers

-- ---- what is kept
module _ (all : AllLaws) (sound : ResumedSound) (c t : StationConfig) (there : FileMap) (puts : List Put) (joined : IsJoinedTo c t) (link : c.receives ≡ t.sends) (theirs : EndKept) (counted : ℕ)
    (old new : ServiceLife) (r : ResumesFrom counted c old new) (h : Held c t old.served.begun there puts (kept_sending old.served.has old.served.kept) theirs) where
  -- the station, with what the files had before
  abbrev mid : EndKept
  mid = kept_sending old.served.has new.served.kept

  -- its history
  after : End
  after = record {
    station = station_sending old.served.has new.served.kept.station;
    first = counted;
    sent = [];
    came = [];
    heard = [];
    lives_before = lives h.m;
    told_before = h.m.told_before;
    heard_before = heard_ever h.m;
  }

  apart : (lane : Lane) → h.m.first + length (made_of lane h.m.sent) < counted
  apart Directives = subst (λ (k : LifeKept). k.first + length k.directives < counted) (sym h.of_mine.latest) (r.apart Directives)
  apart Data = subst (λ (k : LifeKept). k.first + length k.file_data < counted) (sym h.of_mine.latest) (r.apart Data)

  resumes : Resumes counted c h.m after
  unfolding after
  resumes = record {
    entity = subst (λ (s : StationState). IsResumed s.entity.state (entity_sending old.served.has (entity_in new))) (sym h.of_mine.station) r.entity;
    down = r.down;
    up = r.up;
    counted = refl;
    apart = apart;
    sent = refl;
    came = refl;
    heard = refl;
    lives_before = refl;
    told_before = refl;
    heard_before = refl;
  }

  of_after : IsOf mid after
  unfolding after
  of_after = record {
    station = refl;
    before = kept_lives (kept_sending old.served.has old.served.kept) h.m h.of_mine ∙ ap (λ (k : EndKept). k.before) (sym r.kept);
    latest = ap (λ (k : EndKept). k.latest) (sym r.kept);
    told = h.of_mine.told ∙ ap (λ (k : EndKept). k.told_before) (sym r.kept);
  }

  last_after : (lane : Lane) → None ≡ last_at lane mid
  last_after Directives = ap (λ (k : EndKept). k.last_directives) (sym r.kept)
  last_after Data = ap (λ (k : EndKept). k.last_data) (sym r.kept)

  taken_after : HasTaken c.receives mid after h.o
  unfolding after
  taken_after = record { coming = tt; near = λ lane. tt; last = last_after }

  held_mid : Held c t old.served.begun there puts mid theirs
  held_mid = record {
    m = after;
    o = h.o;
    of_mine = of_after;
    of_theirs = h.of_theirs;
    taken_mine = taken_after;
    taken_theirs = taken_grown t.receives theirs h.o h.m after
        (grows_resumed all.laws sound c t old.served.begun there puts h.m h.o after joined link h.kept_mine h.kept_theirs counted resumes) h.taken_theirs;
    kept_mine = life_resumed all.laws sound c t old.served.begun there puts h.m h.o after joined link h.kept_mine h.kept_theirs counted resumes;
    kept_theirs = theirs_resumed all.laws sound c t old.served.begun there puts h.m h.o after joined link h.kept_mine h.kept_theirs counted resumes;
  }

  pub held_resumed : Held c t new.served.begun there puts (kept_sending new.served.has new.served.kept) theirs
  held_resumed = subst (λ (f : FileMap). Held c t f there puts (kept_sending new.served.has new.served.kept) theirs) (sym r.begun)
      (held_like c t old.served.begun there puts mid (kept_sending new.served.has new.served.kept) theirs refl refl refl (record { told = refl; config = refl; next = refl; files = refl })
      (λ heard begun is.
      let e : EntityState = entity_sending old.served.has (entity_in new) in
      sound_else (found puts) heard begun e new.served.has true e.table.gone (λ place id x at. r.files place id x at) is) held_mid)

  own_here : (entity_in old).config.entity ≡ c.entity.entity
  own_here = ap (λ (s : StationState). s.entity.state.config.entity) (sym h.of_mine.station) ∙ h.kept_mine.own

  -- what it completed is what it had
  pub done_resumed : completions c.entity.entity (told_of new.served.kept) ≡ completions c.entity.entity (told_of old.served.kept)
  done_resumed =
      ap (λ (k : EndKept). completions c.entity.entity (k.told_before ++ (entity_in new).table.told)) r.kept
      ∙ completions-append c.entity.entity old.served.kept.told_before (entity_in new).table.told
      ∙ ap (λ ids. completions c.entity.entity old.served.kept.told_before ++ ids)
      (subst (λ (n : ℕ). completions n (entity_in new).table.told ≡ completions n (entity_in old).table.told) own_here r.entity.published)
      ∙ sym (completions-append c.entity.entity old.served.kept.told_before (entity_in old).table.told)
