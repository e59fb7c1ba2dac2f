-- What is kept of two stations, if one of them resumes.
use Rattle.std.proofs.Common.{◌≡◌, ℕ, ◌+◌, ◌<◌, ◌≤◌, Option, None, List, [], ◌∷◌, ◌++◌, length, map, sym, ap, subst, ◌∙◌, arith, append-nil}
use Rattle.std.specs.Prelude.{Contains}
use Rattle.aos_frame.specs.declared.config.Lane.{Lane}
use Rattle.link_stack.specs.AnyOrder.{ReceivesAll}
use Rattle.link_stack.specs.Downward.{both_counted_from, first_down}
use Rattle.link_stack.specs.EndToEnd.{AreNear, DoesAll, DownCall, made_of, puts_of}
use Rattle.link_stack.specs.Lives.{AreApart, AreComingOf, ComingOf, IsLife, Life, life_at, numbers_of, octets_coming}
use Rattle.link_stack.specs.Upward.{first_up}
use Rattle.cfdp_header.specs.declared.value.TransactionId.{TransactionId}
use Rattle.cfdp_header.specs.Files.{FileMap}
use Rattle.cfdp_directives.specs.declared.user.indication.Indication.{Indication}
use Rattle.cfdp_directives.specs.User.Completions.{completions}
use Rattle.cfdp_directives.specs.User.Put.{Put, inbox_after}
use Rattle.cfdp_directives.proofs.Puts.{completions-append}
use Rattle.cfdp_entity.specs.Entity.{EntityState}
use Rattle.cfdp_entity.specs.Sound.{IsSound}
use Rattle.cfdp_station.specs.declared.config.StationConfig.{StationConfig}
use Rattle.cfdp_resuming.specs.Entity.{IsResumed}
use Rattle.any_order.specs.Calls.{AreJoined, End, IsNew, One, Two, Pair, Setup, Side, at, entity_of, lives, other, setup_of}
use Rattle.any_order.specs.Promise.{HoldsAt, found, heard_ever, told_ever}
use Rattle.any_order.proofs.Kept.{IsJoinedTo, IsKept, IsPast, KeepsLife, SaysSo, TellsAll, heard_put, kept_stays, says_more, this_life}
use Rattle.any_order.proofs.Lives.{Grow, apart_more, each_life, grow_more}
use Rattle.any_order.proofs.Promise.{AreKept, BothKept, Laws, all_hold, happens_kept, joined_to, new_kept}
use Rattle.any_order.specs.Resuming.{Calls, LifeEvent, HappenOrResume, HappensOrResumes, Resumes, ResumesAt}

-- what a law says of an entity that is brought back
abbrev pub ResumedSound : Type 0
ResumedSound = (put_of : TransactionId → Option Put) (heard : List (List ℕ)) (first : FileMap) (old new : EntityState) → IsResumed old new → IsSound put_of heard first old → IsSound put_of heard first new

none_in : {X : Type 0} (x : X) → Contains [] x → ⊥
none_in x c = let k = c.0 in let low : k < 0 = c.1 in omega arith

module _ (laws : Laws) (sound : ResumedSound) (c t : StationConfig) (first there : FileMap) (puts : List Put) (old theirs new : End) (joined : IsJoinedTo c t) (link : c.receives ≡ t.sends)
    (k : IsKept c t first puts old theirs) (o : IsKept t c there puts theirs old) (counted : ℕ) (a : Resumes counted c old new) where
  all_lives : lives new ≡ lives old ++ this_life new ∷ []
  all_lives = ap (λ l. l ++ this_life new ∷ []) a.lives_before

  grows_anew : Grow (lives old) (lives new)
  grows_anew = subst (λ (l : List Life). Grow (lives old) l) (sym all_lives) (grow_more (lives old) (this_life new))

  sending_anew : DoesAll new.sent (both_counted_from new.first (first_down c.sends c.capacity)) new.station.down
  sending_anew =
      subst (λ (l : List DownCall). DoesAll l (both_counted_from new.first (first_down c.sends c.capacity)) new.station.down) (sym a.sent)
      (subst (λ (n : ℕ). new.station.down ≡ both_counted_from n (first_down c.sends c.capacity)) (sym a.counted) a.down)

  heard_same : heard_ever new ≡ heard_ever old
  heard_same = ap (λ l. l ++ new.heard) a.heard_before ∙ ap (λ l. heard_ever old ++ l) a.heard ∙ append-nil (heard_ever old)

  own_told : List Indication
  own_told = (entity_of old).table.told

  -- what was completed is what was
  done_same : completions c.entity.entity (told_ever new) ≡ completions c.entity.entity (told_ever old)
  done_same =
      ap (λ l. completions c.entity.entity (l ++ (entity_of new).table.told)) a.told_before
      ∙ completions-append c.entity.entity old.told_before (entity_of new).table.told
      ∙ ap (λ ids. completions c.entity.entity old.told_before ++ ids) (subst (λ (n : ℕ). completions n (entity_of new).table.told ≡ completions n (entity_of old).table.told) k.life.own a.entity.published)
      ∙ sym (completions-append c.entity.entity old.told_before (entity_of old).table.told)

  tells_same : TellsAll c.entity.entity (told_ever old) (told_ever new)
  tells_same id done = subst (λ (ids : List TransactionId). Contains ids id) (sym done_same) done

  life_resumed : KeepsLife c t k.begun puts new theirs
  life_resumed = record {
    each = subst (λ (l : List Life). (i : ℕ) → i < length l → IsLife c.sends c.capacity (life_at l i)) (sym all_lives)
        (each_life (λ i l. IsLife c.sends c.capacity l) (lives old) (this_life new) k.life.each (record { now = new.station.down; does = sending_anew }));
    sending = sending_anew;
    apart = subst AreApart (sym all_lives)
        (apart_more old.lives_before (this_life old) (this_life new) k.life.apart (λ lane. subst (λ (n : ℕ). old.first + length (made_of lane old.sent) < n) (sym a.counted) (a.apart lane)));
    coming = subst (λ (l : List ComingOf). AreComingOf t.sends (lives theirs) l) (sym a.came) tt;
    near = λ lane. subst (λ (l : List ComingOf). AreNear None (numbers_of lane (lives theirs) l)) (sym a.came) tt;
    received =
        subst (λ (l : List ComingOf). ReceivesAll (map (octets_coming (lives theirs)) l) (first_up t.sends) new.station.up [] new.heard) (sym a.came) (a.up ∙ ap first_up link, a.heard);
    own = a.entity.own ∙ k.life.own;
    peer = a.entity.peer ∙ k.life.peer;
    entity =
        subst (λ (l : List (List ℕ)). IsSound (found puts) l k.begun (entity_of new)) (sym heard_same)
        (sound (found puts) (heard_ever old) k.begun (entity_of old) (entity_of new) a.entity k.life.entity);
    past = subst (λ (l : List Indication). IsPast c.entity.entity puts l (heard_ever new)) (sym a.told_before)
        (subst (λ (l : List (List ℕ)). IsPast c.entity.entity puts old.told_before l) (sym heard_same) k.life.past);
    sent_before = λ pdu among. heard_put laws.grounds c t k.begun o.begun puts old theirs joined k.life o.life pdu (subst (λ (l : List (List ℕ)). Contains l pdu) a.heard_before among);
    truth = λ pdu was.
        subst (λ (ls : List Life). (i : ℕ) → i < length ls → (lane : Lane) → Contains (puts_of lane (life_at ls i).calls) pdu → SaysSo (found puts) c.entity.entity (told_ever new) pdu) (sym all_lives)
        (each_life (λ i l. (lane : Lane) → Contains (puts_of lane l.calls) pdu → SaysSo (found puts) c.entity.entity (told_ever new) pdu) (lives old) (this_life new)
        (λ i low lane among. says_more (found puts) (found puts) c.entity.entity (told_ever old) (told_ever new) pdu (λ id put f. f) tells_same
        (k.life.truth pdu (record { life = i; one = low; lane = lane; among = among })))
        (λ lane among. absurd (none_in pdu (subst (λ (l : List DownCall). Contains (puts_of lane l) pdu) a.sent among)))) was.life was.one was.lane was.among;
    numbers = λ p among of_mine.
        let low : p.id.number < (entity_of old).next = k.life.numbers p among of_mine in
        let up : (entity_of old).next ≤ (entity_of new).next = a.entity.next in
        omega (arith, low, up);
  }

  inbox_resumed : k.begun ≡ inbox_after (found puts) first (completions c.entity.entity new.told_before)
  inbox_resumed = subst
      (λ (l : List Indication). k.begun ≡ inbox_after (found puts) first (completions c.entity.entity l))
      (sym a.told_before) k.inbox

  pub kept_resumed : IsKept c t first puts new theirs
  kept_resumed = record { begun = k.begun; life = life_resumed; inbox = inbox_resumed }

  pub theirs_resumed : IsKept t c there puts theirs new
  theirs_resumed = kept_stays laws.grounds c t there puts puts old theirs new (λ id put f. f) grows_anew o o.life.numbers

  pub both_resumed : BothKept c t first there puts new theirs
  both_resumed = record { mine_kept = kept_resumed; theirs_kept = theirs_resumed }

-- ---- one event more
each_side : (c : Setup) (firsts : Side → FileMap) (puts : List Put) (w : Pair) → w.puts ≡ puts → BothKept c.one c.two (firsts One) (firsts Two) puts w.one w.two → AreKept c firsts w
each_side c firsts puts w same both One = subst (λ (l : List Put). IsKept c.one c.two (firsts One) l w.one w.two) (sym same) both.mine_kept
each_side c firsts puts w same both Two = subst (λ (l : List Put). IsKept c.two c.one (firsts Two) l w.two w.one) (sym same) both.theirs_kept

other_side : (c : Setup) (firsts : Side → FileMap) (puts : List Put) (w : Pair) → w.puts ≡ puts → BothKept c.two c.one (firsts Two) (firsts One) puts w.two w.one → AreKept c firsts w
other_side c firsts puts w same both One = subst (λ (l : List Put). IsKept c.one c.two (firsts One) l w.one w.two) (sym same) both.theirs_kept
other_side c firsts puts w same both Two = subst (λ (l : List Put). IsKept c.two c.one (firsts Two) l w.two w.one) (sym same) both.mine_kept

module _ (laws : Laws) (sound : ResumedSound) (c : Setup) (firsts : Side → FileMap) (joined : AreJoined c) where
  life_event_kept : (event : LifeEvent) (old new : Pair) → HappensOrResumes c event old new → AreKept c firsts old → AreKept c firsts new
  life_event_kept (Calls event) old new does k = happens_kept laws c firsts event old new joined does k
  life_event_kept (ResumesAt One first) old new (does, same, others) k =
      each_side c firsts old.puts new same
      (subst (λ (e : End). BothKept c.one c.two (firsts One) (firsts Two) old.puts new.one e) (sym others)
      (both_resumed laws sound c.one c.two (firsts One) (firsts Two) old.puts old.one old.two new.one (joined_to c One joined) (joined.link One) (k One) (k Two) first does))
  life_event_kept (ResumesAt Two first) old new (does, same, others) k =
      other_side c firsts old.puts new same
      (subst (λ (e : End). BothKept c.two c.one (firsts Two) (firsts One) old.puts new.two e) (sym others)
      (both_resumed laws sound c.two c.one (firsts Two) (firsts One) old.puts old.two old.one new.two (joined_to c Two joined) (joined.link Two) (k Two) (k One) first does))

  pub events_kept : (events : List LifeEvent) (old new : Pair) → HappenOrResume c events old new → AreKept c firsts old → AreKept c firsts new
  events_kept [] old new same k = subst (λ (w : Pair). AreKept c firsts w) (sym same) k
  events_kept (event ∷ events) old new (mid, here, rest) k = events_kept events mid new rest (life_event_kept event old mid here k)

  -- both, from the beginning on
  pub run_kept : (counts : Side → ℕ) (sources : Side → FileMap) (events : List LifeEvent) (start w : Pair) → ((s : Side) → IsNew (setup_of s c) (counts s) (sources s) (firsts s) (at s start)) → start.puts ≡ [] →
      HappenOrResume c events start w → AreKept c firsts w
  run_kept counts sources events start w new none happen =
      let kept : AreKept c firsts start =
      (λ (r : Side). new_kept laws (setup_of r c) (setup_of (other r) c) (counts r) (sources r) (firsts r) start.puts (at r start) (at (other r) start) (joined.valid r).entity (joined.link r) (new r) none) in
      events_kept events start w happen kept

  pub resuming_promise : (counts : Side → ℕ) (sources : Side → FileMap) (events : List LifeEvent) (start w : Pair) → ((s : Side) → IsNew (setup_of s c) (counts s) (sources s) (firsts s) (at s start)) →
      start.puts ≡ [] → HappenOrResume c events start w → (s : Side) → HoldsAt s (firsts s) w
  resuming_promise counts sources events start w new none happen s = all_hold laws c firsts w s joined (run_kept counts sources events start w new none happen)
