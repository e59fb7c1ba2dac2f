-- A turn with what the files to send have, in the place of what the outbox has: the same turn, in which the files stand.
use Rattle.std.proofs.Common.{◌≡◌, ◌⊎◌, ◌<◌, ℕ, zero, suc, Bool, true, false, List, [], ◌∷◌, ◌++◌, Option, Some, None, Result, Ok, Err, length, slice_get, refl, sym, ap, subst, ◌∙◌, inl, inr}
use Rattle.aos_frame.specs.declared.config.Lane.{Lane}
use Rattle.aos_frame.specs.declared.config.Lane.TheVariants.{Directives, Data}
use Rattle.aos_frame.specs.declared.config.LinkConfig.{LinkConfig}
use Rattle.cfdp_header.specs.Files.{FileMap}
use Rattle.cfdp_entity.specs.Entity.{Counted, EntityState}
use Rattle.cfdp_station.specs.Station.{StationState}
use Rattle.cfdp_station.specs.Transmitting.{EndsPolls, FillsUp, IsMore, MovesMore, Pulls, Times}
use Rattle.cfdp_station.specs.declared.pumping.Until.TheVariants.{Frame}
use Rattle.cfdp_station.specs.declared.polled.Polled.{Polled}
use Rattle.cfdp_station.specs.declared.polled.Polled.TheVariants.{Moved, Nothing, Full, SourceFailed}
use Rattle.cfdp_port.specs.Calls.{WireCall}
use Rattle.cfdp_port.specs.Passing.{frames_came, what_came}
use Rattle.cfdp_port.specs.PeerTurn.{SendsNext, SendsNone, SendsSome, SendsSomeInPart}
use Rattle.cfdp_port.specs.Port.{PortState, port_state, table_of}
use Rattle.cfdp_port.specs.Turn.{Asks, AsksOn, HearsAll, SendsFrame, TakesWhat, TellsTime}
use Rattle.cfdp_port.specs.declared.wire.WireFault.{WireFault}
use Rattle.any_order.specs.Kept.{EndKept, LifeKept, all_kept, frames_in, last_at, with_frame, with_last}
use Rattle.any_order.specs.Refusing.{IsNearLast, number_in}
use Rattle.shown_sources.specs.Shown.{AreAsLong, ReadsAs, counted_sending, station_sending}
use Rattle.shown_sources.proofs.Hearing.{frame_keeps, frame_sending}
use Rattle.shown_sources.proofs.Polling.{poll_long, poll_sending}
use Rattle.shown_sources.proofs.Tables.{tick_asks, ticks_keep, ticks_sending}
use Rattle.cfdp_store.specs.Chains.{Raises}
use Rattle.promises.specs.Passing.{Comes, ComesOne, FramesRead, LastRead, PartReads, PollsRead, TurnReads, with_sent}
use Rattle.promises.specs.Passing as passing
use Rattle.promises.specs.Serving.{kept_sending}
use Rattle.promises.proofs.Standing as standing

abbrev pub port_sending : {W : Type 0} → FileMap → PortState W → PortState W
port_sending files p = record p { station = station_sending files p.station }

module _ (files : FileMap) where
  -- The files are as long as those of a station.
  abbrev pub Long : StationState → Type 0
  Long s = AreAsLong (table_of s).sources files

  abbrev st : StationState → StationState
  st s = station_sending files s

  long_same : (a b : StationState) → (table_of b).sources ≡ (table_of a).sources → Long a → Long b
  long_same a b same long = subst (λ (x : FileMap). AreAsLong x files) (sym same) long

  -- a step with these files, after which they are still as long
  record Step (Rel : StationState → StationState → Type 0) (a b : StationState) : Type 0 where
    pub is : Rel (st a) (st b)
    pub long : Long b

  -- ---- polls
  none_read : (answer : Polled) (a b : EntityState) → (IsMore answer → ⊥) → ReadsAs answer files a b
  none_read Moved a b none = absurd (none tt)
  none_read Nothing a b none = tt
  none_read Full a b none = tt
  none_read SourceFailed a b none = tt

  moved_so : (count : ℕ) (a b : StationState) (times : Times (MovesMore Frame) count a b) → PollsRead files count a b times → Long a → Step (Times (MovesMore Frame) count) a b
  moved_so zero a b same reads long = record { is = ap st same; long = subst Long (sym same) long }
  moved_so (suc count) a b (mid, before, step) reads long =
      let first : Step (Times (MovesMore Frame) count) a mid = moved_so count a mid before reads.0 long in
      let one = step.1.2 in
      record {
        is = (st mid, first.is, (step.0, (step.1.0, step.1.1, poll_sending files mid b step.1.0 one first.long reads.1)));
        long = poll_long files mid b step.1.0 one first.long;
      }

  ended_so : (rests : Bool) (count : ℕ) (a b : StationState) → EndsPolls Frame 16 rests count a b → Long a → Step (EndsPolls Frame 16 rests count) a b
  ended_so true count a b (few, none) long =
      let answer : Polled = none.1.0 in
      let one = none.1.2 in
      record {
        is = (few, (none.0, (answer, none.1.1, poll_sending files a b answer one long (none_read answer a.entity.state b.entity.state none.1.1))));
        long = poll_long files a b answer one long;
      }
  ended_so false count a b (ends, same) long = record { is = (ends, ap st same); long = subst Long (sym same) long }

  filled_so : (rests : Bool) (a b : StationState) → FillsUp rests a b → Long a → Step (FillsUp rests) a b
  filled_so true a b f long = record {
    is = (f.0, (ap (counted_sending files) f.1.0, f.1.1));
    long = long_same a b (ap (λ (e : Counted). e.state.table.sources) f.1.0) long;
  }
  filled_so false a b f long = record {
    is = record { fills = f.fills; file_data = f.file_data; packet_count = f.packet_count; keeps = (ap (counted_sending files) f.keeps.0, f.keeps.1) };
    long = long_same a b (ap (λ (e : Counted). e.state.table.sources) f.keeps.0) long;
  }

  pull_so : (a b : StationState) (p : Pulls 16 a b) → PollsRead files p.polls.count a p.polls.last p.polls.moved → Long a → Step (Pulls 16) a b
  pull_so a b p reads long =
      let m : Step (Times (MovesMore Frame) p.polls.count) a p.polls.last = moved_so p.polls.count a p.polls.last p.polls.moved reads long in
      let e : Step (EndsPolls Frame 16 p.rests p.polls.count) p.polls.last p.polled = ended_so p.rests p.polls.count p.polls.last p.polled p.polls.ends m.long in
      let f : Step (FillsUp p.rests) p.polled b = filled_so p.rests p.polled b p.fills e.long in
      record {
        is = record {
          rests = p.rests;
          polled = st p.polled;
          polls = record { count = p.polls.count; last = st p.polls.last; moved = m.is; ends = e.is };
          fills = f.is;
        };
        long = f.long;
      }

  tick_so : (now : ℕ) (a b : StationState) → TellsTime now a b → Long a → Step (TellsTime now) a b
  tick_so now a b t long = record {
    is = record {
      ticked = ticks_sending files now (table_of a) (table_of b) t.ticked;
      table = ap (λ (e : EntityState). record e { table = record e.table { sources = files; stands = true } }) t.table;
      failures = t.failures;
      raises = tick_asks Raises files now (table_of a) a.entity.inbox_failures b.entity.inbox_failures t.raises;
      link = t.link;
    };
    long = long_same a b (ticks_keep now (table_of a) (table_of b) t.ticked) long;
  }

  module _ {W : Type 0} (Steps : W → WireCall → W → Type 0) where
    abbrev pt : PortState W → PortState W
    pt p = port_sending files p

    -- ---- frames that leave
    frame_so : (p q : PortState W) → SendsFrame Steps p q → SendsFrame Steps (pt p) (pt q)
    frame_so p q f = record {
      frame = f.frame;
      lane = f.lane;
      gives = record {
        is_next = f.gives.is_next;
        made = f.gives.made;
        other = f.gives.other;
        packet_count = f.gives.packet_count;
        rest = (ap (counted_sending files) f.gives.rest.0, f.gives.rest.1);
      };
      answer = f.answer;
      sent = f.sent;
    }

    frame_long : (p q : PortState W) → SendsFrame Steps p q → Long p.station → Long q.station
    frame_long p q f long = long_same p.station q.station (ap (λ (e : Counted). e.state.table.sources) f.gives.rest.0) long

    -- Frames left, the same ones.
    record Sent (count : ℕ) (p q : PortState W) (times : Times (SendsNext Steps) count p q) : Type 0 where
      pub is : Times (SendsNext Steps) count (pt p) (pt q)
      pub long : Long q.station
      pub same : (life : LifeKept) → with_sent Steps count (pt p) (pt q) is life ≡ with_sent Steps count p q times life

    sent_so : (count : ℕ) (p q : PortState W) (times : Times (SendsNext Steps) count p q) → FramesRead Steps files count p q times → Long p.station → Sent count p q times
    unfolding frame_so
    sent_so zero p q same reads long = record { is = ap pt same; long = subst (λ (x : PortState W). Long x.station) (sym same) long; same = λ life. refl }
    sent_so (suc count) p q (mid, before, step) reads long =
        let first : Sent count p mid before = sent_so count p mid before reads.0 long in
        let pulls : Step (Pulls 16) mid.station step.pulled = pull_so mid.station step.pulled step.pulls reads.1 first.long in
        let next : SendsNext Steps (pt mid) (pt q) = record {
          pulled = st step.pulled;
          ready = step.ready;
          pulls = pulls.is;
          asked = step.asked;
          sends = frame_so (port_state step.pulled step.ready) q step.sends;
        } in
        record {
          is = (pt mid, first.is, next);
          long = frame_long (port_state step.pulled step.ready) q step.sends pulls.long;
          same = λ life. ap (with_frame step.sends.lane step.sends.frame) (first.same life);
        }

    -- What left in a turn, the same frames.
    record SentSome (p q : PortState W) (some : SendsSome Steps p q) : Type 0 where
      pub is : SendsSome Steps (pt p) (pt q)
      pub long : Long q.station
      pub same : (life : LifeKept) → with_sent Steps is.count _ _ is.sent life ≡ with_sent Steps some.count _ _ some.sent life

    some_so : (p q : PortState W) (some : SendsSome Steps p q) → TurnReads Steps files p q some → Long p.station → SentSome p q some
    some_so p q some reads long = by some.ends reads.ends
      where
        sent : Sent some.count p some.last some.sent
        sent = sent_so some.count p some.last some.sent reads.frames long

        ended : ((some.count < 64) × SendsNone Steps (pt some.last) (pt q)) ⊎ ((some.count ≡ 64) × (pt q ≡ pt some.last)) → Long q.station → SentSome p q some
        ended ends still = record {
          is = record { count = some.count; last = pt some.last; sent = sent.is; ends = ends };
          long = still;
          same = sent.same;
        }

        by : (ends : ((some.count < 64) × SendsNone Steps some.last q) ⊎ ((some.count ≡ 64) × (q ≡ some.last))) → LastRead Steps files some.count some.last q ends → SentSome p q some
        by (inl (few, none)) read =
            let pulls : Step (Pulls 16) some.last.station q.station = pull_so some.last.station q.station none.pulls read sent.long in
            ended (inl (few, record { pulls = pulls.is; ends = none.ends })) pulls.long
        by (inr (all, same)) read = ended (inr (all, ap pt same)) (subst (λ (x : PortState W). Long x.station) (sym same) sent.long)

    record SentInPart (p q : PortState W) (some : SendsSomeInPart Steps p q) : Type 0 where
      pub is : SendsSomeInPart Steps (pt p) (pt q)
      pub long : Long q.station
      pub same : (life : LifeKept) → with_sent Steps is.count _ _ is.sent life ≡ with_sent Steps some.count _ _ some.sent life

    part_so : (p q : PortState W) (some : SendsSomeInPart Steps p q) → PartReads Steps files p q some → Long p.station → SentInPart p q some
    part_so p q some reads long =
        let sent : Sent some.count p some.last some.sent = sent_so some.count p some.last some.sent reads.frames long in
        let moved : Step (Times (MovesMore Frame) some.part.count) some.last.station q.station = moved_so some.part.count some.last.station q.station some.part.moved reads.ends sent.long in
        record {
          is = record {
            count = some.count;
            few = some.few;
            last = pt some.last;
            sent = sent.is;
            part = record { count = some.part.count; few = some.part.few; moved = moved.is };
            wire = some.wire;
          };
          long = moved.long;
          same = sent.same;
        }

    -- ---- frames that come
    takes_so : (came : Result (Option (List ℕ)) WireFault) (a b : StationState) → TakesWhat Steps came a b → Long a → Step (TakesWhat Steps came) a b
    takes_so (Ok (Some frame)) a b t long = record { is = frame_sending files frame a b t; long = long_same a b (frame_keeps frame a b t) long }
    takes_so (Ok None) a b same long = record { is = ap st same; long = subst Long (sym same) long }
    takes_so (Err fault) a b same long = record { is = ap st same; long = subst Long (sym same) long }

    record Heard (count : ℕ) (p q : PortState W) (times : Times (AsksOn Steps) count p q) : Type 0 where
      pub is : Times (AsksOn Steps) count (pt p) (pt q)
      pub long : Long q.station
      pub same : frames_came Steps count (pt p) (pt q) is ≡ frames_came Steps count p q times

    heard_so : (count : ℕ) (p q : PortState W) (times : Times (AsksOn Steps) count p q) → Long p.station → Heard count p q times
    heard_so zero p q same long = record { is = ap pt same; long = subst (λ (x : PortState W). Long x.station) (sym same) long; same = refl }
    heard_so (suc count) p q (mid, before, step) long =
        let first : Heard count p mid before = heard_so count p mid before long in
        let took : Step (TakesWhat Steps step.0) mid.station q.station = takes_so step.0 mid.station q.station step.2.takes first.long in
        record {
          is = (pt mid, first.is, (step.0, step.1, record { asked = step.2.asked; takes = took.is }));
          long = took.long;
          same = ap (λ (l : List (List ℕ)). l ++ what_came step.0) first.same;
        }

    record HeardAll (p q : PortState W) (h : HearsAll Steps p q) : Type 0 where
      pub is : HearsAll Steps (pt p) (pt q)
      pub long : Long q.station
      pub same : frames_came Steps is.count _ _ is.heard ≡ frames_came Steps h.count _ _ h.heard

    all_so : (p q : PortState W) (h : HearsAll Steps p q) → Long p.station → HeardAll p q h
    all_so p q h long = by h.ends
      where
        heard : Heard h.count p h.last h.heard
        heard = heard_so h.count p h.last h.heard long

        by : ((h.count < 4096) × Asks Steps (Ok None) h.last q) ⊎ ((h.count ≡ 4096) × (q ≡ h.last)) → HeardAll p q h
        by (inl (few, asks)) = record {
          is = record { count = h.count; last = pt h.last; heard = heard.is; ends = inl (few, record { asked = asks.asked; takes = ap st asks.takes }) };
          long = subst Long (sym asks.takes) heard.long;
          same = heard.same;
        }
        by (inr (all, same)) = record {
          is = record { count = h.count; last = pt h.last; heard = heard.is; ends = inr (all, ap pt same) };
          long = subst (λ (x : PortState W). Long x.station) (sym same) heard.long;
          same = heard.same;
        }

    -- what came is of the other station, whatever that one's files have
    last_so : (lane : Lane) (n : ℕ) (old new : EndKept) → new ≡ with_last lane n old → kept_sending files new ≡ with_last lane n (kept_sending files old)
    last_so Directives n old new e = ap (kept_sending files) e
    last_so Data n old new e = ap (kept_sending files) e

    module _ (link : LinkConfig) (theirs there : EndKept) (frames : all_kept there ≡ all_kept theirs) where
      comes_one : (octets : List ℕ) (old new : EndKept) → ComesOne link octets theirs old new → ComesOne link octets there (kept_sending files old) (kept_sending files new)
      comes_one octets old new (inl copy) = inl (record {
        frame = copy.frame;
        life = copy.life;
        made = subst (λ (l : List LifeKept). (slice_get l copy.frame.life ≡ Some copy.life) × (copy.frame.place < length (frames_in copy.frame.lane copy.life))) (sym frames) copy.made;
        is = copy.is;
        near = near_so copy.frame.lane copy.near;
        last = last_so copy.frame.lane (number_in copy.frame copy.life) old new copy.last;
      })
        where
          near_so : (lane : Lane) → IsNearLast (last_at lane old) (number_in copy.frame copy.life) → IsNearLast (last_at lane (kept_sending files old)) (number_in copy.frame copy.life)
          near_so Directives near = near
          near_so Data near = near
      comes_one octets old new (inr (stray, same)) = inr (stray, ap (kept_sending files) same)

      comes_so : (came : List (List ℕ)) (old new : EndKept) → Comes link came theirs old new → Comes link came there (kept_sending files old) (kept_sending files new)
      comes_so [] old new same = ap (kept_sending files) same
      comes_so (octets ∷ came) old new (mid, one, rest) = (kept_sending files mid, comes_one octets old mid one, comes_so came mid new rest)

      -- ---- turns
      pub turn_so : (old new : EndKept) → passing.TakesTurn Steps link files theirs old new → Long old.station →
          standing.TakesTurn Steps link there (kept_sending files old) (kept_sending files new) × Long new.station
      turn_so old new t long =
          let turn = t.turn in
          let p : PortState W = port_state old.station t.wire in
          let h : HeardAll p turn.heard turn.hears = all_so p turn.heard turn.hears long in
          let told : Step (TellsTime turn.now) turn.heard.station turn.told = tick_so turn.now turn.heard.station turn.told turn.tells h.long in
          let some : SentSome (port_state turn.told turn.timed) t.last turn.sends = some_so (port_state turn.told turn.timed) t.last turn.sends t.reads told.long in (
            record {
              wire = t.wire;
              last = pt t.last;
              turn = record {
                now = turn.now;
                heard = pt turn.heard;
                timed = turn.timed;
                told = st turn.told;
                hears = h.is;
                times = turn.times;
                tells = told.is;
                sends = some.is;
              };
              heard = kept_sending files t.heard;
              came =
                  subst (λ (l : List (List ℕ)). Comes link l there (kept_sending files old) (kept_sending files t.heard)) (sym h.same)
                  (comes_so (frames_came Steps turn.hears.count p turn.hears.last turn.hears.heard) old t.heard t.came);
              stand = refl;
              kept =
                  ap (kept_sending files) t.kept
                  ∙ ap (λ (l : LifeKept). record t.heard { station = st t.last.station; latest = l }) (sym (some.same t.heard.latest));
            },
            subst (λ (k : EndKept). Long k.station) (sym t.kept) some.long,
          )

      then_so : (mid : PortState W) (heard new : EndKept) → passing.SendsThen Steps files mid heard new → Long mid.station →
          standing.SendsThen Steps (pt mid) (kept_sending files heard) (kept_sending files new) × Long new.station
      then_so mid heard new s long =
          let told : Step (TellsTime s.now) mid.station s.told = tick_so s.now mid.station s.told s.tells long in
          let some : SentInPart (port_state s.told s.timed) s.last s.some = part_so (port_state s.told s.timed) s.last s.some s.reads told.long in (
            record {
              now = s.now;
              timed = s.timed;
              told = st s.told;
              last = pt s.last;
              tells = told.is;
              some = some.is;
              stand = refl;
              kept = ap (kept_sending files) s.kept ∙ ap (λ (l : LifeKept). record heard { station = st s.last.station; latest = l }) (sym (some.same heard.latest));
            },
            subst (λ (k : EndKept). Long k.station) (sym s.kept) some.long,
          )

      pub early_so : (old new : EndKept) → passing.EndsEarly Steps link files theirs old new → Long old.station →
          standing.EndsEarly Steps link there (kept_sending files old) (kept_sending files new) × Long new.station
      early_so old new t long = by t.ends
        where
          h : Heard t.count (port_state old.station t.wire) t.mid t.hears
          h = heard_so t.count (port_state old.station t.wire) t.mid t.hears long

          ended : (kept_sending files new ≡ record (kept_sending files t.heard) { station = st t.mid.station }) ⊎ standing.SendsThen Steps (pt t.mid) (kept_sending files t.heard) (kept_sending files new) →
              standing.EndsEarly Steps link there (kept_sending files old) (kept_sending files new)
          ended ends = record {
            wire = t.wire;
            count = t.count;
            mid = pt t.mid;
            hears = h.is;
            heard = kept_sending files t.heard;
            came =
                subst (λ (l : List (List ℕ)). Comes link l there (kept_sending files old) (kept_sending files t.heard)) (sym h.same)
                (comes_so (frames_came Steps t.count (port_state old.station t.wire) t.mid t.hears) old t.heard t.came);
            ends = ends;
          }

          by : (new ≡ record t.heard { station = t.mid.station }) ⊎ passing.SendsThen Steps files t.mid t.heard new →
              standing.EndsEarly Steps link there (kept_sending files old) (kept_sending files new) × Long new.station
          by (inl same) = (ended (inl (ap (kept_sending files) same)), subst (λ (k : EndKept). Long k.station) (sym same) h.long)
          by (inr more) = let s = then_so t.mid t.heard new more h.long in (ended (inr s.0), s.1)
