-- What holds of both stations, as something is done at one of them, or it resumes.
use Rattle.std.proofs.Common.{◌≡◌, ℕ, zero, suc, List, [], ◌++◌, refl, sym, ap, subst, ◌∙◌, append-nil}
use Rattle.std.specs.Prelude.{Contains}
use Rattle.std.proofs.lemmas.List.Elements.{Contains-append_left}
use Rattle.cfdp_header.specs.declared.value.TransactionId.{TransactionId}
use Rattle.cfdp_header.specs.Files.{FileMap}
use Rattle.cfdp_directives.specs.declared.user.indication.Indication.{Indication}
use Rattle.cfdp_directives.specs.User.Completions.{completions}
use Rattle.cfdp_directives.specs.User.Put.{Put}
use Rattle.cfdp_directives.proofs.Puts.{completions-append}
use Rattle.cfdp_entity.specs.Sound.{FindsMore}
use Rattle.cfdp_station.specs.declared.config.StationConfig.{StationConfig}
use Rattle.cfdp_station.specs.Transmitting.{Times}
use Rattle.any_order.specs.Calls.{AreJoined, One, Two, Setup, Side, other, setup_of}
use Rattle.any_order.specs.Kept.{EndKept}
use Rattle.any_order.specs.Promise.{found}
use Rattle.any_order.proofs.Kept.{IsJoinedTo, TellsAll}
use Rattle.any_order.proofs.Promise.{joined_to}
use Rattle.any_order.proofs.Puts.{finds_more}
use Rattle.cfdp_port.specs.Calls.{WireCall}
use Rattle.promises.specs.Serving.{Deed, Stations, served_at}
use Rattle.promises.specs.Serving as serving
use Rattle.promises.proofs.Doing.{AllLaws, deed_held}
use Rattle.promises.proofs.Holding.{Held, held_other}
use Rattle.promises.proofs.Inboxing.{Inboxed, deed_inboxed, inboxed_on}
use Rattle.promises.proofs.Knowing.{AreKnown, served_known}
use Rattle.promises.proofs.Promising.{AreHeld, deed_added, held_at}
use Rattle.promises.proofs.Reaching.{LongOf, deed_so, served_so, shade, shade_all, shaded_is}
use Rattle.promises.proofs.Standing as standing
use Rattle.promises.proofs.Telling.{told_of}
use Rattle.promises.specs.Resuming.{BothLives, Does, DoesEvent, GoesOrResumes, HaveServedOrResumed, Resumes, ResumesFrom, ServiceEvent, ServiceLife, life_of, stations_of}
use Rattle.promises.proofs.Back.{ResumedSound, done_resumed, held_resumed}
use Rattle.promises.proofs.Lives.{KnownLife, does_known, does_tells, first_life, others_known, resumed_known}

-- both stations, with what their files to send have
abbrev pub shaded : BothLives → Stations
shaded w = record { one = shade w.one.served; two = shade w.two.served; puts = w.puts }

-- what a station completed in all its lives
abbrev pub done_by : ℕ → ServiceLife → List TransactionId
done_by own l = completions own (told_of l.served.kept)

-- ---- at one station
-- What holds once something was done here.
pub record Follows (c t : StationConfig) (old new theirs : ServiceLife) (puts puts_then : List Put) : Type 0 where
  pub held : Held c t new.served.begun theirs.served.begun puts_then (shade new.served).kept (shade theirs.served).kept
  pub long : LongOf new.served
  pub inboxed : Inboxed c.entity.entity puts_then (shade new.served)
  pub inboxed_there : Inboxed t.entity.entity puts_then (shade theirs.served)
  pub known : KnownLife c.entity.entity puts_then new
  pub added : List Put
  pub more : puts_then ≡ puts ++ added
  pub done : TellsAll c.entity.entity (told_of old.served.kept) (told_of new.served.kept)

module _ (all : AllLaws) (sound : ResumedSound) (c t : StationConfig) (joined : IsJoinedTo c t) (link : c.receives ≡ t.sends) {W : Type 0} (Steps : W → WireCall → W → Type 0) (old new theirs : ServiceLife) (puts puts_then : List Put)
    (h : Held c t old.served.begun theirs.served.begun puts (shade old.served).kept (shade theirs.served).kept) (long : LongOf old.served) (i : Inboxed c.entity.entity puts (shade old.served))
    (i_there : Inboxed t.entity.entity puts (shade theirs.served)) (k : KnownLife c.entity.entity puts old) where
  -- the inboxes of the other station stay
  there_on : (added : List Put) → puts_then ≡ puts ++ added → Inboxed t.entity.entity puts_then (shade theirs.served)
  there_on added more =
      inboxed_on t c theirs.served.begun old.served.begun (shade old.served).kept (shade theirs.served) (shade theirs.served) puts puts_then added more refl refl
      (held_other c t old.served.begun theirs.served.begun puts (shade old.served).kept (shade theirs.served).kept h) i_there

  done_more : (was is gained : List Indication) → is ≡ was ++ gained → TellsAll c.entity.entity was is
  done_more was is gained same id done =
      subst (λ (l : List Indication). Contains (completions c.entity.entity l) id) (sym same)
      (subst (λ (ids : List TransactionId). Contains ids id) (sym (completions-append c.entity.entity was gained))
      (Contains-append_left (completions c.entity.entity was) (completions c.entity.entity gained) id done))

  does_follows : (deed : Deed) → DoesEvent Steps (Does deed) c theirs.served.kept old new puts puts_then → Follows c t old new theirs puts puts_then
  does_follows deed (does, began) =
      let so = deed_so Steps deed c theirs.served.kept theirs.served.has old.served new.served puts puts_then does long in
      let d : standing.DoesDeed Steps deed c (shade theirs.served).kept (shade old.served) (shade new.served) puts puts_then = so.0 in
      let added = deed_added Steps deed c (shade theirs.served).kept (shade old.served) (shade new.served) puts puts_then d in
      let tells = does_tells all c t theirs.served.begun joined link (shade theirs.served).kept Steps deed old new puts puts_then d h in
      record {
        held = deed_held all c t theirs.served.begun joined link (shade theirs.served).kept Steps deed (shade old.served) (shade new.served) puts puts_then d h;
        long = so.1;
        inboxed = deed_inboxed Steps deed c t theirs.served.begun (shade theirs.served).kept (shade old.served) (shade new.served) puts puts_then d h i;
        inboxed_there = there_on added.0 added.1;
        known = does_known all c t theirs.served.begun joined link (shade theirs.served).kept Steps deed old new puts puts_then d h began k;
        added = added.0;
        more = added.1;
        done = done_more (told_of old.served.kept) (told_of new.served.kept) tells.gained tells.told;
      }

  -- the inboxes of a station that resumed stay
  inboxed_back : (first : ℕ) → ResumesFrom first c old new → Inboxed c.entity.entity puts (shade new.served)
  inboxed_back first r =
      inboxed_on c t old.served.begun theirs.served.begun (shade theirs.served).kept (shade old.served) (shade new.served) puts puts [] (sym (append-nil puts)) r.inboxes_before
      (ap (λ (e : EndKept). e.told_before) r.kept) h i

  resumes_follows : (first : ℕ) → DoesEvent Steps (Resumes first) c theirs.served.kept old new puts puts_then → Follows c t old new theirs puts puts_then
  resumes_follows first (r, same) =
      let now : Held c t new.served.begun theirs.served.begun puts (shade new.served).kept (shade theirs.served).kept =
      held_resumed all sound c t theirs.served.begun puts joined link (shade theirs.served).kept first old new r h in
      let more : puts_then ≡ puts ++ [] = same ∙ sym (append-nil puts) in
      record {
        held = subst (λ (ps : List Put). Held c t new.served.begun theirs.served.begun ps (shade new.served).kept (shade theirs.served).kept) (sym same) now;
        long = r.long;
        inboxed = subst (λ (ps : List Put). Inboxed c.entity.entity ps (shade new.served)) (sym same) (inboxed_back first r);
        inboxed_there = there_on [] more;
        known = subst (λ (ps : List Put). KnownLife c.entity.entity ps new) (sym same) (resumed_known c t theirs.served.begun puts (shade theirs.served).kept first old new r now);
        added = [];
        more = more;
        done = λ id done. subst (λ (ids : List TransactionId). Contains ids id)
            (sym (done_resumed all sound c t theirs.served.begun puts joined link (shade theirs.served).kept first old new r h)) done;
      }

  pub event_follows : (event : ServiceEvent) → DoesEvent Steps event c theirs.served.kept old new puts puts_then → Follows c t old new theirs puts puts_then
  event_follows (Does deed) does = does_follows deed does
  event_follows (Resumes first) does = resumes_follows first does

-- ---- at both
-- What holds of both stations.
pub record AreAlive (c : Setup) (w : BothLives) : Type 0 where
  pub held : AreHeld c (shaded w)
  pub long : (s : Side) → LongOf (life_of s w).served
  pub known : (s : Side) → KnownLife (setup_of s c).entity.entity w.puts (life_of s w)

-- What stays as more is done: the puts that are found, and what either station completed.
pub record Since (c : Setup) (old new : BothLives) : Type 0 where
  pub finds : FindsMore (found old.puts) (found new.puts)
  pub done : (s : Side) → TellsAll (setup_of s c).entity.entity (told_of (life_of s old).served.kept) (told_of (life_of s new).served.kept)

-- what holds at both sides
both_sides : (P : Side → Type 0) → P One → P Two → (s : Side) → P s
both_sides P one two One = one
both_sides P one two Two = two

finds_so : (puts puts_then added : List Put) → puts_then ≡ puts ++ added → FindsMore (found puts) (found puts_then)
finds_so puts puts_then added more = subst (λ (ps : List Put). FindsMore (found puts) (found ps)) (sym more) (finds_more puts added)

module _ {W : Type 0} (Steps : W → WireCall → W → Type 0) (all : AllLaws) (sound : ResumedSound) (c : Setup) (joined : AreJoined c) where
  at_one : (old new : BothLives) → Follows c.one c.two old.one new.one old.two old.puts new.puts → new.two ≡ old.two → AreAlive c old → AreAlive c new × Since c old new
  at_one old new f others k = (
    record {
      held = record {
        both = subst (λ (l : ServiceLife). Held c.one c.two new.one.served.begun l.served.begun new.puts (shade new.one.served).kept (shade l.served).kept) (sym others) f.held;
        inboxed = both_sides (λ s. Inboxed (setup_of s c).entity.entity new.puts (served_at s (shaded new))) f.inboxed
            (subst (λ (l : ServiceLife). Inboxed c.two.entity.entity new.puts (shade l.served)) (sym others) f.inboxed_there);
      };
      long = both_sides (λ s. LongOf (life_of s new).served) f.long (subst (λ (l : ServiceLife). LongOf l.served) (sym others) (k.long Two));
      known = both_sides (λ s. KnownLife (setup_of s c).entity.entity new.puts (life_of s new)) f.known
          (others_known c.two.entity.entity old.puts new.puts f.added old.two new.two others f.more (k.known Two));
    },
    record {
      finds = finds_so old.puts new.puts f.added f.more;
      done = both_sides (λ s. TellsAll (setup_of s c).entity.entity (told_of (life_of s old).served.kept) (told_of (life_of s new).served.kept)) f.done
          (subst (λ (l : ServiceLife). TellsAll c.two.entity.entity (told_of old.two.served.kept) (told_of l.served.kept)) (sym others) (λ id done. done));
    },
  )

  at_two : (old new : BothLives) → Follows c.two c.one old.two new.two old.one old.puts new.puts → new.one ≡ old.one → AreAlive c old → AreAlive c new × Since c old new
  at_two old new f others k = (
    record {
      held = record {
        both = subst (λ (l : ServiceLife). Held c.one c.two l.served.begun new.two.served.begun new.puts (shade l.served).kept (shade new.two.served).kept) (sym others)
            (held_other c.two c.one new.two.served.begun old.one.served.begun new.puts (shade new.two.served).kept (shade old.one.served).kept f.held);
        inboxed = both_sides (λ s. Inboxed (setup_of s c).entity.entity new.puts (served_at s (shaded new)))
            (subst (λ (l : ServiceLife). Inboxed c.one.entity.entity new.puts (shade l.served)) (sym others) f.inboxed_there) f.inboxed;
      };
      long = both_sides (λ s. LongOf (life_of s new).served) (subst (λ (l : ServiceLife). LongOf l.served) (sym others) (k.long One)) f.long;
      known = both_sides (λ s. KnownLife (setup_of s c).entity.entity new.puts (life_of s new))
          (others_known c.one.entity.entity old.puts new.puts f.added old.one new.one others f.more (k.known One)) f.known;
    },
    record {
      finds = finds_so old.puts new.puts f.added f.more;
      done = both_sides (λ s. TellsAll (setup_of s c).entity.entity (told_of (life_of s old).served.kept) (told_of (life_of s new).served.kept))
          (subst (λ (l : ServiceLife). TellsAll c.one.entity.entity (told_of old.one.served.kept) (told_of l.served.kept)) (sym others) (λ id done. done)) f.done;
    },
  )

  event_at : (s : Side) (event : ServiceEvent) (old new : BothLives) → DoesEvent Steps event (setup_of s c) (life_of (other s) old).served.kept (life_of s old) (life_of s new) old.puts new.puts →
      life_of (other s) new ≡ life_of (other s) old → AreAlive c old → AreAlive c new × Since c old new
  event_at One event old new does others k =
      at_one old new
      (event_follows all sound c.one c.two (joined_to c One joined) (joined.link One) Steps old.one new.one old.two old.puts new.puts k.held.both (k.long One) (k.held.inboxed One) (k.held.inboxed Two) (k.known One) event does) others k
  event_at Two event old new does others k =
      at_two old new
      (event_follows all sound c.two c.one (joined_to c Two joined) (joined.link Two) Steps old.two new.two old.one old.puts new.puts (held_at c (shaded old) Two k.held) (k.long Two) (k.held.inboxed Two) (k.held.inboxed One)
      (k.known Two) event does) others k

  pub went_alive : (count : ℕ) (old new : BothLives) → Times (GoesOrResumes Steps c) count old new → AreAlive c old → AreAlive c new × Since c old new
  went_alive zero old new same k = subst (λ (w : BothLives). AreAlive c w × Since c old w) (sym same) (k, record { finds = λ id put is. is; done = λ s id done. done })
  went_alive (suc count) old new (mid, before, goes) k =
      let first = went_alive count old mid before k in
      let then = event_at goes.side goes.event mid new goes.does goes.others first.0 in (
        then.0,
        record {
          finds = λ id put is. then.1.finds id put (first.1.finds id put is);
          done = λ s id done. then.1.done s id (first.1.done s id done);
        },
      )

  -- ---- from the beginning
  pub first_alive : (counts : Side → ℕ) (sources files : Side → FileMap) (w : BothLives) → serving.AreFirst c counts sources files (stations_of w) → ((s : Side) → (life_of s w).back ≡ []) →
      ((s : Side) → (life_of s w).again ≡ []) → AreAlive c w
  first_alive counts sources files w begins back again =
      let so = served_so Steps c files (stations_of w) (record { counts = counts; sources = sources; first = stations_of w; begins = begins; count = 0; went = refl }) in
      let k : AreKnown c (shaded w) = subst (AreKnown c) (shaded_is Steps c (stations_of w)) (served_known Steps all c joined files (shade_all Steps c (stations_of w)) so.0) in
      record {
        held = k.held;
        long = both_sides (λ s. LongOf (life_of s w).served) so.1.one so.1.two;
        known = both_sides (λ s. KnownLife (setup_of s c).entity.entity w.puts (life_of s w))
            (first_life c.one.entity.entity w.puts w.one (k.known One) (back One) (again One)) (first_life c.two.entity.entity w.puts w.two (k.known Two) (back Two) (again Two));
      }

  pub all_alive : (files : Side → FileMap) (now : BothLives) → HaveServedOrResumed Steps c files now → AreAlive c now
  all_alive files now s = (went_alive s.count s.first now s.went (first_alive s.counts s.sources files s.first s.begins s.none_back s.none_again)).0
