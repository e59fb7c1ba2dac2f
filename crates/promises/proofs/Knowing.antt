-- What is known of the calls of both stations' users, as something is done at one of them.
use Rattle.std.proofs.Common.{◌≡◌, ℕ, zero, suc, ◌<◌, arith, List, [], ◌++◌, map, refl, sym, ap, subst, ◌∙◌, append-nil}
use Rattle.std.specs.Prelude.{Contains}
use Rattle.std.proofs.lemmas.List.Elements.{Contains-append_left}
use Rattle.cfdp_header.specs.declared.value.TransactionId.{TransactionId}
use Rattle.cfdp_header.specs.Files.{FileMap}
use Rattle.cfdp_directives.specs.declared.pdu.codes.Delivery.TheVariants.{Complete}
use Rattle.cfdp_directives.specs.declared.pdu.codes.FileStatus.TheVariants.{Retained}
use Rattle.cfdp_directives.specs.declared.user.indication.Indication.{Indication}
use Rattle.cfdp_directives.specs.declared.user.indication.Indication.TheVariants.{Finished}
use Rattle.cfdp_directives.specs.Pdu.Codes.{no_error}
use Rattle.cfdp_directives.specs.User.Put.{Put}
use Rattle.cfdp_entity.specs.Entity.{Counted, EntityState}
use Rattle.cfdp_station.specs.declared.config.StationConfig.{StationConfig}
use Rattle.cfdp_station.specs.Transmitting.{Times}
use Rattle.any_order.specs.Calls.{AreJoined, Setup, Side, other, setup_of}
use Rattle.any_order.specs.Kept.{EndKept}
use Rattle.any_order.proofs.Promise.{joined_to}
use Rattle.any_order.proofs.Puts.{finds_more}
use Rattle.any_order.specs.Promise.{found}
use Rattle.cfdp_port.specs.Calls.{WireCall}
use Rattle.cfdp_port.specs.Port.{table_of}
use Rattle.cfdp_service.specs.Calls.{UserCall, Hears}
use Rattle.cfdp_service.specs.Serving.{HearsGone, said_by}
use Rattle.promises.specs.Promise.{IsSent, own_of, told_by}
use Rattle.promises.specs.Serving.{Deed, LetsGo, Says, Served, Starts, Stations, Stops, Tells, Turns, Wishes, served_at}
use Rattle.promises.proofs.Standing.{AreFirst, DoesDeed, Goes, HaveServed}
use Rattle.promises.proofs.Calling.{ArePut, AreTold, all_more, heard_grown, hears_known, none_known, said_heard, said_known, tells_heard, wish_heard, wish_known}
use Rattle.promises.proofs.Doing.{AllLaws, deed_hears, deed_told}
use Rattle.promises.proofs.Hearing.{hears_first}
use Rattle.promises.proofs.Holding.{Held}
use Rattle.promises.proofs.Promising.{AreHeld, deed_added, each, first_held, goes_held, held_at, own_so, went_held}
use Rattle.promises.proofs.Telling.{TellsMore, tells_same, told_of}

-- what an entity indicates of a file that was delivered
abbrev pub delivered : TransactionId → Indication
delivered id = Finished id no_error Complete Retained

-- Each put that was accepted is found, all that was heard was indicated, and in this life it is
-- what was discarded.
pub record Known (own : ℕ) (puts : List Put) (s : Served) : Type 0 where
  pub are : ArePut own puts s.calls
  pub told : AreTold s.calls (told_of s.kept)
  pub gone : HearsGone s.calls (table_of s.kept.station)

none_in : {X : Type 0} (x : X) → Contains [] x → ⊥
none_in x has = let k = has.0 in let low : k < 0 = has.1 in omega arith

-- with these calls, if no put was accepted
known_on : (own : ℕ) (puts puts_then : List Put) (calls : List UserCall) (new : Served) → puts_then ≡ puts → new.calls ≡ calls → ArePut own puts calls → AreTold calls (told_of new.kept) →
    HearsGone new.calls (table_of new.kept.station) → Known own puts_then new
known_on own puts puts_then calls new same is are told gone = record {
  are = subst (λ (l : List UserCall). ArePut own puts_then l) (sym is) (subst (λ (ps : List Put). ArePut own ps calls) (sym same) are);
  told = subst (λ (l : List UserCall). AreTold l (told_of new.kept)) (sym is) told;
  gone = gone;
}

module _ (c t : StationConfig) (first there : FileMap) (theirs : EndKept) {W : Type 0} (Steps : W → WireCall → W → Type 0) (old new : Served) (puts puts_then : List Put)
    (h : Held c t first there puts old.kept theirs) (tells : TellsMore (told_of old.kept) (told_of new.kept)) (gone : HearsGone new.calls (table_of new.kept.station))
    (k : Known c.entity.entity puts old) where
  -- what was heard before was indicated still
  grown : (calls : List UserCall) → AreTold calls (told_of old.kept) → AreTold calls (told_of new.kept)
  grown calls told = subst (λ (l : List Indication). AreTold calls l) (sym tells.told) (heard_grown calls (told_of old.kept) tells.gained told)

  pub deed_known : (deed : Deed) → DoesDeed Steps deed c theirs old new puts puts_then → Known c.entity.entity puts_then new
  deed_known (Wishes wish reply) (station, added, does, same, more) =
      known_on c.entity.entity (puts ++ added) puts_then _ new more (ap (λ (s : Served). s.calls) same) (wish_known c t first there puts old.kept theirs h wish reply station added old.calls does k.are)
      (wish_heard wish reply old.calls (told_of new.kept) (grown old.calls k.told)) gone
  deed_known (Says call) (is, same, more) =
      known_on c.entity.entity puts puts_then _ new more (ap (λ (s : Served). s.calls) same) (said_known c.entity.entity puts old.calls call is k.are)
      (said_heard call old.calls (told_of new.kept) is (grown old.calls k.told)) gone
  deed_known Tells (same, more) =
      known_on c.entity.entity puts puts_then _ new more (ap (λ (s : Served). s.calls) same) (hears_known c.entity.entity puts old.calls (said_by (table_of old.kept.station)) k.are)
      (grown (old.calls ++ map Hears (said_by (table_of old.kept.station))) (tells_heard old.calls old.kept.told_before (table_of old.kept.station) k.told)) gone
  deed_known LetsGo (station, go, same, more) =
      known_on c.entity.entity puts puts_then old.calls new more (ap (λ (s : Served). s.calls) same ∙ append-nil old.calls) k.are (grown old.calls k.told) gone
  deed_known Turns (turn, same, more) = known_on c.entity.entity puts puts_then old.calls new more (ap (λ (s : Served). s.calls) same) k.are (grown old.calls k.told) gone
  deed_known Stops (turn, same, more) = known_on c.entity.entity puts puts_then old.calls new more (ap (λ (s : Served). s.calls) same) k.are (grown old.calls k.told) gone
  deed_known (Starts counted number) (anew, more) =
      known_on c.entity.entity puts puts_then [] new more anew.calls (none_known c.entity.entity puts) (λ i has. absurd (none_in i has)) gone

-- ---- both stations
-- What is held of both, and known of their users' calls.
pub record AreKnown (c : Setup) (w : Stations) : Type 0 where
  pub held : AreHeld c w
  pub known : (s : Side) → Known (setup_of s c).entity.entity w.puts (served_at s w)

-- the same station, if more was put
known_same : (own : ℕ) (puts puts_then added : List Put) (old new : Served) → new ≡ old → puts_then ≡ puts ++ added → Known own puts old → Known own puts_then new
known_same own puts puts_then added old new same more k =
    subst (λ (ps : List Put). Known own ps new) (sym more) (subst (λ (s : Served). Known own (puts ++ added) s) (sym same) (record { are = all_more own puts added old.calls k.are; told = k.told; gone = k.gone }))

-- A file that was sent stays so.
sent_grown : (s : Side) (name : List ℕ) (put : Put) (old new : Stations) (added : List Put) → new.puts ≡ old.puts ++ added → own_of (served_at s new) ≡ own_of (served_at s old) →
    TellsMore (told_by (served_at s old)) (told_by (served_at s new)) → IsSent s name put old → IsSent s name put new
sent_grown s name put old new added more own tells sent = record {
  is_put = ap (λ (ps : List Put). found ps put.id) more ∙ finds_more old.puts added put.id put sent.is_put;
  source = sent.source;
  destination = sent.destination;
  told = (
    sent.told.0 ∙ sym own,
    subst (λ (l : List Indication). Contains l (delivered put.id)) (sym tells.told) (Contains-append_left (told_by (served_at s old)) tells.gained (delivered put.id) sent.told.1),
  );
}

module _ {W : Type 0} (Steps : W → WireCall → W → Type 0) (all : AllLaws) (c : Setup) (joined : AreJoined c) where
  first_known : (counts : Side → ℕ) (sources files : Side → FileMap) (w : Stations) → AreFirst c counts sources files w → AreKnown c w
  first_known counts sources files w f = record { held = first_held all c counts sources files w joined f; known = known }
    where
      first_gone : (r : Side) → (table_of (served_at r w).kept.station).gone ≡ 0
      first_gone r =
          let b = (f.each r).begun in
          ap (λ (x : Counted). x.state.table.gone) b.counts.rest.0 ∙ ap (λ (e : EntityState). e.table.gone) b.is_new.entity

      known : (s : Side) → Known (setup_of s c).entity.entity w.puts (served_at s w)
      known s =
          let none : (served_at s w).calls ≡ [] = (f.each s).calls in
          known_on (setup_of s c).entity.entity w.puts w.puts [] (served_at s w) refl none (none_known (setup_of s c).entity.entity w.puts) (λ i has. absurd (none_in i has))
          (subst (λ (l : List UserCall). HearsGone l (table_of (served_at s w).kept.station)) (sym none) (hears_first (table_of (served_at s w).kept.station) (first_gone s)))

  -- what either station indicated is still there
  side_tells : (s : Side) (deed : Deed) (old new : Stations) → DoesDeed Steps deed (setup_of s c) (served_at (other s) old).kept (served_at s old) (served_at s new) old.puts new.puts → AreHeld c old →
      TellsMore (told_of (served_at s old).kept) (told_of (served_at s new).kept)
  side_tells s deed old new does h =
      deed_told all (setup_of s c) (setup_of (other s) c) (served_at s old).begun (served_at (other s) old).begun (joined_to c s joined) (joined.link s) (served_at (other s) old).kept Steps deed (served_at s old) (served_at s new)
      old.puts new.puts does (held_at c old s h)

  -- what was heard in this life is what was discarded
  side_hears : (s : Side) (deed : Deed) (old new : Stations) → DoesDeed Steps deed (setup_of s c) (served_at (other s) old).kept (served_at s old) (served_at s new) old.puts new.puts → AreHeld c old →
      HearsGone (served_at s old).calls (table_of (served_at s old).kept.station) → HearsGone (served_at s new).calls (table_of (served_at s new).kept.station)
  side_hears s deed old new does h gone =
      deed_hears all (setup_of s c) (setup_of (other s) c) (served_at s old).begun (served_at (other s) old).begun (joined_to c s joined) (joined.link s) (served_at (other s) old).kept Steps deed
      (served_at s old) (served_at s new) old.puts new.puts does (held_at c old s h) gone

  pub goes_known : (old new : Stations) → Goes Steps c old new → AreKnown c old → AreKnown c new
  goes_known old new g k =
      let s = g.side in
      let added = deed_added Steps g.deed (setup_of s c) (served_at (other s) old).kept (served_at s old) (served_at s new) old.puts new.puts g.does in
      let mine : Known (setup_of s c).entity.entity new.puts (served_at s new) =
      deed_known (setup_of s c) (setup_of (other s) c) (served_at s old).begun (served_at (other s) old).begun (served_at (other s) old).kept Steps (served_at s old) (served_at s new) old.puts new.puts (held_at c old s k.held)
      (side_tells s g.deed old new g.does k.held) (side_hears s g.deed old new g.does k.held (k.known s).gone) (k.known s) g.deed g.does in
      let theirs : Known (setup_of (other s) c).entity.entity new.puts (served_at (other s) new) =
      known_same (setup_of (other s) c).entity.entity old.puts new.puts added.0 (served_at (other s) old) (served_at (other s) new) g.others added.1 (k.known (other s)) in
      record { held = goes_held Steps all c joined old new g k.held; known = each (λ r. Known (setup_of r c).entity.entity new.puts (served_at r new)) s mine theirs }

  pub went_known : (count : ℕ) (old new : Stations) → Times (Goes Steps c) count old new → AreKnown c old → AreKnown c new
  went_known zero old new same k = subst (λ (w : Stations). AreKnown c w) (sym same) k
  went_known (suc count) old new (mid, before, goes) k = goes_known mid new goes (went_known count old mid before k)

  pub served_known : (files : Side → FileMap) (now : Stations) → HaveServed Steps c files now → AreKnown c now
  served_known files now s = went_known s.count s.first now s.went (first_known s.counts s.sources files s.first s.begins)

  goes_sent : (r : Side) (name : List ℕ) (put : Put) (old new : Stations) → Goes Steps c old new → AreHeld c old → IsSent r name put old → IsSent r name put new
  goes_sent r name put old new g h sent =
      let s = g.side in
      let added = deed_added Steps g.deed (setup_of s c) (served_at (other s) old).kept (served_at s old) (served_at s new) old.puts new.puts g.does in
      let tells = each (λ x. TellsMore (told_by (served_at x old)) (told_by (served_at x new))) s (side_tells s g.deed old new g.does h)
      (tells_same (told_by (served_at (other s) old)) (told_by (served_at (other s) new)) (ap (λ (x : Served). told_by x) g.others)) in
      sent_grown r name put old new added.0 added.1 (own_so c r new (goes_held Steps all c joined old new g h) ∙ sym (own_so c r old h)) (tells r) sent

  pub went_sent : (r : Side) (name : List ℕ) (put : Put) (count : ℕ) (old new : Stations) → Times (Goes Steps c) count old new → AreHeld c old → IsSent r name put old → IsSent r name put new
  went_sent r name put zero old new same h sent = subst (λ (w : Stations). IsSent r name put w) (sym same) sent
  went_sent r name put (suc count) old new (mid, before, goes) h sent =
      goes_sent r name put mid new goes (went_held Steps all c joined count old mid before h) (went_sent r name put count old mid before h sent)
