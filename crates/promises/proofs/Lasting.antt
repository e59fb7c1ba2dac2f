-- Whatever is done at two stations in service, each has something to do for all that is open.
use Rattle.std.proofs.Common.{◌≡◌, ℕ, zero, suc, Result, Ok, Err, List, [], ◌∷◌, refl, sym, ap, subst, ◌∙◌, inl, inr}
use Rattle.cfdp_header.specs.declared.value.TransactionId.{TransactionId}
use Rattle.cfdp_header.specs.Files.{FileMap}
use Rattle.cfdp_directives.specs.User.Put.{Put}
use Rattle.cfdp_directives.specs.declared.user.policy.Policy.{Policy}
use Rattle.cfdp_entity.specs.declared.config.EntityConfig.{EntityConfig}
use Rattle.cfdp_entity.specs.declared.error.PutError.{PutError}
use Rattle.cfdp_entity.specs.Entity.{Counted, EntityState, with_table}
use Rattle.cfdp_entity.specs.Forgetting.{ForgetsSome}
use Rattle.cfdp_entity.specs.Looking.{LooksUp}
use Rattle.cfdp_entity.specs.Table.{TableState}
use Rattle.cfdp_endings.specs.Entity.{IsLively}
use Rattle.cfdp_station.specs.declared.config.StationConfig.{StationConfig}
use Rattle.cfdp_station.specs.Station.{StationState}
use Rattle.cfdp_station.specs.Transmitting.{Times}
use Rattle.any_order.specs.Calls.{AreJoined, Call, End, Setup, Side, entity_of, numbered_from, other, setup_of}
use Rattle.any_order.specs.Kept.{DoesCalls, EndKept}
use Rattle.promises.proofs.Lively.{EntityLaws, Holds, call-holds, first-holds, on-holds, same-holds}
use Rattle.cfdp_port.specs.Asking as asking
use Rattle.cfdp_port.specs.Calls.{WireCall}
use Rattle.cfdp_service.specs.declared.wish.Reply.{Reply}
use Rattle.cfdp_service.specs.declared.wish.Reply.TheVariants as replies
use Rattle.cfdp_service.specs.declared.wish.Wish.{Wish}
use Rattle.cfdp_service.specs.declared.wish.Wish.TheVariants as wishes
use Rattle.promises.specs.Serving.{Deed, LetsGo, Says, Served, Starts, Stations, Stops, Tells, Turns, Wishes, served_at}
use Rattle.promises.proofs.Doing.{AllLaws}
use Rattle.promises.proofs.Holding.{Held}
use Rattle.promises.proofs.Promising.{AreHeld, each, first_held, held_at, went_held}
use Rattle.promises.proofs.Sounds.{some_like}
use Rattle.promises.proofs.Standing.{AreFirst, DoesDeed, Fulfils, Goes, HaveServed}
use Rattle.promises.proofs.Turning.{MakesSome, stopped, turned}

-- The laws of what an entity must do, also if it forgets, and that files and indications are
-- nothing to it.
pub record EndLaws : Type 0 where
  pub entity : EntityLaws
  pub some : (old new : EntityState) → ForgetsSome old new → IsLively old → IsLively new
  pub alike : (old new : EntityState) → new.config ≡ old.config → new.table.records ≡ old.table.records → new.table.armed ≡ old.table.armed → new.table.policy ≡ old.table.policy → IsLively old →
      IsLively new

module _ (laws : EndLaws) (policy : Policy) where
  -- an entity that is another one in nothing that counts
  pub alike_holds : (old new : EntityState) → new.config ≡ old.config → new.table.records ≡ old.table.records → new.table.armed ≡ old.table.armed → new.table.policy ≡ old.table.policy → Holds policy old →
      Holds policy new
  alike_holds old new config records armed does h =
      record { lively = laws.alike old new config records armed does h.lively; policy_is = ap (λ (c : EntityConfig). c.policy) config ∙ h.policy_is }

  with_holds : (old : EntityState) (t : TableState) (new : EntityState) → new ≡ with_table old t → t.records ≡ old.table.records → t.armed ≡ old.table.armed → t.policy ≡ old.table.policy → Holds policy old →
      Holds policy new
  with_holds old t new is records armed does h =
      same-holds policy (with_table old t) new is (alike_holds old (with_table old t) refl records armed does h)

  looked_holds : (name : List ℕ) (old new : EntityState) → LooksUp name old new → Holds policy old → Holds policy new
  looked_holds name old new looks h = elim (looks.looks) [
    | inl sent ↦ same-holds policy old new (looks.entity ∙ ap (λ (t : TableState). with_table old t) sent.1) h
    | inr anew ↦
        with_holds old (record old.table { sources = new.table.sources; stands = new.table.stands }) new (looks.entity ∙ ap (λ (t : TableState). with_table old t) anew.table) refl refl refl h
  ]

  put_holds : (source destination : List ℕ) (answer : Result TransactionId PutError) (a b : StationState) → asking.Puts source destination answer a b → Holds policy a.entity.state → Holds policy b.entity.state
  put_holds source destination (Ok id) a b p h =
      on-holds policy a.entity.state b.entity.state (laws.entity.put_on source destination id a.entity.state b.entity.state p.0)
      (laws.entity.put source destination id a.entity.state b.entity.state p.0 h.lively) h
  put_holds source destination (Err by) a b p h = same-holds policy a.entity.state b.entity.state p.1 h

  wish_holds : (wish : Wish) (reply : Reply) (a b : StationState) (added : List Put) → Fulfils wish reply a b added → Holds policy a.entity.state → Holds policy b.entity.state
  wish_holds (wishes.Put names) (replies.Put answer) a b added (inl f) h =
      put_holds names.source.items names.destination.items answer f.looked b f.puts (looked_holds names.source.items a.entity.state f.looked.entity.state f.looks.looks h)
  wish_holds (wishes.Put names) (replies.Put answer) a b added (inr (is, fails, none)) h = same-holds policy a.entity.state b.entity.state fails.same h
  wish_holds (wishes.Put names) (replies.Change answer) a b added f h = absurd f
  wish_holds (wishes.Change id request) (replies.Change (Ok done)) a b added (answers, none) h =
      on-holds policy a.entity.state b.entity.state (laws.entity.called_on request id a.entity.state b.entity.state answers.entity.called)
      (laws.entity.called request id a.entity.state b.entity.state answers.entity.called h.lively) h
  wish_holds (wishes.Change id request) (replies.Change (Err by)) a b added (answers, none) h =
      same-holds policy a.entity.state b.entity.state (ap (λ (s : StationState). s.entity.state) answers.err) h
  wish_holds (wishes.Change id request) (replies.Put answer) a b added f h = absurd f

  gone_holds : (old new : EntityState) → ForgetsSome old new → Holds policy old → Holds policy new
  gone_holds old new f h = record { lively = laws.some old new f h.lively; policy_is = ap (λ (c : EntityConfig). c.policy) (some_like old new f).config ∙ h.policy_is }

-- ---- calls
calls_holds : EndLaws → (calls : List Call) (c : StationConfig) (old theirs new : End) (p q : List Put) → DoesCalls calls c old theirs new p q → Holds c.entity.policy (entity_of old) →
    Holds c.entity.policy (entity_of new)
calls_holds laws [] c old theirs new p q (same, none) h = same-holds c.entity.policy (entity_of old) (entity_of new) (ap entity_of same) h
calls_holds laws (call ∷ calls) c old theirs new p q (mid, between, one, rest) h =
    calls_holds laws calls c mid theirs new between q rest (call-holds laws.entity c old theirs mid p between call one h)

module _ (laws : EndLaws) (c t : StationConfig) (begun there : FileMap) (theirs old new : EndKept) (puts : List Put) (h : Held c t begun there puts old theirs) where
  some_holds : MakesSome c old theirs new puts → Holds c.entity.policy old.station.entity.state → Holds c.entity.policy new.station.entity.state
  some_holds makes k =
      let f = makes.1.follow h.m h.o h.of_mine h.of_theirs h.taken_mine in
      subst (λ (s : StationState). Holds c.entity.policy s.entity.state) f.2.station
      (calls_holds laws makes.0 c h.m h.o f.0 puts puts f.1 (subst (λ (s : StationState). Holds c.entity.policy s.entity.state) (sym h.of_mine.station) k))

-- ---- deeds
-- what holds of a station
abbrev pub HoldsOf : StationConfig → Served → Type 0
HoldsOf c s = Holds c.entity.policy s.kept.station.entity.state

deed_holds : {W : Type 0} (Steps : W → WireCall → W → Type 0) → AllLaws → EndLaws → (deed : Deed) (c t : StationConfig) (there : FileMap) (theirs : EndKept) (old new : Served) (puts puts_then : List Put) →
    DoesDeed Steps deed c theirs old new puts puts_then → Held c t old.begun there puts old.kept theirs → HoldsOf c old → HoldsOf c new
deed_holds Steps all laws (Wishes wish reply) c t there theirs old new puts puts_then (station, added, does, same, more) h k =
    subst (HoldsOf c) (sym same) (wish_holds laws c.entity.policy wish reply old.kept.station station added does k)
deed_holds Steps all laws (Says call) c t there theirs old new puts puts_then (is, same, more) h k = subst (HoldsOf c) (sym same) k
deed_holds Steps all laws Tells c t there theirs old new puts puts_then (same, more) h k =
    subst (HoldsOf c) (sym same) (alike_holds laws c.entity.policy old.kept.station.entity.state _ refl refl refl refl k)
deed_holds Steps all laws LetsGo c t there theirs old new puts puts_then (station, go, same, more) h k =
    subst (HoldsOf c) (sym same) (gone_holds laws c.entity.policy old.kept.station.entity.state station.entity.state go.forgets k)
deed_holds Steps all laws Turns c t there theirs old new puts puts_then (turn, same, more) h k =
    some_holds laws c t old.begun there theirs old.kept new.kept puts h (turned all.gains c theirs puts Steps old.kept new.kept turn) k
deed_holds Steps all laws Stops c t there theirs old new puts puts_then (turn, same, more) h k =
    some_holds laws c t old.begun there theirs old.kept new.kept puts h (stopped all.gains c theirs puts Steps old.kept new.kept turn) k
deed_holds Steps all laws (Starts counted number) c t there theirs old new puts puts_then (anew, more) h k =
    let b = anew.begun in
    first-holds laws.entity c.entity.policy anew.sources new.begun (numbered_from number c.entity) new.kept.station.entity.state anew.valid refl
    (ap (λ (x : Counted). x.state) b.counts.rest.0 ∙ b.is_new.entity)

-- ---- both stations
abbrev pub AllHold : Setup → Stations → Type 0
AllHold c w = (s : Side) → HoldsOf (setup_of s c) (served_at s w)

module _ {W : Type 0} (Steps : W → WireCall → W → Type 0) (all : AllLaws) (laws : EndLaws) (c : Setup) (joined : AreJoined c) where
  first_holds : (counts : Side → ℕ) (sources files : Side → FileMap) (w : Stations) → AreFirst c counts sources files w → AllHold c w
  first_holds counts sources files w f s =
      let b = (f.each s).begun in
      first-holds laws.entity (setup_of s c).entity.policy (sources s) (files s) (setup_of s c).entity (served_at s w).kept.station.entity.state (joined.valid s).entity refl
      (ap (λ (x : Counted). x.state) b.counts.rest.0 ∙ b.is_new.entity)

  goes_holds : (old new : Stations) → Goes Steps c old new → AreHeld c old → AllHold c old → AllHold c new
  goes_holds old new g h k =
      let s = g.side in
      let here : HoldsOf (setup_of s c) (served_at s new) =
      deed_holds Steps all laws g.deed (setup_of s c) (setup_of (other s) c) (served_at (other s) old).begun (served_at (other s) old).kept (served_at s old) (served_at s new) old.puts new.puts g.does
      (held_at c old s h) (k s) in
      each (λ r. HoldsOf (setup_of r c) (served_at r new)) s here (subst (HoldsOf (setup_of (other s) c)) (sym g.others) (k (other s)))

  went_holds : (count : ℕ) (old new : Stations) → Times (Goes Steps c) count old new → AreHeld c old → AllHold c old → AllHold c new
  went_holds zero old new same h k = subst (λ (w : Stations). AllHold c w) (sym same) k
  went_holds (suc count) old new (mid, before, goes) h k = goes_holds mid new goes (went_held Steps all c joined count old mid before h) (went_holds count old mid before h k)

  pub served_holds : (files : Side → FileMap) (now : Stations) → HaveServed Steps c files now → AllHold c now
  served_holds files now s =
      went_holds s.count s.first now s.went (first_held all c s.counts s.sources files s.first joined s.begins) (first_holds s.counts s.sources files s.first s.begins)
