-- What is kept of two stations as something is done at one of them.
use Rattle.std.proofs.Common.{◌≡◌, ℕ, ◌+◌, ◌<◌, ◌≤◌, Option, None, Result, Ok, Err, List, [], ◌∷◌, ◌++◌, Some, length, map, take, refl, sym, ap, ap₂, subst, ◌∙◌, inl, inr, append-nil}
use Rattle.aos_frame.specs.declared.config.Lane.{Lane}
use Rattle.aos_frame.specs.declared.config.Lane.TheVariants.{Directives, Data}
use Rattle.link_stack.specs.Downward.{both_counted_from, first_down}
use Rattle.link_stack.specs.EndToEnd.{made_of}
use Rattle.cfdp_header.specs.declared.value.TransactionId.{TransactionId}
use Rattle.cfdp_header.specs.Files.{FileMap}
use Rattle.cfdp_directives.specs.declared.user.indication.Indication.{Indication}
use Rattle.cfdp_directives.specs.User.Put.{Put}
use Rattle.cfdp_entity.specs.declared.config.EntityConfig.{EntityConfig}
use Rattle.cfdp_entity.specs.declared.error.PutError.{PutError}
use Rattle.cfdp_entity.specs.Entity.{Counted, EntityState}
use Rattle.cfdp_entity.specs.Forgetting.{ForgetsSome}
use Rattle.cfdp_entity.specs.Sound.{IsSound, next_put}
use Rattle.cfdp_entity.specs.Table.{TableState}
use Rattle.cfdp_station.specs.declared.config.StationConfig.{StationConfig}
use Rattle.cfdp_station.specs.Station.{StationState}
use Rattle.any_order.specs.Calls.{End, lives, numbered_from, Puts, Refuses}
use Rattle.any_order.specs.Kept.{EndKept, HasTaken, IsOf, LifeKept, last_at}
use Rattle.any_order.specs.Promise.{found, heard_ever, told_ever}
use Rattle.any_order.specs.World.{request_calls}
use Rattle.any_order.proofs.Coming.{kept_lives}
use Rattle.any_order.proofs.Keeping.{taken_grown}
use Rattle.any_order.proofs.Kept.{IsJoinedTo}
use Rattle.any_order.proofs.Leading.{makes_put, makes_refused, makes_request}
use Rattle.any_order.proofs.Promise.{BeginsWith, Laws, grows_anew, life_anew, theirs_anew}
use Rattle.cfdp_port.specs.Asking as asking
use Rattle.cfdp_port.specs.Asking.{LooksAt}
use Rattle.cfdp_port.specs.Calls.{WireCall}
use Rattle.cfdp_port.specs.Port.{table_of}
use Rattle.cfdp_port.specs.Gains.{Gains}
use Rattle.cfdp_port.proofs.GainLemmas.{GoesOnLaws, gains-both, gains-same, goes, look-gains}
use Rattle.cfdp_service.specs.declared.wish.Reply.{Reply}
use Rattle.cfdp_service.specs.declared.wish.Reply.TheVariants as replies
use Rattle.cfdp_service.specs.declared.wish.Wish.{Wish}
use Rattle.cfdp_service.specs.declared.wish.Wish.TheVariants as wishes
use Rattle.cfdp_service.specs.Calls.{UserCall, Asks, Answered, Hears, Intends, Ends, heard_by}
use Rattle.cfdp_service.specs.Serving.{HearsGone, once_said, once_told, said_by, wish_calls}
use Rattle.promises.specs.Serving.{Deed, IsBegun, IsSaid, LetsGo, Says, Served, Starts, Stops, Tells, Turns, Wishes, accepted_by}
use Rattle.promises.proofs.Hearing.{hears_first, hears_gains, hears_more, hears_said, forgot_told}
use Rattle.promises.proofs.Holding.{Held, at_count, goes_makes, held_like, held_makes}
use Rattle.promises.proofs.Sounds.{looked_like, some_like, sound_else, sound_looked}
use Rattle.promises.proofs.Standing.{DoesDeed, Fulfils, KeepsSent, PutsFile, StartsAnew}
use Rattle.promises.proofs.Telling.{TellsMore, makes_told, tells_both, tells_same, told_of}
use Rattle.promises.proofs.Turning.{MakesSome, at, early_life, stopped, turn_life, turned}

-- The laws of a link and of an entity, and that it may forget.
pub record AllLaws : Type 0 where
  pub laws : Laws
  pub gains : GoesOnLaws
  pub forgets : (p : TransactionId → Option Put) (heard : List (List ℕ)) (first : FileMap) (old new : EntityState) → ForgetsSome old new → IsSound p heard first old → IsSound p heard first new

module _ (all : AllLaws) (c t : StationConfig) (first there : FileMap) (joined : IsJoinedTo c t) (link : c.receives ≡ t.sends) (theirs : EndKept) where
  -- what holds, by the puts and what is kept here
  abbrev Holds : List Put → EndKept → Type 0
  Holds puts k = Held c t first there puts k theirs

  pub some_held : (old new : EndKept) (puts : List Put) → MakesSome c old theirs new puts → new.before ≡ old.before → Holds puts old → Holds puts new
  some_held old new puts makes same h = held_makes all.laws c t first there joined link makes.0 old theirs new puts puts makes.1 same h

  -- ---- wishes
  pub looked_held : (source : List ℕ) (k : EndKept) (a b : StationState) (puts : List Put) → LooksAt source a b → KeepsSent source (table_of a) (table_of b) → Holds puts (at a k) → Holds puts (at b k)
  looked_held source k a b puts looks keeps h =
      held_like c t first there puts (at a k) (at b k) theirs refl looks.link.0 looks.link.1 (looked_like source a.entity.state b.entity.state looks.looks)
      (λ heard begun sound. sound_looked (found puts) heard begun source a.entity.state b.entity.state looks.looks keeps sound) h

  put_held : (source destination : List ℕ) (answer : Result TransactionId PutError) (k : EndKept) (a b : StationState) (puts : List Put) → asking.Puts source destination answer a b → Holds puts (at a k) →
      Holds (puts ++ accepted_by source destination answer a.entity.state) (at b k)
  put_held source destination (Ok id) k a b puts p h =
      held_makes all.laws c t first there joined link (Puts source destination id ∷ []) (at a k) theirs (at b k) puts (puts ++ next_put source destination a.entity.state ∷ [])
      (makes_put source destination id c (at a k) theirs (at b k) puts p.0 p.2 refl) refl h
  put_held source destination (Err by) k a b puts p h =
      subst (λ (l : List Put). Holds l (at b k)) (sym (append-nil puts))
      (held_makes all.laws c t first there joined link (Refuses ∷ []) (at a k) theirs (at b k) puts puts (makes_refused c (at a k) theirs (at b k) puts p.1 p.3 refl) refl h)

  file_held : (source destination : List ℕ) (answer : Result TransactionId PutError) (k : EndKept) (b : StationState) (puts added : List Put) → PutsFile source destination answer k.station b added → Holds puts k →
      Holds (puts ++ added) (at b k)
  file_held source destination answer k b puts added f h =
      subst (λ (l : List Put). Holds (puts ++ l) (at b k)) (sym f.added)
      (put_held source destination answer k f.looked b puts f.puts (looked_held source k k.station f.looked puts f.looks f.keeps h))

  pub wish_held : (wish : Wish) (reply : Reply) (k : EndKept) (b : StationState) (puts added : List Put) → Fulfils wish reply k.station b added → Holds puts k → Holds (puts ++ added) (at b k)
  wish_held (wishes.Put names) (replies.Put answer) k b puts added (inl f) h = file_held names.source.items names.destination.items answer k b puts added f h
  wish_held (wishes.Put names) (replies.Put answer) k b puts added (inr (is, fails, none)) h =
      subst (λ (l : List Put). Holds l (at b k)) (sym (ap (λ (l : List Put). puts ++ l) none ∙ append-nil puts))
      (held_makes all.laws c t first there joined link (Refuses ∷ []) k theirs (at b k) puts puts (makes_refused c k theirs (at b k) puts fails.same fails.link refl) refl h)
  wish_held (wishes.Put names) (replies.Change answer) k b puts added f h = absurd f
  wish_held (wishes.Change id request) (replies.Change answer) k b puts added (answers, none) h =
      subst (λ (l : List Put). Holds l (at b k)) (sym (ap (λ (l : List Put). puts ++ l) none ∙ append-nil puts))
      (held_makes all.laws c t first there joined link (request_calls id request answer) k theirs (at b k) puts puts
      (makes_request id request answer c k theirs (at b k) puts answers.entity.called answers.err answers.link refl) refl h)
  wish_held (wishes.Change id request) (replies.Put answer) k b puts added f h = absurd f

  -- ---- what is discarded
  pub told_held : (k : EndKept) (puts : List Put) → Holds puts k → Holds puts (at (once_told k.station) k)
  told_held k puts h =
      held_like c t first there puts k (at (once_told k.station) k) theirs refl refl refl (record { told = refl; config = refl; next = refl; files = refl })
      (λ heard begun sound.
      let e : EntityState = k.station.entity.state in
      sound_else (found puts) heard begun e e.table.sources e.table.stands (once_said e.table).gone (λ place id x is. refl) sound) h

  pub gone_held : (k : EndKept) (b : StationState) (puts : List Put) → asking.LetsGo k.station b → Holds puts k → Holds puts (at b k)
  gone_held k b puts go h =
      held_like c t first there puts k (at b k) theirs refl go.link.0 go.link.1 (some_like k.station.entity.state b.entity.state go.forgets)
      (λ heard begun sound. all.forgets (found puts) heard begun k.station.entity.state b.entity.state go.forgets sound) h

  -- ---- what was indicated stays
  put_told : (source destination : List ℕ) (answer : Result TransactionId PutError) (k : EndKept) (a b : StationState) (puts : List Put) → asking.Puts source destination answer a b → Holds puts (at a k) →
      TellsMore (told_of (at a k)) (told_of (at b k))
  put_told source destination (Ok id) k a b puts p h =
      makes_told all.laws c t first there (Puts source destination id ∷ []) (at a k) theirs (at b k) puts (puts ++ next_put source destination a.entity.state ∷ [])
      (makes_put source destination id c (at a k) theirs (at b k) puts p.0 p.2 refl) h
  put_told source destination (Err by) k a b puts p h = tells_same (told_of (at a k)) (told_of (at b k)) (ap (λ (e : EntityState). k.told_before ++ e.table.told) p.1)

  file_told : (source destination : List ℕ) (answer : Result TransactionId PutError) (k : EndKept) (b : StationState) (puts added : List Put) → PutsFile source destination answer k.station b added → Holds puts k →
      TellsMore (told_of k) (told_of (at b k))
  file_told source destination answer k b puts added f h =
      let like = looked_like source k.station.entity.state f.looked.entity.state f.looks.looks in
      tells_both (told_of k) (told_of (at f.looked k)) (told_of (at b k)) (tells_same (told_of k) (told_of (at f.looked k)) (ap (λ l. k.told_before ++ l) like.told))
      (put_told source destination answer k f.looked b puts f.puts (looked_held source k k.station f.looked puts f.looks f.keeps h))

  wish_told : (wish : Wish) (reply : Reply) (k : EndKept) (b : StationState) (puts added : List Put) → Fulfils wish reply k.station b added → Holds puts k → TellsMore (told_of k) (told_of (at b k))
  wish_told (wishes.Put names) (replies.Put answer) k b puts added (inl f) h = file_told names.source.items names.destination.items answer k b puts added f h
  wish_told (wishes.Put names) (replies.Put answer) k b puts added (inr (is, fails, none)) h =
      tells_same (told_of k) (told_of (at b k)) (ap (λ (e : EntityState). k.told_before ++ e.table.told) fails.same)
  wish_told (wishes.Put names) (replies.Change answer) k b puts added f h = absurd f
  wish_told (wishes.Change id request) (replies.Change answer) k b puts added (answers, none) h =
      makes_told all.laws c t first there (request_calls id request answer) k theirs (at b k) puts puts (makes_request id request answer c k theirs (at b k) puts answers.entity.called answers.err answers.link refl) h
  wish_told (wishes.Change id request) (replies.Put answer) k b puts added f h = absurd f

  some_told : (old new : EndKept) (puts : List Put) → MakesSome c old theirs new puts → Holds puts old → TellsMore (told_of old) (told_of new)
  some_told old new puts makes h = makes_told all.laws c t first there makes.0 old theirs new puts puts makes.1 h

  pub deed_told : {W : Type 0} (Steps : W → WireCall → W → Type 0) (deed : Deed) (old new : Served) (puts puts_then : List Put) → DoesDeed Steps deed c theirs old new puts puts_then → Holds puts old.kept →
      TellsMore (told_of old.kept) (told_of new.kept)
  deed_told Steps (Wishes wish reply) old new puts puts_then (station, added, does, same, more) h =
      subst (λ (s : Served). TellsMore (told_of old.kept) (told_of s.kept)) (sym same) (wish_told wish reply old.kept station puts added does h)
  deed_told Steps (Says call) old new puts puts_then (is, same, more) h = tells_same (told_of old.kept) (told_of new.kept) (ap (λ (s : Served). told_of s.kept) same)
  deed_told Steps Tells old new puts puts_then (same, more) h = tells_same (told_of old.kept) (told_of new.kept) (ap (λ (s : Served). told_of s.kept) same)
  deed_told Steps LetsGo old new puts puts_then (station, go, same, more) h =
      let like = some_like old.kept.station.entity.state station.entity.state go.forgets in
      tells_same (told_of old.kept) (told_of new.kept) (ap (λ (s : Served). told_of s.kept) same ∙ ap (λ l. old.kept.told_before ++ l) like.told)
  deed_told Steps Turns old new puts puts_then (turn, same, more) h = some_told old.kept new.kept puts (turned all.gains c theirs puts Steps old.kept new.kept turn) h
  deed_told Steps Stops old new puts puts_then (turn, same, more) h = some_told old.kept new.kept puts (stopped all.gains c theirs puts Steps old.kept new.kept turn) h
  deed_told Steps (Starts counted number) old new puts puts_then (anew, more) h =
      let none : (table_of new.kept.station).told ≡ [] = ap (λ (x : Counted). x.state.table.told) anew.begun.counts.rest.0 ∙ ap (λ (e : EntityState). e.table.told) anew.begun.is_new.entity in
      tells_same (told_of old.kept) (told_of new.kept) (ap (λ (k : EndKept). k.told_before ++ (table_of new.kept.station).told) anew.kept ∙ ap (λ l. told_of old.kept ++ l) none ∙ append-nil (told_of old.kept))

  -- ---- what was heard is what was discarded
  wish_gains : (wish : Wish) (reply : Reply) (a b : StationState) (added : List Put) → Fulfils wish reply a b added → Gains (table_of a) (table_of b)
  wish_gains (wishes.Put names) (replies.Put (Ok id)) a b added (inl f) =
      gains-both (table_of a) (table_of f.looked) (table_of b) (look-gains names.source.items a f.looked f.looks)
      (goes f.looked.entity.state b.entity.state (all.laws.entity.put_on names.source.items names.destination.items id f.looked.entity.state b.entity.state f.puts.0))
  wish_gains (wishes.Put names) (replies.Put (Err by)) a b added (inl f) =
      gains-both (table_of a) (table_of f.looked) (table_of b) (look-gains names.source.items a f.looked f.looks)
      (gains-same (table_of f.looked) (table_of b) (ap (λ (e : EntityState). e.table) f.puts.1))
  wish_gains (wishes.Put names) (replies.Put answer) a b added (inr (is, fails, none)) = gains-same (table_of a) (table_of b) (ap (λ (e : EntityState). e.table) fails.same)
  wish_gains (wishes.Put names) (replies.Change answer) a b added f = absurd f
  wish_gains (wishes.Change id request) (replies.Change (Ok done)) a b added (answers, none) =
      goes a.entity.state b.entity.state (all.laws.entity.called_on request id a.entity.state b.entity.state answers.entity.called)
  wish_gains (wishes.Change id request) (replies.Change (Err by)) a b added (answers, none) = gains-same (table_of a) (table_of b) (ap (λ (s : StationState). table_of s) answers.err)
  wish_gains (wishes.Change id request) (replies.Put answer) a b added f = absurd f

  said_none : (call : UserCall) → IsSaid call → heard_by (call ∷ []) ≡ []
  said_none (Asks None) said = refl
  said_none (Asks (Some wish)) said = absurd said
  said_none (Answered reply) said = absurd said
  said_none (Hears indication) said = absurd said
  said_none (Intends intent) said = refl
  said_none Ends said = refl

  hears_like : (calls : List UserCall) (a b : TableState) → b.told ≡ a.told → b.gone ≡ a.gone → HearsGone calls a → HearsGone calls b
  hears_like calls a b told gone h = record {
    few = subst (λ (n : ℕ). n ≤ length b.told) (sym gone) (subst (λ (l : List Indication). a.gone ≤ length l) (sym told) h.few);
    heard = h.heard ∙ ap₂ (λ (n : ℕ) (l : List Indication). take n l) (sym gone) (sym told);
  }

  -- by calls that indicate nothing, of a table that gained some
  hears_so : (old new : Served) (more : List UserCall) → new.calls ≡ old.calls ++ more → heard_by more ≡ [] → Gains (table_of old.kept.station) (table_of new.kept.station) →
      HearsGone old.calls (table_of old.kept.station) → HearsGone new.calls (table_of new.kept.station)
  hears_so old new more is none gains h =
      subst (λ (l : List UserCall). HearsGone l (table_of new.kept.station)) (sym is)
      (hears_more old.calls more (table_of new.kept.station) (hears_gains old.calls (table_of old.kept.station) (table_of new.kept.station) h gains) none)

  some_gains : (old new : EndKept) (puts : List Put) → MakesSome c old theirs new puts → new.before ≡ old.before → Holds puts old → Gains (table_of old.station) (table_of new.station)
  some_gains old new puts makes same h =
      goes old.station.entity.state new.station.entity.state (goes_makes all.laws c t first there joined link makes.0 old theirs new puts puts makes.1 same h)

  none_more : (calls : List UserCall) → calls ≡ calls ++ []
  none_more calls = sym (append-nil calls)

  pub deed_hears : {W : Type 0} (Steps : W → WireCall → W → Type 0) (deed : Deed) (old new : Served) (puts puts_then : List Put) → DoesDeed Steps deed c theirs old new puts puts_then → Holds puts old.kept →
      HearsGone old.calls (table_of old.kept.station) → HearsGone new.calls (table_of new.kept.station)
  deed_hears Steps (Wishes wish reply) old new puts puts_then (station, added, does, same, more) h g =
      hears_so old new (wish_calls (wish, reply)) (ap (λ (s : Served). s.calls) same) refl
      (subst (λ (s : Served). Gains (table_of old.kept.station) (table_of s.kept.station)) (sym same) (wish_gains wish reply old.kept.station station added does)) g
  deed_hears Steps (Says call) old new puts puts_then (is, same, more) h g =
      hears_so old new (call ∷ []) (ap (λ (s : Served). s.calls) same) (said_none call is)
      (gains-same (table_of old.kept.station) (table_of new.kept.station) (ap (λ (s : Served). table_of s.kept.station) same)) g
  deed_hears Steps Tells old new puts puts_then (same, more) h g =
      subst (λ (s : Served). HearsGone s.calls (table_of s.kept.station)) (sym same)
      (hears_said old.calls (table_of old.kept.station) g)
  deed_hears Steps LetsGo old new puts puts_then (station, go, same, more) h g =
      let kept = forgot_told old.kept.station.entity.state station.entity.state go.forgets in
      subst (λ (s : Served). HearsGone s.calls (table_of s.kept.station)) (sym same)
      (subst (λ (l : List UserCall). HearsGone l (table_of station)) (none_more old.calls) (hears_like old.calls (table_of old.kept.station) (table_of station) kept.0 kept.1 g))
  deed_hears Steps Turns old new puts puts_then (turn, same, more) h g =
      hears_so old new [] (ap (λ (s : Served). s.calls) same ∙ none_more old.calls) refl
      (some_gains old.kept new.kept puts (turned all.gains c theirs puts Steps old.kept new.kept turn) (turn_life Steps c.receives theirs old.kept new.kept turn).before h) g
  deed_hears Steps Stops old new puts puts_then (turn, same, more) h g =
      hears_so old new [] (ap (λ (s : Served). s.calls) same ∙ none_more old.calls) refl
      (some_gains old.kept new.kept puts (stopped all.gains c theirs puts Steps old.kept new.kept turn) (early_life Steps c.receives theirs old.kept new.kept turn).before h) g
  deed_hears Steps (Starts counted number) old new puts puts_then (anew, more) h g =
      let none : (table_of new.kept.station).gone ≡ 0 = ap (λ (x : Counted). x.state.table.gone) anew.begun.counts.rest.0 ∙ ap (λ (e : EntityState). e.table.gone) anew.begun.is_new.entity in
      subst (λ (l : List UserCall). HearsGone l (table_of new.kept.station)) (sym anew.calls) (hears_first (table_of new.kept.station) none)

-- ---- a start, with any files
module _ (all : AllLaws) (c t : StationConfig) (there : FileMap) (joined : IsJoinedTo c t) (link : c.receives ≡ t.sends) (theirs : EndKept) (counted number : ℕ) (old new : Served) (puts : List Put)
    (a : StartsAnew counted number c old new) (h : Held c t old.begun there puts old.kept theirs) where
  config : EntityConfig
  config = numbered_from number c.entity

  -- its history
  anew : End
  anew = record {
    station = new.kept.station;
    first = counted;
    sent = [];
    came = [];
    heard = [];
    lives_before = lives h.m;
    told_before = told_ever h.m;
    heard_before = heard_ever h.m;
  }

  apart : (lane : Lane) → h.m.first + length (made_of lane h.m.sent) < counted
  apart Directives = subst (λ (k : LifeKept). k.first + length k.directives < counted) (sym h.of_mine.latest) (a.apart Directives)
  apart Data = subst (λ (k : LifeKept). k.first + length k.file_data < counted) (sym h.of_mine.latest) (a.apart Data)

  begins : BeginsWith counted number a.sources new.begun c h.m anew
  unfolding anew
  begins =
      let b : IsBegun (record c { entity = numbered_from number c.entity }) counted a.sources new.begun new.kept.station = a.begun in
      record {
        valid = a.valid;
        entity = ap (λ (x : Counted). x.state) b.counts.rest.0 ∙ b.is_new.entity;
        unused = subst (λ (s : StationState). s.entity.state.next ≤ number) (sym h.of_mine.station) a.unused;
        down = b.counts.down ∙ ap (both_counted_from b.count) b.is_new.down ∙ ap (λ (n : ℕ). at_count n (first_down c.sends c.capacity)) b.counted;
        up = b.counts.rest.1 ∙ b.is_new.up;
        counted = refl;
        apart = apart;
        sent = refl;
        came = refl;
        heard = refl;
        lives_before = refl;
        told_before = refl;
        heard_before = refl;
      }

  of_anew : IsOf new.kept anew
  unfolding anew
  of_anew = record {
    station = refl;
    before = kept_lives old.kept h.m h.of_mine ∙ ap (λ (k : EndKept). k.before) (sym a.kept);
    latest = ap (λ (k : EndKept). k.latest) (sym a.kept);
    told = ap₂ (λ (l : List Indication) (s : StationState). l ++ s.entity.state.table.told) h.of_mine.told h.of_mine.station ∙ ap (λ (k : EndKept). k.told_before) (sym a.kept);
  }

  last_anew : (lane : Lane) → None ≡ last_at lane new.kept
  last_anew Directives = ap (λ (k : EndKept). k.last_directives) (sym a.kept)
  last_anew Data = ap (λ (k : EndKept). k.last_data) (sym a.kept)

  taken_anew : HasTaken c.receives new.kept anew h.o
  unfolding anew
  taken_anew = record { coming = tt; near = λ lane. tt; last = last_anew }

  pub anew_held : Held c t new.begun there puts new.kept theirs
  anew_held = record {
    m = anew;
    o = h.o;
    of_mine = of_anew;
    of_theirs = h.of_theirs;
    taken_mine = taken_anew;
    taken_theirs = taken_grown t.receives theirs h.o h.m anew
        (grows_anew all.laws c t old.begun there puts h.m h.o anew joined link h.kept_mine h.kept_theirs counted number a.sources new.begun begins) h.taken_theirs;
    kept_mine = life_anew all.laws c t old.begun there puts h.m h.o anew joined link h.kept_mine h.kept_theirs counted number a.sources new.begun begins;
    kept_theirs = theirs_anew all.laws c t old.begun there puts h.m h.o anew joined link h.kept_mine h.kept_theirs counted number a.sources new.begun begins;
  }

-- ---- anything
module _ (all : AllLaws) (c t : StationConfig) (there : FileMap) (joined : IsJoinedTo c t) (link : c.receives ≡ t.sends) (theirs : EndKept) where
  -- what holds, by the puts and the station here
  abbrev HeldBy : List Put → Served → Type 0
  HeldBy puts s = Held c t s.begun there puts s.kept theirs

  -- the same station, and the same puts
  held_so : (puts puts_then : List Put) (s new : Served) → new ≡ s → puts_then ≡ puts → HeldBy puts s → HeldBy puts_then new
  held_so puts puts_then s new same more h = subst (λ (l : List Put). HeldBy l new) (sym more) (subst (λ (x : Served). HeldBy puts x) (sym same) h)

  pub deed_held : {W : Type 0} (Steps : W → WireCall → W → Type 0) (deed : Deed) (old new : Served) (puts puts_then : List Put) → DoesDeed Steps deed c theirs old new puts puts_then → HeldBy puts old →
      HeldBy puts_then new
  deed_held Steps (Wishes wish reply) old new puts puts_then (station, added, does, same, more) h =
      held_so (puts ++ added) puts_then (record old { kept = at station old.kept; calls = old.calls ++ wish_calls (wish, reply) }) new same more
      (wish_held all c t old.begun there joined link theirs wish reply old.kept station puts added does h)
  deed_held Steps (Says call) old new puts puts_then (is, same, more) h =
      held_so puts puts_then (record old { calls = old.calls ++ call ∷ [] }) new same more h
  deed_held Steps Tells old new puts puts_then (same, more) h =
      held_so puts puts_then (record old { kept = at (once_told old.kept.station) old.kept; calls = old.calls ++ map Hears (said_by (table_of old.kept.station)) }) new same more
      (told_held all c t old.begun there joined link theirs old.kept puts h)
  deed_held Steps LetsGo old new puts puts_then (station, go, same, more) h =
      held_so puts puts_then (record old { kept = at station old.kept; calls = old.calls ++ [] }) new same more
      (gone_held all c t old.begun there joined link theirs old.kept station puts go h)
  deed_held Steps Turns old new puts puts_then (turn, same, more) h =
      held_so puts puts_then (record old { kept = new.kept }) new same more
      (some_held all c t old.begun there joined link theirs old.kept new.kept puts (turned all.gains c theirs puts Steps old.kept new.kept turn) (turn_life Steps c.receives theirs old.kept new.kept turn).before h)
  deed_held Steps Stops old new puts puts_then (turn, same, more) h =
      held_so puts puts_then (record old { kept = new.kept }) new same more
      (some_held all c t old.begun there joined link theirs old.kept new.kept puts (stopped all.gains c theirs puts Steps old.kept new.kept turn) (early_life Steps c.receives theirs old.kept new.kept turn).before h)
  deed_held Steps (Starts counted number) old new puts puts_then (a, more) h =
      subst (λ (l : List Put). HeldBy l new) (sym more) (anew_held all c t there joined link theirs counted number old new puts a h)
