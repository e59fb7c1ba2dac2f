-- What is done between two turns of a station in service is deeds.
use Rattle.std.proofs.Common.{◌≡◌, ◌⊎◌, suc, None, List, [], ◌∷◌, ◌++◌, map, refl, sym, ap, ap₂, subst, ◌∙◌, inl, inr, append-nil, append_assoc}
use Rattle.std.specs.List.{flat_map}
use Rattle.cfdp_header.specs.Files.{FileMap}
use Rattle.cfdp_directives.specs.User.Put.{Put}
use Rattle.cfdp_station.specs.Station.{StationState}
use Rattle.any_order.specs.Calls.{One, Two, Setup, Side, other, setup_of}
use Rattle.cfdp_port.specs.Calls.{WireCall}
use Rattle.cfdp_port.specs.Port.{table_of}
use Rattle.cfdp_service.specs.Calls.{UserCall, Asks, Hears, Intends}
use Rattle.cfdp_service.specs.declared.wish.Reply.{Reply}
use Rattle.cfdp_service.specs.declared.wish.Wish.{Wish}
use Rattle.cfdp_service.specs.Serving.{once_told, said_by, wish_calls}
use Rattle.promises.specs.Serving.{Deed, DoesDeed, DoesFree, Goes, IsPrepared, Leads, LetsGo, Says, Served, Stations, Tells, Wishes, served_at, served_on, with_has}

-- both stations, if the one at this side became another
abbrev with_served : Side → Served → List Put → Stations → Stations
with_served One x puts w = record { one = x; two = w.two; puts = puts }
with_served Two x puts w = record { one = w.one; two = x; puts = puts }

here_is : (s : Side) (x : Served) (puts : List Put) (w : Stations) → served_at s (with_served s x puts w) ≡ x
here_is One x puts w = refl
here_is Two x puts w = refl

there_is : (s : Side) (x : Served) (puts : List Put) (w : Stations) → served_at (other s) (with_served s x puts w) ≡ served_at (other s) w
there_is One x puts w = refl
there_is Two x puts w = refl

puts_are : (s : Side) (x : Served) (puts : List Put) (w : Stations) → (with_served s x puts w).puts ≡ puts
puts_are One x puts w = refl
puts_are Two x puts w = refl

-- a station with these calls
abbrev with_calls : StationState → Served → List UserCall → Served
with_calls b x l = record x { kept = record x.kept { station = b }; calls = l }

-- more calls after these
on_both : (a b : StationState) (c d : List UserCall) (x : Served) → served_on b d (served_on a c x) ≡ served_on b (c ++ d) x
on_both a b c d x = ap (λ (l : List UserCall). with_calls b x l) (append_assoc x.calls c d)

module _ {W : Type 0} (Steps : W → WireCall → W → Type 0) (c : Setup) (s : Side) (old : Stations) where
  none : Leads Steps c s old (served_at s old) old.puts
  none = record { count = 0; now = old; went = refl; here = refl; beside = refl; all = refl }

  goes_one : (r : Side) (deed : Deed) (w : Stations) (x : Served) (puts : List Put) → DoesDeed Steps deed (setup_of r c) (served_at (other r) w).kept (served_at r w) x w.puts puts →
      Goes Steps c w (with_served r x puts w)
  goes_one One deed w x puts d = record { side = One; deed = deed; does = d; others = refl }
  goes_one Two deed w x puts d = record { side = Two; deed = deed; does = d; others = refl }

  one_more : (deed : Deed) (x y : Served) (puts puts_then : List Put) → DoesDeed Steps deed (setup_of s c) (served_at (other s) old).kept x y puts puts_then → Leads Steps c s old x puts → Leads Steps c s old y puts_then
  one_more deed x y puts puts_then d l =
      let its : DoesDeed Steps deed (setup_of s c) (served_at (other s) l.now).kept (served_at s l.now) y l.now.puts puts_then =
      subst (λ (t : Served). DoesDeed Steps deed (setup_of s c) t.kept (served_at s l.now) y l.now.puts puts_then) (sym l.beside)
      (subst (λ (t : Served). DoesDeed Steps deed (setup_of s c) (served_at (other s) old).kept t y l.now.puts puts_then) (sym l.here)
      (subst (λ (ps : List Put). DoesDeed Steps deed (setup_of s c) (served_at (other s) old).kept x y ps puts_then) (sym l.all) d)) in
      record {
        count = suc l.count;
        now = with_served s y puts_then l.now;
        went = (l.now, l.went, goes_one s deed l.now y puts_then its);
        here = here_is s y puts_then l.now;
        beside = there_is s y puts_then l.now ∙ l.beside;
        all = puts_are s y puts_then l.now;
      }

  -- from a station with some calls to one with more, and with what its files to send have then
  more_on : (deed : Deed) (x : Served) (has now : FileMap) (a b : StationState) (first more : List UserCall) (puts puts_then : List Put) →
      DoesDeed Steps deed (setup_of s c) (served_at (other s) old).kept (served_on a first (with_has has x)) (served_on b more (served_on a first (with_has now x))) puts puts_then →
      Leads Steps c s old (served_on a first (with_has has x)) puts → Leads Steps c s old (served_on b (first ++ more) (with_has now x)) puts_then
  more_on deed x has now a b first more puts puts_then d l =
      subst (λ (y : Served). Leads Steps c s old y puts_then) (on_both a b first more (with_has now x))
      (one_more deed (served_on a first (with_has has x)) (served_on b more (served_on a first (with_has now x))) puts puts_then d l)

  wishes_done : (done : List (Wish × Reply)) (x : Served) (has now : FileMap) (a b : StationState) (first : List UserCall) (puts : List Put) → DoesFree done has now a b →
      Leads Steps c s old (served_on a first (with_has has x)) puts → (puts_then : List Put) × Leads Steps c s old (served_on b (first ++ flat_map wish_calls done) (with_has now x)) puts_then
  wishes_done [] x has now a b first puts (kept, same) l = (
    puts,
    subst (λ (f : FileMap). Leads Steps c s old (served_on b (first ++ []) (with_has f x)) puts) (sym kept)
        (subst (λ (y : Served). Leads Steps c s old y puts) (ap₂ (λ (t : StationState) (cs : List UserCall). served_on t cs (with_has has x)) (sym same) (sym (append-nil first))) l),
  )
  wishes_done (one ∷ done) x has now a b first puts (then, mid, added, does, rest) l =
      let next : Leads Steps c s old (served_on mid (first ++ wish_calls one) (with_has then x)) (puts ++ added) =
      more_on (Wishes one.0 one.1) x has then a mid first (wish_calls one) puts (puts ++ added) (mid, then, added, does, refl, refl) l in
      let all = wishes_done done x then now mid b (first ++ wish_calls one) (puts ++ added) rest next in
      (all.0, subst (λ (cs : List UserCall). Leads Steps c s old (served_on b cs (with_has now x)) all.0) (append_assoc first (wish_calls one) (flat_map wish_calls done)) all.1)

  rests_so : (rests : List UserCall) (x : Served) (a : StationState) (first : List UserCall) (puts : List Put) → (rests ≡ Asks None ∷ []) ⊎ (rests ≡ []) → Leads Steps c s old (served_on a first x) puts →
      Leads Steps c s old (served_on a (first ++ rests) x) puts
  rests_so rests x a first puts (inl is) l =
      subst (λ (cs : List UserCall). Leads Steps c s old (served_on a (first ++ cs) x) puts) (sym is) (more_on (Says (Asks None)) x x.has x.has a a first (Asks None ∷ []) puts puts (tt, refl, refl) l)
  rests_so rests x a first puts (inr is) l =
      subst (λ (cs : List UserCall). Leads Steps c s old (served_on a (first ++ cs) x) puts) (sym is) (subst (λ (cs : List UserCall). Leads Steps c s old (served_on a cs x) puts) (sym (append-nil first)) l)

  pub readied : (calls : List UserCall) (now : FileMap) (new : StationState) → IsPrepared calls (served_at s old).has now (served_at s old).kept.station new →
      (puts : List Put) × Leads Steps c s old (with_has now (served_on new calls (served_at s old))) puts
  readied calls now new g =
      let x0 : Served = served_at s old in
      let x : Served = with_has now x0 in
      let a : StationState = x0.kept.station in
      let o = g.prepares.obeys in
      let station : StationState = g.prepares.done in
      let begun : Leads Steps c s old (served_on a [] (with_has x0.has x0)) old.puts = subst (λ (cs : List UserCall). Leads Steps c s old (with_calls a x0 cs) old.puts) (sym (append-nil x0.calls)) none in
      let wished = wishes_done o.done x0 x0.has now a station [] old.puts g.free begun in
      let asked : List UserCall = flat_map wish_calls o.done ++ o.rests in
      let ends : (o.rests ≡ Asks None ∷ []) ⊎ (o.rests ≡ []) = elim (o.ends) [
        | inl one ↦ inl one
        | inr none ↦ inr none.0
      ] in
      let rested : Leads Steps c s old (served_on station asked x) wished.0 = rests_so o.rests x station (flat_map wish_calls o.done) wished.0 ends wished.1 in
      let heard : List UserCall = map Hears (said_by (table_of station)) in
      let told : Leads Steps c s old (served_on (once_told station) (asked ++ heard) x) wished.0 =
      more_on Tells x now now station (once_told station) asked heard wished.0 wished.0 (refl, refl) rested in
      let gone : Leads Steps c s old (served_on new ((asked ++ heard) ++ []) x) wished.0 =
      more_on LetsGo x now now (once_told station) new (asked ++ heard) [] wished.0 wished.0 (new, g.prepares.lets_go, refl, refl) told in
      let said : Leads Steps c s old (served_on new ((asked ++ heard) ++ Intends g.intent ∷ []) x) wished.0 =
      more_on (Says (Intends g.intent)) x now now new new (asked ++ heard) (Intends g.intent ∷ []) wished.0 wished.0 (tt, refl, refl)
      (subst (λ (cs : List UserCall). Leads Steps c s old (served_on new cs x) wished.0) (append-nil (asked ++ heard)) gone) in
      let all : calls ≡ (asked ++ heard) ++ Intends g.intent ∷ [] = g.is ∙ ap (λ (l : List UserCall). l ++ Intends g.intent ∷ []) (g.prepares.is ∙ ap (λ (l : List UserCall). l ++ heard) o.is) in
      (wished.0, subst (λ (cs : List UserCall). Leads Steps c s old (served_on new cs x) wished.0) (sym all) said)
