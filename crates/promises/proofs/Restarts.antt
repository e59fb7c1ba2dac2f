-- Stations that only restart are a case of stations that restart or resume.
use Rattle.std.proofs.Common.{◌≡◌, ℕ, zero, suc, [], refl, ap}
use Rattle.cfdp_header.specs.Files.{FileMap}
use Rattle.cfdp_station.specs.Transmitting.{Times}
use Rattle.any_order.specs.Calls.{One, Two, Setup, Side, other, setup_of}
use Rattle.cfdp_port.specs.Calls.{WireCall}
use Rattle.promises.specs.Serving.{Deed, DoesDeed, Goes, HaveServed, LetsGo, Says, Served, Starts, Stations, Stops, Tells, Turns, Wishes, served_at}
use Rattle.promises.specs.Resuming.{BeganAs, BothLives, Does, GoesOrResumes, HaveServedOrResumed, ServiceLife, life_of}

-- a life that a start began
abbrev life_with : Served → ServiceLife
life_with s = record { served = s; back = []; again = [] }

abbrev pub lives_with : Stations → BothLives
lives_with w = record { one = life_with w.one; two = life_with w.two; puts = w.puts }

began_with : (deed : Deed) (old new : Served) → BeganAs deed (life_with old) (life_with new)
began_with (Wishes wish reply) old new = (refl, refl)
began_with (Says call) old new = (refl, refl)
began_with Tells old new = (refl, refl)
began_with LetsGo old new = (refl, refl)
began_with Turns old new = (refl, refl)
began_with Stops old new = (refl, refl)
began_with (Starts first number) old new = (refl, refl)

module _ {W : Type 0} (Steps : W → WireCall → W → Type 0) (c : Setup) where
  goes_with : (s : Side) (deed : Deed) (old new : Stations) → DoesDeed Steps deed (setup_of s c) (served_at (other s) old).kept (served_at s old) (served_at s new) old.puts new.puts →
      served_at (other s) new ≡ served_at (other s) old → GoesOrResumes Steps c (lives_with old) (lives_with new)
  goes_with One deed old new does others = record { side = One; event = Does deed; does = (does, began_with deed old.one new.one); others = ap life_with others }
  goes_with Two deed old new does others = record { side = Two; event = Does deed; does = (does, began_with deed old.two new.two); others = ap life_with others }

  went_with : (count : ℕ) (old new : Stations) → Times (Goes Steps c) count old new → Times (GoesOrResumes Steps c) count (lives_with old) (lives_with new)
  went_with zero old new same = ap lives_with same
  went_with (suc count) old new (mid, before, goes) = (lives_with mid, went_with count old mid before, goes_with goes.side goes.deed mid new goes.does goes.others)

  none_at : (s : Side) (w : Stations) → ((life_of s (lives_with w)).back ≡ []) × ((life_of s (lives_with w)).again ≡ [])
  none_at One w = (refl, refl)
  none_at Two w = (refl, refl)

  pub served_with : (files : Side → FileMap) (now : Stations) → HaveServed Steps c files now → HaveServedOrResumed Steps c files (lives_with now)
  served_with files now s = record {
    counts = s.counts;
    sources = s.sources;
    first = lives_with s.first;
    begins = s.begins;
    none_back = λ r. (none_at r s.first).0;
    none_again = λ r. (none_at r s.first).1;
    count = s.count;
    went = went_with s.count s.first now s.went;
  }
