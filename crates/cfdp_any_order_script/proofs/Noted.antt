-- What was noted of the lives before, as more is called.
use Rattle.std.proofs.Common.{◌≡◌, ℕ, ◌+◌, List, [], ◌∷◌, ◌++◌, Bool, true, false, Result, Ok, Err, drop, length, refl, sym, ap, subst, ◌∙◌, inl, inr}
use Rattle.std.specs.Prelude.{◌≤◌, ◌^◌, MatchOption, Option, Some, None, count_by, slice_get, unwrap_or}
use Rattle.std.specs.List.{flat_map}
use Rattle.std.specs.declared.alloc.AllocError.{AllocError}
use Rattle.std.proofs.lemmas.Grind.{flat_map-append}
use Rattle.std.proofs.lemmas.List.Sums.{sum_by-append}
use Rattle.std.proofs.lemmas.List.{length-append}
use Rattle.cfdp_entity.specs.Entity.{EntityState}
use Rattle.cfdp_entity.specs.declared.error.PutError.{PutError}
use Rattle.cfdp_entity.specs.declared.error.RequestError.{RequestError}
use Rattle.cfdp_entity.specs.declared.request.Request.{Request}
use Rattle.cfdp_header.specs.Files.{FileMap}
use Rattle.cfdp_header.specs.declared.value.TransactionId.{TransactionId}
use Rattle.cfdp_station.specs.declared.config.StationConfig.{StationConfig}
use Rattle.cfdp_station.specs.declared.polled.Polled.{Polled}
use Rattle.station_pair.specs.declared.side.Side.TheVariants as sides
use Rattle.station_pair.specs.declared.world_config.WorldConfig.{WorldConfig}
use Rattle.any_order.specs.Calls.{Call, One, Restarts, Two, Side, other}
use Rattle.any_order.specs.Kept.{EndKept, IsNewKept, LifeKept, MadeFrame, all_kept, gives}
use Rattle.any_order.specs.Onward.{AreNoStarts, BeginsAnew, GoesOn, GoesOnInNewLife}
use Rattle.any_order.specs.Refusing.{AnswersStart}
use Rattle.any_order.specs.World.{ArePollCalls, AreFlushCalls, Happened, HasResumed, IsNewWorld, ResumesBy, WorldKept, deliver_calls, kept_at, octets_calls, put_calls, request_calls, restart_calls, side_of, sources_at, tick_calls}
use Rattle.any_order.specs.declared.answers.Delivered.{Delivered}
use Rattle.any_order.specs.declared.answers.Delivered.TheVariants as delivered
use Rattle.any_order.specs.declared.answers.Restarted.{Restarted}
use Rattle.any_order.specs.declared.answers.Restarted.TheVariants as restarted
use Rattle.any_order.specs.declared.answers.Resumed.{Resumed}
use Rattle.any_order.specs.declared.answers.Resumed.TheVariants as resumed
use Rattle.any_order.specs.declared.answers.SentFrame.{SentFrame}
use Rattle.cfdp_report.specs.Report.Lines.{indication_line, is_own_completion}
use Rattle.cfdp_script.specs.Script.Outboxes.{outbox_of}
use Rattle.cfdp_script.specs.declared.script.command.FileLine.{FileLine}
use Rattle.cfdp_any_order_script.specs.Told.{GoesOnward, HasSources, IsNextFirst, IsNoted, Resumes, Starts, next_first}

-- ---- calls that are no starts
pub put_no : (source destination : List ℕ) (result : Result TransactionId PutError) → AreNoStarts (put_calls source destination result)
put_no source destination (Ok id) = (tt, tt)
put_no source destination (Err error) = (tt, tt)

pub request_no : (id : TransactionId) (request : Request) (result : Result (Unit {0}) RequestError) → AreNoStarts (request_calls id request result)
request_no id request (Ok done) = (tt, tt)
request_no id request (Err error) = (tt, tt)

pub tick_no : (now : ℕ) (result : Result (Unit {0}) AllocError) → AreNoStarts (tick_calls now result)
tick_no now (Ok done) = (tt, tt)
tick_no now (Err error) = (tt, tt)

pub gives_no : (made : List MadeFrame) → AreNoStarts (gives made)
gives_no [] = tt
gives_no (m ∷ made) = (tt, gives_no made)

pub poll_no : (result : Result Polled AllocError) (calls : List Call) → ArePollCalls result calls → AreNoStarts calls
poll_no (Ok answer) calls (made, same) = subst AreNoStarts (sym same) (tt, gives_no made)
poll_no (Err error) calls (inl same) = subst AreNoStarts (sym same) (tt, tt)
poll_no (Err error) calls (inr (answer, made, same)) = subst AreNoStarts (sym same) (tt, gives_no made)

pub flush_no : (calls : List Call) → AreFlushCalls calls → AreNoStarts calls
flush_no calls (made, same) = subst AreNoStarts (sym same) (tt, (tt, gives_no made))

pub deliver_no : (f : SentFrame) (by : Delivered) → AreNoStarts (deliver_calls f by)
deliver_no f delivered.Taken = (tt, tt)
deliver_no f delivered.NoSuchFrame = tt
deliver_no f delivered.TooFar = tt

pub octets_no : (octets : List ℕ) (taken : Bool) → AreNoStarts (octets_calls octets taken)
octets_no octets true = (tt, tt)
octets_no octets false = tt

-- ---- what is noted
pub noted_on : (station lives : ℕ) (told : List ℕ) (completed : ℕ) (k l : EndKept) → GoesOn k l → IsNoted station lives told completed k → IsNoted station lives told completed l
noted_on station lives told completed k l g n = record {
  lives = n.lives ∙ ap length (sym g.before);
  told = n.told ∙ ap (flat_map (indication_line station)) (sym g.told_before);
  completed = n.completed ∙ ap (count_by (is_own_completion station)) (sym g.told_before);
  none_gone = g.gone ∙ n.none_gone;
}

pub sources_on : (files : List FileLine) (v w : WorldKept) → ((s : Side) → sources_at s w ≡ sources_at s v) → HasSources files v → HasSources files w
sources_on files v w same has s = same (side_of s) ∙ has s

abbrev pub AllNoted : (files : List FileLine) (a : ℕ) (b : List ℕ) (c : ℕ) (d : ℕ) (e : List ℕ) (f : ℕ) → WorldKept → Type 0
AllNoted files a b c d e f w = IsNoted 1 a b c w.one × IsNoted 2 d e f w.two × HasSources files w

pub all_on : (files : List FileLine) (a : ℕ) (b : List ℕ) (c : ℕ) (d : ℕ) (e : List ℕ) (f : ℕ) (v w : WorldKept) → GoesOnward v w → AllNoted files a b c d e f v → AllNoted files a b c d e f w
all_on files a b c d e f v w g n = (noted_on 1 a b c v.one w.one (g.0 One) n.0, noted_on 2 d e f v.two w.two (g.0 Two) n.1, sources_on files v w g.1 n.2)

-- a station that restarts
pub noted_anew : (station lives : ℕ) (told now : List ℕ) (completed count : ℕ) (k l : EndKept) → BeginsAnew k l → IsNoted station lives told completed k →
    now ≡ flat_map (indication_line station) k.station.entity.state.table.told → count ≡ completed + count_by (is_own_completion station) k.station.entity.state.table.told →
    IsNoted station (lives + 1) (told ++ now) count l
noted_anew station lives told now completed count k l b n t c =
    let before : length k.before + 1 ≡ length (all_kept k) = sym (length-append k.before (k.latest ∷ [])) in
    let line = indication_line station in
    let own = is_own_completion station in
    record {
      lives = ap (λ (x : ℕ). x + 1) n.lives ∙ (before ∙ ap length (sym b.before));
      told = ap (λ (x : List ℕ). x ++ now) n.told ∙ (ap (λ (x : List ℕ). flat_map line k.told_before ++ x) t
          ∙ (sym (flat_map-append line k.told_before k.station.entity.state.table.told) ∙ ap (flat_map line) (sym b.told_before)));
      completed = c ∙ (ap (λ (x : ℕ). x + count_by own k.station.entity.state.table.told) n.completed
          ∙ (sym (sum_by-append _ k.told_before k.station.entity.state.table.told) ∙ ap (count_by own) (sym b.told_before)));
      none_gone = b.gone;
    }

-- a station that is new
pub noted_new : (station number : ℕ) (lines : List ℕ) (complete : ℕ) (c : StationConfig) (sources files : FileMap) (k : EndKept) → IsNewKept c sources files k → number ≡ 0 → lines ≡ [] → complete ≡ 0 →
    IsNoted station number lines complete k
noted_new station number lines complete c sources files k new n l o = record {
  lives = n ∙ ap length (sym new.before);
  told = l ∙ ap (flat_map (indication_line station)) (sym new.told_before);
  completed = o ∙ ap (count_by (is_own_completion station)) (sym new.told_before);
  none_gone = ap (λ (e : EntityState). e.table.gone) new.entity;
}

pub sources_new : (c : WorldConfig) (files : List FileLine) (a b : FileMap) (inboxes : FileMap × FileMap) (w : WorldKept) → IsNewWorld c (a, b) inboxes w → a ≡ outbox_of sides.One files → b ≡ outbox_of sides.Two files →
    HasSources files w
sources_new c files a b inboxes w new one two sides.One = ap (λ (e : EntityState). e.table.sources) new.one.entity ∙ one
sources_new c files a b inboxes w new one two sides.Two = ap (λ (e : EntityState). e.table.sources) new.two.entity ∙ two

-- the same noted
pub noted_as : (station a : ℕ) (b : List ℕ) (c : ℕ) (d : ℕ) (e : List ℕ) (f : ℕ) (k : EndKept) → d ≡ a → e ≡ b → f ≡ c → IsNoted station a b c k → IsNoted station d e f k
noted_as station a b c d e f k p q r n = record { lives = p ∙ n.lives; told = q ∙ n.told; completed = r ∙ n.completed; none_gone = n.none_gone }

-- ---- a start that may be refused
abbrev pub ShowsStart : WorldKept → Type 0
ShowsStart v = (s : Side) (first number : ℕ) (new : WorldKept) → Happened s (Restarts first number ∷ []) v new → Starts s v new

-- what stays
pub record StaysThrough (s : Side) (old new : WorldKept) : Type 0 where
  pub other : GoesOn (kept_at (other s) old) (kept_at (other s) new)
  pub sources : (t : Side) → sources_at t new ≡ sources_at t old

pub stays_same : (s : Side) (v w : WorldKept) → w ≡ v → StaysThrough s v w
stays_same s v w same = subst (λ (x : WorldKept). StaysThrough s v x) (sym same) (record { other = record { before = refl; told_before = refl; gone = refl }; sources = λ t. refl })

pub stays_through : (s : Side) (first number : ℕ) (answer : Restarted) (v w : WorldKept) → ShowsStart v → Happened s (restart_calls first number (Ok answer)) v w →
    AnswersStart first number (Ok answer) (kept_at s v) (w ≡ v) → StaysThrough s v w
stays_through s first number restarted.Done v w shows h is = let starts = shows s first number w h in record { other = starts.1; sources = starts.2 }
stays_through s first number restarted.NumberUsed v w shows h is = stays_same s v w is.1
stays_through s first number restarted.FrameUsed v w shows h is = stays_same s v w is.2

pub started : (s : Side) (first number : ℕ) (answer : Restarted) (v w : WorldKept) → ShowsStart v → Happened s (restart_calls first number (Ok answer)) v w → answer ≡ restarted.Done →
    BeginsAnew (kept_at s v) (kept_at s w)
started s first number answer v w shows h done = (shows s first number w (subst (λ (a : Restarted). Happened s (restart_calls first number (Ok a)) v w) done h)).0

pub not_started : (first number : ℕ) (answer : Restarted) (k : EndKept) (unchanged : Type 0) → AnswersStart first number (Ok answer) k unchanged → (answer ≡ restarted.Done → ⊥) → unchanged
not_started first number restarted.Done k unchanged is not = absurd (not refl)
not_started first number restarted.NumberUsed k unchanged is not = is.1
not_started first number restarted.FrameUsed k unchanged is not = is.2

-- ---- a station that resumes
abbrev pub ShowsResume : WorldKept → Type 0
ShowsResume v = (s : Side) (first number : ℕ) (new : WorldKept) → HasResumed s first number v new → Resumes s v new

pub noted_resumed : (station lives : ℕ) (told : List ℕ) (completed : ℕ) (k l : EndKept) → GoesOnInNewLife k l → IsNoted station lives told completed k → IsNoted station (lives + 1) told completed l
noted_resumed station lives told completed k l g n =
    let before : length k.before + 1 ≡ length (all_kept k) = sym (length-append k.before (k.latest ∷ [])) in
    record {
      lives = ap (λ (x : ℕ). x + 1) n.lives ∙ (before ∙ ap length (sym g.before));
      told = n.told ∙ ap (flat_map (indication_line station)) (sym g.told_before);
      completed = n.completed ∙ ap (count_by (is_own_completion station)) (sym g.told_before);
      none_gone = g.gone ∙ n.none_gone;
    }

pub resumed_through : (s : Side) (first number : ℕ) (v w : WorldKept) → ShowsResume v → HasResumed s first number v w → StaysThrough s v w
resumed_through s first number v w shows h = let resumes = shows s first number w h in record { other = resumes.1.0; sources = resumes.1.1 }

pub not_resumed : (s : Side) (first number : ℕ) (answer : Resumed) (v w : WorldKept) → ResumesBy (Ok answer) s first number v w → (answer ≡ resumed.Done → ⊥) → w ≡ v
not_resumed s first number resumed.Done v w by not = absurd (not refl)
not_resumed s first number resumed.NumberUsed v w by not = by
not_resumed s first number resumed.FrameUsed v w by not = by
not_resumed s first number (resumed.NotRestored why) v w by not = by

-- ---- what is indicated of all lives
pub all_lines : (station lives : ℕ) (told : List ℕ) (completed : ℕ) (k : EndKept) → IsNoted station lives told completed k → flat_map (indication_line station) (k.told_before ++ k.station.entity.state.table.told)
    ≡ told ++ flat_map (indication_line station) (drop k.station.entity.state.table.gone k.station.entity.state.table.told)
all_lines station lives told completed k n =
    let line = indication_line station in
    let now = k.station.entity.state.table.told in
    flat_map-append line k.told_before now ∙ (ap (λ (x : List ℕ). x ++ flat_map line now) (sym n.told) ∙ ap (λ (x : ℕ). told ++ flat_map line (drop x now)) (sym n.none_gone))

pub all_complete : (station lives : ℕ) (told : List ℕ) (completed : ℕ) (k : EndKept) → IsNoted station lives told completed k → count_by (is_own_completion station) (k.told_before ++ k.station.entity.state.table.told)
    ≡ completed + count_by (is_own_completion station) (drop k.station.entity.state.table.gone k.station.entity.state.table.told)
all_complete station lives told completed k n =
    let own = is_own_completion station in
    let now = k.station.entity.state.table.told in
    sum_by-append _ k.told_before now ∙ (ap (λ (x : ℕ). x + count_by own now) (sym n.completed) ∙ ap (λ (x : ℕ). completed + count_by own (drop x now)) (sym n.none_gone))

-- ---- when nothing was called
pub happened_none : (s : Side) (w : WorldKept) → Happened s [] w w
happened_none s w = record { same = refl; follow = λ before is. (before, refl, is) }

pub goes_none : (k : EndKept) → GoesOn k k
goes_none k = record { before = refl; told_before = refl; gone = refl }

-- ---- the first frame of another life
pub latest_there : (before : List LifeKept) (latest l : LifeKept)
    → slice_get (before ++ latest ∷ []) (length before) ≡ Some l → l ≡ latest
latest_there [] latest l is = cc
latest_there (x ∷ xs) latest l is = latest_there xs latest l is

pub next_first_is : (k : EndKept) (o : Option ℕ) (first : ℕ) → MatchOption o (2 ^ 32 ≤ next_first k) (λ n. n ≡ next_first k)
    → first ≡ unwrap_or o 0 → IsNextFirst first k
next_first_is k None first most is = inr (most, is)
next_first_is k (Some n) first same is = inl (is ∙ same)
