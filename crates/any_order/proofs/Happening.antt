-- Calls at one of two stations are calls in the world of both.
use Rattle.std.proofs.Common.{◌≡◌, ℕ, List, [], ◌∷◌, ◌++◌, Result, Ok, Err, map, refl, sym, ap, ap₂, subst, ◌∙◌}
use Rattle.std.specs.declared.alloc.AllocError.{AllocError}
use Rattle.cfdp_header.specs.Files.{FileMap}
use Rattle.cfdp_directives.specs.User.Put as user
use Rattle.any_order.specs.Calls.{AreJoined, Call, Event, End, Happen, IsNew, One, Two, Pair, Setup, Side, at, other, setup_of, lives}
use Rattle.any_order.specs.Kept.{DoesCalls, EndKept, HasTaken, IsOf, Makes}
use Rattle.any_order.specs.declared.answers.Resumed.{Resumed}
use Rattle.any_order.specs.declared.answers.Resumed.TheVariants as resumed
use Rattle.any_order.specs.Refusing.{AnswersResume}
use Rattle.any_order.specs.Resuming.{Calls, HappenOrResume, LifeEvent, ResumesAt}
use Rattle.any_order.specs.World.{Happened, HasResumed, HasRun, IsPairOf, ResumesBy, WorldKept, calls_at, first_at, kept_at, setup, with_kept}
use Rattle.station_pair.specs.declared.world_config.WorldConfig.{WorldConfig}
use Rattle.any_order.proofs.Keeping.{calls_grow, taken_grown}
use Rattle.any_order.proofs.Lives.{Grow}

happen_one : (calls : List Call) (c : Setup) (mine theirs after : End) (p q : List user.Put) → DoesCalls calls c.one mine theirs after p q →
    Happen c (calls_at One calls) (record { one = mine; two = theirs; puts = p }) (record { one = after; two = theirs; puts = q })
happen_one [] c mine theirs after p q (same, none) = ap₂ (λ (e : End) (l : List user.Put). record { one = e; two = theirs; puts = l }) same none
happen_one (call ∷ calls) c mine theirs after p q (mid, puts, one, rest) =
    (record { one = mid; two = theirs; puts = puts }, (one, refl), happen_one calls c mid theirs after puts q rest)

happen_two : (calls : List Call) (c : Setup) (mine theirs after : End) (p q : List user.Put) → DoesCalls calls c.two mine theirs after p q →
    Happen c (calls_at Two calls) (record { one = theirs; two = mine; puts = p }) (record { one = theirs; two = after; puts = q })
happen_two [] c mine theirs after p q (same, none) = ap₂ (λ (e : End) (l : List user.Put). record { one = theirs; two = e; puts = l }) same none
happen_two (call ∷ calls) c mine theirs after p q (mid, puts, one, rest) =
    (record { one = theirs; two = mid; puts = puts }, (one, refl), happen_two calls c mid theirs after puts q rest)

first_so : (calls : List Call) (old : WorldKept) (n : EndKept) (q : List user.Put) → Makes calls old.config.one old.one old.two n old.puts q → Happened One calls old (record old { one = n; puts = q })
first_so calls old n q makes = record { same = refl; follow = follow }
  where
    follow : (before : Pair) → IsPairOf old before → (after : Pair) × Happen (setup old.config) (calls_at One calls) before after × IsPairOf (record old { one = n; puts = q }) after
    follow before is =
        let m = makes.follow before.one before.two (is.of One) (is.of Two) (is.taken One) in
        let does : DoesCalls calls old.config.one before.one before.two m.0 before.puts q = subst (λ (l : List user.Put). DoesCalls calls old.config.one before.one before.two m.0 l q) (sym is.puts) m.1 in
        let grow : Grow (lives before.one) (lives m.0) = calls_grow calls old.config.one before.one before.two m.0 before.puts q does in (
          record { one = m.0; two = before.two; puts = q },
          happen_one calls (setup old.config) before.one before.two m.0 before.puts q does,
          record {
            of = λ (s : Side). each_of m.0 m.2 s;
            taken = λ (s : Side). each_taken m.0 m.3 grow s;
            puts = refl;
          },
        )
      where
        each_of : (e : End) → IsOf n e → (s : Side) → IsOf (kept_at s (record old { one = n; puts = q })) (at s (record { one = e; two = before.two; puts = q }))
        each_of e k One = k
        each_of e k Two = is.of Two

        each_taken : (e : End) → HasTaken old.config.one.receives n e before.two → Grow (lives before.one) (lives e) → (s : Side) →
            HasTaken (setup_of s (setup old.config)).receives (kept_at s (record old { one = n; puts = q })) (at s (record { one = e; two = before.two; puts = q }))
            (at (other s) (record { one = e; two = before.two; puts = q }))
        each_taken e t grow One = t
        each_taken e t grow Two = taken_grown old.config.two.receives old.two before.two before.one e grow (is.taken Two)

second_so : (calls : List Call) (old : WorldKept) (n : EndKept) (q : List user.Put) → Makes calls old.config.two old.two old.one n old.puts q → Happened Two calls old (record old { two = n; puts = q })
second_so calls old n q makes = record { same = refl; follow = follow }
  where
    follow : (before : Pair) → IsPairOf old before → (after : Pair) × Happen (setup old.config) (calls_at Two calls) before after × IsPairOf (record old { two = n; puts = q }) after
    follow before is =
        let m = makes.follow before.two before.one (is.of Two) (is.of One) (is.taken Two) in
        let does : DoesCalls calls old.config.two before.two before.one m.0 before.puts q = subst (λ (l : List user.Put). DoesCalls calls old.config.two before.two before.one m.0 l q) (sym is.puts) m.1 in
        let grow : Grow (lives before.two) (lives m.0) = calls_grow calls old.config.two before.two before.one m.0 before.puts q does in (
          record { one = before.one; two = m.0; puts = q },
          happen_two calls (setup old.config) before.two before.one m.0 before.puts q does,
          record {
            of = λ (s : Side). each_of m.0 m.2 s;
            taken = λ (s : Side). each_taken m.0 m.3 grow s;
            puts = refl;
          },
        )
      where
        each_of : (e : End) → IsOf n e → (s : Side) → IsOf (kept_at s (record old { two = n; puts = q })) (at s (record { one = before.one; two = e; puts = q }))
        each_of e k One = is.of One
        each_of e k Two = k

        each_taken : (e : End) → HasTaken old.config.two.receives n e before.one → Grow (lives before.two) (lives e) → (s : Side) →
            HasTaken (setup_of s (setup old.config)).receives (kept_at s (record old { two = n; puts = q })) (at s (record { one = before.one; two = e; puts = q }))
            (at (other s) (record { one = before.one; two = e; puts = q }))
        each_taken e t grow One = taken_grown old.config.one.receives old.one before.one before.two e grow (is.taken One)
        each_taken e t grow Two = t

pub happened_one : (calls : List Call) (old new : WorldKept) → new ≡ record old { one = new.one; puts = new.puts } → Makes calls old.config.one old.one old.two new.one old.puts new.puts → Happened One calls old new
happened_one calls old new same makes = subst (λ (w : WorldKept). Happened One calls old w) (sym same) (first_so calls old new.one new.puts makes)

pub happened_two : (calls : List Call) (old new : WorldKept) → new ≡ record old { two = new.two; puts = new.puts } → Makes calls old.config.two old.two old.one new.two old.puts new.puts → Happened Two calls old new
happened_two calls old new same makes = subst (λ (w : WorldKept). Happened Two calls old w) (sym same) (second_so calls old new.two new.puts makes)

-- ---- from the beginning
happen_both : (c : Setup) (a b : List LifeEvent) (x y z : Pair) → HappenOrResume c a x y → HappenOrResume c b y z → HappenOrResume c (a ++ b) x z
happen_both c [] b x y z same rest = subst (λ (w : Pair). HappenOrResume c b w z) same rest
happen_both c (event ∷ a) b x y z (mid, one, more) rest = (mid, one, happen_both c a b mid y z more rest)

-- calls alone
pub only_calls : (c : Setup) (events : List Event) (x y : Pair) → Happen c events x y → HappenOrResume c (map Calls events) x y
only_calls c [] x y same = same
only_calls c (event ∷ events) x y (mid, one, rest) = (mid, one, only_calls c events mid y rest)

-- More happened since, and the first files are the same.
runs_more : (old new : WorldKept) (events : List LifeEvent) (run : HasRun old) (after : Pair) → new.config ≡ old.config → ((t : Side) → first_at t new ≡ first_at t old) →
    HappenOrResume (setup old.config) events run.now after → IsPairOf new after → HasRun new
runs_more old new events run after config firsts happen is = record {
  joined = subst (λ (k : WorldConfig). AreJoined (setup k)) (sym config) run.joined;
  counts = run.counts;
  sources = run.sources;
  start = run.start;
  begun = λ (t : Side). subst (λ (k : WorldConfig). IsNew (setup_of t (setup k)) (run.counts t) (run.sources t) (first_at t new) (at t run.start)) (sym config)
      (subst (λ (f : FileMap). IsNew (setup_of t (setup old.config)) (run.counts t) (run.sources t) f (at t run.start)) (sym (firsts t)) (run.begun t));
  none = run.none;
  events = run.events ++ events;
  now = after;
  happen = subst (λ (k : WorldConfig). HappenOrResume (setup k) (run.events ++ events) run.start after) (sym config)
      (happen_both (setup old.config) run.events events run.start run.now after run.happen happen);
  is = is;
}

pub runs_on : (s : Side) (calls : List Call) (old new : WorldKept) → Happened s calls old new → HasRun old → HasRun new
runs_on s calls old new h run =
    let next = h.follow run.now run.is in
    runs_more old new (map Calls (calls_at s calls)) run next.0 (ap (λ (w : WorldKept). w.config) h.same) firsts
    (only_calls (setup old.config) (calls_at s calls) run.now next.0 next.1) next.2
  where
    firsts : (t : Side) → first_at t new ≡ first_at t old
    firsts One = ap (λ (w : WorldKept). w.first_one) h.same
    firsts Two = ap (λ (w : WorldKept). w.first_two) h.same

-- ---- a station that resumed
resumed_config : (s : Side) (k : EndKept) (w : WorldKept) → (with_kept s k w).config ≡ w.config
resumed_config One k w = refl
resumed_config Two k w = refl

resumed_first : (s t : Side) (k : EndKept) (w : WorldKept) → first_at t (with_kept s k w) ≡ first_at t w
resumed_first One One k w = refl
resumed_first One Two k w = refl
resumed_first Two One k w = refl
resumed_first Two Two k w = refl

pub runs_resumed : (s : Side) (first number : ℕ) (old new : WorldKept) → HasResumed s first number old new → HasRun old → HasRun new
runs_resumed s first number old new h run =
    let next = h.follow run.now run.is in
    runs_more old new (ResumesAt s first ∷ []) run next.0
    (ap (λ (w : WorldKept). w.config) h.resumes.same ∙ resumed_config s (kept_at s new) old)
    (λ (t : Side). ap (λ (w : WorldKept). first_at t w) h.resumes.same ∙ resumed_first s t (kept_at s new) old)
    (next.0, next.1, refl) next.2

-- whatever a call answered that should make a station resume
pub resumes_by : (s : Side) (first number : ℕ) (result : Result Resumed AllocError) (old new : WorldKept) → (result ≡ Ok resumed.Done → HasResumed s first number old new) →
    AnswersResume first number result (kept_at s old) (new ≡ old) → ResumesBy result s first number old new
resumes_by s first number (Ok resumed.Done) old new done answers = done refl
resumes_by s first number (Ok resumed.NumberUsed) old new done answers = answers.1
resumes_by s first number (Ok resumed.FrameUsed) old new done answers = answers.2
resumes_by s first number (Ok (resumed.NotRestored by)) old new done answers = answers.1
resumes_by s first number (Err error) old new done answers = answers

pub runs_by : (s : Side) (first number : ℕ) (result : Result Resumed AllocError) (old new : WorldKept) → ResumesBy result s first number old new → HasRun old → HasRun new
runs_by s first number (Ok resumed.Done) old new by run = runs_resumed s first number old new by run
runs_by s first number (Ok resumed.NumberUsed) old new by run = subst HasRun (sym by) run
runs_by s first number (Ok resumed.FrameUsed) old new by run = subst HasRun (sym by) run
runs_by s first number (Ok (resumed.NotRestored why)) old new by run = subst HasRun (sym by) run
runs_by s first number (Err error) old new by run = subst HasRun (sym by) run
