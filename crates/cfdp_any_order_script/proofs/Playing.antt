-- What came about at one of two stations, and calls that move no frame.
use Rattle.std.proofs.Common.{arith, ◌≡◌, ℕ, ◌-◌, ◌<◌, ◌↔◌, length, inl, inr, ap₂, List, ◌++◌, Bool, true, false, Option, None, Some, Result, refl, sym, subst, ap, ◌∙◌}
use Rattle.std.specs.Prelude.{IsSome, OnSome, remove, slice_get}
use Rattle.std.proofs.lemmas.Option.{slice_get_within}
use Rattle.station_pair.specs.declared.side.Side.{Side}
use Rattle.station_pair.specs.declared.side.Side.TheVariants.{One, Two}
use Rattle.any_order.specs.Calls.{Call, other}
use Rattle.any_order.specs.World.{Happened, ResumesBy, WorldKept, restart_calls, side_of}
use Rattle.any_order.specs.declared.answers.Restarted.{Restarted}
use Rattle.any_order.specs.declared.answers.Resumed.{Resumed}
use Rattle.std.specs.declared.alloc.AllocError.{AllocError}
use Rattle.aos_frame.specs.declared.config.Lane.{Lane}
use Rattle.aos_frame.specs.declared.config.Lane.TheVariants.{Directives, Data}
use Rattle.any_order.specs.Kept.{EndKept}
use Rattle.any_order.specs.declared.answers.SentFrame.{SentFrame}
use Rattle.any_order.specs.World.{octets_calls}
use Rattle.cfdp_any_order_script.specs.declared.answer.Answer.{Answer}
use Rattle.cfdp_any_order_script.specs.Links.{Frames, IsBehind, made_of, made_since}
use Rattle.cfdp_any_order_script.specs.Performing.{At, Calls, ComesDamaged, GoesOn, OnlyCalls, PartState, PlayState, Sends, StartsAnew, behind_damage, damage_answer, no_memory, part, resume_answer, start_answer}
use Rattle.cfdp_any_order_script.specs.Told.{AnswersNextLife, AnswersRestart, IsFrame, kept_of, opposite}

pub at_one : (s : Side) (Does : PartState → PartState → Type 0) (v old new : PlayState) → s ≡ One → v ≡ old → Does (part One v) (part One new) → new.two ≡ v.two → At s Does old new
at_one s Does v old new is same does others = subst (λ t. At t Does old new) (sym is) (subst (λ p. At One Does p new) same (record { does = does; others = others }))

pub at_two : (s : Side) (Does : PartState → PartState → Type 0) (v old new : PlayState) → s ≡ Two → v ≡ old → Does (part Two v) (part Two new) → new.one ≡ v.one → At s Does old new
at_two s Does v old new is same does others = subst (λ t. At t Does old new) (sym is) (subst (λ p. At Two Does p new) same (record { does = does; others = others }))

pub only_calls : (s : Side) (calls : List Call) (v old new : PlayState) → v ≡ old → Happened (side_of s) calls v.world new.world → new.one ≡ v.one → new.two ≡ v.two → OnlyCalls s calls old new
only_calls s calls v old new same happened one two = subst (λ p. OnlyCalls s calls p new) same (record { happened = happened; one = one; two = two })

-- a station that restarts
pub starts_anew : (s : Side) (answer : Option Answer) (result : Result Restarted AllocError) (first number : ℕ) (v old new : PlayState) → v ≡ old → answer ≡ start_answer result →
    Happened (side_of s) (restart_calls first number result) v.world new.world → AnswersRestart s first number result v.world new.world → new.one ≡ v.one → new.two ≡ v.two → StartsAnew s answer old new
starts_anew s answer result first number v old new same is happened why one two = subst (λ (p : PlayState). StartsAnew s answer p new) same
    (result, first, number, is, record { happened = happened; one = one; two = two }, why)

-- a station that resumes
pub goes_on : (s : Side) (answer : Option Answer) (result : Result Resumed AllocError) (first number : ℕ) (v old new : PlayState) → v ≡ old → answer ≡ resume_answer result →
    ResumesBy result (side_of s) first number v.world new.world → AnswersNextLife s first number result v.world new.world → new.one ≡ v.one → new.two ≡ v.two → GoesOn s answer old new
goes_on s answer result first number v old new same is by why one two = subst (λ (p : PlayState). GoesOn s answer p new) same (result, first, number, is, by, why, one, two)

pub other_side : (s : Side) → other (side_of s) ≡ side_of (opposite s)
other_side One = refl
other_side Two = refl

-- calls at the other station
pub others_calls : (s : Side) (calls : List Call) (behind : Frames) (old new : PartState) → Happened (other (side_of s)) calls old.world new.world → new.frames ≡ behind → Calls (opposite s) calls behind old new
others_calls s calls behind old new happened frames = record { happened = subst (λ t. Happened t calls old.world new.world) (other_side s) happened; frames = frames }

abbrev pub frames : List SentFrame → List SentFrame → Frames
frames waiting arrived = record { waiting = waiting; arrived = arrived }

abbrev pub parted : WorldKept → Frames → PartState
parted w f = record { world = w; frames = f }

-- ---- frames that were made
pub since : (old new : EndKept) (life first_directives directives first_data pdus : ℕ) → life ≡ length new.before → first_directives ≡ length old.latest.directives → directives ≡ length new.latest.directives →
    first_data ≡ length old.latest.file_data → pdus ≡ length new.latest.file_data →
    made_of life Directives first_directives (directives - first_directives) ++ made_of life Data first_data (pdus - first_data) ≡ made_since old new
since old new life first_directives directives first_data pdus a b c d e = cc

pub sends : (s : Side) (calls : List Call) (usually answer : Option Answer) (v w : WorldKept) (f : Frames) (made waiting arrived : List SentFrame) → answer ≡ usually → Happened (side_of s) calls v w →
    made ≡ made_since (kept_of s v) (kept_of s w) → waiting ≡ f.waiting ++ made → arrived ≡ f.arrived → Sends s calls usually answer (parted v f) (parted w (frames waiting arrived))
sends s calls usually answer v w f made waiting arrived same happened are waits stay =
    inl (same, record { happened = happened; frames = ap₂ frames (waits ∙ ap (λ (m : List SentFrame). f.waiting ++ m) are) stay })

pub sends_none : (s : Side) (calls : List Call) (usually answer : Option Answer) (v w : WorldKept) (f : Frames) (waiting arrived : List SentFrame) → answer ≡ Some no_memory → Happened (side_of s) calls v w →
    waiting ≡ f.waiting → arrived ≡ f.arrived → Sends s calls usually answer (parted v f) (parted w (frames waiting arrived))
sends_none s calls usually answer v w f waiting arrived same happened waits stay = inr (same, record { happened = happened; frames = ap₂ frames waits stay })

-- ---- a frame that must come damaged
pub comes_damaged : (changed : List ℕ → List ℕ) (s : Side) (lane : Option Lane) (place : ℕ) (frame : SentFrame) (octets : List ℕ) (taken : Bool) (answer : Option Answer) (v w : WorldKept) (f g : Frames) →
    IsBehind lane 0 f.waiting place frame → IsFrame frame octets (kept_of s v) → answer ≡ damage_answer taken → Happened (other (side_of s)) (octets_calls (changed octets) taken) v w → g ≡ behind_damage taken place f →
    ComesDamaged changed s lane answer (parted v f) (parted w g)
comes_damaged changed s lane place frame octets taken answer v w f g there is same happened are =
    inr (inr (inr (place, frame, octets, taken, there, is, same, others_calls s (octets_calls (changed octets) taken) (behind_damage taken place f) (parted v f) (parted w g) happened are)))

-- a frame that stands there is removed
pub removed : (xs ys : List SentFrame) (place count : ℕ) (frame : SentFrame) (r : Option SentFrame) → slice_get xs place ≡ Some frame → count ≡ length xs → IsSome r ↔ (place < count) → OnSome r (ys ≡ remove xs place) → ys ≡ remove xs place
removed xs ys place count frame (Some x) there all is then = then
removed xs ys place count frame None there all is then =
    let within : place < count = omega (arith, slice_get_within xs place frame there, all) in
    let some : false ≡ true = is.1 within in
    cc
