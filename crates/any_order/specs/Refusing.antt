-- When a station over such a link refuses a call, takes no frame or octets, and can't restart.
use Rattle.std.specs.Prelude.{◌≡◌, ◌≢◌, ◌⊎◌, ◌+◌, ◌<◌, ◌≤◌, ◌^◌, ℕ, List, Option, Some, None, length}
use Rattle.std.specs.Prelude.{Bool, true, false, Result, Ok, Err, IfSome, IsSomeAnd, slice_get}
use Rattle.std.specs.Prelude.{max}
use Rattle.std.specs.declared.alloc.AllocError.{AllocError}
use Rattle.aos_frame.specs.Frame.{frame_fault, lane_channel}
use Rattle.aos_frame.specs.declared.config.ChannelConfig.{ChannelConfig}
use Rattle.aos_frame.specs.declared.config.Lane.{Lane}
use Rattle.aos_frame.specs.declared.config.LinkConfig.{LinkConfig}
use Rattle.mpdu.specs.MpduHeader.{pointer_of}
use Rattle.link_stack.specs.AnyOrder.{IsStray, IsWithinCounts}
use Rattle.link_stack.specs.Frames.{mpdu_in}
use Rattle.cfdp_header.specs.declared.value.TransactionId.{TransactionId}
use Rattle.cfdp_timers.specs.Due.{due_count}
use Rattle.cfdp_entity.specs.declared.error.PutError.{PutError}
use Rattle.cfdp_entity.specs.declared.error.PutError.TheVariants.{NoMemory}
use Rattle.cfdp_entity.specs.declared.error.RequestError.{RequestError}
use Rattle.cfdp_entity.specs.declared.request.Request.{Request}
use Rattle.cfdp_entity.specs.Putting.{IsPutRefusal, put_refusal, stored_by_error}
use Rattle.cfdp_entity.specs.Refusing.{IsRefusal}
use Rattle.cfdp_entity.specs.Requests.{request_refusal}
use Rattle.any_order.specs.declared.answers.Delivered.{Delivered}
use Rattle.any_order.specs.declared.answers.Delivered.TheVariants as delivered
use Rattle.any_order.specs.declared.answers.Restarted.{Restarted}
use Rattle.any_order.specs.declared.answers.Restarted.TheVariants as restarted
use Rattle.any_order.specs.declared.answers.Resumed.{Resumed}
use Rattle.any_order.specs.declared.answers.Resumed.TheVariants as resumed
use Rattle.any_order.specs.declared.answers.SentFrame.{SentFrame}
use Rattle.any_order.specs.Kept.{EndKept, LifeKept, all_kept, frames_in, last_at}

-- ---- a put, a request, the time
-- A put of these names was refused by this cause: the first one that holds at the station; or there
-- was no memory, be it to keep the names.
abbrev pub RefusesPut : PutError → (source destination : List ℕ) → EndKept → Type 0
RefusesPut by source destination k = (by ≡ NoMemory)
    ⊎ IsPutRefusal (put_refusal (stored_by_error by) source destination
    k.station.entity.state) by

-- A request of a transaction was refused by this cause, the first one that holds.
abbrev pub RefusesRequest : RequestError → Request → TransactionId → EndKept → Type 0
RefusesRequest by request id k =
    IsRefusal (request_refusal request id k.station.entity.state.table) by

-- Memory can only run out for the time if a timer's deadline has come.
abbrev pub HasDue : (now : ℕ) → EndKept → Type 0
HasDue now k = 1 ≤ due_count k.station.entity.state.table.armed
    (max k.station.entity.state.table.now now)

-- ---- a frame that a call should deliver
-- The station has no such life, or made fewer frames of the lane in it.
abbrev pub HasNoFrame : SentFrame → EndKept → Type 0
HasNoFrame f k = (length k.before < f.life)
    ⊎ ((l : LifeKept) × (slice_get (all_kept k) f.life ≡ Some l)
    × (length (frames_in f.lane l) ≤ f.place))

-- The station made it, in this life.
abbrev pub MadeIn : SentFrame → LifeKept → EndKept → Type 0
MadeIn f l k = (slice_get (all_kept k) f.life ≡ Some l) × (f.place < length (frames_in f.lane l))

-- its number
abbrev pub number_in : SentFrame → LifeKept → ℕ
number_in f l = l.first + f.place

-- Such a number is so near the one before it that the counts of 28 bits distinguish both.
abbrev pub IsNearLast : (last : Option ℕ) → ℕ → Type 0
IsNearLast last number = IfSome last (λ before. IsWithinCounts true before number)

-- There is one before it that it is too far from: it is greater by more than 2^28, or smaller by
-- 2^28 - 1 or more.
abbrev pub IsFarFromLast : (last : Option ℕ) → ℕ → Type 0
IsFarFromLast last number = IsSomeAnd last (λ before. (before + 2 ^ 28 < number)
    ⊎ (number + 2 ^ 28 ≤ before + 1))

-- One station made it, and its number is near the number of the frame of the lane that the other
-- one took last.
abbrev pub MayCome : SentFrame → (from to : EndKept) → Type 0
MayCome f from to = (l : LifeKept) × MadeIn f l from
    × IsNearLast (last_at f.lane to) (number_in f l)

-- One station made it, and its number is too far from that, or doesn't fit in eight octets.
abbrev pub IsTooFar : SentFrame → (from to : EndKept) → Type 0
IsTooFar f from to = (l : LifeKept) × MadeIn f l from
    × ((2 ^ 64 ≤ number_in f l) ⊎ IsFarFromLast (last_at f.lane to) (number_in f l))

-- ---- octets
-- In no lane can a packet come of them.
abbrev pub IsOfNoPacket : LinkConfig → List ℕ → Type 0
IsOfNoPacket link octets = (lane : Lane) → IsStray (lane_channel lane link) octets

-- They are a frame of this lane, and its pointer doesn't say that it has idle data only.
abbrev pub IsNoStray : ChannelConfig → List ℕ → Type 0
IsNoStray channel octets = (frame_fault octets channel ≡ None)
    × (pointer_of (mpdu_in channel octets) ≢ 2046)

-- They are such a frame of one of both lanes.
abbrev pub BringsPacket : LinkConfig → List ℕ → Type 0
BringsPacket link octets = (lane : Lane) × IsNoStray (lane_channel lane link) octets

-- ---- a start
-- The next put of the station has a number after this one.
abbrev pub IsUsedNumber : ℕ → EndKept → Type 0
IsUsedNumber number k = number < k.station.entity.state.next

-- The next frame of a lane in this life has this number or one after it, so that none would be left
-- out.
abbrev pub IsUsedFrame : ℕ → LifeKept → Type 0
IsUsedFrame first l = (first ≤ l.first + length l.directives)
    ⊎ (first ≤ l.first + length l.file_data)

-- Neither holds.
abbrev pub CanStart : (first number : ℕ) → EndKept → Type 0
CanStart first number k = (k.station.entity.state.next ≤ number)
    × (k.latest.first + length k.latest.directives < first)
    × (k.latest.first + length k.latest.file_data < first)

-- ---- when each answer comes; if it refuses, this is as it was
-- a frame that one station made, for the other one
abbrev pub AnswersFrame : Delivered → SentFrame → (from to : EndKept) → (unchanged : Type 0)
    → Type 0
AnswersFrame delivered.Taken f from to unchanged = MayCome f from to
AnswersFrame delivered.NoSuchFrame f from to unchanged = HasNoFrame f from × unchanged
AnswersFrame delivered.TooFar f from to unchanged = IsTooFar f from to × unchanged

-- octets for a station that receives over such a link
abbrev pub AnswersOctets : (taken : Bool) → List ℕ → LinkConfig → (unchanged : Type 0) → Type 0
AnswersOctets true octets link unchanged = IsOfNoPacket link octets
AnswersOctets false octets link unchanged = BringsPacket link octets × unchanged

-- a start of a station
abbrev pub AnswersStart : (first number : ℕ) → Result Restarted AllocError → EndKept →
    (unchanged : Type 0) → Type 0
AnswersStart first number (Ok restarted.Done) k unchanged = CanStart first number k
AnswersStart first number (Ok restarted.NumberUsed) k unchanged =
    IsUsedNumber number k × unchanged
AnswersStart first number (Ok restarted.FrameUsed) k unchanged =
    (k.station.entity.state.next ≤ number) × IsUsedFrame first k.latest × unchanged
AnswersStart first number (Err error) k unchanged = unchanged

-- a station that resumes
abbrev pub AnswersResume : (first number : ℕ) → Result Resumed AllocError → EndKept →
    (unchanged : Type 0) → Type 0
AnswersResume first number (Ok resumed.Done) k unchanged = CanStart first number k
AnswersResume first number (Ok resumed.NumberUsed) k unchanged =
    IsUsedNumber number k × unchanged
AnswersResume first number (Ok resumed.FrameUsed) k unchanged =
    (k.station.entity.state.next ≤ number) × IsUsedFrame first k.latest × unchanged
AnswersResume first number (Ok (resumed.NotRestored by)) k unchanged =
    CanStart first number k × unchanged
AnswersResume first number (Err error) k unchanged = unchanged
