-- Frames of a lane that are counted from one end of a list, and frames that are listed.
use Rattle.std.proofs.Common.{◌≡◌, ℕ, suc, ◌+◌, ◌-◌, ◌<◌, Bool, true, false, List, [], ◌∷◌, ◌++◌, length, take, drop, slice_index_or, if◌then◌else◌, ap, ◌∙◌, arith, add-one}
use Rattle.std.proofs.lemmas.List.Sums.{count_by_more_no, count_by_more_yes, sum_by-cons}
use Rattle.std.proofs.Math.Seq.{drop-cons}
use Rattle.aos_frame.specs.declared.config.Lane.{Lane}
use Rattle.std.specs.Prelude.{Option}
use Rattle.any_order.specs.declared.answers.SentFrame.{SentFrame}
use Rattle.cfdp_any_order_script.specs.Links.{count_of, is_of, made_of}

-- one more frame of a lane
pub made_more : (life : ℕ) (lane : Lane) (first count : ℕ) → made_of life lane first (count + 1)
    ≡ made_of life lane first count ++ record { life = life; lane = lane; place = first + count } ∷ []
made_more life lane first count = ap (made_of life lane first) (add-one count)

-- one more frame from the front, which is of the lane or not
pub front_yes : (lane : Option Lane) (frames : List SentFrame) (place : ℕ) (d : SentFrame) → place < length frames → is_of lane (slice_index_or frames place d) ≡ true →
    count_of lane (take (place + 1) frames) ≡ count_of lane (take place frames) + 1
front_yes lane frames place d low is = count_by_more_yes (is_of lane) frames place d low is

pub front_no : (lane : Option Lane) (frames : List SentFrame) (place : ℕ) (d : SentFrame) → place < length frames → is_of lane (slice_index_or frames place d) ≡ false →
    count_of lane (take (place + 1) frames) ≡ count_of lane (take place frames)
front_no lane frames place d low is = count_by_more_no (is_of lane) frames place d low is

abbrev weight : Bool → ℕ
weight b = if b then 1 else 0

-- one more from the back
back_step : (lane : Option Lane) (frames : List SentFrame) (done : ℕ) (d : SentFrame) → done < length frames →
    count_of lane (drop (length frames - (done + 1)) frames)
    ≡ weight (is_of lane (slice_index_or frames (length frames - 1 - done) d)) + count_of lane (drop (length frames - done) frames)
back_step lane frames done d low =
    let at : ℕ = length frames - 1 - done in
    let same : length frames - (done + 1) ≡ at = omega arith in
    let next : suc at ≡ length frames - done = omega (arith, low) in
    let inside : at < length frames = omega (arith, low) in
    let first = ap (λ (n : ℕ). count_of lane (drop n frames)) same in
    let last = ap (λ (n : ℕ). count_of lane (drop n frames)) next in
    let step = ap (count_of lane) (drop-cons frames at d inside) ∙ sum_by-cons (λ (x : SentFrame). weight (is_of lane x)) (slice_index_or frames at d) (drop (suc at) frames) in
    first ∙ (step ∙ ap (λ (n : ℕ). weight (is_of lane (slice_index_or frames at d)) + n) last)

pub back_yes : (lane : Option Lane) (frames : List SentFrame) (done : ℕ) (d : SentFrame) → done < length frames → is_of lane (slice_index_or frames (length frames - 1 - done) d) ≡ true →
    count_of lane (drop (length frames - (done + 1)) frames) ≡ count_of lane (drop (length frames - done) frames) + 1
back_yes lane frames done d low is =
    let step = back_step lane frames done d low in
    let one : weight (is_of lane (slice_index_or frames (length frames - 1 - done) d)) ≡ 1 = ap weight is in
    omega (arith, step, one)

pub back_no : (lane : Option Lane) (frames : List SentFrame) (done : ℕ) (d : SentFrame) → done < length frames → is_of lane (slice_index_or frames (length frames - 1 - done) d) ≡ false →
    count_of lane (drop (length frames - (done + 1)) frames) ≡ count_of lane (drop (length frames - done) frames)
back_no lane frames done d low is =
    let step = back_step lane frames done d low in
    let none : weight (is_of lane (slice_index_or frames (length frames - 1 - done) d)) ≡ 0 = ap weight is in
    omega (arith, step, none)
