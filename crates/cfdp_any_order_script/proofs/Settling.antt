-- Events of a settling, one after another.
use Rattle.std.specs.Result.{result_err}
use Rattle.link_sim.specs.declared.event.Event.{Event}
use Rattle.cfdp_any_order_script.specs.declared.answer.Answer.{Answer}
use Rattle.std.proofs.Common.{Result, Err, ◌≡◌, ◌≤◌, ◌<◌, ◌+◌, ℕ, zero, suc, None, Some, refl, sym, ap, subst, ◌∙◌, inl, inr, arith, add-one}
use Rattle.cfdp_any_order_script.specs.Performing.{HappensOnce, IsOther, IsSettledBy, PlayState, Rests, Settles, SettlesOnce, Times, next_turn, nothing, turn_event, turns_on}

-- A number of events; the last ones had nothing to do.
pub record HasSettled (done turn idle : ℕ) (old new : PlayState) : Type 0 where
  pub all : Times SettlesOnce done old new
  pub count : ℕ
  pub first : PlayState
  pub start : ℕ
  pub before : Times SettlesOnce count old first
  pub rests : Rests start idle first new
  pub turns : turn ≡ turns_on start idle
  pub low : start ≤ 7
  pub bound : turn ≤ 7
  pub some : idle ≤ 7

pub settled_none : (old : PlayState) → HasSettled 0 0 0 old old
settled_none old = record { all = refl; count = 0; first = old; start = 0; before = refl; rests = refl; turns = refl; low = omega arith; bound = omega arith; some = omega arith }

all_more : (done turn idle : ℕ) (old mid new : PlayState) → HasSettled done turn idle old mid → SettlesOnce mid new → Times SettlesOnce (done + 1) old new
all_more done turn idle old mid new h one = subst (λ (n : ℕ). Times SettlesOnce n old new) (sym (add-one done)) (mid, h.all, one)

-- one that had something to do
pub settled_moved : (done turn idle : ℕ) (old mid new : PlayState) → HasSettled done turn idle old mid → HappensOnce (turn_event turn) None mid new → HasSettled (done + 1) turn 0 old new
settled_moved done turn idle old mid new h one = record {
  all = all_more done turn idle old mid new h (turn, inl one);
  count = done + 1;
  first = new;
  start = turn;
  before = all_more done turn idle old mid new h (turn, inl one);
  rests = refl;
  turns = refl;
  low = h.bound;
  bound = h.bound;
  some = omega arith;
}

rests_more : (done turn idle : ℕ) (old mid new : PlayState) (h : HasSettled done turn idle old mid) → HappensOnce (turn_event turn) (Some nothing) mid new → Rests h.start (idle + 1) h.first new
rests_more done turn idle old mid new h one =
    subst (λ (n : ℕ). Rests h.start n h.first new) (sym (add-one idle)) (mid, h.rests, subst (λ (t : ℕ). HappensOnce (turn_event t) (Some nothing) mid new) h.turns one)

-- one that had nothing to do, and is not the eighth
pub settled_idle : (done turn idle next : ℕ) (old mid new : PlayState) → HasSettled done turn idle old mid → HappensOnce (turn_event turn) (Some nothing) mid new → next ≡ next_turn turn → next ≤ 7 →
    idle + 1 ≤ 7 → HasSettled (done + 1) next (idle + 1) old new
settled_idle done turn idle next old mid new h one is bound low = record {
  all = all_more done turn idle old mid new h (turn, inr one);
  count = h.count;
  first = h.first;
  start = h.start;
  before = h.before;
  rests = rests_more done turn idle old mid new h one;
  turns = is ∙ (ap next_turn h.turns ∙ ap (turns_on h.start) (sym (add-one idle)));
  low = h.low;
  bound = bound;
  some = low;
}

-- or is
pub settled_last : (done turn idle : ℕ) (old mid new : PlayState) (h : HasSettled done turn idle old mid) → HappensOnce (turn_event turn) (Some nothing) mid new → idle + 1 ≡ 8 → IsSettledBy h.first new
settled_last done turn idle old mid new h one is = (h.start, h.low, subst (λ (n : ℕ). Rests h.start n h.first new) is (rests_more done turn idle old mid new h one))

-- one that had another answer
pub settling_ended : {X : Type 0} (r : Result X Answer) (y why : Answer) (e : Event) (done turn idle : ℕ) (old mid new : PlayState) → r ≡ Err y → y ≡ why → e ≡ turn_event turn →
    HasSettled done turn idle old mid → IsOther why → HappensOnce e (Some why) mid new → Settles (result_err r) old new
settling_ended {X = X} r y why e done turn idle old mid new is same event h other one =
    let ends : HappensOnce (turn_event turn) (Some why) mid new = subst (λ (x : Event). HappensOnce x (Some why) mid new) event one in
    let settles : Settles (Some why) old new = (done, mid, h.all, inr (turn, other, ends)) in
    subst (λ (x : Result X Answer). Settles (result_err x) old new) (sym is) (subst (λ (x : Answer). Settles (Some x) old new) (sym same) settles)
