-- Frames leave, one after another, of both lanes.
use Rattle.std.proofs.Common.{◌≡◌, ℕ, ◌+◌, ◌-◌, ◌*◌, ◌<◌, ◌≤◌, ◌⊎◌, length, refl, sym, ap, subst, ◌∙◌, inl, inr, arith, length-drop, None}
use Rattle.aos_frame.specs.Frame.{frame_len, other_lane}
use Rattle.aos_frame.specs.declared.config.Lane.{Lane}
use Rattle.aos_frame.specs.declared.config.Lane.TheVariants.{Directives, Data}
use Rattle.link_stack.specs.Downward.{DownState, LinkSenderState, frame_lane, lane_down}
use Rattle.link_stack.specs.Upward.{LinkReceiverState}
use Rattle.cfdp_station.specs.Link.{WaitAtMost}
use Rattle.link_sim.specs.FrameLink.{FrameLinkState, FrameLinksState, lane_of_links}
use Rattle.link_sim.specs.AtStation.{AddsNone, IsSameEnd, IsSameMarks, PullsAll, PullsOne}
use Rattle.link_sim.specs.OneWay.{IsOneWay, SendsNone, one_way}
use Rattle.link_sim.proofs.Lanes.Each.{either-lane}
use Rattle.cfdp_station.proofs.Whole.{next-is_whole, none-is_whole}
use Rattle.link_sim.proofs.Ways.Pulling.{one_less, pulled_more, pulled_none}

-- if a whole zone waits, there is a buffer
pub some-room : (d : LinkSenderState) (blanks : ℕ) → blanks ≡ 0 → WaitAtMost blanks d → d.link.zone ≤ length d.waiting → ⊥
some-room d blanks none enough whole =
    let same : blanks * d.link.zone ≡ 0 * d.link.zone = ap (λ n. n * d.link.zone) none in
    omega (arith, same, enough, whole)

-- Some whole zones of a lane became frames, or nothing changed.
pub record PullsSome (old new : LinkSenderState) (link link_now : FrameLinkState) : Type 0 where
  pub way : AddsNone old new link link_now
  pub made : ((new ≡ old) × (link_now ≡ link)) ⊎ ((old.link.zone ≤ length old.waiting) × (length link.frames < length link_now.frames))
  pub fixed : IsSameEnd old new
  pub marks : IsSameMarks link link_now

pub pulls-none : (d : LinkSenderState) (k : FrameLinkState) → PullsSome d d k k
pulls-none d k = record { way = λ up is. pulled_none (one_way d k up) is; made = inl (refl, refl); fixed = (refl, refl, refl, refl); marks = (refl, refl, refl) }

-- one frame more
pulls-more : (c d e : LinkSenderState) (j k n : FrameLinkState) → PullsSome c d j k → AddsNone d e k n → d.link.zone ≤ length d.waiting → length n.frames ≡ length k.frames + 1 →
    IsSameEnd d e → IsSameMarks k n → PullsSome c e j n
pulls-more c d e j k n so way whole more fixed marks =
    let M : Type 0 = (c.link.zone ≤ length c.waiting) × (length j.frames < length n.frames) in
    let made : M = elim so.made [
      | inl same ↦ (subst (λ (x : LinkSenderState). x.link.zone ≤ length x.waiting) same.0 whole, omega (arith, more, ap (λ x. length x.frames) same.1))
      | inr m ↦ (m.0, omega (arith, more, m.1))
    ] in
    record {
      way = λ (up : LinkReceiverState) (is : IsOneWay (one_way c j up)).
          let a : SendsNone (one_way c j up) (one_way d k up) = so.way up is in
          pulled_more (one_way c j up) (one_way d k up) (one_way e n up) a (way up a.way);
      made = inr made;
      fixed = (fixed.0 ∙ so.fixed.0, fixed.1 ∙ so.fixed.1, fixed.2 ∙ so.fixed.2, fixed.3 ∙ so.fixed.3);
      marks = (marks.0 ∙ so.marks.0, marks.1 ∙ so.marks.1, marks.2 ∙ so.marks.2);
    }

-- ---- a frame of either lane leaves
module _ (d e : DownState) (k n : FrameLinksState) (h : PullsOne d e k n) where
  pub pulled-lens : ((l : Lane) → (lane_of_links l k).len ≡ frame_len (lane_down l d).link) → (l : Lane) → (lane_of_links l n).len ≡ frame_len (lane_down l e).link
  pulled-lens lens l = (h.marks l).2 ∙ lens l ∙ ap frame_len (sym (h.ends.lanes l).0)

  pub pulled-enough : ((l : Lane) → WaitAtMost (lane_of_links l k).blanks (lane_down l d)) → (l : Lane) → WaitAtMost (lane_of_links l n).blanks (lane_down l e)
  pulled-enough enough = either-lane (λ l. WaitAtMost (lane_of_links l n).blanks (lane_down l e)) h.lane here there
    where
      here : WaitAtMost (lane_of_links h.lane n).blanks (lane_down h.lane e)
      here =
          let z : ℕ = (lane_down h.lane d).link.zone in
          let left : length (lane_down h.lane e).waiting ≡ length (lane_down h.lane d).waiting - z = ap length h.waiting ∙ length-drop z (lane_down h.lane d).waiting in
          one_less (length (lane_down h.lane d).waiting) z (lane_of_links h.lane k).blanks (lane_of_links h.lane n).blanks (lane_down h.lane e).link.zone
          (length (lane_down h.lane e).waiting) left h.used (ap (λ x. x.zone) (h.ends.lanes h.lane).0) (enough h.lane)

      there : WaitAtMost (lane_of_links (other_lane h.lane) n).blanks (lane_down (other_lane h.lane) e)
      there = subst (λ (x : FrameLinkState). WaitAtMost x.blanks (lane_down (other_lane h.lane) e)) (sym h.other_link)
          (subst (λ (x : LinkSenderState). WaitAtMost (lane_of_links (other_lane h.lane) k).blanks x) (sym h.other) (enough (other_lane h.lane)))

  pub pulled-fewer : n.directives.blanks + n.file_data.blanks < k.directives.blanks + k.file_data.blanks
  pulled-fewer = by h.lane h.used (ap (λ (x : FrameLinkState). x.blanks) h.other_link)
    where
      by : (l : Lane) → (lane_of_links l n).blanks + 1 ≡ (lane_of_links l k).blanks → (lane_of_links (other_lane l) n).blanks ≡ (lane_of_links (other_lane l) k).blanks →
          n.directives.blanks + n.file_data.blanks < k.directives.blanks + k.file_data.blanks
      by Directives used other = omega (arith, used, other)
      by Data used other = omega (arith, used, other)

  pub pulled-lanes : (c : DownState) (j : FrameLinksState) → ((l : Lane) → PullsSome (lane_down l c) (lane_down l d) (lane_of_links l j) (lane_of_links l k)) →
      (l : Lane) → PullsSome (lane_down l c) (lane_down l e) (lane_of_links l j) (lane_of_links l n)
  pulled-lanes c j so = either-lane (λ l. PullsSome (lane_down l c) (lane_down l e) (lane_of_links l j) (lane_of_links l n)) h.lane here there
    where
      here : PullsSome (lane_down h.lane c) (lane_down h.lane e) (lane_of_links h.lane j) (lane_of_links h.lane n)
      here = pulls-more (lane_down h.lane c) (lane_down h.lane d) (lane_down h.lane e) (lane_of_links h.lane j) (lane_of_links h.lane k) (lane_of_links h.lane n) (so h.lane) h.way
          (next-is_whole d h.lane h.is_next) h.grown (h.ends.lanes h.lane) (h.marks h.lane)

      there : PullsSome (lane_down (other_lane h.lane) c) (lane_down (other_lane h.lane) e) (lane_of_links (other_lane h.lane) j) (lane_of_links (other_lane h.lane) n)
      there = subst (λ (x : FrameLinkState). PullsSome (lane_down (other_lane h.lane) c) (lane_down (other_lane h.lane) e) (lane_of_links (other_lane h.lane) j) x) (sym h.other_link)
          (subst (λ (x : LinkSenderState). PullsSome (lane_down (other_lane h.lane) c) x (lane_of_links (other_lane h.lane) j) (lane_of_links (other_lane h.lane) k)) (sym h.other)
          (so (other_lane h.lane)))

-- none leaves any more
pub pulled-all : (c d : DownState) (j k : FrameLinksState) → ((l : Lane) → PullsSome (lane_down l c) (lane_down l d) (lane_of_links l j) (lane_of_links l k)) → frame_lane d ≡ None →
    (l : Lane) → PullsAll (lane_down l c) (lane_down l d) (lane_of_links l j) (lane_of_links l k)
pulled-all c d j k so none l = record { way = (so l).way; none_whole = none-is_whole d none l; made = (so l).made; fixed = (so l).fixed; marks = (so l).marks }
