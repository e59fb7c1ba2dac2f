use Rattle.std.proofs.Common.{◌≡◌, ℕ, Some, [], ◌∷◌, ◌++◌, refl, sym, ap, subst, ◌∙◌}
use Rattle.aos_frame.specs.declared.config.Lane.{Lane}
use Rattle.aos_frame.specs.declared.config.Lane.TheVariants.{Directives, Data}
use Rattle.link_stack.specs.Downward.{DownState, frame_lane, lane_down}
use Rattle.link_sim.specs.FrameLink.{FrameLinksState, frames_sent, lane_of_links}
use Rattle.link_sim.specs.AtStation.{IsSameMarks, PullsOne}
use Rattle.link_sim.proofs.Lanes.Each.{each-lane}
use Rattle.cfdp_station.proofs.Whole.{next-is_whole}
use Rattle.link_sim.proofs.Ways.Leaving.{some-room}
use Rattle.link_sim.proofs.two_stations.pull_next.Goals as goal

pub pull-requires-clause-len : goal.pull-requires-clause-len
pull-requires-clause-len g c = ap (λ (k : FrameLinksState). k.directives.len) c.links.view_is ∙ c.requires.lens Directives

pub pull-requires-in-Some-Data-clause-len : goal.pull-requires-in-Some-Data-clause-len
pull-requires-in-Some-Data-clause-len g c = ap (λ (k : FrameLinksState). k.file_data.len) c.links.view_is ∙ c.requires.lens Data

pub returns-in-Some-Directives-clause-none : goal.returns-in-Some-Directives-clause-none
returns-in-Some-Directives-clause-none g c failed =
    let d : DownState = c.args.station.now.down in
    let next : frame_lane d ≡ Some Directives = cc in
    let none : c.args.links.now.directives.blanks ≡ 0 = ap (λ (k : FrameLinksState). k.directives.blanks) (sym c.links.view_is) ∙ c.pull.ensures.none.0 failed in
    absurd (some-room (lane_down Directives d) c.args.links.now.directives.blanks none (c.requires.enough Directives) (next-is_whole d Directives next))

pub returns-in-Some-Directives-clause-pulls : goal.returns-in-Some-Directives-clause-pulls
returns-in-Some-Directives-clause-pulls g c done =
    let i = c.links.inside in
    let e = c.pull.ensures in
    let d : DownState = c.args.station.now.down in
    let new : FrameLinksState = record { directives = c.pull.new.self; file_data = i.file_data } in
    let next : frame_lane d ≡ Some Directives = cc in
    subst (λ (k : FrameLinksState). PullsOne d c.pull.new.station.down k new) c.links.view_is (record {
      lane = Directives;
      is_next = next;
      way = e.way;
      waiting = e.left done;
      used = e.used done;
      grown = e.grown done;
      placed = e.placed done ∙ ap (λ (n : ℕ). i.directives.places ++ n ∷ []) (c.count-place.ensures ∙ ap frames_sent (sym c.links.view_is));
      other = e.only.other;
      other_link = refl;
      ends = e.fixed;
      marks = each-lane (λ (m : Lane). IsSameMarks (lane_of_links m (record { directives = i.directives; file_data = i.file_data })) (lane_of_links m new))
          e.marks (refl, refl, refl);
    })

pub returns-in-Some-Data-clause-none : goal.returns-in-Some-Data-clause-none
returns-in-Some-Data-clause-none g c failed =
    let d : DownState = c.args.station.now.down in
    let next : frame_lane d ≡ Some Data = cc in
    let none : c.args.links.now.file_data.blanks ≡ 0 = ap (λ (k : FrameLinksState). k.file_data.blanks) (sym c.links.view_is) ∙ c.pull-in-Some-Data.ensures.none.0 failed in
    absurd (some-room (lane_down Data d) c.args.links.now.file_data.blanks none (c.requires.enough Data) (next-is_whole d Data next))

pub returns-in-Some-Data-clause-pulls : goal.returns-in-Some-Data-clause-pulls
returns-in-Some-Data-clause-pulls g c done =
    let i = c.links.inside in
    let e = c.pull-in-Some-Data.ensures in
    let d : DownState = c.args.station.now.down in
    let new : FrameLinksState = record { directives = i.directives; file_data = c.pull-in-Some-Data.new.self } in
    let next : frame_lane d ≡ Some Data = cc in
    subst (λ (k : FrameLinksState). PullsOne d c.pull-in-Some-Data.new.station.down k new) c.links.view_is (record {
      lane = Data;
      is_next = next;
      way = e.way;
      waiting = e.left done;
      used = e.used done;
      grown = e.grown done;
      placed = e.placed done ∙ ap (λ (n : ℕ). i.file_data.places ++ n ∷ []) (c.count-place.ensures ∙ ap frames_sent (sym c.links.view_is));
      other = e.only.other;
      other_link = refl;
      ends = e.fixed;
      marks = each-lane (λ (m : Lane). IsSameMarks (lane_of_links m (record { directives = i.directives; file_data = i.file_data })) (lane_of_links m new))
          (refl, refl, refl) e.marks;
    })
