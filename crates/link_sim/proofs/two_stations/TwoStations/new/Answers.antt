use Rattle.std.proofs.Common.{◌≡◌, ◌≤◌, ℕ, true, [], refl, sym, ap, subst, ◌∙◌, arith}
use Rattle.aos_frame.specs.declared.config.LinkConfig.{LinkConfig}
use Rattle.aos_frame.specs.declared.config.Lane.{Lane}
use Rattle.link_stack.specs.Downward.{DownState, first_down, lane_down}
use Rattle.link_stack.specs.Upward.{first_up}
use Rattle.cfdp_entity.specs.Entity.{entity_standing, first_entity}
use Rattle.cfdp_station.specs.declared.config.StationConfig.{StationConfig}
use Rattle.link_sim.specs.AtStation.{AreCarried}
use Rattle.station_pair.specs.Stations.{IsWorldConfig}
use Rattle.link_sim.proofs.Events.AtStations.{first-lanes, first-set-up}
use Rattle.link_sim.proofs.Events.InWorlds.{none-seen, ways-of}
use Rattle.link_sim.proofs.Ways.First.{first-down_lane}
use Rattle.link_sim.proofs.two_stations.TwoStations.new.Goals as goal

-- a lane has the capacity that its end was made with
capacity : (d : DownState) (link : LinkConfig) (n : ℕ) → d ≡ first_down link n → 8192 ≤ n → (l : Lane) → 8192 ≤ (lane_down l d).capacity
capacity d link n down least l = omega (arith, ap (λ (x : DownState). (lane_down l x).capacity) down, ap (λ x. x.capacity) (first-down_lane l link n), least)

pub invariant_of-result : goal.invariant_of-result
invariant_of-result g c =
    let r = subst IsWorldConfig c.get-config.ensures.is c.get-config.ensures.valid in
    let a = c.in_ok-one.one in
    let b = c.in-Ok.two in
    let e = c.in_ok-one.ensures in
    let f = c.in-Ok.ensures in
    let down_one : a.down ≡ first_down c.args.config.one.sends c.args.config.one.capacity = e.down ∙ ap (λ (k : StationConfig). first_down k.sends k.capacity) c.station-first.ensures in
    let down_two : b.down ≡ first_down c.args.config.two.sends c.args.config.two.capacity = f.down ∙ ap (λ (k : StationConfig). first_down k.sends k.capacity) c.station-second.ensures in
    let up_one : a.up ≡ first_up c.args.config.one.receives = e.up ∙ ap (λ (k : StationConfig). first_up k.receives) c.station-first.ensures in
    let up_two : b.up ≡ first_up c.args.config.two.receives = f.up ∙ ap (λ (k : StationConfig). first_up k.receives) c.station-second.ensures in
    let from_one : AreCarried a.down c.new-from_one.result b.up =
    first-lanes a.down b.up c.new-from_one.result c.args.config.one.sends c.args.config.one.capacity c.frame_len.result r.one.sends down_one e.sent (up_two ∙ ap first_up (sym r.sends))
    (λ l. f.taken l true [] tt tt) c.new-from_one.ensures c.frame_len.ensures in
    let from_two : AreCarried b.down c.new-from_two.result a.up =
    first-lanes b.down a.up c.new-from_two.result c.args.config.two.sends c.args.config.two.capacity c.frame_len-in-Ok.result r.two.sends down_two f.sent (up_one ∙ ap first_up r.receives)
    (λ l. e.taken l true [] tt tt) c.new-from_two.ensures c.frame_len-in-Ok.ensures in (
      from_one,
      from_two,
      capacity a.down c.args.config.one.sends c.args.config.one.capacity down_one r.one.least,
      capacity b.down c.args.config.two.sends c.args.config.two.capacity down_two r.two.least,
      first-set-up a.up c.args.config.one.receives up_one,
      first-set-up b.up c.args.config.two.receives up_two,
    )

pub returns-in-Ok-clause-first : goal.returns-in-Ok-clause-first
returns-in-Ok-clause-first g c =
    let e = c.in_ok-one.ensures in
    let f = c.in-Ok.ensures in
    record {
      one = record {
        entity = e.entity ∙ ap (λ b. entity_standing b (first_entity (g.O.Outbox.files c.args.outboxes.0) (g.I.Inbox.published c.args.inboxes.0) c.station-first.result.entity))
            (g.met.O.SteadyOutbox.steady c.args.outboxes.0)
            ∙ ap (λ (k : StationConfig). entity_standing true (first_entity (g.O.Outbox.files c.args.outboxes.0) (g.I.Inbox.published c.args.inboxes.0) k.entity)) c.station-first.ensures;
        down = e.down ∙ ap (λ (k : StationConfig). first_down k.sends k.capacity) c.station-first.ensures;
        up = e.up ∙ ap (λ (k : StationConfig). first_up k.receives) c.station-first.ensures;
      };
      two = record {
        entity = f.entity ∙ ap (λ b. entity_standing b (first_entity (g.O.Outbox.files c.args.outboxes.1) (g.I.Inbox.published c.args.inboxes.1) c.station-second.result.entity))
            (g.met.O.SteadyOutbox.steady c.args.outboxes.1)
            ∙ ap (λ (k : StationConfig). entity_standing true (first_entity (g.O.Outbox.files c.args.outboxes.1) (g.I.Inbox.published c.args.inboxes.1) k.entity)) c.station-second.ensures;
        down = f.down ∙ ap (λ (k : StationConfig). first_down k.sends k.capacity) c.station-second.ensures;
        up = f.up ∙ ap (λ (k : StationConfig). first_up k.receives) c.station-second.ensures;
      };
      from_one = none-seen c.new-from_one.result c.frame_len.result c.new-from_one.ensures;
      from_two = none-seen c.new-from_two.result c.frame_len-in-Ok.result c.new-from_two.ensures;
      puts = c.new-in-Ok.ensures.items;
      ticks = refl;
    }

pub returns-in-Ok-clause-ways : goal.returns-in-Ok-clause-ways
returns-in-Ok-clause-ways g c =
    let r = subst IsWorldConfig c.get-config.ensures.is c.get-config.ensures.valid in
    let a = c.in_ok-one.one in
    let b = c.in-Ok.two in
    let e = c.in_ok-one.ensures in
    let f = c.in-Ok.ensures in
    let down_one : a.down ≡ first_down c.args.config.one.sends c.args.config.one.capacity = e.down ∙ ap (λ (k : StationConfig). first_down k.sends k.capacity) c.station-first.ensures in
    let down_two : b.down ≡ first_down c.args.config.two.sends c.args.config.two.capacity = f.down ∙ ap (λ (k : StationConfig). first_down k.sends k.capacity) c.station-second.ensures in
    let up_one : a.up ≡ first_up c.args.config.one.receives = e.up ∙ ap (λ (k : StationConfig). first_up k.receives) c.station-first.ensures in
    let up_two : b.up ≡ first_up c.args.config.two.receives = f.up ∙ ap (λ (k : StationConfig). first_up k.receives) c.station-second.ensures in
    let from_one : AreCarried a.down c.new-from_one.result b.up =
    first-lanes a.down b.up c.new-from_one.result c.args.config.one.sends c.args.config.one.capacity c.frame_len.result r.one.sends down_one e.sent (up_two ∙ ap first_up (sym r.sends))
    (λ l. f.taken l true [] tt tt) c.new-from_one.ensures c.frame_len.ensures in
    let from_two : AreCarried b.down c.new-from_two.result a.up =
    first-lanes b.down a.up c.new-from_two.result c.args.config.two.sends c.args.config.two.capacity c.frame_len-in-Ok.result r.two.sends down_two f.sent (up_one ∙ ap first_up r.receives)
    (λ l. e.taken l true [] tt tt) c.new-from_two.ensures c.frame_len-in-Ok.ensures in
    ways-of a b c.new-from_one.result c.new-from_two.result c.new-in-Ok.result.items 0 from_one from_two
