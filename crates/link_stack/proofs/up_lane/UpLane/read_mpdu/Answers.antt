use Rattle.std.proofs.Common.{◌≡◌, ◌==◌, ◌-◌, ℕ, List, length, take, length-drop, arith, Bool, Option, Some, false, if◌then◌else◌, drop, refl, sym, ap, subst, ◌∙◌}
use Rattle.std.proofs.lemmas.Bool.{ne_eqb}
use Rattle.aos_frame.specs.Counts.{follows}
use Rattle.aos_frame.specs.declared.count.SeenCount.{SeenCount}
use Rattle.std.proofs.lemmas.List.{take_all}
use Rattle.mpdu.specs.MpduHeader.{pointer_of}
use Rattle.link_stack.specs.Upward.{LinkReceiverState, idle_read, packets_read, mpdu_read, Takes, TakesFront}
use Rattle.link_stack.proofs.Taking.{all_again, front_again}
use Rattle.link_stack.proofs.up_lane.UpLane.read_mpdu.Goals as goal

pub returns-clause-all : goal.returns-clause-all
returns-clause-all c done =
    let seen : SeenCount = record { count = c.args.count; cycle = c.args.cycle } in
    let up : LinkReceiverState = record { link = c.self.inside.link; last = c.self.inside.monitor; begun = c.self.inside.reassembler; drops = c.self.inside.drops; control = c.self.inside.control } in
    let mid : LinkReceiverState = record { link = c.self.inside.link; last = c.follows-in_order.new.self; begun = c.self.inside.reassembler; drops = c.self.inside.drops; control = c.self.inside.control } in
    let zone = drop 2 c.args.mpdu.now in
    let behind = take (length c.args.mpdu.now - 2) zone in
    let all : behind ≡ zone = take_all (length c.args.mpdu.now - 2) zone (omega (arith, length-drop 2 c.args.mpdu.now)) in
    let told : (c.read_pointer-pointer.result == 2046) ≡ false = ne_eqb c.read_pointer-pointer.result 2046 c.if-pointer-eq-ONLY_IDLE.false in
    let busy : (pointer_of c.args.mpdu.now == 2046) ≡ false = ap (λ n. n == 2046) (sym c.read_pointer-pointer.ensures.pointer) ∙ told in
    let same : packets_read mid.last mid.begun c.follows-in_order.result c.read_pointer-pointer.result behind ≡ mpdu_read up seen c.args.mpdu.now =
    ap (λ (l : Option SeenCount). packets_read l mid.begun c.follows-in_order.result c.read_pointer-pointer.result behind) c.follows-in_order.ensures.seen
    ∙ ap (λ (b : Bool). packets_read (Some seen) mid.begun b c.read_pointer-pointer.result behind) c.follows-in_order.ensures.told
    ∙ ap (λ (n : ℕ). packets_read (Some seen) mid.begun (follows up.last seen) n behind) c.read_pointer-pointer.ensures.pointer
    ∙ ap (λ (l : List ℕ). packets_read (Some seen) mid.begun (follows up.last seen) (pointer_of c.args.mpdu.now) l) all
    ∙ sym (ap (λ (b : Bool). if b then idle_read seen else packets_read (Some seen) up.begun (follows up.last seen) (pointer_of c.args.mpdu.now) zone) busy) in
    let all_of : Takes (mpdu_read up seen c.args.mpdu.now) up c.read_zone.new.self c.args.out.now c.read_zone.new.out =
    all_again (packets_read mid.last mid.begun c.follows-in_order.result c.read_pointer-pointer.result behind) (mpdu_read up seen c.args.mpdu.now) up mid c.read_zone.new.self
    c.args.out.now c.read_zone.new.out same refl refl (c.read_zone.ensures.all done) in
    subst (λ (u : LinkReceiverState). Takes (mpdu_read u seen c.args.mpdu.now) u c.read_zone.new.self c.args.out.now c.read_zone.new.out)
    c.self.view_is all_of

pub returns-clause-front : goal.returns-clause-front
returns-clause-front c none =
    let seen : SeenCount = record { count = c.args.count; cycle = c.args.cycle } in
    let up : LinkReceiverState = record { link = c.self.inside.link; last = c.self.inside.monitor; begun = c.self.inside.reassembler; drops = c.self.inside.drops; control = c.self.inside.control } in
    let mid : LinkReceiverState = record { link = c.self.inside.link; last = c.follows-in_order.new.self; begun = c.self.inside.reassembler; drops = c.self.inside.drops; control = c.self.inside.control } in
    let zone = drop 2 c.args.mpdu.now in
    let behind = take (length c.args.mpdu.now - 2) zone in
    let all : behind ≡ zone = take_all (length c.args.mpdu.now - 2) zone (omega (arith, length-drop 2 c.args.mpdu.now)) in
    let told : (c.read_pointer-pointer.result == 2046) ≡ false = ne_eqb c.read_pointer-pointer.result 2046 c.if-pointer-eq-ONLY_IDLE.false in
    let busy : (pointer_of c.args.mpdu.now == 2046) ≡ false = ap (λ n. n == 2046) (sym c.read_pointer-pointer.ensures.pointer) ∙ told in
    let same : packets_read mid.last mid.begun c.follows-in_order.result c.read_pointer-pointer.result behind ≡ mpdu_read up seen c.args.mpdu.now =
    ap (λ (l : Option SeenCount). packets_read l mid.begun c.follows-in_order.result c.read_pointer-pointer.result behind) c.follows-in_order.ensures.seen
    ∙ ap (λ (b : Bool). packets_read (Some seen) mid.begun b c.read_pointer-pointer.result behind) c.follows-in_order.ensures.told
    ∙ ap (λ (n : ℕ). packets_read (Some seen) mid.begun (follows up.last seen) n behind) c.read_pointer-pointer.ensures.pointer
    ∙ ap (λ (l : List ℕ). packets_read (Some seen) mid.begun (follows up.last seen) (pointer_of c.args.mpdu.now) l) all
    ∙ sym (ap (λ (b : Bool). if b then idle_read seen else packets_read (Some seen) up.begun (follows up.last seen) (pointer_of c.args.mpdu.now) zone) busy) in
    let front : TakesFront (mpdu_read up seen c.args.mpdu.now) up c.read_zone.new.self c.args.out.now c.read_zone.new.out =
    front_again (packets_read mid.last mid.begun c.follows-in_order.result c.read_pointer-pointer.result behind) (mpdu_read up seen c.args.mpdu.now) up mid c.read_zone.new.self
    c.args.out.now c.read_zone.new.out same refl refl (c.read_zone.ensures.front none) in (
      busy,
      subst (λ (u : LinkReceiverState). TakesFront (mpdu_read u seen c.args.mpdu.now) u c.read_zone.new.self c.args.out.now c.read_zone.new.out)
          c.self.view_is front,
    )
