use Rattle.std.proofs.Common.{ap}
use Rattle.cfdp_any_order_script.specs.Told.{kept_of}
use Rattle.cfdp_any_order_script.proofs.Playing.{sends, since}
use Rattle.cfdp_any_order_script.proofs.play.poll.Goals as goal

pub returns : goal.returns
returns c =
    let made = since (kept_of c.args.side c.args.world.now) (kept_of c.args.side c.poll-polled.new.self) _ _ _ _ _ c.made.ensures.life c.made-before.ensures.directives c.made.ensures.directives c.made-before.ensures.file_data c.made.ensures.file_data in
    (c.poll-polled.result, c.poll-polled.ensures.0, c.poll-polled.ensures.1, sends _ _ _ _ _ _ _ _ _ _ c.poll_answer.ensures c.poll-polled.ensures.2 made c.in-Ok.ensures.waiting (ap (λ v. v.items) c.note.ensures.arrived))
