use Rattle.std.proofs.Common.{ap, ◌∙◌}
use Rattle.cfdp_any_order_script.specs.Links.{is_any}
use Rattle.cfdp_any_order_script.specs.Performing.{flush_answer}
use Rattle.cfdp_any_order_script.specs.Told.{kept_of}
use Rattle.cfdp_any_order_script.proofs.Playing.{sends, since}
use Rattle.cfdp_any_order_script.proofs.play.flush.Goals as goal

pub returns : goal.returns
returns c =
    let made = since (kept_of c.args.side c.args.world.now) (kept_of c.args.side c.flush-flushed.new.self) _ _ _ _ _ c.made.ensures.life c.made-before.ensures.directives c.made.ensures.directives c.made-before.ensures.file_data c.made.ensures.file_data in
    (c.flush-flushed.result, c.flush-flushed.ensures.0, c.flush-flushed.ensures.1, sends _ _ _ _ _ _ _ _ _ _ (c.flush_answer.ensures ∙ ap (flush_answer c.flush-flushed.result) (c.in-Ok.ensures.any ∙ ap is_any made)) c.flush-flushed.ensures.2 made c.in-Ok.ensures.waiting (ap (λ v. v.items) c.note.ensures.arrived))
