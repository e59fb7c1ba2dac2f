use Rattle.std.proofs.Common.{◌≡◌, ◌∙◌, ap, sym}
use Rattle.captures.specs.Captures.{HasTaken}
use Rattle.captures.specs.Packets.{item_text}
use Rattle.captures.proofs.Taking.{block_once, if_ok}
use Rattle.captures.proofs.reader.Capture.take.Goals as goal

pub returns-in-Block-clause-only : goal.returns-in-Block-clause-only
returns-in-Block-clause-only c item after rest has =
    if_ok (λ x. HasTaken c.args.self.now c.args.text.now (item_text x.0) c.read_block.new.self x.1.now)
    (λ x. (item_text x.0 ≡ item) × (c.read_block.new.self ≡ after) × (x.1.now ≡ rest)) c.read_block.result
    (λ x taken. let same = block_once c.args.self.now c.args.text.now (item_text x.0) item c.read_block.new.self after x.1.now rest (ap (λ s. s.next) (sym c.self.view_is) ∙ c.in-Block.is) taken has in
    (same.item, same.after, same.rest)) c.read_block.ensures.taken
