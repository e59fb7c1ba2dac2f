use Rattle.std.proofs.Common.{arith}
use Rattle.mpdu.specs.Reading.{held_at}
use Rattle.mpdu.proofs.Noted.{resync_is, bad_is, notes_ok}
use Rattle.mpdu.proofs.Taken.{taken, cut_short, both_ok, on_err}
use Rattle.mpdu.proofs.reassembler.Reassembler.feed.Goals as goal

pub returns-clause-stream : goal.returns-clause-stream
returns-clause-stream c ps marks is =
    both_ok _ _ _ c.read_zone.result c.read_zone.ensures.held c.read_zone.ensures.ok
    (taken ps marks (held_at c.args.follows c.args.self.now) c.args.pointer c.args.zone.now c.read_zone.new.self c.args.out.now c.read_zone.new.out
    (omega (arith, c.requires.least)) c.requires.most is)

pub returns-clause-cut_short : goal.returns-clause-cut_short
returns-clause-cut_short c ps marks is =
    on_err _ _ c.read_zone.result c.read_zone.ensures.err
    (cut_short ps marks (held_at c.args.follows c.args.self.now) c.args.pointer c.args.zone.now c.args.out.now c.read_zone.new.out
    (omega (arith, c.requires.least)) c.requires.most is)

pub returns-clause-in_order : goal.returns-clause-in_order
returns-clause-in_order c ps marks is =
    notes_ok c.read_zone.result _ _ _ _ c.read_zone.ensures.resync c.read_zone.ensures.bad
    (resync_is ps marks c.args.self.now c.args.follows c.args.pointer c.args.zone.now (omega (arith, c.requires.least)) c.requires.most is)
    (bad_is ps marks (held_at c.args.follows c.args.self.now) c.args.pointer c.args.zone.now (omega (arith, c.requires.least)) c.requires.most is)
