use Rattle.cfdp_datagrams.proofs.datagram_wire.DatagramWire.waits.Goals as goal

pub returns-then-not-frees_kept : goal.returns-then-not-frees_kept
returns-then-not-frees_kept g c = rw (c.rests.ensures, ← c.self.view_is) (record {
  told = c.tell_peer.new.self;
  beacon = c.tell_peer.ensures;
  kept = c.frees_kept.ensures;
})

pub returns-else-not-frees_kept : goal.returns-else-not-frees_kept
returns-else-not-frees_kept g c = rw (← c.self.view_is) (record {
  told = c.tell_peer.new.self;
  beacon = c.tell_peer.ensures;
  kept = c.frees_kept.ensures;
})
