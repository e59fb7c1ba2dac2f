use Rattle.std.proofs.Common.{◌≡◌, vec_len}
use Rattle.cfdp_console.specs.Serving.{staying}
use Rattle.cfdp_console.proofs.InTurn.{Reached}
use Rattle.cfdp_console.proofs.visitors.Visitors.next_ask.Given as goal

-- the visitors so far were attended to, and asked nothing
abbrev pub invariant-loop-place : goal.invariant-loop-place
invariant-loop-place g l = record {
  count : vec_len l.self.all ≡ l.place-end;
  reached : Reached l.guard l.place (staying l.fn.self.all.items) l.self.all.items;
}
