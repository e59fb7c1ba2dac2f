use Rattle.std.proofs.Common.{ℕ, ◌-◌, ◌≤◌, ◌++◌, List, length, take, ap, ◌∙◌, arith}
use Rattle.std.proofs.lemmas.List.{length-replicate, take_all}
use Rattle.circular_buffer.specs.Buffer.{Buffer, buffer}
use Rattle.mpdu.specs.Packing.{idle_packet}
use Rattle.mpdu.proofs.packer.append_idle.Goals as goal

pub returns-clause-items : goal.returns-clause-items
unfolding idle_packet
returns-clause-items c =
    let held : Buffer ℕ = c.args.octets.now in
    let idle : List ℕ = take c.args.len c.encode_idle.new.out in
    let fits : length idle ≤ c.fill_from_slice.result =
    omega (arith, c.fill_from_slice.ensures.count, c.requires.room, c.encode_idle.ensures.spelled.size, ap length c.encode_idle.ensures.written, length-replicate {A = ℕ} (c.args.len - 6) 0) in
    c.fill_from_slice.ensures.items
    ∙ ap (λ l. buffer (held.items ++ l) held.capacity) (take_all c.fill_from_slice.result idle fits ∙ c.encode_idle.ensures.written)
