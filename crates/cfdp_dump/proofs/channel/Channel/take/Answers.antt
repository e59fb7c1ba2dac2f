use Rattle.std.proofs.Common.{rules, ◌≡◌, ◌-◌, [], refl, length, take, drop}
use Rattle.std.proofs.lemmas.List.{take_rest}
use Rattle.cfdp_dump.proofs.channel.Channel.take.Goals as goal

pub returns-clause-ok : goal.returns-clause-ok
returns-clause-ok c =
    let none : c.new-packets.result ≡ [] = c.new-packets.ensures in
    let zone : take (length c.args.mpdu.now - 2) (drop 2 c.args.mpdu.now) ≡ drop 2 c.args.mpdu.now = take_rest c.args.mpdu.now 2 in
    record {
      spacecraft = refl;
      virtual_channel = refl;
      seen = search rules;
      missing = search rules;
      only_idle = search rules;
      idle = search rules;
      zone = λ _. rw (← c.read_pointer-pointer.ensures.pointer) (record {
        packets = rw (none, zone) at c.in_ok-notes.ensures.appended;
        begun = rw zone at c.in_ok-notes.ensures.begun;
        cut_off = rw zone at c.in_ok-notes.ensures.resync;
        bad = rw zone at c.in_ok-notes.ensures.bad;
      });
    }
