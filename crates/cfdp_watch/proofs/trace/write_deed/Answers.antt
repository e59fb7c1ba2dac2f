use Rattle.std.proofs.Common.{◌++◌, codes, refl, subst}
use Rattle.std.specs.Io.KnownBytes.{Appends}
use Rattle.cfdp_dump.specs.Spelled.Shape.{shape_from}
use Rattle.cfdp_watch.specs.Trace.{TellsDeed, TellsWords, deed_word, sender}
use Rattle.cfdp_dump.proofs.TextLines.{line_behind}
use Rattle.cfdp_watch.proofs.trace.write_deed.Goals as goal

pub returns : goal.returns
returns g c =
    let s = c.args.sighting.now in
    line_behind (TellsWords s.deed (shape_from c.args.shapes (sender s.deed s.station)) s.octets.items) (TellsDeed c.args.shapes s) _ (deed_word s.deed ++ codes " ") _ _ _
    (λ words tells. record { words = words; tells = tells; whole = refl })
    (subst (λ w. Appends (g.W.Write.contents c.args.out.now) (g.W.Write.contents c.write.new.self) (w ++ codes " ")) c.word.ensures c.in_ok-write.ensures.bytes)
    (rw (c.sent_by.ensures, c.sender-from.ensures) at c.write_words.ensures)
