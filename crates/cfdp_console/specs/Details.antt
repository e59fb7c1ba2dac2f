-- The details of one transaction, as data of JSON. The members stand in the order of their names.
use Rattle.std.specs.Prelude.{ℕ, codes, map}
use Rattle.serde_json.specs.Data.{Data, boolean, string, object, member, no_members, array, item, no_items}
use Rattle.serde_json.specs.View.{items_of}
use Rattle.cfdp_console.specs.Shown.{count, number_or_null}
use Rattle.cfdp_console.specs.declared.ranges.RangeSummary.{RangeSummary}
use Rattle.cfdp_console.specs.declared.rounds.Round.{Round}
use Rattle.cfdp_console.specs.declared.shown.TimerShown.{TimerShown}

-- a range: its start and its end
abbrev pub pair_data : ℕ × ℕ → Data
pair_data r = array (item (count r.0) (item (count r.1) no_items))

abbrev pub ranges_data : RangeSummary → Data
ranges_data it = object (member (codes "count") (count it.count)
    (member (codes "octets") (count it.octets)
    (member (codes "ranges") (array (items_of (map pair_data it.first.items))) no_members)))

abbrev pub round_data : Round → Data
round_data it = object (member (codes "asked") (ranges_data it.asked)
    (member (codes "end") (count it.end)
    (member (codes "metadata") (boolean it.has_metadata)
    (member (codes "naks") (count it.naks)
    (member (codes "number") (count it.number)
    (member (codes "start") (count it.start)
    (member (codes "time") (count it.time) no_members)))))))

abbrev pub timer_data : TimerShown → Data
timer_data it = object (member (codes "left") (number_or_null it.left)
    (member (codes "limit") (number_or_null it.limit)
    (member (codes "sent") (number_or_null it.sent)
    (member (codes "timer") (string it.timer.now) no_members))))
