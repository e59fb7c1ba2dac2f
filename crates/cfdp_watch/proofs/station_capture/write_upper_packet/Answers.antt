use Rattle.std.proofs.Common.{◌≡◌, ◌∙◌, ap, length}
use Rattle.cfdp_watch.specs.Capture.{padding_len}
use Rattle.cfdp_dump.proofs.TextLines.{appends_behind}
use Rattle.cfdp_watch.proofs.station_capture.write_upper_packet.Goals as goal

pub returns : goal.returns
returns g c =
    let same : c.in-Some.len ≡ length c.args.pdu.now = c.in-Some.ensures.0 in
    let padded : c.padding_len-padding.result ≡ padding_len (length c.args.pdu.now) = c.padding_len-padding.ensures.same ∙ ap padding_len same in
    let flagged = appends_behind _ _ _ _ _ _ c.in_ok-write_flags.ensures (rw (padded, same) at c.write_number-6.ensures) in
    let filled = appends_behind _ _ _ _ _ _ (rw padded at c.in_ok-write_all-4.ensures.bytes) flagged in
    let pdu = appends_behind _ _ _ _ _ _ c.in_ok-write_all-3.ensures.bytes filled in
    let tags = appends_behind _ _ _ _ _ _ c.in_ok-write_all-2.ensures.bytes pdu in
    let sent = appends_behind _ _ _ _ _ _ (rw same at c.in_ok-write_number-5.ensures) tags in
    let captured = appends_behind _ _ _ _ _ _ (rw same at c.in_ok-write_number-4.ensures) sent in
    let time = appends_behind _ _ _ _ _ _ (rw c.to_be_bytes.ensures at c.in_ok-write_all.ensures.bytes) captured in
    let lane = appends_behind _ _ _ _ _ _ (rw c.type_interface.ensures at c.in_ok-write_number-3.ensures) time in
    let len = appends_behind _ _ _ _ _ _ (rw (padded, same) at c.in_ok-write_number-2.ensures) lane in
    appends_behind _ _ _ _ _ _ c.in_ok-write_number.ensures len
