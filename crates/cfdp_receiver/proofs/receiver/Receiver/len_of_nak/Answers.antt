use Rattle.std.proofs.Common.{◌≡◌, ℕ, ◌+◌, ◌≤◌, List, length, sym, ap, subst, ◌∙◌, arith}
use Rattle.cfdp_header.specs.Crc.{crc_len}
use Rattle.cfdp_header.specs.Header.{header_len}
use Rattle.cfdp_directives.specs.declared.pdu.addressing.Addressing.{Addressing}
use Rattle.cfdp_directives.specs.Pdu.Addressing.{FitsAddressing}
use Rattle.cfdp_directives.specs.Pdu.Codes.{file_size_octets}
use Rattle.cfdp_directives.specs.Pdu.Content.{Content, Nak}
use Rattle.cfdp_directives.specs.Pdu.Written.{content_len}
use Rattle.cfdp_directives.proofs.Addressed.{can_write}
use Rattle.cfdp_extents.specs.Terms.{gaps_of}
use Rattle.cfdp_receiver.specs.declared.due.Due.TheVariants as due_is
use Rattle.cfdp_receiver.specs.Due.{receiver_says}
use Rattle.cfdp_receiver.specs.Missing.{asked, missing_pairs}
use Rattle.cfdp_receiver.specs.State.{ReceiverState}
use Rattle.cfdp_receiver.proofs.AskedLemmas.{nak_fits, nak_short, pairs_counted}
use Rattle.cfdp_receiver.proofs.receiver.Receiver.len_of_nak.Goals as goal

gaps : (c : goal.After-nak_len) → c.missing_in-gaps.result ≡ gaps_of c.args.self.now.held c.args.cursor c.scope_limit.result
gaps c = c.missing_in-gaps.ensures.is ∙ ap (λ (r : ReceiverState). gaps_of r.held c.args.cursor c.scope_limit.result) c.self.view_is

counted : (c : goal.After-nak_len) → length (asked (missing_pairs c.args.cursor c.args.self.now)) ≡ c.count_asked-pairs.result
counted c =
    pairs_counted c.args.self.now c.args.cursor c.scope_limit.result c.missing_in-gaps.result c.scope_limit.ensures.value
    (gaps c) c.asks_for_metadata.result c.count_asked-pairs.result c.asks_for_metadata.ensures c.count_asked-pairs.ensures.count

says : (c : goal.After-nak_len) → content_len (file_size_octets c.args.self.now.large) (receiver_says c.args.self.now (due_is.Nak c.args.cursor)) ≡ c.nak_len.result
says c =
    let all : List (ℕ × ℕ) = asked (missing_pairs c.args.cursor c.args.self.now) in
    ap (λ (r : ReceiverState). content_len (file_size_octets r.large) (Nak 0 0 all)) (sym c.self.view_is) ∙ c.nak_len.ensures 0 0 all (counted c)

few : (c : goal.After-nak_len) → c.nak_len.result ≤ 529
few c =
    let some : c.count_asked-pairs.result ≤ 32 = c.count_asked-pairs.ensures.few in
    let short : content_len (file_size_octets c.args.self.now.large) (receiver_says c.args.self.now (due_is.Nak c.args.cursor)) ≤ 529 =
    nak_short c.args.self.now.large c.args.cursor 0 (asked (missing_pairs c.args.cursor c.args.self.now)) (omega (arith, counted c, some)) in
    omega (arith, short, says c)

around-few : (c : goal.After-nak_len) → c.len_in_widths.result ≤ 28
around-few c =
    let a : Addressing = c.self.inside.addressing in
    let id : a.id_width ≤ 8 = c.self.invariant.addressing_fits.id.id_width.1 in
    let number : a.number_width ≤ 8 = c.self.invariant.addressing_fits.id.number_width.1 in
    let header : c.len_in_widths.result ≡ header_len a.id_width a.number_width = c.len_in_widths.ensures in
    omega (arith, id, number, header)

pub overflow_add-result : goal.overflow_add-result
overflow_add-result c = omega (arith, around-few c, few c, c.crc_len.ensures.short)

pub returns : goal.returns
returns c =
    let a : Addressing = c.args.self.now.addressing in
    let header : c.len_in_widths.result ≡ header_len a.id_width a.number_width = c.len_in_widths.ensures
    ∙ ap (λ (r : ReceiverState). header_len r.addressing.id_width r.addressing.number_width) c.self.view_is in
    let check : c.crc_len.result ≡ crc_len a.crc = c.crc_len.ensures.len ∙ ap (λ (r : ReceiverState). crc_len r.addressing.crc) c.self.view_is in
    let it : Content = receiver_says c.args.self.now (due_is.Nak c.args.cursor) in
    let addressing = subst (λ (r : ReceiverState). FitsAddressing r.addressing) c.self.view_is c.self.invariant.addressing_fits in
    record {
      len = omega (arith, header, check, says c);
      short = omega (arith, around-few c, few c, c.crc_len.ensures.short);
      can_write = can_write a c.args.self.now.large it addressing
          (nak_fits c.args.self.now c.args.cursor c.scope_limit.result c.missing_in-gaps.result c.scope_limit.ensures.value (gaps c) c.missing_in-gaps.ensures.inside c.requires.1
          (c.scope_limit.ensures.fits c.requires.0))
          (omega (arith, few c, says c, check, c.crc_len.ensures.short));
    }
