use Rattle.std.proofs.Common.{◌≡◌, ◌++◌, take, arith, refl}
use Rattle.cfd_bits.specs.Field.{octets}
use Rattle.cfdp_directives.proofs.Options.{location_whole, location_view, length-location}
use Rattle.cfdp_directives.proofs.pdu.tlv.Tlvs.fault_location_of.Goals as goal

pub invariant_of-result : goal.invariant_of-result
invariant_of-result c =
    let low = c.requires.width.1 in
    let text : take c.put_uint-len.result c.put_uint-len.new.out ≡ octets 1 c.from.result ++ octets 1 c.from-2.result ++ octets c.args.width c.args.entity =
    rw (c.put_uint-len.ensures.front, c.put_uint-at-2.ensures.front, c.put_uint-at.ensures.front) refl in (
      omega (arith, c.put_uint-len.ensures.end, c.put_uint-at-2.ensures.end, c.put_uint-at.ensures.end),
      location_whole c.args.entity c.args.width c.from.result c.from-2.result _ c.from.ensures c.from-2.ensures (omega arith) text,
    )

pub returns-clause-value : goal.returns-clause-value
returns-clause-value c =
    let low = c.requires.width.1 in
    let text : take c.put_uint-len.result c.put_uint-len.new.out ≡ octets 1 c.from.result ++ octets 1 c.from-2.result ++ octets c.args.width c.args.entity =
    rw (c.put_uint-len.ensures.front, c.put_uint-at-2.ensures.front, c.put_uint-at.ensures.front) refl in
    location_view c.args.entity c.args.width c.from.result c.from-2.result _ c.from.ensures c.from-2.ensures (omega arith) text

pub returns-clause-len : goal.returns-clause-len
returns-clause-len c = length-location c.args.entity c.args.width _ (returns-clause-value c)
