-- What each field of a configuration must be, so that an entity can be set up so.
use Rattle.std.specs.Prelude.{◌≡◌, ◌≢◌, ◌≤◌, true}
use Rattle.cfdp_header.specs.Header.{FitsWidth, IsWidth}
use Rattle.cfdp_directives.specs.Pdu.Codes.{is_known}
use Rattle.cfdp_sender.specs.State.{most_segment}
use Rattle.cfdp_entity.specs.declared.config.EntityConfig.{EntityConfig}
use Rattle.cfdp_entity.specs.declared.amiss.EntityField.{EntityField}
use Rattle.cfdp_entity.specs.declared.amiss.EntityField.TheVariants as fields

abbrev pub Fits : EntityField → EntityConfig → Type 0
Fits fields.IdWidth c = IsWidth c.id_width
Fits fields.Entity c = FitsWidth c.entity c.id_width
Fits fields.Peer c = (c.entity ≢ c.peer) × FitsWidth c.peer c.id_width
Fits fields.NumberWidth c = IsWidth c.number_width
Fits fields.Segment c = (1 ≤ c.segment) × (c.segment ≤ most_segment)
Fits fields.ChecksumKind c = is_known c.checksum_kind ≡ true
Fits fields.EofTime c = 1 ≤ c.policy.times.eof
Fits fields.NakTime c = 1 ≤ c.policy.times.nak
Fits fields.FinishedTime c = 1 ≤ c.policy.times.finished
Fits fields.InactivityTime c = 1 ≤ c.policy.times.inactivity
