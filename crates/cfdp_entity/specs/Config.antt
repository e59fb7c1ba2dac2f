-- What the configuration of an entity must be.
use Rattle.std.specs.Prelude.{◌≡◌, ◌≢◌, ◌≤◌, true}
use Rattle.cfdp_header.specs.Header.{FitsWidth, IsWidth}
use Rattle.cfdp_directives.specs.Pdu.Codes.{is_known}
use Rattle.cfdp_directives.specs.User.Limits.{IsValidTimes}
use Rattle.cfdp_sender.specs.State.{most_segment}
use Rattle.cfdp_entity.specs.declared.config.EntityConfig.{EntityConfig}

-- The two entities must be two, and their ids must fit their width.
pub record HasIds (c : EntityConfig) : Type 0 where
  pub apart : c.entity ≢ c.peer
  pub entity : FitsWidth c.entity c.id_width
  pub peer : FitsWidth c.peer c.id_width

-- How files are sent must be in its range.
pub record HasSending (c : EntityConfig) : Type 0 where
  pub number_width : IsWidth c.number_width
  pub some : 1 ≤ c.segment
  pub most : c.segment ≤ most_segment
  pub checksum_kind : is_known c.checksum_kind ≡ true

-- An entity can be set up so.
pub record IsConfig (c : EntityConfig) : Type 0 where
  pub ids : HasIds c
  pub sending : HasSending c
  pub times : IsValidTimes c.policy.times
