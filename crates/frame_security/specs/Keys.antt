-- The keys of one end of a link, and what changes with them. The sequence numbers go on, and so do
-- the counts of refused frames.
use Rattle.std.specs.Prelude.{Option, Some, None}
use Rattle.frame_security.specs.declared.keys.LinkKeys.{LinkKeys}
use Rattle.frame_security.specs.declared.keys.NamedKey.{NamedKey}
use Rattle.frame_security.specs.declared.opening.Association.{Association}
use Rattle.frame_security.specs.Sealing.{SealerState}
use Rattle.frame_security.specs.Opening.{OpenerState}

abbrev pub association : NamedKey → Association
association named = record { spi = named.spi; key = named.key }

abbrev pub association_of : Option NamedKey → Option Association
association_of None = None
association_of (Some named) = Some (association named)

-- a sealer that seals with these keys from now on
abbrev pub sealer_with : LinkKeys → SealerState → SealerState
sealer_with keys s = record s { spi = keys.send.spi; key = keys.send.key }

-- an opener that has these keys from now on, and no others
abbrev pub opener_with : LinkKeys → OpenerState → OpenerState
opener_with keys o = record o {
  latest = association keys.receive;
  former = association_of keys.former;
}
