-- Keys that may be used together: each has an SPI of its own, and no two are the same.
use Rattle.std.specs.Prelude.{◌≡◌, ◌≢◌, ◌≤◌, ◌⊎◌, ℕ, Option, Some, None, IfSome, IsSome}
use Rattle.frame_security.specs.declared.keys.LinkKeys.{LinkKeys}
use Rattle.frame_security.specs.declared.keys.NamedKey.{NamedKey}
use Rattle.key_file.specs.declared.draft.Draft.{Draft}
use Rattle.key_file.specs.declared.draft.Direction.{Direction}
use Rattle.key_file.specs.declared.draft.Direction.TheVariants.{Send, Receive}

-- an SPI that the standard leaves to its users (CCSDS 355.0-B-2, Security Header)
abbrev pub IsSpi : ℕ → Type 0
IsSpi spi = (1 ≤ spi) × (spi ≤ 65534)

abbrev pub Differ : NamedKey → NamedKey → Type 0
Differ a b = (a.spi ≢ b.spi) × (a.key ≢ b.key)

-- a key differs from another one, if there is one
abbrev pub DiffersFrom : NamedKey → Option NamedKey → Type 0
DiffersFrom key other = IfSome other (Differ key)

-- the keys of a station
pub record AreApart (k : LinkKeys) : Type 0 where
  pub send : IsSpi k.send.spi
  pub receive : IsSpi k.receive.spi
  pub former : IfSome k.former (λ f. IsSpi f.spi)
  pub directions : Differ k.send k.receive
  pub send_former : DiffersFrom k.send k.former
  pub receive_former : DiffersFrom k.receive k.former

-- the same of the keys of the lines so far
pub record IsDraft (d : Draft) : Type 0 where
  pub send : IfSome d.send (λ k. IsSpi k.spi)
  pub receive : IfSome d.receive (λ k. IsSpi k.spi)
  pub former : IfSome d.former (λ k. IsSpi k.spi)
  pub directions : IfSome d.send (λ k. DiffersFrom k d.receive)
  pub send_former : IfSome d.send (λ k. DiffersFrom k d.former)
  pub receive_former : IfSome d.receive (λ k. DiffersFrom k d.former)

-- The key of a line goes to its direction. The first one to receive with is the latest, the second
-- one the former.
abbrev pub Adds : Direction → NamedKey → Draft → Draft → Type 0
Adds Send key old new = (old.send ≡ None) × (new ≡ record old { send = Some key })
Adds Receive key old new = ((old.receive ≡ None) × (new ≡ record old { receive = Some key }))
    ⊎ (IsSome old.receive × (old.former ≡ None) × (new ≡ record old { former = Some key }))
