-- Fuses: stores that fail from a chosen call on.
use Rattle.std.specs.Prelude.{◌≡◌, ℕ, ◌+◌, ◌-◌, ◌^◌, ◌<◌, min, false}
use Rattle.cfdp_store.specs.declared.fuse.Fuse.{Fuse}
use Rattle.cfdp_store.specs.Stores.{failures_after}

-- a fuse after a call that it let through
abbrev pub burnt : Fuse → Fuse
burnt f = record { left = f.left - 1; refused = f.refused }

-- a fuse after a call that it refused
abbrev pub blown : Fuse → Fuse
blown f = record { left = f.left; refused = failures_after f.refused false }

-- the failures of a store, and the calls that its fuse refused. If the count is the greatest u64,
-- it stays so
abbrev pub all_failures : ℕ → Fuse → ℕ
all_failures store fuse = min (store + fuse.refused) (2 ^ 64 - 1)

module _ {S C : Type 0} (Steps : S → C → S → Type 0) (Refuses : C → Type 0) where
  -- A call through a fuse that has calls left is one call of the store, with the same arguments and
  -- the same answer. If the fuse is blown, the store isn't called
  abbrev pub Passes : S → Fuse → C → S → Fuse → Type 0
  Passes store fuse call store_after fuse_after =
      (0 < fuse.left → Steps store call store_after × (fuse_after ≡ burnt fuse))
      × (fuse.left ≡ 0 → Refuses call × (store_after ≡ store) × (fuse_after ≡ blown fuse))
