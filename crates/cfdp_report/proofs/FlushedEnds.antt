-- How a run may end once what waits in the buffer was written out.
use Rattle.std.proofs.Common.{◌≡◌, ◌⊎◌, subst, sym, ⊎_elim}
use Rattle.cfdp_report.specs.declared.exit.Exit.{Exit}
use Rattle.cfdp_report.specs.declared.exit.Exit.TheVariants.{Device}
use Rattle.cfdp_report.specs.declared.exit.Fault.TheVariants.{Unwritable}

-- a run stays as it was, or ends because the output can't be written
abbrev pub IsFlushedFrom : (exit ended : Exit) → Type 0
IsFlushedFrom exit ended = (ended ≡ exit) ⊎ (ended ≡ Device Unwritable)

pub either_end : (P : Exit → Type 0) (exit ended : Exit) → P exit → P (Device Unwritable) → IsFlushedFrom exit ended → P ended
either_end P exit ended same failed = ⊎_elim (λ e. subst P (sym e) same) (λ e. subst P (sym e) failed)
