-- Exported: what a receiver holds keeps a limit of gaps.
use Rattle.std.proofs.Common.{◌≡◌, ℕ, ◌≤◌, ◌+◌, Bool, true, false, [], Option, Some, None, sym, ap, subst, arith, refl, if◌then◌else◌}
use Rattle.std.specs.FinSet as set
use Rattle.cfdp_header.specs.Files.{FileMap}
use Rattle.cfdp_extents.specs.Offsets.{Offsets, range, union_of}
use Rattle.cfdp_extents.specs.Count.{gap_count, admits}
use Rattle.cfdp_extents.proofs.Counted.{among-is, keeps-limit}
use Rattle.cfdp_store.specs.declared.stored.Stored.{Stored}
use Rattle.cfdp_store.specs.declared.stored.Stored.TheVariants.{Done, Refused}
use Rattle.cfdp_store.specs.Staged.{OctetMap}
use Rattle.cfdp_receiver.specs.declared.state.FileInfo.{FileInfo}
use Rattle.cfdp_receiver.specs.declared.state.Ending.{Ending}
use Rattle.cfdp_receiver.specs.State.{ReceiverState}
use Rattle.cfdp_receiver.specs.Limit.{is_admitted, KeepsLimit}
use Rattle.cfdp_receiver.specs.Steps.{ReceiverAfter, completed_by, completed, leaving, published_by, faulted, agrees}
use Rattle.cfdp_receiver.specs.Steps as steps

none-counted : 0 ≡ gap_count set.empty
unfolding union_of
none-counted = among-is [] tt

-- nothing held has no gap
pub none-keeps : (most : Option ℕ) (held : Offsets) → held ≡ set.empty → KeepsLimit most held
none-keeps None held none = tt
none-keeps (Some most) held none = omega (arith, ap gap_count none, none-counted)

-- a part that is admitted keeps the limit
pub admitted-keeps : (most : Option ℕ) (held new : Offsets) (start end : ℕ) → new ≡ set.union held (range start end) → true ≡ is_admitted most held start end → KeepsLimit most held → KeepsLimit most new
admitted-keeps None held new start end is in_limit keeps = tt
admitted-keeps (Some most) held new start end is in_limit keeps = subst (λ (h : Offsets). gap_count h ≤ most) (sym is) (keeps-limit most start end held (sym in_limit) keeps)

-- so does the completion test
either-way : (most : Option ℕ) (b : Bool) (x y : ReceiverAfter) → KeepsLimit most x.receiver.held → KeepsLimit most y.receiver.held → KeepsLimit most (if b then x else y).receiver.held
either-way most true x y h k = h
either-way most false x y h k = k

published-keeps : (most : Option ℕ) (stored : Stored) (info : FileInfo) (ending : Ending) (m : OctetMap) (files : FileMap) (r : ReceiverState) → KeepsLimit most (published_by stored info ending m files r).receiver.held
published-keeps most Done info ending m files r = none-keeps most set.empty refl
published-keeps most Refused info ending m files r = none-keeps most set.empty refl

by-keeps : (most : Option ℕ) (stored : Stored) (metadata : Option FileInfo) (ending : Option Ending) (m : OctetMap) (files : FileMap) (r : ReceiverState) → KeepsLimit most r.held →
    KeepsLimit most (completed_by stored metadata ending m files r).receiver.held
by-keeps most stored None ending m files r keeps = keeps
by-keeps most stored (Some info) None m files r keeps = keeps
by-keeps most stored (Some info) (Some ending) m files r keeps =
    either-way most (set.is_subset (range 0 ending.size) r.held) _ _
    (either-way most (agrees info ending r.sums) _ _ (published-keeps most stored info ending m files r) (none-keeps most set.empty refl))
    keeps

pub completed-keeps : (most : Option ℕ) (stored : Stored) (m : OctetMap) (files : FileMap) (r new : ReceiverState) → new ≡ (completed stored m files r).receiver → KeepsLimit most r.held → KeepsLimit most new.held
completed-keeps most stored m files r new is keeps =
    subst (λ (x : ReceiverState). KeepsLimit most x.held) (sym is) (by-keeps most stored r.metadata r.ending m files r keeps)
