use Rattle.std.proofs.Common.{ℕ, ◌+◌, ◌-◌, ◌<◌, ◌≤◌, length, refl, sym, ◌∙◌, arith}
use Rattle.batches.proofs.Cutting.{stands, fits_at, found_at, only_at, room_at, sum_at}
use Rattle.batches.proofs.batch.first_batch.Goals as goal
use Rattle.batches.proofs.batch.first_batch.Goals.{then-count-eq0-via-then-count-eq0, then-count-eq0-via-else-count-eq0+then-bytes-count}

pub returns-then-bytes-le-HEAD_LEN-clause-only : goal.returns-then-bytes-le-HEAD_LEN-clause-only
returns-then-bytes-le-HEAD_LEN-clause-only c text rest fits is = let s = stands c.args.bytes.now text rest fits.short is in omega (arith, s.room, fits.some)

pub returns-then-count-eq0-clause-only : goal.returns-then-count-eq0-clause-only
returns-then-count-eq0-clause-only c text rest fits is =
    let n : ℕ = c.read_eight-count.result in
    let r : (12 + n ≤ length c.args.bytes.now) × (0 < n) = room_at c.args.bytes.now n n refl c.read_eight-count.ensures text rest fits is in
    elim c.then-count-eq0.branch [ then-count-eq0-via-then-count-eq0 w ↦ omega (arith, r.1) | then-count-eq0-via-else-count-eq0+then-bytes-count w ↦ omega (arith, r.0) ]

pub returns-then-of-check-clause-found : goal.returns-then-of-check-clause-found
returns-then-of-check-clause-found c =
    let n : ℕ = c.read_eight-count.result in (
      fits_at c.args.bytes.now (12 + n - 12) n (omega arith) c.read_eight-count.ensures (omega arith) (omega arith) (omega arith),
      found_at c.args.bytes.now (12 + n - 12) n (omega arith) c.read_eight-count.ensures (λ i. omega (arith, c.type_inv.bytes i)) (omega arith) (omega arith)
          (sym c.of.ensures ∙ c.if-of-check.true ∙ c.read_four-check.ensures),
    )

pub returns-then-of-check-clause-only : goal.returns-then-of-check-clause-only
returns-then-of-check-clause-only c text rest fits is =
    let n : ℕ = c.read_eight-count.result in
    only_at c.args.bytes.now (12 + n - 12) n (omega arith) c.read_eight-count.ensures text rest fits is

pub returns-else-of-check-clause-only : goal.returns-else-of-check-clause-only
returns-else-of-check-clause-only c text rest fits is =
    let n : ℕ = c.read_eight-count.result in
    absurd (c.if-of-check.false (c.of.ensures ∙ sum_at c.args.bytes.now (12 + n - 12) n (omega arith) c.read_eight-count.ensures text rest fits is ∙ sym c.read_four-check.ensures))
