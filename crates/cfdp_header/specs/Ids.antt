-- Transaction ids: when two are the same, and their order.
use Rattle.std.specs.Prelude.{Bool, ◌==◌, ◌&&◌}
use Rattle.std.specs.declared.cmp.Ordering.{Ordering}
use Rattle.std.specs.Ordering.{nat_cmp, on, then_cmp}
use Rattle.cfdp_header.specs.declared.value.TransactionId.{TransactionId}

-- true if two ids name one transaction
abbrev pub same_id : TransactionId → TransactionId → Bool
same_id a b = (a.source == b.source) && (a.number == b.number)

-- by source, and then by number
abbrev pub id_cmp : TransactionId → TransactionId → Ordering
id_cmp = then_cmp (on (λ i. i.source) nat_cmp) (on (λ i. i.number) nat_cmp)
