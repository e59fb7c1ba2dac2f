-- A transaction at an index is one of 4,096 at the most.
use Rattle.std.proofs.Common.{◌≡◌, ℕ, ◌+◌, length, Option, Some, None, sym, arith}
use Rattle.std.specs.Prelude.{◌<◌, slice_get, IfSome}
use Rattle.std.proofs.lemmas.List.{length-map}
use Rattle.std.proofs.lemmas.Option.{slice_get_within}
use Rattle.cfdp_header.specs.declared.value.TransactionId.{TransactionId}
use Rattle.cfdp_directives.specs.declared.user.phase.Phase.{Phase}
use Rattle.cfdp_entity.specs.Table.{TableState}
use Rattle.cfdp_entity.specs.Walking.{phases_of, phase_told}

pub few : (r : Option (TransactionId × Phase)) (t : TableState) (place left : ℕ) → r ≡ slice_get (phases_of t) place → left + length t.records ≡ 4096 → IfSome r (λ x. place < 4096)
few None t place left e h = tt
few (Some x) t place left e h =
    let inside : place < length (phases_of t) = slice_get_within (phases_of t) place x (sym e) in
    let same : length (phases_of t) ≡ length t.records = length-map t.records phase_told in
    omega (arith, inside, same, h)
