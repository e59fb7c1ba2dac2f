use Rattle.std.proofs.Common.{◌≡◌, ◌+◌, ◌%◌, ◌^◌, take}
use Rattle.std.specs.Prelude.{sum_by}
use Rattle.cfdp_directives.specs.Pdu.Checksum.{sum_at}
use Rattle.cfdp_directives.proofs.pdu.checksum.sum_words.Given as goal

abbrev pub invariant-loop-word : goal.invariant-loop-word
invariant-loop-word l = record { sum : l.sum ≡ (l.old + sum_by (λ word. sum_at 0 word) (take l.word-index l.words)) % 2 ^ 32 }
