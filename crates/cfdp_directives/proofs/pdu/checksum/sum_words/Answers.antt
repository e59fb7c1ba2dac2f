use Rattle.cfdp_directives.proofs.Sums.{word_more}
use Rattle.cfdp_directives.proofs.pdu.checksum.sum_words.Goals as goal

pub loop-word-preserved : goal.loop-word-preserved
loop-word-preserved c = record {
  sum = word_more c.args.old c.loop-word.word-index c.loop-word.sum c.from_be_bytes-sum.result c.args.words.now c.loop-word-test.true c.loop-word.invariant.sum
      (c.told-words c.loop-word.word-index c.loop-word-test.true) c.from_be_bytes-sum.ensures;
}
