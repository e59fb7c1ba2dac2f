use Rattle.std.proofs.Common.{refl}
use Rattle.cfdp_resuming.proofs.Back.{back-restored, back-lacking, back-tidy, back-well, back-owes, sender-back}
use Rattle.cfdp_resuming.proofs.laws.what_comes_back_is_true.Goals as goal

pub returns : goal.returns
returns c = record {
  restored = λ r m held sums n part there summed. back-restored r m held sums n part there summed r.phase refl;
  lacking = λ held sums r part lacking. back-lacking held sums r part lacking r.phase refl;
  tidy = λ held sums r. back-tidy held sums r r.phase;
  well = λ held sums r h. back-well held sums r r.phase h;
  owes = λ held sums r h. back-owes held sums r h r.phase refl;
  sender = λ file sent sums x low front cause. sender-back file sent sums x low front cause x.phase refl;
}
