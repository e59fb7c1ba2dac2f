use Rattle.cfdp_receiver.proofs.SoundLaws.{sound-more, among-last, sound-staged}
use Rattle.cfdp_receiver.proofs.Among.{sound-among}
use Rattle.cfdp_receiver.proofs.laws.more_is_heard.Goals as goal

pub returns-clause-more : goal.returns-clause-more
returns-clause-more c = sound-more

pub returns-clause-among : goal.returns-clause-among
returns-clause-among c put heard others r m among s = sound-among heard others among put r m s

pub returns-clause-last : goal.returns-clause-last
returns-clause-last c = among-last

pub returns-clause-staged : goal.returns-clause-staged
returns-clause-staged c = sound-staged
