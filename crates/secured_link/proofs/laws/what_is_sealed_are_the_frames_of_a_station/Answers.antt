use Rattle.secured_link.proofs.Keeping.{all_sent, starts}
use Rattle.secured_link.proofs.laws.what_is_sealed_are_the_frames_of_a_station.Goals as goal

pub returns-clause-sent : goal.returns-clause-sent
returns-clause-sent g c = λ count old new sent all k kept. all_sent g.W.Wire.steps g.K.Keeper.calls count old new sent all k.before k.latest kept

pub returns-clause-started : goal.returns-clause-started
returns-clause-started g c = λ all next now first number config old new anew kept up. starts all next now first number config old new anew kept up
