-- What one step of a sender or a receiver does to the course of a put, all of it.
use Rattle.link_sim.proofs.Course.Laws.{CourseLaws}
use Rattle.link_sim.proofs.Course.Sends.{sender-sends}
use Rattle.link_sim.proofs.Course.SenderHears.{sender-hears}
use Rattle.link_sim.proofs.Course.SenderWaits.{sender-expires, sender-called}
use Rattle.link_sim.proofs.Course.Receives.{receiver-takes, receiver-hears, receiver-opens, none-hears, receiver-expires, receiver-called}
use Rattle.link_sim.proofs.Course.Opened.{opened, told-more}
use Rattle.link_sim.proofs.Course.Ends.{lost-forth, lost-back, completes}

pub course-laws : CourseLaws
course-laws = record {
  sender_sends = sender-sends;
  sender_hears = sender-hears;
  sender_expires = sender-expires;
  sender_called = sender-called;
  receiver_takes = receiver-takes;
  receiver_hears = receiver-hears;
  receiver_opens = receiver-opens;
  none_hears = none-hears;
  receiver_expires = receiver-expires;
  receiver_called = receiver-called;
  lost_forth = lost-forth;
  lost_back = lost-back;
  opened = opened;
  told_more = told-more;
  completes = completes;
}
