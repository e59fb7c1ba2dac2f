-- What the debts of one transaction come to if it is at rest.
use Rattle.std.proofs.Common.{◌≡◌, ◌≤◌, Bool, true, [], refl, subst}
use Rattle.cfdp_directives.specs.User.Put.{Put}
use Rattle.cfdp_sender.specs.declared.phase.SenderPhase.TheVariants as sending
use Rattle.link_sim.specs.Course.{IsCourse}
use Rattle.link_sim.specs.Exchange.{has_ended, is_closed, maybe}
use Rattle.link_sim.specs.Runs.{Exchange}
use Rattle.link_sim.specs.Stages.{IsAtRest, IsCompleteExchange}
use Rattle.link_sim.proofs.Course.Ends.{ack-came, file-came, end-came}
use Rattle.link_sim.proofs.Stages.Runs.{CourseIn}
use Rattle.link_sim.proofs.Stages.Stand.{nothing-due}

module _ (put : Put) (acks files ends : Bool) (e : Exchange) (some : 1 ≤ e.sender.segment) (c : CourseIn put true acks files ends e) (r : IsAtRest e) where
  at-end : IsCourse put true acks files ends e.sender e.receiver [] [] e.told e.told_there
  at-end = subst (λ l. IsCourse put true acks files ends e.sender e.receiver [] l e.told e.told_there) r.back
      (subst (λ l. IsCourse put true acks files ends e.sender e.receiver l e.back e.told e.told_there) r.forth c)

  -- the EOF was acknowledged
  pub course-acknowledged : acks ≡ true → e.sender.phase ≡ sending.Sending → e.sender.acknowledged ≡ true
  course-acknowledged f is =
      ack-came put e.sender e.receiver e.told e.told_there some at-end.truth (at-end.active refl) r.sender (nothing-due e.receiver r.receiver) (at-end.ack_comes f) is

  -- the file was delivered
  pub course-delivered : files ≡ true → maybe has_ended e.receiver ≡ true
  course-delivered f =
      file-came put e.sender e.receiver e.told e.told_there some at-end.truth (at-end.active refl) r.sender (nothing-due e.receiver r.receiver) (at-end.file_comes f)

  -- with the file and the end, all is complete
  pub course-completes : files ≡ true → ends ≡ true → IsCompleteExchange e
  course-completes f g =
      let ended : maybe has_ended e.receiver ≡ true = course-delivered f in
      let closed : maybe is_closed e.receiver ≡ true =
      end-came put e.sender e.receiver e.told e.told_there some at-end.truth (at-end.active refl) r.sender (nothing-due e.receiver r.receiver) (at-end.end_comes g) ended in
      let over : e.sender.phase ≡ sending.Closed = c.truth.closed closed in
      record { sender = over; receiver = closed; told = c.truth.sender_told over; told_there = c.truth.receiver_told ended }
