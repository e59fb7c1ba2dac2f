-- How far one transaction has come in a recovery.
-- What the steps of a settling leave of a sender and of a receiver: what was answered or closed stays so, and no count rises.
pub mod Keep
-- A transaction at rest stays as it is, and what is over stays over.
pub mod Rest
-- A run of one transaction keeps what is true of it, and each of its debts.
pub mod Runs
-- What a transaction waits for that stands still, and that it is complete if it waits for nothing.
pub mod Stand
-- A transaction that was sent less often than it may be, once it has settled, stands still, and that is so still.
pub mod Below
-- What the debts of one transaction come to if it is at rest.
pub mod Ends
-- If a receiver knows no EOF, and none comes, a run leaves it so; and if one comes, all debts are
-- paid.
pub mod Unheard
-- If timers of a sender expire in a transaction that stands still: it stands still once it has
-- settled, and its EOF was acknowledged if it was for that that they waited.
pub mod Rounds
-- A timer of a receiver that expires and is waited for: what is missing is asked for again, or the Finished falls due again, and so all debts are paid; a
-- timer more changes nothing of it.
pub mod Owing
-- If timers of a receiver expire in a transaction that stands still: once it has settled it stands
-- still again, and it is complete if what they waited for was more than that something comes.
pub mod RoundsThere
