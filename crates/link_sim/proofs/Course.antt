-- What is true of one put between its two ends, and what is still owed, kept by every step.
-- What one step of a sender or a receiver does to the course of a put: the lemmas that the lift to two tables takes, as one record.
pub mod Laws
-- What one step of a receiver changes of the course of a put: by a PDU that it hears, and by all else.
pub mod Steps
-- What a PDU leaves of a receiver that still receives: more is known and held, and the file is delivered once all is there.
pub mod Gains
-- What a true PDU leaves of a receiver that knows nothing but the truth of a put.
pub mod Heard
-- What is true between a sender and a receiver of a put stays so if the receiver hears, sends or is
-- opened, and if a PDU is lost.
pub mod Truth
-- What a receiver sends, and all that happens to it except a PDU, keeps a put on its course.
pub mod Does
-- The receiver's steps keep a put on its course.
pub mod Receives
-- What a list of PDUs says once one of them was taken out of it, or one was added at its end.
pub mod Lists
-- What one step of a sender does to it, as the course of its put sees it.
pub mod SenderSteps
-- What is true between a sender and a receiver stays so, whatever the sender does.
pub mod SenderTruth
-- As long as nothing is lost, each step keeps each debt of a put.
pub mod Debts
-- What a NAK asks for, what a sender must do that hears it, and that a receiver goes on asking for
-- what it misses: an EOF, and an expiry of Nak, make it ask for all.
pub mod Asks
-- A put stays on its course if its sender keeps what it must do, and if a PDU is taken from those
-- on their way to it.
pub mod SenderStays
-- A PDU that a sender sends keeps its put on its course.
pub mod Sends
-- A PDU that a sender hears keeps its put on its course.
pub mod SenderHears
-- A timer of a sender that expires, and a call of its user, keep its put on its course as long as nothing spoils it.
pub mod SenderWaits
-- A put is on its course once it is made, and stays so if more is indicated.
pub mod Opened
-- What is true of a put stays so if a PDU is lost; and what its debts come to once nothing is due
-- and nothing is on its way: it is complete.
pub mod Ends
-- What one step of a sender or a receiver does to the course of a put, all of it.
pub mod All
