-- Rounds of a recovery, and how they end. Rounds of a recovery, one after the other, and how often
-- the time was given in them.
pub mod Rounds
-- The transactions of a world, by its records.
pub mod Records
-- A round of a recovery: the time is given at a station, and all is settled again.
pub mod Round
-- Rounds of a recovery are no more than there are records: in each one gets done.
pub mod Count
-- The first settling of a recovery: if every unfinished transaction waits below its limits, each
-- stands still then until a timer of it expires, or nothing comes of it.
pub mod First
-- The end of a recovery: if no timer but Inactivity's is armed, each transaction that stands is
-- complete.
pub mod End
-- Two worlds with the same puts, and the runs that transactions made between them.
pub mod Along
-- What a recovery comes to, if all that was unfinished waited below its limits.
pub mod Recovered
-- The laws of one transaction by which a recovery is followed.
pub mod Laws
