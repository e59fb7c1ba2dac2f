-- The run of its own that a put makes in a settling in which nothing is short. The run of its own
-- that a put makes if one of the two entities makes a step of the record at a place.
pub mod Places
-- What each step of a sender or a receiver, in a settling in which nothing is short, is of the run that its put makes.
pub mod Records
-- The run of its own that a put makes if one of the two entities hears a PDU, and nothing is short
-- there.
pub mod Hears
-- The run of its own that a put makes if one of the two entities hears PDUs in turn, or sends one,
-- and nothing is short.
pub mod Given
-- The run of its own that each put makes in an event of a settling in which nothing is short.
pub mod World
