-- Every put of two stations stays on its course.
-- What the octets on their way say: each text is one PDU, and what is heard of it is that PDU.
pub mod Pdus
-- What an entity does with a PDU that is for it and of an accepted put: its record makes its step, one is opened, or it is dropped.
pub mod Routes
-- What is known of a transaction stays so, whatever happens to the entities and to what is on its way between them.
pub mod Known
-- An accepted put is one more of those found by their transactions, and all other events find the same puts.
pub mod Puts
-- What is seen of one put in two entities: PDUs and indications by transaction, counts of drops, and that what spoils nothing after a step spoiled nothing
-- before it.
pub mod Views
-- A put stays on its course if an entity goes on: by what becomes of its two records and of its
-- PDUs on their way.
pub mod Goes
-- What each step of a sender does to the course of its put, and that it stays cancelled unless it
-- indicates something that spoils the put.
pub mod Sends
-- What each step of a receiver does to the course of a put of the other entity.
pub mod Receives
-- A put stays on its course if one of the two entities makes a step of the record at a place.
pub mod Steps
-- A put stays on its course if timers of one of the two entities expire.
pub mod Ticks
-- A put stays on its course if the PDU at the front of a way is heard, or lost.
pub mod Hears
-- A put stays on its course whatever its entity does (`mine-`), or the other one (`theirs-`): one lemma for each step.
pub mod Steady
-- What was lost stays lost: if a world lost nothing, none before it had.
pub mod Lost
-- PDUs that were the first on their way to an entity: each is heard, or lost if that may be, and
-- each put stays on its course.
pub mod Heard
-- What is kept of the puts of two entities and of their PDUs on their way, by each step of one of the two.
pub mod Kept
-- Each put stays on its course: a new world keeps it, and so does every event.
pub mod Events
