-- A world in which nothing went wrong, and that it settles complete.
-- That nothing was short, and what ended a settling, over several events.
pub mod Causes
-- The parts of a settling, one after the other.
pub mod Parts
-- What is indicated if nothing goes wrong: nothing bad.
pub mod WellHeard
-- What an entity makes of the PDUs that it hears, if nothing goes wrong: it indicates nothing bad,
-- gives up nothing, and drops nothing except for lack of room.
pub mod Hears
-- What entities serve and hear in turn, if nothing goes wrong.
pub mod Given
-- What a clean world says of its puts: each stays on the course of a link without losses, so each PDU on its way says the truth of one.
pub mod Puts
-- An event of a settling that goes well keeps a clean world clean.
pub mod Settles
-- If PDUs are dropped for lack of room, the table of their entity is full.
pub mod FullTables
-- A world in which nothing happened is clean, and a put that is accepted leaves a clean one clean.
pub mod First
-- In a clean world that has settled, every accepted put is complete, and closed at both ends.
pub mod Ends
-- Each accepted put is found, and is of one of the stations: so in a new world, and after every event.
pub mod Found
-- What isn't bad spoils no transaction, and pauses none.
pub mod NotBad
