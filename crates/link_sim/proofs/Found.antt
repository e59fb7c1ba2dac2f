-- Each put has its transaction in a world. The put of a transaction, and that it stays what it is
-- if more are accepted.
pub mod Puts
-- Each put has its transaction in a world, just one, and as long as nothing spoiled the put it is on its course.
pub mod Exchanges
-- A station is given the time: what becomes of the transaction of a put, of that station or of the
-- other one.
pub mod ExpiresWorld
-- A station is given the time of a world: what becomes of each put's transaction.
pub mod ExpiresOn
-- A put's transaction rests if the world is settled, and what will arrive is on its way.
pub mod Ends
