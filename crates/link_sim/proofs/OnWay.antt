-- What is on its way in a direction, and what will arrive. The PDUs of a direction that will arrive
-- if no more is lost, after each kind of step.
pub mod Arriving
-- Of the packets of a stream those that end after a limit, and what comes of them if the limit
-- moves on by a zone.
pub mod Lists
-- An end that sends between events: no whole zone waits, and after a flush nothing but octets of
-- its idle packet.
pub mod Rests
-- The PDUs on their way in a direction, and the octets and frames that it has left, after each kind of step.
pub mod Pdus
-- The octets and frames that a direction has left, after each kind of step.
pub mod Left
-- The PDUs on their way between two stations, and what both directions have left, after each kind of event of a settling.
pub mod World
-- The PDUs that will arrive from a station if no more is lost, after each event of a settling.
pub mod ArrivingWorld
