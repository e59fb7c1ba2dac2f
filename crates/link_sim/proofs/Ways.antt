-- One lane of a direction of a link, from end to end.
-- The sending end of a lane.
pub mod Sending
-- What a send and a flush do to a lane.
pub mod Sends
-- The receiving end of a lane: a frame is delivered or struck.
pub mod Receiving
-- A lane that takes a damaged frame counts it, and is otherwise as it was.
pub mod Damaged
-- The places of pieces of octets.
pub mod Placing
-- A frame is made of what waits.
pub mod Pulling
-- Frames leave, one after another, of both lanes.
pub mod Leaving
-- What the steps of a link do to a lane between events.
pub mod Carried
-- Both lanes of both directions of a first world: nothing was sent, and nothing taken.
pub mod First
-- Polls and flushes of one station, one after another.
pub mod Sendings
