-- What two stations may still do, which each step of a settling lowers. Each PDU that a sender
-- sends or hears lowers the work that remains, also if the outbox can't read its data.
pub mod Sends
-- Each PDU that a receiver sends or hears, or that opens one, lowers the work that remains.
pub mod Receives
-- What an entity does with a PDU, by cases: its record makes its step, one is opened, an acknowledgement is queued, or it is dropped.
pub mod Routes
-- Every step of an entity keeps the bounds that its work needs.
pub mod Within
-- Each PDU that an entity sends, loses or hears lowers what it may still do.
pub mod Entity
-- No event takes what is held and sent at either station out of its bounds.
pub mod WithinWorld
-- Each poll, flush and delivery that does something lowers what a world may still do.
pub mod Settling
