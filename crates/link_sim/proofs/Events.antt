-- What each event keeps of two stations, and the promises that follow.
-- What an event does to a lane of what a station sent, as the other end sees it.
pub mod AtStations
-- What an event does to one station and to both lanes of what it sent is a step of the world.
pub mod InWorlds
-- A damaged frame that comes to a station in the place of a frame of the other one is a step of the
-- world.
pub mod Damaged
-- A station that keeps its frames back until it was polled and flushed, beside one of a world, whose frames leave at once: both do the same, and are the same
-- once all frames have left.
pub mod Behind
-- What every event keeps of two stations, and the promises that follow: from the laws of an entity, and from what the steps do to the two directions.
pub mod Keeping
-- What each event does to both sides, by the laws of an entity.
pub mod Moving
-- Two stations in which nothing happened are sound; and what each event comes to.
pub mod Beginning
-- What a step comes to that may have found no memory.
pub mod Stepping
-- What follows of more events, in the words of what is seen.
pub mod Folding
-- Events that happen one after another.
pub mod Happening
-- What any calls of a world come to: one event after another.
pub mod Leading
-- What a station published changes in no event but a delivery to it.
pub mod FilesKept
-- What every event keeps beside the promises: between events no whole zone waits, and no two puts have the same id.
pub mod Resting
