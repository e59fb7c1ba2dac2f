-- One lane of a direction may overtake the other. Lists over two lanes, one after the other: what
-- is put at the end of a lane, and what is taken from its front.
pub mod Joined
-- The counts of drops of both lanes, which are reported as one number.
pub mod Counts
-- The lanes of both directions that an event leaves as they were.
pub mod Ways
-- What a direction delivered and what was sent on it, once a frame of one of its lanes was taken.
pub mod Heard
-- What both lanes of a direction have, if each lane is as it was.
pub mod Same
-- A list has the same members after two of its parts changed places: so a course, and all else that
-- is known of the PDUs on their way, stays if one lane overtakes the other.
pub mod Swapping
-- What holds of one lane and of the other one holds of both.
pub mod Each
-- The lane whose frame leaves next, and the lane that a frame comes to.
pub mod Frames
-- What will arrive over two lanes: of each lane all that is on its way, or all but the first, if
-- the front of its packet was lost.
pub mod Arrive
