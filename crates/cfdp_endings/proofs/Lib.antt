mod SenderAlone
mod ReceiverAlone
mod Tables
mod Entities
mod Rounds
mod Closing
pub mod Counts
pub mod Cursor
mod Dues
mod Worked
