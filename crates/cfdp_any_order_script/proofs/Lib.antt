mod SameEntries
mod Counts
mod Noted
mod Playing
mod Ending
mod Settling
mod Running
mod Simulating
