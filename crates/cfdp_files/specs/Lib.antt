pub mod InboxFolder
pub mod Reserving
pub mod StateText
