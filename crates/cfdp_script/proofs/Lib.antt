pub mod Reports
pub mod Running
pub mod Leads
pub mod Counting
pub mod Endings
pub mod Gathers
pub mod ScriptRows
pub mod Flushing
