pub mod GhostList
