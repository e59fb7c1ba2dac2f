pub mod Calls
pub mod Serving
pub mod Clerk
pub mod Limits
