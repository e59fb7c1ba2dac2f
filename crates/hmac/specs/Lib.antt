pub mod Hmac
pub mod Begun
