pub mod Carrier
pub mod CarrierWire
pub mod DatagramWire
pub mod Paced
pub mod Pacer
pub mod Transport
