mod CarrierLemmas
mod DatagramLemmas
mod Paces
