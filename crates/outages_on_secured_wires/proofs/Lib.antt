mod Standing
mod Ordering
mod Growing
mod Counting
mod Completing
mod Late
