pub mod Sighting
pub mod Continues
pub mod Capture
pub mod StationCapture
pub mod Pace
pub mod Trace
pub mod Chart
