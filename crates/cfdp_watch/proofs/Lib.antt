pub mod Traces
pub mod Captures
pub mod StationCaptures
pub mod Charts
