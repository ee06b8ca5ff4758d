-- Why an enumeration stops.
pub mod Endings
pub mod PlainStops
pub mod Reasons
pub mod StopReasons
pub mod Stops
