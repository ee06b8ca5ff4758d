-- How runs end.
pub mod Causes
pub mod Ends
