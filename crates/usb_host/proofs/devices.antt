-- The device at a port.
pub mod Causes
pub mod Fairness
pub mod Owners
pub mod Pipes
pub mod Plugs
pub mod UnmovedBulk
