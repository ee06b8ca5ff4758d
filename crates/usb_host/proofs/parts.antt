-- The parts of a round, and what comes between them.
pub mod Events
pub mod Openings
