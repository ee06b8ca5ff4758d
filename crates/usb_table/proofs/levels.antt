-- Pipes that are as far as their endpoints.
pub mod FittingPipes
pub mod NewPipes
pub mod PathCalls
pub mod SetLevels
pub mod StandingPipes
