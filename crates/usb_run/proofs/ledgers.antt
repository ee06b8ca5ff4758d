-- What is left to do, and what it costs.
pub mod Enough
pub mod EventsLeft
pub mod Ledgers
pub mod PlanWeights
pub mod RunBounds
pub mod Sums
pub mod VoidRuns
