pub mod BestSoFar
pub mod KnownKeys
pub mod PathSlips
pub mod Blocks
