pub mod Fronts
pub mod Interface
mod LineLemmas
