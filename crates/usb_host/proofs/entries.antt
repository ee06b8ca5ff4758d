-- The entries of the table.
pub mod Agreements
pub mod KeptBytes
pub mod KindCounts
pub mod Ranks
pub mod Roots
