-- The entries of the table.
pub mod EnteredFindings
pub mod Keys
pub mod Ranges
