-- The items of a run.
pub mod AskedItems
pub mod Moments
pub mod ReportedItems
pub mod ToldTransfers
pub mod Transcripts
