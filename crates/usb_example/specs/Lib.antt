pub mod Counted
-- the words of this crate, wherever one stands
pub use Counted.{count_with, counts_behind, counts_with, no_counts}
