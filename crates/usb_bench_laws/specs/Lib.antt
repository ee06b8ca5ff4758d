pub mod OwnListings
pub mod Runs
pub mod PlacedRuns
pub mod JudgedRuns
pub mod Alike
-- the words of this crate, wherever one stands
pub use OwnListings.{HavePaths, ListsEntries, SaidDevice, SaidPort, claim_of_entry, claim_said}
pub use OwnListings.{device_of_entry, device_said, port_of_entry, port_said, ports_of_entries}
pub use Runs.{AgreeIn, AllCome, Comes, IsToCome, Plays, follows, goes_on, run}
unfoldable pub use Runs.{world_after}
pub use PlacedRuns.{PlacedRun, asks, does, placed, sees}
pub use JudgedRuns.{IsPlacedRun}
pub use Alike.{RepliesAsFar}
