pub mod ServedBulk
pub mod Places
pub mod Loans
pub mod HolderIndex
pub use ServedBulk.{AreServed}
pub use Places.{falls, ports_kept, stood}
pub use Loans.{LendsInner, LendsPlace}
pub use HolderIndex.{IsIndexOf, IsIndexWithout, holder_in}
