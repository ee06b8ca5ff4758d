pub mod Stretches
pub mod Heads
pub mod Endpoints
pub mod Streams
-- the words of this crate, wherever one stands
pub use Stretches.{AreMade, IsStretch, LiesBetween, Stretch, ToldItem, begun, further, last, more}
pub use Stretches.{round, silent, wrote}
pub use Heads.{HeadAt, IsUntouched, KeepsStreams, MovesNothing, SameStreams}
pub use Endpoints.{AreJoined, ArePackets, ClearsNone, Endpoint, FailsPlain, IsAtWork, Joins}
pub use Endpoints.{SetsNone}
pub use Endpoints.{bytes_for, bytes_from, endpoint_at, first_of, has_way, is_done, is_of, is_this}
pub use Endpoints.{pipe_of}
unfoldable pub use Endpoints.{AreGiven, AreTaken, IsFailedFront, received_from, sent_to}
pub use Streams.{FindsAnew, FoundSince, GaveNextBy, GaveThrough, GaveTold, InStream, OutStream}
pub use Streams.{RegistersStay}
pub use Streams.{StartsAt, StoodAt, StoodOrFound, StreamsAt, TookSent, in_look, in_round}
