pub mod Tracer
pub mod Sim
pub mod Parts
pub mod Follow
-- the words of this crate, wherever one stands
pub use Tracer.{writer_in}
pub use Sim.{device_at, registers_of, trace_of, tracer_of, world_of, writer_of}
pub use Parts.{AttemptMade, EventsCame, LeavesAttempt, OneEventCame}
pub use Parts.{answered_by, answered_in, data_length}
pub use Follow.{followed, is_alike}
pub use declared.tracer.Trace.{Ghosts}
