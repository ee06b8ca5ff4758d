pub mod Linked
pub mod Exports
pub mod Slots
pub use Linked.{AsksIn, AsksOn, DevicesState, Fetches, IsPlanOf, IsUnopened, devices_state}
pub use Linked.{fault_in, fault_of, scene_of}
pub use Exports.{Asked, Closes, Says, StaysClosed, ask_number, far_number, held_by, open_number}
pub use Slots.{slot_owns}
