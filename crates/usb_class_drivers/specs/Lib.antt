pub mod Places
pub mod Faults
pub mod Calls
pub mod Interfaces
pub mod Commands
pub mod Statuses
pub mod Capacities
pub mod Reports
pub mod Requests
pub mod Keyboards
pub mod Transports
pub mod Disks
pub use Places.{has_that_number, is_there, place_at}
pub use Faults.{driver_told, is_stalled}
pub use Calls.{CallOf, Called, Clears, Polls, Receives, Sends, Writes}
pub use Interfaces.{end_of, end_with, interface_at, is_of_kind, moves_as, opened, packet_size_of}
pub use Interfaces.{with_end}
unfoldable pub use Interfaces.{found_from}
pub use Commands.{block_of, is_in, moving_block, size_of, wrapper}
pub use Statuses.{IsNoStatus, StatusTold, has_none, has_status, outcome_byte, residue_if}
pub use Statuses.{residue_told, status_bytes}
pub use Reports.{is_known, is_pressed, pressed, report_of}
pub use Requests.{class_request}
pub use Keyboards.{AsksOnce, AsksReport, Begins, KeyboardOpens, clear_told, given_if}
pub use Keyboards.{keyboard_at, keyboard_of, keyboard_with, keys_told, poll_told, set_idle}
pub use Keyboards.{set_protocol, set_report}
pub use Transports.{Collects, Concludes, Gives, Puts, Recovers, SendsCommand, Takes, came}
pub use Transports.{came_none, packets_of, put, reset_request, taken, taken_if, transport_at}
pub use Transports.{transport_of, transport_with, went, with_next_tag}
pub use Capacities.{IsNoCapacity, capacity_bytes}
pub use Disks.{AsksSize, DiskOpens, SizeTold, SizesFailed, WritesBlocks}
pub use Disks.{is_failed, next_disk}
