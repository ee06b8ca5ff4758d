pub mod Checks
pub mod Statuses
-- the words of this crate, wherever one stands
pub use Checks.{checked}
pub use Statuses.{bench_status, device_status, exit_status, explain_status, far_status}
pub use Statuses.{fault_status, line_status, live_status, pcap_status, places_status, serve_status}
pub use declared.fault.Fault.{Fault}
