-- The lemmas that crates above cite. All others are for this crate alone.
pub use Rattle.usb_host.proofs.devices.Pipes.{stay_event}
pub use Rattle.usb_host.proofs.devices.Plugs.{plugs_opening, plugs_same}
pub use Rattle.usb_host.proofs.entries.Roots.{accounted}
pub use Rattle.usb_host.proofs.knowledge.SettledListings.{settled_matches}
pub use Rattle.usb_host.proofs.knowledge.Soundness.{sound_event, sound_none}
