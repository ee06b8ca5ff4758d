-- The lemmas that crates above cite. All others are for this crate alone.
pub use Rattle.usb_descriptor.proofs.Devices.{whole_of}
pub use Rattle.usb_descriptor.proofs.Hubs.{hub_spelled-wide}
pub use Rattle.usb_descriptor.proofs.StatusEndpoints.{status_endpoint-usable, status_endpoint-wide}
pub use Rattle.usb_descriptor.proofs.Texts.{header_of, joined-item}
pub use Rattle.usb_descriptor.proofs.UsableNumbers.{usable_under-no_text, usable_under-small}
pub use Rattle.usb_descriptor.proofs.Apart.{belongs_to-elsewhere, length-default_settings}
pub use Rattle.usb_descriptor.proofs.Apart.{length-with_setting, setting_of-with_setting}
pub use Rattle.usb_descriptor.proofs.Apart.{usable-elsewhere, usable-named, usable-own}
