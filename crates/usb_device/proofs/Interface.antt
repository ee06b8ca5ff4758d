-- The lemmas that crates above cite. All others are for this crate alone.
pub use Rattle.usb_device.proofs.Attempts.{in_is, out_is, same_number, setup_is, silent-stays}
pub use Rattle.usb_device.proofs.Attempts.{silent-unread}
pub use Rattle.usb_device.proofs.RowsOfEnds.{at_each, at_mapped, at_other, at_same}
pub use Rattle.usb_device.proofs.ServedNumbers.{served-in, served-out}
pub use Rattle.usb_device.proofs.TakenSettings.{in_end-setting, in_max-elsewhere}
pub use Rattle.usb_device.proofs.TakenSettings.{is_of_setting-elsewhere, out_end-setting}
pub use Rattle.usb_device.proofs.TakenSettings.{out_max-elsewhere}
pub use Rattle.usb_device.proofs.Repeated.{begun-twice, outcome-again}
pub use Rattle.usb_device.proofs.EndpointPackets.{gives-append}
pub use Rattle.usb_device.proofs.progress.BulkProgress.{bulk_law_is, other-other, source_on}
pub use Rattle.usb_device.proofs.progress.ChangesProgress.{law_is, other_toggle, poll_on}
pub use Rattle.usb_device.proofs.progress.ControlProgress.{control_read, is_same-refl}
pub use Rattle.usb_device.proofs.progress.WriteProgress.{control_write}
pub use Rattle.usb_device.proofs.progress.WriteProgress.{out_only_write}
pub use Rattle.usb_device.proofs.Deliveries.{heard_of-append}
pub use Rattle.usb_device.proofs.Figures.{answer-spec, figure-after}
pub use Rattle.usb_device.proofs.ToldChanges.{told-back}
pub use Rattle.usb_device.proofs.OwnOutcomes.{asked_own-any, asked_own-to_host}
pub use Rattle.usb_device.proofs.packets.RowFrames.{keeps-received}
pub use Rattle.usb_device.proofs.packets.Packets.{packets_joined-is, packets_joined-whole}
pub use Rattle.usb_device.proofs.packets.Packets.{packet-fits, packet-further}
pub use Rattle.usb_device.proofs.places.FirstPlaces.{changed_at-port}
pub use Rattle.usb_device.proofs.places.FirstPlaces.{changed_at-same, changed_at-twice}
pub use Rattle.usb_device.proofs.places.FirstPlaces.{changed_at-zero}
pub use Rattle.usb_device.proofs.packets.Rows.{row_of-after, row_of-forgotten}
pub use Rattle.usb_device.proofs.packets.Strays.{or-joined}
pub use Rattle.usb_device.proofs.places.HolderIndexes.{way_addresses, held-reached}
pub use Rattle.usb_device.proofs.places.HolderPaths.{one_is_held, nat_eq-true_sym}
pub use Rattle.usb_device.proofs.places.ReachedPlaces.{reached-acted, reached-both}
pub use Rattle.usb_device.proofs.packets.StoppedPackets.{stopped_on_err}
