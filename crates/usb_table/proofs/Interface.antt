-- The lemmas that crates above cite. All others are for this crate alone.
pub use Rattle.usb_table.proofs.transfers.PathTransfers.{received_collects, sent_delivers}
pub use Rattle.usb_table.proofs.transfers.PathTransfers.{polled_tells, done_through}
pub use Rattle.usb_table.proofs.entries.Keys.{has_its, cases_path, path_itself, path_tied}
pub use Rattle.usb_table.proofs.entries.Keys.{none_apart, taken_apart, takes_one}
pub use Rattle.usb_table.proofs.entries.EnteredFindings.{level_beside, level_entered}
pub use Rattle.usb_table.proofs.entries.EnteredFindings.{pipes_at-entered}
pub use Rattle.usb_table.proofs.entries.EnteredFindings.{pipes_at-entered_elsewhere}
pub use Rattle.usb_table.proofs.entries.EnteredFindings.{said_at-entered}
pub use Rattle.usb_table.proofs.levels.FittingPipes.{root, same_in_data, still_source}
pub use Rattle.usb_table.proofs.levels.PathCalls.{all_kept, held_address, level_elsewhere}
pub use Rattle.usb_table.proofs.levels.PathCalls.{level_stays}
pub use Rattle.usb_table.proofs.listings.OneListing.{lists_of_plan}
pub use Rattle.usb_table.proofs.entries.Ranges.{FoundPort, known_port-without, port_found-some}
pub use Rattle.usb_table.proofs.transfers.Restarts.{cleared_restarts, cleared_restarts_of}
pub use Rattle.usb_table.proofs.transfers.FreeRequests.{spares-same, spares-stage, spares-then}
pub use Rattle.usb_table.proofs.transfers.PlainRequests.{read_spares, StillEnds, write_still}
pub use Rattle.usb_table.proofs.levels.StandingPipes.{empty_or_not, only_some}
