-- The lemmas that crates above cite. All others are for this crate alone.
pub use Rattle.usb_hub.proofs.Counts.{anew_owed, devices_in-plan}
pub use Rattle.usb_hub.proofs.BacklogEvents.{keeps-event}
pub use Rattle.usb_hub.proofs.Places.{few-none}
pub use Rattle.usb_hub.proofs.BacklogRequests.{Covers, data_allows, holder_allows}
pub use Rattle.usb_hub.proofs.BacklogRequests.{payload_sets_none, request_sets_none, sets_none}
pub use Rattle.usb_hub.proofs.BacklogSteps.{KeepsStep, keeps-attempt, keeps-chain, keeps-root}
pub use Rattle.usb_hub.proofs.BacklogSteps.{keeps-unheard, root_allowed}
pub use Rattle.usb_hub.proofs.Phases.{all_none, all_then, few-changed, few-only, found_all}
pub use Rattle.usb_hub.proofs.Phases.{found_called, found_then, ports_covered}
pub use Rattle.usb_hub.proofs.Products.{within_bound}
pub use Rattle.usb_hub.proofs.Units.{ClearedAt, bare_pays, cleared_at, found_pays, tidied_pays}
pub use Rattle.usb_hub.proofs.Answerers.{answerer_claims}
pub use Rattle.usb_hub.proofs.ClaimedHubs.{ClaimedAt, KeepsClaim, claimed_holder, claimed_path}
pub use Rattle.usb_hub.proofs.ClaimedHubs.{quiet_follows, reset_follows, some, trail_with}
pub use Rattle.usb_hub.proofs.Endpoints.{clears_keep, polls_keep, receives_keep, sends_keep}
pub use Rattle.usb_hub.proofs.Events.{event_keeps}
pub use Rattle.usb_hub.proofs.HubPorts.{place_ports, held_of, less_one, port_named-cases}
pub use Rattle.usb_hub.proofs.TransferSequences.{either_alone, keeps_none, keeps_then, put_keeps}
pub use Rattle.usb_hub.proofs.TransferSequences.{read_keeps, trail_sound, write_keeps}
pub use Rattle.usb_hub.proofs.TransferSequences.{write_nothing, write_till}
pub use Rattle.usb_hub.proofs.UnheldAddresses.{nobody_asks_nothing}
pub use Rattle.usb_hub.proofs.Openings.{opening_settled}
pub use Rattle.usb_hub.proofs.AddressPorts.{is_path-empty, no_root, not_way, reset_till}
pub use Rattle.usb_hub.proofs.PortResets.{Fits, Resets, owned_as, resets_leave, is_way-same_path}
pub use Rattle.usb_hub.proofs.Roots.{root_keeps, root_resets, root_shut}
pub use Rattle.usb_hub.proofs.BulkRuns.{Ran, in_kept, out_kept}
pub use Rattle.usb_hub.proofs.Setups.{reads_other}
pub use Rattle.usb_hub.proofs.States.{after_a_reset, after_an_address, after_taking-zero, bared}
pub use Rattle.usb_hub.proofs.States.{enumerating_begins, after_taking-not_both}
pub use Rattle.usb_hub.proofs.Steps.{settled_attempt, unshared_after}
pub use Rattle.usb_hub.proofs.Transfers.{gives_address, reads_leave, writes_leave}
pub use Rattle.usb_hub.proofs.Trees.{IsUp, attached_there, live_below, live_of_up, live_port}
pub use Rattle.usb_hub.proofs.Trees.{pend-below, pend_down, pend_of_up, pend_or_live}
pub use Rattle.usb_hub.proofs.Trees.{port_there-below, port_below_at, reach_below, speed_attached}
pub use Rattle.usb_hub.proofs.Trees.{state_below, up_of_live}
pub use Rattle.usb_hub.proofs.UnpoweredPorts.{NoPower, ready_unpowered, stays_unpowered}
pub use Rattle.usb_hub.proofs.ActingCalls.{AsksFor, place_below}
pub use Rattle.usb_hub.proofs.BaredPorts.{disabled_port}
pub use Rattle.usb_hub.proofs.Calls.{hub_done, hub_named, hub_rests, hub_sets, power_backlog}
pub use Rattle.usb_hub.proofs.Calls.{set_asks}
pub use Rattle.usb_hub.proofs.ControlCourses.{commanded_control, queried_control}
pub use Rattle.usb_hub.proofs.Devices.{stays_as_same, stays-registers, stays-spec, stays_itself}
pub use Rattle.usb_hub.proofs.Devices.{stays_joined, keeps_devices_none}
pub use Rattle.usb_hub.proofs.AddressesKept.{set_keeps}
pub use Rattle.usb_hub.proofs.Backlogs.{put_backlog, reads_backlog, write_backlog}
pub use Rattle.usb_hub.proofs.Orders.{order_elsewhere}
pub use Rattle.usb_hub.proofs.Ports.{asked_port, is_asked_stays, is_port-spends, reset_went}
pub use Rattle.usb_hub.proofs.PoweredPorts.{spec_of-none, powered_stands, row_reached-back}
pub use Rattle.usb_hub.proofs.PoweredPorts.{sane_there, state_of_place}
pub use Rattle.usb_hub.proofs.RestingRequests.{put_rests, reads_rests, write_rests}
pub use Rattle.usb_hub.proofs.Settings.{each_leaves, write_so}
pub use Rattle.usb_hub.proofs.CalledPorts.{StandsSo, StandsTold, done_stands, due_course}
pub use Rattle.usb_hub.proofs.CalledPorts.{enabled_reach, port_of_place, told_stands}
pub use Rattle.usb_hub.proofs.Statuses.{row_port}
pub use Rattle.usb_hub.proofs.WorkingBuses.{clear_works, ended_works, failed_works}
pub use Rattle.usb_hub.proofs.WorkingBuses.{hub_change_works, port_change_works, read_works}
pub use Rattle.usb_hub.proofs.WorkingBuses.{set_works}
