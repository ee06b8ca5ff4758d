-- The lemmas that crates above cite. All others are for this crate alone.
pub use Rattle.usb_world.proofs.Booleans.{and_false, and_kept, and_none, and_of, and_wider, both}
pub use Rattle.usb_world.proofs.Booleans.{decided, either_of, false_true, if-false, if-true}
pub use Rattle.usb_world.proofs.Booleans.{neither, neither_of, not-true, or-rises, or_left}
pub use Rattle.usb_world.proofs.Booleans.{or_nothing, or_right, or_wider, same_bools}
pub use Rattle.usb_world.proofs.Equality.{equal_same, same_equal, self_number, self_path, swapped}
pub use Rattle.usb_world.proofs.Equality.{unequal}
pub use Rattle.usb_world.proofs.States.{forgotten-nothing, forgotten_address, kept_address}
pub use Rattle.usb_world.proofs.States.{reset_if-false, unreset}
pub use Rattle.usb_world.proofs.HolderOfAddress.{who_holds}
pub use Rattle.usb_world.proofs.TreeHolders.{is_twice-one_path, occurs-most, occurs-reached}
pub use Rattle.usb_world.proofs.TreeHolders.{occurs_append, one_if, twice_two}
unfoldable pub use Rattle.usb_world.proofs.TreeHolders.{occurs}
pub use Rattle.usb_world.proofs.OnWays.{OnWay, resets_if, spares_if, way_leaves-on_way}
pub use Rattle.usb_world.proofs.addresses.AddressesKept.{course_keeps, data_own, quiet_resets}
pub use Rattle.usb_world.proofs.addresses.AddressesKept.{ready_own, step_own, step_unshared}
pub use Rattle.usb_world.proofs.addresses.AddressesKept.{taken_state, data_asks_none}
pub use Rattle.usb_world.proofs.addresses.AddressesKept.{data_asks_nothing, payload_asks_nothing}
pub use Rattle.usb_world.proofs.addresses.GivenAddresses.{seen, unseen, hub_reset, hub_rest}
pub use Rattle.usb_world.proofs.addresses.GivenAddresses.{register_address, reset_distinct}
pub use Rattle.usb_world.proofs.addresses.GivenAddresses.{reset_own, rest_own, taken_distinct}
pub use Rattle.usb_world.proofs.addresses.AddressLosses.{CountsNone, Counts, EndsWithAddress}
pub use Rattle.usb_world.proofs.addresses.AddressLosses.{StaysEndless, each_counts, got_it}
pub use Rattle.usb_world.proofs.addresses.AddressLosses.{got_none, in_clears, in_counts, loses}
pub use Rattle.usb_world.proofs.addresses.AddressLosses.{losses_as, out_counts, set_up_counts}
pub use Rattle.usb_world.proofs.addresses.AddressLosses.{bit_within, losses_after, losses_cleared}
pub use Rattle.usb_world.proofs.addresses.AddressLosses.{no_losses_yet, until_most}
pub use Rattle.usb_world.proofs.packets.Packets.{CalmOut, calm_ack as ack_out, calm_sent}
pub use Rattle.usb_world.proofs.packets.Packets.{calm_token as token_out, stands, state_stands}
pub use Rattle.usb_world.proofs.packets.Packets.{NoneAsks, none_asks_nothing}
pub use Rattle.usb_world.proofs.ports.RestingPorts.{course_bits, made_port, root_port}
pub use Rattle.usb_world.proofs.ports.RestingPorts.{rests_or_pends, stands_or_pends}
pub use Rattle.usb_world.proofs.courses.Counts.{RootCalled, came_spends, change_most, changes-set}
pub use Rattle.usb_world.proofs.courses.Counts.{clear_ends, clear_none, clears_change, clears_spend}
pub use Rattle.usb_world.proofs.courses.Counts.{happened_long, new_long, resets_spend, root_called}
pub use Rattle.usb_world.proofs.courses.Counts.{row_long, set_call_root, set_none, spends_none}
pub use Rattle.usb_world.proofs.courses.Counts.{spends_then, spends_wider}
pub use Rattle.usb_world.proofs.courses.Courses.{course_joined, course_then, course_wider, goes}
pub use Rattle.usb_world.proofs.courses.Courses.{made_live, made_pend, made_reach, pending_persists}
pub use Rattle.usb_world.proofs.courses.Courses.{root_live, root_pend, same_device, step_new}
pub use Rattle.usb_world.proofs.courses.Courses.{step_pend, unreset_reach, between_after}
pub use Rattle.usb_world.proofs.courses.Courses.{between_course, between_ready, course_taken}
pub use Rattle.usb_world.proofs.courses.Courses.{ready_taken, sane_called_at, sane_happened}
pub use Rattle.usb_world.proofs.courses.Courses.{sane_ports, settled_after, settled_called}
pub use Rattle.usb_world.proofs.courses.Courses.{settled_course, settled_happened, settled_new}
pub use Rattle.usb_world.proofs.courses.Courses.{settled_wider}
pub use Rattle.usb_world.proofs.attempts.Refusals.{AttemptCut, cut_or_same, made_whole, unmade}
pub use Rattle.usb_world.proofs.attempts.Refusals.{given_up_shared}
pub use Rattle.usb_world.proofs.holders.Devices.{each_beside, each_both, each_in, each_joined}
pub use Rattle.usb_world.proofs.holders.Devices.{each_none, each_out, each_setup, each_wider}
pub use Rattle.usb_world.proofs.holders.Devices.{data_back, due_back, one_state, stays_reachable_in}
pub use Rattle.usb_world.proofs.courses.LiftedSteps.{first_fault, ready_shared, Keeps, MadeOrNot}
pub use Rattle.usb_world.proofs.courses.LiftedSteps.{OverEvents, OverSteps, attempt_cases}
pub use Rattle.usb_world.proofs.courses.LiftedSteps.{happened_by, keeps_events, kept_course}
pub use Rattle.usb_world.proofs.courses.LiftedSteps.{made_sound, over_coming, over_course}
pub use Rattle.usb_world.proofs.courses.LiftedSteps.{over_ready, over_step, over_taken, with_call}
pub use Rattle.usb_world.proofs.courses.LiftedSteps.{with_limit_told}
pub use Rattle.usb_world.proofs.holders.OneHolderAttempts.{holder_or_nobody, one_answers, holder_in}
pub use Rattle.usb_world.proofs.holders.OneHolderAttempts.{in_in, made_here, made_is, made_of}
pub use Rattle.usb_world.proofs.holders.OneHolderAttempts.{made_true, nobody_in, out_in}
pub use Rattle.usb_world.proofs.holders.OneHolderAttempts.{ready_settled, setup_in, setup_sound_in}
pub use Rattle.usb_world.proofs.holders.HolderPorts.{elsewhere, others_asked_nothing, others_leave}
pub use Rattle.usb_world.proofs.holders.HolderPorts.{self_asked, setup_place_in, silent_place_in}
pub use Rattle.usb_world.proofs.attempts.Exchanges.{made_damages, made_step, made_unshared, brings}
pub use Rattle.usb_world.proofs.attempts.Exchanges.{given_by, got_given, got_nak, got_payload}
pub use Rattle.usb_world.proofs.attempts.Exchanges.{got_stall}
pub use Rattle.usb_world.proofs.holders.OneDevice.{rest_state, rested_effect, settled_memory}
pub use Rattle.usb_world.proofs.holders.OneDevice.{token_calls}
pub use Rattle.usb_world.proofs.holders.OneHolder.{is_state, remembers, third}
pub use Rattle.usb_world.proofs.ports.PortRequests.{Allows, AllowsOut, PayloadAllows}
pub use Rattle.usb_world.proofs.ports.PortRequests.{payload_allowed, sent_allowed}
pub use Rattle.usb_world.proofs.events.PluggedDevices.{devices_left, events_went, found_same}
pub use Rattle.usb_world.proofs.events.PluggedDevices.{insert_here, insert_other, new_bare}
pub use Rattle.usb_world.proofs.events.PluggedDevices.{plugged_by-next, self_found}
pub use Rattle.usb_world.proofs.events.PluggedDevices.{undisturbed_keeps}
pub use Rattle.usb_world.proofs.ports.PortCalls.{call_reach, call_state}
pub use Rattle.usb_world.proofs.ways.Ways.{same_number-is, same_is, at_or_below_way, reach_on_way}
pub use Rattle.usb_world.proofs.ways.Ways.{way_apart, way_itself, way_parent, way_rest, way_shorter}
pub use Rattle.usb_world.proofs.ways.Ways.{way_trans}
pub use Rattle.usb_world.proofs.ports.SanePorts.{ports_counted, ports_stand, reach_live}
pub use Rattle.usb_world.proofs.ports.SanePorts.{sane_new_ports, sane_spec}
