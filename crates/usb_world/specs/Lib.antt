pub mod Paths
pub mod WayEffects
pub mod AttemptPackets
pub mod FoundHolder
pub mod LonePackets
pub mod PlainAttempts
pub mod Worlds
pub mod PluggedDevices
pub mod Plans
pub mod PlanLimits
pub mod Wire
pub mod Exchanges
pub mod HeardAnswers
pub mod Losses
pub mod Steps
pub mod SanePorts
pub mod SaneProofs
pub mod CutPackets
pub mod ExchangeEffects
pub mod Route
pub mod Courses
pub mod OneHolder
pub mod Addresses
pub mod PortRequests
pub mod Devices
pub mod PlanCourses
pub mod RestingPorts
pub mod Silence
pub mod WriteRequests
pub mod HostSides
pub mod Trace
-- the words of this crate, wherever one stands
pub use Paths.{HoldsAddress, Two, address_of, has_power, on_way, pending, same_number, same_path}
unfoldable pub use Paths.{has_power_at, is_way, pending_at}
pub use WayEffects.{IsNew, call_keeps_pending, call_resets, effect_keeps_pending, effect_resets}
pub use WayEffects.{keeps_pending, leaves_port, reset_if, takes_reset}
unfoldable pub use WayEffects.{packet_keeps_pending, resets_at, way_leaves}
pub use AttemptPackets.{IfOut, IsAckOut, IsAttemptAt, IsDataOut, IsSettled, IsTokenFor, NobodyHolds}
pub use AttemptPackets.{OneHolds, after_attempt, after_sent, answers_to, attempt_keeps_pending}
pub use AttemptPackets.{attempt_resets, calls_on, deep_at, heard_by, sent_keeps_pending}
pub use AttemptPackets.{sent_resets}
pub use FoundHolder.{Found}
pub use LonePackets.{Alone, AloneAt, IsQuiet, IsWayTo, KeptAt, OthersForgot, OthersUncalled}
pub use LonePackets.{is_deep, is_whole_tree, without_port}
pub use PlainAttempts.{Attempt, attempt_data, attempt_kind, attempt_payload, destination_of}
pub use WriteRequests.{IsWrite, Write}
pub use Worlds.{AnswerFits, AttemptEnds, Attempted, AttemptsWithin, FitsMaximum, FitsPayload}
pub use Worlds.{HasFault, IsAttempt, IsRootPort, Made, World, root_row, roots_of, sends_data}
pub use Worlds.{to_come}
unfoldable pub use Worlds.{change_of, changes, root_port_at}
pub use PluggedDevices.{PluggedMap, device_indexed, has_port, hub_ports, index_at, is_rooted}
pub use PluggedDevices.{plugged_after}
unfoldable pub use PluggedDevices.{parent_has, plugged_by, plugged_without, spec_port_count}
pub use Plans.{IsPlan, PlanData, action_fits, ask_fits, can_be_done, can_come, damage_fits}
pub use Plans.{damages_fit, event_fits, events_fit, harm_fits, is_taken, plan_data}
pub use PlanLimits.{after_most, attempt_most, damage_most, event_most}
pub use Wire.{AtMostTwoRunning}
unfoldable pub use Wire.{bit_count, damage_of, damages_until, harm_to, has_its_bit, is_read}
unfoldable pub use Wire.{mark_of, marked, marked_some}
pub use Exchanges.{ack_if, answered_in, blank, cleared_in, clears_at, ended_in, goes_out, heard_all}
pub use Exchanges.{heard_in, is_lost, mark_in, outcome_heard, payload_in, payload_out}
pub use Exchanges.{place_of_answer, readable, reply_in, reply_out, sent_as, token_out}
unfoldable pub use Exchanges.{answer_mark, answer_place, exchange_in, lost_in, outcome_of}
unfoldable pub use Exchanges.{payload_of, ports_in, reply_of, token_of}
pub use HeardAnswers.{heard_above}
pub use Losses.{AreOfDamages, TookOrLost, after_clearing, counted, lost, no_losses, took}
unfoldable pub use Losses.{one_more}
pub use Steps.{AnyStep, AttemptFails, ClearsRoot, Coming, Course, EventCame, EventEnds, GaveUp}
pub use Steps.{IsCut, Left, LineEnds, NoneLeft, PutLine, SetsRoot, Step, TookEvent, WorldInvariant}
pub use Steps.{after_change, after_first_event, at_event, at_line, at_packet, attempt, attempted}
pub use Steps.{damage_in, event, event_taken, fault_of, here, is_due, made_in, names_path}
pub use Steps.{next_came, nothing_yet, opening, outcome_made, report, root_call, step, waits}
pub use Steps.{way_of, with_plugged}
unfoldable pub use Steps.{after, after_due_events, after_event, ask_of, at_attempt, has_due}
unfoldable pub use Steps.{outcome_in, with_attempt}
pub use SanePorts.{HasItsPorts, IsSanePort}
unfoldable pub use SanePorts.{Consistent, ConsistentPlace}
pub use SaneProofs.{Consistent-prop, IsSpec-prop, all_prop}
pub use CutPackets.{IsStopped}
pub use ExchangeEffects.{Exchanged, MadeAlong, PacketWent, PacketsWent, SentAlong, StaysPlugged}
pub use Route.{holder_path}
pub use Courses.{HoldsMapped, Injective, KeepsPendingAt, NoReset, NoneNames, QuietStep, Reached}
pub use Courses.{Undisturbed, UndisturbedOrPends, address_at, at_path, is_harmless, is_made}
pub use Courses.{is_quiet, made_keeps_pending, made_resets, quiet_data, root_keeps_pending}
pub use Courses.{root_resets}
unfoldable pub use Courses.{resets, step_keeps_pending}
pub use OneHolder.{AttemptAnswerer, HolderIn, IsIn, IsMade, IsOut, IsSetup, answer_way, content_way}
pub use OneHolder.{got, hears_attempt, in_alone, out_alone, payload_way, reply_way, setup_asked}
pub use OneHolder.{token_way, way_back, way_to}
pub use Addresses.{GivesNoAddress, MovesData, NoneTakes, after_reset, after_taking, ends_status}
pub use Addresses.{is_setup}
pub use PortRequests.{AsksNothing, LeavesPort, StillSet, asks_no_port, is_above, is_port_request}
pub use PortRequests.{is_sparing, made_leaves, root_leaves, row_reached, sent_leaves}
unfoldable pub use PortRequests.{leaves_step}
pub use Devices.{DidIn, DidOut, DidSetup, EachWas, Relation, Was, Ways}
pub use PlanCourses.{AtPorts, FollowsPlan, PlugsAtPort, spec_of}
pub use RestingPorts.{LeavesPortAlone, SameAt, SameDeviceOrPending, UnchangedOrPending}
pub use Silence.{silent_exchange}
pub use HostSides.{host_side, keeps_address}
pub use Trace.{answer_text, attempt_line, host_text, mark_text, next_text, plug_line, pre_text}
pub use Trace.{unplug_line}
pub use declared.damage.Damage.{Damage}
pub use declared.damage.Harm.{Harm}
pub use declared.damage.Harm.TheVariants.{Flip, Lose, LosePre}
pub use declared.event.Action.{Action}
pub use declared.event.Ask.TheVariants.{Clear, ClearOf, ControlIn, ControlOut, Look, News, Poll}
pub use declared.event.Ask.TheVariants.{Receive, ReceiveFrom, Send, SendTo, SetInterface, Show}
pub use declared.event.Change.TheVariants.{Plug, Unplug}
pub use declared.event.Event.{Event}
pub use declared.exchange.Exchange.{Exchange}
pub use declared.exchange.ExchangeAnswer.{ExchangeAnswer}
pub use declared.types.BusFault.{BusFault}
pub use declared.types.BusFault.TheVariants.{Failed, Limit, Memory}
pub use declared.types.Destination.{Destination}
pub use declared.types.Outcome.{Outcome}
pub use declared.wire.Mark.{Mark}
pub use declared.wire.Mark.TheVariants.{Flipped, Lost, PreLost, Whole}
pub use declared.wire.Outgoing.{Outgoing}
-- words of crates below, for crates that need no more of these
pub use Rattle.usb_device.specs.{Ports, Spec}
unfoldable pub use Rattle.usb_device.specs.{held_addresses, repeats}
