pub mod DeviceSpecs
pub mod OwnRequests
pub mod SaidLengths
pub mod EndpointSpecs
pub mod Bulk
pub mod Ends
pub mod OutRows
pub mod Request
pub mod Transfer
pub mod Rows
pub mod Effects
pub mod Tree
pub mod TreeCodes
pub mod LentPackets
pub mod Places
pub mod Delivery
pub mod Code
pub mod ReceivedBytes
pub mod AnswerPids
pub mod Hearings
pub mod Attempt
pub mod PacketFrames
pub mod View
pub mod Loans
pub mod StrayPackets
pub mod Progress
pub mod StoppedPackets
pub mod Route
pub mod Holders
pub mod AloneAttempts
-- the words of this crate, wherever one stands
pub use DeviceSpecs.{AreDevices, Hub, IsHub, IsSpec, Spec, agrees, function, has_hub_class}
pub use DeviceSpecs.{hub_fits, hub_ports, is_named, names_differ, no_stalls, usual_descriptor}
pub use DeviceSpecs.{usual_hub}
unfoldable pub use SaidLengths.{said_length, said_lengths}
pub use EndpointSpecs.{GivesOn, endpoint_row, if_some, packet_in, place_behind}
pub use Bulk.{advanced, bulk_at, bulk_in, change_bytes, changed_bit, count_down, halted, has_value}
pub use Bulk.{high_changes, is_last, low_changes, number_or_one, status_length, status_number}
pub use Bulk.{is_numbered, is_of_either, is_of_setting, rested, served, served_at}
pub use Bulk.{tells_changes, text_of, text_with, told_bits, total_of, turned, with_interface}
unfoldable pub use Bulk.{change_bits}
pub use Ends.{OutEnd, begun_if, end_numbers, given_on, hesitated, no_in, no_out, pace_by, paced_on}
pub use Ends.{plugged_in_end, plugged_out, renewed, rested_in, rested_out, steady, taken_on}
unfoldable pub use Ends.{numbered_from, with_at}
pub use OutRows.{head_of, no_head, plugged_head, rested_head, taken_head, with_sink}
unfoldable pub use OutRows.{joined}
pub use OwnRequests.{bytes_given, fits, goes_so, is_or_any, is_to_host, own_bytes, own_place}
pub use OwnRequests.{row_bytes}
pub use Request.{answers_taken, asked_at, asked_by_answer, asked_by_row, asked_own, takes}
pub use Request.{Is, Outcome, address_at_end, asked_address, asked_configuration, asked_descriptor}
pub use Request.{asked_endpoint_status, asked_hub_descriptor, asked_interface}
pub use Request.{asked_interface_status, asked_port_status, asked_setting, asked_status, called_at}
pub use Request.{calls_port, endpoint_of, flag_bytes, halts, is_endpoint_0, items_at}
pub use Request.{items_in_text}
pub use Request.{takes_setting, tells_halt, told_halt}
pub use Request.{is_value, on_endpoint, port_feature, port_named}
pub use Request.{registers_at_setup, stalled, status_bytes, takes_address, takes_configuration}
pub use Request.{tells_port, text_asked, told_port, unhalts, unless}
unfoldable pub use Request.{outcome}
pub use Transfer.{Write, ends_if, first_write, has_all, is_done, is_next, judged, taken_with}
pub use Transfer.{writes, writing, written_on}
pub use Transfer.{Stage, ending, idle, max_packet, packet_at, packet_count}
pub use Transfer.{packets_joined, put_if, read, reading, reads, reads_port, refused, toggle_at}
pub use Rows.{Reply, State, accepted, ack_row, acknowledged, after_memory, answered}
pub use Rows.{awaits_control}
pub use Rows.{at_reset, first_stage, ins_set, outs_set, set_to, told_bytes}
pub use Rows.{begun, begun_again, bulk_of, changes_row, configured, data_by, data_row, end_sinks}
pub use Rows.{given_row, in_data, in_hesitates, next_packet, next_place, out_halts, out_hesitates}
pub use Rows.{taken_row}
pub use Rows.{endpoint_state, ends_with_address, forgotten, gives, held_row, in_ack_row}
pub use Rows.{in_end, in_end_row, in_max, out_end, out_end_row, out_max, with_in, with_out}
pub use Rows.{in_other_row, in_row, is_busy, is_other_out, nak_row, new_changes_row}
pub use Rows.{out_row, packet_sinks, payload, payload_row, payload_sinks, setup_row}
pub use Rows.{sink_grows, sink_row, sinks, source_row, status_row, sunk, token_row, unless_busy}
pub use Rows.{out_sinks, stage_takes, with_endpoint_state, with_endpoints, write_row}
pub use Rows.{write_status_row, wrote}
unfoldable pub use Rows.{awaits_address, fresh, received, reset_state, unread}
pub use Effects.{asked_by_data, asked_by_packet, asked_by_setup, effect_of_request}
unfoldable pub use Effects.{asks}
pub use Tree.{Location, Place, Plugged, Ports, acted, before, called, changed, changed_in}
pub use Tree.{child_of}
pub use Tree.{device_of, device_there, empty, ended, first_ports, full, new_device, numbered}
pub use Tree.{path_to, place, place_on, plugged_in, port_of, put, reach, reach_on, replaced}
pub use Tree.{reset_where, reset_whole, state_on, taken, vacant, with_child, without_child}
unfoldable pub use Tree.{all_off, changed_at, new_ports, place_at, plugged_at, port_at, reach_at}
unfoldable pub use Tree.{row_of, state_at}
pub use TreeCodes.{plugged_code, plugged_weight, ports_code, read_back-spelled, weight}
pub use LentPackets.{broken, content_of, whole}
pub use Places.{standing}
pub use Delivery.{Carries, asked_by, asks_clearing, both, clears_in, clears_whole, delivered}
pub use Delivery.{delivered_device, delivered_place, figure_in, figure_of, forgotten_whole, has}
pub use Delivery.{has_loss_in, heard_from, heard_joined, heard_of, hears, held_in, is_heard}
pub use Delivery.{listed}
pub use Delivery.{on_port, reply_to, taken_content, taken_sent, with_answer}
unfoldable pub use Delivery.{after_packet, all_forgotten, answer_of, answers, clears_change}
unfoldable pub use Delivery.{effect_of, figure, has_loss, held_addresses, repeats}
pub use Code.{hub_text, meaning_of, source_bytes, stage_of, text_at}
pub use ReceivedBytes.{Answers, AnswersPacket, GrowsBy, after_receiving, answer_to, packet_of}
pub use ReceivedBytes.{received_by}
pub use AnswerPids.{Room, answer_from_pid, answer_with}
pub use Hearings.{heard_with, pid_heard}
pub use Attempt.{Way, acked, changes_law, gave, given_law, heard, held_law, in_control_law}
pub use Attempt.{in_end_law, in_exchange, in_law, in_other_law, in_stage_law, is_good, is_own}
pub use Attempt.{is_whole, lost}
pub use Attempt.{new_changes_law, out_exchange, out_law, sends, setup_exchange, setup_law}
pub use Attempt.{source_law, through, write_status_law}
pub use PacketFrames.{Keeps, is_ack, is_data}
pub use View.{forgotten_place, port_there, state_there}
pub use Loans.{holding, with_device, with_device_on}
pub use StrayPackets.{awaits_ack, awaits_data, concerns, is_for, is_token}
unfoldable pub use StrayPackets.{concerns_some}
pub use Progress.{IsPacketOf, OnlyWrite, WriteAt, WriteEnded, WriteOn, WriteStatusOn, WritingAt}
pub use Progress.{IsRead, IsSink, IsSource, Joined, NeverTold, NothingMoved, OnlyChanges}
pub use Progress.{GivesWithin, HasPackets, IsPrompt, NextBytes, OnlyControl, OnlySink}
pub use Progress.{OnlySource, OnlyStage, PollAt, PollOn, ReadOn, ReadingAt, SinkAt, SinkOn}
pub use Progress.{SourceAt, SourceOn, StatusGiven, StatusOn, ToldByte, address_then, ahead, level}
pub use Progress.{seen, taken_of, told, unseen}
pub use StoppedPackets.{IsRefused, IsRefusedContent, Stopped, StoppedDevice, StoppedPlace, behind}
pub use StoppedPackets.{behind_empty, below, here, itself, lower}
pub use Route.{RefusedBy, address_by, answer_by, effect_by, forgotten_in, holds_by, is_held_at}
pub use Route.{sent_in}
pub use Holders.{AreBytes, AreNobody, IsIndex, ReachedSame, all_reached, held_from, held_whole}
pub use Holders.{holder_among, holder_of, is_known, joined_holder, keeps_enable, keeps_others}
pub use Holders.{meets_again, noted, path_below, path_further, paths_at, reach_in, reached_at_path}
pub use Holders.{reached_below, reached_from, reached_in, reached_there, reached_whole, released}
unfoldable pub use Holders.{reached}
pub use AloneAttempts.{RefusedAt, RefusedFrom, ack_sent, acknowledges, after_ack, after_data}
pub use AloneAttempts.{after_packet_at, after_token, answer_from, asked_from, cut_in, forgot}
pub use AloneAttempts.{heard_at, heard_pid, left_in, no_side, side_at, takes_data, token_sent}
pub use AloneAttempts.{with_asked, with_own}
unfoldable pub use AloneAttempts.{after_reply, heard_of_both, side_of}
pub use declared.alone.DeviceSide.{DeviceSide}
pub use declared.alone.HostSide.{HostSide}
pub use declared.answer.Answer.{Answer}
pub use declared.bulk.EndpointState.{EndpointState}
pub use declared.bulk.ServedEndpoint.{ServedEndpoint}
pub use declared.bulk.ServedEndpoint.TheVariants.{BulkIn, BulkOut, Changes}
pub use declared.delivery.Content.{Content}
pub use declared.delivery.Content.TheVariants.{Broken, Whole}
pub use declared.delivery.Heard.{Heard}
pub use declared.delivery.Sent.{Sent}
pub use declared.effect.Effect.{Effect}
pub use declared.effect.Effect.TheVariants.{Calls, Leaves, PortsOff}
pub use declared.endpoint_spec.EndpointData.{EndpointData}
pub use declared.endpoint_spec.EndpointData.TheVariants.{Packets, Source}
pub use declared.endpoint_spec.EndpointSpec.{EndpointSpec}
pub use declared.ends.InEnd.{InEnd}
pub use declared.ends.OutHead.{OutHead}
pub use declared.ends.Pace.{Pace}
pub use declared.hearing.HeardPid.{HeardPid}
pub use declared.holders.Holder.{Holder}
pub use declared.own_request.OwnAnswer.{OwnAnswer}
pub use declared.own_request.OwnRequest.{OwnRequest}
pub use declared.request.Registers.{Registers}
pub use declared.spec.Stalls.{Stalls}
pub use declared.transfer.InEndpoint.{InEndpoint}
pub use declared.transfer.RememberedPacket.{RememberedPacket}
pub use declared.write.WriteData.{WriteData}
pub use declared.write.WriteData.TheVariants.{Next, Repeat, TooLong, Wrong}
-- words of crates below, for crates that need no more of these
pub use Rattle.usb_packet.specs.{Ack, Payload, Token}
pub use Rattle.usb_port.specs.{ClearConnectionChange, ClearPower, PortCall, PortState, SetReset}
pub use Rattle.usb_port.specs.{is_attached, is_reset}
