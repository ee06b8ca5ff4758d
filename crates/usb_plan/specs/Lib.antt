pub mod Place
pub mod EntryFault
pub mod Value
pub mod Keys
pub mod Texts
pub mod Hub
pub mod Quirks
pub mod Bulk
pub mod Endpoints
pub mod OwnRequests
pub mod Device
pub mod Scene
pub mod Path
pub mod Plugged
pub mod EventMembers
pub mod Action
pub mod Verb
pub mod Event
pub mod Damage
pub mod Plan
pub mod Attempts
-- the words of this crate, wherever one stands
pub use Place.{place_text}
pub use EntryFault.{EqualUnless, hex_fault, rank, ◌>>=◌}
unfoldable pub use EntryFault.{at, entry_at, fault_in_part, least, least_fault, sooner}
pub use Value.{data_list, hex_read, is_table}
unfoldable pub use Value.{byte_at, hex_bytes, hex_in, number_at, number_in, number_or, read_items}
unfoldable pub use Value.{read_text, tables_in, text_in}
unfoldable pub use Keys.{keys_at, no_when, only_named}
unfoldable pub use Texts.{items_from, texts_in, with_item}
unfoldable pub use Hub.{built_ports, class_at, hub_at, hub_in, hub_of, hub_with, is_agreed}
unfoldable pub use Hub.{is_low_speed, is_other, no_hub}
unfoldable pub use Quirks.{flag_at, is_stall, is_word, naks_at, names, quirks_of, quirks_with}
unfoldable pub use Quirks.{stalls_at, stalls_in, stalls_named}
unfoldable pub use Bulk.{bulk_with, halt_at, halt_in, read_bulk, source_at}
pub use Endpoints.{endpoint_keys}
unfoldable pub use Endpoints.{address_at, address_in, are_distinct, are_same, data_in, data_of}
unfoldable pub use Endpoints.{data_with, distinct_at, endpoint_in, endpoint_naks, endpoint_of}
unfoldable pub use Endpoints.{endpoint_with, endpoints_at, endpoints_in, endpoints_of}
unfoldable pub use Endpoints.{endpoints_with, share_address}
pub use OwnRequests.{request_keys}
unfoldable pub use OwnRequests.{answer_of, answer_with, codes_of, codes_with, fields_of}
unfoldable pub use OwnRequests.{fields_with, given_by, is_own, own_at, read_answer, refusal_at}
unfoldable pub use OwnRequests.{refusal_named, requests_at, requests_in, requests_of, row_in}
unfoldable pub use OwnRequests.{row_of, row_with, word_at, word_in, write_answer}
pub use Device.{FewNaks, HaltsLater, HubFits, device_keys, named_device, outer_of}
unfoldable pub use Device.{configs_at, descriptor_at, device_in, device_of_parts, device_room}
unfoldable pub use Device.{device_tables_of, device_tables_with, device_texts_of, device_texts_with}
unfoldable pub use Device.{device_with, devices_from, identity_of, identity_with, name_at, name_in}
unfoldable pub use Device.{read_device, speed_at, strings_at, with_halt, with_hub, with_quirks}
pub use Scene.{SceneData, count_of, is_port, ports_in, read_count, scene_after}
unfoldable pub use Scene.{ports_at, ports_said, says_port}
unfoldable pub use Path.{free_path, has_numbers_of, read_path, taken_path}
unfoldable pub use Plugged.{first_through}
pub use EventMembers.{EventValues, all_event_keys, found}
unfoldable pub use EventMembers.{event_values, with_value}
pub use Action.{event_keys, names_common, other_names}
unfoldable pub use Action.{any_endpoint, asked, bytes_at, clear_end, clear_of, clear_with, control}
unfoldable pub use Action.{control_of, device_index_at, given, in_endpoint, in_endpoint_at}
unfoldable pub use Action.{interface_of, interrupt_of, keys_given, keys_of, look_of, no_bytes}
unfoldable pub use Action.{out_endpoint, packets_at, plug, plug_of, poll, receive, receive_from}
unfoldable pub use Action.{receive_of, receive_with, request_at, request_with, send, send_of}
unfoldable pub use Action.{send_to, send_with, set_interface, setup_at, setup_in, show_of}
unfoldable pub use Action.{unplug_of, verb_fits, write_bytes, write_with}
unfoldable pub use Verb.{action_of, other_keys, verb_at, verb_named}
unfoldable pub use Event.{after_at, event_given, event_in, event_of, event_room, event_with}
unfoldable pub use Event.{events_from}
pub use Damage.{IsPlaced, damage_keys, placed_keys}
unfoldable pub use Damage.{attempt_at, damage_entry, damage_room, damage_with, damages_from}
unfoldable pub use Damage.{flip_at, harm_by, harm_of, last_from, no_bit, packet_number}
unfoldable pub use Damage.{placed_damage, read_damage, way_at, way_named}
pub use Plan.{TopFits, entries_of, top_keys, values_in}
unfoldable pub use Plan.{entries_at, entries_in, limit_at, plan_of, plan_of_entries, plan_with}
unfoldable pub use Plan.{read, roots_at, spelled_plan, top_of, top_with, values_at}
pub use Attempts.{enough_for, is_look, is_look_at, looks_in, moved_in, total_after, total_at}
unfoldable pub use Attempts.{bound_of, greatest_total, moved, plugged_total}
pub use declared.action.OtherKeys.{OtherKeys}
pub use declared.action.OtherKeys.TheVariants.{Alone, PathBytes, PathDevice, PathEndpoint}
pub use declared.action.OtherKeys.TheVariants.{PathPackets, PathSetting, PathSetup, Said}
pub use declared.damage.Way.{Way}
pub use declared.device.DeviceTables.{DeviceTables}
pub use declared.device.DeviceTexts.{DeviceTexts}
pub use declared.device.Identity.{Identity}
pub use declared.digits.TheConstants.{DIGITS}
pub use declared.entry_fault.EntryFault.TheVariants.{BadHex, BadPath, BadValue, Memory, MissingKey}
pub use declared.entry_fault.EntryFault.TheVariants.{OnlyFar}
pub use declared.entry_fault.EntryFault.TheVariants.{PortEmpty, PortTaken, UnknownDevice}
pub use declared.fault.PlanFault.{PlanFault}
