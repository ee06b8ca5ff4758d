pub mod Requests
pub mod Whens
pub mod Deeds
pub mod Places
pub mod Known
pub mod Reading
pub mod Runs
-- the words of this crate, wherever one stands
pub use Requests.{feature_request, is_asked, is_of_port, port_request, reads_by, same_setup}
pub use Requests.{writes_by}
unfoldable pub use Requests.{is_request, request_named}
pub use Whens.{port_keys, request_keys, setup_read}
unfoldable pub use Whens.{allowed, device_at, exact_sign, moment_at, moment_named, named_sign}
unfoldable pub use Whens.{nth_at, number_from, path_at, port_of, port_read, reset_sign, setup_in}
unfoldable pub use Whens.{sign_by, sign_of, status_sign, text_or, wait_sign, when_in}
pub use Deeds.{answer_if, begun, goes_to, has_data, is_again, is_answered, is_begun, is_data, is_in}
pub use Deeds.{is_out, is_setup_again, is_status, onward, reads, token_of, try_of}
unfoldable pub use Deeds.{begins, follows, moment_in, transfer_after, transfer_past}
pub use Places.{IsGood, IsGoodFor, IsKnown, IsSoughtAfter, PlacesData, asks_status, found_in, is_at}
pub use Places.{is_attempt, is_moment, is_wait, places_data, resets, same_moment, suits, suits_some}
unfoldable pub use Places.{after_seen, goes_on, is_met, left_after, left_from, number_at}
unfoldable pub use Places.{place_from, place_of, request_met, seen_by, stands, starts}
unfoldable pub use Places.{transfer_from}
pub use Known.{damage_found, first_after, inserted_some, is_event, is_to, to_attempt}
unfoldable pub use Known.{after_of, damages_known, events_known, inserted, plan_known, spot}
pub use Runs.{finds, plan_in, seen_at}
pub use Reading.{has_when, in_plan, members_sought, members_when, new_sought, no_memory, plain}
pub use Reading.{read_places, table_has_when, text_uses_when, uses_when, when_at, when_sought}
pub use Reading.{with_event}
unfoldable pub use Reading.{damage_sought, damages_from, event_when, events_from, fixed_damages}
unfoldable pub use Reading.{places_of, plain_when, spelled_places, table_sought, without}
