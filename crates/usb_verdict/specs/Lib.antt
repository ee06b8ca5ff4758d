pub mod Lines
pub mod Ways
pub mod Once
pub mod Growth
pub mod Reports
pub mod Texts
-- the words of this crate, wherever one stands
pub use Lines.{Line, are_digit_pairs, bytes_in, is_digit, number_in, result_map, said, speed_named}
pub use Lines.{with_digit}
unfoldable pub use Lines.{config_said, cut_space, hub_said, line_says, number_from, three_words}
pub use Ways.{is_enabled, reach_from, reach_through}
pub use Once.{ListsOnce}
pub use Growth.{Adds, AddsPorts, IsOnPort, IsSeen, has_path, numbers_on}
pub use Reports.{DeviceSaid, DetailSaid, PortSaid, accepted, alone, amended, amended_port, behind}
pub use Reports.{claim_said, detail_said, joined, line_joined, with_bytes, with_detail}
pub use Texts.{counted, no_listings, one_more, with_right, with_wrong}
unfoldable pub use Texts.{cause_text, fault_line_text, fault_text, judgement_text, line_head}
unfoldable pub use Texts.{refusal_text, tally_text}
