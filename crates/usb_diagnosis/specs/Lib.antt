pub mod Key
pub mod Shown
pub mod Nearest
pub mod Place
pub mod Report
pub mod Checking
pub mod Trouble
pub mod Entry
pub mod Listing
pub mod Slip
pub mod PathSlip
-- the words of this crate, wherever one stands
pub use Key.{key_name}
pub use Shown.{char_shown, dots, text_shown}
pub use Nearest.{IsNearest, IsNearestAt}
unfoldable pub use Nearest.{edits_between}
pub use Place.{IsColumnIn, IsLineIn, IsSpotIn, behind, behind_all, colon_number, line_behind}
pub use Place.{spot_behind, spot_on, spot_text}
pub use Report.{count_line, fault_name, line_if, place_of, place_words, plan_report}
unfoldable pub use Report.{fault_text, first_line, plan_lines, remark_head, remark_line}
unfoldable pub use Report.{remark_lines}
pub use Checking.{BeginsAt, ListsIn, TellsFault, TellsPlan, TellsVerdict, WritesVerdict}
pub use Listing.{AreBlocks, BeginsWith, IsBlock, IsLed, ListsFaults, cut_line}
pub use Trouble.{IsTroubleOf, IsTroubleWithin, inner_keys}
pub use Slip.{slip_at}
unfoldable pub use Slip.{counted_words, digit_slip, letter_words, slip_words}
pub use PathSlip.{IsAt, IsPathSlip, IsPortOf, SpellsPath, path_in, path_within}
pub use Entry.{IsEntry, array_place, entry_in, entry_keys, entry_of, flag_of, keys_with}
pub use Entry.{table_numbered, value_flag, value_text, verb_keys, wide_in}
pub use declared.key.PlanKey.{PlanKey}
