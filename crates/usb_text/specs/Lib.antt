pub mod Line
pub mod ListingLines
-- the words of this crate, wherever one stands
pub use Line.{HasFault, IsLineOf, lines_of}
pub use ListingLines.{cause_index, cause_text, cause_word, entry_lines, escaped_text, finding_lines}
pub use ListingLines.{hub_lines, is_plain_unit, lines_text, request_word, said_lines, star}
pub use ListingLines.{string_lines}
pub use ListingLines.{unit_text, written_lines}
unfoldable pub use ListingLines.{address_line, bound_line, config_line, config_lines, device_lines}
unfoldable pub use ListingLines.{hub_line, listing_line, listing_lines, refused_line, said_line}
unfoldable pub use ListingLines.{speed_word, string_line, told_lines}
