pub mod Art
pub mod Classes
pub mod Texts
pub mod Devices
pub mod Rules
pub mod Drawings
pub mod DrawnRuns
-- the words of this crate, wherever one stands
pub use Art.{branch, goes_on, is_beside, style_of, trunk, trunks}
unfoldable pub use Art.{art}
pub use Classes.{codes_of, ports_text}
pub use Texts.{is_layout, is_pair, is_shown, labelled_text, shown_or_escaped, shown_unit}
pub use Texts.{string_text}
unfoldable pub use Texts.{shown_units}
pub use Devices.{address_column, cause_number, cause_words, device_text, finding_text, ids_text}
pub use Devices.{power_text, refused_text, speed_column, stall_words, supply_text, word_digits}
unfoldable pub use Devices.{identity_text, strings_text}
pub use Rules.{index_after, is_bad_configuration, is_bad_device, is_bad_hub, is_cause_of}
pub use Rules.{is_stalled_config, rule_if, rule_of, rule_text}
pub use Drawings.{columns, drawn_entries, finding_supply, gap, granted_at, heading_end}
pub use Drawings.{hub_supply, is_unbroken, listed_supply, ruled_line, supply_from, widest}
unfoldable pub use Drawings.{drawing_lines, entry_line, heading}
pub use DrawnRuns.{IsDrawn, MarksDrawing, RunDrawn, drawn_lines, of_plan, unread}
pub use declared.art.Style.{Style}
pub use declared.art.Style.TheVariants.{Ascii, Lines}
