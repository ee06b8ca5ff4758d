pub mod EntryData
pub mod Notes
pub mod Speed
pub mod Text
pub mod Writing
-- the words of this crate, wherever one stands
pub use EntryData.{BeginsWithDevice, BreaksAt, FrontConfig, HasEntryFault, HasFrontFault}
pub use EntryData.{IsDescriptor, IsEntry, IsText, NextFault}
pub use Notes.{IsProductRead, IsSpeedRead, IsSpeedText}
pub use Speed.{configs_fit, fits_low_speed, has_low_speed, item_fits, items_fit}
unfoldable pub use Speed.{is_taken_low}
pub use Text.{basic_string, char_text, direction_word, entry_codes, first_config_codes, has_ports}
pub use Text.{is_misfit, is_self_powered, item_line, misfit_text, power_line, product_text}
pub use Text.{transfer_word, word_digits}
unfoldable pub use Text.{comment_text, configuration_lines, descriptor_line, endpoint_line}
unfoldable pub use Text.{entry_text, head_line, identity_lines, interface_line, key_text}
unfoldable pub use Text.{maker_text, name_line}
unfoldable pub use Text.{ports_line, setting_text, speed_line}
unfoldable pub use Text.{known_speed_line}
pub use Writing.{AddsTable, AreTables, HasSourceFault, IsNamedEntry, IsSource, IsTable}
pub use Writing.{MarksAtWrite, StopsAt, WritesEntries}
pub use declared.fault.EntryFault.{EntryFault}
pub use declared.fault.EntryFault.TheVariants.{Configuration, Device, Empty, LeftOver, Memory}
pub use declared.fault.EntryFault.TheVariants.{Missing, NoName, TooMany, Write}
pub use declared.source.Source.{Source}
