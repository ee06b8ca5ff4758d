pub mod Words
pub mod Table
pub mod Requests
pub mod Places
pub mod Explained
-- the words of this crate, wherever one stands
pub use Words.{Said, endpoint_text, is_endpoint, names, row_text, said_of, way_word, word_or_none}
unfoldable pub use Words.{field_value, fits_row, phrase_fits, phrase_text, row_for, word_for}
pub use Table.{hid_descriptors, hub_features, indexed_descriptors, kinds, port_features, protocols}
pub use Table.{report_types, rows, selected_features, whole_descriptors}
pub use Requests.{data_setup, is_setup, is_whole, request_of, sent_setup, setup_in}
pub use Places.{address_in, after_answer, after_asked, after_attempt, after_plug, after_read}
pub use Places.{after_request, after_told, below_path, fresh_place, is_done, is_empty_data}
pub use Places.{is_empty_payload, is_in_control, is_move, is_port_reset, is_port_status, is_request}
pub use Places.{is_reset_clearing, is_reset_of, is_set_address, known_after, next_places}
pub use Places.{next_reset, nothing_known, path_of, place_of, plugged_root, reset_answered}
pub use Places.{reset_asked, root_path, still_begun, with_place, with_root}
unfoldable pub use Places.{place_path}
pub use Explained.{BeginsOtherwise, ExplainedInPart, ExplainedTo, ExplainsText, IsExplained}
pub use Explained.{IsReadLine, IsUnended, KeepsLine, Reaches, ReachesOr, explained_by, is_all}
pub use Explained.{is_damaged, is_for, is_path, keeps_attempt, kept_attempt, kept_of, kept_text}
pub use Explained.{kept_told, line_text, path_end, path_said, path_words, request_words}
pub use Explained.{sent_whole, words_behind}
pub use declared.explaining.BegunLine.{BegunLine}
pub use declared.explaining.ExplainFault.{ExplainFault}
pub use declared.field.SetupField.{SetupField}
pub use declared.known.Known.{Known}
pub use declared.known.Place.{Place}
pub use declared.known.Reset.{Reset}
pub use declared.known.Roots.{Roots}
pub use declared.only.Kept.{Kept}
pub use declared.only.Only.{Only}
pub use declared.phrase.Phrase.{Phrase}
