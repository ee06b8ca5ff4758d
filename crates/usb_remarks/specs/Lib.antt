pub mod Remarks
pub mod Refusing
pub mod Words
-- the words of this crate, wherever one stands
pub use Remarks.{at_index, counts_behind, device_remark, endpoint_within, has_status, hub_remark}
pub use Remarks.{is_too_small, item_remark_within, lack_status, noted, read_remark, spelled_remark}
pub use Remarks.{status_remark, unless_repeated, whole_hub_remark, whole_remark, with_text}
unfoldable pub use Remarks.{config_remark, configs_remark, first_endpoint, item_remark, remark_of}
unfoldable pub use Remarks.{text_remark}
pub use Refusing.{BlamesNoDescriptor, IsOwn, IsOwnOf, IsRefused, blames_descriptor, fault_in}
pub use Refusing.{is_of_descriptor}
pub use Words.{address_rule, config_words, count_words, cut_words, descriptor_words, device_words}
pub use Words.{given_words, head_words, hub_bytes, index_words, is_count, is_status_address}
pub use Words.{item_rule, item_words, lacking_words, length_rule, missing_words, packet_rule}
pub use Words.{passing_words, portless_words, ports_rule, ports_words, repeated_words, rule_words}
pub use Words.{said_total, size_rule, small_words, status_words, text_words}
unfoldable pub use Words.{endpoint_words, hub_words, key_words, remark_words}
pub use declared.remark.Remark.{Remark}
pub use declared.text.TextRemark.{TextRemark}
