pub mod Text
pub mod Packet
pub mod Attempt
pub mod Record
pub mod Grammar
pub mod Report
pub mod Shown
pub mod Capture
-- the words of this crate, wherever one stands
pub use Text.{if_found, is_digit, value_of, with_digit}
unfoldable pub use Text.{bytes_on, decimal_in, number_on, strip, strip_any}
pub use Packet.{data_of, fitting_token}
unfoldable pub use Packet.{bit_in, data_in, handshake_in, packet_in, packet_mark_in, token_in}
pub use Attempt.{IsAttemptLine, IsMarkedAnswer, IsSent, IsTraced, attempt_answered, attempt_begun}
pub use Attempt.{behind_pre, data_follow, is_ack_packet, is_answer, is_data_packet, kept_where}
pub use Attempt.{may_be_marked, no_time, one_answer, outgoing_of, payload_if, reply_if, sent}
pub use Attempt.{traced, whole_line}
unfoldable pub use Attempt.{answer_in, attempt_in, host_ack_in, host_data_in, host_in, next_in}
unfoldable pub use Attempt.{read_attempt}
pub use Record.{AppendsRecords, AreRecords, HasBit, IsRecord, answer_packets, attempt_packets}
pub use Record.{damaged, header, host_packets, next_packets, own_mark, pre_mark, pre_packets}
pub use Record.{record_head}
pub use Grammar.{AreUnits, IsForm, IsOneOf, IsPiece, IsUnit, Piece, behind_byte, behind_bytes}
pub use Grammar.{behind_endpoint, behind_escape, behind_letter, behind_name, behind_path}
pub use Grammar.{ends_path, is_endpoint, is_escape, is_from_root, is_plain, path_end}
pub use Grammar.{piece_of}
unfoldable pub use Grammar.{behind_item, behind_items, behind_piece, fits_form}
pub use Report.{HasForm, IsPlug, IsReport, causes, failures, has_form, plug_form, report_forms}
pub use Shown.{Begins, IsPlainChar, IsShownChar, IsShownText, is_escaped_pair, pair_value}
unfoldable pub use Shown.{is_escape_of}
pub use Capture.{Captures, ComesOf, IsCapture, IsRunLine, IsTold, IsTraceLine, LineRecords, OpenEnd}
pub use Capture.{RecordsOf, RefusedLine, StandsBehind, WroteFront, WroteLines, longest, next_number}
pub use declared.attempt.TracedAttempt.{TracedAttempt}
pub use declared.capturing.OpenLine.{OpenLine}
pub use declared.capturing.PcapFault.{PcapFault}
pub use declared.capturing.PcapFault.TheVariants.{Line, NoAttempt, Read, TooLong}
pub use declared.capturing.PcapFault.TheVariants.{Write}
pub use declared.item.Item.{Item}
pub use declared.item.Item.TheVariants.{Byte, Letter}
