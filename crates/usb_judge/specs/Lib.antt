pub mod Holders
pub mod Answers
pub mod Runs
pub mod Sources
pub mod Texts
pub mod Scenes
pub mod Rules
pub mod Judgements
pub mod Verdicts
pub mod Worlds
pub use Holders.{control_most, has_out_for, holders, holds, is_at_root, is_empty, is_out_for}
pub use Holders.{is_over, is_root, is_too_long, items_if, judged_at, judged_by, reads, sent_bytes}
pub use Answers.{after_answer, after_attempt, after_token, is_ack, is_dropped, is_of, is_other}
pub use Answers.{is_skipped, is_sure, is_unanswered, left_by, skips_retry, toggle_forgotten}
pub use Answers.{told_after, told_before, unanswered, without}
pub use Runs.{Keeps, Made, after_got, after_packet, after_setup, is_with, left_after, passes}
pub use Runs.{said_at}
pub use Sources.{GoesOn, HasNoPlace, IsAfter, IsPlace, Narrows, after_clear, after_loss, at_plug}
pub use Sources.{goes_on, moved, with_place}
pub use Texts.{is_fault}
unfoldable pub use Texts.{data_text, empty_text, head_text, remark_text, remark_words}
-- the words of this crate, wherever one stands
pub use Scenes.{Scene, Seen, device_row, device_seen, scene_in}
pub use Rules.{breaks, breaks_device, breaks_port, breaks_refusal, breaks_seen, claims_address}
pub use Rules.{draws_too_much, exceeds, gives_address, has_hub, has_other_ports, is_accepted}
pub use Rules.{is_accepted_at, is_front, is_listed_at, is_missing, is_open, is_other_number}
pub use Rules.{is_own_configuration, is_own_front, is_used, need_in, shares_address}
pub use Judgements.{IsAside, IsFrontOf, IsPowered, IsRight, IsRightOf, IsSo, IsWrongFor, Judges}
pub use Judgements.{LacksDevice, RisesByPath, Stands}
pub use Verdicts.{listed_causes, told, told_at, told_lack}
unfoldable pub use Verdicts.{told_for}
pub use Worlds.{ArePlugged, IsRightIn, configuration_in, given_below, is_port_number, names_port}
pub use Worlds.{powers_itself, scene_of, scene_on, state_seen}
