pub mod CommandLine
pub mod Selecting
-- the words of this crate, wherever one stands
pub use CommandLine.{AreNamedFiles, GivesNumber, GivesPorts, HasSubcommand, IsDevice, IsExplain}
pub use CommandLine.{IsFar, IsLive, ReadsDevice, ReadsDraw, ReadsExplain, ReadsFar, ReadsLive}
pub use CommandLine.{ReadsWords, ascii_rule, attempts_rule, device_app, devices_rule, draw_app}
pub use CommandLine.{explain_app, far_app, first_app, judge_rule, limit_rule, rounds_rule, live_app}
pub use CommandLine.{only_rule, plain_app, ports_rule, program_app, run_app, text_app}
pub use CommandLine.{text_rule, wide_rule, with_text, words_of_file}
pub use Selecting.{NamesAddress, NamesPath, NamesSelection}
