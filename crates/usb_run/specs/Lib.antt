pub mod TransferLines
pub mod Run
pub mod ItemLines
pub mod NewsCalls
pub mod Transfers
pub mod RunSegments
pub mod Transcript
pub mod Reports
pub mod Moments
-- the words of this crate, wherever one stands
pub use TransferLines.{choice_text, done_end, end_text, endpoint_text, failed_end, fault_word}
pub use TransferLines.{look_end, one_news_line, place_text, polled_end, received_end, sent_end}
pub use TransferLines.{setting_text, task_word}
unfoldable pub use TransferLines.{answer_line, news_lines}
pub use Run.{GoesOn, IsBegun, IsCaused, RunsOn, Spent, entry_said, items_left, listing_of}
pub use Run.{round_fault, run_fault, said_if}
pub use ItemLines.{item_lines, number_of}
pub use NewsCalls.{AllNews, SomeNews, SomeNewsAre, no_news, one_news}
pub use Transfers.{CallGives, CallTells, Does, Gives, IsItemOf, IsOfCall, ItemOfCall, StopsAt}
pub use Transfers.{TransferStops, sent_count, transfer_ended}
pub use RunSegments.{Arrives, Comes, EndsSettling, Knowing, Knows, LeavesSettled, OneRound, Ran}
pub use RunSegments.{Reaches, RoundFails, Rounds, Settled, Settles, Settling, Unsettled, idle, more}
pub use RunSegments.{none, silent}
pub use Transcript.{AppendsText, CutsText, Makes, Next, NextAsked, NextEvent, Prints, PutsLine}
pub use Transcript.{RunStops, RunsTo, StoppedRun, asked, at_event, begun, behind, in_item, in_last}
pub use Transcript.{in_round, in_text, item_text, itself, last, never, on_the_way, shown, told}
pub use Transcript.{unwritten}
unfoldable pub use Transcript.{items_text, listings}
pub use Reports.{EndsWell, Finishes, Opens, RunsWell}
pub use Moments.{ControlIfAsked, ControlTold, InterfaceIfAsked, InterfaceTold, IsListingOf}
pub use Moments.{ListsPlugged, ListsRight, LookShows, TellsRight, as_answer, table_told}
pub use declared.mode.Mode.{Mode}
pub use declared.mode.Mode.TheVariants.{Tree}
pub use declared.item.Item.{Item}
pub use declared.item.Item.TheVariants.{Answer, Listing}
pub use declared.item.Task.{Task}
pub use declared.item.TaskEnd.{TaskEnd}
pub use declared.item.TaskEnd.TheVariants.{Done, Looked, Polled, Received, Sent}
pub use declared.runs.Report.{Report}
pub use declared.runs.RunFault.{RunFault}
pub use declared.runs.RunFault.TheVariants.{LimitReached, Memory, TraceFailed}
-- words of crates below, for crates that need no more of these
pub use Rattle.usb_enum.specs.{HostOptions, usual_options}
pub use Rattle.usb_table.specs.{At, EndpointChoice, Entries, FirstBulk, SpecTree, TransferFault}
pub use Rattle.usb_table.specs.{tree_after}
pub use Rattle.usb_host.specs.{Agrees, Arrived, HostState, Left, News, Quiet, ReportsNews, Round}
pub use Rattle.usb_host.specs.{Worked, opening_host, plug_events}
unfoldable pub use Rattle.usb_host.specs.{repowered}
pub use Rattle.usb_text.specs.{lines_text, written_lines}
unfoldable pub use Rattle.usb_text.specs.{listing_lines}
