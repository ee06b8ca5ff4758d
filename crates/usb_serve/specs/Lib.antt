pub mod ServeResults
pub mod ServedTranscripts
pub mod WrittenItems
pub mod ServedRuns
pub mod ListingEnds
pub mod Outputs
pub mod OutputTraces
pub mod ServedThrough
-- the words of this crate, wherever one stands
pub use ServeResults.{IsCausedInRun, IsCausedInTree, IsFaultOfRun, IsOfRun, MarksWrite, MarksWriter}
pub use ServeResults.{input_fault, report_fault}
pub use WrittenItems.{IsUnopened, ItemsText, ItemsWritten, TextWritten, UntracedRun}
pub use ServedTranscripts.{LinesPut, RunEnds, at_write, of_run}
pub use ServedRuns.{IsNoPlan, IsServed, IsUnread, IsWritten}
pub use ServedRuns.{NeverAtLimit, Reads, RunWritten, Serves, TreeText, TreeWritten, of_plan, unread}
pub use ListingEnds.{IsListingEnd}
pub use Outputs.{LeavesFront, buffered, has_ended, held, output_writer}
pub use OutputTraces.{output_in}
pub use ServedThrough.{LetsOut, ServesThrough, all, cut, writer_fault}
pub use declared.output.Output.{Output}
pub use declared.tracing.OutputTracer.{OutputTracer}
pub use declared.serving.ServeFault.{ServeFault}
-- words of crates below, for crates that need no more of these
pub use Rattle.usb_run.specs.{Answer, Entries, Item, LimitReached, Listing, Memory, SpecTree}
pub use Rattle.usb_run.specs.{TraceFailed, item_lines, tree_after}
pub use Rattle.usb_run.specs.declared.item.Item.TheVariants.{News}
