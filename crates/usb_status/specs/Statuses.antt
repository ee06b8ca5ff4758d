-- The program's exit status: 0 all was done; 1 a text, a packet, descriptors or a line are refused,
-- or a host is judged wrong; 2 the words name no command; 3 a limit is reached; 4 memory, or input
-- or output, failed.
use Rattle.std.specs.Prelude.{ℕ, Result, Ok, Err}
use Rattle.usb_world.specs.{BusFault}
use Rattle.usb_world.specs.declared.types.BusFault.TheVariants as bus
use Rattle.usb_plan.specs.declared.fault.PlanFault.TheVariants as plan
use Rattle.usb_text.specs.declared.line.LineFault.{LineFault}
use Rattle.usb_text.specs.declared.line.LineFault.TheVariants as line
use Rattle.usb_serve.specs.{LimitReached, Memory, ServeFault, TraceFailed}
use Rattle.usb_serve.specs.declared.serving.ServeFault.TheVariants as serve
use Rattle.usb_explain.specs.{ExplainFault}
use Rattle.usb_explain.specs.declared.explaining.ExplainFault.TheVariants as explain
use Rattle.usb_pcap.specs.{PcapFault}
use Rattle.usb_pcap.specs.declared.capturing.PcapFault.TheVariants as pcap
use Rattle.usb_entry.specs.{EntryFault}
use Rattle.usb_entry.specs.declared.fault.EntryFault.TheVariants as entry
use Rattle.usb_places.specs.declared.fault.PlacesFault.{PlacesFault}
use Rattle.usb_places.specs.declared.fault.PlacesFault.TheVariants as places
use Rattle.usb_far.specs.{FarFault}
use Rattle.usb_far.specs.declared.fault.FarFault.TheVariants as far
use Rattle.usb_bench.specs.{BenchFault}
use Rattle.usb_bench.specs.declared.fault.BenchFault.TheVariants as bench
use Rattle.usb_stream.specs.{LiveFault}
use Rattle.usb_stream.specs.declared.fault.LiveFault.TheVariants as stream
use Rattle.usb_live.specs.{LiveEnd}
use Rattle.usb_live.specs.declared.end.LiveEnd.TheVariants as live
use Rattle.usb_status.specs.declared.fault.Fault.{Fault}
use Rattle.usb_status.specs.declared.fault.Fault.TheVariants as fault

-- of a packet's digits
abbrev pub line_status : LineFault → ℕ
line_status line.BadHex = 1
line_status (line.Packet why) = 1
line_status line.Memory = 4

-- of a plan, and of what is read and written of any command
abbrev pub serve_status : ServeFault → ℕ
serve_status serve.Read = 4
serve_status serve.TooLong = 1
serve_status (serve.Plan plan.Syntax) = 1
serve_status (serve.Plan (plan.OnlyFar place)) = 1
serve_status (serve.Plan (plan.MissingKey place)) = 1
serve_status (serve.Plan (plan.BadValue place)) = 1
serve_status (serve.Plan (plan.BadHex place)) = 1
serve_status (serve.Plan (plan.UnknownDevice place)) = 1
serve_status (serve.Plan (plan.BadPath place)) = 1
serve_status (serve.Plan (plan.PortTaken place)) = 1
serve_status (serve.Plan (plan.PortEmpty place)) = 1
serve_status (serve.Plan plan.Memory) = 4
serve_status (serve.Run LimitReached) = 3
serve_status (serve.Run Memory) = 4
serve_status (serve.Run TraceFailed) = 4
serve_status serve.Write = 4
serve_status serve.Memory = 4

-- of a run's text
abbrev pub explain_status : ExplainFault → ℕ
explain_status explain.Read = 4
explain_status (explain.Line number) = 1
explain_status explain.TooLong = 1
explain_status explain.Write = 4

abbrev pub pcap_status : PcapFault → ℕ
pcap_status pcap.Read = 4
pcap_status (pcap.Line number) = 1
pcap_status pcap.TooLong = 1
pcap_status pcap.NoAttempt = 1
pcap_status pcap.Write = 4

-- of a device's descriptors
abbrev pub device_status : EntryFault → ℕ
device_status entry.NoName = 1
device_status entry.Empty = 1
device_status (entry.Device why) = 1
device_status entry.TooMany = 1
device_status (entry.Configuration at why) = 1
device_status (entry.Missing at) = 1
device_status (entry.LeftOver at) = 1
device_status entry.Write = 4
device_status entry.Memory = 4

-- of a plan with places
abbrev pub places_status : PlacesFault → ℕ
places_status (places.When place why) = 1
places_status (places.Order place) = 1
places_status (places.Plan why) = serve_status (serve.Plan why)

-- of a host's lines
abbrev pub far_status : FarFault → ℕ
far_status far.Read = 4
far_status far.LineTooLong = 1
far_status far.BadCharacter = 1
far_status far.NoQuestion = 1
far_status far.BadNumber = 1
far_status far.HostGone = 4
far_status far.LongSend = 1
far_status (far.Bus bus.Limit) = 3
far_status (far.Bus bus.Memory) = 4
far_status (far.Bus bus.Failed) = 4
far_status far.Write = 4

-- of a host that is judged
abbrev pub bench_status : BenchFault → ℕ
bench_status (bench.Far why) = far_status why
bench_status bench.NoRest = 3
bench_status bench.OtherPlan = 1
bench_status bench.Memory = 4

-- of a far end's lines
abbrev pub live_status : LiveEnd → ℕ
live_status (live.Line number stream.Read) = 4
live_status (live.Line number (stream.Line why)) = 1
live_status (live.Line number stream.TooManyPushes) = 1
live_status (live.Line number stream.Gone) = 4
live_status (live.Line number stream.Write) = 4
live_status (live.Line number stream.LimitReached) = 3
live_status (live.Rounds number) = 3
live_status live.Memory = 4

abbrev pub fault_status : Fault → ℕ
fault_status fault.Words = 2
fault_status fault.NoText = 2
fault_status (fault.Line why) = line_status why
fault_status (fault.Serve why) = serve_status why
fault_status (fault.Explain why) = explain_status why
fault_status (fault.Pcap why) = pcap_status why
fault_status (fault.Device why) = device_status why
fault_status fault.LongDevice = 1
fault_status (fault.Places why) = places_status why
fault_status (fault.Far number why) = far_status why
fault_status (fault.Bench number why) = bench_status why
fault_status fault.Judged = 1
fault_status (fault.Live end) = live_status end
fault_status fault.Refused = 1
fault_status fault.Closed = 4

abbrev pub exit_status : Result (Unit {0}) Fault → ℕ
exit_status (Ok done) = 0
exit_status (Err why) = fault_status why
