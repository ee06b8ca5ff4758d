pub mod Accounts
pub mod Agreement
pub mod Backlog
pub mod Bounds
pub mod Budget
pub mod BulkPipes
pub mod Controls
pub mod Cuts
pub mod Discoveries
pub mod PartCalls
pub mod PortHandling
pub mod HostCalls
pub mod HostStates
pub mod InterfaceSettings
pub mod KeptBytes
pub mod LeftPorts
pub mod Looks
pub mod NearPorts
pub mod NewsReports
pub mod Numbers
pub mod Ownership
pub mod Plugs
pub mod Ports
pub mod Progress
pub mod Service
pub mod Soundness
pub mod ToldFaults
pub mod Transfers
pub mod Changes
pub mod Reported
pub mod Requests
-- the words of this crate, wherever one stands
pub use Agreement.{Agrees, AreFound, IsFoundAt, Nested}
pub use Backlog.{ChangeCleared, ClearsConnection, ClearsReset, FindsNone, LookPaid, LookPays}
pub use Backlog.{PaysAtLook, PaysAtServe, ResetCleared, RestsCalm, ServePaid, ServePays, bare, calm}
pub use Backlog.{found, hubs, seen, tidied, unseen}
pub use Bounds.{clear_bound, clearing_bound, deciding_bound, drop_bound, handling_bound}
pub use Bounds.{hub_poll_bound, hubs_bound, look_bound, looks_bound, roots_bound, round_bound}
pub use Bounds.{serving_bound, told_bound}
pub use Budget.{Affords, Costs, HubPaid, NumberPaid, Pays, PaysDone, PaysPart, PaysRound, PortPaid}
pub use Budget.{RootsPaid, RoundKeeps, RoundPaid, ShowsChange, ShowsTold, Stops, StopsWithin}
pub use Budget.{ToldPaid, Weights, WorksOn, debt, event_weight, handling_most, hub_weight}
pub use Budget.{hubs_most, idle, look_weight, paid, poll_most, stray_weight, told_most}
pub use Controls.{AsksOrRefuses, ControlsAnyBus, ControlsAt, ControlsOrRefuses, ReadAt, ReadTells}
pub use Controls.{WriteTells, WrittenAt}
pub use Discoveries.{EntersFound, FindsAnew}
pub use BulkPipes.{EndpointsBegan, EndpointsStayed, KeepsBulk, RenewedAt, SameFunction, StayedAt}
pub use BulkPipes.{NamedEndpointsStayed}
pub use BulkPipes.{MovesNoBulk, StayedWhere, StaysWhere, by_both, by_control, by_rest}
pub use Cuts.{CutAt, ForgetsOnWay, StaysOrForgets}
pub use PartCalls.{PartCall, PortPart, RoundCall}
pub use PortHandling.{ClearsChange, Climbs, Decides, Disabled, DisablesOnWay, DropsLost, FindsSound}
pub use PortHandling.{HasWay, HoldsAt, InvariantAfterPort, IsDroppedAt, IsLost, IsOpen, LetsGoOn}
pub use PortHandling.{PortCaused, RestElsewhere, ServesSound, Tidies, Watches}
pub use HostCalls.{CallsAnyBus, MovesAnyBus, RoundsAnyBus, TransfersAnyBus}
pub use HostCalls.{ClearOfTells, ClearTells, NewTells, ReceiveTells, ReportTells, RoundTells}
pub use HostCalls.{SendTells, StopsIn, TransferTells}
pub use KeptBytes.{KeepsFew, kept_bytes, kept_in}
pub use InterfaceSettings.{InterfaceSetAt, InterfaceTells, SetsAnyBus, SetsInterface, SetsOrRefuses}
pub use HostStates.{BusCounts, Frees, HostState, counts_after, counts_of, no_counts}
pub use HostStates.{opening_host, work}
unfoldable pub use HostStates.{repowered}
pub use Ownership.{BaresAbove, BaresPort, BaresUpward, DropsHub, FinishesPort, HasLost}
pub use Ownership.{HostMapHolds, IsIsolated, IsOwned, IsOwnedBut, IsRooted, KeepsDisabled}
pub use Ownership.{KeepsOwned, KeepsPort, LeavesOwned, PortOwned, StaysOwned, StaysSingle, claims}
pub use Ownership.{root_of}
pub use Plugs.{HasPlugs, KeepsPlugs, PlugsAt, WasPlugged, is_plug, plug_events}
pub use Ports.{Broke, EndsAs, Entered, EntersOne, Forgets, Gained, IsDue, IsPortAt, Looked}
pub use Ports.{ProgressOnOk, ProgressOrLost, Requested, Shown, StandsAt, StandsNowhere, Waits}
pub use NearPorts.{ChangesNear, DropsNear, EntriesStay, IsOnWay, PortEnds}
pub use Looks.{HasNoPort, LookCosts, LookDid, LookIs, LookKeeps, LookMade}
pub use Looks.{LookTells, LookedThere, LooksAnyBus, LooksOver, PaysLookOver, RefusesUnknown}
pub use Looks.{Reports, ReportsPort, look_cost}
pub use Progress.{AddsNoWork, Did, DidRound, HostProgress, HostRuns, HostSpends, HostSteps}
pub use Progress.{KeepsNumbers, known_in}
pub use NewsReports.{HasArrived, HasLeft, IsLeast, IsLeftAt, ReportsArrived, ReportsLeft}
pub use NewsReports.{ReportsNews}
pub use NewsReports.{IsFirstLeft, IsNextUnreported, NoneLeft}
pub use NewsReports.{NoNews, ReportsNone, is_there, news_left, number_in}
pub use NewsReports.{path_of_news, some_left}
pub use Numbers.{AreNumbers, DeviceNumbers, KeepsKnown, Known, KnownDevice, device_in}
pub use Numbers.{NumbersFit, known_device, with_number}
unfoldable pub use Numbers.{first_numbers}
pub use Reported.{IsPlaceOf, TakesReported}
pub use Reported.{ReportedDevices, ReportedRise, reported_at}
pub use LeftPorts.{LeavesNoMore, LeftStatuses, none_left}
pub use Progress.{OnlyBusSteps, OnlyLeaves, QuietKeeps, StaysQuiet}
pub use Progress.{Remains, either, idle_work, waiting}
pub use Service.{DidParts, Discovers, DropsOne}
pub use Service.{EachLookedAgain, EachPolled, EndsAt, FinishesAt, HandlesAt, HandlesBelow}
pub use Service.{HandlesNumber, HandlesPort, HasHub, HubFails, HubPolled, HubsFail, HubsPolled}
pub use Service.{LookedAgain, LookedAt, LookedOnce, LookedOrLost, LooksAfterError, LooksAgain}
pub use Service.{LooksAt, LooksFail, LooksOnceMore, LosesParent, NoneHears, PolledOnce, PollsHub}
pub use Service.{PortsFail, Renews, RenewsPort, RootsFail, RootsServed, PartsFail, RoundParts}
pub use Service.{ServedAt, ServedBelow, ServedOrLost, ServedTold, ServesEach, ServesHub}
pub use Service.{ServesHubs, ServesOwn, ServesPort, ServesPorts, ServesRoots, ServesTold}
pub use Service.{Tidied, WentByParts, bit_clear, bit_set, drop_failed}
pub use Service.{OwnHandled, OwnServed, ServesFor, all_done, at_connection, at_error, at_others}
pub use Service.{hub_failed, own_known, own_unknown, DoneAt, BelowHandledSo, BitsHandledSo}
pub use Service.{EachAsked, EachWaitingAsked, HandledSo, HubAsked, HubsAsked, LookedSo}
pub use Service.{LooksInOrder, ReportHandled, RootsHandledSo, RoundOrder, WaitingAsked}
pub use Service.{asked_failed, asked_none}
pub use Service.{asked_some, below_known, below_unknown, bit_handled, bit_unset, bits_begun}
pub use Service.{hub_asked, hubs_begun, own_reported, ports_reported, root_handled, root_unchanged}
pub use Service.{roots_begun, waiting_begun, waiting_next}
pub use Service.{hubs_failed, looks_failed, poll_failed, port_failed, roots_failed}
pub use Service.{looked_once, lost_once, next_device, next_hub, no_device, no_hub, no_root}
pub use Service.{none_yet, not_heard, port_known, port_unknown, root_changed, root_steady}
pub use Service.{told_none, told_some, was_looked_at, was_lost, was_tidied}
pub use Soundness.{Accounted, CausesBut, DevicesAccurate, DropsSound, EachStill, EachStillBut}
pub use Soundness.{Elsewhere, HostInvariant, HubKeeps, HubsKeep, IsAccurateAt, IsAtRest}
pub use Soundness.{IsDroppable, IsFairTo, IsJustifiedAt, IsSilent, IsSoundBut, IsTruthOf}
pub use Soundness.{KeepsInvariant, KnownBut, LooksKeep, NoneWait, NoneWaiting, Part}
pub use Soundness.{PartKeepsInvariant, PartStays, PartsKeep, PortsListed, RefusalsJustified}
pub use Soundness.{RootsRest, RoundsSound, TransferKeeps, TruthfulBut, known_supply}
pub use ToldFaults.{HostReported, IsReportedLast, PartFaultAllowed, RoundFaultAllowed, StopsAsRound}
pub use ToldFaults.{StopsAsLook, StopsAsTransfer, TransferFaultAllowed, host_fault, host_told}
pub use ToldFaults.{is_final}
pub use ToldFaults.{is_last_fault, HostNotOfBus, HostWorks}
pub use Transfers.{ClearedAt, ClearedOfAt, FitsPipe, MovesOrRefuses, MovesThrough, NothingTried}
pub use Transfers.{ReceivedAt, ReportedAt, SentAt, pipe_for, table_in}
pub use Changes.{HasOnlyWorldChanges, IsCleared, KeepsEach, is_stuck, was_disabled}
pub use Requests.{AsksAndClears, ClearsAndAsks, ClearsAndReads, ClearsAndShows, ClearsBoth}
pub use Requests.{ClearsChangeOf, DisablesAfter}
pub use Requests.{ClearsError, ClearsFeature, ClearsHubOf, ClearsInTurn, ClearsOthers, ClearsOwn}
pub use Requests.{ClearsPort, ClearsReported, ClearsTold, ClearsWhere, DoneWhere, InOrder}
pub use Requests.{SettlesPort, ShowsPort, TidiesPort, TidiesTold, first_failed, next_done}
pub use declared.fault.HostFault.{HostFault}
pub use declared.fault.HostFault.TheVariants.{Bus}
pub use declared.news.News.{News}
pub use declared.news.News.TheVariants.{Arrived, Left}
pub use declared.host.Round.{Round}
pub use declared.look.Look.{Look}
pub use declared.look.Look.TheVariants.{Empty, Found}
pub use declared.host.Round.TheVariants.{Quiet, Worked}
