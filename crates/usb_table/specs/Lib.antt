pub mod Controls
pub mod Deliveries
pub mod TableEntries
pub mod Findings
pub mod InterfaceSettings
pub mod Keys
pub mod Kinds
pub mod KnownPorts
pub mod Levels
pub mod Listing
pub mod NextEntries
pub mod PipeRows
pub mod TablePipes
pub mod Tables
pub mod Transfers
-- the words of this crate, wherever one stands
pub use Controls.{ControlledAt, MadeOrRefused, ReadIf, ReadLeft, ReadLeftIf, ReadMade, TableReads}
pub use Controls.{TransferIf, TransferIs, TransferLeaves, TransferMade, control_most}
pub use Controls.{control_target, target_asked, without_bytes}
pub use Controls.{TableWrites, WriteIf, WriteLeft, WriteLeftIf, WriteMade, unreserved, write_asked}
pub use Controls.{write_target}
pub use Deliveries.{ChangesAt, Collected, Delivered, EndsCleared, GaveBy, GaveBytes, GaveReport}
pub use Deliveries.{HaltCleared, HaltClearedBy, HaltClearedOf, HaltsCleared, JoinsSink, OnlySinkOf}
pub use Deliveries.{Reported, ReportedBy, Restarted, RestartedOf, TookBytes, TransfersAt, bytes_in}
pub use Deliveries.{sink_of}
pub use TableEntries.{Entries, Replaced, Rises, has_at, is_at_or_below, without}
pub use Findings.{HasDevice, HasNewAddress, HasNoDevice, IsSoundDevice, IsSoundFinding}
pub use Findings.{accepted_device_at, accepted_device_of, address_found, at_full_speed}
pub use Findings.{first_endpoint, in_endpoint}
pub use Findings.{is_accepted, is_hub, is_no_address, is_waiting, out_endpoint}
unfoldable pub use Findings.{has_address}
pub use Keys.{AddressKeys, AreIndexes, ArePiped, Enters, IsPiped, PathKeys, Slots, TableSlots}
pub use Keys.{UpdatesAddress, address_in, entries_of, finding_under, findings, key_of_address}
pub use Keys.{key_of_path, pipings, table_of, under, values_by_path, with_address, without_address}
pub use Kinds.{fits, start_after}
pub use KnownPorts.{IsAskable, IsPortOf, is_below_hub, known_port, port_below, port_found}
pub use KnownPorts.{port_of_finding, port_of_hub, root_port}
pub use InterfaceSettings.{InterfaceSent, InterfaceSentIf, InterfaceSet, InterfaceSetIf}
pub use InterfaceSettings.{SetOrRefused, SettingLeft, cleared_row, replaced_if, set_pipe}
pub use InterfaceSettings.{TableSetsInterface, function_set, interface_asked, interface_target}
pub use InterfaceSettings.{is_refusal, lost_function, mark_of, marked_row, pipes_set, replaced_row}
pub use InterfaceSettings.{set_function, set_row, setting_asked}
pub use Levels.{AllInSync, BitsOf, Call, FitsIn, FitsOut, FunctionInSync, HubTold, InSyncAt, IsHeld}
pub use Levels.{IsListening, KeepsInSync, KeepsLevels, KeepsMoved, KeepsPolled, PipesInSync}
pub use Levels.{PipesInSyncIf, SparesBulk}
pub use Levels.{StatusPipeInSync, TableClears, TableClearsOf, TablePolls, TableReceives}
pub use Levels.{TableReports, TableSends, Transferred}
pub use Listing.{IsFoundLike, IsLike, IsListedPort, IsPortBelow, Lists, ListsEach, ListsLike}
pub use Listing.{Matches, NoneWaits, SpecTree, entry_address, finding_at, hub_facts_at}
pub use Listing.{hub_facts_in, supply_at, supply_below, tier_of, tree_after, tree_in}
pub use NextEntries.{ComesAfter, IsLast, IsNext, Stands}
pub use PipeRows.{AreInPlace, ArePlaced, AreWhole, unless_broken}
pub use PipeRows.{asked_through, clear_miss, clear_miss_if, clears_miss, first_lost, first_number}
pub use PipeRows.{first_pipe, first_unclear, function_made, function_of, gives_bytes}
pub use PipeRows.{gives_reports, has_first, is_bulk_kind, is_interrupt_kind, lost_at, lost_if}
pub use PipeRows.{lost_row, lost_to, lost_way, mark_if, miss_of, moves_bulk, only_if, pipe_asked}
pub use PipeRows.{pipe_at, pipe_if, pipe_to, pipes_made, polls_miss}
pub use PipeRows.{polls_through, receives_miss, receives_through, row_at, row_made, sends_miss}
pub use PipeRows.{sends_through, takes_bytes, through, unclear, way_to, with_pipe, with_rest}
pub use TablePipes.{AreAbsent, AreFunctionPipes, ArePipesIf, ArePipesOf, ArePipesTo, IsEndPipe}
pub use TablePipes.{IsPipe}
pub use TablePipes.{IsPlace, IsStatusPipe, end_under, has_no_end, new_function, new_pipe, new_pipes}
pub use TablePipes.{new_pipes_to, new_row, new_status, no_pipes, none_lost, number_of}
pub use TablePipes.{row_of_ends}
pub use TablePipes.{usable_end}
pub use Tables.{ArePipesAt, GoesThrough, Table, TakesOut, empty, entered, pipes_at, removed}
pub use Tables.{said_at, said_in, said_of, with_entry}
pub use Transfers.{ClearedAfter, ClearedBy, ClearedFirst, ClearedIf, ClearedInOrder, ClearedInTurn}
pub use Transfers.{ClearedOfThrough, ClearedThrough, KeepsSettings, MovedOrRefused, NotPolled}
pub use Transfers.{NotTried, OnlySets, OnlyTransfers, PipeDid, PipesCleared, PipesClearedOf}
pub use Transfers.{PipesPolled, PipesReceived, PipesReported, PipesSent, PipesThrough, PollTook}
pub use Transfers.{PolledThrough, ReceivedThrough, ReportedThrough, SameDevice, SameSettings}
pub use Transfers.{SentThrough}
pub use Transfers.{TableFaultAllowed, ThroughIf, TransferTold, of_pipe, table_answer}
pub use declared.choice.EndpointChoice.{EndpointChoice}
pub use declared.choice.EndpointChoice.TheVariants.{At, FirstBulk}
pub use declared.entry.Entry.{Entry}
pub use declared.fault.TableFault.{TableFault}
pub use declared.fault.TableFault.TheVariants.{Transfer}
pub use declared.fault.TransferFault.{TransferFault}
pub use declared.fault.TransferFault.TheVariants.{NoDevice, NoEndpoint, NoInterface, NoPort}
pub use declared.fault.TransferFault.TheVariants.{Reserved}
pub use declared.indexes.Indexes.{Indexes}
pub use declared.known.KnownPort.{KnownPort}
pub use declared.function_pipes.FunctionPipes.{FunctionPipes}
pub use declared.pipes.Pipes.{Pipes}
pub use declared.pipes.Pipes.TheVariants.{Absent, Function, Hub}
