pub mod HeardOutcomes
pub mod Transactions
pub mod AttemptLogs
pub mod AskedDevices
pub mod TransactionLeaves
pub mod ControlWrites
pub mod TransactionFailures
pub mod Losses
pub mod Answerers
pub mod SparedDevices
pub mod Calls
pub mod MadeAttempts
pub mod HeardTries
pub mod Rows
pub mod Control
pub mod End
pub mod InterruptPipes
pub mod EndpointPipes
pub mod Moves
pub mod Stages
pub mod Packets
pub mod Leaves
pub mod DataWrites
pub mod Failures
pub mod Attempts
pub mod Transfers
pub mod Reports
pub mod Uses
-- the words of this crate, wherever one stands
pub use HeardOutcomes.{acks, heard_as, heard_when_sent, heard_with, polled, polled_as, set_up_as}
pub use HeardOutcomes.{toggle_after}
pub use Transactions.{AttemptsMade, BusTold, Ends, IsTarget, SetupEnds, error_limit, in_attempt}
pub use Transactions.{out_attempt, packed, setup_attempt, transaction_bound, wait_limit}
pub use AttemptLogs.{AttemptLog, BusFailed, IsNoEnd, LastOutcome, Polled, Transacted}
pub use AttemptLogs.{TransactionDone, Waiting, errors_with, next, start, waits_with}
unfoldable pub use AttemptLogs.{KeepsTrying, errors_running, waits_in}
pub use AskedDevices.{Answered, AskedLast, IsUnheard, SetupAccepted, Took}
pub use TransactionLeaves.{AcceptedAt, AcceptedSince, CanAccept, CanAnswer, ChangesIn, ControlIn}
pub use TransactionLeaves.{IsInRead, IsNotOfBus, IsStatusEndpoint, PollCut, PollEnds, ReadCut}
pub use TransactionLeaves.{ReadEnds, ReadStatus, SetupDone, SinkBetween, SinkEnds, SinkOut}
pub use TransactionLeaves.{SourceBetween, SourceCut, SourceEnds, SourceIn, StatusEnds, ToldBy}
pub use TransactionLeaves.{ToldIn, ToldSince, ToldSome, is_at, none_came, one_came, over}
pub use TransactionLeaves.{refuses_in, IsPacedWithin, SourcePollEnds, SourcePolled}
pub use ControlWrites.{WriteEnds, WriteOut, WriteStatusEnds, WriteStatusIn}
pub use TransactionFailures.{ControlInFailure, Expects, Fits, HasNext, Listens, NoThreeDamaged}
pub use TransactionFailures.{PollFailure, SetupFailure, SinkOutFailure, SourceInFailure}
pub use TransactionFailures.{StatusReadFailure, WriteOutFailure, SourcePollFailure}
pub use TransactionFailures.{WriteStatusFailure, data_write, refusal, refused_write, status}
pub use Losses.{LosesNone, LossesIn, begins_no_stretch}
pub use Answerers.{Answerer, HadOne, IsAnswer}
pub use SparedDevices.{EachSpared, IsSpared}
pub use Calls.{AsksIn, InFailure, InLeaves, IsUnhindered, MeansOfIn, MeansOfOut, MeansOfSetup}
pub use Calls.{OutFailure, OutLeaves, PollsIn, SendsOut, SetsUp}
pub use MadeAttempts.{GivenUp, IsOnly, TransactionAttempts}
pub use HeardTries.{AfterFirst, HearsAs, further_bound, moved_in, tried}
pub use Rows.{AskedFull, AsksRow, CameInRow, RowCame, RowGone, RowKept, RowLost, RowSent, SendsRow}
pub use Rows.{SentFull, none_asked, none_sent, one_asked, one_sent, row_bound, row_packets}
pub use declared.trans_fault.TransFault.{TransFault}
pub use declared.trans_fault.TransFault.TheVariants.{Bus, Busy, NoAnswer, Stalled}
pub use declared.heard_outcome.HeardOutcome.{HeardOutcome}
pub use declared.heard_outcome.HeardOutcome.TheVariants.{Lost, Moved, NotReady, Refused, Repeat}
pub use declared.target.Target.{Target}
pub use declared.tries.Tries.{Tries}
pub use Control.{BusToldIt, FaultAfter, as_pipe_fault, ends_stage, write_bound}
unfoldable pub use Control.{byte_bound, control_bound}
pub use End.{IsEnd, packet_target}
pub use InterruptPipes.{Interrupt, NoPoll, PollAsked, Polls, interrupt_made}
pub use EndpointPipes.{PipeState, Cleared, Clears, Idle, MovedIn, MovedOut, Receives, Sends, Turned}
pub use EndpointPipes.{PipePolls, PollsOnce, after_failed_clear, after_fault, after_transfer}
pub use EndpointPipes.{cleared, halt_address, is_broken, is_ready, needs_clear, packets_of}
pub use EndpointPipes.{pipe_made, polled_pipe}
pub use Stages.{Asks, Confirms, DataEnds, DataLost, DataStage, Goes, NoData, NoRoom, NoSetUp}
pub use Stages.{NoStatus, NotConfirmed, NotPut, PutsData, PutUnconfirmed, Reads, SetUp, WasPut}
pub use Stages.{WasRead, Writes, Written}
pub use Moves.{AllCame, AllGone, Came, Fetches, Gave, NoRoomLeft, NotCame, NotGone, Puts}
pub use Moves.{ReceiveEnds, SendEnds, SendsAt, WhileSending, packets_came, packets_gone}
pub use Packets.{PacketsReceived, PacketsSent}
pub use Leaves.{AcceptedIn, AnswerRead, BegunAgain, ByteTold, CanEnd, ClearLeaves, EffectDone}
pub use Leaves.{EffectOrNone, FrontTaken, InPipeInSync, IsBehind, IsBehindData, IsMaximum, GaveNext}
pub use Leaves.{GavePackets, IsNoBusFault, IsTransferAnswer, LossesKept, LossesOf, Moment}
pub use Leaves.{OnlyEndpoint, OutPipeInSync, PacketLeaves, PollLeaves, PollTells, ReadLeaves}
pub use Leaves.{ReceiveLeaves, SendLeaves, SendingLeaves, ToldOf, TookItOrLost, WasRefused}
pub use Leaves.{WriteLeaves, came_with, got_after, lost, none, pipe_known, report_in, some, took}
pub use Leaves.{whole}
pub use DataWrites.{DataMoment, DataRefused, DataTaken, DataWriteLeaves, stage_begun}
pub use Failures.{ControlReadFailure, DataWriteFailure, PollingFailure, ReceiveFailure}
pub use Failures.{PacketFailure, SendFailure, WriteFailure}
pub use Attempts.{IsOfDataWrite, IsOfTransfer, TransferAttempts}
pub use Transfers.{DataWrite, PipeClear, PipePoll, PipeReceive, PipeSend, Completed, ControlRead}
pub use Transfers.{ControlWrite, InterruptPoll, Undamaged, Unshared}
pub use Reports.{GaveReports, PollsInTurn, ReportsLeave}
pub use Uses.{UsesBus}
pub use declared.condition.Condition.{Condition}
pub use declared.fault.PipeFault.{PipeFault}
