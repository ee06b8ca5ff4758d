pub mod Addresses
pub mod Bounds
pub mod Calls
pub mod Device
pub mod FairEnumerations
pub mod Findings
pub mod Frames
pub mod Hub
pub mod LastRequests
pub mod LearnedFacts
pub mod Losses
pub mod Parts
pub mod Places
pub mod PresentDevices
pub mod Readings
pub mod Reasons
pub mod Refusals
pub mod Said
pub mod Stops
pub mod StringRequests
pub mod Text
pub mod TextLengths
pub mod Verdicts
-- the words of this crate, wherever one stands
pub use Addresses.{AtPort, EndsEnumeration, EndsOwned, IsSpare, KeepsEnumerated, OnlyCalls}
pub use Addresses.{TakesAddress, Within}
pub use Bounds.{IsWide, PASSES, configuration_bound, configured_bound, configured_by}
pub use Bounds.{enumeration_bound, examination_bound, examined_by, hub_bound, pass_bound}
pub use Bounds.{read_bound, reset_bound, strings_bound, text_bound, texts_bound, unaddressed_bound}
pub use Bounds.{widest_enumeration, widest_pass}
pub use Calls.{CalledAt, SettlesReset, StatusAt}
pub use Device.{AreFacts, CanServe, FitsHost, HasFacts, HasFittingFacts, HasStarted, HasStatus}
pub use Device.{IsStarted, IsUnaddressed, LAST_TIER, holds_changes}
pub use Device.{configuration_of, device_bytes, fits_tier, is_device, is_hub_device, needs_pre}
pub use Device.{string_indexes, target_of}
pub use FairEnumerations.{Faulted, FaultsFor, HasServer, HubPends, IsFairAt, Missed, Misses}
pub use FairEnumerations.{PassEnds, PendingOr, ServesAt, StopsFairly, StopsFor}
pub use Findings.{Begins, Closes, Disables, EmptiesPorts, Enumerates, FewAttempts, FindingIsTrue}
pub use Findings.{FindingStands, GivenUp, GivesUp, HandsOn, IsAccepted, IsCause, IsDisabled, IsFair}
pub use Findings.{IsFound, IsLeft, IsListed, IsOwn, IsWhole, JustifiesRefusal, LastDisabled}
pub use Findings.{ExaminesAt, TakesFor}
pub use Frames.{FoundAt, OnlyAsks, OnlyAt, OnlySets, OnlyTells, StaysBut}
pub use Hub.{CountTold, IsPowered, Powered, Started, SupplyTold}
pub use LastRequests.{Leads}
pub use LearnedFacts.{DeviceFact, Explained, ExplainsSet, FailureReason, Hears, HearsSet, Learned}
pub use Losses.{FewLosses, NoNewStretch}
pub use Parts.{Answered, Both, FailsAt, Gone, IsDone, KeepingSteps, Part, Read, StopsAt}
pub use Parts.{StopsConfiguring, StopsDescriptor, StopsExamining, StopsHead, StopsHub, StopsPower}
pub use Parts.{EndsWithout, StopsRead, StopsStart, StopsText, StopsTexts, StopsWithout}
pub use Parts.{TakesAddressed, Went}
pub use Places.{HasEmptyPorts, IsDisabledAt, IsKnownAs, IsOccupied, IsPlaced, IsReachedAt, IsThere}
pub use PresentDevices.{AnswersSo, AtPath, Awaits, AwaitsAddress, Finds, HasDescriptor, HasHead}
pub use PresentDevices.{HasReadings, HasSpeed, HasTaken, IsAddressed, IsInOrder, IsOrderly}
pub use PresentDevices.{IsRegular, LearnedSet, LearnsPorts, LearnsSet, ReachesDevice, TellsPorts}
pub use PresentDevices.{WasReset}
pub use Readings.{AtMaximum, HasConfiguration, HasConfigurations, HasPorts, HasString, HasSupply}
pub use Readings.{HasTotal, IsGoodHub, Ruled, bytes_given, language_of, no_strings, string_in}
pub use Reasons.{AllTexts, BadChosen, BadDescriptor, BadText, Because, CannotStart, CauseAllowed}
pub use Reasons.{CauseAllowedAt, CauseAllowedAtStart, CauseAllowedOfHub, CauseAllowedOfText}
pub use Reasons.{CauseAllowedOfTexts, DescriptorRead, GoesOver, HeadRead, TooLong, too_large}
pub use Reasons.{DescriptorTold, EndsFailing, EndsFor, EndsReading, FailsAs, FaultBy, HasReason}
pub use Reasons.{HoldsTooFew, HubFails, IsAny, IsNamed, IsSpokenTo, NoAnswerTold, NotEnabled}
pub use Reasons.{PassTold, PortFails, RefusedAs, RefusedBefore, RefusedEarly, RefusedFor, StoppedAs}
pub use Reasons.{StoppedFor, StoppedWithout, StopsAtPort, StopsDevice, TextRead, TextsAsked}
pub use Reasons.{answered, bad_descriptor, bad_front, bad_head, bad_hub, bad_text, bad_total}
pub use Reasons.{by_answer, early, lacks_power, late, no_descriptor, no_power, no_status, none_free}
pub use Reasons.{none_yet, not_enabled, one_more, refused_early, refused_for, repeated, too_deep}
pub use Refusals.{FindsDescriptor, FindsHead, IsRefusedFor, IsResponsive, NoDescriptor, Refuses}
pub use Refusals.{RefusesDescriptor, RefusesNoPort, address_fault, cause_in, chosen_fault}
pub use Refusals.{early_fault, hub_fault, no_fault, setting_fault, start_fault, unaddressed_fault}
pub use Refusals.{whole_fault}
unfoldable pub use Refusals.{addressed_fault, configured_fault, device_fault, head_fault}
pub use Said.{Answers, BeginsWith, IsAnswer, IsSaid, IsSaidAt, IsSaidFor, IsSaidWhole, Says}
pub use Said.{WasSaid}
pub use Stops.{ComesEarly, IsEarly, IsEarlyRequest, IsEarlyStop}
pub use Stops.{CanFail, CauseAllowedIn, CauseAllowedOfDevice, CauseAllowedWithout, FaultAllowed}
pub use Stops.{FaultAllowedAt, FitsStop, FitsTier, IsHubStop, IsPlain, IsPlainStop, IsReported}
pub use Stops.{IsReportedStop, IsStopWithout, StopFaults, answered_or, at_port, fault_at_port}
pub use Stops.{stop_of, EnumWorks, IsNotOfBus, NotOfBus, StopNotOfBus, as_stop, stop_in}
pub use StringRequests.{AsksLanguage, AsksString, AsksStrings, EndsWithStrings, NamesNone, ReadsBy}
pub use StringRequests.{ReadsIn, ReadsString, ReadsStrings, asked, given, named, refused, unnamed}
pub use Text.{ValuesDiffer, any_has_value, choice_of, config_text_of, first_language_of, first_unit}
pub use Text.{if_read, need_of, string_units, texts_length}
unfoldable pub use Text.{needs_of}
pub use TextLengths.{EachAt, FewFor, FewFrom, HasPlanWithin, IsAnswered, IsPlanned, PlugsWithin}
pub use TextLengths.{ReadsText, SaysWithin, SomeAt}
pub use Verdicts.{IsAs, IsFindingOf, IsRight, IsSet, IsWithout, facts_of, gives_head, gives_hub}
pub use Verdicts.{is_over, left_of, said_below, usual_options}
pub use Verdicts.{is_good_hub, is_good_text, read_verdict, set_verdict, string_read, strings_by}
pub use Verdicts.{strings_of, text_fault, texts_below, texts_of}
unfoldable pub use Verdicts.{config_fault, first_fault, string_at, text_read, verdict}
pub use declared.addressed.Addressed.{Addressed}
pub use declared.cause.Cause.{Cause}
pub use declared.cause.Cause.TheVariants.{BadConfiguration, BadDevice, BadHub, Busy, Lost}
pub use declared.cause.Cause.TheVariants.{NoAddress, NoPower, Silent, Stalled, TooDeep}
pub use declared.cause.Cause.TheVariants.{TooLarge}
pub use declared.cause.Request.{Request}
pub use declared.fault.EnumFault.{EnumFault}
pub use declared.fault.EnumFault.TheVariants.{Bus, Memory, ParentLost}
pub use declared.finding.Accepted.{Accepted}
pub use declared.finding.Finding.{Finding}
pub use declared.hub.HubFacts.{HubFacts}
pub use declared.options.HostOptions.{HostOptions}
pub use declared.stop.Stop.{Stop}
pub use declared.strings.StringIndexes.{StringIndexes}
pub use declared.strings.Strings.{Strings}
