pub mod Marks
pub mod PortSettings
pub mod Units
pub mod Aims
pub mod Claims
pub mod Leaves
pub mod Ownership
pub mod Addresses
pub mod GivenAnswers
pub mod Moments
pub mod Port
pub mod Requests
pub mod Settings
pub mod CallFailures
pub mod Changes
pub mod ControlSteps
-- the words of this crate, wherever one stands
pub use Marks.{AllowsMarks, CoversCall, Few, KeepsAll, KeepsBy, KeepsCall, KeepsFound, PortMark}
pub use Marks.{after_first, allowed, below_first, charged, is_child, is_marked, is_nil, just, only}
pub use Marks.{ports_at, ports_of, shifted, unmarked}
unfoldable pub use Marks.{devices_by, devices_in, looks_by, ports_by, strays_by}
pub use PortSettings.{gives_power, sets_feature}
pub use Units.{KeepsPlain, OwesAnew, PaysBare, PaysLook, PaysStray}
pub use Aims.{AllAim, Never, TakesOnly}
pub use Claims.{AddressMap, Free, Unused, map_without}
pub use Leaves.{LeavesPipe, LeavesTrans}
pub use Ownership.{Enumerating, KeepsAddresses, MapHolds, MapHoldsExcept, WhileBusWorks}
pub use Addresses.{EachElsewhere, EachNamedElsewhere, GivesAddress, IsAt, IsBelow, IsClaimed}
pub use Addresses.{Isolates, KeepsAnswered, KeepsAsked, KeepsCleared, KeepsDevices, KeepsSet}
pub use Addresses.{Resets, StaysAs}
pub use GivenAnswers.{ConfigAsked, DeviceAsked, HasText, HubAsked, ReadAsked, ReadFailure}
pub use GivenAnswers.{StatusAsked, StringAsked, TextAsked, config_given, device_given, hub_given}
pub use GivenAnswers.{status_given, string_given, unless_refused}
pub use Moments.{ActsAt, CommandsPort, IsAbout, IsCall, OnReachedRow, PortCallDone, PortStatusAt}
pub use Moments.{ReadsPort, UpToFault, ports_at_step}
pub use Port.{IsAsked, IsPort, PortCleared, PortRead, PortSet, RootCleared, RootRead, RootSet}
pub use Port.{SetSteps, TakesNoTime, order_bound, status_bound}
pub use Requests.{Commanded, EndsAfter, Queried, ReadAs, StillWorks, TouchesNoPort, ToldWithin}
pub use Requests.{TouchesPortsBelow, WorksAfter, device_status, said_in}
pub use Settings.{AddressAsked, ConfigurationAsked, InterfaceAsked, IsConfigured, IsFresh, OnlySet}
pub use Settings.{TookSetting, WentOff, offers_setting, takes_value}
pub use CallFailures.{HasPort, HubServes, NoHubFailed}
pub use Changes.{ClearsEach, ClearsHubChange, ClearsIfReported, ClearsOfHub, ClearsOfPort, ToldBus}
pub use ControlSteps.{ControlCourse, IsControlStep}
pub use Changes.{both, done_or_unknown, first_failed, hub_status, not_told, told}
pub use declared.port.HubPort.{HubPort}
pub use declared.port.HubPort.TheVariants.{External, Root}
pub use declared.status.DeviceStatus.{DeviceStatus}
