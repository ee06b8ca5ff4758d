mod BacklogDevices
mod BacklogCalls
mod Packets
mod BacklogEvents
mod BacklogSteps
mod BacklogRequests
mod Places
mod Phases
mod Units
mod Counts
mod Products
pub mod Interface
pub mod Answerers
pub mod AddressRequests
pub mod ClaimedHubs
pub mod Endpoints
pub mod Events
pub mod HubPorts
pub mod TransferSequences
pub mod UnheldAddresses
pub mod Openings
pub mod Polls
pub mod AddressPorts
pub mod PortResets
pub mod Roots
pub mod BulkRuns
pub mod Setups
pub mod Stages
pub mod States
pub mod Steps
pub mod AddressesTaken
pub mod Trails
pub mod Transfers
pub mod Trees
pub mod UnpoweredPorts
pub mod RestingRequests
pub mod ActingCalls
pub mod Backlogs
pub mod ControlCourses
pub mod Calls
pub mod Devices
pub mod AddressesKept
pub mod Orders
pub mod Ports
pub mod GivenAnswers
pub mod BaredPorts
pub mod ToldBytes
pub mod PoweredPorts
pub mod Settings
pub mod CalledPorts
pub mod Statuses
pub mod Moments
pub mod CallFailures
mod HubChanges
pub mod WorkingBuses
