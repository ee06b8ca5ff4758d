pub mod Interface
mod DigitPairs
mod Entries
mod Steps
mod Parts
mod MemoryRefusals
mod Growth
mod Totals
mod Places
mod EventWalks
mod GivenKeys
