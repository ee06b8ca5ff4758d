-- Ports that rest, and rounds with nothing to do.
pub mod ClearedPorts
pub mod Polls
pub mod RestingRounds
