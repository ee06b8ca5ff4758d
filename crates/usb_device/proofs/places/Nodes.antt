-- A measure that falls on the way down a tree and along a row of ports.
use Rattle.std.proofs.Common.{ℕ, ◌+◌, Option, None, Some}
use Rattle.usb_device.specs.{Ports, ended, vacant, taken, Plugged}

-- ports and ends of rows
abbrev pub nodes : Ports → ℕ
nodes ended = 1
nodes (vacant b k) = 1 + nodes k
nodes (taken b s a k) = 1 + nodes a + nodes k

abbrev pub nodes_in : Option Plugged → ℕ
nodes_in None = 0
nodes_in (Some t) = nodes t.ports
