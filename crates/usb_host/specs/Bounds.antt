-- How many attempts the parts of a round may take.
use Rattle.std.specs.Prelude.{ℕ, ◌+◌, ◌*◌}
use Rattle.usb_transfer.specs.{write_bound, transaction_bound}
use Rattle.usb_enum.specs.{widest_enumeration, read_bound}

-- the clearing of the change, a second status, and the disabling
abbrev pub clearing_bound : ℕ
clearing_bound = write_bound + read_bound 4 + write_bound

-- a status, and then the clearing: what is done at a port at which nothing is found
abbrev pub deciding_bound : ℕ
deciding_bound = read_bound 4 + clearing_bound

-- and then the enumeration
abbrev pub look_bound : ℕ
look_bound = clearing_bound + widest_enumeration

-- a status, and then what it asks for
abbrev pub serving_bound : ℕ
serving_bound = read_bound 4 + look_bound

-- a hub and each above it is disabled
abbrev pub drop_bound : ℕ
drop_bound = 7 * write_bound

-- a port is looked at, and its hub dropped
abbrev pub handling_bound : ℕ
handling_bound = serving_bound + drop_bound

abbrev pub roots_bound : ℕ
roots_bound = 7 * handling_bound

abbrev pub told_bound : ℕ
told_bound = 15 * handling_bound

-- a poll, and what it tells
abbrev pub hub_poll_bound : ℕ
hub_poll_bound = transaction_bound + drop_bound + told_bound

-- there are fewer than 16 ^ 7 paths, and each is polled at most once, and looked at again at most
-- once
abbrev pub hubs_bound : ℕ
hubs_bound = 268435456 * hub_poll_bound

abbrev pub looks_bound : ℕ
looks_bound = 268435456 * handling_bound

abbrev pub round_bound : ℕ
round_bound = roots_bound + hubs_bound + looks_bound

-- two requests
abbrev pub clear_bound : ℕ
clear_bound = 2 * write_bound
