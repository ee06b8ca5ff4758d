-- What a row of packets tells: those that were moved by one attempt each, and the one after them,
-- whose transaction went on.
use Rattle.std.specs.Prelude.{◌≡◌, ℕ, ◌+◌, ◌*◌, ◌<◌, ◌≤◌, List, [], ◌++◌, length, take, Result, Ok}
use Rattle.std.specs.Prelude.{Err}
use Rattle.usb_packet.specs.{Toggle, flips}
use Rattle.usb_world.specs.{World}
use Rattle.usb_transfer.specs.declared.target.Target.{Target}
use Rattle.usb_transfer.specs.declared.trans_fault.TransFault.{TransFault}
use Rattle.usb_transfer.specs.Calls.{AsksIn, SendsOut}
use Rattle.usb_transfer.specs.Transactions.{transaction_bound}

-- Over any bus

-- how many packets a row may have taken, of so many: those that were moved, or all where it failed
abbrev pub row_packets : ℕ → Result ℕ TransFault → ℕ
row_packets most (Ok n) = n
row_packets most (Err fault) = most

-- the most attempts of a row
abbrev pub row_bound : ℕ → Result ℕ TransFault → ℕ
row_bound most result = transaction_bound * row_packets most result

-- so many packets came, with these bytes, and the toggle is the one after them
pub record CameInRow (max most : ℕ) (first : Toggle) (got : List ℕ) (toggle : Toggle) (n : ℕ) :
    Type 0 where
  pub some : 1 ≤ n
  pub few : n ≤ most
  pub size : length got ≤ n * max
  pub turned : toggle ≡ flips n first

-- To the host

-- so many full packets were asked for and came, with toggles by turns from `first`, and with them
-- these bytes
pub data AskedFull (t : Target) (ep : ℕ) (first : Toggle) (old : World) : ℕ → List ℕ → World
    → Type 0 where
  none_asked : AskedFull t ep first old 0 [] old
  one_asked : {n : ℕ} {got : List ℕ} {mid new : World} (bytes : List ℕ)
      → AskedFull t ep first old n got mid → AsksIn t ep (flips n first) mid (Ok bytes) new
      → length bytes ≡ t.max → AskedFull t ep first old (n + 1) (got ++ bytes) new

-- so many packets came, all but the last full
pub record RowCame (t : Target) (ep : ℕ) (first : Toggle) (most : ℕ) (old : World) (n : ℕ)
    (bytes : List ℕ) (toggle : Toggle) (new : World) : Type 0 where
  pub full : ℕ
  pub few : full < most
  pub got : List ℕ
  pub mid : World
  pub before : AskedFull t ep first old full got mid
  pub last : List ℕ
  pub came : AsksIn t ep (flips full first) mid (Ok last) new
  pub kept : bytes ≡ got ++ last
  pub count : n ≡ full + 1
  pub turned : toggle ≡ flips n first

-- one did not come, after full ones
pub record RowLost (t : Target) (ep : ℕ) (first : Toggle) (most : ℕ) (old : World)
    (fault : TransFault) (toggle : Toggle) (new : World) : Type 0 where
  pub full : ℕ
  pub few : full < most
  pub got : List ℕ
  pub mid : World
  pub before : AskedFull t ep first old full got mid
  pub lost : AsksIn t ep (flips full first) mid (Err fault) new
  pub turned : toggle ≡ flips full first

abbrev pub AsksRow : Target → ℕ → Toggle → ℕ → World → Result ℕ TransFault → List ℕ → Toggle → World
    → Type 0
AsksRow t ep first most old (Ok n) bytes toggle new = RowCame t ep first most old n bytes toggle new
AsksRow t ep first most old (Err fault) bytes toggle new = RowLost t ep first most old fault toggle
    new

-- From the host

-- so many packets were sent and acknowledged, with toggles by turns from `first`; these bytes went,
-- none of the packets was empty, and one went only after full ones
pub data SentFull (t : Target) (ep : ℕ) (first : Toggle) (old : World) : ℕ → List ℕ → World
    → Type 0 where
  none_sent : SentFull t ep first old 0 [] old
  one_sent : {n : ℕ} {sent : List ℕ} {mid new : World} (bytes : List ℕ)
      → SentFull t ep first old n sent mid → length sent ≡ n * t.max → 0 < length bytes
      → length bytes ≤ t.max → SendsOut t ep (flips n first) bytes mid (Ok []) new
      → SentFull t ep first old (n + 1) (sent ++ bytes) new

-- the packets of a row that were acknowledged, and what is left of its bytes
pub record RowSent (t : Target) (ep : ℕ) (first : Toggle) (total : List ℕ) (old : World) (full : ℕ)
    (mid : World) : Type 0 where
  pub sent : List ℕ
  pub rest : List ℕ
  pub split : total ≡ sent ++ rest
  pub size : length sent ≡ full * t.max
  pub some : 0 < length rest
  pub before : SentFull t ep first old full sent mid

-- so many packets were acknowledged, the last with as many of the bytes as fit
pub record RowGone (t : Target) (ep : ℕ) (first : Toggle) (total : List ℕ) (old : World) (n : ℕ)
    (toggle : Toggle) (new : World) : Type 0 where
  pub full : ℕ
  pub mid : World
  pub so_far : RowSent t ep first total old full mid
  pub went : SendsOut t ep (flips full first) (take t.max so_far.rest) mid (Ok []) new
  pub count : n ≡ full + 1
  pub turned : toggle ≡ flips n first

-- one was not
pub record RowKept (t : Target) (ep : ℕ) (first : Toggle) (total : List ℕ) (old : World)
    (fault : TransFault) (toggle : Toggle) (new : World) : Type 0 where
  pub full : ℕ
  pub mid : World
  pub so_far : RowSent t ep first total old full mid
  pub lost : SendsOut t ep (flips full first) (take t.max so_far.rest) mid (Err fault) new
  pub turned : toggle ≡ flips full first

abbrev pub SendsRow : Target → ℕ → Toggle → List ℕ → World → Result ℕ TransFault → Toggle → World
    → Type 0
SendsRow t ep first total old (Ok n) toggle new = RowGone t ep first total old n toggle new
SendsRow t ep first total old (Err fault) toggle new = RowKept t ep first total old fault toggle new
