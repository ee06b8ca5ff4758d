-- What a host reports of devices that left and arrived.
use Rattle.std.specs.Prelude.{◌≡◌, ◌≢◌, ℕ, ◌+◌, ◌-◌, ◌<◌, List, length, Option, Some, None, Bool}
use Rattle.std.specs.Prelude.{false, not, nat_eq, slice_get, if◌then◌else◌}
use Rattle.std.specs.List.{list_any}
use Rattle.std.specs.BTreeMap.{insert_entry, is_at}
use Rattle.std.specs.Map.{remove_entry}
use Rattle.std.specs.Option.{option_map}
use Rattle.std.specs.declared.cmp.Ordering.TheVariants.{Less}
use Rattle.usb_port.specs.{path_cmp}
use Rattle.usb_host.specs.HostStates.{HostState}
use Rattle.usb_host.specs.Numbers.{Known, device_in}
use Rattle.usb_host.specs.Progress.{known_in}
use Rattle.usb_host.specs.Reported.{reported_at}
use Rattle.usb_host.specs.declared.news.News.{News}
use Rattle.usb_host.specs.declared.news.News.TheVariants.{Arrived, Left}

-- the number of the accepted device at a path
abbrev pub number_in : List ℕ → Known → Option ℕ
number_in path known = option_map (λ device. device.number) (device_in path known)

-- a device was reported at the path, and is not there
pub record HasLeft (known : Known) (path : List ℕ) : Type 0 where
  pub number : ℕ
  pub reported : reported_at path known.reported ≡ Some number
  pub gone : number_in path known ≢ Some number

-- a device is at the path, and none was reported there
pub record HasArrived (known : Known) (path : List ℕ) : Type 0 where
  pub number : ℕ
  pub there : number_in path known ≡ Some number
  pub unreported : reported_at path known.reported ≡ None

-- it is so of the path, and of none before it
pub record IsLeast (Is : List ℕ → Type 0) (path : List ℕ) : Type 0 where
  pub is : Is path
  pub least : (other : List ℕ) → Is other → path_cmp other path ≢ Less

-- the device at the path left, and is reported no longer
pub record ReportsLeft (path : List ℕ) (old new : HostState) : Type 0 where
  pub left : IsLeast (HasLeft (known_in old)) path
  pub rest : new ≡ record old { reported = remove_entry (is_at (path_cmp path)) old.reported }

-- none left, and the device at the path is reported
pub record ReportsArrived (path : List ℕ) (old new : HostState) : Type 0 where
  pub none : (other : List ℕ) → HasLeft (known_in old) other → ⊥
  pub arrived : IsLeast (HasArrived (known_in old)) path
  pub rest : new ≡ record old {
    reported = insert_entry path_cmp old.reported path arrived.is.number;
  }

-- the accepted devices, each with its number, are those that were reported
abbrev pub NoNews : HostState → Type 0
NoNews h = (path : List ℕ) → reported_at path h.reported ≡ number_in path (known_in h)

pub record ReportsNone (old new : HostState) : Type 0 where
  pub same : NoNews old
  pub rest : new ≡ old

-- `next_news`
abbrev pub ReportsNews : HostState → Option News → HostState → Type 0
ReportsNews old None new = ReportsNone old new
ReportsNews old (Some (Left path)) new = ReportsLeft path old new
ReportsNews old (Some (Arrived path)) new = ReportsArrived path old new

-- the least path of an accepted device that was not reported, with its number
pub record IsNextUnreported (known : Known) (next : List ℕ × ℕ) : Type 0 where
  pub arrived : IsLeast (HasArrived known) next.0
  pub number : arrived.is.number ≡ next.1

-- the first place with a device that left
pub record IsFirstLeft (known : Known) (place : ℕ) : Type 0 where
  pub device : List ℕ × ℕ
  pub at : slice_get known.reported place ≡ Some device
  pub gone : number_in device.0 known ≢ Some device.1
  pub before : (i : ℕ) (other : List ℕ × ℕ) → i < place → slice_get known.reported i ≡ Some other
      → number_in other.0 known ≡ Some other.1

-- each reported device is there
abbrev pub NoneLeft : Known → Type 0
NoneLeft known = (i : ℕ) (device : List ℕ × ℕ) → slice_get known.reported i ≡ Some device
    → number_in device.0 known ≡ Some device.1

-- whether a device with this number is there
abbrev pub is_there : Option ℕ → ℕ → Bool
is_there None number = false
is_there (Some n) number = nat_eq n number

-- whether a reported device is not there
abbrev pub some_left : Known → Bool
some_left known = list_any (λ device. not (is_there (number_in device.0 known) device.1))
    known.reported

-- each news makes it less: as long as some left, devices are taken out, then they come in, of which
-- there are fewer than 128
abbrev pub news_left : HostState → ℕ
news_left h = if some_left (known_in h) then 129 + length h.reported else 128 - length h.reported

-- the path of the device that left or arrived
abbrev pub path_of_news : News → List ℕ
path_of_news (Left path) = path
path_of_news (Arrived path) = path

-- the news is that this device left
abbrev pub IsLeftAt : List ℕ → News → Type 0
IsLeftAt path (Left at) = at ≡ path
IsLeftAt path (Arrived at) = ⊥
