-- What the parts of a round leave of the pipes to functions, and of the endpoints at their other
-- ends: all but endpoint 0 and the status endpoints of hubs.
use Rattle.std.specs.Prelude.{◌≡◌, ◌≢◌, ◌⊎◌, ℕ, List, true, false, Some}
use Rattle.usb_device.specs.{rested, State, Location, path_to, reach, reach_on, state_on, in_end}
use Rattle.usb_device.specs.{out_end}
use Rattle.usb_world.specs.{address_of, EachWas, Was, AnyStep, Course, World}
use Rattle.usb_hub.specs.{ControlCourse, TouchesNoPort}
use Rattle.usb_enum.specs.{Accepted}
use Rattle.usb_table.specs.{Pipes, function_of, accepted_device_at, is_below_hub, SparesBulk}
use Rattle.usb_table.specs.{new_pipes_to, pipes_at}
use Rattle.usb_host.specs.HostStates.{HostState}
use Rattle.usb_host.specs.Transfers.{table_in}

-- of the pipes to a device all those to a function are the same
pub record SameFunction (pipes others : Pipes) : Type 0 where
  pub same : function_of others ≡ function_of pipes

-- The endpoints of the device that is reached at a path

-- it was reached there before, and nothing of it changed but where its control transfer and its
-- status endpoint stand
abbrev pub EndpointsStayed : List ℕ → World → World → Type 0
EndpointsStayed path old new = (x : Location) (s : State) → path ≡ path_to x
    → reach_on new.roots x ≡ true → state_on new.roots x ≡ Some s → Was SparesBulk old x s

-- the same where it has an address
abbrev pub NamedEndpointsStayed : List ℕ → World → World → Type 0
NamedEndpointsStayed path old new = (x : Location) (s : State) → path ≡ path_to x
    → reach_on new.roots x ≡ true → state_on new.roots x ≡ Some s → address_of s ≢ 0
    → Was SparesBulk old x s

-- its endpoints besides endpoint 0 have begun again
abbrev pub EndpointsBegan : List ℕ → World → Type 0
EndpointsBegan path w = (x : Location) (s : State) → path ≡ path_to x → reach_on w.roots x ≡ true
    → state_on w.roots x ≡ Some s
    → (e : ℕ) → ((out_end s e).state ≡ rested) × ((in_end s e).state ≡ rested)

-- Steps that move nothing through such an endpoint

-- nothing was attempted but at endpoint 0; or nothing was asked of any port, and each device that
-- is reached has its endpoints as they were; or so it was in one stretch behind another
pub data MovesNoBulk : World → World → Type 0 where
  by_control : {w v : World} → ControlCourse w v → MovesNoBulk w v
  by_rest : {w v : World} → TouchesNoPort w v → EachWas SparesBulk w v → MovesNoBulk w v
  by_both : {w u v : World} → MovesNoBulk w u → MovesNoBulk u v → MovesNoBulk w v

-- An accepted device that is listed at a path

-- it was listed there before; its pipes and their endpoints are as they were
pub record StayedAt (path : List ℕ) (device : Accepted) (old new : HostState) : Type 0 where
  pub listed : accepted_device_at path old.entries ≡ Some device
  pub pipes : SameFunction (pipes_at path (table_in old)) (pipes_at path (table_in new))
  pub endpoints : EndpointsStayed path old.world new.world

-- it was found anew: at a moment of the call none was reached there, and up to then nothing was
-- moved through an endpoint; until it was found nothing was attempted but at endpoint 0, and since
-- then its endpoints are as they were; its pipes are new, and their endpoints have begun again
pub record RenewedAt (path : List ℕ) (device : Accepted) (old new : HostState) : Type 0 where
  pub moment : World
  pub before : Course AnyStep old.world moment
  pub unmoved : MovesNoBulk old.world moment
  pub none : reach moment.roots path ≡ false
  pub found : World
  pub control : ControlCourse moment found
  pub behind : Course AnyStep found new.world
  pub since : EndpointsStayed path found new.world
  pub pipes : SameFunction (new_pipes_to device (is_below_hub path)) (pipes_at path (table_in new))
  pub endpoints : EndpointsBegan path new.world

-- each accepted device has the pipes and the endpoints that it had, or was found anew; and all the
-- while nothing was moved through an endpoint, also of a device that is listed no longer
pub record KeepsBulk (old new : HostState) : Type 0 where
  pub each : (path : List ℕ) (device : Accepted) → accepted_device_at path new.entries ≡ Some device
      → StayedAt path device old new ⊎ RenewedAt path device old new
  pub unmoved : MovesNoBulk old.world new.world

-- When the host stopped

-- an accepted device that is still listed was listed before, with the same pipes; where it has an
-- address, and under this premise at all, their endpoints are as they were
pub record StayedWhere (So : Type 0) (path : List ℕ) (device : Accepted) (old new : HostState)
    : Type 0 where
  pub listed : accepted_device_at path old.entries ≡ Some device
  pub pipes : SameFunction (pipes_at path (table_in old)) (pipes_at path (table_in new))
  pub endpoints : So → EndpointsStayed path old.world new.world
  pub named : NamedEndpointsStayed path old.world new.world

-- so it is of each
pub record StaysWhere (So : Type 0) (old new : HostState) : Type 0 where
  pub each : (path : List ℕ) (device : Accepted) → accepted_device_at path new.entries ≡ Some device
      → StayedWhere So path device old new
