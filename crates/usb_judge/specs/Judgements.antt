-- What a right listing is, and which judgement of a listing stands.
use Rattle.std.specs.Prelude.{◌≡◌, ◌≤◌, ◌↔◌, ℕ, ◌++◌, List, [], length, true, IfSome, IsSomeAnd}
use Rattle.std.specs.Prelude.{is_some, count_by, Contains, IsSortedByKey}
use Rattle.std.specs.List.{list_any}
use Rattle.usb_port.specs.{path_cmp}
use Rattle.usb_request.specs.{CONFIGURATION_LENGTH}
use Rattle.usb_judge.specs.declared.listed.Claim.{Claim}
use Rattle.usb_judge.specs.declared.listed.Claim.TheVariants.{Device, Refused}
use Rattle.usb_judge.specs.declared.listed.ListedDevice.{ListedDevice}
use Rattle.usb_judge.specs.declared.listed.ListedPort.{ListedPort}
use Rattle.usb_judge.specs.declared.judgement.Cause.{Cause}
use Rattle.usb_judge.specs.declared.judgement.Cause.TheVariants as cause
use Rattle.usb_judge.specs.declared.judgement.Judgement.{Judgement}
use Rattle.usb_judge.specs.Scenes.{Seen, Scene}
use Rattle.usb_judge.specs.Rules.{breaks, claims_address, is_listed_at, is_missing, is_open}
use Rattle.usb_judge.specs.Rules.{need_in}

-- What is right of a device

-- the bytes are a configuration descriptor at least, and the others go on from them
pub record IsFrontOf (said own : List ℕ) : Type 0 where
  pub least : CONFIGURATION_LENGTH ≤ length said
  pub rest : List ℕ
  pub goes_on : own ≡ said ++ rest

-- what is said of a device is so: it is reached, and this is its descriptor, its speed, the address
-- that it holds, the configuration that it has, and the number of its ports
pub record IsSo (listed : ListedDevice) (seen : Seen) : Type 0 where
  pub enabled : seen.reached ≡ true
  pub descriptor : listed.descriptor.items ≡ seen.descriptor
  pub speed : listed.low ≡ seen.low
  pub address : listed.address ≡ seen.address
  pub given : 1 ≤ listed.address
  pub configuration : IfSome listed.configuration (λ said.
      IsSomeAnd seen.configuration (IsFrontOf said.items))
  pub ports : IfSome listed.ports (λ ports. ports ≡ seen.ports)

-- where the device is reached, its configuration needs no more than its port gives
abbrev pub IsPowered : Seen → Type 0
IsPowered seen = seen.reached ≡ true
    → IfSome seen.configuration (λ text. need_in text ≤ seen.supply)

-- a refused device is not left enabled at address 0, where the next one is addressed
abbrev pub IsAside : Seen → Type 0
IsAside seen = seen.reached ≡ true → 1 ≤ seen.address

abbrev pub IsRightOf : Claim → Seen → Type 0
IsRightOf (Device listed) seen = IsSo listed seen × IsPowered seen
IsRightOf Refused seen = IsAside seen × IsPowered seen

-- What is right of a listing

-- The listing is what is plugged. At each port of the root and of each hub that is listed the
-- device that is plugged there is listed, or refused. Nothing else is listed, and nothing twice.
-- What is said of each device is so. No two devices are listed at one address.
pub record IsRight (scene : Scene) (listing : List ListedPort) : Type 0 where
  pub there : (port : ListedPort) → Contains listing port
      → IsSomeAnd (scene port.path) (IsRightOf port.claim)
  pub hubs : (port : ListedPort) → Contains listing port → is_open listing port.path ≡ true
  pub each : (path : List ℕ) → is_some (scene path) ≡ true → is_open listing path ≡ true
      → list_any (is_listed_at path) listing ≡ true
  pub once : (path : List ℕ) → count_by (is_listed_at path) listing ≤ 1
  pub alone : (address : ℕ) → count_by (claims_address address) listing ≤ 1

-- Judgements

-- a port that is listed with this path is wrong for the cause
pub record IsWrongFor (scene : Scene) (listing : List ListedPort) (path : List ℕ) (cause : Cause) :
    Type 0 where
  pub port : ListedPort
  pub listed : Contains listing port
  pub at : port.path ≡ path
  pub broken : breaks scene listing port cause ≡ true

-- a device is plugged at the path, and is to be listed and is not
pub record LacksDevice (scene : Scene) (listing : List ListedPort) (path : List ℕ) : Type 0 where
  pub plugged : is_some (scene path) ≡ true
  pub missing : is_missing listing path ≡ true

-- the listing is wrong at the path for this cause
abbrev pub Stands : Scene → List ListedPort → List ℕ → Cause → Type 0
Stands scene listing path cause.Missing = LacksDevice scene listing path
Stands scene listing path other = IsWrongFor scene listing path other

-- each of these judgements stands, each one that stands is one of them, and there is none exactly
-- if the listing is right
pub record Judges (scene : Scene) (listing : List ListedPort) (judgements : List Judgement) :
    Type 0 where
  pub stands : (j : Judgement) → Contains judgements j → Stands scene listing j.path j.cause
  pub told : (j : Judgement) → Stands scene listing j.path j.cause → Contains judgements j
  pub right : judgements ≡ [] ↔ IsRight scene listing

-- in the order of paths
abbrev pub RisesByPath : List Judgement → Type 0
RisesByPath judgements = IsSortedByKey (λ (j : Judgement). j.path) path_cmp judgements
