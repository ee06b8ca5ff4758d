-- News of a host, asked for until there is no more.
use Rattle.std.specs.Prelude.{List, [], ◌∷◌, ◌++◌, None, Some}
use Rattle.usb_host.specs.{HostState, News, ReportsNews}

-- these news were asked for, one after the other
pub data SomeNewsAre (old : HostState) : List News → HostState → Type 0 where
  no_news : SomeNewsAre old [] old
  one_news : {all : List News} {h new : HostState} (news : News) → SomeNewsAre old all h
      → ReportsNews h (Some news) new → SomeNewsAre old (all ++ news ∷ []) new

-- some news were asked for
abbrev pub SomeNews : HostState → HostState → Type 0
SomeNews old new = (all : List News) × SomeNewsAre old all new

-- and then there was no more
pub record AllNews (old : HostState) (all : List News) (new : HostState) : Type 0 where
  pub last : HostState
  pub are : SomeNewsAre old all last
  pub none : ReportsNews last None new
