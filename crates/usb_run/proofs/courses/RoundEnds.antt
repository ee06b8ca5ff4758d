-- Rounds come to an end.
use Rattle.std.proofs.Common.{◌≡◌, ◌≢◌, refl, ap, arith, ℕ, ◌+◌, ◌-◌, ◌*◌, ◌≤◌, ◌<◌, Ok}
use Rattle.usb_world.specs.{to_come}
use Rattle.usb_host.specs.{Round, Worked, Quiet, HostState, HostProgress, Remains, idle_work}
use Rattle.usb_host.specs.{RoundTells}

-- what is left to do, and the attempts and the events that may still come
abbrev pub rounds_left : HostState → ℕ
rounds_left h = idle_work h + 2 * (h.world.limit - h.world.attempts) + to_come h.world

-- a round that worked made an attempt, or left less to do
worked_falls : (old new : HostState) (round : Round) → RoundTells old (Ok round) new
    → old.world.attempts ≤ old.world.limit → HostProgress old new
    → rounds_left new < rounds_left old
worked_falls old new round g within less =
    omega (
      arith,
      less,
      g.went.spends.limit,
      g.went.spends.later,
      g.went.spends.within within,
      g.went.spends.events,
      g.went.spends.onward,
    )

-- in a quiet one an event came
event_falls : (old new : HostState) (round : Round) → RoundTells old (Ok round) new
    → Remains old new → new.world.taken ≢ old.world.taken → rounds_left new < rounds_left old
event_falls old new round g remains other =
    let same : idle_work new ≡ idle_work (record old {
      world = new.world;
      trace = new.trace;
      pipes = new.pipes;
    }) = ap idle_work remains in
    omega (
      arith,
      same,
      other,
      g.went.spends.limit,
      g.went.spends.later,
      g.went.spends.events,
      g.went.spends.onward,
      g.went.spends.served,
    )

-- each round but a quiet one in which no event came
pub rounds_fall : (old new : HostState) (round : Round) → RoundTells old (Ok round) new
    → old.world.attempts ≤ old.world.limit → (round ≡ Quiet → new.world.taken ≢ old.world.taken)
    → rounds_left new < rounds_left old
rounds_fall old new Worked g within other =
    worked_falls old new Worked g within (g.did.did.worked refl)
rounds_fall old new Quiet g within other = event_falls old new Quiet g (g.did.did.quiet refl).0
    (other refl)
