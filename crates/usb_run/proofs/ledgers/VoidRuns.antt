-- A plan without events: no attempt is made, where rounds do nothing as long as there is nothing to
-- do.
use Rattle.std.proofs.Common.{◌≡◌, ◌≤◌, ℕ, refl, sym, subst, arith, List, [], Option, Some, Result}
use Rattle.std.proofs.Common.{Ok, Err, length}
use Rattle.usb_world.specs.declared.event.Ask.{Ask}
use Rattle.usb_world.specs.{PlanData, changes, root_row, to_come}
use Rattle.usb_host.specs.{HostFault, Round, HostState, RoundTells}
use Rattle.usb_run.specs.{Comes, Opens}
use Rattle.usb_run.proofs.ledgers.PlanWeights.{changes-opening}
use Rattle.usb_run.proofs.ledgers.RunBounds.{Carries}
use Rattle.usb_run.proofs.ledgers.Sums.{still_within}

-- nothing is known, nothing came, and nothing will
pub record Void (h : HostState) : Type 0 where
  pub entries : h.entries ≡ []
  pub changed : changes (root_row h.world) ≡ 0
  pub few : h.world.attempts ≤ 0
  pub none : to_come h.world ≡ 0

none_comes : (a b : HostState) (due : Option Ask) → Void a → Comes a (Ok (Some due)) b → ⊥
none_comes a b due x comes = absurd (omega (
  arith,
  x.none,
  comes.takes.took.ends.one,
  comes.takes.took.spends.events,
))

round_void : (a b : HostState) (result : Result Round HostFault) → Void a → RoundTells a result b
    → Void b
round_void a b result x tells = subst Void (sym (tells.keeps.rests x.entries x.changed)) x

pub carries_void : Carries 0 Void Void (λ due h. ⊥)
carries_void = record {
  few = λ a x. x.few;
  goes = λ a b round x tells goes. round_void a b (Ok round) x tells;
  settles = λ a b round x tells ends. round_void a b (Ok round) x tells;
  fails = λ a b why x tells. (round_void a b (Err why) x tells).few;
  comes = λ a b due x comes. none_comes a b due x comes;
  ends = λ a b result x comes. still_within b.world.attempts a.world.attempts 0
      comes.takes.took.spends.most x.few;
  answers = λ a b due item x is. absurd x;
  stops = λ a b due fault x stops. absurd x;
  writes = λ a trace x. record {
    entries = x.entries;
    changed = x.changed;
    few = x.few;
    none = x.none;
  };
}

pub opens_void : (plan : PlanData) (before : Option (List ℕ)) (h : HostState)
    → length plan.events ≡ 0 → Opens plan before h → Void h
opens_void plan before h none opens =
    subst Void (sym opens.is) (record {
      entries = refl;
      changed = changes-opening plan.roots;
      few = omega arith;
      none = none;
    })
