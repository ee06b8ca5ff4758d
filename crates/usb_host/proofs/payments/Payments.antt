-- What is left to do, by its weight, and how what parts of a round cost is joined.
use Rattle.std.proofs.Common.{◌≤◌, ℕ, ◌+◌, ◌*◌, arith, ◌≡◌, refl, Option, None, Some, Result, Ok}
use Rattle.std.proofs.Math.Nat.{mul-le-mul_left}
use Rattle.std.proofs.lemmas.List.Elements.{All-drop}
use Rattle.usb_world.specs.{BusFault, PlanData, AtPorts, FollowsPlan, PlugsAtPort, AnyStep, Course}
use Rattle.usb_world.specs.{opening, World}
use Rattle.usb_world.proofs.Interface.{course_joined, events_went}
use Rattle.usb_hub.specs.{looks_by, strays_by, unmarked}
use Rattle.usb_enum.specs.{HasPlanWithin}
use Rattle.usb_enum.proofs.Interface.{traced_faulted, went_course}
use Rattle.usb_host.specs.{Part, hubs, Costs, Pays, PaysPart, StopsWithin, Weights, WorksOn}
use Rattle.usb_host.specs.{event_weight, hub_weight, look_weight, stray_weight, HostState}
use Rattle.usb_host.specs.{HostSteps, HostInvariant, HostFault}

-- What is left to do, by its weight.

-- so many looks, other changes and hubs, where the texts of a device say w bytes at most and a
-- round's polls are z
abbrev pub work_owed : ℕ → ℕ → ℕ → ℕ → ℕ → ℕ
work_owed w z k s h = (369104 + 100 * w + 3 * z) * k + (35968 + z) * s + (47168 + z) * h

-- so many events
abbrev pub came_cost : ℕ → ℕ → ℕ → ℕ
came_cost w z t = (2992000 + 800 * w + 25 * z) * t

-- a look is paid, events may have come, and no more hubs are listed than these
pub sums_look : (w z n h h' spare a a' k k' s s' t t' : ℕ) → a' ≤ a + n
    → k' + 1 + 8 * t ≤ k + 8 * t' → s' + t ≤ s + 1 + t' → t ≤ t'
    → n + (47168 + z) * h' + spare ≤ (47168 + z) * h + 333136 + 100 * w + 2 * z
    → a' + work_owed w z k' s' h' + spare + came_cost w z t ≤ a + work_owed w z k s h +
    came_cost w z t'
sums_look w z n h h' spare a a' k k' s s' t t' few looks strays on fits =
    let x = mul-le-mul_left (369104 + 100 * w + 3 * z) looks in
    omega (arith, mul-le-mul_left (35968 + z) strays, mul-le-mul_left 3200 on)

-- no more is left to do, and so many looks, other changes, hubs and events are paid
pub sums_plain : (w z n spare i j f g a a' k k' s s' h h' t t' : ℕ) → a' ≤ a + n
    → k' + i + 7 * t ≤ k + 7 * t' → s' + j + t ≤ s + t' → h' + f ≤ h → t + g ≤ t'
    → n + spare ≤ (369104 + 100 * w + 3 * z) * i + (35968 + z) * j + (47168 + z) *
    f + (372304 + 100 * w + 3 * z) * g
    → a' + work_owed w z k' s' h' + spare + came_cost w z t ≤ a + work_owed w z k s h + came_cost w
    z t'
sums_plain w z n spare i j f g a a' k k' s s' h h' t t' few looks strays hubs on fits =
    let x = mul-le-mul_left (369104 + 100 * w + 3 * z) looks in
    omega (
      arith,
      mul-le-mul_left (35968 + z) strays,
      mul-le-mul_left (47168 + z) hubs,
      mul-le-mul_left (372304 + 100 * w + 3 * z) on,
    )

-- no more is left to do, and nothing is paid but the events
pub sums_costs : (w z n a a' k k' s s' h h' t t' : ℕ) → a' ≤ a + n → k' + 7 * t ≤ k + 7 * t'
    → s' + t ≤ s + t' → h' ≤ h → t ≤ t'
    → a' + work_owed w z k' s' h' + came_cost w z t ≤ a + work_owed w z k s h + came_cost w z t' + n
sums_costs w z n a a' k k' s s' h h' t t' few looks strays hubs on =
    let x = mul-le-mul_left (369104 + 100 * w + 3 * z) looks in
    omega (
      arith,
      mul-le-mul_left (35968 + z) strays,
      mul-le-mul_left (47168 + z) hubs,
      mul-le-mul_left (372304 + 100 * w + 3 * z) on,
    )

-- nothing is paid: a look is owed again for each of some devices, and one other change and one hub
-- more
pub sums_anew : (w z n d v a a' k k' s s' h h' t t' : ℕ) → a' ≤ a + n → k' + 7 * t ≤ k + d + 7 * t'
    → d ≤ v → s' + t ≤ s + 1 + t' → h' ≤ h + 1 → t ≤ t'
    → a' + work_owed w z k' s' h' + came_cost w z t ≤ a + work_owed w z k s h + came_cost w z t' +
    (n + (47168 + z) + (35968 + z) + (369104 + 100 * w + 3 * z) * v)
sums_anew w z n d v a a' k k' s s' h h' t t' few looks most strays hubs on =
    let x = mul-le-mul_left (369104 + 100 * w + 3 * z) looks in
    omega (
      arith,
      mul-le-mul_left (369104 + 100 * w + 3 * z) most,
      mul-le-mul_left (35968 + z) strays,
      mul-le-mul_left (47168 + z) hubs,
      mul-le-mul_left (372304 + 100 * w + 3 * z) on,
    )

-- A host at work, and how what parts of a round cost is joined.

-- A host at work on a plan

ports_course : (plan : PlanData) → AtPorts plan.events → {w : World}
    → Course AnyStep (opening plan) w → AtPorts w.left
ports_course plan paths {w = w} course =
    let follows : FollowsPlan plan w = events_went plan w course in
    rw follows.left (All-drop (λ e. PlugsAtPort e.action) w.taken plan.events paths)

-- the events to come are at ports
pub works_on-ports : {c : Weights} {plan : PlanData} {h : HostState} → WorksOn c plan h
    → AtPorts h.world.left
works_on-ports {plan = plan} x = ports_course plan x.paths x.course

pub ports_after : {n : ℕ} {c : Weights} (plan : PlanData) (a b : HostState) → HostSteps n a b
    → WorksOn c plan a → b.world.fault ≡ None → AtPorts b.world.left
ports_after {n = n} plan a b went x work =
    ports_course plan x.paths (course_joined x.course (went_course n a.world b.world went work))

pub works_on-plan : (c : Weights) (plan : PlanData) (h : HostState) → WorksOn c plan h
    → HasPlanWithin c.most h.world
works_on-plan c plan h x = record {
  planned = grind arith;
  plugs = x.within;
}

pub works_on : {n : ℕ} {c : Weights} {plan : PlanData} {a b : HostState} → HostSteps n a b
    → WorksOn c plan a → HostInvariant b → b.world.fault ≡ None → WorksOn c plan b
works_on went x sound work = search (course_joined, went_course)

pub part_works : {A : Type 0} {n : ℕ} {x : A} {c : Weights} {plan : PlanData} {a b : HostState}
    → Part n a (Ok x) b → WorksOn c plan a → b.world.fault ≡ None → WorksOn c plan b
part_works part w still = works_on part.goes.went w (part.sound.sound.sound w.sound) still

-- What is paid

pub looks_pay : (c : Weights) (n spare : ℕ) (a b : HostState)
    → b.world.attempts ≤ a.world.attempts + n
    → looks_by unmarked b.world.roots + 1 + 8 * a.world.taken ≤ looks_by unmarked a.world.roots +
    8 * b.world.taken
    → strays_by unmarked unmarked b.world.roots + a.world.taken ≤ strays_by unmarked unmarked
    a.world.roots + 1 + b.world.taken → a.world.taken ≤ b.world.taken
    → n + hub_weight c * hubs b.entries + spare ≤ hub_weight c * hubs a.entries + 333136 + 100 *
    c.most + 2 * c.polls → Pays c spare a b
looks_pay c n spare a b few looks strays on fits = search sums_look

-- so many looks, other changes, hubs and events are paid
pub plain_pays : (c : Weights) (n spare i j f g : ℕ) (a b : HostState)
    → b.world.attempts ≤ a.world.attempts + n
    → looks_by unmarked b.world.roots + i + 7 * a.world.taken ≤ looks_by unmarked a.world.roots +
    7 * b.world.taken
    → strays_by unmarked unmarked b.world.roots + j + a.world.taken ≤ strays_by unmarked unmarked
    a.world.roots + b.world.taken → hubs b.entries + f ≤ hubs a.entries
    → a.world.taken + g ≤ b.world.taken
    → n + spare ≤ look_weight c * i + stray_weight c * j + hub_weight c *
    f + (372304 + 100 * c.most + 3 * c.polls) * g → Pays c spare a b
plain_pays c n spare i j f g a b few looks strays fewer on fits = search sums_plain

pub plain_costs : (c : Weights) (n : ℕ) (a b : HostState) → b.world.attempts ≤ a.world.attempts + n
    → looks_by unmarked b.world.roots + 7 * a.world.taken ≤ looks_by unmarked a.world.roots + 7 *
    b.world.taken
    → strays_by unmarked unmarked b.world.roots + a.world.taken ≤ strays_by unmarked unmarked
    a.world.roots + b.world.taken → hubs b.entries ≤ hubs a.entries
    → a.world.taken ≤ b.world.taken → Costs c n a b
plain_costs c n a b few looks strays fewer on = search sums_costs

pub few_stop : (c : Weights) (n : ℕ) (a b : HostState) → b.world.attempts ≤ a.world.attempts + n
    → a.world.taken ≤ b.world.taken → StopsWithin c n a b
few_stop c n a b few on = omega (arith, mul-le-mul_left (event_weight c) on)

-- Joins

module _ (c : Weights) (a b : HostState) where
  pub pays_none : (m n : ℕ) → Pays c m a b → Costs c n a b
  pays_none m n x = omega arith

module _ (c : Weights) (a b d : HostState) where
  pub costs_pays : (m n k : ℕ) → Costs c m a b → Pays c n b d → k + m ≤ n → Pays c k a d
  costs_pays m n k x y le = omega arith

  pub costs_then : (m n k : ℕ) → Costs c m a b → Costs c n b d → m + n ≤ k → Costs c k a d
  costs_then m n k x y le = omega arith

  pub costs_stop : (m n k : ℕ) → Costs c m a b → StopsWithin c n b d → m + n ≤ k
      → StopsWithin c k a d
  costs_stop m n k x y le = omega arith

  stops_same : (k : ℕ) → StopsWithin c k a b → d.world.attempts ≡ b.world.attempts
      → b.world.taken ≤ d.world.taken → StopsWithin c k a d
  stops_same k x same on = omega (arith, mul-le-mul_left (event_weight c) on)

  -- a part stopped after others, or the bus had stopped before
  pub stops_after : {n : ℕ} (m k l : ℕ) → HostSteps n b d → StopsWithin c l a b
      → (b.world.fault ≡ None → Costs c m a b)
      → (b.world.fault ≡ None → StopsWithin c k b d) → m + k ≤ l → StopsWithin c l a d
  stops_after {n = n} m k l went before cost then le = pick b.world.fault refl
    where
      pick : (o : Option BusFault) → b.world.fault ≡ o → StopsWithin c l a d
      pick None is = search costs_stop
      pick (Some f) is = stops_same l before ((traced_faulted went.traced f is).0)
          went.spends.onward

-- what a part costs is said of a host that knows what is so
pub pays_where : {A : Type 0} {most : Weights → ℕ} (Done : Weights → A → HostState → HostState
    → Type 0) {a : HostState} {result : Result A HostFault} {b : HostState}
    → (HostInvariant a → PaysPart most Done a result b) → PaysPart most Done a result b
pays_where Done f = grind arith

-- Parts that failed, and those that did nothing
