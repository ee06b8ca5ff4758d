-- How few attempts an enumeration makes, by the lengths that the devices' configuration texts say,
-- from one call to the next.
use Rattle.std.proofs.Common.{◌≡◌, ◌⊎◌, inl, inr, ◌≤◌, ◌<◌, ◌+◌, ◌*◌, ℕ, true, false, List, length}
use Rattle.std.proofs.Common.{take, get_or, slice_get, Option, None, Some, Result, Ok, refl, sym}
use Rattle.std.proofs.Common.{subst, arith, IsErrAnd, suc, Bool, cond, [], ◌∷◌, Ordering, Less}
use Rattle.std.proofs.Common.{Equal, Greater, is_eq, IfSome, All}
use Rattle.std.proofs.lemmas.List.Sums.{sum_by_more, sum_by-take-le}
use Rattle.std.proofs.lemmas.Option.{get_or_from_slice_get, same_Some, slice_get_within}
use Rattle.std.specs.Global.{Vec}
use Rattle.std.specs.List.{sum_by, filter}
use Rattle.usb_request.specs.{Setup, IsToHost, get_configuration_descriptor}
use Rattle.usb_request.proofs.Interface.{same_setup}
use Rattle.usb_device.specs.{State, said_length, said_lengths, Spec, IsSpec, Location, path_to}
use Rattle.usb_device.specs.{reach_on, state_on, state_there}
use Rattle.usb_world.specs.{after_taking, Was, EachWas, World, Action, Plug, Unplug, Event}
use Rattle.usb_world.specs.{PluggedMap, index_at, device_indexed, plugged_after, plugged_by}
use Rattle.usb_world.specs.{plugged_without}
use Rattle.usb_world.proofs.Interface.{same_is, course_joined, devices_left}
use Rattle.usb_bus.specs.{StepRun}
use Rattle.usb_transfer.specs.{Target, Answerer, HadOne, is_at, control_bound}
use Rattle.usb_transfer.proofs.Interface.{who_reads, bound_wide}
use Rattle.usb_hub.specs.{AddressMap, MapHolds, Enumerating, WhileBusWorks, KeepsAddresses, HubPort}
use Rattle.usb_hub.specs.{KeepsDevices, config_given, TextAsked, ConfigAsked, Queried}
use Rattle.usb_enum.specs.{Addressed, Stop, IsSpare, read_bound, text_bound, texts_bound}
use Rattle.usb_enum.specs.{pass_bound, configured_by, Learned, DeviceFact, AtPath, HasTaken}
use Rattle.usb_enum.specs.{IsAddressed, IsRegular, AtMaximum, HasTotal, SaysWithin, HasPlanWithin}
use Rattle.usb_enum.specs.{EachAt, SomeAt, IsAnswered, ReadsText, FewFor, FewFrom, Went}
use Rattle.usb_enum.specs.{PlugsWithin}
use Rattle.usb_enum.proofs.courses.Courses.{went_steps, went_unshared}
use Rattle.usb_enum.proofs.readings.Heads.{head_packet}
use Rattle.usb_enum.proofs.readings.Readings.{learns_kept, learns_none, learns_on}
use Rattle.usb_enum.proofs.readings.Truths.{ruled_there}
use Rattle.std.specs.Prelude.{⊤}
use Rattle.std.specs.BTreeMap.{insert_entry}
use Rattle.std.specs.Ordering.{match_ordering}
use Rattle.std.proofs.lemmas.List.Elements.{All-head, All-tail}
use Rattle.usb_port.specs.{path_cmp}
use Rattle.usb_world.specs.declared.event.Action.TheVariants.{Change, Ask}

-- Whoever answered

pub text_there : (given : Spec → Option (List ℕ)) {t : Target} {request : Setup} (wanted : ℕ)
    (bytes : Vec ℕ) {old new : World} → IsToHost request → Queried t request old (Ok bytes) new
    → (new.shared ≡ false → EachWas (TextAsked given t wanted (Ok bytes)) old new)
    → IsAnswered t new
text_there given {t} {request} wanted bytes {old} {new} host asked what single =
    let a : Answerer t old new = search (same_setup, who_reads) in
    let was : Was (TextAsked given t wanted (Ok bytes)) old a.spot a.now =
    grind arith in grind arith

pub config_there : {t : Target} (index wanted : ℕ) {bytes : Vec ℕ} {old new : World}
    → Queried t (get_configuration_descriptor index wanted) old (Ok bytes) new
    → (new.shared ≡ false → EachWas (ConfigAsked t index wanted (Ok bytes)) old new)
    → IsAnswered t new
unfolding get_configuration_descriptor
config_there index wanted {bytes} asked what =
    text_there (config_given index) wanted bytes (omega arith) asked what

-- what was learned is so of whoever answered
some_learned : (So : Spec → Type 0) {t : Target} (old : World) {new : World}
    → DeviceFact So t old new → new.shared ≡ false → HadOne t new → SomeAt So t old
some_learned So {t} old learns single one =
    let was : Was (Learned So t) old one.spot one.state = grind arith in
    grind arith

-- One text

-- its head was not read
pub head_unread : {t : Target} {index : ℕ} {old new : World} {a b : Option (List ℕ)}
    {r : Result (List ℕ) Stop} (why : Stop) → IsErrAnd r (λ e. e ≡ why)
    → StepRun (read_bound 9) old a new b → ReadsText t index old r new
head_unread why same went = grind arith

-- it was asked for after its head was read
module _ {t : Target} {index total : ℕ} {old mid new : World} {a b c d : Option (List ℕ)}
    (wide : 8 ≤ t.max) (first : StepRun (read_bound 9) old a mid b)
    (second : StepRun (control_bound t.max total) mid c new d)
    (learned : DeviceFact (AtMaximum t (HasTotal index total)) t old mid)
    (there : IsAnswered t mid) where
  counted : new.attempts ≤ old.attempts + (text_bound + 100 * total)
  counted = grind (arith, bound_wide)

  head_said : new.shared ≡ false → SomeAt (AtMaximum t (HasTotal index total)) t old
  head_said single =
      let back = (went_steps second).unshared single in grind (arith, some_learned)

  pub text_unread : {r : Result (List ℕ) Stop} (why : Stop) → IsErrAnd r (λ e. e ≡ why)
      → ReadsText t index old r new
  text_unread why same = grind (arith, counted, head_said)

  pub text_was_read : (text : List ℕ) → KeepsDevices mid new → IsAnswered t new
      → ReadsText t index old (Ok text) new
  text_was_read text keeps answered = record {
    total = total;
    count = counted;
    said = inr head_said;
    read = search (learns_kept, went_steps);
  }

-- The texts so far

-- the first so many say so many bytes
pub record HasTotals (n bytes : ℕ) (spec : Spec) : Type 0 where
  pub there : n ≤ length spec.configs
  pub sum : sum_by said_length (take n spec.configs) ≡ bytes

totals_more : {n bytes total : ℕ} {spec : Spec} → HasTotals n bytes spec → HasTotal n total spec
    → HasTotals (n + 1) (bytes + total) spec
unfolding said_length
totals_more {n} {total} {spec} before now =
    let less : n < length spec.configs = grind (arith, slice_get_within) in
    let said : said_length (get_or spec.configs n now.text) ≡ total =
    grind (arith, get_or_from_slice_get) in
    record {
      there = omega arith;
      sum = grind (arith, sum_by_more);
    }

totals_within_said : {n bytes : ℕ} {spec : Spec} → HasTotals n bytes spec
    → bytes ≤ said_lengths spec
unfolding said_lengths
totals_within_said has = grind (arith, sum_by-take-le)

-- so many texts were read: how few attempts that took, and what they say
pub record TextsRead (t : Target) (n : ℕ) (old new : World) : Type 0 where
  pub bytes : ℕ
  pub count : new.attempts ≤ old.attempts + (n * text_bound + 100 * bytes)
  pub learned : DeviceFact (AtMaximum t (HasTotals n bytes)) t old new
  pub said : ((n ≡ 0) × (bytes ≡ 0)) ⊎ (new.shared ≡ false
      → SomeAt (AtMaximum t (HasTotals n bytes)) t old)

pub texts_none : {t : Target} {w : World} → TextsRead t 0 w w
texts_none = record {
  bytes = 0;
  count = omega arith;
  learned = learns_none (λ spec max. record { there = omega arith; sum = refl });
  said = inl (refl, refl);
}

pub texts_read_more : {t : Target} {n : ℕ} {old mid new : World} {text : List ℕ}
    → TextsRead t n old mid → Went mid new → ReadsText t n mid (Ok text) new
    → TextsRead t (n + 1) old new
texts_read_more {t} {n} {old} before went now =
    let bytes = before.bytes + now.total in
    let learned = learns_on {C = AtMaximum t (HasTotals (n + 1) bytes)} before.learned went
    now.read.0 (search totals_more) in
    record {
      bytes = bytes;
      count = omega (arith, before.count, now.count);
      learned = learned;
      said = grind (arith, some_learned);
    }

-- how many and how long they are
texts_within : {t : Target} {n : ℕ} {old new : World} (most : ℕ) (before : TextsRead t n old new)
    → new.shared ≡ false → EachAt (SaysWithin t most) t old → (n ≤ 8) × (before.bytes ≤ most)
texts_within most before single each = grind (arith, totals_within_said)

pub texts_ended : {t : Target} {n : ℕ} {old new : World} → TextsRead t n old new
    → FewFor texts_bound t old new
texts_ended read = record {
  few = λ most single each.
      let within = texts_within most read single each in
      omega (arith, read.count, within.0, within.1);
}

-- whether the next one was read or not
pub texts_failed : {t : Target} {n : ℕ} {old mid new : World} {r : Result (List ℕ) Stop}
    → TextsRead t n old mid → Went mid new → ReadsText t n mid r new → FewFor texts_bound t old new
texts_failed {t} {n} {old} before went now =
    record {
      few = λ most single each.
          let back = went.unshared single in
          elim now.said [
            | inl none ↦ (let within = texts_within most before back each in
                omega (arith, before.count, now.count, none, within.0, within.1))
            | inr some ↦ (let s = some single in
                let was : Was (Learned (AtMaximum t (HasTotals n before.bytes)) t) old s.spot
                s.state = grind arith in
                let at : is_at was.before t ≡ true = grind arith in
                let says : SaysWithin t most was.before.spec = grind arith in
                let next : HasTotal n now.total was.before.spec = grind arith in
                let all : HasTotals (n + 1) (before.bytes + now.total) was.before.spec =
                totals_more (was.so.so at says.max) next in
                omega (
                  arith,
                  before.count,
                  now.count,
                  all.there,
                  says.few,
                  totals_within_said all,
                  says.within,
                ))
          ];
    }

-- More calls

pub few_then : {f : ℕ → ℕ} (h : ℕ → ℕ) {t : Target} {n : ℕ} {old mid new : World}
    {a b : Option (List ℕ)} → FewFor f t old mid → StepRun n mid a new b
    → ((most : ℕ) → f most + n ≤ h most) → FewFor h t old new
few_then h begun went le =
    record {
      few = λ most single each. omega (
        arith,
        begun.few most (went_unshared went single) each,
        went.spends.most,
        le most,
      );
    }

pub few_wider : {f : ℕ → ℕ} (h : ℕ → ℕ) {t : Target} {old new : World} → FewFor f t old new
    → ((most : ℕ) → f most ≤ h most) → FewFor h t old new
few_wider h made le = grind arith

-- What is plugged in

-- each index that is plugged is so
abbrev EachPlugged : (ℕ → Type 0) → PluggedMap → Type 0
EachPlugged P [] = ⊤
EachPlugged P (x ∷ tree) = P x.1 × EachPlugged P tree

module _ (P : ℕ → Type 0) where
  inserted : (tree : PluggedMap) (e : List ℕ) (d : ℕ) → P d → EachPlugged P tree
      → EachPlugged P (insert_entry path_cmp tree e d)
  inserted [] e d so each = (so, tt)
  inserted (x ∷ tree) e d so each = split (path_cmp e x.0) (inserted tree e d so each.1)
    where
      split : (r : Ordering) → EachPlugged P (insert_entry path_cmp tree e d)
          → EachPlugged P (match_ordering r ((e, d) ∷ x ∷ tree) ((x.0, d) ∷ tree)
          (x ∷ insert_entry path_cmp tree e d))
      split Less more = (so, each)
      split Equal more = (so, each.1)
      split Greater more = (each.0, more)

  filtered : (test : List ℕ × ℕ → Bool) (tree : PluggedMap) → EachPlugged P tree
      → EachPlugged P (filter test tree)
  filtered test [] each = tt
  filtered test (x ∷ tree) each = split (test x) (filtered test tree each.1)
    where
      split : (b : Bool) → EachPlugged P (filter test tree)
          → EachPlugged P (cond b (x ∷ filter test tree) (filter test tree))
      split true more = (each.0, more)
      split false more = more

  found : (tree : PluggedMap) (path : List ℕ) (i : ℕ) → EachPlugged P tree
      → index_at tree path ≡ Some i → P i
  found [] path i each e = absurd cc
  found (x ∷ tree) path i each e = split (is_eq (path_cmp path x.0)) (found tree path i each.1) e
    where
      split : (b : Bool) → (index_at tree path ≡ Some i → P i)
          → cond b (Some x.1) (index_at tree path) ≡ Some i → P i
      split true more e = subst P (same_Some x.1 i e) each.0
      split false more e = more e

abbrev PluggedWithin : ℕ → List Spec → ℕ → Type 0
PluggedWithin most devices index = IfSome (slice_get devices index)
    (λ spec. said_lengths spec ≤ most)

module _ (most : ℕ) (devices : List Spec) where
  indexed_after : (action : Action) (tree : PluggedMap) → PlugsWithin most devices action
      → EachPlugged (PluggedWithin most devices) tree
      → EachPlugged (PluggedWithin most devices) (plugged_after action tree)
  unfolding plugged_without
  indexed_after (Change (Plug path device)) tree so each = grind (arith, inserted)
  indexed_after (Change (Unplug path)) tree so each = grind (arith, filtered)
  indexed_after (Ask ask) tree so each = each

  indexed_by : (n : ℕ) (events : List Event) (tree : PluggedMap)
      → All (λ e. PlugsWithin most devices e.action) events
      → EachPlugged (PluggedWithin most devices) tree
      → EachPlugged (PluggedWithin most devices) (plugged_by tree (take n events))
  unfolding plugged_by
  indexed_by (suc n) (e ∷ events) tree all each =
      let P : Event → Type 0 = λ x. PlugsWithin most devices x.action in
      indexed_by n events (plugged_after e.action tree) (All-tail P e events all)
      (indexed_after e.action tree (All-head P e events all) each)
  indexed_by _ _ tree all each = each

  described : (o : Option ℕ) (spec : Spec) → ((i : ℕ) → o ≡ Some i → PluggedWithin most devices i)
      → device_indexed devices o ≡ Some spec → said_lengths spec ≤ most
  described o spec each e = grind arith

-- the device at a path
pub plugged_within : {most : ℕ} {w : World} → HasPlanWithin most w → (path : List ℕ) (s : State)
    → state_there w.roots path ≡ Some s → said_lengths s.spec ≤ most
plugged_within {most} {w} has path s there =
    let plan = has.planned.plan in
    let tree = plugged_by [] (take w.taken plan.events) in
    described most plan.devices (index_at tree path) s.spec
    (λ i e. found (PluggedWithin most plan.devices) tree path i (grind (arith, indexed_by)) e)
    (grind (arith, devices_left))

-- from one call to the next
pub plan_within_after : {most : ℕ} {old new : World} → Went old new → new.fault ≡ None
    → HasPlanWithin most old → HasPlanWithin most new
plan_within_after went none has = record {
  planned = grind (arith, course_joined);
  plugs = has.plugs;
}

-- The device that took the address

module _ {port : HubPort} {address : ℕ} {device : Addressed} {old mid : World}
    (went : Went old mid) (taken : HasTaken port address old mid device) {f : AddressMap}
    {p : List ℕ} (spare : IsSpare f port p address)
    (till : WhileBusWorks (Enumerating f p address) old) (regular : IsRegular old) where
  owned : WhileBusWorks (MapHolds (after_taking f p address)) mid
  owned = grind arith

  there : (x : Location) (s : State) → reach_on mid.roots x ≡ true → state_on mid.roots x ≡ Some s
      → is_at s device.target ≡ true → path_to x ≡ p
  there x s on stands at = same_is p (path_to x) (grind arith)

  says_within : (most : ℕ) → (old.fault ≡ None → HasPlanWithin most old)
      → EachAt (SaysWithin device.target most) device.target mid
  says_within most plan x s on stands at =
      let found : AtPath (IsAddressed device) (path_to x) mid =
      subst (λ q. AtPath (IsAddressed device) q mid) (sym (there x s on stands at))
      (taken.found.found f p spare till regular) in
      let is : IsAddressed device s = found s on stands in
      let ruled : IsSpec s.spec = ruled_there mid.roots (path_to x) s
      (went.order regular taken.still).sane stands in
      record {
        max = head_packet is.low is.head;
        few = ruled.configs;
        within = plugged_within (plan_within_after went taken.still
            (plan (grind arith))) (path_to x) s stands;
      }

pub examined_few : {port : HubPort} {address : ℕ} {device : Addressed} {old mid new : World}
    {a b : Option (List ℕ)} → StepRun (3 * pass_bound port) old a mid b
    → HasTaken port address old mid device → FewFor configured_by device.target mid new
    → KeepsAddresses mid new → FewFrom port address old new
examined_few {address} {new} went taken configured keeps = record {
  few = λ f p spare till regular most plan.
      let single = (keeps.kept (after_taking f p address) (grind arith)).single
      in
      omega (
        arith,
        went.spends.most,
        configured.few most single (search (says_within, went_steps)),
      );
}
