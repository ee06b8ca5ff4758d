-- Calls through the pipes at a path, and what they leave of the table.
use Rattle.std.proofs.Common.{List, ℕ, Option, arith, ◌≡◌, refl, ap, Bool, None, Some, Result, Err}
use Rattle.std.proofs.Common.{◌≢◌, ◌∙◌, sym, true, false, suc, ◌==◌, eq-eqb, ◌∷◌, option_map, subst}
use Rattle.std.proofs.Common.{inl, inr, [], is_some}
use Rattle.usb_world.specs.{World, Relation, Was, EachWas, address_of, is_way}
use Rattle.usb_bus.specs.{StepRun, Traced, still}
use Rattle.usb_bus.proofs.Interface.{went_none, went_wider}
use Rattle.arrayvec.specs.ArrayVec.{ArrayVec}
use Rattle.usb_transfer.specs.{PipeState, pipe_made}
use Rattle.usb_enum.specs.{Accepted, Finding}
use Rattle.usb_table.specs.{TableFault, Transfer, TransferFault, FunctionPipes, Pipes, Function}
use Rattle.usb_table.specs.{Absent, AreFunctionPipes, ArePipesIf, ArePipesOf, ArePipesTo, ArePlaced}
use Rattle.usb_table.specs.{ClearedIf, ClearedInOrder, NotTried, PipeDid, PipesCleared}
use Rattle.usb_table.specs.{PipesThrough, ThroughIf, through, with_pipe, with_rest, Entries}
use Rattle.usb_table.specs.{accepted_device_of, accepted_device_at, address_in, PipesInSync}
use Rattle.usb_table.specs.{InSyncAt, AllInSync, IsHeld, KeepsLevels, finding_at, entry_address}
use Rattle.usb_table.specs.{Table, pipes_at, GoesThrough, Indexes, SetOrRefused, interface_asked}
use Rattle.usb_table.specs.{pipes_set, said_at, said_in, said_of, no_pipes, Entry, IsPiped}
use Rattle.usb_table.specs.{TableSlots, PathKeys, AddressKeys, key_of_path, under, findings}
use Rattle.usb_table.specs.{pipings, table_of, AreIndexes, ArePiped, is_below_hub, AreAbsent}
use Rattle.usb_table.specs.{pipes_made, ArePipesAt}
use Rattle.usb_table.proofs.levels.StandingPipes.{IsPipeOf, Picks, PickedAt, in_place, pipe_of}
use Rattle.usb_table.proofs.levels.StandingPipes.{same_keep}
use Rattle.std.proofs.lemmas.Bool.{false_from_ne_true, cases_eq}
use Rattle.std.proofs.lemmas.Option.{same_Some}
use Rattle.std.specs.BTreeMap.{is_at}
use Rattle.usb_port.specs.{path_cmp}
use Rattle.usb_device.specs.{State, reach, Location, path_to, reach_on, state_on, state_there}
use Rattle.usb_world.proofs.Interface.{same_is, equal_same, false_true}
use Rattle.usb_hub.specs.{KeepsAddresses, StaysAs, EachElsewhere}
use Rattle.usb_table.proofs.levels.FittingPipes.{PipesMove, still_level}
use Rattle.usb_table.proofs.entries.Keys.{path_itself, path_tied, entries_of-key, entries_of-no_key}
use Rattle.usb_table.proofs.entries.Keys.{findings-standing, values_by_path-lookup}
use Rattle.std.proofs.Math.Path.{fun_ext}
use Rattle.std.specs.Prelude.{unwrap_or}
use Rattle.slab.specs.Slab.{Slab, get, with_value}
use Rattle.slab.proofs.SlabLemmas.{Updates-with_value}

-- A call that makes no attempt.

pub idle_traced : (w : World) (text : Option (List ℕ)) → Traced w text w text
idle_traced w text = still

pub idle_steps : (n : ℕ) (w : World) (text : Option (List ℕ)) → StepRun n w text w text
idle_steps n w text = went_wider 0 n went_none (omega arith)

-- A call tries nothing, or goes through a pipe to the device that was found.

-- the pipes to what was found stand in their places

placed_to : (device : Accepted) (below_hub : Bool) (pipes : Pipes)
    → ArePipesTo device below_hub pipes → ArePlaced pipes
placed_to device below_hub pipes are = grind (arith, in_place)

placed_of : (finding : Finding) (below_hub : Bool) (pipes : Pipes)
    → ArePipesOf finding below_hub pipes → ArePlaced pipes
placed_of finding below_hub pipes are = grind (arith, placed_to)

-- A call goes through no pipes where no device was found

if_found : (P R : Pipes → Pipes → Type 0) (found : Option Accepted) (below_hub : Bool)
    → ((said : ArrayVec ℕ) (left : Pipes) → found ≡ None → P (Absent said) left
    → R (Absent said) left)
    → ((device : Accepted) (pipes left : Pipes) → found ≡ Some device
    → ArePipesTo device below_hub pipes → P pipes left → R pipes left)
    → (pipes left : Pipes) → ArePipesIf found below_hub pipes → P pipes left → R pipes left
if_found P R found below_hub absent there pipes left none x = grind arith

-- The two cases of a call through the pipe that is picked

-- it went through one, which another one to the same endpoint follows
pub record WentThrough (device : Accepted) (below_hub : Bool)
    (pick : FunctionPipes → Option PipeState) (pipes : FunctionPipes) (pipe left : PipeState)
    : Type 0 where
  pub picked : pick pipes ≡ Some pipe
  pub of : IsPipeOf device below_hub pipes pipe
  pub made : pipe_made left ≡ pipe_made pipe
  pub again : pick (with_pipe left pipes) ≡ Some left

module _ {A : Type 0} (pick : FunctionPipes → Option PipeState)
    (miss : FunctionPipes → TransferFault) (picks : Picks pick)
    (So : PipeDid A) (same : (pipe : PipeState) (old : World) (result : Result A TableFault)
    (left : PipeState) (new : World) → So pipe old result left new
    → pipe_made left ≡ pipe_made pipe) (old : World)
    (result : Result A TableFault) (new : World) (found : Option Accepted) (below_hub : Bool)
    (R : Pipes → Pipes → Type 0)
    (idle : (pipes : Pipes) (fault : TransferFault) → through pick pipes ≡ None
    → result ≡ Err (Transfer fault) → new ≡ old → R pipes pipes)
    (went : (device : Accepted) (pipes : FunctionPipes) (pipe left : PipeState)
    → found ≡ Some device → WentThrough device below_hub pick pipes pipe left
    → So pipe old result left new → R (Function pipes) (Function (with_pipe left pipes))) where
  none_picked : (pipes left : Pipes) (fault : TransferFault) → through pick pipes ≡ None
      → NotTried fault pipes old result left new → R pipes left
  none_picked pipes left fault none x = grind arith

  one_picked : (device : Accepted) (pipes : FunctionPipes) → found ≡ Some device
      → AreFunctionPipes device below_hub pipes → (o rest : Option PipeState) → pick pipes ≡ o
      → ThroughIf So (miss pipes) o old result rest new
      → R (Function pipes) (Function (with_rest rest pipes))
  one_picked device pipes e are None rest is x = search (x.1, x.0, x.2)
  one_picked device pipes e are (Some pipe) None is x = absurd x
  one_picked device pipes e are (Some pipe) (Some left) is x =
      let at : PickedAt pick pipes pipe = search in_place in
      let made = same pipe old result left new x in
      went device pipes pipe left e (grind (arith, pipe_of)) x

  picked_there : (device : Accepted) (pipes left : Pipes) → found ≡ Some device
      → ArePipesTo device below_hub pipes → PipesThrough pick miss So pipes old result left new
      → R pipes left
  picked_there device pipes left e are x = grind (arith, none_picked, one_picked)

  pub through_pipes : (pipes left : Pipes) → ArePipesIf found below_hub pipes
      → PipesThrough pick miss So pipes old result left new → R pipes left
  through_pipes pipes left h h1 = grind (arith, if_found, none_picked, picked_there)

-- The two cases of a clear of both

module _ (old : World) (result : Result (Unit {0}) TableFault) (new : World)
    (found : Option Accepted) (below_hub : Bool) (R : Pipes → Pipes → Type 0)
    (idle : (pipes : Pipes) (fault : TransferFault) → result ≡ Err (Transfer fault) → new ≡ old
    → R pipes pipes)
    (went : (device : Accepted) (pipes left : FunctionPipes) → found ≡ Some device
    → AreFunctionPipes device below_hub pipes → ClearedInOrder pipes old result left new
    → R (Function pipes) (Function left)) where
  both_idle : (pipes left : Pipes) (fault : TransferFault)
      → NotTried fault pipes old result left new → R pipes left
  both_idle pipes left fault x = grind arith

  both_if : (device : Accepted) → found ≡ Some device → (why : Option TransferFault)
      (pipes left : FunctionPipes)
      → AreFunctionPipes device below_hub pipes → ClearedIf why pipes old result left new
      → R (Function pipes) (Function left)
  both_if device e (Some why) pipes left are x = search (both_idle, x.0, x.1, x.2)
  both_if device e None pipes left are x = went device pipes left e are x

  both_there : (device : Accepted) (pipes left : Pipes) → found ≡ Some device
      → ArePipesTo device below_hub pipes → PipesCleared pipes old result left new → R pipes left
  both_there device pipes left e are x = grind (arith, both_idle, both_if)

  pub through_both : (pipes left : Pipes) → ArePipesIf found below_hub pipes
      → PipesCleared pipes old result left new → R pipes left
  through_both pipes left h h1 = grind (arith, both_idle, both_there, if_found)

-- Calls through the pipes at a path leave the pipes of the table level.

-- the address of an accepted device is that of its path
device_address : (found : Option Finding) (device : Accepted)
    → accepted_device_of found ≡ Some device → address_in found ≡ Some device.address
device_address found device e = grind arith

address_found : (path : List ℕ) (entries : Entries) (device : Accepted)
    → accepted_device_at path entries ≡ Some device
    → entry_address path entries ≡ Some device.address
address_found path entries device e = grind (arith, device_address)

-- the pipes to the device at a path, where that starts at a port of the root
abbrev InSyncFrom : List ℕ → Table → World → Type 0
InSyncFrom path table w = (j : Location) → path ≡ path_to j → (device : Accepted) (s : State)
    → accepted_device_at path table.entries ≡ Some device → reach_on w.roots j ≡ true
    → state_on w.roots j ≡ Some s → PipesInSync device (pipes_at path table) s

-- nothing is reached at any other path
at_some_port : (table : Table) (w : World) (path : List ℕ) → InSyncFrom path table w
    → InSyncAt path table w
at_some_port table w (suc j ∷ p) f = record {
  level = λ device s e on there. f (record { row = j; rest = p }) refl device s e on there;
}
at_some_port table w _ f = grind (arith, false_true)

-- what is reached at a path holds the address of the path's entry
pub held_address : (table : Table) (w : World) (path : List ℕ) (device : Accepted) (s : State)
    → IsHeld table w → accepted_device_at path table.entries ≡ Some device
    → reach w.roots path ≡ true → state_there w.roots path ≡ Some s → address_of s ≡ device.address
held_address table w path device s held e on there = grind (arith, address_found, same_Some)

-- two paths of one address are one
entry_address-one_path : (table : Table) (w : World) (x path : List ℕ) (a : ℕ) → IsHeld table w
    → entry_address x table.entries ≡ Some a → entry_address path table.entries ≡ Some a → x ≡ path
entry_address-one_path table w x path a held e f = grind (arith, same_is)

-- who has the address of the device that is known at a path stands there
pub stands_there : (path : List ℕ) (table : Table) (w : World) → IsHeld table w
    → (device : Accepted) → accepted_device_at path table.entries ≡ Some device → (a : ℕ)
    → a ≡ device.address → (j : Location) (s : State) → reach_on w.roots j ≡ true
    → state_on w.roots j ≡ Some s → (address_of s == a) ≡ true → path ≡ path_to j
stands_there path table w held device found a is j s on there at =
    let own : entry_address (path_to j) table.entries ≡ Some (address_of s) = grind arith in
    grind (arith, address_found, entry_address-one_path, equal_same)

-- what stands at a location stands at its path
pub stood_at : {R : Relation} (path : List ℕ) (old : World) (j : Location) (v : State)
    → path ≡ path_to j → (w : Was R old j v)
    → (reach old.roots path ≡ true) × (state_there old.roots path ≡ Some w.before)
stood_at path old j v e w = grind arith

apart_or : (path x : List ℕ) → is_at (path_cmp path) x ≡ false → x ≢ path
apart_or path x apart = grind (arith, false_true, path_itself)

module _ (path : List ℕ) (device : Accepted) (ends : Type 0) (pipes left : Pipes) (old new : Table)
    (before after : World) (stands : accepted_device_at path old.entries ≡ Some device)
    (goes : GoesThrough path old new) (was : pipes_at path old ≡ pipes) (is : pipes_at path new
    ≡ left) (addresses : KeepsAddresses before after)
    (moves : after.shared ≡ false → EachWas (PipesMove device device.address ends pipes left) before
    after) where
  pub single : IsHeld old before → after.shared ≡ false
  single held = (addresses.kept (λ x. entry_address x old.entries) (grind arith)).single

  same_device : (x : List ℕ) (d : Accepted) → accepted_device_at x new.entries ≡ Some d
      → accepted_device_at x old.entries ≡ Some d
  same_device x d e = grind arith

  pub others : IsHeld old before → (x : List ℕ) → is_at (path_cmp path) x ≡ false
      → InSyncAt x old before → InSyncAt x new after
  others held x apart l = at_some_port new after x at
    where
      at : InSyncFrom x new after
      at j e d s found on there =
          let w : Was (PipesMove device device.address ends pipes left) before j s =
          search single in
          let stood = stood_at x before j s e w in
          let kept : s ≡ w.before = w.so.others (false_from_ne_true _
          (λ at. apart_or path x apart (e ∙ sym (search stands_there)))) in
          grind (arith, same_device)

  itself : IsHeld old before → ends → InSyncAt path old before → InSyncAt path new after
  itself held e l = at_some_port new after path at
    where
      at : InSyncFrom path new after
      at j x d s found on there =
          let w : Was (PipesMove device device.address ends pipes left) before j s =
          search single in
          let stood = stood_at path before j s x w in
          let has = held_address old before path device w.before held stands stood.0 stood.1 in
          grind (arith, eq-eqb, same_Some, same_device)

  pub moved_levels : (Worlds : World → World → Type 0) → Worlds before after
      → KeepsLevels Worlds path ends old before new after
  moved_levels Worlds keeps = grind (arith, itself, others)

-- A call that does nothing

level_at-same : (x : List ℕ) (old new : Table) (w : World) → new.entries ≡ old.entries
    → pipes_at x new ≡ pipes_at x old → InSyncAt x old w → InSyncAt x new w
level_at-same x old new w e same l = grind arith

pub still_levels : (Worlds : World → World → Type 0) (path : List ℕ) (ends : Type 0)
    (old new : Table) (before after : World) → GoesThrough path old new
    → pipes_at path new ≡ pipes_at path old → after ≡ before → Worlds before after
    → KeepsLevels Worlds path ends old before new after
still_levels Worlds path ends old new before after goes same none keeps =
    grind (arith, itself, level_at-same, others)

-- what a call through the pipes at a path leaves of all of them
pub all_kept : {Worlds : World → World → Type 0} (path : List ℕ) (ends : Type 0)
    (old new : Table) (before after : World) → KeepsLevels Worlds path ends old before new after
    → IsHeld old before → ends → AllInSync old before → AllInSync new after
all_kept path ends old new before after k held e all = grind (arith, path_tied)

-- A call that is not through the pipes

module _ (table : Table) (old new : World) where
  level_if : (x : List ℕ) → ((j : Location) → x ≡ path_to j → (s : State)
      → reach_on new.roots j ≡ true → state_on new.roots j ≡ Some s → Was StaysAs old j s)
      → InSyncAt x table old → InSyncAt x table new
  level_if x was l = at_some_port table new x at
    where
      at : InSyncFrom x table new
      at j e d s found on there =
          let w : Was StaysAs old j s = was j e s on there in
          let stood = stood_at x old j s e w in search (still_level, l.level)

  -- where each device stays as it was
  pub level_stays : EachWas StaysAs old new → (x : List ℕ) → InSyncAt x table old
      → InSyncAt x table new
  level_stays was x h = grind (arith, level_if)

  -- where each does that is not at a path nor below it
  pub level_elsewhere : (path : List ℕ) → EachElsewhere path StaysAs old new → (x : List ℕ)
      → is_way path x ≡ false → InSyncAt x table old → InSyncAt x table new
  level_elsewhere path was x apart h = grind (arith, level_if)

-- Calls through the pipes at a path, as the keys show them.

-- What the pipes at a path are

pipes_by : (standings : TableSlots) (path : List ℕ) (paths : PathKeys) (key : Option ℕ)
    → key_of_path paths path ≡ key → pipes_at path (table_of standings paths)
    ≡ unwrap_or (option_map (under no_pipes (pipings standings)) key) no_pipes
pipes_by standings path paths key at = grind (arith, values_by_path-lookup)

pipes_found : (standings : TableSlots) (path : List ℕ) (paths : PathKeys) (key : ℕ) (s : Entry)
    → key_of_path paths path ≡ Some key → standings key ≡ Some s
    → pipes_at path (table_of standings paths) ≡ s.pipes
pipes_found standings path paths key s at stands = grind (arith, pipes_by)

pipes_none : (standings : TableSlots) (path : List ℕ) (paths : PathKeys)
    → key_of_path paths path ≡ None → pipes_at path (table_of standings paths) ≡ no_pipes
pipes_none standings path paths none = grind (arith, pipes_by)

none_absent : (pipes : Pipes) → pipes ≡ no_pipes → AreAbsent pipes
none_absent pipes is = (record { items = [] }, is)

-- and what was said there

pub said_found : (standings : TableSlots) (path : List ℕ) (paths : PathKeys) (key : ℕ) (s : Entry)
    → key_of_path paths path ≡ Some key → standings key ≡ Some s
    → said_at path (table_of standings paths) ≡ said_of (Some s.finding) s.pipes
said_found standings path paths key s at stands =
    ap (λ o. said_of o (pipes_at path (table_of standings paths)))
    (entries_of-key (findings standings) path paths key s.finding at (search findings-standing))
    ∙ ap (said_of (Some s.finding)) (grind (arith, pipes_found))

pub said_none : (standings : TableSlots) (path : List ℕ) (paths : PathKeys)
    → key_of_path paths path ≡ None → said_at path (table_of standings paths) ≡ None
said_none standings path paths none = grind (arith, entries_of-no_key)

-- They are those to what was found there

module _ (standings : TableSlots) (paths : PathKeys) (addresses : AddressKeys)
    (are : AreIndexes (findings standings) paths addresses) (piped : ArePiped standings paths)
    (path : List ℕ) where
  abbrev AreTo : Option Finding → Type 0
  AreTo found = ArePipesIf (accepted_device_of found) (is_below_hub path)
      (pipes_at path (table_of standings paths))

  are_by : (key : Option ℕ) → key_of_path paths path ≡ key
      → AreTo (finding_at path (table_of standings paths).entries)
  are_by None at = grind (arith, entries_of-no_key, none_absent, pipes_none)
  are_by (Some key) at = by_entry (standings key) refl
    where
      by_entry : (o : Option Entry) → standings key ≡ o
          → AreTo (finding_at path (table_of standings paths).entries)
      by_entry None none = grind arith
      by_entry (Some s) stands =
          rw (
            entries_of-key (findings standings) path paths key s.finding at
                (search findings-standing),
            pipes_found standings path paths key s at
                stands,
          ) (piped path key s at stands).1

  pub are_pipes_at : ArePipesAt path (table_of standings paths)
  are_pipes_at = grind (arith, are_by)

-- and the device that was found there
pub device_found : (standings : TableSlots) (path : List ℕ) (paths : PathKeys) (key : ℕ) (s : Entry)
    → key_of_path paths path ≡ Some key → standings key ≡ Some s
    → accepted_device_at path (table_of standings paths).entries
    ≡ accepted_device_of (Some s.finding)
device_found standings path paths key s at stands =
    ap accepted_device_of (entries_of-key (findings standings) path paths key s.finding at
    (search findings-standing))

pub device_none : (standings : TableSlots) (path : List ℕ) (paths : PathKeys)
    → key_of_path paths path ≡ None
    → accepted_device_at path (table_of standings paths).entries ≡ None
device_none standings path paths none = grind (arith, entries_of-no_key)

-- A call leaves what a refused device said

said-made : (pipes : Pipes) → said_in (pipes_made pipes) ≡ said_in pipes
said-made pipes = grind arith

-- where the pipes are to the same endpoints
made_said : (finding : Finding) (pipes left : Pipes) → pipes_made left ≡ pipes_made pipes
    → said_of (Some finding) left ≡ said_of (Some finding) pipes
made_said finding pipes left made = grind (arith, said-made)

-- where an interface was set
pub set_said : {W : Type 0} (finding : Finding) (below_hub : Bool) (interface setting : ℕ)
    (pipes left : Pipes) (result : Result (Unit {0}) TableFault) (old new : W)
    → SetOrRefused (interface_asked below_hub interface setting
    (accepted_device_of (Some finding)))
    (pipes_set (accepted_device_of (Some finding)) below_hub interface setting) pipes old result
    left new → said_of (Some finding) left ≡ said_of (Some finding) pipes
set_said finding below_hub interface setting pipes left result old new x = grind arith

-- A call leaves other pipes at the path

-- what is so of the table after it, and of the pipes
pub record CallThrough (path : List ℕ) (standings after : TableSlots) (paths : PathKeys)
    (addresses : AddressKeys) (before left : Pipes) : Type 0 where
  pub indexes : AreIndexes (findings after) paths addresses
  pub piped : ArePiped after paths
  pub goes : GoesThrough path (table_of standings paths) (table_of after paths)
  pub was : pipes_at path (table_of standings paths) ≡ before
  pub is : pipes_at path (table_of after paths) ≡ left

-- the entry under its key is written back, with other pipes
abbrev pub SlotCall : List ℕ → Slab Entry → Indexes → ℕ → Entry → Pipes → Type 0
SlotCall path slab indexes key s left =
    CallThrough path (get slab) (get (with_value slab key (record s { pipes = left })))
    indexes.by_path.entries indexes.by_address.entries s.pipes left

module _ (path : List ℕ) {standings after : TableSlots} {paths : PathKeys}
    {addresses : AddressKeys} {key : ℕ} {s : Entry} {left : Pipes}
    (are : AreIndexes (findings standings) paths addresses × ArePiped standings paths)
    (at : key_of_path paths path ≡ Some key) (held : standings key ≡ Some s)
    (changed : after key ≡ Some (record s { pipes = left }))
    (others : (k : ℕ) → k ≢ key → after k ≡ standings k)
    (fits : ArePipesOf s.finding (is_below_hub path) left)
    (said : said_of (Some s.finding) left ≡ said_of (Some s.finding) s.pipes) where
  same_finding : (k : ℕ) → findings after k ≡ findings standings k
  same_finding k = grind (arith, cases_eq, others)

  still_piped : ArePiped after paths
  still_piped q k x h stands = elim (cases_eq k key) [
    | inl e ↦
        let is =
        same_Some (record s { pipes = left }) x (grind arith) in
        let there : path ≡ q = grind arith in
        subst (IsPiped q) is (
          (are.1 path key s at held).0,
          rw there at fits,
        )
    | inr ne ↦ are.1 q k x h (sym (others k ne) ∙ stands)
  ]

  other_key : (other : List ℕ) (k : ℕ) → is_at (path_cmp path) other ≡ false
      → key_of_path paths other ≡ Some k → k ≢ key
  other_key other k apart h = grind (arith, path_itself)

  other_pipes : (other : List ℕ) → is_at (path_cmp path) other ≡ false → (k : Option ℕ)
      → key_of_path paths other ≡ k → pipes_at other (table_of after paths)
      ≡ pipes_at other (table_of standings paths)
  other_pipes other apart k h = grind (arith, other_key, others, pipes_by, pipes_none)

  goes_through : CallThrough path standings after paths addresses s.pipes left
  goes_through =
      let found : findings after ≡ findings standings = fun_ext same_finding in
      record {
        indexes = rw found are.0;
        piped = still_piped;
        goes = record {
          fits = grind (arith, are_pipes_at);
          entries = grind arith;
          others = grind (arith, other_pipes);
          said = said_found after path paths key _ at changed ∙ said
              ∙ sym (grind (arith, said_found));
        };
        was = grind (arith, pipes_found);
        is = grind (arith, pipes_found);
      }

-- to the same device
pub set_slot : {path : List ℕ} (slab : Slab Entry) {paths : PathKeys} {addresses : AddressKeys}
    {key : ℕ} {s : Entry} {left : Pipes}
    → AreIndexes (findings (get slab)) paths addresses × ArePiped (get slab) paths
    → key_of_path paths path ≡ Some key → get slab key ≡ Some s
    → ArePipesOf s.finding (is_below_hub path) left
    → said_of (Some s.finding) left ≡ said_of (Some s.finding) s.pipes
    → CallThrough path (get slab) (get (with_value slab key (record s { pipes = left }))) paths
    addresses s.pipes left
set_slot {path} slab {key = key} {s} {left} are at held fits said =
    let updates = Updates-with_value slab key (record s { pipes = left }) (ap is_some held) in
    search goes_through

-- to the same endpoints
pub through_slot : {path : List ℕ} (slab : Slab Entry) {paths : PathKeys} {addresses : AddressKeys}
    {key : ℕ} {s : Entry} {left : Pipes}
    → AreIndexes (findings (get slab)) paths addresses × ArePiped (get slab) paths
    → key_of_path paths path ≡ Some key → get slab key ≡ Some s
    → pipes_made left ≡ pipes_made s.pipes
    → CallThrough path (get slab) (get (with_value slab key (record s { pipes = left }))) paths
    addresses s.pipes left
through_slot {path} slab {key = key} {s} {left} are at held made =
    set_slot slab are at held
    (same_keep s.finding s.pipes left made (is_below_hub path) (are.1 path key s at held).1)
    (made_said s.finding s.pipes left made)

-- nothing stands there, and nothing changes
pub through_none : (path : List ℕ) (standings : TableSlots) (paths : PathKeys)
    (addresses : AddressKeys)
    → AreIndexes (findings standings) paths addresses × ArePiped standings paths
    → key_of_path paths path ≡ None
    → CallThrough path standings standings paths addresses no_pipes no_pipes
through_none path standings paths addresses are none = search (are_pipes_at, others, pipes_none)

-- the pipes of an entry stand in their places
pub placed_at : (path : List ℕ) (slab : Slab Entry) (paths : PathKeys) {key : ℕ} {s : Entry}
    → ArePiped (get slab) paths → key_of_path paths path ≡ Some key → get slab key ≡ Some s
    → ArePlaced s.pipes
placed_at path slab paths {key} {s} piped at held =
    placed_of s.finding (is_below_hub path) s.pipes (piped path key s at held).1
