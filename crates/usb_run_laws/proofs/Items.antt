-- What an item moves at a path.
use Rattle.std.proofs.Common.{◌≡◌, ◌≢◌, ◌∙◌, refl, sym, ap, subst, Bool, true, false, ◌&&◌, ℕ}
use Rattle.std.proofs.Common.{List, [], length, Option, None, Some, Result, Ok, Err}
use Rattle.std.proofs.Common.{◌⊎◌, inl, inr, is_ok, if◌then◌else◌}
use Rattle.std.specs.BTreeMap.{is_at as ties}
use Rattle.std.specs.Global.{Vec}
use Rattle.std.specs.List.{concat}
use Rattle.arrayvec.specs.ArrayVec.{ArrayVec}
use Rattle.usb_port.specs.{path_cmp}
use Rattle.usb_device.specs.{State, Location, path_to, reach, reach_on, state_on}
use Rattle.usb_device.specs.{out_end, state_there}
use Rattle.usb_world.specs.declared.event.Ask.{Ask}
use Rattle.usb_world.specs.{Show, Send, SendTo, Receive, ReceiveFrom, Poll, Clear, ClearOf}
use Rattle.usb_world.specs.{SetInterface, ControlIn, ControlOut, Look as LookAt, News as AskNews}
use Rattle.usb_world.specs.{EachWas, IsWrite, Was, World, Write, address_of}
use Rattle.usb_request.specs.{IsToHost, Setup}
use Rattle.usb_transfer.specs.{Target, GaveNext, GavePackets, InPipeInSync, report_in}
use Rattle.usb_enum.specs.{Accepted}
use Rattle.usb_table.specs.{TableFault, TransferFault, Pipes, ArePipesIf, ArePipesTo, At}
use Rattle.usb_table.specs.{ChangesAt, EndpointChoice, Entries, FirstBulk, GaveBy}
use Rattle.usb_table.specs.{GoesThrough, HaltClearedOf, HaltsCleared, KeepsMoved, PipesInSync}
use Rattle.usb_table.specs.{ReadLeft, ReadMade, ReceivedThrough, ReportedBy, ReportedThrough}
use Rattle.usb_table.specs.{SameSettings, SentThrough, SparesBulk, TookBytes, TransferIf, WriteLeft}
use Rattle.usb_table.specs.{WriteMade, accepted_device_at, bytes_in, control_target}
use Rattle.usb_table.specs.{function_of, interface_target, is_below_hub, pipes_at, polls_miss}
use Rattle.usb_table.specs.{polls_through, receives_miss, receives_through, sends_miss}
use Rattle.usb_table.specs.{sends_through, SettingLeft, through, write_target}
use Rattle.usb_table.proofs.Interface.{cases_path, held_address, path_itself, path_tied}
use Rattle.usb_table.proofs.Interface.{read_spares, spares-same, StillEnds, write_still}
use Rattle.usb_host.specs.{HostFault, HostState, MovesThrough, claims, host_told, table_in}
use Rattle.usb_host.specs.{ClearOfTells, ClearTells}
use Rattle.usb_host.specs.{ReadTells, ReceiveTells, RenewedAt, ReportTells, SendTells, StayedAt}
use Rattle.usb_host.specs.{InterfaceTells, Look, WriteTells}
use Rattle.usb_run.specs.{InterfaceIfAsked, Item, Knows, IsItemOf, listing_of, sent_count}
use Rattle.usb_run.specs.{table_told, transfer_ended}
use Rattle.usb_run.specs.{Answer, Done, Looked, Polled, Received, Sent}
use Rattle.usb_run.specs.declared.item.Item.TheVariants.{News as ToldNews}
use Rattle.usb_run.specs.declared.item.Task.TheVariants as task
use Rattle.usb_run.specs.Transfers.{Transfers}
use Rattle.usb_run.specs.{CallGives, CallTells, IsOfCall}
use Rattle.usb_run.proofs.Interface.{AskAnswered, Fits, silent, listed, called, news, answered}
use Rattle.usb_run.proofs.Interface.{all_reported, answered_goes, same_item}
use Rattle.usb_run.proofs.Interface.{count_done, done_told, no_bus_fault, report_told}
use Rattle.usb_run.proofs.Interface.{told_cleared, told_cleared_of, told_received, told_reported}
use Rattle.usb_run.proofs.Interface.{told_interface, told_sent}
use Rattle.usb_run_laws.specs.{AreJoined, ArePackets, Endpoint, FailsPlain, StreamsAt, ToldItem}
use Rattle.usb_run_laws.specs.{bytes_for, endpoint_at, first_of, is_done, is_of, pipe_of}
use Rattle.usb_run_laws.proofs.Clears.{cleared_move, cleared_of_move}
use Rattle.usb_run_laws.proofs.Devices.{DeviceMoves, DeviceStays, spares_stays}
use Rattle.usb_run_laws.proofs.Moves.{IsQuiet, gives_move, no_plain, one_stands, polls_pick}
use Rattle.usb_run_laws.proofs.Moves.{quiet_moves, receives_pick, sends_move, settings_same}
use Rattle.usb_run_laws.proofs.PipeEnds.{first_fails}
use Rattle.usb_run_laws.proofs.Settings.{setting_moves}

-- Devices at which nothing moved

ends_same : (s v : State) → v ≡ s → StillEnds s v
ends_same s v same = record {
  sink = λ e. ap (λ (d : State). (out_end d e).sink) same;
  settings = settings_same s v same;
  into = λ pipe got fits. subst (InPipeInSync pipe got) (sym same) fits;
}

-- with the same pipes
still_stays : (pipes left : Pipes) (s v : State) → left ≡ pipes → StillEnds s v
    → DeviceStays pipes left s v
still_stays pipes left s v kept ends = record {
  sinks = ends.sink;
  kept = λ d e. ap (pipe_of d e) kept;
  first = λ d. ap (first_of d) kept;
  into = ends.into;
  settings = ends.settings;
}

-- a transfer to another path is of no endpoint
away_of : (end : Endpoint) (to : List ℕ) (choice : EndpointChoice)
    → ties (path_cmp to) end.path ≡ false → is_of end to choice ≡ false
away_of end to FirstBulk away = ap (λ b. b && end.is_first) away
away_of end to (At a) away = rest away
  where
    rest : ties (path_cmp to) end.path ≡ false → is_of end to (At a) ≡ false
    rest e = rw e refl

not_to : (to path : List ℕ) → ties (path_cmp to) path ≡ false → to ≢ path
not_to to path away same =
    let tie : true ≡ false = sym (path_itself to) ∙ ap (ties (path_cmp to)) same ∙ away in cc tie

-- where no bytes are told no packet came
none_joined : (mine : Bool) (bytes : List ℕ) → mine ≡ false → AreJoined mine bytes []
none_joined true bytes is = absurd (cc is)
none_joined false bytes is = refl

-- where they are, such packets
are_joined : (mine : Bool) (bytes : List ℕ) (packets : List (List ℕ)) → mine ≡ true
    → concat packets ≡ bytes → AreJoined mine bytes packets
are_joined true bytes packets is joined = joined
are_joined false bytes packets is joined = absurd (cc is)

-- Items

abbrev sent_made : EndpointChoice → List ℕ → List ℕ → Result (Unit {0}) TransferFault → Item
sent_made choice to bytes told =
    Answer to (task.Send choice) (Sent (sent_count (length bytes) told))

-- what asks for it
abbrev send_ask : EndpointChoice → List ℕ → List ℕ → Ask
send_ask FirstBulk to bytes = Send to bytes
send_ask (At a) to bytes = SendTo to a bytes

abbrev received_made : EndpointChoice → List ℕ → Result (Vec ℕ) TransferFault → Item
received_made choice from told = Answer from (task.Receive choice) (Received told)

abbrev receive_ask : EndpointChoice → List ℕ → ℕ → Ask
receive_ask FirstBulk from packets = Receive from packets
receive_ask (At a) from packets = ReceiveFrom from a packets

abbrev polled_made : List ℕ → ℕ → Result (Option (ArrayVec ℕ)) TransferFault → Item
polled_made from a told = Answer from (task.Poll a) (Polled told)

abbrev cleared_made : List ℕ → Result (Unit {0}) TransferFault → Item
cleared_made to told = Answer to task.Clear (Done told)

abbrev cleared_of_made : List ℕ → ℕ → Result (Unit {0}) TransferFault → Item
cleared_of_made to a told = Answer to (task.ClearOf a) (Done told)

abbrev set_made : List ℕ → ℕ → ℕ → Result (Unit {0}) TransferFault → Item
set_made to i a told = Answer to (task.SetInterface i a) (Done told)

abbrev read_made : List ℕ → Result (Vec ℕ) TransferFault → Item
read_made from told = Answer from task.ControlIn (Received told)

abbrev written_made : List ℕ → Write → Result (Unit {0}) TransferFault → Item
written_made to write told =
    Answer to task.ControlOut (Sent (sent_count (length write.bytes) told))

abbrev looked_made : List ℕ → Result Look TransferFault → Item
looked_made at told = Answer at task.Look (Looked told)

-- the bytes that are asked for an endpoint
sends_for : (choice : EndpointChoice) (end : Endpoint) (to bytes : List ℕ)
    → bytes_for end (Some (send_ask choice to bytes))
    ≡ (if is_of end to choice then bytes else [])
sends_for FirstBulk end to bytes = refl
sends_for (At a) end to bytes = refl

receives_for : (choice : EndpointChoice) (end : Endpoint) (from : List ℕ) (packets : ℕ)
    → bytes_for end (Some (receive_ask choice from packets)) ≡ []
receives_for FirstBulk end from packets = refl
receives_for (At a) end from packets = refl

-- Hosts

-- the accepted device at a path was listed there before an item, and moved what the item tells
pub record MovesAt (path : List ℕ) (device : Accepted) (due : Option Ask) (item : Item)
    (old new : HostState) : Type 0 where
  pub listed : accepted_device_at path old.entries ≡ Some device
  pub moves : StreamsAt path (DeviceMoves path (record { due = due; asked = old; item = item })
      (pipes_at path (table_in old)) (pipes_at path (table_in new))) old new

-- or a look was asked for, which found it anew
pub record LookFinds (path : List ℕ) (device : Accepted) (due : Option Ask) (old new : HostState)
    : Type 0 where
  pub to : List ℕ
  pub asks : due ≡ Some (LookAt to)
  pub renewed : RenewedAt path device old new

module _ (path : List ℕ) (device : Accepted) (old new : HostState)
    (at : accepted_device_at path new.entries ≡ Some device) where
  abbrev Before : Pipes
  Before = pipes_at path (table_in old)

  abbrev After : Pipes
  After = pipes_at path (table_in new)

  -- an event that this host is asked for, with its item
  abbrev Told : Option Ask → Item → ToldItem
  Told due item = record { due = due; asked = old; item = item }

  -- a listing
  shown : (said : Bool) (item : Item) → IsQuiet path (Told (Some (Show said)) item) → new ≡ old
      → MovesAt path device (Some (Show said)) item old new
  shown said item quiet same = record {
    listed = ap (λ (h : HostState). accepted_device_at path h.entries) (sym same) ∙ at;
    moves = λ x v is on stands. record {
      before = v;
      on = ap (λ (h : HostState). reach_on h.world.roots x) (sym same) ∙ on;
      stands = ap (λ (h : HostState). state_on h.world.roots x) (sym same) ∙ stands;
      so = quiet_moves path (Told (Some (Show said)) item) Before After v v quiet
          (still_stays Before After v v (ap (λ (h : HostState). pipes_at path (table_in h)) same)
          (ends_same v v refl));
    };
  }

  -- what leaves the device and its pipes
  stayed_moves : (due : Option Ask) (item : Item) → IsQuiet path (Told due item)
      → StayedAt path device old new → MovesAt path device due item old new
  stayed_moves due item quiet stayed = record {
    listed = stayed.listed;
    moves = λ x v is on stands.
        let was : Was SparesBulk old.world x v = stayed.endpoints x v is on stands in
        record {
          before = was.before;
          on = was.on;
          stands = was.stands;
          so = quiet_moves path (Told due item) Before After was.before v quiet
              (spares_stays Before After x was.before v stayed.pipes was.so);
        };
  }

  -- what moves nothing through its endpoints, and leaves the pipes
  still_moves : (due : Option Ask) (item : Item) → IsQuiet path (Told due item)
      → accepted_device_at path old.entries ≡ Some device → After ≡ Before
      → ((x : Location) (v : State) → reach_on new.world.roots x ≡ true
      → state_on new.world.roots x ≡ Some v → Was (λ y s u. StillEnds s u) old.world x v)
      → MovesAt path device due item old new
  still_moves due item quiet there left ends = record {
    listed = there;
    moves = λ x v is on stands.
        let was : Was (λ y s u. StillEnds s u) old.world x v = ends x v on stands in
        record {
          before = was.before;
          on = was.on;
          stands = was.stands;
          so = quiet_moves path (Told due item) Before After was.before v quiet
              (still_stays Before After was.before v left was.so);
        };
  }

  -- news
  news_stays : (reported : List (List ℕ × ℕ)) → new ≡ record old { reported = reported }
      → StayedAt path device old new
  news_stays reported only = record {
    listed = ap (λ (h : HostState). accepted_device_at path h.entries) (sym only) ∙ at;
    pipes = record {
      same = ap (λ (h : HostState). function_of (pipes_at path (table_in h))) only;
    };
    endpoints = λ x s is on stands.
        let same : new.world ≡ old.world = ap (λ (h : HostState). h.world) only in
        record {
          before = s;
          on = ap (λ (w : World). reach_on w.roots x) (sym same) ∙ on;
          stands = ap (λ (w : World). state_on w.roots x) (sym same) ∙ stands;
          so = spares-same x s s refl;
        };
  }

  listed_before : (to : List ℕ) → GoesThrough to (table_in old) (table_in new)
      → accepted_device_at path old.entries ≡ Some device
  listed_before to through = ap (λ (es : Entries). accepted_device_at path es) (sym through.entries)
      ∙ at

  -- a transfer to another path
  apart : (to : List ℕ) (due : Option Ask) (item : Item) (So : State → State → Type 0)
      → ties (path_cmp to) path ≡ false → IsQuiet path (Told due item)
      → GoesThrough to (table_in old) (table_in new)
      → EachWas (ChangesAt to So) old.world new.world → MovesAt path device due item old new
  apart to due item So away quiet through each = record {
    listed = listed_before to through;
    moves = λ x v is on stands.
        let was : Was (ChangesAt to So) old.world x v = each x v on stands in
        let far : to ≢ path_to x = λ there. not_to to path away (there ∙ sym is) in
        record {
          before = was.before;
          on = was.on;
          stands = was.stands;
          so = quiet_moves path (Told due item) Before After was.before v quiet
              (still_stays Before After was.before v (through.others path away)
              (ends_same was.before v (was.so.others far)));
        };
  }

  -- to the path itself
  here : (due : Option Ask) (item : Item) (So : State → State → Type 0)
      → GoesThrough path (table_in old) (table_in new)
      → EachWas (ChangesAt path So) old.world new.world
      → ((x : Location) (s v : State) → path ≡ path_to x → reach_on old.world.roots x ≡ true
      → reach_on new.world.roots x ≡ true → state_on new.world.roots x ≡ Some v
      → state_on old.world.roots x ≡ Some s → So s v
      → DeviceMoves path (Told due item) Before After s v)
      → MovesAt path device due item old new
  here due item So through each so = record {
    listed = listed_before path through;
    moves = λ x v is on stands.
        let was : Was (ChangesAt path So) old.world x v = each x v on stands in
        record {
          before = was.before;
          on = was.on;
          stands = was.stands;
          so = so x was.before v is was.on on stands was.stands (was.so.itself is);
        };
  }

  -- by whether a transfer is to the path or to another
  by_path : (So : List ℕ → Type 0) (due : List ℕ → Option Ask) (item : List ℕ → Item)
      (to : List ℕ) → (So path → MovesAt path device (due path) (item path) old new)
      → (ties (path_cmp to) path ≡ false → So to → MovesAt path device (due to) (item to) old new)
      → So to → MovesAt path device (due to) (item to) old new
  by_path So due item to here there is = by_tie (ties (path_cmp to) path) refl
    where
      by_tie : (tied : Bool) → ties (path_cmp to) path ≡ tied
          → MovesAt path device (due to) (item to) old new
      by_tie true tie = subst (λ p. So p → MovesAt path device (due p) (item p) old new)
          (sym (path_tied to path tie)) here is
      by_tie false away = there away is

  -- Transfers to another path, and what is none

  plain_none : (due : Option Ask) (item : Item)
      → ((bytes : List ℕ) → due ≡ Some (Send path bytes) → ⊥)
      → ((packets : ℕ) → due ≡ Some (Receive path packets) → ⊥)
      → (d : Bool) → FailsPlain d path (Told due item)
  plain_none due item sends receives d = no_plain d path (Told due item) sends receives

  -- no transfer through an endpoint besides endpoint 0
  quiet_item : (due : Option Ask) (item : Item)
      → ((end : Endpoint) → bytes_for end due ≡ []) → ((end : Endpoint) → ArePackets end item [])
      → ((bytes : List ℕ) → due ≡ Some (Send path bytes) → ⊥)
      → ((packets : ℕ) → due ≡ Some (Receive path packets) → ⊥) → IsQuiet path (Told due item)
  quiet_item due item asks tells sends receives = record {
    asks = λ e pipes. asks (endpoint_at path false e pipes);
    tells = λ e pipes. tells (endpoint_at path true e pipes);
    plain = plain_none due item sends receives;
  }

  -- a send to another path
  quiet_send : (choice : EndpointChoice) (to bytes : List ℕ)
      (told : Result (Unit {0}) TransferFault) → ties (path_cmp to) path ≡ false
      → IsQuiet path (Told (Some (send_ask choice to bytes)) (sent_made choice to bytes told))
  quiet_send choice to bytes told away = record {
    asks = λ e pipes.
        let end : Endpoint = endpoint_at path false e pipes in
        sends_for choice end to bytes
        ∙ ap (λ b. if b then bytes else []) (away_of end to choice away);
    tells = λ e pipes. refl;
    plain = plain_none (Some (send_ask choice to bytes)) (sent_made choice to bytes told)
        (sends_apart choice) (sends_none choice);
  }
    where
      sends_apart : (c : EndpointChoice) (more : List ℕ)
          → Some (send_ask c to bytes) ≡ Some (Send path more) → ⊥
      sends_apart FirstBulk more asked =
          let same : to ≡ path = cc asked in not_to to path away same
      sends_apart (At a) more asked = cc asked

      sends_none : (c : EndpointChoice) (packets : ℕ)
          → Some (send_ask c to bytes) ≡ Some (Receive path packets) → ⊥
      sends_none FirstBulk packets asked = cc asked
      sends_none (At a) packets asked = cc asked

  -- what was received from another path
  quiet_receive : (due : Option Ask) (item : Item) (from : List ℕ) (choice : EndpointChoice)
      → ties (path_cmp from) path ≡ false → ((end : Endpoint) → bytes_for end due ≡ [])
      → ((end : Endpoint) → is_of end from choice ≡ false → ArePackets end item [])
      → ((bytes : List ℕ) → due ≡ Some (Send path bytes) → ⊥)
      → ((packets : ℕ) → due ≡ Some (Receive path packets) → ⊥) → IsQuiet path (Told due item)
  quiet_receive due item from choice away asks tells sends receives = record {
    asks = λ e pipes. asks (endpoint_at path false e pipes);
    tells = λ e pipes. tells (endpoint_at path true e pipes)
        (away_of (endpoint_at path true e pipes) from choice away);
    plain = plain_none due item sends receives;
  }

  -- what the table answered is what is told
  table_ended : {A : Type 0} {to : List ℕ}
      {Moves : Pipes → World → Result A TableFault → Pipes → World → Type 0}
      {result : Result A HostFault} (hands : MovesThrough to Moves old result new)
      (told : Result A TransferFault) → transfer_ended result ≡ Ok told
      → transfer_ended (host_told hands.answer) ≡ Ok told
  table_ended hands told ends = sym (ap transfer_ended hands.told) ∙ ends

  module _ (knows : Knows old) (still : old.world.fault ≡ None) (running : old.stopped ≡ false)
    where
      -- the pipes are to the device
      pipes_to : GoesThrough path (table_in old) (table_in new)
          → ArePipesTo device (is_below_hub path) Before
      pipes_to through = subst (λ f. ArePipesIf f (is_below_hub path) Before)
          (listed_before path through) through.fits

      -- no address was held twice
      single : {to : List ℕ} → KeepsMoved to (table_in old) old.world (table_in new) new.world
          → new.world.shared ≡ false
      single keeps = (keeps.worlds.addresses.kept (claims old.entries) knows.sound.owned).single

      -- a device has the settings that it had
      settings_kept : {to : List ℕ}
          → KeepsMoved to (table_in old) old.world (table_in new) new.world
          → (x : Location) (s v : State) → reach_on new.world.roots x ≡ true
          → state_on new.world.roots x ≡ Some v → state_on old.world.roots x ≡ Some s
          → SameSettings x s v
      settings_kept keeps x s v on stands stood =
          let was : Was SameSettings old.world x v =
          keeps.worlds.devices.same (single keeps) x v on stands in
          subst (λ (d : State). SameSettings x d v)
          (one_stands old.world x s was.before stood was.stands) was.so

      -- A send

      -- one that names no endpoint fails where there is none
      send_fails : (choice : EndpointChoice) (bytes : List ℕ)
          (told : Result (Unit {0}) TransferFault)
          → Transfers (SendTells path choice bytes) old told new
          → (d : Bool) → first_of d Before ≡ None
          → FailsPlain d path (Told (Some (send_ask choice path bytes))
          (sent_made choice path bytes told))
      send_fails FirstBulk bytes told is true none = λ packets asked. absurd (cc asked)
      send_fails FirstBulk bytes told is false none = λ more asked.
          let hands = is.call.did running in
          sym (done_told hands.answer told (table_ended hands told is.tells)
          ∙ count_done (length bytes) told)
          ∙ first_fails false (sends_miss FirstBulk) (λ p. SentThrough p bytes) Before old.world
          hands.answer After
          new.world hands.moves none
      send_fails (At a) bytes told is d none = plain_none (Some (SendTo path a bytes))
          (sent_made (At a) path bytes told) (λ more asked. cc asked) (λ packets asked. cc asked) d

      sent_here : (choice : EndpointChoice) (bytes : List ℕ)
          (told : Result (Unit {0}) TransferFault)
          → Transfers (SendTells path choice bytes) old told new
          → MovesAt path device (Some (send_ask choice path bytes))
          (sent_made choice path bytes told) old new
      sent_here choice bytes told is =
          let hands = is.call.did running in
          let due : Option Ask = Some (send_ask choice path bytes) in
          let made : Item = sent_made choice path bytes told in
          let done : is_ok told ≡ is_done made = count_done (length bytes) told in
          let ends = table_ended hands told is.tells in
          let listed : accepted_device_at path old.entries ≡ Some device =
          listed_before path hands.through in
          here due made
          (TookBytes (through (sends_through choice) Before) (is_ok told) bytes) hands.through
          (told_sent path old new knows.sound still running choice bytes told is).took.each
          (λ x s v is_path was_on on stands stood took.
          let reached : reach old.world.roots path ≡ true = ap (reach old.world.roots) is_path
          ∙ was_on in
          let there : state_there old.world.roots path ≡ Some s =
          ap (state_there old.world.roots) is_path ∙ stood in
          let has : address_of s ≡ device.address =
          held_address (table_in old) old.world path device s (knows.sound.owned.so still) listed
          reached there in
          let level : PipesInSync device Before s =
          (knows.sound.level still path).level device s listed
          reached there in
          sends_move device (is_below_hub path) path (Told due made) choice bytes
          (λ end. sends_for choice end path bytes) (λ end. refl)
          old.world new.world x s v on stands stood has (single hands.keeps) hands.answer
          (no_bus_fault hands.answer told ends) (done_told hands.answer told ends ∙ done) After
          Before hands.moves (pipes_to hands.through) level
          (subst (λ d. TookBytes (through (sends_through choice) Before) d bytes s v) done took)
          (send_fails choice bytes told is))

      -- What an IN endpoint gives

      receive_fails : (choice : EndpointChoice) (packets : ℕ)
          (told : Result (Vec ℕ) TransferFault)
          → Transfers (ReceiveTells path choice packets) old told new
          → (d : Bool) → first_of d Before ≡ None
          → FailsPlain d path (Told (Some (receive_ask choice path packets))
          (received_made choice path told))
      receive_fails FirstBulk packets told is false none = λ bytes asked. absurd (cc asked)
      receive_fails FirstBulk packets told is true none = λ more asked.
          let hands = is.call.did running in
          sym (done_told hands.answer told (table_ended hands told is.tells))
          ∙ first_fails true (receives_miss FirstBulk) (λ p. ReceivedThrough p packets) Before
          old.world hands.answer After
          new.world hands.moves none
      receive_fails (At a) packets told is d none = plain_none (Some (ReceiveFrom path a packets))
          (received_made (At a) path told) (λ bytes asked. cc asked) (λ more asked. cc asked) d

      received_here : (choice : EndpointChoice) (packets : ℕ)
          (told : Result (Vec ℕ) TransferFault)
          → Transfers (ReceiveTells path choice packets) old told new
          → MovesAt path device (Some (receive_ask choice path packets))
          (received_made choice path told) old new
      received_here choice packets told is =
          let hands = is.call.did running in
          let due : Option Ask = Some (receive_ask choice path packets) in
          let made : Item = received_made choice path told in
          here due made
          (GaveBy (bytes_in told) (through (receives_through choice) Before)
          (through (receives_through choice) After)) hands.through
          (told_received path old new knows.sound still running choice packets told is).gave.each
          (λ x s v is_path was_on on stands stood gave.
          gives_move device (is_below_hub path) path (Told due made) choice
          (receives_through choice) (receives_miss choice) (λ p. ReceivedThrough p packets)
          (λ came. concat came ≡ bytes_in told) (λ end. receives_for choice end path packets)
          (λ end came mine joined.
          are_joined (is_of end path choice) (bytes_in told) came mine joined)
          (λ end other. none_joined (is_of end path choice) (bytes_in told) other)
          old.world new.world s v hands.answer
          (done_told hands.answer told (table_ended hands told is.tells)) After
          (λ pipe left. GaveBy (bytes_in told) pipe left s v)
          (λ left by. (sym by.0, by.1))
          (λ pipe left by. (
            (λ got f.
                let next : GaveNext pipe got (bytes_in told) left s v = by.next got f in
                record {
                  packets = next.came.packets;
                  are = sym next.came.joined;
                  behind = next.behind;
                  come = next.came.come;
                  level = next.level;
                }),
            by.rest,
          ))
          (λ pipe left did. did.same)
          (λ function are pipe found. receives_pick device (is_below_hub path) function are choice
          pipe found)
          Before hands.moves (pipes_to hands.through) gave (receive_fails choice packets told is))

      polled_here : (a : ℕ) (told : Result (Option (ArrayVec ℕ)) TransferFault)
          → Transfers (ReportTells path a) old told new
          → MovesAt path device (Some (Poll path a)) (polled_made path a told) old new
      polled_here a told is =
          let hands = is.call.did running in
          let ends = table_ended hands told is.tells in
          let due : Option Ask = Some (Poll path a) in
          let made : Item = polled_made path a told in
          here due made
          (ReportedBy (table_told told) (through (polls_through a) Before)
          (through (polls_through a) After)) hands.through
          (told_reported path old new knows.sound still running a told is).gave.each
          (λ x s v is_path was_on on stands stood gave.
          gives_move device (is_below_hub path) path (Told due made) (At a) (polls_through a)
          (polls_miss a) ReportedThrough (λ came. came ≡ report_in told) (λ end. refl)
          (λ end came mine is_it. is_it
          ∙ sym (ap (λ b. if b then report_in told else []) mine))
          (λ end other. sym (ap (λ b. if b then report_in told else []) other))
          old.world new.world s v hands.answer (done_told hands.answer told ends) After
          (λ pipe left. ReportedBy (table_told told) pipe left s v)
          (λ left by. (sym by.0 ∙ report_told told, by.1))
          (λ pipe left by. (
            (λ got f.
                let next : GavePackets pipe got (report_in (table_told told)) left s v =
                by.next got f in
                record {
                  packets = report_in (table_told told);
                  are = report_told told;
                  behind = next.behind;
                  come = next.come;
                  level = next.level;
                }),
            by.rest,
          ))
          (λ pipe left did. did.same)
          (λ function are pipe found. polls_pick device (is_below_hub path) function are a pipe
          found)
          Before hands.moves (pipes_to hands.through) gave
          (λ d none. plain_none due made (λ bytes asked. cc asked) (λ packets asked. cc asked) d))

      -- Clears

      cleared_here : (told : Result (Unit {0}) TransferFault)
          → Transfers (ClearTells path) old told new
          → MovesAt path device (Some (Clear path)) (cleared_made path told) old new
      cleared_here told is =
          let hands = is.call.did running in
          let due : Option Ask = Some (Clear path) in
          let made : Item = cleared_made path told in
          let known : Option Accepted = accepted_device_at path old.entries in
          here due made (HaltsCleared (is_ok told) known Before After) hands.through
          (told_cleared path old new knows.sound still running told is).each
          (λ x s v is_path was_on on stands stood cleared.
          let same = settings_kept hands.keeps x s v on stands stood in
          cleared_move device (is_below_hub path) path (Told due made) refl (is_ok told) known s v
          Before After old.world new.world hands.answer hands.moves (pipes_to hands.through)
          refl cleared
          same (λ end. refl) (λ end. refl)
          (plain_none due made (λ bytes asked. cc asked) (λ packets asked. cc asked)))

      cleared_of_here : (a : ℕ) (told : Result (Unit {0}) TransferFault)
          → Transfers (ClearOfTells path a) old told new
          → MovesAt path device (Some (ClearOf path a)) (cleared_of_made path a told) old new
      cleared_of_here a told is =
          let hands = is.call.did running in
          let due : Option Ask = Some (ClearOf path a) in
          let made : Item = cleared_of_made path a told in
          let known : Option Accepted = accepted_device_at path old.entries in
          here due made (HaltClearedOf a (is_ok told) known Before After) hands.through
          (told_cleared_of path old new knows.sound still running a told is).each
          (λ x s v is_path was_on on stands stood cleared.
          let same = settings_kept hands.keeps x s v on stands stood in
          cleared_of_move device (is_below_hub path) path (Told due made) a refl (is_ok told) known
          s v Before After old.world new.world hands.answer hands.moves
          (pipes_to hands.through) cleared
          same (λ end. refl) (λ end. refl)
          (plain_none due made (λ bytes asked. cc asked) (λ packets asked. cc asked)))

      -- a read, of which device it may be
      read_stays : (from : List ℕ) (request : Setup) → IsToHost request
          → (told : Result (Vec ℕ) TransferFault)
          → Transfers (ReadTells from request) old told new → StayedAt path device old new
      read_stays from request host told is =
          let reads = is.call.did running in
          record {
            listed = ap (λ es. accepted_device_at path es) (sym is.call.stopped.kept) ∙ at;
            pipes = record { same = ap (λ t. function_of (pipes_at path t)) reads.same };
            endpoints = λ x s is_path on stands.
                endpoints x s on stands (control_target from old.entries) reads.answer reads.did;
          }
        where
          endpoints : (x : Location) (s : State) → reach_on new.world.roots x ≡ true
              → state_on new.world.roots x ≡ Some s → (asked : Result Target TransferFault)
              (answer : Result (Vec ℕ) TableFault) → TransferIf (ReadMade request)
              (ReadLeft request) from (table_in old) asked old.world answer new.world
              → Was SparesBulk old.world x s
          endpoints x s on stands (Err fault) answer refused = record {
            before = s;
            on = ap (λ (w : World). reach_on w.roots x) (sym refused.1) ∙ on;
            stands = ap (λ (w : World). state_on w.roots x) (sym refused.1) ∙ stands;
            so = spares-same x s s refl;
          }
          endpoints x s on stands (Ok target) answer made =
              let keeps = (is.call.did running).keeps in
              let was = made.left (knows.sound.owned.so still) (single keeps) x s on stands in
              let same = settings_kept keeps x was.before s on stands was.stands in
              record {
                before = was.before;
                on = was.on;
                stands = was.stands;
                so = elim (cases_path from (path_to x)) [
                  | inl there ↦ read_spares target request host made.answer old.world new.world x
                      was.before s same (was.so.itself there)
                  | inr far ↦ spares-same x was.before s (was.so.others far)
                ];
              }

      -- and a write
      written_moves : (to : List ℕ) (write : Write) → IsWrite write
          → (told : Result (Unit {0}) TransferFault)
          → Transfers (WriteTells to write.setup write.bytes) old told new
          → MovesAt path device (Some (ControlOut to write))
          (written_made to write told) old new
      written_moves to write fits told is =
          let writes = is.call.did running in
          still_moves (Some (ControlOut to write))
          (written_made to write told)
          (quiet_item (Some (ControlOut to write))
          (written_made to write told) (λ end. refl) (λ end. refl)
          (λ bytes asked. cc asked) (λ packets asked. cc asked))
          (ap (λ es. accepted_device_at path es) (sym is.call.stopped.kept) ∙ at)
          (ap (λ t. pipes_at path t) writes.same)
          (λ x v on stands. ends x v on stands (write_target to write.setup old.entries) refl
          writes.answer writes.did)
        where
          ends : (x : Location) (v : State) → reach_on new.world.roots x ≡ true
              → state_on new.world.roots x ≡ Some v → (asked : Result Target TransferFault)
              → write_target to write.setup old.entries ≡ asked
              → (answer : Result (Unit {0}) TableFault)
              → TransferIf (WriteMade write.setup write.bytes) (WriteLeft write.setup write.bytes)
              to (table_in old) asked old.world answer new.world
              → Was (λ y s u. StillEnds s u) old.world x v
          ends x v on stands (Err fault) asks answer refused = record {
            before = v;
            on = ap (λ (w : World). reach_on w.roots x) (sym refused.1) ∙ on;
            stands = ap (λ (w : World). state_on w.roots x) (sym refused.1) ∙ stands;
            so = ends_same v v refl;
          }
          ends x v on stands (Ok target) asks answer done =
              let keeps = (is.call.did running).keeps in
              let was = done.left (knows.sound.owned.so still) (single keeps) x v on stands in
              let same = settings_kept keeps x was.before v on stands was.stands in
              record {
                before = was.before;
                on = was.on;
                stands = was.stands;
                so = elim (cases_path to (path_to x)) [
                  | inl there ↦ write_still to write.setup write.bytes fits.0 (table_in old) target
                      asks done.answer old.world new.world x was.before v same
                      (was.so.itself there)
                  | inr far ↦ ends_same was.before v (was.so.others far)
                ];
              }

      -- Items

      sent_item : (choice : EndpointChoice) (to bytes : List ℕ)
          (told : Result (Unit {0}) TransferFault)
          → Transfers (SendTells to choice bytes) old told new
          → MovesAt path device (Some (send_ask choice to bytes))
          (sent_made choice to bytes told) old new
      sent_item choice to bytes told is =
          by_path (λ p. Transfers (SendTells p choice bytes) old told new)
          (λ p. Some (send_ask choice p bytes)) (λ p. sent_made choice p bytes told) to
          (sent_here choice bytes told)
          (λ away came. apart to (Some (send_ask choice to bytes))
          (sent_made choice to bytes told)
          (TookBytes (through (sends_through choice) (pipes_at to (table_in old))) (is_ok told)
          bytes) away (quiet_send choice to bytes told away) (came.call.did running).through
          (told_sent to old new knows.sound still running choice bytes told came).took.each) is

      received_item : (choice : EndpointChoice) (from : List ℕ) (packets : ℕ)
          (told : Result (Vec ℕ) TransferFault)
          → Transfers (ReceiveTells from choice packets) old told new
          → MovesAt path device (Some (receive_ask choice from packets))
          (received_made choice from told) old new
      received_item choice from packets told is =
          by_path (λ p. Transfers (ReceiveTells p choice packets) old told new)
          (λ p. Some (receive_ask choice p packets)) (λ p. received_made choice p told) from
          (received_here choice packets told)
          (λ away came. apart from (Some (receive_ask choice from packets))
          (received_made choice from told)
          (GaveBy (bytes_in told) (through (receives_through choice) (pipes_at from (table_in old)))
          (through (receives_through choice) (pipes_at from (table_in new)))) away
          (quiet_receive (Some (receive_ask choice from packets)) (received_made choice from told)
          from choice away (λ end. receives_for choice end from packets)
          (λ end other. none_joined (is_of end from choice) (bytes_in told) other)
          (receives_none choice) (receives_apart choice away)) (came.call.did running).through
          (told_received from old new knows.sound still running choice packets told
          came).gave.each) is
        where
          receives_none : (c : EndpointChoice) (bytes : List ℕ)
              → Some (receive_ask c from packets) ≡ Some (Send path bytes) → ⊥
          receives_none FirstBulk bytes asked = cc asked
          receives_none (At a) bytes asked = cc asked

          receives_apart : (c : EndpointChoice) → ties (path_cmp from) path ≡ false → (more : ℕ)
              → Some (receive_ask c from packets) ≡ Some (Receive path more) → ⊥
          receives_apart FirstBulk away more asked =
              let same : from ≡ path = cc asked in not_to from path away same
          receives_apart (At a) away more asked = cc asked

      polled_item : (from : List ℕ) (a : ℕ) (told : Result (Option (ArrayVec ℕ)) TransferFault)
          → Transfers (ReportTells from a) old told new
          → MovesAt path device (Some (Poll from a)) (polled_made from a told) old new
      polled_item from a told is =
          by_path (λ p. Transfers (ReportTells p a) old told new) (λ p. Some (Poll p a))
          (λ p. polled_made p a told) from (polled_here a told)
          (λ away came. apart from (Some (Poll from a)) (polled_made from a told)
          (ReportedBy (table_told told) (through (polls_through a) (pipes_at from (table_in old)))
          (through (polls_through a) (pipes_at from (table_in new)))) away
          (quiet_receive (Some (Poll from a)) (polled_made from a told) from (At a) away
          (λ end. refl) (λ end other. sym (ap (λ b. if b then report_in told else []) other))
          (λ bytes asked. cc asked) (λ more asked. cc asked)) (came.call.did running).through
          (told_reported from old new knows.sound still running a told came).gave.each) is

      cleared_item : (to : List ℕ) (told : Result (Unit {0}) TransferFault)
          → Transfers (ClearTells to) old told new
          → MovesAt path device (Some (Clear to)) (cleared_made to told) old new
      cleared_item to told is =
          by_path (λ p. Transfers (ClearTells p) old told new) (λ p. Some (Clear p))
          (λ p. cleared_made p told) to (cleared_here told)
          (λ away came. apart to (Some (Clear to)) (cleared_made to told)
          (HaltsCleared (is_ok told) (accepted_device_at to old.entries)
          (pipes_at to (table_in old)) (pipes_at to (table_in new))) away
          (quiet_item (Some (Clear to)) (cleared_made to told) (λ end. refl) (λ end. refl)
          (λ bytes asked. cc asked) (λ more asked. cc asked)) (came.call.did running).through
          (told_cleared to old new knows.sound still running told came).each) is

      cleared_of_item : (to : List ℕ) (a : ℕ) (told : Result (Unit {0}) TransferFault)
          → Transfers (ClearOfTells to a) old told new
          → MovesAt path device (Some (ClearOf to a)) (cleared_of_made to a told) old new
      cleared_of_item to a told is =
          by_path (λ p. Transfers (ClearOfTells p a) old told new) (λ p. Some (ClearOf p a))
          (λ p. cleared_of_made p a told) to (cleared_of_here a told)
          (λ away came. apart to (Some (ClearOf to a)) (cleared_of_made to a told)
          (HaltClearedOf a (is_ok told) (accepted_device_at to old.entries)
          (pipes_at to (table_in old)) (pipes_at to (table_in new))) away
          (quiet_item (Some (ClearOf to a)) (cleared_of_made to a told) (λ end. refl) (λ end. refl)
          (λ bytes asked. cc asked) (λ more asked. cc asked)) (came.call.did running).through
          (told_cleared_of to old new knows.sound still running a told came).each) is

      -- An interface's setting

      quiet_setting : (to : List ℕ) (i a : ℕ) (told : Result (Unit {0}) TransferFault)
          → IsQuiet path (Told (Some (SetInterface to i a)) (set_made to i a told))
      quiet_setting to i a told =
          quiet_item (Some (SetInterface to i a)) (set_made to i a told) (λ end. refl)
          (λ end. refl) (λ bytes asked. cc asked) (λ packets asked. cc asked)

      -- in the same world each device is as it was
      same_ends : new.world ≡ old.world → (x : Location) (v : State)
          → reach_on new.world.roots x ≡ true → state_on new.world.roots x ≡ Some v
          → Was (λ y s u. StillEnds s u) old.world x v
      same_ends same x v on stands = record {
        before = v;
        on = ap (λ (w : World). reach_on w.roots x) (sym same) ∙ on;
        stands = ap (λ (w : World). state_on w.roots x) (sym same) ∙ stands;
        so = ends_same v v refl;
      }

      set_here : (i a : ℕ) (told : Result (Unit {0}) TransferFault)
          → GoesThrough path (table_in old) (table_in new) → (asked : Result Target TransferFault)
          → InterfaceIfAsked path i a asked old told new
          → MovesAt path device (Some (SetInterface path i a)) (set_made path i a told) old
          new
      set_here i a told through (Ok target) did =
          let due : Option Ask = Some (SetInterface path i a) in
          let made : Item = set_made path i a told in
          here due made (SettingLeft i a did.set.answer) through did.each
          (λ x s v is_path was_on on stands stood left.
          setting_moves path (Told due made) i a refl (accepted_device_at path old.entries)
          (is_below_hub path) did.set.answer Before After s v did.set.pipes left (λ end. refl)
          (plain_none due made (λ bytes asked. cc asked) (λ packets asked. cc asked)))
      set_here i a told through (Err fault) refused =
          still_moves (Some (SetInterface path i a)) (set_made path i a told)
          (quiet_setting path i a told) (listed_before path through) refused.1
          (same_ends refused.2)

      set_apart : (to : List ℕ) (i a : ℕ) (told : Result (Unit {0}) TransferFault)
          → ties (path_cmp to) path ≡ false → GoesThrough to (table_in old) (table_in new)
          → (asked : Result Target TransferFault) → InterfaceIfAsked to i a asked old told new
          → MovesAt path device (Some (SetInterface to i a)) (set_made to i a told) old new
      set_apart to i a told away through (Ok target) did =
          apart to (Some (SetInterface to i a)) (set_made to i a told)
          (SettingLeft i a did.set.answer) away (quiet_setting to i a told) through did.each
      set_apart to i a told away through (Err fault) refused =
          still_moves (Some (SetInterface to i a)) (set_made to i a told)
          (quiet_setting to i a told) (listed_before to through) (through.others path away)
          (same_ends refused.2)

      set_item : (to : List ℕ) (i a : ℕ) (told : Result (Unit {0}) TransferFault)
          → Transfers (InterfaceTells to i a) old told new
          → MovesAt path device (Some (SetInterface to i a)) (set_made to i a told) old new
      set_item to i a told is =
          by_path (λ p. Transfers (InterfaceTells p i a) old told new)
          (λ p. Some (SetInterface p i a)) (λ p. set_made p i a told) to
          (λ came. set_here i a told (came.call.did running).through
          (interface_target path i a old.entries)
          (told_interface path old new knows.sound still running i a told came))
          (λ away came. set_apart to i a told away (came.call.did running).through
          (interface_target to i a old.entries)
          (told_interface to old new knows.sound still running i a told came)) is

      pub item_moves : (due : Option Ask) (made : Item) → IsItemOf due (Some made) old new
          → new.world.fault ≡ None → MovesAt path device due made old new
          ⊎ LookFinds path device due old new
      item_moves due made is works = moves_as (answered due (Some made) old new is)
        where
          told_as : (asked : Option Ask) (told : Item) → due ≡ asked → Some made ≡ Some told
              → MovesAt path device asked told old new → MovesAt path device due made old new
          told_as asked told asks e so =
              let same : made ≡ told = cc e in
              subst (λ d. MovesAt path device d made old new) (sym asks)
              (subst (λ (i : Item). MovesAt path device asked i old new) (sym same) so)

          moved : (ask : Ask) (x : Item) → Some made ≡ Some x
              → MovesAt path device (Some ask) x old new
              → MovesAt path device (Some ask) made old new ⊎ LookFinds path device (Some ask) old
              new
          moved ask x of moves = inl (subst (λ (i : Item). MovesAt path device (Some ask) i old new)
              (sym (same_item of)) moves)

          call_moves : (ask : Ask) (told : Result (CallGives ask) TransferFault) → Fits ask
              → IsOfCall ask told (Some made) → Transfers (CallTells ask) old told new
              → MovesAt path device (Some ask) made old new ⊎ LookFinds path device (Some ask) old
              new
          call_moves (Show said) told fits of came = absurd of
          call_moves AskNews told fits of came = absurd of
          call_moves (Send to bytes) told fits of came =
              moved (Send to bytes) _ of (sent_item FirstBulk to bytes told came)
          call_moves (Receive from packets) told fits of came =
              moved (Receive from packets) _ of (received_item FirstBulk from packets told came)
          call_moves (Clear to) told fits of came =
              moved (Clear to) _ of (cleared_item to told came)
          call_moves (SendTo to a bytes) told fits of came =
              moved (SendTo to a bytes) _ of (sent_item (At a) to bytes told came)
          call_moves (ReceiveFrom from a packets) told fits of came =
              moved (ReceiveFrom from a packets) _ of
              (received_item (At a) from packets told came)
          call_moves (Poll from a) told fits of came =
              moved (Poll from a) _ of (polled_item from a told came)
          call_moves (ClearOf to a) told fits of came =
              moved (ClearOf to a) _ of (cleared_of_item to a told came)
          call_moves (SetInterface to i a) told fits of came =
              moved (SetInterface to i a) _ of (set_item to i a told came)
          call_moves (ControlIn from request) told fits of came =
              moved (ControlIn from request) _ of
              (stayed_moves (Some (ControlIn from request)) (read_made from told)
              (quiet_item (Some (ControlIn from request)) (read_made from told) (λ end. refl)
              (λ end. refl) (λ bytes asked. cc asked) (λ more asked. cc asked))
              (read_stays from request fits told came))
          call_moves (ControlOut to write) told fits of came =
              moved (ControlOut to write) _ of (written_moves to write fits told came)
          call_moves (LookAt to) told fits of came = elim (((came.call.keeps.sound
              (answered_goes came.answer told came.tells)).bulk knows.sound works).each path device
              at) [
                | inl stayed ↦ moved (LookAt to) _ of
                    (stayed_moves (Some (LookAt to)) (looked_made to told)
                    (quiet_item (Some (LookAt to)) (looked_made to told) (λ end. refl) (λ end. refl)
                    (λ bytes asked. cc asked) (λ more asked. cc asked)) stayed)
                | inr renewed ↦ inr (record { to = to; asks = refl; renewed = renewed })
              ]

          moves_as : AskAnswered due (Some made) old new → MovesAt path device due made old new
              ⊎ LookFinds path device due old new
          moves_as (silent none same) = absurd (cc none)
          moves_as (listed said asks e same) =
              let listing : Item = listing_of said new in
              inl (told_as (Some (Show said)) listing asks e (shown said listing
              (quiet_item (Some (Show said)) listing (λ end. refl) (λ end. refl)
              (λ bytes asked. cc asked) (λ more asked. cc asked)) same))
          moves_as (called ask told asks fits of came) = elim (call_moves ask told fits of came) [
            | inl moves ↦ inl (subst (λ d. MovesAt path device d made old new) (sym asks) moves)
            | inr finds ↦ inr (record {
              to = finds.to;
              asks = asks ∙ finds.asks;
              renewed = finds.renewed;
            })
          ]
          moves_as (news told asks e all) =
              let only = all_reported old new told.items all in
              inl (told_as (Some AskNews) (ToldNews told) asks e
              (stayed_moves (Some AskNews) (ToldNews told)
              (quiet_item (Some AskNews) (ToldNews told) (λ end. refl) (λ end. refl)
              (λ bytes asked. cc asked) (λ more asked. cc asked)) (news_stays only.0 only.1)))
