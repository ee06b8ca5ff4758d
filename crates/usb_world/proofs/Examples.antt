-- Runs by hand, and why the laws of requests have their premises.
use Rattle.std.proofs.Common.{◌≡◌, ℕ, Bool, true, false, List, [], ◌∷◌, None, Some, ◌==◌, refl, ap}
use Rattle.usb_packet.specs.{OutTok, InTok, SetupTok, Zero, One as Data1}
use Rattle.usb_port.specs.{Attached, PortState, SetPower, SetReset, full, low, nothing, off}
use Rattle.usb_port.specs.{status_of}
use Rattle.usb_request.specs.{setup_of}
use Rattle.usb_device.specs.{RememberedPacket, Spec, function, usual_hub, ended, vacant, taken}
use Rattle.usb_device.specs.{changed_at, reach_at, state_at, place_at, reach, row_of, all_off}
use Rattle.usb_device.specs.{received, unread, fresh, accepted, reset_state, at_reset}
use Rattle.usb_device.specs.{awaits_address}
use Rattle.usb_device.specs.{outcome, asks, answer_of, effect_of, after_packet, answers}
use Rattle.usb_device.specs.{all_forgotten}
use Rattle.usb_device.specs.{held_addresses, repeats, has_loss, clears_change, change_bits}
use Rattle.usb_device.specs.declared.answer.Answer.TheVariants as answer
use Rattle.usb_device.specs.declared.transfer.RememberedPacket.TheVariants as memory
use Rattle.usb_world.specs.{Damage, Harm, Lose, LosePre, Flip, Plug, Attempt, damage_of, harm_to}
use Rattle.usb_world.specs.{mark_of, bit_count, marked, marked_some, is_read, token_of, payload_of}
use Rattle.usb_world.specs.{answer_place, answer_mark, reply_of, outcome_of, ports_in, lost_in}
use Rattle.usb_world.specs.{no_losses, one_more, World, after_event, after_due_events, at_attempt}
use Rattle.usb_world.specs.{with_attempt, outcome_in, attempt, root_call, event, after, address_at}
use Rattle.usb_world.specs.{resets, is_setup, HolderIn}
use Rattle.usb_world.specs.declared.event.Action.TheVariants.{Change}
use Rattle.usb_world.specs.declared.types.Outcome.TheVariants as got
use Rattle.usb_world.specs.{pending_at, pending, resets_at}
use Rattle.usb_world.proofs.Booleans.{false_true}
use Rattle.usb_world.proofs.holders.OneHolderAttempts.{setup_sound_in, ExchangedIn}

-- Devices, requests and attempts

abbrev descriptor : ℕ → ℕ → ℕ → ℕ → List ℕ
descriptor minor major class max = 0x12 ∷ 1 ∷ minor ∷ major ∷ class ∷ 0 ∷ 0 ∷ max ∷ 0x34 ∷ 0x12 ∷
    0x78 ∷ 0x56 ∷ 0 ∷ 1 ∷ 0 ∷ 0 ∷ 0 ∷ 1 ∷ []

abbrev usual : Spec
usual = function (0x66 ∷ 0x6e ∷ []) (descriptor 0 2 0 0x40) ([])

abbrev hub : Spec
hub = record (function (0x68 ∷ []) (descriptor 0 2 9 0x40) ([])) { hub = Some (usual_hub 2) }

abbrev slow : Spec
slow = record (function (0x6c ∷ []) (descriptor 0x10 1 0 8) ([])) { low = true }

abbrev get_device : List ℕ
get_device = 0x80 ∷ 6 ∷ 0 ∷ 1 ∷ 0 ∷ 0 ∷ 8 ∷ 0 ∷ []

abbrev set_address : ℕ → List ℕ
set_address n = 0 ∷ 5 ∷ n ∷ 0 ∷ 0 ∷ 0 ∷ 0 ∷ 0 ∷ []

-- PORT_RESET of a hub's port 1
abbrev set_reset : List ℕ
set_reset = 0x23 ∷ 3 ∷ 4 ∷ 0 ∷ 1 ∷ 0 ∷ 0 ∷ 0 ∷ []

abbrev asks_in : Attempt
asks_in = record {
  kind = InTok;
  addr = 0;
  ep = 0;
  low = false;
  pre = false;
  max = 64;
  payload = None;
}

abbrev sets_up : ℕ → List ℕ → Attempt
sets_up addr bytes =
    record asks_in {
      kind = SetupTok;
      addr = addr;
      payload = Some (Zero, record { items = bytes });
    }

abbrev status_out : Attempt
status_out = record asks_in { kind = OutTok; payload = Some (Data1, record { items = [] }) }

-- low-speed packets, behind PRE or not
abbrev slowly : Bool → Attempt → Attempt
slowly pre a = record a { low = true; pre = pre; max = 8 }

-- A bus with one root port

abbrev still : World
still = record {
  roots = vacant off ended;
  devices = usual ∷ [];
  left = [];
  taken = 0;
  attempts = 0;
  attempts_then = 0;
  limit = 10000;
  damages = [];
  losses = no_losses;
  shared = false;
  fault = None;
}

-- a port with power
abbrev powered : Attached → Bool → Bool → PortState
powered attached enable changed =
    record off {
      attached = attached;
      power = true;
      enable = enable;
      connection_changed = changed;
    }

-- A function is plugged, its port powered and reset; it is read, and takes address 1 after the
-- host's first ACK of the status stage was lost, or one of its bits was flipped

-- the host's ACK of the status stage is damaged
abbrev start : Harm → World
start harm =
    record still {
      left = record { after = 0; action = Change (Plug (1 ∷ []) 0) } ∷ [];
      damages = record { attempt = 5; packet = 3; harm = harm } ∷ [];
    }

abbrev plugged : Harm → World
plugged harm = after (root_call SetReset 1)
    (after event (after (root_call SetPower 1) (start harm)))

abbrev set_up : Harm → World
set_up harm = after (attempt (sets_up 0 get_device)) (plugged harm)

abbrev read : Harm → World
read harm = after (attempt status_out) (after (attempt asks_in) (set_up harm))

abbrev lost : Harm → World
lost harm = after (attempt asks_in) (after (attempt (sets_up 0 (set_address 1))) (read harm))

abbrev taken_at : Harm → World
taken_at harm = after (attempt asks_in) (lost harm)

enumerates : (pending (plugged Lose).roots (1 ∷ []) ≡ true)
    × (reach (plugged Lose).roots (1 ∷ []) ≡ true)
    × (outcome_in asks_in (set_up Lose)
    ≡ got.Payload Data1 (record { items = 0x12 ∷ 1 ∷ 0 ∷ 2 ∷ 0 ∷ 0 ∷ 0 ∷ 0x40 ∷ [] }))
    × (address_at (lost Lose).roots (1 ∷ []) ≡ Some 0) × ((lost Lose).losses.all ≡ 1)
    × ((lost Lose).attempts ≡ 5) × (address_at (taken_at Lose).roots (1 ∷ []) ≡ Some 1)
    × (address_at (lost (Flip 0)).roots (1 ∷ []) ≡ Some 0)
    × ((lost (Flip 0)).losses.all ≡ 1) × ((lost (Flip 0)).attempts ≡ 5)
    × (address_at (lost (Flip 8)).roots (1 ∷ []) ≡ Some 1) × ((lost (Flip 8)).losses.all ≡ 0)
    × (address_at (taken_at (Flip 0)).roots (1 ∷ []) ≡ Some 1)
unfolding after after_event after_due_events at_attempt with_attempt ports_in lost_in clears_change
    outcome_in marked marked_some mark_of harm_to damage_of bit_count is_read token_of payload_of
    answer_place answer_mark reply_of outcome_of one_more held_addresses repeats has_loss reach_at
    pending_at state_at changed_at received unread fresh reset_state asks answer_of effect_of
    after_packet answers all_forgotten change_bits setup_of status_of all_off outcome awaits_address
enumerates = (refl, refl, refl, refl, refl, refl, refl, refl, refl, refl, refl, refl, refl)

-- Below a hub: PORT_RESET of its port makes the low-speed device there reachable, which then hears
-- packets only behind PRE

-- the hub has address 1 and its configuration, and gives power to its port 1, where the low-speed
-- device stands
abbrev hub_start : RememberedPacket → List Damage → World
hub_start memory damages =
    record still {
      roots = taken (powered full true false)
          (record (fresh hub) {
            registers = record at_reset { address = 1; configuration = 1 };
            memory = memory;
          })
          (taken (powered low false true) (fresh slow) ended
          (vacant (powered nothing false false) ended))
          ended;
      damages = damages;
    }

abbrev hub_rests : World
hub_rests = hub_start memory.Nothing []

abbrev opened : List Damage → World
opened damages = after (attempt (sets_up 1 set_reset)) (hub_start memory.Nothing damages)

abbrev hub_set_up : World
hub_set_up = after (attempt (slowly true (sets_up 0 get_device))) (opened [])

-- SET_ADDRESS of address 2, with its status stage
abbrev addressed : List Damage → World
addressed damages = after (attempt (slowly true asks_in))
    (after (attempt (slowly true (sets_up 0 (set_address 2)))) (opened damages))

-- the PRE of the host's ACK is lost
abbrev pre_lost : List Damage
pre_lost = record { attempt = 3; packet = 3; harm = LosePre } ∷ []

hub_runs : (reach hub_rests.roots (1 ∷ 1 ∷ []) ≡ false)
    × (outcome_in (slowly true (sets_up 0 get_device)) hub_rests ≡ got.Nothing)
    × (outcome_in (sets_up 1 set_reset) hub_rests ≡ got.Ack)
    × (reach (opened []).roots (1 ∷ 1 ∷ []) ≡ true)
    × (address_at (opened []).roots (1 ∷ 1 ∷ []) ≡ Some 0)
    × (outcome_in (slowly true (sets_up 0 get_device)) (opened []) ≡ got.Ack)
    × (outcome_in (slowly false (sets_up 0 get_device)) (opened []) ≡ got.Nothing)
    × (outcome_in (slowly true asks_in) hub_set_up
    ≡ got.Payload Data1 (record { items = 0x12 ∷ 1 ∷ 0x10 ∷ 1 ∷ 0 ∷ 0 ∷ 0 ∷ 8 ∷ [] }))
    × (outcome_in (slowly false asks_in) hub_set_up ≡ got.Nothing)
    × (address_at (addressed []).roots (1 ∷ 1 ∷ []) ≡ Some 2) × ((addressed []).losses.all ≡ 0)
    × (address_at (addressed pre_lost).roots (1 ∷ 1 ∷ []) ≡ Some 0)
    × ((addressed pre_lost).losses.all ≡ 1)
    × (address_at (addressed pre_lost).roots (1 ∷ []) ≡ Some 1)
unfolding after after_event after_due_events at_attempt with_attempt ports_in lost_in clears_change
    outcome_in marked marked_some mark_of harm_to damage_of bit_count is_read token_of payload_of
    answer_place answer_mark reply_of outcome_of one_more held_addresses repeats has_loss reach_at
    state_at changed_at received unread fresh reset_state asks answer_of effect_of after_packet
    answers all_forgotten change_bits setup_of status_of all_off outcome awaits_address
hub_runs = (refl, refl, refl, refl, refl, refl, refl, refl, refl, refl, refl, refl, refl, refl)

-- A hub that saw a SETUP token, and then OUT whose token is lost, takes the data for setup data

abbrev sends_out : Attempt
sends_out = record (sets_up 1 set_reset) { kind = OutTok }

resets_by_out : (is_setup sends_out.kind ≡ false) × (resets (attempt sends_out)
    (hub_start memory.SetupSeen (record { attempt = 1; packet = 1; harm = Lose } ∷ [])) (1 ∷ 1 ∷ [])
    ≡ true)
unfolding resets resets_at after_due_events at_attempt marked marked_some mark_of harm_to damage_of
    bit_count token_of payload_of place_at received unread fresh asks answer_of effect_of
    after_packet setup_of outcome
resets_by_out = (refl, refl)

-- A function behind an enabled root port, at address 0, as the one holder: SET_ADDRESS is answered,
-- and awaits its status stage

abbrev alone : World
alone = record still { roots = taken (powered full true false) (fresh usual) ended ended }

holder : HolderIn (sets_up 0 (set_address 1)) alone
unfolding after with_attempt at_attempt after_due_events reach_at place_at held_addresses repeats
    all_forgotten fresh
holder = record {
  made = record { sound = refl; within = λ e. false_true (ap (λ n. n == 10000) e); settled = refl };
  single = refl;
  found = record {
    spot = record { row = 0; rest = [] };
    port = powered full true false;
    own = fresh usual;
    below = ended;
    on = refl;
    stands = refl;
    at = refl;
  };
}

exchanged : ExchangedIn (sets_up 0 (set_address 1)) alone holder
    (Some answer.Ack, accepted (fresh usual) [] (setup_of (set_address 1)))
unfolding holder damage_of row_of fresh
exchanged = setup_sound_in (sets_up 0 (set_address 1)) alone holder refl refl refl (set_address 1)
    (record { kind = refl; ep = refl; payload = refl; whole = refl })

holder_example : outcome_in (sets_up 0 (set_address 1)) alone ≡ got.Ack
holder_example = exchanged.outcome
