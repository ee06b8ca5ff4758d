-- That what was said of a device is its own.
use Rattle.std.proofs.Common.{◌≡◌, ◌⊎◌, inl, inr, ◌∙◌, ℕ, false, List, [], take, Result, Ok, IfOk}
use Rattle.std.proofs.Common.{ap, sym, subst, arith}
use Rattle.std.proofs.lemmas.List.{take-take}
use Rattle.std.specs.Global.{Vec}
use Rattle.usb_request.specs.{get_device_descriptor}
use Rattle.usb_world.specs.{EachWas, World}
use Rattle.usb_transfer.specs.{Target}
use Rattle.usb_hub.specs.{KeepsAddresses, AddressAsked, HubPort}
use Rattle.usb_enum.specs.{Answers, AtMaximum, AwaitsAddress, BeginsWith, Finds, EnumFault, Finding}
use Rattle.usb_enum.specs.{IsSaid, IsSaidWhole, IsSpokenTo, Leads, Says, Within, Went}
use Rattle.usb_port.specs.{Addresses, IsFree}
use Rattle.usb_enum.proofs.courses.Courses.{leads_none, leads_then}
use Rattle.usb_enum.proofs.devices.Presence.{answered_finds, spoken_finds}
use Rattle.usb_enum.proofs.readings.Heads.{answered, head_packet, gave, Gave}
use Rattle.usb_enum.proofs.stops.Reasons.{reading_after, reading}

-- Of one request

pub head_said : {t : Target} {bytes : Vec ℕ} {before said : List ℕ} {old new : World}
    → said ≡ take 18 bytes.items → Gave t 8 bytes old new
    → Answers (BeginsWith said) t 8 before said old new
unfolding get_device_descriptor
head_said {bytes} {said} same gave =
    inr (record {
      bytes = bytes.items;
      read = reading gave.asked.stages;
      same = same;
      answers = answered (BeginsWith said) gave (grind arith);
    })

pub whole_said : {t : Target} {bytes : Vec ℕ} {before said : List ℕ} {old new : World}
    → said ≡ take 18 bytes.items → Gave t 18 bytes old new
    → Answers (AtMaximum t (BeginsWith said)) t 18 before said old new
whole_said {t} {bytes} {said} same gave =
    inr (record {
      bytes = bytes.items;
      read = reading gave.asked.stages;
      same = same;
      answers = answered (AtMaximum t (BeginsWith said)) gave (λ s loud free allowed first max. (
        18,
        same ∙ ap (take 18) (first (inl max)) ∙ take-take 18 18 s.spec.descriptor (omega arith),
      ));
    })

-- Over steps

module _ {port : HubPort} {address : ℕ} where
  -- what was said stays so
  pub said_on : {before said : List ℕ} {old mid new : World} → Says port address before said old mid
      → Leads mid new → Says port address before said old new
  said_on (inl same) led = inl same
  said_on (inr w) led = grind (arith, leads_then, w.own, w.led)

  -- what was said earlier, or is said after those steps
  pub said_after : {earlier before said : List ℕ} {old mid new : World}
      → Says port address earlier before old mid → Leads mid new → Went old mid
      → Within port address old mid → Says port address before said mid new
      → Says port address earlier said old new
  said_after {earlier} {old} {new} first led went within (inl same) =
      subst (λ x. Says port address earlier x old new) (sym same) (said_on first led)
  said_after first led went within (inr w) = inr (record {
    target = w.target;
    is = w.is;
    size = w.size;
    bytes = w.bytes;
    moment = w.moment;
    read = reading_after went.led w.read;
    same = w.same;
    own = search (w.own.found, within.stays, went.order);
    led = w.led;
  })

-- Of the device at the port

-- that awaits its address
pub head_said_at : {port : HubPort} {address : ℕ} {t : Target} {before said : List ℕ}
    {old mid new : World} → IsSpokenTo port address t → Went old mid → Went mid new
    → Within port address old mid → KeepsAddresses mid new
    → Answers (BeginsWith said) t 8 before said mid new → Says port address before said old new
head_said_at is first next within keeps (inl same) = inl same
head_said_at {t} {new} is first next within keeps (inr a) =
    inr (record {
      target = t;
      is = is;
      size = 8;
      bytes = a.bytes;
      moment = new;
      read = reading_after first.led a.read;
      same = a.same;
      own = record {
        found = λ f p spare t0 order s on there.
            ((answered_finds is.at a.answers next within
            keeps).found f p spare t0 order s on there).0;
      };
      led = leads_none new;
    })

-- that has it, after what was said at address 0
pub whole_said_at : {port : HubPort} {address : ℕ} (target : Target) {t : Target}
    {earlier before said : List ℕ} {old mid given new : World} → IsSpokenTo port address t
    → target.addr ≡ 0 → t ≡ record target { addr = address }
    → Says port address earlier before old mid → Finds (AwaitsAddress target) port address old mid
    → (given.shared ≡ false → EachWas (AddressAsked target address (Ok tt) mid given) mid given)
    → Leads mid given → Went old given → Within port address old given → Went given new
    → KeepsAddresses given new → Answers (AtMaximum t (BeginsWith said)) t 18 before said given new
    → Says port address earlier said old new
whole_said_at {port} {address} target {earlier} {old} {new} is none same begun unnamed asked set
    first within next keeps (inl e) =
    subst (λ x. Says port address earlier x old new) (sym e)
    (said_on begun (leads_then set next.led))
whole_said_at target {t} {said} {new} is none same begun unnamed asked set first within next keeps
    (inr a) =
    inr (record {
      target = t;
      is = is;
      size = 18;
      bytes = a.bytes;
      moment = new;
      read = reading_after first.led a.read;
      same = a.same;
      own = spoken_finds (λ s. BeginsWith said s.spec) target none same
          (λ s g read. read.0 (head_packet g.speed g.head)) unnamed asked within
          a.answers next keeps;
      led = leads_none new;
    })

-- Of what was found

pub said_found : {port : HubPort} (addresses : Addresses) {said : List ℕ} {old new : World}
    (result : Result Finding EnumFault) → IfOk result (λ finding. IsSaidWhole finding said)
    → (address : ℕ) × (((address ≡ 0) ⊎ IsFree addresses address)
    × Says port address [] said old new) → IfOk result (IsSaid port addresses said old new)
said_found addresses result whole read = grind arith
