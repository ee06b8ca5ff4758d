-- How the packets of a bulk transfer join.
use Rattle.std.proofs.Common.{◌≡◌, ◌≢◌, ◌∙◌, ◌⊎◌, inl, inr, refl, ap, subst, arith, ℕ, zero, suc}
use Rattle.std.proofs.Common.{◌+◌, ◌-◌, ◌*◌, ◌<◌, ◌≤◌, min, List, [], ◌++◌, length, take, drop}
use Rattle.std.proofs.Common.{Option, None, Result, Ok, Err, IsErr, IsErrAnd, append_assoc}
use Rattle.std.proofs.Common.{append-nil, length-append, length-drop, length-take, take-append-drop}
use Rattle.std.specs.Global.{Vec}
use Rattle.std.specs.Int.{div_ceil}
use Rattle.std.proofs.lemmas.Grind.{div_ceil_times}
use Rattle.std.proofs.lemmas.List.{take_min}
use Rattle.std.proofs.lemmas.Nat.{div-mul-add, le-div}
use Rattle.usb_packet.specs.{Toggle, other, flips}
use Rattle.usb_packet.proofs.Interface.{flips_next}
use Rattle.usb_world.specs.{World}
use Rattle.usb_bus.specs.{StepRun}
use Rattle.usb_bus.proofs.Interface.{went_none, went_then, went_wider}
use Rattle.usb_transfer.specs.{AsksIn, SendsOut, Ends, AttemptsMade, transaction_bound, Target}
use Rattle.usb_transfer.specs.{TransFault, packets_of, Turned, FaultAfter, as_pipe_fault, Gave}
use Rattle.usb_transfer.specs.{Fetches, Came, AllCame, PacketsSent, PacketsReceived, PipeFault}
use Rattle.usb_transfer.specs.Moves.{start, packet}
use Rattle.usb_transfer.specs.declared.fault.PipeFault.TheVariants.{Memory}

-- Toggles

-- n packets were moved
pub record Moved (n : ℕ) (first toggle : Toggle) (old : World) (t : Option (List ℕ)) (now : World)
    (r : Option (List ℕ)) : Type 0 where
  pub went : StepRun (transaction_bound * n) old t now r
  pub least : old.attempts + n ≤ now.attempts
  pub sound : now.fault ≡ None → old.fault ≡ None
  pub still : 0 < n → now.fault ≡ None
  pub turned : toggle ≡ flips n first

moved_none : (first : Toggle) (w : World) (t : Option (List ℕ)) → Moved 0 first first w t w t
unfolding flips
moved_none first w t = grind (arith, went_none)

module _ {n : ℕ} {first toggle : Toggle} {old mid : World} {t r : Option (List ℕ)}
    (m : Moved n first toggle old t mid r) where
  pub moved_all : {more : ℕ} → n ≤ more → StepRun (transaction_bound * more) old t mid r
  moved_all le = grind (arith, went_wider)

  -- one packet more, whether it was moved or not
  pub moved_went : {more : ℕ} {new : World} {s : Option (List ℕ)} → n < more
      → StepRun transaction_bound mid r new s → StepRun (transaction_bound * more) old t new s
  moved_went {more} lt w = went_wider (transaction_bound * n + transaction_bound)
      (transaction_bound * more) (search went_then)
      (omega (arith, lt))

  moved_more : (next : Toggle) {new : World} {s : Option (List ℕ)}
      → StepRun transaction_bound mid r new s → AttemptsMade 1 mid new → next ≡ other toggle
      → Moved (n + 1) first next old t new s
  moved_more next w worked e = grind (arith, moved_went, flips_next)

  worked_then : {k : ℕ} {new : World} → AttemptsMade k mid new → AttemptsMade k old new
  worked_then w = grind arith

  lost_ends : (fault : TransFault) (new : World) → Ends {A = List ℕ} mid (Err fault) new
      → FaultAfter 0 old (as_pipe_fault fault) new
  lost_ends fault new w = grind (arith, worked_then)

  -- where the transaction of a further packet left the toggle
  moved_turned : {more : ℕ} {next : Toggle} → n < more → next ≡ toggle → Turned more first next
  moved_turned lt same = grind arith

moved_worked : {n : ℕ} {first toggle : Toggle} {old now : World} {t r : Option (List ℕ)} → 0 < n
    → Moved n first toggle old t now r → AttemptsMade n old now
moved_worked lt m = grind arith

-- How many packets

ceil_is : (a b n : ℕ) → 0 < b → a ≤ n * b → n * b < a + b → div_ceil a b ≡ n
ceil_is a b n some least most = grind (arith, div_ceil_times)

pub gave_packets : (t : Target) (ep : ℕ) (first : Toggle) {old : World} {n : ℕ} {sent : List ℕ}
    {new : World} → Gave t ep first old n sent new → sent ≢ [] → div_ceil (length sent) t.max ≡ n
gave_packets t ep first start some = absurd (some refl)
gave_packets t ep first (packet {n} {sent} bytes g full more fits puts) some =
    let l = length-append sent bytes in ceil_is (length (sent ++ bytes)) t.max (n + 1)
    (omega (arith, more, fits)) (omega (arith, l, full, fits)) (omega (arith, l, full, more))

-- full packets leave something over
pub few_full : (n max total : ℕ) → 1 ≤ max → n * max < total → n < div_ceil total max
few_full n max total some less = grind (arith, div_ceil_times)

-- a packet less is one less of them
less_by : (p a b c : ℕ) → p * b < c + b → c ≡ a - b → 0 < a → p * b < a
less_by zero a b c lt is some = omega (arith, some)
less_by (suc k) a b c lt is some = grind arith

pub one_packet_less : (total max : ℕ) → 1 ≤ max → 0 < total → (rest : ℕ) → rest ≡ total - max
    → div_ceil rest max + 1 ≤ div_ceil total max
one_packet_less total max least some rest is = grind (arith, div_ceil_times, few_full, less_by)

pub came_full : {t : Target} {ep : ℕ} {first : Toggle} {old : World} {n : ℕ} {got : List ℕ}
    {new : World} → Came t ep first old n got new → length got ≡ n * t.max
came_full start = omega arith
came_full (packet {n} {got} bytes c fetches full) = let before = came_full c in let both =
    length-append got bytes in omega (arith, before, both, full)

came_packets : (n size max wanted : ℕ) → 1 ≤ max → n < wanted → (n + 1 ≡ wanted) ⊎ (size < max)
    → packets_of (n * max + size) max wanted ≡ n + 1
came_packets n size max wanted least few ends = grind (arith, le-div, div-mul-add)

module _ {t : Target} {ep : ℕ} {first : Toggle} {wanted : ℕ} {old new : World} {bytes : List ℕ}
    (a : AllCame t ep first wanted old bytes new) where
  all_size : length bytes ≡ a.packets * t.max + length a.last
  all_size = grind (arith, came_full, length-append)

  pub all_packets : 1 ≤ t.max → packets_of (length bytes) t.max wanted ≡ a.packets + 1
  all_packets least = grind (arith, all_size, came_packets)

  all_most : length bytes ≤ wanted * t.max
  all_most = grind (arith, all_size)

-- Packets that are sent

-- so far these bytes are left
pub record PacketsMoving (t : Target) (ep : ℕ) (first : Toggle) (total : List ℕ) (old : World)
    (text : Option (List ℕ)) (rest : List ℕ) (toggle : Toggle) (now : World)
    (written : Option (List ℕ)) : Type 0 where
  pub packets : ℕ
  pub sent : List ℕ
  pub before : Gave t ep first old packets sent now
  pub split : total ≡ sent ++ rest
  pub full : 0 < length rest → length sent ≡ packets * t.max
  pub moved : Moved packets first toggle old text now written

pub moving_none : (t : Target) (ep : ℕ) (first : Toggle) (total : List ℕ) (w : World)
    (text : Option (List ℕ)) → PacketsMoving t ep first total w text total first w text
moving_none t ep first total w text = record {
  packets = 0;
  sent = [];
  before = start;
  split = refl;
  full = λ _. omega arith;
  moved = moved_none first w text;
}

module _ (t : Target) (ep : ℕ) (first : Toggle) (total : List ℕ) (least : 1 ≤ t.max) {old : World}
    {text : Option (List ℕ)} where
  -- all are sent
  pub all_sent : {now : World} {written : Option (List ℕ)} {rest : List ℕ} {toggle : Toggle}
      → 0 < length total → rest ≡ [] → PacketsMoving t ep first total old text rest toggle now
      written → PacketsSent t ep first total old (Ok tt) toggle now
      × StepRun (transaction_bound * div_ceil (length total) t.max) old text now written
  all_sent {now} some none g =
      let gone : Gave t ep first old g.packets total now = grind (arith, append-nil) in
      let count : div_ceil (length total) t.max ≡ g.packets = grind (arith, gave_packets) in
      let few : 0 < g.packets = grind (arith, few_full) in (
        record {
          ends = rw count (moved_worked few g.moved);
          moves = grind arith;
          behind = g.moved.turned;
          room = λ e. cc e;
          turned = rw count g.moved.turned;
          halted = λ e. cc e;
        },
        rw count g.moved.went,
      )

  -- a packet, as many of the bytes that are left as fit
  module _ {mid new : World} {between written : Option (List ℕ)} {rest bytes : List ℕ}
      {toggle next : Toggle} (k : ℕ) (some : 0 < length rest) (is : k ≡ min (length rest) t.max)
      (front : bytes ≡ take k rest)
      (g : PacketsMoving t ep first total old text rest toggle mid between)
      (went : StepRun transaction_bound mid between new written) where
    pub going_more : {after given : List ℕ} → after ≡ drop k rest
        → SendsOut t ep toggle bytes mid (Ok given) new → next ≡ other toggle
        → PacketsMoving t ep first total old text after next new written
    going_more back x e =
        let j = length-append g.sent (take k rest) in
        let l = length-take k rest in
        let d = length-drop k rest in
        let full = g.full some in
        rw back (record {
          packets = g.packets + 1;
          sent = g.sent ++ take k rest;
          before = packet (take k rest) g.before full (omega (arith, l, is)) (omega (arith, l, is))
              (rw (g.moved.turned, front, x.nothing) at x.heard);
          split = grind (arith, append_assoc, take-append-drop, g.split);
          full = grind arith;
          moved = moved_more g.moved next went x.ends e;
        })

    -- one that does not go
    pub lost_sent : (fault : TransFault) (result : Result (Unit {0}) PipeFault) → IsErr result
        → IsErrAnd result (λ why. why ≡ as_pipe_fault fault) → result ≢ Err Memory
        → SendsOut t ep toggle bytes mid (Err fault) new → next ≡ toggle
        → PacketsSent t ep first total old result next new
        × StepRun (transaction_bound * div_ceil (length total) t.max) old text new written
    lost_sent fault (Err why) err said room x same =
        let size : k ≡ min t.max (length rest) = omega (arith, is) in
        let fitting : take k rest ≡ take t.max rest = rw size (take_min t.max rest) in
        let parts = ap length g.split ∙ length-append g.sent rest in
        let few : g.packets < div_ceil (length total) t.max = grind (arith, few_full) in (
          record {
            ends = grind (arith, lost_ends);
            moves = grind (arith, g.before, g.full, g.split, g.moved.turned, x.heard);
            behind = same ∙ g.moved.turned;
            room = room;
            turned = tt;
            halted = λ _. moved_turned g.moved few same;
          },
          moved_went g.moved few went,
        )
    lost_sent fault (Ok done) err said room x same = cc

-- Packets that are received

-- so many came
pub record Coming (t : Target) (ep : ℕ) (first : Toggle) (old : World) (text : Option (List ℕ))
    (n : ℕ) (got : List ℕ) (toggle : Toggle) (now : World) (written : Option (List ℕ)) : Type 0
  where
    pub came : Came t ep first old n got now
    pub moved : Moved n first toggle old text now written

pub coming_none : (t : Target) (ep : ℕ) (first : Toggle) (got : List ℕ) (w : World)
    (text : Option (List ℕ)) → got ≡ [] → Coming t ep first w text 0 got first w text
coming_none t ep first got w text none =
    rw none (record { came = start; moved = moved_none first w text })

module _ (t : Target) (ep : ℕ) (first : Toggle) {old : World} {text : Option (List ℕ)} (wanted : ℕ)
    (least : 1 ≤ t.max) where
  pub all_received : {bytes : Vec ℕ} {now : World} {toggle : Toggle} {written : Option (List ℕ)}
      (a : AllCame t ep first wanted old bytes.items now)
      → Moved (a.packets + 1) first toggle old text now written
      → PacketsReceived t ep first wanted old (Ok bytes) toggle now
  all_received a m = record {
    ends = rw (all_packets a least) (moved_worked (omega arith) m);
    moves = a;
    behind = m.turned;
    most = all_most a;
    turned = rw (all_packets a least) m.turned;
    halted = λ e. cc e;
  }

  -- as many came as were wanted
  pub whole_received : {n : ℕ} {bytes : Vec ℕ} {now : World} {toggle : Toggle}
      {written : Option (List ℕ)} → n ≡ wanted → 0 < wanted
      → Coming t ep first old text n bytes.items toggle now written
      → PacketsReceived t ep first wanted old (Ok bytes) toggle now
  whole_received {bytes} {now} {toggle} {written} all some c = by_last c.came refl c.moved all
    where
      by_last : {n : ℕ} {got : List ℕ} {now : World} → Came t ep first old n got now
          → bytes.items ≡ got → Moved n first toggle old text now written → n ≡ wanted
          → PacketsReceived t ep first wanted old (Ok bytes) toggle now
      by_last start is m all = absurd (omega (arith, all, some))
      by_last (packet {n} {got} {mid} last c came full) is m all =
          all_received (grind arith) m

  -- a packet behind them
  module _ {n : ℕ} {got : List ℕ} {mid new : World} {between written : Option (List ℕ)}
      {toggle next : Toggle} (few : n < wanted)
      (c : Coming t ep first old text n got toggle mid between)
      (went : StepRun transaction_bound mid between new written) where
    -- that came
    module _ {last front kept : List ℕ} (x : AsksIn t ep toggle mid (Ok last) new)
        (e : next ≡ other toggle) (same : front ≡ last) (is : kept ≡ got ++ front) where
      pub coming_more : {m : ℕ} → m ≡ n + 1 → length last ≡ t.max
          → Coming t ep first old text m kept next new written
      coming_more more full = rw (more, is, same) (record {
        came = packet last c.came (rw c.moved.turned at x.heard) full;
        moved = search moved_more;
      })

      -- and was short
      pub short_received : {bytes : Vec ℕ} → bytes.items ≡ kept → length last < t.max
          → PacketsReceived t ep first wanted old (Ok bytes) next new
      short_received items short =
          all_received (record {
            packets = n;
            few = few;
            got = got;
            mid = mid;
            before = c.came;
            last = last;
            came = rw c.moved.turned at x.heard;
            fits = x.short;
            kept = grind arith;
            ends = inr short;
          })
          (moved_more c.moved next went x.ends e)

    -- that did not
    pub lost_received : (fault : TransFault) (result : Result (Vec ℕ) PipeFault) → IsErr result
        → IsErrAnd result (λ why. why ≡ as_pipe_fault fault)
        → AsksIn t ep toggle mid (Err fault) new → next ≡ toggle
        → PacketsReceived t ep first wanted old result next new
    lost_received fault (Err why) err said x same = record {
      ends = grind (arith, lost_ends);
      moves = inl (record {
        packets = n;
        few = few;
        got = got;
        mid = mid;
        before = c.came;
        fault = fault;
        told = said;
        lost = subst (λ z. Fetches t ep z mid (Err fault) new) c.moved.turned x.heard;
      });
      behind = same ∙ c.moved.turned;
      most = tt;
      turned = tt;
      halted = λ _. moved_turned c.moved few same;
    }
    lost_received fault (Ok bytes) err said x same = cc

    -- that found no memory
    pub room_received : (last : List ℕ) (result : Result (Vec ℕ) PipeFault) → IsErr result
        → IsErrAnd result (λ why. why ≡ Memory) → AsksIn t ep toggle mid (Ok last) new
        → next ≡ other toggle → PacketsReceived t ep first wanted old result next new
    room_received last (Err why) err said x e = record {
      ends = grind (arith, worked_then);
      moves = grind (arith, c.came, c.moved.turned, x.heard, x.short);
      behind = grind (arith, flips_next);
      most = tt;
      turned = tt;
      halted = λ h. cc (said, h);
    }
    room_received last (Ok bytes) err said x e = cc
