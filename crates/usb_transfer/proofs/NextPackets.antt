-- The next packets of an endpoint, as a pipe gets them one after another.
use Rattle.std.proofs.Common.{◌≡◌, ◌∙◌, refl, sym, ap, arith, true, ℕ, zero, suc, ◌+◌, ◌<◌, List}
use Rattle.std.proofs.Common.{[], ◌∷◌, ◌++◌, length, Some, is_some, append_assoc, append-nil}
use Rattle.std.proofs.Common.{length-append}
use Rattle.std.specs.List.{concat}
use Rattle.usb_packet.specs.{Toggle, other}
use Rattle.usb_device.specs.{GivesOn, HasPackets, NextBytes, SourceAt, SourceOn, State, in_data}
use Rattle.usb_device.specs.{next_packet, next_place, packet_in}
use Rattle.usb_device.proofs.Interface.{gives-append}

-- one packet more, end to end
concat_more : (packets : List (List ℕ)) (bytes : List ℕ)
    → concat packets ++ bytes ≡ concat (packets ++ (bytes ∷ []))
concat_more [] bytes = sym (append-nil bytes)
concat_more (first ∷ packets) bytes =
    append_assoc first (concat packets) bytes ∙ ap (λ l. first ++ l) (concat_more packets bytes)

-- behind fewer packets than there are is one more
pub one_there : (ep most place behind wanted : ℕ) (packets : List (List ℕ)) (s : State)
    → GivesOn (in_data s ep) most place packets behind → length packets < wanted
    → HasPackets ep most place wanted s → is_some (next_packet s ep most behind) ≡ true
one_there ep most place behind zero packets s come few has = absurd (omega (arith, few))
one_there ep most place behind (suc n) [] s come few has = grind arith
one_there ep most place behind (suc n) (bytes ∷ packets) s come few has =
    one_there ep most (next_place s ep most place) behind n packets s come.1 (omega (arith, few))
    has.1

pub no_bytes : (ep most place : ℕ) (s : State) → NextBytes ep most place [] place s
no_bytes ep most place s = grind arith

-- so many packets came from a place on, and the endpoint is behind them
pub record CameFrom (ep most place : ℕ) (toggle : Toggle) (n : ℕ) (got : List ℕ) (s v : State) :
    Type 0 where
  pub behind : ℕ
  pub bytes : NextBytes ep most place got behind s
  pub count : length bytes.packets ≡ n
  pub at : SourceAt ep most behind toggle v

pub none_came_from : (ep most place : ℕ) (toggle : Toggle) (s : State)
    → SourceAt ep most place toggle s → CameFrom ep most place toggle 0 [] s s
unfolding no_bytes
none_came_from ep most place toggle s at =
    record { behind = place; bytes = no_bytes ep most place s; count = refl; at = at }

pub one_came_then : {ep most place : ℕ} {toggle : Toggle} {n : ℕ} {got : List ℕ} {s u v : State}
    (last : List ℕ) (x : CameFrom ep most place toggle n got s u) → in_data u ep ≡ in_data s ep
    → SourceOn ep most x.behind toggle u (Some last) v
    → CameFrom ep most place (other toggle) (n + 1) (got ++ last) s v
one_came_then {ep} {most} {place} {toggle} {n} {got} {s} {u} {v} last x same on =
    let packets = x.bytes.packets in
    let next = next_place s ep most x.behind in
    let came : packet_in (in_data s ep) most x.behind ≡ Some last = grind arith in
    record {
      behind = next;
      bytes = grind (arith, concat_more, gives-append);
      count = grind (arith, length-append);
      at = grind arith;
    }
