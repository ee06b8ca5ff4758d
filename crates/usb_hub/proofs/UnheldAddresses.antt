-- An attempt at an address that no reachable device holds asks nothing of any port.
use Rattle.std.proofs.Common.{◌≡◌, ℕ, false, List, Option, None, Some, sym, ◌∙◌}
use Rattle.usb_device.specs.{Sent, after_packet, State, Ports, state_at}
use Rattle.usb_device.specs.declared.transfer.RememberedPacket.TheVariants.{Nothing}
use Rattle.usb_world.specs.{Attempt, token_out, payload_out, AsksNothing, at_attempt, damage_in}
use Rattle.usb_world.specs.{attempt, World, after_sent, IfOut, IsTokenFor, IsSettled, NobodyHolds}
use Rattle.usb_world.specs.{resets_at}
use Rattle.usb_world.proofs.Interface.{NoneAsks, calm_sent, goes, none_asks_nothing, ready_settled}
use Rattle.usb_world.proofs.Interface.{rest_state, rested_effect, settled_memory, token_calls}
use Rattle.usb_world.proofs.Interface.{token_out as token_calm, unreset}

-- after its token no device remembers anything
none_remembers : (n : ℕ) (t : Option Sent) → IfOut (IsTokenFor n) t → (k : Ports) → IsSettled k
    → NobodyHolds n k
    → (i : ℕ) (e : List ℕ) (v : State) → state_at (after_sent t k) i e ≡ Some v → v.memory ≡ Nothing
none_remembers n None is k settled nobody i e v at = settled_memory k i e v settled at
none_remembers n (Some q) is k settled nobody i e v at =
    settled_memory k i e v settled (sym same ∙ at)
  where
    same : state_at (after_packet q false k) i e ≡ state_at k i e
    same =
        rest_state q false k i e (λ u h on. (
          settled_memory k i e u settled h,
          token_calls n q.content u is (nobody i e u h on),
        ))
        ∙ unreset (resets_at q false k i e) (state_at k i e)
        (calm_sent (Some q) (token_calm n (Some q) is) k i e)

pub nobody_asks_nothing : (a : Attempt) (w : World) (x : List ℕ)
    → NobodyHolds a.addr (at_attempt w).roots → IsSettled w.roots → AsksNothing (attempt a) w x
nobody_asks_nothing a w x nobody settled = none_asks_nothing a w x none
  where
    none : NoneAsks (payload_out a (damage_in (at_attempt w)))
        (after_sent (token_out a (damage_in (at_attempt w))) (at_attempt w).roots)
    none q o j e t at dp =
        rested_effect q dp t
        (none_remembers a.addr (token_out a (damage_in (at_attempt w)))
        (goes a (damage_in (at_attempt w)) (at_attempt w).roots).token (at_attempt w).roots
        (ready_settled w settled) nobody j e t at)
