-- A device's status stage after an attempt: the one it had, or none that ends with an address.
use Rattle.std.proofs.Common.{◌≡◌, ℕ, ◌+◌, ◌&&◌, nat_le, if◌then◌else◌, Bool, true, false, List, []}
use Rattle.std.proofs.Common.{Option, None, Some, is_some, refl, length, rules}
use Rattle.usb_packet.specs.{Toggle, One as Data1}
use Rattle.usb_port.specs.{PortState}
use Rattle.usb_device.specs.declared.answer.Answer.TheVariants as answer
use Rattle.usb_device.specs.{change_bytes, hub_ports}
use Rattle.usb_device.specs.{InEndpoint, Stage, reading, read, ending, max_packet, packet_at}
use Rattle.usb_device.specs.{toggle_at, State, Reply, forgotten, out_row, status_row, ack_row}
use Rattle.usb_device.specs.{sink_row, out_end_row, in_ack_row, in_max, data_row, acknowledged}
use Rattle.usb_device.specs.{ends_with_address, Way, is_whole, gave, in_stage_law, source_law}
use Rattle.usb_device.specs.{held_law, in_end_law, in_other_law, in_control_law, in_law, out_law}
use Rattle.usb_device.specs.{heard, Write, WriteData, Next, writing, is_done, judged, write_row}
use Rattle.usb_device.specs.declared.transfer.InEndpoint.TheVariants as by
use Rattle.usb_hub.specs.Aims.{Aims}
use Rattle.usb_hub.specs.{Never}

pub none_takes : (g : Stage) → Aims Never g → ends_with_address g ≡ false
none_takes (ending (Some a)) h = elim h [ ]
none_takes g h = refl

module _ (Q : ℕ → Type 0) where
  abbrev Keeps : Reply → Type 0
  Keeps r = Aims Q r.1.stage

  keeps_if : (b : Bool) (x y : Reply) → Keeps x → Keeps y → Keeps (if b then x else y)
  keeps_if true x y h g = h
  keeps_if false x y h g = g

  acked : (s : State) (g : Stage) → Aims Q s.stage → Aims Q (ack_row s g).stage
  acked s (reading a w k) h = split (is_some (packet_at (max_packet s.spec) w a k))
    where
      split : (b : Bool) → Aims Q (if b then record s { stage = reading a w (k + 1) } else s).stage
      split true = tt
      split false = h
  acked s (ending None) h = tt
  acked s (ending (Some a)) h = tt
  acked s (writing w) h = tt
  acked s g h = h

  end_acked : (s : State) (e : ℕ) (o : Option ℕ) → Aims Q s.stage
      → Aims Q (in_ack_row s e o).stage
  end_acked s e None h = h
  end_acked s e (Some most) h = h

  acknowledges : (s : State) (giver : InEndpoint) → Aims Q s.stage
      → Aims Q (acknowledged s giver).stage
  acknowledges s by.Control h = acked s s.stage h
  acknowledges s (by.Bulk e) h = end_acked s e (in_max s e) h
  acknowledges s by.Changes h = h

  gives : (s : State) (giver : InEndpoint) (max : ℕ) (t : Toggle) (bytes : List ℕ) (x y : Way)
      → Aims Q s.stage → Keeps (gave s giver max t bytes x y)
  gives s giver max t bytes x y h = split (is_whole x && nat_le (length bytes) max && is_whole y)
    where
      split : (b : Bool) → Aims Q (if b then forgotten (acknowledged s giver) else s).stage
      split true = acknowledges s giver h
      split false = h

  -- IN

  module _ (s : State) (max : ℕ) (x y : Way) (h : Aims Q s.stage) where
    in_stage : (g : Stage) → Keeps (in_stage_law s g max x y)
    in_stage (reading a w k) = split (packet_at (max_packet s.spec) w a k)
      where
        split : (o : Option (List ℕ)) → Keeps (elim o
            as (λ _. Reply) [
              | None ↦ (None, s)
              | Some bytes ↦ gave s by.Control max (toggle_at k) bytes x y
            ])
        split None = h
        split (Some bytes) = gives s by.Control max (toggle_at k) bytes x y h
    in_stage (ending a) = gives s by.Control max Data1 [] x y h
    in_stage (writing w) = keeps_if (is_done w) (gave s by.Control max Data1 [] x y)
        (heard x (Some answer.Stall), s) (gives s by.Control max Data1 [] x y h) h
    in_stage g = h

    source_keeps : (e most : ℕ) → Keeps (source_law s e most max x y)
    source_keeps e most = search (rules, keeps_if, gives)

    end_keeps : (e : ℕ) (o : Option ℕ) → Keeps (in_end_law s e o max x y)
    end_keeps e None = h
    end_keeps e (Some most) = source_keeps e most

    held_keeps : (row : List PortState) (o : Option ℕ) → Keeps (held_law s row o max x y)
    held_keeps row None = search (rules, keeps_if, gives)
    held_keeps row (Some bits) = gives s by.Changes max s.changes.toggle
        (change_bytes (hub_ports s.spec.hub) bits) x y h

    other_keeps : (row : List PortState) (e : ℕ) → Keeps (in_other_law s row e max x y)
    other_keeps row e = search (rules, keeps_if, held_keeps, end_keeps)

    control_keeps : Keeps (in_control_law s max x y)
    control_keeps = search (rules, keeps_if, in_stage)

  pub in_keeps : (s : State) (row : List PortState) (e max : ℕ) (z x y : Way) → Aims Q s.stage
      → Aims Q (in_law s row e max z x y).1.stage
  in_keeps s row e max z x y h = search (rules, keeps_if, control_keeps, other_keeps)

  -- OUT

  module _ (s : State) (t : Toggle) (bytes : List ℕ) (h : Aims Q s.stage) where
    status_keeps : (t : Toggle) (bytes : List ℕ) → Keeps (status_row s t bytes)
    status_keeps Data1 [] = tt
    status_keeps t b = h

    written_keeps : (w : Write) (x : WriteData) → Keeps (write_row s w bytes x)
    written_keeps w Next = tt
    written_keeps w x = h

    out_row_keeps : (g : Stage) → Keeps (out_row s g t bytes)
    out_row_keeps (reading a w k) = status_keeps t bytes
    out_row_keeps read = status_keeps t bytes
    out_row_keeps (writing w) = written_keeps w (judged (max_packet s.spec) w t bytes)
    out_row_keeps g = h

    sink_keeps : (e max : ℕ) → Keeps (sink_row s e max t bytes)
    sink_keeps e max = search (rules, keeps_if)

    out_end_keeps : (e : ℕ) (o : Option ℕ) → Keeps (out_end_row s e o t bytes)
    out_end_keeps e None = h
    out_end_keeps e (Some max) = sink_keeps e max

    data_keeps : (e : ℕ) → Keeps (data_row s e t bytes)
    data_keeps e = search (rules, keeps_if, out_row_keeps, out_end_keeps)

  pub out_keeps : (s : State) (e : ℕ) (t : Toggle) (bytes : List ℕ) (x y z : Way) → Aims Q s.stage
      → Aims Q (out_law s e t bytes x y z).1.stage
  out_keeps s e t bytes x y z h = search (rules, keeps_if, data_keeps)
