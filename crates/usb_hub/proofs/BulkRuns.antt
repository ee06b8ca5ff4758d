-- What an IN or an OUT of an endpoint other than 0 leaves of a device.
use Rattle.std.proofs.Common.{◌≡◌, ℕ, ◌==◌, if◌then◌else◌, Bool, true, false, List, Option, None}
use Rattle.std.proofs.Common.{Some, refl, rules}
use Rattle.usb_packet.specs.{Toggle}
use Rattle.usb_port.specs.{PortState}
use Rattle.usb_device.specs.{Way, held_law, in_end_law, in_other_law, in_law, out_law, State}
use Rattle.usb_device.specs.{forgotten, in_max, in_ack_row, out_end_row, out_max, data_row}

-- its description and its registers are the same, and a hub's status endpoint is halted where it
-- was
abbrev pub Ran : State → State → Type 0
Ran s v = (v.spec ≡ s.spec) × (v.registers ≡ s.registers) × (v.changes.halted ≡ s.changes.halted)

ack_runs : (e : ℕ) (o : Option ℕ) (s : State) → Ran s (in_ack_row s e o)
ack_runs e None s = (refl, refl, refl)
ack_runs e (Some most) s = (refl, refl, refl)

module _ (s : State) where
  end_given : (e : ℕ) (b : Bool)
      → Ran s (if b then forgotten (in_ack_row s e (in_max s e)) else s)
  end_given e true = ack_runs e (in_max s e) s
  end_given e false = (refl, refl, refl)

  in_by_end : (e : ℕ) (o : Option ℕ) (max : ℕ) (t2 t3 : Way)
      → Ran s (in_end_law s e o max t2 t3).1
  in_by_end e None max t2 t3 = (refl, refl, refl)
  in_by_end e (Some most) max t2 t3 = search (rules, end_given)

  held_by : (row : List PortState) (o : Option ℕ) (max : ℕ) (t2 t3 : Way)
      → Ran s (held_law s row o max t2 t3).1
  held_by row None max t2 t3 = search rules
  held_by row (Some bits) max t2 t3 = search rules

  in_other : (row : List PortState) (e max : ℕ) (t2 t3 : Way)
      → Ran s (in_other_law s row e max t2 t3).1
  in_other row e max t2 t3 = search (rules, held_by, in_by_end)

  pub in_kept : (row : List PortState) (e max : ℕ) (t1 t2 t3 : Way) → (e == 0) ≡ false
      → Ran s (in_law s row e max t1 t2 t3).1
  in_kept row e max t1 t2 t3 far = rw far (search (rules, in_other))

  out_by_end : (e : ℕ) (o : Option ℕ) (t : Toggle) (bytes : List ℕ)
      → Ran s (out_end_row s e o t bytes).1
  out_by_end e None t bytes = (refl, refl, refl)
  out_by_end e (Some most) t bytes = search rules

  data_by : (e : ℕ) (t : Toggle) (bytes : List ℕ) → (e == 0) ≡ false
      → Ran s (data_row s e t bytes).1
  data_by e t bytes far = rw far (out_by_end e (out_max s e) t bytes)

  pub out_kept : (e : ℕ) (t : Toggle) (bytes : List ℕ) (t1 t2 t3 : Way) → (e == 0) ≡ false
      → Ran s (out_law s e t bytes t1 t2 t3).1
  out_kept e t bytes t1 t2 t3 far = search (rules, data_by)
