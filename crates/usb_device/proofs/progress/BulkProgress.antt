-- An IN endpoint besides endpoint 0, one attempt after another.
use Rattle.std.proofs.Common.{◌≡◌, ◌≤◌, ◌&&◌, ℕ, nat_le, nat_lt, if◌then◌else◌, Bool, true, false}
use Rattle.std.proofs.Common.{List, length, Option, None, Some, is_some, refl, ap, sym, subst, ◌∙◌}
use Rattle.usb_packet.specs.{Toggle, Zero, One, other}
use Rattle.usb_port.specs.{PortState}
use Rattle.usb_device.specs.declared.answer.Answer.TheVariants.{Nak, Stall}
use Rattle.usb_device.specs.declared.transfer.InEndpoint.TheVariants as by
use Rattle.usb_device.specs.{State, Reply, forgotten, payload, in_ack_row, in_end, in_max, InEnd}
use Rattle.usb_device.specs.{next_packet, next_place, in_hesitates, hesitated, given_on, no_in}
use Rattle.usb_device.specs.{with_in, OnlySource, Way, is_whole, heard, gave, given_law, source_law}
use Rattle.usb_device.specs.{changes_law, in_control_law, in_other_law, in_end_law, in_law}
use Rattle.usb_device.specs.{taken_of, IsSource, SourceAt, level, ahead, SourceOn}
use Rattle.usb_device.specs.Attempt.{whole}
use Rattle.usb_device.proofs.RowsOfEnds.{at_same, at_other}

pub other-other : (t : Toggle) → other (other t) ≡ t
other-other Zero = refl
other-other One = refl

-- data with the toggle that the host awaits
taken : (t : Toggle) (max : ℕ) (b : List ℕ) (way : Way)
    → taken_of t max (heard way (Some (payload t b)))
    ≡ (if is_whole way && nat_le (length b) max then Some b else None)
taken Zero max b whole = refl
taken One max b whole = refl
taken t max b way = refl

-- data with the other one
taken_of-none : (t : Toggle) (max : ℕ) (b : List ℕ) (way : Way)
    → taken_of t max (heard way (Some (payload (other t) b))) ≡ None
taken_of-none Zero max b whole = refl
taken_of-none One max b whole = refl
taken_of-none t max b way = refl

pub bulk_law_is : (e most : ℕ) (s : State) → IsSource e most s
    → (row : List PortState) (max : ℕ) (t2 t3 : Way) → in_law s row e max whole t2 t3
    ≡ source_law s e most max t2 t3
bulk_law_is e most s i row max t2 t3 =
    ap (λ z. if z then in_control_law s max t2 t3 else in_other_law s row e max t2 t3) i.not_zero
    ∙ ap (λ z. if z then changes_law s row max t2 t3 else in_end_law s e (in_max s e) max t2
    t3) i.alone
    ∙ ap (λ o. in_end_law s e o max t2 t3) i.endpoint

module _ (e most got : ℕ) (t : Toggle) (s : State) (i : IsSource e most s) where
  -- its next packet, and the place behind that
  abbrev next : Option (List ℕ)
  next = next_packet s e most (in_end s e).place

  abbrev behind : ℕ
  behind = next_place s e most (in_end s e).place

  -- what is so of a reply
  abbrev SourceReply : ℕ → Reply → Type 0
  SourceReply max r = SourceOn e most got t s (taken_of t max r.0) r.1

  -- the device after data, by whether the ACK came
  abbrev after_data : Bool → State
  after_data came = if came then forgotten (in_ack_row s e (in_max s e)) else s

  -- the device after the ACK
  abbrev acked_on : State
  acked_on = forgotten (with_in s e (given_on behind (in_end s e)))

  acked_is : forgotten (in_ack_row s e (in_max s e)) ≡ acked_on
  acked_is = ap (λ o. forgotten (in_ack_row s e o)) i.endpoint

  acked_end : in_end acked_on e ≡ given_on behind (in_end s e)
  acked_end = at_same no_in e (given_on behind (in_end s e)) s.ins

  acked_level : (got' : ℕ) (t' : Toggle) → behind ≡ got' → other (in_end s e).state.toggle ≡ t'
      → SourceAt e most got' t' (forgotten (in_ack_row s e (in_max s e)))
  acked_level got' t' g q = subst (SourceAt e most got' t') (sym acked_is)
      (level (ap (λ x. x.place) acked_end ∙ g) (ap (λ x. x.state.toggle) acked_end ∙ q))

  source_caught_up : got ≡ behind → is_some next ≡ true → (in_end s e).state.toggle ≡ other t
      → (came : Bool) → SourceAt e most got t (after_data came)
  source_caught_up g p q true = acked_level got t (sym g) (ap other q ∙ other-other t)
  source_caught_up g p q false = ahead g p q

  gave_ahead : got ≡ behind → is_some next ≡ true → (in_end s e).state.toggle ≡ other t
      → (b : List ℕ) (max : ℕ) (t2 t3 : Way)
      → SourceReply max (gave s (by.Bulk e) max (in_end s e).state.toggle b t2 t3)
  gave_ahead g p q b max t2 t3 =
      let came = is_whole t2 && nat_le (length b) max && is_whole t3 in
      subst (λ u. SourceOn e most got t s (taken_of t max (heard t2 (Some (payload u b))))
      (after_data came)) (sym q)
      (subst (λ o. SourceOn e most got t s o (after_data came)) (sym (taken_of-none t max b t2))
      (source_caught_up g p q came))

  source_went_on : (in_end s e).place ≡ got → (in_end s e).state.toggle ≡ t
      → (b : List ℕ) → next ≡ Some b → (heard fits came : Bool) → SourceOn e most got t s
      (if heard && fits then Some b else None) (after_data (heard && fits && came))
  source_went_on g q b n true true false = (
    ap (next_packet s e most) (sym g) ∙ n,
    ahead (ap (next_place s e most) (sym g)) (ap is_some n) (q ∙ sym (other-other t)),
  )
  source_went_on g q b n true true true = (
    ap (next_packet s e most) (sym g) ∙ n,
    acked_level (next_place s e most got) (other t) (ap (next_place s e most) g) (ap other q),
  )
  source_went_on g q b n _ _ came = level g q

  gave_level : (in_end s e).place ≡ got → (in_end s e).state.toggle ≡ t
      → (b : List ℕ) → next ≡ Some b → (max : ℕ) (t2 t3 : Way) → SourceReply max
      (gave s (by.Bulk e) max (in_end s e).state.toggle b t2 t3)
  gave_level g q b n max t2 t3 =
      let came = is_whole t2 && nat_le (length b) max && is_whole t3 in
      subst (λ u. SourceOn e most got t s (taken_of t max (heard t2 (Some (payload u b))))
      (after_data came)) (sym q)
      (subst (λ o. SourceOn e most got t s o (after_data came)) (sym (taken t max b t2))
      (source_went_on g q b n (is_whole t2) (nat_le (length b) max) (is_whole t3)))

  gave_on : SourceAt e most got t s → (max : ℕ) (t2 t3 : Way) (b : List ℕ) → next ≡ Some b
      → SourceReply max (gave s (by.Bulk e) max (in_end s e).state.toggle b t2 t3)
  gave_on (level g q) max t2 t3 b n = gave_level g q b n max t2 t3
  gave_on (ahead g p q) max t2 t3 b n = gave_ahead g p q b max t2 t3

  source_stalled : SourceAt e most got t s → (max : ℕ) (t2 : Way)
      → SourceReply max (heard t2 (Some Stall), s)
  source_stalled at max whole = at
  source_stalled at max t2 = at

  busy_on : (r : State) → SourceAt e most got t r → (max : ℕ) (t2 : Way)
      → SourceReply max (heard t2 (Some Nak), r)
  busy_on r at max whole = at
  busy_on r at max t2 = at

  -- a NAK changes nothing but how many are left
  hesitates_end : in_end (in_hesitates s e) e
      ≡ record (in_end s e) { pace = hesitated (in_end s e).pace }
  hesitates_end = at_same no_in e (record (in_end s e) { pace = hesitated (in_end s e).pace }) s.ins

  still_at : SourceAt e most got t s → SourceAt e most got t (in_hesitates s e)
  still_at (level g q) =
      level (ap (λ x. x.place) hesitates_end ∙ g) (ap (λ x. x.state.toggle) hesitates_end ∙ q)
  still_at (ahead g p q) = ahead
      (g ∙ ap (λ x. next_place s e most x.place) (sym hesitates_end))
      (ap (λ x. is_some (next_packet s e most x.place)) hesitates_end ∙ p)
      (ap (λ x. x.state.toggle) hesitates_end ∙ q)

  by_pace : SourceAt e most got t s → (max : ℕ) (t2 t3 : Way) (b : List ℕ) → next ≡ Some b
      → (hesitates : Bool) → SourceReply max
      (if hesitates then (heard t2 (Some Nak), in_hesitates s e)
      else gave s (by.Bulk e) max (in_end s e).state.toggle b t2 t3)
  by_pace at max t2 t3 b n true = busy_on (in_hesitates s e) (still_at at) max t2
  by_pace at max t2 t3 b n false = gave_on at max t2 t3 b n

  by_next : SourceAt e most got t s → (max : ℕ) (t2 t3 : Way) (o : Option (List ℕ)) → next ≡ o
      → SourceReply max (given_law s e o max t2 t3)
  by_next at max t2 t3 None n = busy_on s at max t2
  by_next at max t2 t3 (Some b) n = by_pace at max t2 t3 b n (nat_lt 0 (in_end s e).pace.naks)

  by_halt : SourceAt e most got t s → (max : ℕ) (t2 : Way) (given : Reply) (halted : Bool)
      → SourceReply max given
      → SourceReply max (if halted then (heard t2 (Some Stall), s) else given)
  by_halt at max t2 given true h = source_stalled at max t2
  by_halt at max t2 given false h = h

  source_here : SourceAt e most got t s → (row : List PortState) (max : ℕ) (t1 t2 t3 : Way)
      → SourceReply max (in_law s row e max t1 t2 t3)
  source_here at row max whole t2 t3 =
      subst (SourceReply max) (sym (bulk_law_is e most s i row max t2 t3))
      (by_halt at max t2 (given_law s e next max t2 t3) (in_end s e).state.halted
      (by_next at max t2 t3 next refl))
  source_here at row max t1 t2 t3 = at

pub source_on : (e most got : ℕ) (t : Toggle) (s : State) → IsSource e most s → 1 ≤ most
    → SourceAt e most got t s → (row : List PortState) (max : ℕ) (t1 t2 t3 : Way)
    → SourceOn e most got t s (taken_of t max (in_law s row e max t1 t2 t3).0)
    (in_law s row e max t1 t2 t3).1
source_on e most got t s i m at row max t1 t2 t3 =
    source_here e most got t s i at row max t1 t2 t3

-- no other endpoint changes

only_same : (e : ℕ) (s : State) → OnlySource e s s
only_same e s = record { rest = refl; others = λ a h. refl }

only_with : (e : ℕ) (s : State) (end : InEnd) → OnlySource e s (with_in s e end)
only_with e s end = record { rest = refl; others = λ a h. at_other no_in e a end s.ins h }

only_acked : (e : ℕ) (s : State) (most : Option ℕ)
    → OnlySource e s (forgotten (in_ack_row s e most))
only_acked e s None = record { rest = refl; others = λ a h. refl }
only_acked e s (Some most) =
    let place = next_place s e most (in_end s e).place in
    record { rest = refl; others = (only_with e s (given_on place (in_end s e))).others }

only_after : (e : ℕ) (s : State) (most : Option ℕ) (came : Bool)
    → OnlySource e s (if came then forgotten (in_ack_row s e most) else s)
only_after e s most true = only_acked e s most
only_after e s most false = only_same e s

only_by_pace : (e : ℕ) (s : State) (max : ℕ) (t2 t3 : Way) (b : List ℕ) (hesitates : Bool)
    → OnlySource e s (if hesitates then (heard t2 (Some Nak), in_hesitates s e)
    else gave s (by.Bulk e) max (in_end s e).state.toggle b t2 t3).1
only_by_pace e s max t2 t3 b true =
    only_with e s (record (in_end s e) { pace = hesitated (in_end s e).pace })
only_by_pace e s max t2 t3 b false =
    only_after e s (in_max s e) (is_whole t2 && nat_le (length b) max && is_whole t3)

only_by_next : (e : ℕ) (s : State) (max : ℕ) (t2 t3 : Way) (o : Option (List ℕ))
    → OnlySource e s (given_law s e o max t2 t3).1
only_by_next e s max t2 t3 None = only_same e s
only_by_next e s max t2 t3 (Some b) =
    only_by_pace e s max t2 t3 b (nat_lt 0 (in_end s e).pace.naks)

only_by_halt : (e : ℕ) (s : State) (t2 : Way) (given : Reply) (halted : Bool)
    → OnlySource e s given.1
    → OnlySource e s (if halted then (heard t2 (Some Stall), s) else given).1
only_by_halt e s t2 given true o = only_same e s
only_by_halt e s t2 given false o = o

pub source_only : (e most : ℕ) (s : State) → IsSource e most s → (row : List PortState) (max : ℕ)
    (t1 t2 t3 : Way) → OnlySource e s (in_law s row e max t1 t2 t3).1
source_only e most s i row max whole t2 t3 =
    let next = next_packet s e most (in_end s e).place in
    subst (λ (r : Reply). OnlySource e s r.1) (sym (bulk_law_is e most s i row max t2 t3))
    (only_by_halt e s t2 (given_law s e next max t2 t3) (in_end s e).state.halted
    (only_by_next e s max t2 t3 next))
source_only e most s i row max t1 t2 t3 = only_same e s

pub ruleset sources = (source_on, source_only)
