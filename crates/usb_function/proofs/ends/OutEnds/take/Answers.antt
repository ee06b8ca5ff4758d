use Rattle.std.proofs.Common.{◌≡◌, ◌<◌, ◌∙◌, length, slice_set, ap, arith}
use Rattle.std.proofs.lemmas.List.{with_items_is}
use Rattle.usb_device.specs.{joined}
use Rattle.usb_device.proofs.JoinedRows.{joined-grown}
use Rattle.usb_function.proofs.ends.OutEnds.take.Goals as goal

pub returns-clause-taken : goal.returns-clause-taken
returns-clause-taken c =
    let heads = c.self.inside.heads in
    let room = c.make_room.new.sinks.items in
    let place = c.place-place in
    let within : c.args.number < length heads =
    omega (arith, place.ensures.value, place.ensures.bound, c.self.invariant.0) in
    let there : c.args.number < length room =
    omega (arith, place.ensures.value, c.in_ok-make_room.ensures.there) in
    let same : length c.grow.new.sinks ≡ c.make_room.new.sinks.len = omega (
      arith,
      c.grow.auto.sinks,
      ap length c.as_mut_slice.ensures.value,
      c.make_room.new.sinks.ok.0,
    ) in
    ap (joined (slice_set heads place.result c.taken_head-head.result))
    (with_items_is c.make_room.new.sinks c.grow.new.sinks same)
    ∙ joined-grown c.args.halts c.args.bytes.now heads room c.as_mut_slice.result.now
    c.grow.new.sinks c.self.inside.sinks.items place.result c.args.number
    c.taken_head-head.result c.args.self.now place.ensures.value within there
    c.taken_head-head.ensures c.as_mut_slice.ensures.value c.in_ok-grow.ensures.taken
    (c.make_room.ensures.same heads) c.self.view_is
