use Rattle.std.proofs.Common.{◌≡◌, ◌∙◌, ◌+◌, ◌*◌, ap, ◌++◌, length, length-append, arith, true}
use Rattle.std.proofs.lemmas.Result.{err_from_is_err_and}
use Rattle.usb_packet.proofs.Interface.{flips_next}
use Rattle.usb_transfer.proofs.TransactionRows.{InsBegun, few_answered, in_fits, in_is, ins_came}
use Rattle.usb_transfer.proofs.TransactionRows.{ins_cut, ins_lost, ins_whole, row_room}
use Rattle.usb_transfer.proofs.transaction_rows.data_in_row.Given as given
use Rattle.usb_transfer.proofs.transaction_rows.data_in_row.Goals as goal
use Rattle.usb_transfer.proofs.transaction_rows.data_in_row.Goals.{After-toggle_behind}

-- the row, as the bus tells it
begun : (g : given.Over) (c : goal.After-toggle_behind g) → g.B.Bus.modelled ≡ true
    → InsBegun c.args.target c.args.ep c.args.toggle.now c.args.most
    (g.B.Bus.world c.args.bus.now) (g.B.Bus.trace c.args.bus.now) c.attempt_ins-moved.result
    c.attempt_ins-moved.new.got.items (g.B.Bus.world c.attempt_ins-moved.new.self)
    (g.B.Bus.trace c.attempt_ins-moved.new.self) c.toggle_behind.result
begun g c known = let d = c.destination.ensures in record {
  to = c.destination.result;
  is = in_is c.args.target c.args.ep c.destination.result d.address d.number d.low d.pre d.max;
  fits = in_fits c.args.target c.args.ep c.requires.endpoint.0 c.requires.endpoint.1;
  settled = g.met.B.Bus.settled known c.args.bus.now;
  turned = c.toggle_behind.ensures;
  made = c.attempt_ins-moved.ensures.attempts known;
}

pub returns-in-Whole-clause-steps : goal.returns-in-Whole-clause-steps
returns-in-Whole-clause-steps g c known =
    (ins_whole (begun g (goal.at.returns-in-Whole-clause-steps g c).After-toggle_behind known)
    c.in-Whole.is c.requires.row.0).1

pub returns-in-Whole-clause-asks : goal.returns-in-Whole-clause-asks
returns-in-Whole-clause-asks g c known =
    (ins_whole (begun g (goal.at.returns-in-Whole-clause-asks g c).After-toggle_behind known)
    c.in-Whole.is c.requires.row.0).0

pub returns-in-Faulted-clause-steps : goal.returns-in-Faulted-clause-steps
returns-in-Faulted-clause-steps g c known =
    (ins_cut (begun g (goal.at.returns-in-Faulted-clause-steps g c).After-toggle_behind known)
    c.in-Faulted.is).1

pub returns-in-Faulted-clause-asks : goal.returns-in-Faulted-clause-asks
returns-in-Faulted-clause-asks g c known =
    (ins_cut (begun g (goal.at.returns-in-Faulted-clause-asks g c).After-toggle_behind known)
    c.in-Faulted.is).0

pub returns-in_err-last-in-Answered-clause-steps : goal.returns-in_err-last-in-Answered-clause-steps
returns-in_err-last-in-Answered-clause-steps g c known =
    let told = err_from_is_err_and c.from_residual.result c.from_residual.ensures.1 in
    rw told.1 (ins_lost (begun g (goal.at.returns-in_err-last-in-Answered-clause-steps g
    c).After-toggle_behind known)
    c.in-Answered.is (c.in_err-last-in-Answered.ensures.asks known)
    c.in_err-last-in-Answered.ensures.toggle).1

pub returns-in_err-last-in-Answered-clause-asks : goal.returns-in_err-last-in-Answered-clause-asks
returns-in_err-last-in-Answered-clause-asks g c known =
    let told = err_from_is_err_and c.from_residual.result c.from_residual.ensures.1 in
    rw (told.1, told.2) (ins_lost (begun g (goal.at.returns-in_err-last-in-Answered-clause-asks g
    c).After-toggle_behind known)
    c.in-Answered.is (c.in_err-last-in-Answered.ensures.asks known)
    c.in_err-last-in-Answered.ensures.toggle).0

pub returns-in_ok-last-in-Answered-clause-steps : goal.returns-in_ok-last-in-Answered-clause-steps
returns-in_ok-last-in-Answered-clause-steps g c known =
    let kept = c.add.ensures
    ∙ ap (λ z. c.attempt_ins-moved.new.got.items ++ z) c.bytes.ensures.value in
    (ins_came (begun g (goal.at.returns-in_ok-last-in-Answered-clause-steps g c).After-toggle_behind
    known)
    c.in-Answered.is (c.in_ok-last-in-Answered.ensures.asks known) kept
    c.in_ok-last-in-Answered.ensures.toggle).1

pub returns-in_ok-last-in-Answered-clause-asks : goal.returns-in_ok-last-in-Answered-clause-asks
returns-in_ok-last-in-Answered-clause-asks g c known =
    let kept = c.add.ensures
    ∙ ap (λ z. c.attempt_ins-moved.new.got.items ++ z) c.bytes.ensures.value in
    (ins_came (begun g (goal.at.returns-in_ok-last-in-Answered-clause-asks g c).After-toggle_behind
    known)
    c.in-Answered.is (c.in_ok-last-in-Answered.ensures.asks known) kept
    c.in_ok-last-in-Answered.ensures.toggle).0

pub add-requires : goal.add-requires
add-requires g c =
    let few =
    few_answered c.attempt_ins-moved.result.moved c.args.most c.attempt_ins-moved.result.end
    c.in-Answered.first c.in-Answered.is c.attempt_ins-moved.ensures.fits.0.counts in
    row_room c.attempt_ins-moved.result.moved c.args.most c.args.target.max
    (length c.attempt_ins-moved.new.got.items) (length c.bytes.result.now) few c.requires.row.1
    c.requires.endpoint.0.max_most
    (c.attempt_ins-moved.ensures.fits.1
    ∙ ap (λ k. c.attempt_ins-moved.result.moved * k) c.destination.ensures.max)
    (omega (arith, ap length c.bytes.ensures.value, c.in_ok-last-in-Answered.ensures.fits))

pub returns-in_ok-last-in-Answered-clause-fits : goal.returns-in_ok-last-in-Answered-clause-fits
returns-in_ok-last-in-Answered-clause-fits g c =
    let moved = c.attempt_ins-moved.result.moved in
    let few = few_answered moved c.args.most c.attempt_ins-moved.result.end c.in-Answered.first
    c.in-Answered.is c.attempt_ins-moved.ensures.fits.0.counts in
    let one : (moved + 1) * c.args.target.max ≡ moved * c.args.target.max + c.args.target.max =
    omega arith in
    record {
      some = omega arith;
      few = omega (arith, few);
      size = omega (
        arith,
        one,
        ap length c.add.ensures,
        length-append c.attempt_ins-moved.new.got.items c.bytes.result.now,
        ap length c.bytes.ensures.value,
        c.in_ok-last-in-Answered.ensures.fits,
        c.attempt_ins-moved.ensures.fits.1
            ∙ ap (λ k. moved * k) c.destination.ensures.max,
      );
      turned = flips_next moved c.args.toggle.now c.toggle_behind.result c.data_in_from.new.toggle
          c.toggle_behind.ensures c.in_ok-last-in-Answered.ensures.toggle;
    }
