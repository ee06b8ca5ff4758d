use Rattle.std.proofs.Common.{◌≡◌, ◌∙◌, sym, refl, arith, Err, None, Ok, true}
use Rattle.usb_bus.proofs.Interface.{went_then, went_wider}
use Rattle.usb_table.specs.{first_unclear}
use Rattle.usb_table.proofs.levels.PathCalls.{idle_steps}
use Rattle.usb_table.proofs.TransferLeaves.{both_cleared, first_failed, second_missed}
use Rattle.usb_table.proofs.levels.StandingPipes.{placed_made}
use Rattle.usb_table.proofs.transfers.PlainRequests.{told_error}
use Rattle.usb_table.proofs.function_pipes.FunctionPipes.clear_halt.Goals as goal

pub clear_first-requires-2 : goal.clear_first-requires-2
clear_first-requires-2 g c = placed_made c.args.self.now c.clear_first.new.self
    c.clear_first.ensures.made c.requires

pub returns-in-Some-clause-steps : goal.returns-in-Some-clause-steps
returns-in-Some-clause-steps g c known = idle_steps 3200 _ _

pub returns-in_err-clear_first-clause-cleared : goal.returns-in_err-clear_first-clause-cleared
returns-in_err-clear_first-clause-cleared g c known =
    rw (
      sym c.clear_miss.ensures ∙ c.in_default.is,
      told_error c.in_err-clear_first.field-0.0 c.from_residual.result
          c.from_residual.ensures.0 c.from_residual.ensures.1,
    )
    (first_failed c.args.self.now c.clear_first.new.self c.requires _
    (Err c.in_err-clear_first.field-0.0) _ (c.in_err-clear_first.ensures.cleared known)
    c.in_err-clear_first.field-0.0 refl)

pub returns-in-Some-first_unclear-clause-steps : goal.returns-in-Some-first_unclear-clause-steps
returns-in-Some-first_unclear-clause-steps g c known =
    went_wider 1600 3200 (c.clear_first.ensures.steps known) (omega arith)

pub returns-in-Some-first_unclear-clause-cleared : goal.returns-in-Some-first_unclear-clause-cleared
returns-in-Some-first_unclear-clause-cleared g c known =
    rw (sym c.clear_miss.ensures ∙ c.in_default.is)
    (second_missed c.args.self.now c.clear_first.new.self c.requires _
    (Ok c.in_ok-clear_first.field-0) _ (c.in_ok-clear_first.ensures.cleared known)
    c.in_ok-clear_first.field-0 refl c.in-Some-first_unclear.why
    (sym c.first_unclear.ensures ∙ c.in-Some-first_unclear.is))

pub returns-clause-steps : goal.returns-clause-steps
returns-clause-steps g c known = went_then 1600 1600 (c.clear_first.ensures.steps known)
    (c.clear_first-2.ensures.steps known)

pub returns-clause-cleared : goal.returns-clause-cleared
returns-clause-cleared g c known =
    let clear : first_unclear true c.clear_first.new.self ≡ None =
    sym c.first_unclear.ensures ∙ c.in_default-first_unclear.is in
    rw (sym c.clear_miss.ensures ∙ c.in_default.is)
    (both_cleared c.args.self.now c.clear_first.new.self c.requires _
    (Ok c.in_ok-clear_first.field-0) _ (c.in_ok-clear_first.ensures.cleared known) clear
    c.in_ok-clear_first.field-0 refl c.clear_first-2.result c.table_answer.result
    c.table_answer.ensures c.clear_first-2.new.self _ (c.clear_first-2.ensures.cleared known))
