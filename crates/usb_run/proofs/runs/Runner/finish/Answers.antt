use Rattle.std.proofs.Common.{refl, sym, subst, Ok}
use Rattle.usb_run.specs.{Memory, Next, behind}
use Rattle.usb_run.proofs.items.ReportedItems.{ReportSoFar, report_begun, report_over}
use Rattle.usb_run.proofs.items.ReportedItems.{report_stopped, report_told}
use Rattle.usb_run.proofs.items.Transcripts.{appends_no_text, stopped_next, told_next}
use Rattle.usb_run.proofs.runs.Runner.finish.Goals as goal

pub items-init : goal.items-init
items-init g c = λ knows.
    subst (λ l. ReportSoFar c.args.self.now.over c.args.self.now.host l c.args.self.now.over
    c.args.self.now.host) (sym c.new-items.ensures.items)
    (report_begun c.args.self.now.over c.args.self.now.host knows)

pub returns-in_err-item : goal.returns-in_err-item
returns-in_err-item g c = record {
  finishes = λ knows.
      let so_far = c.items.invariant knows in
      report_stopped c.from_residual.result c.in_err-item.field-0.0 c.from_residual.ensures.1
      (stopped_next c.next_item.new.self.over c.in_err-item.field-0.0 refl so_far.so_far
      (c.in_err-item.ensures.next so_far.knows)) c.in_err-item.ensures.caused;
}

pub items-preserved : goal.items-preserved
items-preserved g c = λ knows.
    let so_far = c.items.invariant knows in
    let on = c.next_item.new.self.over in
    let k = c.next_item.new.self.host in
    let next = subst (λ x. Next c.items.self.over c.items.self.host (Ok x) on k) c.in-Some.is
    (c.in_ok-item.ensures.next so_far.knows) in
    report_told so_far c.in-Some.item on k c.push.new.self.items next c.in_ok-push.ensures.items

pub returns-in_err-push : goal.returns-in_err-push
returns-in_err-push g c = record {
  finishes = λ knows.
      let so_far = c.items.invariant knows in
      let on = c.next_item.new.self.over in
      let k = c.next_item.new.self.host in
      let next = subst (λ x. Next c.items.self.over c.items.self.host (Ok x) on k) c.in-Some.is
      (c.in_ok-item.ensures.next so_far.knows) in
      report_stopped c.from_residual-in_err-push.result Memory
      c.from_residual-in_err-push.ensures.1
      (behind (λ cut. cut) (told_next so_far.so_far next (appends_no_text k))) tt;
}

pub returns : goal.returns
returns g c = record {
  finishes = λ knows.
      let so_far = c.items.invariant knows in
      let on = c.next_item.new.self.over in
      let k = c.next_item.new.self.host in
      let next = subst (λ x. Next c.items.self.over c.items.self.host (Ok x) on k) c.in_default.is
      (c.in_ok-item.ensures.next so_far.knows) in
      report_over so_far on k _ next refl c.attempts.ensures c.address_losses.ensures
      c.worst_address_run.ensures;
}
