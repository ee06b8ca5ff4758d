use Rattle.std.proofs.Common.{◌≡◌, ◌≢◌, ◌∙◌, Result, Ok, Err, refl, inl}
use Rattle.usb_run.proofs.Interface.{at_fault}
use Rattle.usb_serve.specs.{ItemsWritten, ServeFault}
use Rattle.usb_serve.specs.declared.serving.ServeFault.TheVariants as serve
use Rattle.usb_serve.proofs.ServedItems.{made, untraced_begun, untraced_cut, untraced_over}
use Rattle.usb_serve.proofs.ServedItems.{untraced_stopped, untraced_told}
use Rattle.usb_serve.proofs.serving.write_items.Goals as goal

pub returns-in-Err-clause-written : goal.returns-in-Err-clause-written
returns-in-Err-clause-written g c = inl (record { refused = refl; nothing = refl })

pub items-init : goal.items-init
items-init g c = record {
  so_far = untraced_begun c.in-Ok.ensures.opened _ _ c.in-Ok.runner.over c.in-Ok.ensures.going
      c.in-Ok.runner.few_events;
  unmarked = refl;
}

pub returns-in_err-item-clause-written : goal.returns-in_err-item-clause-written
returns-in_err-item-clause-written g c =
    at_fault (λ x. ItemsWritten c.args.plan.now (g.L.ItemLines.lines c.args.lines.now)
    (g.T.Trace.text c.args.writer.now) x (g.T.Trace.text c.items.writer))
    c.from_residual.result (serve.Run c.in_err-item.field-0.0) c.from_residual.ensures.1
    (untraced_stopped c.items.invariant.so_far c.next_untraced.new.runner.over
    c.next_untraced.new.runner.host c.in_err-item.field-0.0 c.in_err-item.ensures.next
    c.in_err-item.ensures.caused c.next_untraced.new.runner.owning.single)

pub returns-in_err-write_item-clause-written : goal.returns-in_err-write_item-clause-written
returns-in_err-write_item-clause-written g c =
    let r = c.items.invariant.so_far in
    let k = c.next_untraced.new.runner.host in
    let now = g.T.Trace.text c.write_item.new.writer in
    at_fault (λ x. ItemsWritten c.args.plan.now (g.L.ItemLines.lines c.args.lines.now)
    (g.T.Trace.text c.args.writer.now) x now) c.from_residual-in_err-write_item.result
    c.in_err-write_item.field-0.0 c.from_residual-in_err-write_item.ensures.1
    (untraced_cut r (made r.run c.in-Some.is c.next_untraced.new.runner.over k
    c.in_ok-item.ensures.next c.in_ok-item.ensures.fewer c.number_of-number.result
    c.number_of-number.ensures) c.next_untraced.new.runner.owning.single now
    c.in_err-write_item.field-0.0 c.in_err-write_item.ensures.written)

never_failed : {A : Type 0} {result : Result A ServeFault} {done : A} → result ≡ Ok done
    → result ≢ Err serve.Write
never_failed was e = cc

pub items-preserved : goal.items-preserved
items-preserved g c =
    let r = c.items.invariant.so_far in
    record {
      so_far = untraced_told r (made r.run c.in-Some.is c.next_untraced.new.runner.over
          c.next_untraced.new.runner.host c.in_ok-item.ensures.next c.in_ok-item.ensures.fewer
          c.number_of-number.result c.number_of-number.ensures) _
          c.in_ok-write_item.ensures.written;
      unmarked = c.write_item.ensures.writer.kept (never_failed c.in_ok-write_item.was)
          ∙ c.items.invariant.unmarked;
    }

pub returns-clause-written : goal.returns-clause-written
returns-clause-written g c = untraced_over c.items.invariant.so_far _ c.in_default.is
    c.next_untraced.new.runner.over c.next_untraced.new.runner.host c.in_ok-item.ensures.next
    c.next_untraced.new.runner.owning.single
