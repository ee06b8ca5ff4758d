use Rattle.std.proofs.Common.{◌∙◌, refl}
use Rattle.usb_run.specs.declared.mode.Mode.TheVariants.{Run}
use Rattle.usb_serve.specs.declared.serving.ServeFault.TheVariants as serve
use Rattle.usb_run.proofs.Interface.{stopped_next, unwritten_next}
use Rattle.usb_serve.proofs.ServedItems.{made, run_begun, run_cut, run_put, run_stopped}
use Rattle.usb_serve.proofs.serving.trace_run.Goals as goal

pub items-init : goal.items-init
items-init g c = λ knows. record {
  items = _;
  run = run_begun Run c.args.runner.now.over c.args.runner.now.host knows
      c.args.runner.now.few_events;
}

pub returns-in_err-item-clause-ends : goal.returns-in_err-item-clause-ends
returns-in_err-item-clause-ends g c = λ knows.
    let r = c.items.invariant knows in
    run_stopped c.from_residual.result (serve.Run c.in_err-item.field-0.0)
    c.from_residual.ensures.1 (stopped_next c.next_item.new.self.over c.in_err-item.field-0.0 refl
    r.run.so_far (c.in_err-item.ensures.next r.run.knows))

pub returns-in_err-item_lines-clause-ends : goal.returns-in_err-item_lines-clause-ends
returns-in_err-item_lines-clause-ends g c = λ knows.
    let r = c.items.invariant knows in
    let item = made r.run c.in-Some.is c.next_item.new.self.over c.next_item.new.self.host
    c.in_ok-item.ensures.next c.in_ok-item.ensures.fewer c.number_of-number.result
    c.number_of-number.ensures in
    run_stopped c.from_residual-in_err-item_lines.result serve.Memory
    c.from_residual-in_err-item_lines.ensures.1 (unwritten_next (λ e. cc e) r.run.so_far
    item.makes)

pub returns-in_err-put_lines-clause-ends : goal.returns-in_err-put_lines-clause-ends
returns-in_err-put_lines-clause-ends g c = λ knows.
    let r = c.items.invariant knows in
    let item = made r.run c.in-Some.is c.next_item.new.self.over c.next_item.new.self.host
    c.in_ok-item.ensures.next c.in_ok-item.ensures.fewer c.number_of-number.result
    c.number_of-number.ensures in
    run_cut r item c.as_slice-in-Some.result.now
    (c.as_slice-in-Some.ensures ∙ c.in_ok-item_lines.ensures)
    c.in_err-put_lines.field-0.0 c.put_lines.new.runner.host c.in_err-put_lines.ensures.puts
    c.from_residual-in_err-put_lines.result c.from_residual-in_err-put_lines.ensures.1

pub items-preserved-in_ok-put_lines : goal.items-preserved-in_ok-put_lines
items-preserved-in_ok-put_lines g c = λ knows.
    let r = c.items.invariant knows in
    let item = made r.run c.in-Some.is c.next_item.new.self.over c.next_item.new.self.host
    c.in_ok-item.ensures.next c.in_ok-item.ensures.fewer c.number_of-number.result
    c.number_of-number.ensures in
    run_put r item c.as_slice-in-Some.result.now
    (c.as_slice-in-Some.ensures ∙ c.in_ok-item_lines.ensures) c.put_lines.new.runner.over
    c.put_lines.new.runner.host c.put_lines.ensures.over c.in_ok-put_lines.ensures.puts

pub items-preserved-in_ok-put_lines-2 : goal.items-preserved-in_ok-put_lines-2
items-preserved-in_ok-put_lines-2 g c = λ knows.
    let r = c.items.invariant knows in
    let item = made r.run c.in-Some.is c.next_item.new.self.over c.next_item.new.self.host
    c.in_ok-item.ensures.next c.in_ok-item.ensures.fewer c.number_of-number.result
    c.number_of-number.ensures in
    run_put r item c.as_slice-in-Some.result.now
    (c.as_slice-in-Some.ensures ∙ c.in_ok-item_lines.ensures) c.put_lines.new.runner.over
    c.put_lines.new.runner.host c.put_lines.ensures.over c.in_ok-put_lines.ensures.puts

pub items-preserved-in_ok-put_lines-3 : goal.items-preserved-in_ok-put_lines-3
items-preserved-in_ok-put_lines-3 g c = λ knows.
    let r = c.items.invariant knows in
    let item = made r.run c.in-Some.is c.next_item.new.self.over c.next_item.new.self.host
    c.in_ok-item.ensures.next c.in_ok-item.ensures.fewer c.number_of-number.result
    c.number_of-number.ensures in
    run_put r item c.as_slice-in-Some.result.now
    (c.as_slice-in-Some.ensures ∙ c.in_ok-item_lines.ensures) c.put_lines.new.runner.over
    c.put_lines.new.runner.host c.put_lines.ensures.over c.in_ok-put_lines.ensures.puts

pub items-preserved-in_ok-put_lines-4 : goal.items-preserved-in_ok-put_lines-4
items-preserved-in_ok-put_lines-4 g c = λ knows.
    let r = c.items.invariant knows in
    let item = made r.run c.in-Some.is c.next_item.new.self.over c.next_item.new.self.host
    c.in_ok-item.ensures.next c.in_ok-item.ensures.fewer c.number_of-number.result
    c.number_of-number.ensures in
    run_put r item c.as_slice-in-Some.result.now
    (c.as_slice-in-Some.ensures ∙ c.in_ok-item_lines.ensures) c.put_lines.new.runner.over
    c.put_lines.new.runner.host c.put_lines.ensures.over c.in_ok-put_lines.ensures.puts

pub items-preserved : goal.items-preserved
items-preserved g c = λ knows.
    let r = c.items.invariant knows in
    let item = made r.run c.in-Some.is c.next_item.new.self.over c.next_item.new.self.host
    c.in_ok-item.ensures.next c.in_ok-item.ensures.fewer c.number_of-number.result
    c.number_of-number.ensures in
    run_put r item c.as_slice-in-Some.result.now
    (c.as_slice-in-Some.ensures ∙ c.in_ok-item_lines.ensures) c.put_lines.new.runner.over
    c.put_lines.new.runner.host c.put_lines.ensures.over c.in_ok-put_lines.ensures.puts
