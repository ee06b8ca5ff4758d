use Rattle.std.proofs.Common.{◌+◌, ◌∙◌, sym, refl, arith}
use Rattle.toml.specs.View.{view}
use Rattle.usb_plan.specs.{Memory, endpoint_in}
use Rattle.usb_plan.proofs.Steps.{AtMost-with_item, AtMost-unless, items_from-step, items_from-end}
use Rattle.usb_plan.proofs.MemoryRefusals.{with_item_is, unless_equal}
use Rattle.usb_plan.proofs.endpoints.endpoints_among.Goals as goal

pub loop-value-init : goal.loop-value-init
loop-value-init c = record {
  so_far = λ _. rw c.new.ensures;
  few = rw c.new.ensures (omega arith);
}

pub loop-value-preserved : goal.loop-value-preserved
loop-value-preserved c =
    let endpoint = endpoint_in (view c.value-item.result) in
    record {
      so_far = λ ne.
          let is = with_item_is c.loop-value.endpoints c.with_endpoint-endpoints.result
          c.endpoint_in.result endpoint c.with_endpoint-endpoints.ensures
          c.endpoint_in.ensures ne in
          rw is.with_item_is (items_from-step endpoint_in c.loop-value.endpoints
          c.args.values.now
          c.loop-value.value-index c.value-item.result endpoint _ c.loop-value-test.true
          c.value-item.is refl (c.loop-value.invariant.so_far is.items_read));
      few = AtMost-unless (c.loop-value.value-index + 1) c.with_endpoint-endpoints.result _
          c.with_endpoint-endpoints.ensures (AtMost-with_item c.loop-value.value-index
          c.loop-value.endpoints c.endpoint_in.result c.loop-value.invariant.few);
    }

pub returns : goal.returns
returns c = unless_equal Memory _ _
    (λ ne. sym (items_from-end endpoint_in c.loop-value.endpoints c.args.values.now
    c.loop-value.value-index c.loop-value-test.false) ∙ c.loop-value.invariant.so_far ne)
