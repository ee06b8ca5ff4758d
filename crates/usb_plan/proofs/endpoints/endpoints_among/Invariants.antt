use Rattle.std.proofs.Common.{◌≡◌, ◌≢◌, Ok, Err, [], map, drop}
use Rattle.toml.specs.View.{view}
use Rattle.usb_plan.specs.{Memory, items_from, endpoint_in}
use Rattle.usb_plan.proofs.Steps.{AtMost}
use Rattle.usb_plan.proofs.endpoints.endpoints_among.Given as goal

abbrev pub invariant-loop-value : goal.invariant-loop-value
invariant-loop-value l = record {
  so_far : l.endpoints ≢ Err Memory
      → items_from endpoint_in l.endpoints (map view (drop l.value-index l.values))
      ≡ items_from endpoint_in (Ok []) (map view l.values);
  few : AtMost l.value-index l.endpoints;
}
