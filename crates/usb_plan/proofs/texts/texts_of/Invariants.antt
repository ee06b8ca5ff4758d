use Rattle.std.proofs.Common.{◌≡◌, ◌≢◌, Ok, Err, [], map, drop}
use Rattle.toml.specs.View.{view}
use Rattle.usb_plan.specs.{Memory, hex_in, items_from}
use Rattle.usb_plan.proofs.Steps.{AtMost}
use Rattle.usb_plan.proofs.texts.texts_of.Given as goal

abbrev pub invariant-loop-value : goal.invariant-loop-value
invariant-loop-value g l = record {
  so_far : l.texts ≢ Err Memory
      → items_from (hex_in g.row.MAX) l.texts (map view (drop l.value-index l.values))
      ≡ items_from (hex_in g.row.MAX) (Ok []) (map view l.values);
  few : AtMost l.value-index l.texts;
}
