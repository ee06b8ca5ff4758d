use Rattle.std.proofs.Common.{◌≡◌, ◌+◌, ◌<◌, ◌^◌, [], map, drop, true}
use Rattle.toml.specs.View.{view}
use Rattle.usb_world.specs.{damages_fit}
use Rattle.usb_plan.specs.{damages_from, last_from}
use Rattle.usb_plan.proofs.damage.damages_of.Given as goal

abbrev pub invariant-loop-i : goal.invariant-loop-i
invariant-loop-i l = record {
  so_far : damages_from (l.i + 1) l.done (map view (drop l.i l.values))
      ≡ damages_from 1 [] (map view l.values);
  fit : damages_fit 0 l.done ≡ true;
  last : l.last ≡ last_from 0 l.done;
  most : l.last < 2 ^ 63;
}
