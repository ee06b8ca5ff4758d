use Rattle.std.proofs.Common.{◌≡◌, ◌<◌, length, false, arith}
use Rattle.std.proofs.lemmas.Grind.{common_steps}
use Rattle.std.proofs.lemmas.List.Elements.{All-push}
use Rattle.usb_device.specs.{is_named, IsSpec}
use Rattle.usb_scene.proofs.Names.{names_differ-push}
use Rattle.usb_scene.proofs.devices.Devices.push.Goals as goal

pub invariant_of-self-2 : goal.invariant_of-self-2
invariant_of-self-2 c =
    let new : is_named c.self.inside.specs.items c.args.spec.name ≡ false =
    rw c.self.view_is c.requires.name in
    let room : length c.self.inside.specs.items < 127 = rw c.self.view_is c.requires.room in
    rw c.in_ok-push.ensures.items (record {
      count = grind (arith, common_steps, room);
      names = names_differ-push c.self.inside.specs.items c.args.spec c.self.invariant.names new;
      ruled = All-push IsSpec c.self.inside.specs.items c.args.spec c.self.invariant.ruled
          c.keeps_rules.ensures;
    })
