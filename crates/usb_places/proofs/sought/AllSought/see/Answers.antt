use Rattle.std.proofs.Common.{All, ◌++◌, drop, length, option_map}
use Rattle.std.proofs.lemmas.List.Elements.{All-take, All-append, All-drop}
use Rattle.usb_places.specs.{IsGood}
use Rattle.usb_places.proofs.Histories.{good_next}
use Rattle.usb_places.proofs.sought.AllSought.see.Goals as goal

pub invariant_of-self : goal.invariant_of-self
invariant_of-self c =
    let old = c.self.inside.sought.items in
    let new : All IsGood c.see_all.new.sought =
    rw (c.see_all.ensures, c.as_mut_slice.ensures.value) (good_next
    (option_map (λ t. t.now) c.args.transfer) c.args.seen.now old c.self.invariant) in
    All-take IsGood c.self.inside.sought.len
    (c.see_all.new.sought ++ drop (length c.see_all.new.sought) old)
    (All-append IsGood c.see_all.new.sought (drop (length c.see_all.new.sought) old) new
    (All-drop IsGood (length c.see_all.new.sought) old c.self.invariant))
