use Rattle.std.proofs.Common.{◌≡◌, true, arith, length, ap, sym, ◌∙◌}
use Rattle.std.proofs.lemmas.Result.{IfOk-weaker}
use Rattle.usb_function.specs.{holder_in, IsIndexOf}
use Rattle.usb_world.specs.{KeptAt, Destination, attempt_data}
use Rattle.usb_world.proofs.ways.Routes.{alone_token}
use Rattle.usb_exchange.proofs.ways.Routes.{way_by_index}
use Rattle.usb_exchange.proofs.ways.RoutedAttempts.{index_kept}
use Rattle.usb_world.proofs.holders.OneHolderAttempts.{nobody_there, silence_made}
use Rattle.usb_exchange.proofs.route.make_exchange_by.Goals as goal

pub returns-in-Nobody-clause-made : goal.returns-in-Nobody-clause-made
returns-in-Nobody-clause-made c =
    let n = (attempt_data c.args.attempt.now).addr in
    silence_made _ c.args.damage.now c.args.roots.now
    c.requires.settled
    (nobody_there n c.args.roots.now
    (sym (c.requires.index.0 n (omega (arith, c.requires.attempt.addr_fits)))
    ∙ ap (λ (d : Destination). holder_in c.args.holders.now d.address) (sym c.destination.ensures)
    ∙ sym c.holder.ensures ∙ c.in-Nobody.is)) c.make_silence.new.exchange
    c.make_silence.ensures

pub exchange_at-requires : goal.exchange_at-requires
exchange_at-requires c =
    let n = (attempt_data c.args.attempt.now).addr in
    record {
      attempt = c.requires.attempt;
      settled = c.requires.settled;
      index = c.requires.index;
      way =
          way_by_index n _ c.args.holders.now _
          (omega (arith, c.requires.attempt.addr_fits)) c.requires.index
          (c.as_slice.ensures.value ∙ c.copied-path.ensures
          ∙ c.way-way.ensures.value);
    }

pub exchange_at_port-requires : goal.exchange_at_port-requires
exchange_at_port-requires c =
    let n = (attempt_data c.args.attempt.now).addr in
    record {
      attempt = c.requires.attempt;
      settled = c.requires.settled;
      index = c.requires.index;
      way =
          way_by_index n _ c.args.holders.now _
          (omega (arith, c.requires.attempt.addr_fits)) c.requires.index
          (c.as_slice-in-AtPort.ensures.value ∙ c.copied-path-in-AtPort.ensures
          ∙ c.way-way.ensures.value);
      most =
          let path = c.as_slice-in-AtPort.ensures.value ∙ c.copied-path-in-AtPort.ensures in
          let same : _ = ap length path in
          omega (arith, same, c.way-way.ensures.most);
    }

pub exchange_along-made-requires : goal.exchange_along-made-requires
exchange_along-made-requires c =
    let n = (attempt_data c.args.attempt.now).addr in
    record {
      attempt = c.requires.attempt;
      alone =
          alone_token _ c.args.damage.now c.args.roots.now
          c.way-way.result.now
          c.requires.settled
          (way_by_index n c.args.roots.now c.args.holders.now c.way-way.result.now
          (omega (arith, c.requires.attempt.addr_fits)) c.requires.index c.way-way.ensures.value);
    }

pub renew_unless_kept-requires : goal.renew_unless_kept-requires
renew_unless_kept-requires c =
    let n = (attempt_data c.args.attempt.now).addr in
    let h = c.args.holders.now in
    let old = c.args.roots.now in
    let new = c.exchange_along-made.new.roots in
    let p = c.way-way.result.now in
    IfOk-weaker _ (λ kept. kept ≡ true → KeptAt n 0 old new p)
    (λ kept. kept ≡ true → IsIndexOf h new)
    (λ kept known is. index_kept n h old new p c.requires.settled
    (way_by_index n old h p (omega (arith, c.requires.attempt.addr_fits)) c.requires.index
    c.way-way.ensures.value) (known is) c.requires.index)
    c.exchange_along-made.ensures.kept
