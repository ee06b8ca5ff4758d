use Rattle.std.proofs.Common.{◌∙◌, ap, inr}
use Rattle.usb_verdict.specs.{fault_line_text}
use Rattle.usb_bench.specs.{IsFaultOf}
use Rattle.usb_bench.proofs.Listings.{fault_of_text, line_breaks, line_joins}
use Rattle.usb_bench.proofs.listing.with_line.Goals.{in-Ok+in-Err-take, in-Err}
use Rattle.usb_bench.proofs.listing.with_line.Goals as goal

pub returns-in-Ok-take-clause-taken : goal.returns-in-Ok-take-clause-taken
returns-in-Ok-take-clause-taken g c =
    line_joins _ _ _ _ _ c.in-Ok.ensures.cases.0 c.in-Ok.ensures.cases.1 c.in-Ok-take.ensures.taken

pub returns : goal.returns
returns g c =
    let fault = c.match-from_utf8.fault in
    let text = c.as_slice.ensures.value ∙ c.in_ok-text-in_default.ensures
    ∙ ap (λ n. fault_line_text n fault) (c.attempts.ensures.value
    ∙ ap (λ w. w.attempts) c.bus.ensures.world) in
    let why : IsFaultOf c.args.listing c.args.line.now fault = elim c.match-from_utf8.branch [
      | in-Ok+in-Err-take w ↦ fault_of_text _ _ _ _ w.in-Ok.ensures.cases.0 w.in-Ok.ensures.cases.1
          (rw w.fault-is w.in-Err-take.ensures.fault) c.in_default.not-Memory
      | in-Err w ↦ inr (w.in-Err.ensures.cases.0, w.fault-is)
    ] in
    record {
      taken = line_breaks _ _ _ _ _ fault why text c.in_ok-put-in_default.ensures.said;
      fault = tt;
    }
