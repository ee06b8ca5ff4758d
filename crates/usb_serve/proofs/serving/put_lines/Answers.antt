use Rattle.std.proofs.Common.{◌∙◌, ◌++◌, ◌∷◌, [], Err, List, ℕ, subst, sym, add-one, flat_map}
use Rattle.std.proofs.Common.{take, drop, suc}
use Rattle.std.specs.Global.{Vec}
use Rattle.std.specs.Io.KnownBytes.{Appends}
use Rattle.usb_watch.specs.{AppendsFront}
use Rattle.usb_serve.specs.{LinesPut}
use Rattle.usb_serve.proofs.LineFaults.{line_calm, lines_fail}
use Rattle.usb_run.proofs.Interface.{texts_split, flat_map-take, puts_line, cuts_line}
use Rattle.usb_serve.proofs.serving.put_lines.Goals as goal

abbrev written : Vec ℕ → List ℕ
written v = v.items ++ 10 ∷ []

pub returns-in-Err-clause-puts : goal.returns-in-Err-clause-puts
returns-in-Err-clause-puts g c =
    let vs = c.args.lines.now in
    let i = c.lines.line-index in
    let v = c.line-item.result in
    let line = c.as_slice.ensures.value in
    let h = c.lines.runner.host in
    let l = c.put_line.new.self.host in
    let first = c.args.runner.now.host in
    subst (λ f. LinesPut (flat_map written vs) first (Err f) l) (sym c.report_fault.ensures)
    (lines_fail c.in-Err.fault (flat_map written vs) first h l c.in-Err.ensures.caused
    c.in-Err.ensures.puts.step c.put_line.ensures.puts.again c.lines.invariant.calm
    (cuts_line (flat_map written (take i vs)) (written v)
    (flat_map written (drop (suc i) vs)) (flat_map written vs) c.in-Err.fault
    c.lines.invariant.puts c.put_line.ensures.puts.rests c.in-Err.ensures.puts.step.ends
    (subst (λ x. AppendsFront h.trace l.trace (x ++ 10 ∷ [])) line c.put_line.ensures.puts.front)
    (texts_split written vs i v c.lines-test.true c.line-item.is)))

pub lines-preserved : goal.lines-preserved
lines-preserved g c =
    let vs = c.args.lines.now in
    let i = c.lines.line-index in
    let v = c.line-item.result in
    let line = c.as_slice.ensures.value in
    let h = c.lines.runner.host in
    let l = c.put_line.new.self.host in
    rw (add-one)
    (record {
      puts = puts_line (flat_map written (take i vs)) (written v)
          (flat_map written (take (suc i) vs)) c.lines.invariant.puts
          c.put_line.ensures.puts.rests
          c.in_default.ensures.puts.step.ends.1
          (subst (λ x. Appends h.trace l.trace (x ++ 10 ∷ [])) line c.in_default.ensures.puts.ok)
          (flat_map-take written vs i v c.lines-test.true c.line-item.is);
      over = c.put_line.ensures.over ∙ c.lines.invariant.over;
      calm = line_calm c.args.runner.now.host h l c.in_default.ensures.puts.step.ends;
    })
