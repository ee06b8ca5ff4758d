use Rattle.std.proofs.Common.{ℕ, [], ◌∷◌, ◌++◌, flat_map, take, drop, suc, rules}
use Rattle.std.specs.Global.{Vec}
use Rattle.usb_watch.proofs.Interface.{front_after}
use Rattle.usb_run.proofs.Interface.{texts_split}
use Rattle.usb_serve.proofs.serving.write_lines.Goals as goal

pub returns-in_err-write_line-clause-puts : goal.returns-in_err-write_line-clause-puts
returns-in_err-write_line-clause-puts g c =
    let vs = c.args.lines.now in
    let i = c.lines.line-index in
    let v = c.line-item.result in
    let written = λ (x : Vec ℕ). x.items ++ 10 ∷ [] in
    record {
      front = front_after _ _ _ (flat_map written (take i vs)) (written v)
          (flat_map written (drop (suc i) vs)) (flat_map written vs)
          (texts_split written vs i v c.lines-test.true c.line-item.is) c.lines.invariant.wrote
          (rw c.as_slice.ensures.value at c.write_line.ensures.puts.front);
      ok = search rules;
      unmarked = search rules;
      marked = search rules;
    }
