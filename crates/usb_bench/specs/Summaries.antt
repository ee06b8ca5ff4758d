-- What a host's run comes to.
use Rattle.std.specs.Prelude.{ℕ, ◌==◌, ◌&&◌, nat_lt, Bool, List, ◌++◌, codes, decimal}
use Rattle.std.specs.Prelude.{if◌then◌else◌}
use Rattle.usb_verdict.specs.{tally_text}
use Rattle.usb_bench.specs.declared.judge.Judge.{Judge}

-- nothing was wrong
abbrev pub is_right : Judge → Bool
is_right j = j.tally.wrong == 0 && j.faults == 0

-- `N listings right, M wrong`, and where there were faults in attempts and data, how many
unfoldable pub summary_text : Judge → List ℕ
summary_text j = if nat_lt 0 j.faults
    then tally_text j.tally.right j.tally.wrong ++ codes ", " ++ decimal j.faults
    ++ codes " faults besides"
    else tally_text j.tally.right j.tally.wrong
