use Rattle.std.proofs.Common.{◌≡◌, length, ℕ, List, false}
use Rattle.usb_port.specs.{IsFull, HasAddresses}
use Rattle.usb_host.specs.Accounts.{Accounts}
use Rattle.usb_table.specs.{is_at_or_below, without, pipes_at}
use Rattle.usb_host.proofs.host.Host.forget.Given as goal

abbrev pub invariant-entries : goal.invariant-entries
invariant-entries g l = record {
  others : l.self-inside ≡ record l.initial.self-inside {
    table = l.self-inside.table;
    pool = l.self-inside.pool;
  };
  rest : without l.path l.self-inside.table.entries
      ≡ without l.path l.initial.self-inside.table.entries;
  accounts : Accounts l.self-inside.table.entries l.self-inside.pool;
  range : HasAddresses l.self-inside.pool;
  full : IsFull l.self-inside.pool → IsFull l.initial.self-inside.pool;
  pipes : (q : List ℕ) → is_at_or_below q l.path ≡ false → pipes_at q l.self-inside.table
      ≡ pipes_at q l.initial.self-inside.table;
}

abbrev pub decreases-entries : goal.decreases-entries
decreases-entries g l = length l.self-inside.table.entries
