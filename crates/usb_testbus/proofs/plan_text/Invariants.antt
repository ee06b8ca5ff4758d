use Rattle.std.proofs.Common.{◌≡◌, ◌++◌, codes, decimal, flat_map, drop, string_bytes}
use Rattle.usb_testbus.proofs.plan_text.Given as goal

-- what is written, and the tables to come
abbrev pub invariant-tables : goal.invariant-tables
invariant-tables l =
    string_bytes l.text ++ flat_map (λ t. t.now) (drop l.table-index l.fn.tables)
    ≡ codes "limit = " ++ decimal l.fn.limit ++ codes "\nroots = 1\n" ++ flat_map (λ t. t.now)
    l.fn.tables
