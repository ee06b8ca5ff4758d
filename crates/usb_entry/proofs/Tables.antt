-- Tables that are made one by one.
use Rattle.std.proofs.Common.{◌≡◌, ◌∙◌, sym, ap, subst, refl, arith, ℕ, ◌+◌, ◌<◌, ◌≤◌, Bool, List}
use Rattle.std.proofs.Common.{[], ◌∷◌, ◌++◌, length, get_or, take, drop, append_assoc, Option, Err}
use Rattle.std.proofs.Common.{inl, inr}
use Rattle.std.proofs.lemmas.List.{append-nil, length-take-le, take-append-drop, take_all}
use Rattle.std.proofs.lemmas.List.{take_more}
use Rattle.std.specs.List.{AllByRecursion}
use Rattle.usb_entry.specs.{AddsTable, AreTables, Configuration, Device, Empty, EntryFault}
use Rattle.usb_entry.specs.{HasSourceFault, IsSource, IsTable, LeftOver, MarksAtWrite, Memory}
use Rattle.usb_entry.specs.{Missing, NoName, Source, StopsAt, TooMany, Write, WritesEntries}

tables-push : (ports : ℕ) (before : List Source) (source : Source) (tables table : List ℕ)
    → AreTables ports before tables → IsTable ports source table
    → AreTables ports (before ++ source ∷ []) (tables ++ table)
tables-push ports [] source tables table h new =
    (table, [], new, refl, ap (λ t. t ++ table) h ∙ sym (append-nil table))
tables-push ports (s ∷ before) source tables table h new = (
  h.0,
  h.1 ++ table,
  h.2,
  tables-push ports before source h.1 table h.3 new,
  ap (λ t. t ++ table) h.4 ∙ append_assoc h.0 h.1 table,
)

-- the table of one more is behind those of the first
pub made_more : (ports : ℕ) (sources : List Source) (made : ℕ) (d : Source) (tables now : List ℕ)
    → made < length sources → AreTables ports (take made sources) tables
    → AddsTable ports (get_or sources made d) tables now
    → AreTables ports (take (made + 1) sources) now
made_more ports sources made d tables now lt h new =
    let source = get_or sources made d in
    let more = tables-push ports (take made sources) source tables new.0 h new.1 in
    subst (λ s. AreTables ports s now) (sym (take_more sources made d lt))
    (subst (AreTables ports (take made sources ++ source ∷ [])) (sym new.2) more)

pub made_all : (ports : ℕ) (sources : List Source) (made : ℕ) (tables : List ℕ)
    → length sources ≤ made → AreTables ports (take made sources) tables
    → AreTables ports sources tables
made_all ports sources made tables all h =
    subst (λ s. AreTables ports s tables) (take_all made sources all) h

each_is : (ports : ℕ) (before : List Source) (tables : List ℕ) → AreTables ports before tables
    → AllByRecursion IsSource before
each_is ports [] tables h = tt
each_is ports (s ∷ before) tables h =
    ((h.2.device, h.2.is_device), each_is ports before h.1 h.3)

-- the first have tables, and the next has a fault
pub stops_at : (ports : ℕ) (sources : List Source) (made : ℕ) (d : Source) (tables : List ℕ)
    (fault : EntryFault) → made < length sources → AreTables ports (take made sources) tables
    → HasSourceFault (get_or sources made d) fault → StopsAt sources made fault
stops_at ports sources made d tables fault lt h why =
    let source = get_or sources made d in
    record {
      before = take made sources;
      source = source;
      rest = drop (made + 1) sources;
      split = sym (take-append-drop (made + 1) sources)
          ∙ ap (λ l. l ++ drop (made + 1) sources) (take_more sources made d lt)
          ∙ append_assoc (take made sources) (source ∷ []) (drop (made + 1) sources);
      count = sym (length-take-le made sources (omega (arith, lt)));
      each = each_is ports (take made sources) tables h;
      why = why;
    }

-- memory may be refused once a table is made
pub memory_at : (ports : ℕ) (source : Source) (table : List ℕ) → IsTable ports source table
    → HasSourceFault source Memory
memory_at ports source table h = inr (h.is_device.named, tt)

-- no source is at fault where the writer failed
not_write : (sources : List Source) (place : ℕ) → StopsAt sources place Write → ⊥
not_write sources place h = elim h.why [
  | inl no_name ↦ let same : Write ≡ NoName = no_name.0 in cc
  | inr why ↦ why.1
]

-- what a call that stops leaves of the writer
pub stopped : (ports : ℕ) (sources : List Source) (place : ℕ) (fault : EntryFault)
    (before now : Option (List ℕ)) (marked : Bool) → StopsAt sources place fault → now ≡ before
    → WritesEntries ports sources before (Err (place, fault)) now
    × MarksAtWrite (Err (place, fault)) marked marked
stopped ports sources place NoName before now marked h same = ((h, same), refl)
stopped ports sources place Empty before now marked h same = ((h, same), refl)
stopped ports sources place (Device why) before now marked h same = ((h, same), refl)
stopped ports sources place TooMany before now marked h same = ((h, same), refl)
stopped ports sources place (Configuration at why) before now marked h same = ((h, same), refl)
stopped ports sources place (Missing at) before now marked h same = ((h, same), refl)
stopped ports sources place (LeftOver at) before now marked h same = ((h, same), refl)
stopped ports sources place Write before now marked h same = absurd (not_write sources place h)
stopped ports sources place Memory before now marked h same = ((h, same), refl)
