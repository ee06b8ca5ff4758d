-- Loops over values.
use Rattle.std.proofs.Common.{◌≡◌, ℕ, ◌+◌, ◌<◌, ◌≤◌, List, [], ◌∷◌, length, get_or, drop, map}
use Rattle.std.proofs.Common.{Result, Ok, Err, IfOk, refl, sym, ap, ◌∙◌, arith, ◌||◌, true, false}
use Rattle.std.proofs.lemmas.List.{drop_more, drop_all, length_push, length-map}
use Rattle.std.proofs.lemmas.Bool.{le-leb, lt-leb}
use Rattle.std.proofs.lemmas.List.Folds.{list_all-map}
use Rattle.std.specs.List.{list_all, list_any}
use Rattle.usb_plan.specs.{is_table, BadValue, Memory, fault_in_part, sooner, least_fault}
use Rattle.usb_plan.specs.{EqualUnless, read_items, hex_in, data_list, items_from, with_item}
use Rattle.usb_plan.specs.{texts_in, names, is_stall, share_address, tables_in}
use Rattle.toml.specs.Data.{Data}
use Rattle.usb_plan.specs.declared.entry_fault.EntryFault.{EntryFault}
use Rattle.toml.specs.declared.value.Value.{Value}
use Rattle.toml.specs.View.{view, items_view}

-- at most n items
abbrev pub AtMost : {A : Type 0} → ℕ → Result (List A) EntryFault → Type 0
AtMost n items = IfOk items (λ xs. length xs ≤ n)

pub AtMost-with_item : {A : Type 0} (n : ℕ) (items : Result (List A) EntryFault)
    (item : Result A EntryFault) → AtMost n items → AtMost (n + 1) (with_item items item)
unfolding with_item least_fault sooner fault_in_part
AtMost-with_item n (Ok xs) (Ok x) h = rw length_push (omega arith)
AtMost-with_item n (Ok xs) (Err k) h = tt
AtMost-with_item n (Err k) (Ok x) h = tt
AtMost-with_item n (Err k) (Err l) h = tt

-- refused memory is no item
pub AtMost-unless : {A : Type 0} (n : ℕ) (read items : Result (List A) EntryFault)
    → EqualUnless Memory read items → AtMost n items → AtMost n read
AtMost-unless n (Ok xs) items same h = rw same at h
AtMost-unless n (Err k) items same h = tt

-- the data of the values from a place on
pub view_drop : (vs : List Value) (i : ℕ) (v : Value) → i < length vs → v ≡ get_or vs i v
    → map view (drop i vs) ≡ view v ∷ map view (drop (i + 1) vs)
view_drop vs i v lt is = ap (map view) (drop_more vs i v lt) ∙ rw (← is)

pub data_list_view : (vs : List Value) → data_list (items_view vs) ≡ map view vs
data_list_view [] = refl
data_list_view (v ∷ vs) = ap (λ ds. view v ∷ ds) (data_list_view vs)

pub are_tables_view : (vs : List Value) → list_all is_table (map view vs)
    ≡ list_all (λ v. is_table (view v)) vs
are_tables_view vs = list_all-map is_table view vs

-- how an array is read as tables, by its length and its values
pub tables_all : (most : ℕ) (d : Data) (vs : List Value) → Ok (map view vs) ≡ read_items d
    → length vs ≤ most → list_all (λ v. is_table (view v)) vs ≡ true
    → tables_in most d ≡ Ok (map view vs)
unfolding tables_in
tables_all most d vs e le all = rw (← e) (let few : length (map view vs) ≤ most =
    rw length-map le in
    rw (le-leb (length (map view vs)) most few, are_tables_view vs, all) refl)

pub tables_others : (most : ℕ) (d : Data) (vs : List Value) → Ok (map view vs) ≡ read_items d
    → length vs ≤ most → list_all (λ v. is_table (view v)) vs ≡ false
    → tables_in most d ≡ Err BadValue
unfolding tables_in
tables_others most d vs e le some = rw (← e) (let few : length (map view vs) ≤ most =
    rw length-map le in
    rw (le-leb (length (map view vs)) most few, are_tables_view vs, some) refl)

pub tables_many : (most : ℕ) (d : Data) (vs : List Value) → Ok (map view vs) ≡ read_items d
    → most < length vs → tables_in most d ≡ Err BadValue
unfolding tables_in
tables_many most d vs e gt = rw (← e) (let many : most < length (map view vs) =
    rw length-map gt in rw (lt-leb (length (map view vs)) most many) refl)

pub items_from-step : {A : Type 0} (read : Data → Result A EntryFault)
    (items : Result (List A) EntryFault) (vs : List Value) (i : ℕ) (v : Value)
    (item : Result A EntryFault) (total : Result (List A) EntryFault) → i < length vs
    → v ≡ get_or vs i v → item ≡ read (view v)
    → items_from read items (map view (drop i vs)) ≡ total
    → items_from read (with_item items item) (map view (drop (i + 1) vs)) ≡ total
unfolding items_from
items_from-step read items vs i v item total lt is e so_far =
    rw e (sym (ap (items_from read items) (view_drop vs i v lt is)) ∙ so_far)

pub items_from-end : {A : Type 0} (read : Data → Result A EntryFault)
    (items : Result (List A) EntryFault) (vs : List Value) (i : ℕ) → length vs ≤ i
    → items_from read items (map view (drop i vs)) ≡ items
unfolding items_from
items_from-end read items vs i le = rw (drop_all i vs le)

pub texts_few : (count most : ℕ) (d : Data) (vs : List Value) → Ok (map view vs) ≡ read_items d
    → length vs ≤ count → texts_in count most d ≡ items_from (hex_in most) (Ok []) (map view vs)
unfolding texts_in
texts_few count most d vs e le = rw (← e) (let few : length (map view vs) ≤ count =
    rw length-map le in rw (le-leb (length (map view vs)) count few))

pub texts_many : (count most : ℕ) (d : Data) (vs : List Value) → Ok (map view vs) ≡ read_items d
    → count < length vs → texts_in count most d ≡ Err BadValue
unfolding texts_in
texts_many count most d vs e gt = rw (← e) (let many : count < length (map view vs) =
    rw length-map gt in rw (lt-leb (length (map view vs)) count many))

pub some_names_view : (word : List ℕ) (vs : List Value) → list_any (names word) (map view vs)
    ≡ list_any (λ v. names word (view v)) vs
some_names_view word [] = refl
some_names_view word (v ∷ vs) = ap (λ b. names word (view v) || b) (some_names_view word vs)

pub some_share_view : (d : Data) (vs : List Value) → list_any (share_address d) (map view vs)
    ≡ list_any (λ v. share_address d (view v)) vs
some_share_view d [] = refl
some_share_view d (v ∷ vs) = ap (λ b. share_address d (view v) || b) (some_share_view d vs)

pub are_stalls_view : (vs : List Value) → list_all is_stall (map view vs)
    ≡ list_all (λ v. is_stall (view v)) vs
are_stalls_view vs = list_all-map is_stall view vs
