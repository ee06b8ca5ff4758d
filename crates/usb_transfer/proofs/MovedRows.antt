-- How the rows of a bulk transfer join.
use Rattle.std.proofs.Common.{◌≡◌, ◌≢◌, ◌∙◌, inl, inr, refl, sym, ap, subst, arith, ℕ, zero, suc}
use Rattle.std.proofs.Common.{◌+◌, ◌-◌, ◌*◌, ◌<◌, ◌≤◌, min, List, [], ◌++◌, length, take, drop}
use Rattle.std.proofs.Common.{Option, None, Result, Ok, Err, IsErr, IsErrAnd, append_assoc}
use Rattle.std.proofs.Common.{append-nil, length-append, length-drop, length-take, take-append-drop}
use Rattle.std.proofs.Common.{mul-le-mul_right}
use Rattle.std.proofs.Math.Nat.{add-mul}
use Rattle.std.proofs.Math.Seq.{drop-append-add, take-append-add}
use Rattle.std.specs.Global.{Vec}
use Rattle.std.specs.Int.{div_ceil}
use Rattle.std.proofs.lemmas.Grind.{div_ceil_times}
use Rattle.std.proofs.lemmas.List.{take-append-le, take-take, take_all, take_min}
use Rattle.usb_packet.specs.{Toggle, other, flips}
use Rattle.usb_world.specs.{World}
use Rattle.usb_bus.specs.{StepRun}
use Rattle.usb_bus.proofs.Interface.{went_then, went_wider}
use Rattle.usb_transfer.specs.{AskedFull, AttemptsMade, Ends, RowCame, RowGone, RowKept, RowLost}
use Rattle.usb_transfer.specs.{SentFull, Target, TransFault, none_asked, none_sent, one_asked}
use Rattle.usb_transfer.specs.{one_sent, transaction_bound, Came, FaultAfter, Fetches, Gave}
use Rattle.usb_transfer.specs.{PacketsReceived, PacketsSent, PipeFault, Puts, as_pipe_fault}
use Rattle.usb_transfer.specs.Moves.{packet}
use Rattle.usb_transfer.specs.declared.fault.PipeFault.TheVariants.{Memory}
use Rattle.usb_transfer.proofs.MovedPackets.{Coming, Moved, PacketsMoving, all_received, few_full}

-- How many packets

ceil_least : (a max n : ℕ) → 1 ≤ max → n * max < a + max → n ≤ div_ceil a max
ceil_least a max n least lt = grind (arith, div_ceil_times)

both_times : (p n max rest after row : ℕ) → p * max < after + max → n * max < row + max → row ≤ rest
    → after ≡ rest - min rest (n * max) → (p + n) * max < rest + max
both_times zero n max rest after row lt gone le is = omega (arith, gone, le)
both_times (suc k) n max rest after row lt gone le is = grind (arith, add-mul)

-- after a row there are as many packets fewer
pub rows_less : (max rest n row after : ℕ) → 1 ≤ max → row ≤ rest → n ≤ div_ceil row max
    → after ≡ rest - min rest (n * max) → div_ceil after max + n ≤ div_ceil rest max
rows_less max rest n row after least le few is =
    let d = div_ceil_times row max least in
    let c = div_ceil_times after max least in
    let most : n * max ≤ div_ceil row max * max = mul-le-mul_right max few in
    ceil_least rest max (div_ceil after max + n) least (grind (arith, both_times))

-- fewer bytes are no more packets
pub fewer_packets : (max row rest : ℕ) → 1 ≤ max → row ≤ rest → div_ceil row max ≤ div_ceil rest max
fewer_packets max row rest least le = grind (arith, ceil_least, div_ceil_times)

-- packets after full ones
more_packets : (n max row rest total : ℕ) → 1 ≤ max → row ≤ rest → total ≡ n * max + rest
    → n + div_ceil row max ≤ div_ceil total max
more_packets n max row rest total least le is =
    let d = div_ceil_times row max least in
    ceil_least total max (n + div_ceil row max) least
    (omega (arith, add-mul n (div_ceil row max) max, d, le, is))

flips_add : (k n m : ℕ) (t : Toggle) → m ≡ n + k → flips m t ≡ flips k (flips n t)
unfolding flips
flips_add zero n m t e = grind arith
flips_add (suc k) n m t e = let step : m ≡ suc (n + k) = omega (arith, e) in
    ap (λ z. flips z t) step ∙ ap other (flips_add k n (n + k) t refl)

-- the packets of a row are the first of the bytes that it was cut from
row_parts : (rest row front tail : List ℕ) (m full n max : ℕ) → row ≡ take m rest
    → m ≡ min (length rest) (64 * max) → row ≡ front ++ tail → length front ≡ full * max
    → n ≡ full + 1 → n ≤ 64 → front ++ take max tail ≡ take (min (length rest) (n * max)) rest
row_parts rest row front tail m full n max is size split long count few =
    let wide : n * max ≤ 64 * max = mul-le-mul_right max few in
    let one : n * max ≡ full * max + max = grind (arith, add-mul) in
    let whole : take (n * max) row ≡ front ++ take max tail = grind (arith, take-append-add) in
    let long_row = ap length is ∙ length-take m rest in
    sym whole ∙ sym (take_min (n * max) row)
    ∙ ap (λ l. take (min (n * max) (length row)) l) is
    ∙ take-take (min (n * max) (length row)) m rest (omega (arith, long_row))
    ∙ ap (λ k. take k rest) (omega (arith, long_row, size, wide))

append_same : (xs ys zs : List ℕ) → xs ++ ys ≡ xs ++ zs → ys ≡ zs
append_same xs ys zs e = sym (drop-append-add xs ys 0) ∙ ap (λ l. drop (length xs + 0) l) e
    ∙ drop-append-add xs zs 0

-- what is left of a row is a prefix of what is left of the bytes that it was cut from
module _ (rest row front tail : List ℕ) (m full max : ℕ) (is : row ≡ take m rest)
    (size : m ≡ min (length rest) (64 * max)) (split : row ≡ front ++ tail)
    (long : length front ≡ full * max) (few : full < 64) where
  row_left : rest ≡ front ++ drop (length front) rest
  row_left =
      let long_row = ap length is ∙ length-take m rest in
      let parts = ap length split ∙ length-append front tail in
      let fits : length front ≤ m = omega (arith, long_row, parts) in
      let first : take (length front) rest ≡ front =
      sym (take-take (length front) m rest fits) ∙ ap (λ l. take (length front) l) (sym is ∙ split)
      ∙ take-append-le (length front) front tail (omega arith)
      ∙ take_all (length front) front (omega arith) in
      sym (take-append-drop (length front) rest) ∙ ap (λ l. l ++ drop (length front) rest) first

  row_next : take max tail ≡ take max (drop (length front) rest)
  row_next =
      let n = full + 1 in
      let one : n * max ≡ length front + max = omega (arith, add-mul full 1 max, long) in
      let turned : min (length rest) (n * max) ≡ min (n * max) (length rest) = omega arith in
      append_same front (take max tail) (take max (drop (length front) rest))
      (row_parts rest row front tail m full n max is size split long refl (omega (arith, few))
      ∙ ap (λ k. take k rest) turned ∙ take_min (n * max) rest
      ∙ ap (λ l. take (n * max) l) row_left
      ∙ ap (λ k. take k (front ++ drop (length front) rest)) one
      ∙ take-append-add front (drop (length front) rest) max)

-- Packets that were moved by one attempt each

record Lasted (n : ℕ) (old new : World) : Type 0 where
  least : old.attempts + n ≤ new.attempts
  sound : new.fault ≡ None → old.fault ≡ None

one_more : {n : ℕ} {old mid new : World} → Lasted n old mid → AttemptsMade 1 mid new
    → Lasted (n + 1) old new
one_more l w = grind arith

none_lasted : (w : World) → Lasted 0 w w
none_lasted w = grind arith

module _ {n : ℕ} {first toggle : Toggle} {old mid : World} {t r : Option (List ℕ)}
    (m : Moved n first toggle old t mid r) {full : ℕ} {now : World} (l : Lasted full mid now) where
  -- with one more
  row_moved : (k : ℕ) (next : Toggle) {new : World} {s : Option (List ℕ)} → k ≡ full + 1
      → StepRun (transaction_bound * k) mid r new s → AttemptsMade 1 now new
      → next ≡ flips k toggle → Moved (n + k) first next old t new s
  row_moved k next {new} is went w turned = record {
    went = went_wider (transaction_bound * n + transaction_bound * k) (transaction_bound * (n + k))
        (search went_then) (omega arith);
    least = omega (arith, m.least, l.least, w.least, is);
    sound = grind arith;
    still = λ _. w.still;
    turned = grind (arith, flips_add);
  }

  -- or without
  row_worked : {k : ℕ} {new : World} → AttemptsMade k now new → AttemptsMade k old new
  row_worked w = grind arith

  row_ends : (fault : TransFault) (new : World) → Ends {A = List ℕ} now (Err fault) new
      → FaultAfter 0 old (as_pipe_fault fault) new
  row_ends fault new w = grind (arith, row_worked)

  row_went : (bound : ℕ) {more : ℕ} {new : World} {s : Option (List ℕ)} → n + bound ≤ more
      → StepRun (transaction_bound * bound) mid r new s
      → StepRun (transaction_bound * more) old t new s
  row_went bound {more} le went =
      went_wider (transaction_bound * n + transaction_bound * bound) (transaction_bound * more)
      (search went_then)
      (omega (arith, le))

-- Rows that are sent

sent_lasted : {t : Target} {ep : ℕ} {first : Toggle} {old : World} {n : ℕ} {sent : List ℕ}
    {new : World} → SentFull t ep first old n sent new → Lasted n old new
sent_lasted {old = old} none_sent = none_lasted old
sent_lasted (one_sent bytes s size some short x) = one_more (sent_lasted s) x.ends

sent_more : {t : Target} {ep : ℕ} {first toggle : Toggle} {old mid : World} {n : ℕ} {sent : List ℕ}
    → Gave t ep first old n sent mid → length sent ≡ n * t.max → toggle ≡ flips n first → {k : ℕ}
    {front : List ℕ} {new : World} → SentFull t ep toggle mid k front new
    → Gave t ep first old (n + k) (sent ++ front) new
sent_more {t} {ep} {first} {toggle} {old} {mid} {n} {sent} g full turned none_sent =
    grind (arith, append-nil)
sent_more {t} {ep} {first} {toggle} {old} {n = n} {sent = sent} g full turned
    (one_sent {n = k} {sent = front} {mid = mid} {new = new} bytes s size some short x) =
    let before = sent_more g full turned s in
    let due : flips k toggle ≡ flips (n + k) first = grind (arith, flips_add) in
    let put : Puts t ep (flips (n + k) first) bytes mid (Ok []) new = grind arith in
    let long : length (sent ++ front) ≡ (n + k) * t.max = grind (arith, add-mul, length-append) in
    let count : n + k + 1 ≡ n + (k + 1) = omega arith in
    let P : ℕ → Type 0 = λ z. Gave t ep first old z (sent ++ (front ++ bytes)) new in
    subst P count (subst (λ z. Gave t ep first old (n + k + 1) z new)
    (append_assoc sent front bytes) (packet bytes before long some short put))

module _ (t : Target) (ep : ℕ) (first : Toggle) (total : List ℕ) (least : 1 ≤ t.max) {old : World}
    {text : Option (List ℕ)} {mid : World} {between : Option (List ℕ)} {rest row : List ℕ}
    {toggle : Toggle} (m : ℕ) (some : 0 < length rest)
    (size : m ≡ min (length rest) (64 * t.max)) (cut : row ≡ take m rest)
    (g : PacketsMoving t ep first total old text rest toggle mid between) where
  -- what was sent of the row
  module _ {full : ℕ} {now : World} (sent left : List ℕ) (split : row ≡ sent ++ left)
      (long : length sent ≡ full * t.max) (more : 0 < length left)
      (s : SentFull t ep toggle mid full sent now) where
    row_before : Gave t ep first old (g.packets + full) (g.sent ++ sent) now
    row_before = grind (arith, sent_more)

    row_full : length (g.sent ++ sent) ≡ (g.packets + full) * t.max
    row_full = grind (arith, add-mul, length-append)

    row_due : flips full toggle ≡ flips (g.packets + full) first
    row_due = grind (arith, flips_add)

    -- a row has at most 64 packets
    full_few : full < 64
    full_few = let parts = ap length split ∙ length-append sent left in
        let whole = ap length cut ∙ length-take m rest in grind arith

    gone_parts : (n : ℕ) → n ≡ full + 1
        → sent ++ take t.max left ≡ take (min (length rest) (n * t.max)) rest
    gone_parts n count = grind (arith, full_few, row_parts)

  -- some packets went
  pub going_row : {new : World} {written : Option (List ℕ)} {next : Toggle} (n c : ℕ)
      (after : List ℕ) → c ≡ min (length rest) (n * t.max)
      → after ≡ drop c rest → StepRun (transaction_bound * n) mid between new written
      → RowGone t ep toggle row mid n next new
      → PacketsMoving t ep first total old text after next new written
  going_row {new} {next = next} n c after is back went x =
      let f = x.so_far in
      let last = take t.max f.rest in
      let parts : f.sent ++ last ≡ take c rest = grind (arith, gone_parts) in
      let long = row_full f.sent f.rest f.split f.size f.some f.before in
      let put : Puts t ep (flips (g.packets + x.full) first) last x.mid (Ok []) new =
      grind (arith, row_due) in
      let l = length-take t.max f.rest in
      let gave : Gave t ep first old (g.packets + x.full + 1) ((g.sent ++ f.sent) ++ last) new =
      packet last (grind (arith, row_before)) long
      (omega (arith, l, least, f.some)) (omega (arith, l)) put in
      let count : g.packets + x.full + 1 ≡ g.packets + n = omega (arith, x.count) in
      let whole : (g.sent ++ f.sent) ++ last ≡ g.sent ++ take c rest =
      grind (arith, append_assoc) in
      let P : ℕ → Type 0 = λ z. Gave t ep first old z (g.sent ++ take c rest) new in
      rw back (record {
        packets = g.packets + n;
        sent = g.sent ++ take c rest;
        before = grind arith;
        split = grind (arith, append_assoc, take-append-drop, g.split);
        full = grind (arith, add-mul, length-append, length-drop, length-take, g.full);
        moved = search (row_moved, sent_lasted, x.count, x.went.ends, x.turned);
      })

  -- one did not
  pub lost_row : {new : World} {written : Option (List ℕ)} {next : Toggle} (fault : TransFault)
      (result : Result (Unit {0}) PipeFault) → IsErr result
      → IsErrAnd result (λ why. why ≡ as_pipe_fault fault) → result ≢ Err Memory
      → StepRun (transaction_bound * div_ceil (length row) t.max) mid between new written
      → RowKept t ep toggle row mid fault next new
      → PacketsSent t ep first total old result next new
      × StepRun (transaction_bound * div_ceil (length total) t.max) old text new written
  lost_row {new} fault (Err why) err said room went x =
      let f = x.so_far in
      let packets = g.packets + x.full in
      let few = full_few f.sent f.rest f.split f.size f.some f.before in
      let beyond = drop (length f.sent) rest in
      let left : rest ≡ f.sent ++ beyond = search (row_left, x.full) in
      let next_is : take t.max f.rest ≡ take t.max beyond = search (row_next, x.full) in
      let long = row_full f.sent f.rest f.split f.size f.some f.before in
      let split : total ≡ (g.sent ++ f.sent) ++ beyond = grind (arith, append_assoc) in
      let whole = ap length split ∙ length-append (g.sent ++ f.sent) beyond in
      let parts = ap length f.split ∙ length-append f.sent f.rest in
      let rows = ap length cut ∙ length-take m rest in
      let rests = ap length left ∙ length-append f.sent beyond in
      let more : 0 < length beyond = omega (arith, parts, rows, rests, f.some) in
      let short : packets < div_ceil (length total) t.max = grind (arith, few_full) in
      let fewer = more_packets g.packets t.max (length row) (length rest) (length total) least
      (omega (arith, rows)) (grind (arith, length-append))
      in
      let due = row_due f.sent f.rest f.split f.size f.some f.before in (
        record {
          ends = grind (arith, row_ends, sent_lasted, g.moved, x.lost.ends);
          moves = record {
            packets = packets;
            sent = g.sent ++ f.sent;
            rest = beyond;
            mid = x.mid;
            before = grind (arith, row_before);
            full = long;
            split = split;
            some = more;
            fault = fault;
            told = said;
            lost = grind arith;
          };
          behind = x.turned ∙ due;
          room = room;
          turned = tt;
          halted = grind arith;
        },
        row_went g.moved (sent_lasted f.before) (div_ceil (length row) t.max) fewer went,
      )
  lost_row fault (Ok done) err said room went x = cc

-- Rows that are received

asked_lasted : {t : Target} {ep : ℕ} {first : Toggle} {old : World} {n : ℕ} {got : List ℕ}
    {new : World} → AskedFull t ep first old n got new → Lasted n old new
asked_lasted {old = old} none_asked = none_lasted old
asked_lasted (one_asked bytes s x long) = one_more (asked_lasted s) x.ends

asked_size : {t : Target} {ep : ℕ} {first : Toggle} {old : World} {n : ℕ} {got : List ℕ}
    {new : World} → AskedFull t ep first old n got new → length got ≡ n * t.max
asked_size none_asked = omega arith
asked_size (one_asked {n} {got} bytes s x long) = let before = asked_size s in
    omega (arith, before, length-append got bytes, long)

came_more : {t : Target} {ep : ℕ} {first toggle : Toggle} {old mid : World} {n : ℕ} {got : List ℕ}
    → Came t ep first old n got mid → toggle ≡ flips n first
    → {k : ℕ} {front : List ℕ} {new : World}
    → AskedFull t ep toggle mid k front new → Came t ep first old (n + k) (got ++ front) new
came_more {t} {ep} {first} {toggle} {old} {mid} {n} {got} c turned none_asked =
    grind (arith, append-nil)
came_more {t} {ep} {first} {toggle} {old} {n = n} {got = got} c turned
    (one_asked {n = k} {got = front} {mid = mid} {new = new} bytes s x long) =
    let due : flips k toggle ≡ flips (n + k) first = grind (arith, flips_add) in
    let fetched : Fetches t ep (flips (n + k) first) mid (Ok bytes) new =
    subst (λ z. Fetches t ep z mid (Ok bytes) new) due x.heard in
    let count : n + k + 1 ≡ n + (k + 1) = omega arith in
    let P : ℕ → Type 0 = λ z. Came t ep first old z (got ++ (front ++ bytes)) new in
    subst P count (subst (λ z. Came t ep first old (n + k + 1) z new)
    (append_assoc got front bytes) (packet bytes (came_more c turned s) fetched long))

-- so many packets are left
pub record Receiving (t : Target) (ep : ℕ) (first : Toggle) (wanted : ℕ) (old : World)
    (text : Option (List ℕ)) (left : ℕ) (got : List ℕ) (toggle : Toggle) (now : World)
    (written : Option (List ℕ)) : Type 0 where
  pub packets : ℕ
  pub count : packets + left ≡ wanted
  pub coming : Coming t ep first old text packets got toggle now written

module _ (t : Target) (ep : ℕ) (first : Toggle) {old : World} {text : Option (List ℕ)} (wanted : ℕ)
    (least : 1 ≤ t.max) {left most : ℕ} {got : List ℕ} {mid : World} {between : Option (List ℕ)}
    {toggle : Toggle} (few : most ≤ left)
    (g : Receiving t ep first wanted old text left got toggle mid between) where
  module _ {full : ℕ} {front : List ℕ} {now : World} (less : full < most)
      (s : AskedFull t ep toggle mid full front now) where
    asked_before : Came t ep first old (g.packets + full) (got ++ front) now
    asked_before = grind (arith, came_more)

    asked_due : flips full toggle ≡ flips (g.packets + full) first
    asked_due = grind (arith, flips_add)

    asked_few : g.packets + full < wanted
    asked_few = grind arith

  -- some packets came
  module _ {n : ℕ} {row kept : List ℕ} {new : World} {written : Option (List ℕ)} {next : Toggle}
      (x : RowCame t ep toggle most mid n row next new)
      (went : StepRun (transaction_bound * n) mid between new written)
      (is : kept ≡ got ++ row) where
    row_fetched : Fetches t ep (flips (g.packets + x.full) first) x.mid (Ok x.last) new
    row_fetched = subst (λ z. Fetches t ep z x.mid (Ok x.last) new) (asked_due x.few x.before)
        x.came.heard

    row_kept : kept ≡ (got ++ x.got) ++ x.last
    row_kept = grind (arith, append_assoc)

    row_next_moved : Moved (g.packets + n) first next old text new written
    row_next_moved = search (asked_lasted, row_moved)

    came_size : length row ≡ x.full * t.max + length x.last
    came_size = grind (arith, asked_size, length-append)

    came_one : n * t.max ≡ x.full * t.max + t.max
    came_one = grind (arith, add-mul)

    -- all full
    pub receiving_row : (less : ℕ) → less ≡ left - n → n * t.max ≤ length row
        → Receiving t ep first wanted old text less kept next new written
    receiving_row less after all =
        let long : length x.last ≡ t.max =
        omega (arith, came_size, came_one, all, x.came.short) in
        let count : g.packets + x.full + 1 ≡ g.packets + n = omega (arith, x.count) in
        let P : ℕ → Type 0 = λ z. Came t ep first old z kept new in
        record {
          packets = g.packets + n;
          count = omega (arith, g.count, after, x.count, x.few, few);
          coming = record {
            came = subst P count (subst (λ z. Came t ep first old (g.packets + x.full + 1) z new)
                (sym row_kept) (packet x.last (asked_before x.few x.before) row_fetched long));
            moved = row_next_moved;
          };
        }

    -- the last of them short
    pub short_row : {bytes : Vec ℕ} → bytes.items ≡ kept → length row < n * t.max
        → PacketsReceived t ep first wanted old (Ok bytes) next new
    short_row items short =
        let count : g.packets + n ≡ g.packets + x.full + 1 = omega (arith, x.count) in
        let P : ℕ → Type 0 = λ z. Moved z first next old text new written in
        all_received t ep first wanted least (record {
          packets = g.packets + x.full;
          few = asked_few x.few x.before;
          got = got ++ x.got;
          mid = x.mid;
          before = asked_before x.few x.before;
          last = x.last;
          came = row_fetched;
          fits = x.came.short;
          kept = items ∙ row_kept;
          ends = inr (omega (arith, came_size, came_one, short));
        }) (subst P count row_next_moved)

  -- no memory for them
  pub room_row : {n : ℕ} {row : List ℕ} {new : World} {written : Option (List ℕ)} {next : Toggle}
      → RowCame t ep toggle most mid n row next new
      → StepRun (transaction_bound * n) mid between new written
      → (result : Result (Vec ℕ) PipeFault)
      → IsErr result → IsErrAnd result (λ why. why ≡ Memory)
      → PacketsReceived t ep first wanted old result next new
  room_row {n} {new = new} {next = next} x went (Err why) err said =
      let moved = row_moved g.coming.moved (asked_lasted x.before) n next x.count went x.came.ends
      x.turned in
      let count : g.packets + n ≡ g.packets + x.full + 1 = omega (arith, x.count) in
      record {
        ends = grind (arith, asked_lasted, row_worked);
        moves = inr (record {
          packets = g.packets + x.full;
          few = asked_few x.few x.before;
          got = got ++ x.got;
          mid = x.mid;
          before = asked_before x.few x.before;
          last = x.last;
          told = said;
          came = subst (λ z. Fetches t ep z x.mid (Ok x.last) new) (asked_due x.few x.before)
              x.came.heard;
          fits = x.came.short;
        });
        behind = grind arith;
        most = tt;
        turned = tt;
        halted = λ h. cc (said, h);
      }
  room_row x went (Ok bytes) err said = cc

  -- one did not come
  pub lost_row_received : {new : World} {next : Toggle} (fault : TransFault)
      (result : Result (Vec ℕ) PipeFault) → IsErr result
      → IsErrAnd result (λ why. why ≡ as_pipe_fault fault)
      → RowLost t ep toggle most mid fault next new
      → PacketsReceived t ep first wanted old result next new
  lost_row_received {new} fault (Err why) err said x =
      let due = asked_due x.few x.before in
      let less = asked_few x.few x.before in
      record {
        ends = grind (arith, asked_lasted, row_ends, g.coming.moved, x.lost.ends);
        moves = inl (record {
          packets = g.packets + x.full;
          few = less;
          got = got ++ x.got;
          mid = x.mid;
          before = asked_before x.few x.before;
          fault = fault;
          told = said;
          lost = subst (λ z. Fetches t ep z x.mid (Err fault) new) due x.lost.heard;
        });
        behind = x.turned ∙ due;
        most = tt;
        turned = tt;
        halted = λ _. record { packets = g.packets + x.full; few = less; turned = x.turned ∙ due };
      }
  lost_row_received fault (Ok bytes) err said x = cc

  -- the steps, as many as all that are wanted may take
  pub row_steps : (bound : ℕ) {new : World} {written : Option (List ℕ)} → bound ≤ left
      → StepRun (transaction_bound * bound) mid between new written
      → StepRun (transaction_bound * wanted) old text new written
  row_steps bound le went =
      went_wider (transaction_bound * g.packets + transaction_bound * bound)
      (transaction_bound * wanted) (search went_then) (omega (arith, g.count, le))
