-- Rows of attempts, made one by one.
use Rattle.std.proofs.Common.{◌≡◌, ◌∙◌, refl, sym, ap, ℕ, ◌+◌, ◌-◌, ◌*◌, ◌<◌, ◌≤◌, min}
use Rattle.std.proofs.Common.{List, [], ◌++◌, length, take, drop, Option, Ok, arith, Bool}
use Rattle.std.proofs.Common.{false, nat_eq, ◌≢◌}
use Rattle.std.proofs.Common.{append_assoc, length-append, length-take}
use Rattle.std.proofs.Common.{add-one, lt_of_mul-lt-mul_right, take-append-drop}
use Rattle.std.specs.Int.{div_ceil}
use Rattle.std.proofs.lemmas.Grind.{div_ceil_times}
use Rattle.std.proofs.lemmas.Bool.{eqb-false}
use Rattle.std.proofs.lemmas.List.{take_min}
use Rattle.usb_packet.specs.{Toggle, other, flips}
use Rattle.usb_world.specs.{Attempt, Destination, World}
use Rattle.usb_world.specs.declared.types.Outcome.TheVariants.{Ack}
use Rattle.usb_bus.specs.{AllTaken, Attempts}
use Rattle.usb_bus.specs.{none_taken, one_taken, out_packet}

-- Attempts at an endpoint

-- INs

pub next_size : (moved max : ℕ) (got bytes : List ℕ) → length got ≡ moved * max
    → length bytes ≡ max → length (got ++ bytes) ≡ (moved + 1) * max
next_size moved max got bytes e f = omega (arith, length-append got bytes, e, f)

pub flips_none : (toggle : Toggle) → toggle ≡ flips 0 toggle
unfolding flips
flips_none toggle = refl

pub flips_next : (n : ℕ) (first due next : Toggle) → due ≡ flips n first → next ≡ other due
    → next ≡ flips (n + 1) first
unfolding flips
flips_next n first due next e f = rw (add-one n) (f ∙ ap other e)

-- OUTs

pub nonzero : (n : ℕ) (b : Bool) → b ≡ nat_eq n 0 → b ≡ false → 0 < n
nonzero n b is e = let no : n ≢ 0 = eqb-false n 0 (sym is ∙ e) in omega arith

-- so many packets of a row were moved, and so many of its bytes are left
pub record Left (max total moved rest : ℕ) : Type 0 where
  pub most : total ≤ rest + moved * max
  pub some : 0 < rest → total ≡ rest + moved * max
  pub least : moved * max < total + max

pub all_left : (max total : ℕ) → 1 ≤ max → Left max total 0 total
all_left max total least = record {
  most = omega arith;
  some = λ _. omega arith;
  least = omega (arith, least);
}

pub less_left : (max total moved rest k after : ℕ) → 0 < rest → k ≡ min rest max → after ≡ rest - k
    → Left max total moved rest → Left max total (moved + 1) after
less_left max total moved rest k after some is gone l =
    let more : (moved + 1) * max ≡ moved * max + max = omega arith in
    record {
      most = omega (arith, more, l.some some, is, gone);
      some = λ still. omega (arith, more, l.some some, is, gone, still);
      least = omega (arith, more, l.some some, some);
    }

-- fewer than all
pub few_left : (max total moved rest : ℕ) → 1 ≤ max → 0 < rest → Left max total moved rest
    → moved < div_ceil total max
few_left max total moved rest least some l = let c = div_ceil_times total max least in
    lt_of_mul-lt-mul_right max (omega (arith, c, l.some some, some))

ceil_is : (a b n : ℕ) → 0 < b → a ≤ n * b → n * b < a + b → n ≡ div_ceil a b
ceil_is a b n some least most = grind (arith, div_ceil_times)

pub none_left : (max total moved rest : ℕ) → 1 ≤ max → rest ≡ 0 → Left max total moved rest
    → moved ≡ div_ceil total max
none_left max total moved rest least none l =
    ceil_is total max moved least (omega (arith, l.most, none)) l.least

-- and so it is of the attempts
pub record Taking (to : Destination) (first : Toggle) (total : List ℕ) (old : World)
    (before : Option (List ℕ)) (moved : ℕ) (rest : List ℕ) (now : World)
    (text : Option (List ℕ)) : Type 0 where
  pub sent : List ℕ
  pub split : total ≡ sent ++ rest
  pub taken : AllTaken to first old before moved sent now text

pub taking_none : (to : Destination) (first : Toggle) (total : List ℕ) (w : World)
    (text : Option (List ℕ)) → Taking to first total w text 0 total w text
taking_none to first total w text = record { sent = []; split = refl; taken = none_taken }

module _ {to : Destination} {first : Toggle} {total : List ℕ} {old : World}
    {before : Option (List ℕ)} {moved : ℕ} {rest : List ℕ} {now : World} {text : Option (List ℕ)}
    (t : Taking to first total old before moved rest now text) where
  pub sent_size : 0 < length rest → Left to.max (length total) moved (length rest)
      → length t.sent ≡ moved * to.max
  sent_size some l = omega (
    arith,
    ap length t.split,
    length-append t.sent rest,
    l.some some,
  )

  -- a packet with as many bytes as fit
  module _ (due : Toggle) (packet : List ℕ) (k : ℕ) (some : 0 < length rest)
      (is : k ≡ min (length rest) to.max) (front : packet ≡ take k rest)
      (turned : due ≡ flips moved first)
      (l : Left to.max (length total) moved (length rest)) (least : 1 ≤ to.max) where
    pub packet_fits : packet ≡ take to.max rest
    packet_fits = let size : k ≡ min to.max (length rest) = omega (arith, is) in
        front ∙ rw size (take_min to.max rest)

    pub taking_more : {a : Attempt} {new : World} {written : Option (List ℕ)} (after : List ℕ)
        → a ≡ out_packet to due packet → after ≡ drop k rest
        → Attempts a now text (Ok Ack) new written
        → Taking to first total old before (moved + 1) after new written
    taking_more after of back made =
        let size : length packet ≡ k = omega (arith, ap length front, length-take k rest, is) in
        rw back (record {
          sent = t.sent ++ packet;
          split = t.split ∙ ap (λ z. t.sent ++ z) (sym (take-append-drop k rest)
              ∙ ap (λ z. z ++ drop k rest) (sym front))
              ∙ sym (append_assoc t.sent packet (drop k rest));
          taken = one_taken packet t.taken (sent_size some l) (omega (arith, size, is, some, least))
              (omega (arith, size, is)) (rw (of, turned) at made);
        })
