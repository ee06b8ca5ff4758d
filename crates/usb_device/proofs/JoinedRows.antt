-- OUT endpoints of what a device keeps of them: their heads, and what they have taken.
use Rattle.std.proofs.Common.{◌≡◌, ℕ, zero, suc, ◌+◌, ◌<◌, Bool, true, false, List, [], ◌∷◌, ◌++◌}
use Rattle.std.proofs.Common.{Option, None, Some, is_some, length, map, get_or, slice_set, refl}
use Rattle.std.proofs.Common.{sym, ap, ap₂, ◌∙◌, arith}
use Rattle.usb_device.specs.{EndpointSpec, InEnd, OutEnd, OutHead, Spec, begun_if, end_numbers}
use Rattle.usb_device.specs.{head_of, joined, no_head, no_out}
use Rattle.usb_device.specs.{numbered_from, plugged_head, plugged_out, rested_head}
use Rattle.usb_device.specs.{rested_in, rested_out, taken_head, taken_on, with_at}
use Rattle.usb_device.specs.{with_sink}
use Rattle.usb_device.proofs.RowsOfEnds.{none_less}

pub head-joined : (heads : List OutHead) (sinks : List (List ℕ)) (n : ℕ)
    → head_of (get_or (joined heads sinks) n no_out) ≡ get_or heads n no_head
unfolding joined
head-joined [] sinks n = refl
head-joined (h ∷ heads) [] zero = refl
head-joined (h ∷ heads) [] (suc n) = head-joined heads [] n
head-joined (h ∷ heads) (s ∷ sinks) zero = refl
head-joined (h ∷ heads) (s ∷ sinks) (suc n) = head-joined heads sinks n

pub sink-joined : (heads : List OutHead) (sinks : List (List ℕ)) (n : ℕ) → n < length heads
    → (get_or (joined heads sinks) n no_out).sink ≡ get_or sinks n []
unfolding joined
sink-joined [] sinks n less = none_less n less
sink-joined (h ∷ heads) [] zero less = refl
sink-joined (h ∷ heads) [] (suc n) less = sink-joined heads [] n (omega (arith, less))
sink-joined (h ∷ heads) (s ∷ sinks) zero less = refl
sink-joined (h ∷ heads) (s ∷ sinks) (suc n) less = sink-joined heads sinks n (omega (arith, less))

-- another head at a number
pub joined-head : (heads : List OutHead) (sinks : List (List ℕ)) (n : ℕ) (head : OutHead)
    → n < length heads → joined (slice_set heads n head) sinks
    ≡ with_at no_out n (with_sink head (get_or (joined heads sinks) n no_out).sink)
    (joined heads sinks)
unfolding joined with_at
joined-head [] sinks n head less = none_less n less
joined-head (h ∷ heads) [] zero head less = refl
joined-head (h ∷ heads) [] (suc n) head less =
    ap (λ more. with_sink h [] ∷ more) (joined-head heads [] n head (omega (arith, less)))
joined-head (h ∷ heads) (s ∷ sinks) zero head less = refl
joined-head (h ∷ heads) (s ∷ sinks) (suc n) head less =
    ap (λ more. with_sink h s ∷ more) (joined-head heads sinks n head (omega (arith, less)))

-- another head and another sink at a number
pub joined-both : (heads : List OutHead) (sinks : List (List ℕ)) (n : ℕ) (head : OutHead)
    (sink : List ℕ) → n < length heads → n < length sinks
    → joined (slice_set heads n head) (slice_set sinks n sink)
    ≡ with_at no_out n (with_sink head sink) (joined heads sinks)
unfolding joined with_at
joined-both [] sinks n head sink less there = none_less n less
joined-both (h ∷ heads) [] n head sink less there = none_less n there
joined-both (h ∷ heads) (s ∷ sinks) zero head sink less there = refl
joined-both (h ∷ heads) (s ∷ sinks) (suc n) head sink less there =
    ap (λ more. with_sink h s ∷ more)
    (joined-both heads sinks n head sink (omega (arith, less)) (omega (arith, there)))

-- a packet joins the sink at a number, for which room was made
pub joined-taken : (halts : Bool) (bytes : List ℕ) (heads : List OutHead)
    (room sinks : List (List ℕ)) (n : ℕ) → n < length heads → n < length room
    → joined heads room ≡ joined heads sinks
    → joined (slice_set heads n (taken_head halts (get_or heads n no_head)))
    (slice_set room n (get_or room n [] ++ bytes))
    ≡ with_at no_out n (taken_on halts bytes (get_or (joined heads sinks) n no_out))
    (joined heads sinks)
joined-taken halts bytes heads room sinks n less there same =
    joined-both heads room n _ _ less there ∙ ap₂ (with_at no_out n)
    (ap₂ (λ head sink. with_sink (taken_head halts head) (sink ++ bytes))
    (sym (head-joined heads room n)) (sym (sink-joined heads room n less))
    ∙ ap (λ row. taken_on halts bytes (get_or row n no_out)) same) same

-- the same of what the calls say of that
pub joined-grown : (halts : Bool) (bytes : List ℕ) (heads : List OutHead)
    (room old grown sinks : List (List ℕ)) (place n : ℕ) (head : OutHead) (row : List OutEnd)
    → place ≡ n → n < length heads → n < length room
    → head ≡ taken_head halts (get_or heads place no_head) → old ≡ room
    → grown ≡ slice_set old place (get_or old place [] ++ bytes)
    → joined heads room ≡ joined heads sinks → joined heads sinks ≡ row
    → joined (slice_set heads place head) grown
    ≡ with_at no_out n (taken_on halts bytes (get_or row n no_out)) row
joined-grown halts bytes heads room old grown sinks place n head row at less there is was grows
    same seen = rw (grows, is, was, at, ← seen)
    (joined-taken halts bytes heads room sinks n less there same)

-- room for one sink more
pub joined-room : (heads : List OutHead) (sinks : List (List ℕ))
    → joined heads (sinks ++ [] ∷ []) ≡ joined heads sinks
unfolding joined
joined-room [] sinks = refl
joined-room (h ∷ heads) [] = refl
joined-room (h ∷ heads) (s ∷ sinks) = ap (λ more. with_sink h s ∷ more) (joined-room heads sinks)

-- each begins again
pub joined-rested : (heads : List OutHead) (sinks : List (List ℕ))
    → joined (map rested_head heads) sinks ≡ map rested_out (joined heads sinks)
unfolding joined
joined-rested [] sinks = refl
joined-rested (h ∷ heads) [] =
    ap (λ more. rested_out (with_sink h []) ∷ more) (joined-rested heads [])
joined-rested (h ∷ heads) (s ∷ sinks) =
    ap (λ more. rested_out (with_sink h s) ∷ more) (joined-rested heads sinks)

begun-joined : (b : Bool) (h : OutHead) (s : List ℕ)
    → with_sink (begun_if b rested_head h) s ≡ begun_if b rested_out (with_sink h s)
begun-joined true h s = refl
begun-joined false h s = refl

pub joined-begun : (begins : ℕ → Bool) (first : ℕ) (heads : List OutHead) (sinks : List (List ℕ))
    → joined (numbered_from (λ e. begun_if (begins e) rested_head) first heads) sinks
    ≡ numbered_from (λ e. begun_if (begins e) rested_out) first (joined heads sinks)
unfolding joined numbered_from
joined-begun begins first [] sinks = refl
joined-begun begins first (h ∷ heads) [] = ap₂ (λ x more. x ∷ more)
    (begun-joined (begins first) h []) (joined-begun begins (first + 1) heads [])
joined-begun begins first (h ∷ heads) (s ∷ sinks) = ap₂ (λ x more. x ∷ more)
    (begun-joined (begins first) h s) (joined-begun begins (first + 1) heads sinks)

-- what has begun again is as if it began twice
pub rested_heads-twice : (heads : List OutHead)
    → map rested_head (map rested_head heads) ≡ map rested_head heads
rested_heads-twice [] = refl
rested_heads-twice (h ∷ heads) = ap (λ more. rested_head h ∷ more) (rested_heads-twice heads)

pub rested_ins-twice : (row : List InEnd) → map rested_in (map rested_in row) ≡ map rested_in row
rested_ins-twice [] = refl
rested_ins-twice (end ∷ row) = ap (λ more. rested_in end ∷ more) (rested_ins-twice row)

-- each number of a list is one more than that before it
abbrev AreFrom : ℕ → List ℕ → Type 0
AreFrom first [] = Unit
AreFrom first (n ∷ numbers) = (first ≡ n) × AreFrom (first + 1) numbers

numbered-each : {A : Type 0} (f : ℕ → A) (first : ℕ) (numbers : List ℕ) (row : List A)
    → AreFrom first numbers → length row ≡ length numbers
    → numbered_from (λ e x. f e) first row ≡ map f numbers
unfolding numbered_from
numbered-each f first [] [] from same = refl
numbered-each f first [] (x ∷ row) from same = cc same
numbered-each f first (n ∷ numbers) [] from same = cc same
numbered-each f first (n ∷ numbers) (x ∷ row) from same = ap₂ (λ y more. y ∷ more) (ap f from.0)
    (numbered-each f (first + 1) numbers row from.1 (omega (arith, same)))

pub numbered-all : {A : Type 0} (f : ℕ → A) (row : List A) → length row ≡ 16
    → numbered_from (λ e x. f e) 0 row ≡ map f end_numbers
numbered-all f row same =
    numbered-each f 0 end_numbers row (
      refl,
      (
        refl,
        (
          refl,
          (
            refl,
            (
              refl,
              (
                refl,
                (
                  refl,
                  (
                    refl,
                    (refl, (refl, (refl, (refl, (refl, (refl, (refl, (refl, tt)))))))),
                  ),
                ),
              ),
            ),
          ),
        ),
      ),
    ) same

-- at the plug nothing was taken
pub joined-plugged : (s : Spec)
    → joined (map (plugged_head s) end_numbers) [] ≡ map (plugged_out s) end_numbers
unfolding joined
joined-plugged s = refl

no_rows : (rows : List EndpointSpec) → length rows ≡ 0 → rows ≡ []
no_rows [] h = refl
no_rows (row ∷ rows) h = cc h

no_count : (o : Option ℕ) → is_some o ≡ false → o ≡ None
no_count None h = refl
no_count (Some n) h = cc h

pub joined-plain : (s : Spec) → length s.endpoints ≡ 0 → is_some s.halt_after ≡ false
    → joined (map (λ (e : ℕ). no_head) end_numbers) [] ≡ map (plugged_out s) end_numbers
unfolding joined
joined-plain s none never = rw (no_rows s.endpoints none, no_count s.halt_after never) refl
