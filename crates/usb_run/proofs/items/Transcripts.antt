-- How a run's text goes on from item to item.
use Rattle.std.proofs.Common.{◌≡◌, ◌∙◌, refl, sym, ap, subst, ℕ, List, [], ◌∷◌, ◌++◌, Bool, true}
use Rattle.std.proofs.Common.{false, Option, None, Some, Result, Ok, Err, IsErrAnd, append-nil}
use Rattle.std.proofs.Common.{append_assoc, flat_map, take, drop, get_or, length, zero, suc, arith}
use Rattle.std.proofs.Common.{◌<◌}
use Rattle.std.specs.Io.KnownBytes.{Appends}
use Rattle.std.proofs.KnownBytes.{Appends-nil, Appends-trans}
use Rattle.usb_watch.specs.{AppendsFront}
use Rattle.usb_watch.proofs.Interface.{front_after}
use Rattle.usb_world.specs.{World, BusFault}
use Rattle.usb_host.specs.{HostState}
use Rattle.usb_run.specs.{Item, RunFault, Mode, CutsText, Next, AppendsText, StoppedRun}
use Rattle.usb_run.specs.{RunStops, told, on_the_way, unwritten, in_text, shown}
use Rattle.usb_run.specs.Transcript.{Transcript}

-- nothing is written
pub appends_no_text : (h : HostState) → AppendsText [] h h
appends_no_text h = record { all = Appends-nil h.trace; rest = refl }

-- the next item

pub told_next : {mode : Mode} {was : Bool} {old : HostState} {items : List Item} {item : Item}
    {over on : Bool} {h k new : HostState} → Transcript mode was old items over h
    → Next over h (Ok (Some item)) on k
    → AppendsText (shown mode items item) k new → Transcript mode was old (item ∷ items) on new
told_next {mode} {was} {old} {items} {h = h} t (at_work, makes) puts =
    told (subst (λ o. Transcript mode was old items o h) at_work t) makes puts

pub cut_next : {mode : Mode} {IsOf : RunFault → Type 0} {IsCut : Type 0} {was : Bool}
    {old : HostState} {items : List Item} {item : Item} {over on : Bool} {h k new : HostState}
    → IsCut → Transcript mode was old items over h
    → Next over h (Ok (Some item)) on k → CutsText (shown mode items item) k new
    → StoppedRun mode IsOf IsCut was old (item ∷ items) new
cut_next {mode} {was = was} {old = old} {items = items} {h = h} cut t (at_work, makes) cuts =
    in_text cut (subst (λ o. Transcript mode was old items o h) at_work t) makes cuts

-- nothing was written of an item
pub unwritten_next : {mode : Mode} {IsOf : RunFault → Type 0} {IsCut : Type 0} {was : Bool}
    {old : HostState} {items : List Item} {item : Item} {over on : Bool} {h k : HostState}
    → (IsCut → ⊥) → Transcript mode was old items over h
    → Next over h (Ok (Some item)) on k → StoppedRun mode IsOf IsCut was old items k
unwritten_next {mode} {was = was} {old = old} {items = items} {h = h} whole t (at_work, makes) =
    unwritten whole (subst (λ o. Transcript mode was old items o h) at_work t) makes

pub stopped_next : {mode : Mode} {IsOf : RunFault → Type 0} {IsCut : Type 0} {was : Bool}
    {old : HostState} {items : List Item} {over : Bool} {h k : HostState} (on : Bool)
    (fault : RunFault) → IsOf fault
    → Transcript mode was old items over h → Next over h (Err fault) on k
    → StoppedRun mode IsOf IsCut was old items k
stopped_next {mode} {was = was} {old = old} {items = items} {h = h} on fault of t (at_work, stops) =
    on_the_way of (subst (λ o. Transcript mode was old items o h) at_work t) stops

pub over_next : {mode : Mode} {was : Bool} {old : HostState} {items : List Item} {over on : Bool}
    (h k : HostState) → Transcript mode was old items over h → Next over h (Ok None) on k
    → Transcript mode was old items true k
over_next {mode} {was} {old} {items} h k t (done, still, same) =
    subst (λ x. Transcript mode was old items true x) (sym same)
    (subst (λ o. Transcript mode was old items o h) done t)

pub next_failed : {was : Bool} {old new : HostState} (over : Bool)
    (result : Result (Option Item) RunFault) (fault : RunFault) → IsErrAnd result (λ e. e ≡ fault)
    → was ≡ false → RunStops old fault new → Next was old result over new
next_failed over (Ok item) fault is at_work stops = absurd is
next_failed {old = old} {new = new} over (Err e) fault is at_work stops =
    (at_work, subst (λ f. RunStops old f new) (sym is) stops)

-- Lines

-- the texts up to one, that one, and those behind it
pub texts_split : {A : Type 0} (f : A → List ℕ) (vs : List A) (i : ℕ) (v : A) → i < length vs
    → v ≡ get_or vs i v
    → flat_map f vs ≡ flat_map f (take i vs) ++ (f v ++ flat_map f (drop (suc i) vs))
texts_split f [] i v lt is = absurd (omega (arith, lt))
texts_split f (x ∷ vs) zero v lt is = ap (λ y. f y ++ flat_map f vs) (sym is)
texts_split f (x ∷ vs) (suc i) v lt is =
    ap (λ l. f x ++ l) (texts_split f vs i v (omega (arith, lt)) is)
    ∙ sym (append_assoc (f x) (flat_map f (take i vs)) (f v ++ flat_map f (drop (suc i) vs)))

-- the texts with one more
pub flat_map-take : {A : Type 0} (f : A → List ℕ) (vs : List A) (i : ℕ) (v : A) → i < length vs
    → v ≡ get_or vs i v → flat_map f (take i vs) ++ f v ≡ flat_map f (take (suc i) vs)
flat_map-take f [] i v lt is = absurd (omega (arith, lt))
flat_map-take f (x ∷ vs) zero v lt is = ap f is ∙ sym (append-nil (f x))
flat_map-take f (x ∷ vs) (suc i) v lt is = append_assoc (f x) (flat_map f (take i vs)) (f v)
    ∙ ap (λ l. f x ++ l) (flat_map-take f vs i v (omega (arith, lt)) is)

-- a text and a line behind it
pub puts_line : {h k l : HostState} (text line more : List ℕ) → AppendsText text h k
    → l ≡ record k { world = l.world; trace = l.trace } → l.world ≡ k.world
    → Appends k.trace l.trace line → text ++ line ≡ more → AppendsText more h l
puts_line {h} {k} {l} text line more puts rests same appends is = record {
  all = subst (Appends h.trace l.trace) is (Appends-trans h.trace k.trace l.trace text line puts.all
      appends);
  rest = rests ∙ ap (λ (w : World). record k { world = w; trace = l.trace }) same
      ∙ ap (λ (x : HostState). record x { trace = l.trace }) puts.rest;
}

-- a text and a front of a line behind it
pub cuts_line : {h k l : HostState} (text line rest all : List ℕ) (fault : BusFault)
    → AppendsText text h k → l ≡ record k { world = l.world; trace = l.trace }
    → l.world ≡ record k.world { fault = Some fault }
    → AppendsFront k.trace l.trace line → all ≡ text ++ (line ++ rest) → CutsText all h l
cuts_line {h} {k} {l} text line rest all fault puts rests fails front is =
    let kept : l.world ≡ record k.world { fault = l.world.fault } = fails
    ∙ ap (λ (f : Option BusFault). record k.world { fault = f })
    (sym (ap (λ (w : World). w.fault) fails)) in
    record {
      front = front_after h.trace k.trace l.trace text line rest all is puts.all front;
      rest = rests ∙ ap (λ (w : World). record k { world = w; trace = l.trace }) kept
          ∙ ap (λ (x : HostState). record x {
            world = record x.world { fault = l.world.fault };
            trace = l.trace;
          }) puts.rest;
      still = λ none. absurd (cc (none, ap (λ (w : World). w.fault) fails));
    }
