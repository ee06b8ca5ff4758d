-- What a run writes, item by item.
use Rattle.std.proofs.Common.{◌≡◌, ◌∙◌, refl, sym, ap, subst, inl, inr, arith, ℕ, ◌+◌, ◌≤◌}
use Rattle.std.proofs.Common.{◌<◌, List, [], ◌∷◌, ◌++◌, map, Bool, true, false, Option}
use Rattle.std.proofs.Common.{None, Some, Result, Ok, Err, IsErrAnd, IsSome, is_some, IfErr}
use Rattle.std.specs.Global.{Vec}
use Rattle.std.proofs.lemmas.List.Folds.{flat_map-map}
use Rattle.std.specs.Io.KnownBytes.{Appends}
use Rattle.std.proofs.KnownBytes.{Appends-nil, Appends-trans}
use Rattle.usb_watch.specs.{AppendsFront, PutsText}
use Rattle.usb_watch.proofs.Interface.{front_after_first}
use Rattle.usb_world.specs.{PlanData, to_come}
use Rattle.usb_run.specs.{Answer, AppendsText, CutsText, HostState, Item, Knows, Listing, Mode}
use Rattle.usb_run.specs.{Next, Opens, RunFault, RunsTo, StoppedRun, Tree, begun, behind}
use Rattle.usb_run.specs.{item_lines, item_text, items_left, items_text, listings, never, number_of}
use Rattle.usb_run.specs.{shown}
use Rattle.usb_plan.specs.{bound_of}
use Rattle.usb_run.specs.declared.item.Item.TheVariants.{News}
use Rattle.usb_run.specs.declared.runs.RunFault.TheVariants as run
use Rattle.usb_run.specs.declared.mode.Mode.TheVariants.{Run}
use Rattle.usb_run.specs.Transcript.{Transcript}
use Rattle.usb_serve.specs.{IsCausedInRun, IsCausedInTree, IsWritten, ItemsWritten}
use Rattle.usb_serve.specs.{LinesPut, RunEnds, ServeFault, TextWritten, UntracedRun, at_write}
use Rattle.usb_serve.specs.{of_run}
use Rattle.usb_serve.specs.declared.serving.ServeFault.TheVariants as serve
use Rattle.usb_text.specs.{bound_line, lines_text, written_lines}
use Rattle.usb_run.proofs.Interface.{appends_no_text, at_fault, cut_next, knows_opened}
use Rattle.usb_run.proofs.Interface.{limit_opened, makes_knows, over_next, puts_knows, run_limit}
use Rattle.usb_run.proofs.Interface.{run_lists_right, stopped_next, told_next, unwritten_next}

-- The run so far

-- a run with its items, of which so many are listings; with those to come they are not too many to
-- count
pub record RunSoFar (mode : Mode) (was : Bool) (old : HostState) (items : List Item) (number : ℕ)
    (over : Bool) (new : HostState) : Type 0 where
  pub so_far : Transcript mode was old items over new
  pub knows : over ≡ false → Knows new
  pub number_is : number ≡ listings items
  pub few : number + items_left over new.world ≤ 10001

few_left : (over : Bool) (h : HostState) → h.world.taken + to_come h.world ≤ 10000
    → 0 + items_left over h.world ≤ 10001
few_left true h few = omega (arith, few)
few_left false h few = omega (arith, few)

pub run_begun : (mode : Mode) (was : Bool) (old : HostState) → (was ≡ false → Knows old)
    → old.world.taken + to_come old.world ≤ 10000 → RunSoFar mode was old [] 0 was old
unfolding listings
run_begun mode was old knows few = record {
  so_far = begun;
  knows = knows;
  number_is = refl;
  few = few_left was old few;
}

counts_one : (item : Item) (n : ℕ) → number_of item n ≤ n + 1
counts_one (Listing entries taken said) n = omega arith
counts_one (News news) n = omega arith
counts_one (Answer path task end) n = omega arith

-- what was made, if that is known
pub run_makes : {mode : Mode} {was : Bool} {old : HostState} {items : List Item} {number : ℕ}
    {over : Bool} {h : HostState} → RunSoFar mode was old items number over h
    → (x y : Option Item) → x ≡ y → (on : Bool) (k : HostState)
    → ((over ≡ false → Knows h) → Next over h (Ok x) on k) → Next over h (Ok y) on k
run_makes {over = over} {h = h} r x y is on k makes =
    subst (λ z. Next over h (Ok z) on k) is (makes r.knows)

-- the next item was made, and the number of the last listing is counted
pub record Made (items : List Item) (over : Bool) (h : HostState) (item : Item) (next : ℕ)
    (on : Bool) (k : HostState) : Type 0 where
  pub makes : Next over h (Ok (Some item)) on k
  pub number_is : next ≡ number_of item (listings items)
  pub few : next + items_left on k.world ≤ 10001

pub made : {mode : Mode} {was : Bool} {old : HostState} {items : List Item} {number : ℕ}
    {over : Bool} {h : HostState} {x : Option Item} {item : Item}
    → RunSoFar mode was old items number over h → x ≡ Some item → (on : Bool) (k : HostState)
    → ((over ≡ false → Knows h) → Next over h (Ok x) on k)
    → (IsSome x → items_left on k.world < items_left over h.world) → (next : ℕ)
    → (number < 18446744073709551615 → next ≡ number_of item number)
    → Made items over h item next on k
made {number = number} {x = x} {item = item} r is on k makes fewer next counted =
    let counts = counted (omega (arith, r.few)) in
    record {
      makes = run_makes r x (Some item) is on k makes;
      number_is = counts ∙ ap (number_of item) r.number_is;
      few = omega (arith, counts, counts_one item number, fewer (ap is_some is), r.few);
    }

-- its text
text_next : {items : List Item} {over on : Bool} {h k : HostState} {item : Item} {next : ℕ}
    → Made items over h item next on k → (lines : ℕ → Item → List (List ℕ))
    → lines_text (lines next item) ≡ item_text lines items item
text_next {item = item} made lines = ap (λ n. lines_text (lines n item)) made.number_is

-- and it is one more
run_told : {mode : Mode} {was : Bool} {old : HostState} {items : List Item} {number next : ℕ}
    {over on : Bool} {h k : HostState} {item : Item} (new : HostState)
    → RunSoFar mode was old items number over h → Made items over h item next on k
    → AppendsText (shown mode items item) k new
    → RunSoFar mode was old (item ∷ items) next on new
unfolding listings
run_told {on = on} {k = k} new r made puts = record {
  so_far = told_next r.so_far made.makes puts;
  knows = λ _. puts_knows puts (makes_knows made.makes.1);
  number_is = made.number_is;
  few =
      let left : items_left on new.world ≡ items_left on k.world =
      ap (λ (x : HostState). items_left on x.world) puts.rest in
      omega (arith, left, made.few);
}

-- lines in memory, as they are written
lines_are : (vs : List (Vec ℕ)) (lines : List (List ℕ)) → map (λ v. v.items) vs ≡ lines
    → written_lines vs ≡ lines_text lines
lines_are vs lines is =
    sym (flat_map-map (λ line. line ++ 10 ∷ []) (λ v. v.items) vs) ∙ ap lines_text is

-- In mode Run

-- the run so far, with some items
pub record TracedSoFar (was : Bool) (old : HostState) (number : ℕ) (over : Bool)
    (new : HostState) : Type 0 where
  pub items : List Item
  pub run : RunSoFar Run was old items number over new

-- the lines of the next item were put behind it
pub run_put : {was : Bool} {old : HostState} {number next : ℕ} {over on : Bool} {h k : HostState}
    {item : Item} (r : TracedSoFar was old number over h) → Made r.items over h item next on k
    → (vs : List (Vec ℕ)) → map (λ v. v.items) vs ≡ item_lines next item
    → (still : Bool) (new : HostState) → still ≡ on → AppendsText (written_lines vs) k new
    → TracedSoFar was old next still new
run_put {was} {old} {next = next} {k = k} {item} r made vs lines still new same puts = record {
  items = item ∷ r.items;
  run = subst (λ o. RunSoFar Run was old (item ∷ r.items) next o new) (sym same)
      (run_told new r.run made (subst (λ t. AppendsText t k new)
      (lines_are vs (item_lines next item) lines ∙ text_next made item_lines) puts));
}

-- a run that stopped
pub run_stopped : {was : Bool} {old new : HostState} {items : List Item}
    (result : Result (Unit {0}) ServeFault) (said : ServeFault) → IsErrAnd result (λ e. e ≡ said)
    → StoppedRun Run (λ why. said ≡ of_run why) (at_write said) was old items new
    → RunEnds was old result new
run_stopped {was} {old} {new} {items} result said is stopped =
    at_fault (λ x. RunEnds was old x new) result said is
    (record { items = items; ends = stopped })

-- the lines of the next item were not all put behind it
pub run_cut : {was : Bool} {old : HostState} {number next : ℕ} {over on : Bool} {h k : HostState}
    {item : Item} (r : TracedSoFar was old number over h) → Made r.items over h item next on k
    → (vs : List (Vec ℕ)) → map (λ v. v.items) vs ≡ item_lines next item
    → (said : ServeFault) (new : HostState) → LinesPut (written_lines vs) k (Err said) new
    → (result : Result (Unit {0}) ServeFault) → IsErrAnd result (λ e. e ≡ said)
    → RunEnds was old result new
run_cut {was} {old} {next = next} {k = k} {item} r made vs lines said new puts result is =
    elim puts.1 [
      | inl cut ↦ run_stopped result said is (cut_next cut.0 r.run.so_far made.makes
          (subst (λ t. CutsText t k new) (lines_are vs (item_lines next item) lines
          ∙ text_next made item_lines) cut.1))
      | inr none ↦ subst (λ n. RunEnds was old result n) (sym none.1)
          (run_stopped result said is (unwritten_next none.0 r.run.so_far made.makes))
    ]

pub run_written : (plan : PlanData) (before : Option (List ℕ)) (over : Bool) (h k : HostState)
    (result : Result (Unit {0}) ServeFault) (now : Option (List ℕ)) → Opens plan before h
    → over ≡ false → RunEnds over h result k
    → IfErr result (λ fault. IsCausedInRun fault k.world) → k.world.shared ≡ false → now ≡ k.trace
    → IsWritten Run plan before result now
run_written plan before over h k result now opens at_work goes caused single text =
    let so : RunEnds false h result k = subst (λ o. RunEnds o h result k) at_work goes in
    inr (record {
      first = h;
      opens = opens;
      items = so.items;
      last = k;
      ends = so.ends;
      caused = caused;
      limit = run_limit Run of_run at_write false h so.items result k so.ends
          ∙ limit_opened plan h opens;
      single = single;
      lists = run_lists_right plan Run of_run at_write false h so.items k result opens so.ends;
      text = text;
    })

-- With no trace

-- the run so far, from its host's first call on, and the text of its items
pub record UntracedSoFar (plan : PlanData) (lines : ℕ → Item → List (List ℕ))
    (before : Option (List ℕ)) (number : ℕ) (over : Bool) (new : HostState)
    (now : Option (List ℕ)) : Type 0 where
  pub thrown : Option (List ℕ)
  pub first : HostState
  pub opens : Opens plan thrown first
  pub items : List Item
  pub run : RunSoFar Tree false first items number over new
  pub text : Appends before now (items_text lines items)

pub untraced_begun : {plan : PlanData} {thrown : Option (List ℕ)} {h : HostState}
    → Opens plan thrown h → (lines : ℕ → Item → List (List ℕ)) (before : Option (List ℕ))
    (over : Bool) → over ≡ false → h.world.taken + to_come h.world ≤ 10000
    → UntracedSoFar plan lines before 0 over h before
unfolding items_text
untraced_begun {plan} {thrown} {h} opens lines before over at_work few = record {
  thrown = thrown;
  first = h;
  opens = opens;
  items = [];
  run = subst (λ o. RunSoFar Tree false h [] 0 o h) (sym at_work)
      (run_begun Tree false h (λ _. knows_opened plan h opens) few);
  text = Appends-nil before;
}

-- the lines of the next item were written
pub untraced_told : {plan : PlanData} {lines : ℕ → Item → List (List ℕ)}
    {before now : Option (List ℕ)} {number next : ℕ} {over on : Bool} {h k : HostState}
    {item : Item} (r : UntracedSoFar plan lines before number over h now)
    → Made r.items over h item next on k
    → (s : Option (List ℕ)) → Appends now s (lines_text (lines next item))
    → UntracedSoFar plan lines before next on k s
unfolding items_text
untraced_told {lines = lines} {before} {now} {k = k} {item} r made s appends = record {
  thrown = r.thrown;
  first = r.first;
  opens = r.opens;
  items = item ∷ r.items;
  run = run_told k r.run made (appends_no_text k);
  text = Appends-trans before now s (items_text lines r.items) (item_text lines r.items item)
      r.text (subst (λ t. Appends now s t) (text_next made lines) appends);
}

-- a run that ended, of which such a text is written
untraced_run : {plan : PlanData} {thrown : Option (List ℕ)} {first : HostState}
    → Opens plan thrown first → (items : List Item) (last : HostState)
    (result : Result (Unit {0}) ServeFault) (IsText : HostState → List Item → HostState → Type 0)
    → RunsTo Tree of_run never false first items result last
    → IfErr result (λ f. IsCausedInTree f last.world) → last.world.shared ≡ false
    → IsText first items last → UntracedRun plan result IsText
untraced_run {plan} {thrown} {first} opens items last result IsText ends caused single text =
    record {
      thrown = thrown;
      first = first;
      opens = opens;
      items = items;
      last = last;
      ends = ends;
      caused = caused;
      limit = run_limit Tree of_run never false first items result last ends
          ∙ limit_opened plan first opens;
      single = single;
      lists = run_lists_right plan Tree of_run never false first items last result opens ends;
      text = text;
    }

-- it stopped on the way to its next item
pub untraced_stopped : {plan : PlanData} {lines : ℕ → Item → List (List ℕ)}
    {before now : Option (List ℕ)} {number : ℕ} {over : Bool} {h : HostState}
    → UntracedSoFar plan lines before number over h now → (on : Bool) (k : HostState)
    (fault : RunFault) → ((over ≡ false → Knows h) → Next over h (Err fault) on k)
    → IsCausedInTree (serve.Run fault) k.world → k.world.shared ≡ false
    → ItemsWritten plan lines before (Err (serve.Run fault)) now
untraced_stopped r on k fault next caused single =
    inr (untraced_run r.opens r.items k (Err (serve.Run fault)) _
    (stopped_next on fault refl r.run.so_far (next r.run.knows)) caused single r.text)

-- the lines of the next item were not all written
pub untraced_cut : {plan : PlanData} {lines : ℕ → Item → List (List ℕ)}
    {before now : Option (List ℕ)} {number next : ℕ} {over on : Bool} {h k : HostState}
    {item : Item} (r : UntracedSoFar plan lines before number over h now)
    → Made r.items over h item next on k → k.world.shared ≡ false → (s : Option (List ℕ))
    → (fault : ServeFault) → TextWritten (lines_text (lines next item)) now (Err fault) s
    → ItemsWritten plan lines before (Err fault) s
unfolding items_text
untraced_cut {lines = lines} {before} {now} {k = k} {item} r made single s serve.Write front =
    inr (untraced_run r.opens (item ∷ r.items) k (Err serve.Write) _
    (behind (λ cut. cut) (told_next r.run.so_far made.makes (appends_no_text k))) tt single
    (front_after_first before now s (items_text lines r.items) (item_text lines r.items item)
    r.text (subst (λ t. AppendsFront now s t) (text_next made lines) front)))
untraced_cut {lines = lines} {before} {k = k} r made single s serve.Memory same =
    inr (untraced_run r.opens r.items k (Err serve.Memory) _
    (unwritten_next (λ cut. cut) r.run.so_far made.makes) tt single
    (subst (λ o. Appends before o (items_text lines r.items)) (sym same) r.text))
untraced_cut r made single s serve.Read none = absurd none
untraced_cut r made single s serve.TooLong none = absurd none
untraced_cut r made single s (serve.Plan fault) none = absurd none
untraced_cut r made single s (serve.Run fault) none = absurd none

-- it is over
pub untraced_over : {plan : PlanData} {lines : ℕ → Item → List (List ℕ)}
    {before now : Option (List ℕ)} {number : ℕ} {over : Bool} {h : HostState}
    → UntracedSoFar plan lines before number over h now
    → (x : Option Item) → x ≡ None → (on : Bool) (k : HostState)
    → ((over ≡ false → Knows h) → Next over h (Ok x) on k) → k.world.shared ≡ false
    → ItemsWritten plan lines before (Ok tt) now
untraced_over {h = h} r x is on k next single =
    inr (untraced_run r.opens r.items k (Ok tt) _
    (over_next h k r.run.so_far (run_makes r.run x None is on k next)) tt single r.text)

-- the lines of an item
pub lines_written : {T : Type 0} (text : T → Option (List ℕ)) (failed : T → Bool) (old new : T)
    (result : Result (Unit {0}) ServeFault) (vs : List (Vec ℕ)) (lines : List (List ℕ))
    → map (λ v. v.items) vs ≡ lines → PutsText text failed old result new (written_lines vs)
    → IfErr result (λ fault. fault ≡ serve.Write)
    → TextWritten (lines_text lines) (text old) result (text new)
lines_written text failed old new (Ok done) vs lines is puts fault =
    subst (λ t. Appends (text old) (text new) t) (lines_are vs lines is) puts.ok
lines_written text failed old new (Err said) vs lines is puts fault =
    subst (λ f. TextWritten (lines_text lines) (text old) (Err f) (text new)) (sym fault)
    (subst (λ t. AppendsFront (text old) (text new) t) (lines_are vs lines is) puts.front)

-- In mode Tree

-- the items of a run, where that was not done
pub tree_stopped : {plan : PlanData} {before now : Option (List ℕ)} (fault : ServeFault)
    (result : Result (Unit {0}) ServeFault) → IsErrAnd result (λ e. e ≡ fault)
    → ItemsWritten plan item_lines before (Err fault) now → IsWritten Tree plan before result now
tree_stopped {plan} {before} {now} fault result is items =
    at_fault (λ x. IsWritten Tree plan before x now) result fault is (elim items [
      | inl none ↦ inl none
      | inr run ↦ inr (untraced_run run.opens run.items run.last (Err fault) _ run.ends run.caused
          run.single (inl run.text))
    ])

-- memory was refused for the bound's line
pub tree_unbound : {plan : PlanData} {before now : Option (List ℕ)}
    (result : Result (Unit {0}) ServeFault) → IsErrAnd result (λ e. e ≡ serve.Memory)
    → ItemsWritten plan item_lines before (Ok tt) now → IsWritten Tree plan before result now
tree_unbound result is (inl none) = cc none.refused
tree_unbound {plan} {before} {now} result is (inr run) =
    at_fault (λ x. IsWritten Tree plan before x now) result serve.Memory is
    (inr (untraced_run run.opens run.items run.last (Err serve.Memory) _
    (behind (λ cut. cut) run.ends) tt run.single (inl run.text)))

-- the bound behind a run that is over
pub tree_bound : {T : Type 0} (text : T → Option (List ℕ)) (failed : T → Bool) (plan : PlanData)
    (before : Option (List ℕ)) (old new : T) (result : Result (Unit {0}) ServeFault)
    (line : List ℕ) → line ≡ bound_line (bound_of plan)
    → ItemsWritten plan item_lines before (Ok tt) (text old)
    → PutsText text failed old result new (line ++ 10 ∷ [])
    → IfErr result (λ f. f ≡ serve.Write) → IsWritten Tree plan before result (text new)
tree_bound text failed plan before old new result line is (inl none) puts said = cc none.refused
tree_bound text failed plan before old new (Ok done) line is (inr run) puts said =
    inr (untraced_run run.opens run.items run.last (Ok done) _ run.ends tt run.single
    (subst (λ l. Appends before (text new) (items_text item_lines run.items ++ (l ++ 10 ∷ []))) is
    (Appends-trans before (text old) (text new) (items_text item_lines run.items)
    (line ++ 10 ∷ []) run.text puts.ok)))
tree_bound text failed plan before old new (Err fault) line is (inr run) puts said =
    at_fault (λ x. IsWritten Tree plan before x (text new)) (Err fault) serve.Write said
    (inr (untraced_run run.opens run.items run.last (Err serve.Write) _
    (behind (λ cut. cut) run.ends) tt run.single (inr (
      refl,
      run.ends,
      subst (λ l. AppendsFront before (text new) (items_text item_lines run.items
          ++ (l ++ 10 ∷ []))) is (front_after_first before (text old) (text new)
          (items_text item_lines run.items) (line ++ 10 ∷ []) run.text puts.front),
    ))))
