-- A walk of the code, by hand.
use Rattle.std.proofs.Common.{◌≡◌, List, [], ◌∷◌, ◌++◌, refl, sym, subst}
use mir.Val.{Val, vptr}
use base.Logic.{SProp, ent, emp, id⊢, never, fst∗}
use base.Fml.{ftrue}
use prog.Wp.{WpFn}
use types.Logic.{sem}
use types.Kit.{‵, raw, ◌⊛◌, ◌$◌, ◌∵◌, !, qed, by, move, keep, split, fsplit, fjoin, suffices, use0}
use types.Kit.{rewrite}
use types.Run.{stop, fld, of_opd, no_more, and_then, returns, enter}
use types.ByLocal.{alloc_all, pass_all, free_all, look_at, get, get_in, sets}
use types.Part.{agg, sub, whole}
use contract.Monad.{fact, fact_i}
use contract.Running.{tables}
use denote.Exit.{yes}
use denote.RattleType.{owns}
use denote.Signature.{types_at, plain}
use denote.RawPtr.{Ptr, block_ptr, null_ptr, ptr_val, in_a_block}
use denote.Steps.{nothing, heard}
use denote.Param.{layout}
use denote.Triple.Walked.{Stays, stay_dropped, walk_of}
use mir.Raw.{raw as bare}
use Rattle.std.below.core.proofs.alloc.Calls.{Goes-blank}
use Rattle.std.proofs.raw_atomic.Walks.{proved_at, leaves}
use Rattle.std.specs.Prelude.{Some, IsSome}
use Rattle.std.specs.Box.Ownership.{box_owns}
use Rattle.std.specs.contracts.impls.GlobalAllocator.TheImpl.{ghosts}
use Rattle.std.proofs.alloc.Global.TheLaws as heap_laws
use Rattle.usb_box.proofs.Values.{both, raw_good, raw_in}
use Rattle.usb_dialogue.specs.declared.driver.Driver.{Driver}
use Rattle.usb_dialogue.specs.contracts.driver.Driver.{the_row as R}
use Rattle.usb_host_exports.specs.{slot_owns}
use Rattle.usb_host_exports.proofs.Values.{Z, Row, some_of, slot_out}
use Rattle.usb_host_exports.specs.contracts.slot.Slot.into_raw.{ended, clauses}
use Rattle.usb_host_exports.specs.contracts.slot.Slot.into_raw.Key.{name as #self}
use Rattle.usb_host_exports.proofs.slot.Slot.into_raw.Statement.{statement}
use Rattle.usb_host_exports.proofs.slot.Slot.into_raw.Code as code

pub into_raw_spec : {M : Type 1} → statement M
into_raw_spec 𝓤 𝓛 𝓜 𝓡 wired =
    let H = 𝓛.H in let 𝓣 = tables 𝓤 H 𝓜 𝓡 𝓡.env in let c = clauses 𝓛 𝓜.mem 𝓡.returns in
    let fn = code.function in
    let hs : Stays ended.signature.params ended.kept = (stay_dropped (plain (λ _. Row)) yes, tt) in
    proved_at 𝓛 ended hs c 𝓜 𝓡 (Goes-blank 𝓛 0 (plain (λ _. Row)) yes (λ κs x f. tt), tt) #self fn
    (code.unfolded 𝓤 H 𝓜 𝓡 wired) (λ z are.
    let v = z.0.3.0 in let a = v.alloc in
    let Post : Val → SProp 𝓤 = (walk_of 𝓛 ended hs c).post z in
    let Run : List Val → SProp 𝓤 = λ ws. WpFn 𝓤 H 𝓣.C 𝓣.Λ fn ws Post in
    qed 𝓛 ((‵ ftrue ⊛ ‵ (owns (types_at ended.signature.params z.0.0) z.0.3 z.0.4))
    ∷ raw (fact 𝓤 (IsSome v.held)) ∷ []) ∵ move ! (1 ∷ []) $
    heard ! (IsSome v.held)
    (λ is. let x : Driver = (some_of v.held is).0 in let same = (some_of v.held is).1 in
    split ! $ move ! (1 ∷ []) $ fsplit ! $ slot_out ! v z.0.4.0 (λ h ws fits.
    rewrite ! 0 (λ m. ‵ (slot_owns a v.at m)) same refl $
    in_a_block ! v.at (λ p. box_owns (ghosts.dealloc_token a) R p x)
    (fst∗ 𝓤 (never 𝓤) (sem 𝓛 (ghosts.dealloc_token a (bare (layout R)) null_ptr))) (λ b o e.
    let w : Val = both (vptr b o) h in
    let typed = raw_good R Z heap_laws.the_row_laws ghosts b o h fits in
    let is_w : z.0.4.0 ≡ w ∷ [] = subst (λ (p : Ptr). z.0.4.0 ≡ both (ptr_val p) h ∷ []) e ws in
    suffices ! (Run (w ∷ [])) (subst (λ (us : List Val). ent 𝓤 (Run (w ∷ [])) (Run us))
    (sym (λ i. is_w i ++ [])) (id⊢ 𝓤 (Run (w ∷ [])))) $
    enter ! 𝓣.C 𝓣.Λ fn (w ∷ []) Post $ alloc_all ! (λ l. pass_all ! refl (typed, tt) $
    sets ! (of_opd ! (get_in ! (fld ! refl (stop !)) (sub ! 0 refl (whole !)))) refl (tt, tt) $
    sets ! (of_opd ! (get_in ! (fld ! refl (stop !)) (sub ! 1 refl (whole !)))) refl fits $
    sets ! (of_opd ! (get ! refl)) refl (tt, tt) $
    sets ! (agg ! (and_then ! (get ! refl) (and_then ! (get ! refl) (no_more !)))) refl typed $
    raw_in R Z heap_laws.the_row_laws ghosts ! b o h a x $
    use0 𝓛 (raw (fact 𝓤 (v.held ≡ Some x))) (fact_i 𝓤 (v.held ≡ Some x) (emp 𝓤) same) $ nothing ! $
    nothing ! $ fjoin ! $
    returns ! (look_at ! 0 refl) $ free_all ! refl $ keep ! (4 ∷ 0 ∷ 2 ∷ 1 ∷ []) $
    by ! (leaves 𝓛 ended hs c z w (record { at = block_ptr b o; alloc = a; value = x }) (tt, tt)
    (tt, tt)))))))
