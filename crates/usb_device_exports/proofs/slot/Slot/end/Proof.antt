-- A walk of the code, by hand.
use Rattle.std.proofs.Common.{List, [], ◌∷◌, ◌++◌, refl, sym, subst}
use mir.Val.{Val}
use base.Logic.{SProp, ent, id⊢}
use base.Fml.{ftrue}
use prog.Wp.{WpFn}
use types.Kit.{‵, raw, ◌⊛◌, ◌$◌, ◌∵◌, !, qed, by, move, keep, split, fsplit, fjoin, suffices}
use types.Run.{of_opd, returns, enter}
use types.ByLocal.{alloc_all, pass_all, free_all, look_at, sets}
use contract.Monad.{fact}
use contract.Running.{tables}
use denote.Exit.{yes}
use denote.RattleType.{owns}
use denote.Signature.{types_at, plain}
use denote.RawPtr.{Ptr, block_ptr, null_ptr, ptr_val}
use denote.Steps.{nothing}
use denote.Param.{layout}
use denote.Triple.Walked.{Stays, stay_dropped, walk_of}
use Rattle.std.below.core.proofs.alloc.Calls.{Goes-blank}
use Rattle.std.proofs.raw_atomic.Walks.{proved_at, leaves}
use Rattle.std.specs.contracts.impls.GlobalAllocator.TheImpl.{ghosts}
use Rattle.std.proofs.alloc.Global.TheLaws as heap_laws
use Rattle.usb_box.proofs.Values.{both, raw_good}
use Rattle.usb_device_exports.specs.contracts.devices.Devices.{the_row as R}
use Rattle.usb_device_exports.proofs.Values.{Z, Row, slot_out}
use Rattle.usb_device_exports.specs.contracts.slot.Slot.end.{ended, clauses}
use Rattle.usb_device_exports.specs.contracts.slot.Slot.end.Key.{name as #self}
use Rattle.usb_device_exports.proofs.slot.Slot.end.Statement.{statement}
use Rattle.usb_device_exports.proofs.slot.Slot.end.Code as code
use Rattle.std.specs.Prelude.{IsNone}
use Rattle.std_alloc.proofs.ResultValues.{and_tt}
use Rattle.std.below.core.proofs.cell.Inside.{Good}
use mir.Val.{has_ty, vunit}
use types.Run.{unit_lit}
use types.Kit.{feq_i}
use lib.Dec.{lit<}

good : (p : Ptr) (h : Val) → Good (layout Z) h → Good (layout Row) (both (ptr_val p) h)
good (block_ptr b o) h fits = raw_good R Z heap_laws.the_row_laws ghosts b o h fits
good null_ptr h fits =
    (and_tt (has_ty (layout Z) h) fits.0, (record { fits = lit< tt }, (fits.1, tt)))

pub end_spec : {M : Type 1} → statement M
end_spec 𝓤 𝓛 𝓜 𝓡 wired =
    let H = 𝓛.H in let 𝓣 = tables 𝓤 H 𝓜 𝓡 𝓡.env in let c = clauses 𝓛 𝓜.mem 𝓡.returns in
    let fn = code.function in
    let hs : Stays ended.signature.params ended.kept = (stay_dropped (plain (λ _. Row)) yes, tt) in
    proved_at 𝓛 ended hs c 𝓜 𝓡 (Goes-blank 𝓛 0 (plain (λ _. Row)) yes (λ κs x f. tt), tt) #self fn
    (code.unfolded 𝓤 H 𝓜 𝓡 wired) (λ z are.
    let v = z.0.3.0 in let a = v.alloc in
    let Post : Val → SProp 𝓤 = (walk_of 𝓛 ended hs c).post z in
    let Run : List Val → SProp 𝓤 = λ ws. WpFn 𝓤 H 𝓣.C 𝓣.Λ fn ws Post in
    qed 𝓛 ((‵ ftrue ⊛ ‵ (owns (types_at ended.signature.params z.0.0) z.0.3 z.0.4))
    ∷ raw (fact 𝓤 (IsNone v.held)) ∷ []) ∵ split ! $ move ! (1 ∷ []) $ fsplit ! $
    slot_out ! v z.0.4.0 (λ h ws fits.
    let w : Val = both (ptr_val v.at) h in
    suffices ! (Run (w ∷ [])) (subst (λ (us : List Val). ent 𝓤 (Run (w ∷ [])) (Run us))
    (sym (λ i. ws i ++ [])) (id⊢ 𝓤 (Run (w ∷ [])))) $
    enter ! 𝓣.C 𝓣.Λ fn (w ∷ []) Post $ alloc_all ! (λ l. pass_all ! refl (good v.at h fits, tt) $
    sets ! (of_opd ! (unit_lit !)) refl (tt, tt) $
    nothing ! $ feq_i ! (List Val) (vunit ∷ []) (vunit ∷ []) refl $ nothing ! $
    nothing ! $ fjoin ! $
    returns ! (look_at ! 0 refl) $ free_all ! refl $ keep ! (6 ∷ 0 ∷ 1 ∷ 2 ∷ []) $
    by ! (leaves 𝓛 ended hs c z vunit tt (tt, tt) (tt, tt)))))
