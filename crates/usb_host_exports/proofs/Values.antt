-- The machine value of a `Slot`: its pointer and the heap handle.
use Rattle.std.proofs.Common.{◌≡◌, List, [], ◌∷◌, ◌++◌, refl, subst}
use mathlib.Core.Bool.{Bool, not}
use lib.Dec.{T}
use seplogic.Ra.Ura.{Ura}
use mir.Syntax.{impl, tnil, dnil}
use mir.Val.{Val, vstruct, of_list}
use types.Logic.{Logic}
use types.Kit.{Item, Goal, Seq, Step, step, ‵, ◌$◌, move, drop, fsplit, fjoin, fpick, fpack, feq_i}
use types.Kit.{feq_l}
use denote.RattleType.{RattleType, Valss}
use denote.RawPtr.{Ptr, ptr_val}
use denote.Steps.{nothing}
use denote.Param.{layout}
use denote.Struct.Struct.{within}
use denote.Struct.Owning.{shape, fields, to}
use Rattle.std.below.core.proofs.alloc.Calls.{Al, handle_tells}
use Rattle.std.below.core.proofs.cell.Inside.{Good}
use Rattle.std.specs.Prelude.{Some, None, IsSome}
use Rattle.std.specs.declared.option.Option.{Option}
use Rattle.std.specs.contracts.alloc.Global as heap
use Rattle.std.proofs.alloc.Global.TheLaws as heap_laws
use Rattle.std.specs.contracts.impls.GlobalAllocator.TheImpl.{ghosts}
use Rattle.usb_box.proofs.Values.{both}
use Rattle.usb_dialogue.specs.declared.driver.Driver.{Driver}
use Rattle.usb_host_exports.specs.{slot_owns}
use Rattle.usb_host_exports.specs.contracts.slot.Slot as slot

abbrev pub Z : RattleType
Z = heap.the_row

abbrev pub Row : RattleType
Row = slot.the_row

abbrev pub al : Al
al = record {
  row = Z;
  laws = heap_laws.the_row_laws;
  g = ghosts;
  d = impl [] tnil dnil;
  drops = impl [] tnil dnil;
}

pub some_of : (m : Option Driver) → IsSome m → (x : Driver) × (m ≡ Some x)
some_of None is = absurd (subst (λ (y : Bool). T (not y)) is tt)
some_of (Some x) is = (x, refl)

module _ {M : Type 1} {𝓤 : Ura M} {𝓛 : Logic 𝓤} {K : Type 0} {Γ : List (Item 𝓤)}
    {G : Goal 𝓤 𝓛.H} where
  pub slot_out : K → (d : Row.Denot) (vs : List Val)
      → ((h : Val) → vs ≡ both (ptr_val d.at) h ∷ [] → Good (layout Z) h
      → Seq K 𝓛 (‵ (slot_owns d.alloc d.at d.held) ∷ ‵ (Z.own_val d.alloc (h ∷ [])) ∷ Γ) G)
      → Seq K 𝓛 (‵ (Row.own_val d vs) ∷ Γ) G
  slot_out t d vs k =
      fsplit t $
      fpick t (λ vss. fsplit t $
      feq_l t (λ ev. fsplit t $
      feq_l t (λ ep. fsplit t $
      handle_tells al t d.alloc vss.1.0 (λ h ea fits. move t (1 ∷ []) $ drop t $
      move t (1 ∷ []) $ k h
      (subst (λ (ws : List Val). vs ≡ vstruct (of_list (ptr_val d.at ∷ (ws ++ []))) ∷ []) ea (subst
      (λ (ps : List Val). vs ≡ vstruct (of_list (ps ++ (vss.1.0 ++ []))) ∷ []) ep ev)) fits))))

  pub slot_in : K → (p : Ptr) (h : Val) (a : Z.Denot) (m : Option Driver)
      → Step K 𝓛 (‵ (Row.own_val (record { at = p; alloc = a; held = m }) (both (ptr_val p) h ∷ []))
      ∷ Γ) G (‵ (slot_owns a p m) ∷ ‵ (Z.own_val a (h ∷ [])) ∷ Γ) G
  slot_in t p h a m = step (λ s. let v : Val = both (ptr_val p) h in
      let d : Row.Denot = record { at = p; alloc = a; held = m } in
      nothing t $ move t (2 ∷ 0 ∷ []) $ fjoin t $ feq_i t (List Val) (ptr_val p ∷ []) (ptr_val p
      ∷ []) refl $ fjoin t $ feq_i t (List Val) (v ∷ []) (v ∷ []) refl $ fjoin t $
      fpack t (Valss (fields slot.the_type)) (within (shape slot.the_type) (to slot.the_type d) (v
      ∷ [])) (ptr_val p ∷ [], (h ∷ [], tt)) $ fjoin t $ s)
