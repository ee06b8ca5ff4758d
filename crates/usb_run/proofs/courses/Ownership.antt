-- The addresses that devices hold at the beginning of a run, and after an event.
use Rattle.std.proofs.Common.{◌≡◌, sym, ap, subst, false, ℕ, List, Option, None, Some, Result}
use Rattle.std.proofs.Common.{Err, OnOk, IsSome, is_some}
use Rattle.usb_world.specs.declared.event.Ask.{Ask}
use Rattle.usb_world.specs.{BusFault, Limit, Memory, Failed, TookEvent, after, event, World}
use Rattle.usb_hub.specs.{MapHolds, WhileBusWorks}
use Rattle.usb_hub.proofs.Interface.{event_keeps}
use Rattle.usb_host.specs.{HostState, HostMapHolds, claims}
use Rattle.usb_run.proofs.AskedCalls.{OnlyReported}

-- what an event leaves of a host, whose bus stands for the world `mid` before it
pub owning_event : (h : HostState) (mid v : World) (t : Option (List ℕ))
    (result : Result (Option (Option Ask)) BusFault) → mid ≡ h.world → h.stopped ≡ false
    → TookEvent mid result v → OnOk result (v ≡ after event mid)
    → (result ≡ Err Memory → mid.fault ≡ None → v ≡ record mid { fault = Some Memory })
    → (result ≡ Err Failed → mid.fault ≡ None
    → v ≡ record (after event mid) { fault = Some Failed })
    → (result ≡ Err Limit → IsSome mid.fault) → HostMapHolds h
    → HostMapHolds (record h { world = v; trace = t })
owning_event h mid v t result same running took exact refused cut limit o =
    let before : WhileBusWorks (MapHolds (claims h.entries)) mid =
    subst (λ w. WhileBusWorks (MapHolds (claims h.entries)) w) (sym same) (o.owned running) in
    let kept : WhileBusWorks (MapHolds (claims h.entries)) v =
    (event_keeps mid result v took exact refused cut
    (λ reached none. cc (ap is_some none, limit reached))).kept (claims h.entries) before in
    record { single = kept.single; owned = λ _. kept }

-- news leaves them
pub owning_reported : {old new : HostState} → OnlyReported old new → HostMapHolds old
    → HostMapHolds new
owning_reported only o =
    subst HostMapHolds (sym only.1) (record { single = o.single; owned = o.owned })
