-- Over a stretch of a run transfers join end to end.
use Rattle.std.proofs.Common.{◌≡◌, ◌⊎◌, inl, inr, ◌∙◌, refl, sym, ap, subst, true, ℕ, List, [], ◌∷◌}
use Rattle.std.proofs.Common.{Option, None, Some, Ok}
use Rattle.usb_device.specs.{State, Location, path_to, reach, reach_on, state_on, state_there}
use Rattle.usb_device.specs.{in_end, out_end}
use Rattle.usb_world.specs.declared.event.Ask.{Ask}
use Rattle.usb_world.specs.{Look, Was, World}
use Rattle.usb_world.proofs.Interface.{settled_course}
use Rattle.usb_transfer.specs.{InPipeInSync}
use Rattle.usb_enum.specs.{Accepted}
use Rattle.usb_table.specs.{Pipes, Hub, Function, Absent, accepted_device_at, function_of}
use Rattle.usb_table.specs.{is_below_hub, new_pipes_to, PipesInSync, FitsIn, SparesBulk, pipes_at}
use Rattle.usb_table.proofs.Interface.{spares-same}
use Rattle.usb_host.specs.{RenewedAt, StayedAt, Round, HostState, table_in, RoundTells}
use Rattle.usb_host.proofs.Interface.{stay_event}
use Rattle.usb_run.specs.{Item, Comes, Knows, Settled, AppendsText, IsItemOf}
use Rattle.usb_run.proofs.Interface.{arrival_knows, came_running, came_still, comes_onward}
use Rattle.usb_run.proofs.Interface.{item_knows}
use Rattle.usb_run_laws.specs.{LiesBetween, round, silent, last, wrote, Stretch, begun, further}
use Rattle.usb_run_laws.specs.{more, HeadAt, KeepsStreams, ToldItem, StartsAt, StoodAt, FoundSince}
use Rattle.usb_run_laws.specs.{in_look, in_round, StoodOrFound, StreamsAt, pipe_of}
use Rattle.usb_run_laws.specs.Streams.{Streams}
use Rattle.usb_run_laws.proofs.Devices.{DeviceMoves, DeviceStays, streams_at_then, spares_stays}
use Rattle.usb_run_laws.proofs.Devices.{pipe_of_function, streams_move, streams_none, streams_stay}
use Rattle.usb_run_laws.proofs.Heads.{course_kept, kept_then}
use Rattle.usb_run_laws.proofs.Items.{LookFinds, MovesAt, item_moves}
use Rattle.usb_run_laws.proofs.Starts.{begun_place, new_in}
use Rattle.usb_run_laws.proofs.Stretches.{between_knows, between_onward, item_onward, stretch_knows}

-- Where a device stands

level_in : (device : Accepted) (pipes : Pipes) (s : State) → PipesInSync device pipes s → (e : ℕ)
    → FitsIn (pipe_of true e pipes) s
level_in device (Hub pipe) s level e = tt
level_in device (Function pipes) s level e = level.ins e
level_in device (Absent said) s level e = tt

level_at : (path : List ℕ) (device : Accepted) (h : HostState) → Knows h → h.world.fault ≡ None
    → accepted_device_at path h.entries ≡ Some device
    → (x : Location) (s : State) → path ≡ path_to x → reach_on h.world.roots x ≡ true
    → state_on h.world.roots x ≡ Some s → PipesInSync device (pipes_at path (table_in h)) s
level_at path device h knows still at x s is on stands =
    (knows.sound.level still path).level device s at (ap (reach h.world.roots) is
    ∙ on) (ap (state_there h.world.roots) is ∙ stands)

-- at the beginning of a stretch
stood_none : (path : List ℕ) (device : Accepted) (h : HostState) → Knows h → h.world.fault ≡ None
    → accepted_device_at path h.entries ≡ Some device → StoodAt path device [] h h
stood_none path device h knows still at = record {
  listed = at;
  streams = λ x v is on stands.
      let level : PipesInSync device (pipes_at path (table_in h)) v =
      level_at path device h knows still at x v is on stands in
      record {
        before = v;
        on = on;
        stands = stands;
        so = streams_none path (pipes_at path (table_in h)) v
            (level_in device (pipes_at path (table_in h)) v level);
      };
}

-- where it was found anew
renewed_starts : (path : List ℕ) (device : Accepted) (a b : HostState) → RenewedAt path device a b
    → Knows b → b.world.fault ≡ None → accepted_device_at path b.entries ≡ Some device
    → StartsAt path b
renewed_starts path device a b renewed knows still at x s e pipe is on stands found =
    let new = new_in device (is_below_hub path) e pipe
    (sym (pipe_of_function true e (new_pipes_to device (is_below_hub path))
    (pipes_at path (table_in b)) renewed.pipes.same) ∙ found) in
    let fits : FitsIn (Some pipe) s = subst (λ p. FitsIn p s) found
    (level_in device (pipes_at path (table_in b)) s
    (level_at path device b knows still at x s is on stands) e) in (
      new.number,
      subst (λ n. InPipeInSync pipe (in_end s n).place s) new.number
          (begun_place pipe fits.0 s new.works new.first
          (renewed.endpoints x s is on stands pipe.ep).1 fits.1),
    )

-- with what it had taken and given before
renewed_head : (path : List ℕ) (device : Accepted) (a b : HostState)
    (renewed : RenewedAt path device a b) → Knows a → a.world.fault ≡ None
    → HeadAt path renewed.moment b.world
renewed_head path device a b renewed knows still x v is on stands =
    let was : Was SparesBulk renewed.found x v = renewed.since x v is on stands in
    let before : Option State = state_on renewed.moment.roots x in
    kept_then before (Some was.before) (Some v)
    (subst (KeepsStreams before) was.stands
    (course_kept renewed.control (settled_course renewed.before (knows.sound.order still).settled)
    x))
    (inl (record {
      sink = λ e. ap (λ (d : State). (out_end d e).sink) was.so;
      place = λ e. ap (λ (d : State). (in_end d e).place) was.so;
    }))

-- what lies between two items leaves it, with its endpoints
stayed_stands : (path : List ℕ) (device : Accepted) (told : List ToldItem) (a b c : HostState)
    → StoodAt path device told a b → StayedAt path device b c → StoodAt path device told a c
stayed_stands path device told a b c stood stayed = record {
  listed = stood.listed;
  streams = streams_at_then path (Streams path told (pipes_at path (table_in a))
      (pipes_at path (table_in b))) (DeviceStays (pipes_at path (table_in b))
      (pipes_at path (table_in c)))
      (Streams path told (pipes_at path (table_in a)) (pipes_at path (table_in c)))
      (streams_stay path told (pipes_at path (table_in a)) (pipes_at path (table_in b))
      (pipes_at path (table_in c))) a b c stood.streams later;
}
  where
    later : StreamsAt path (DeviceStays (pipes_at path (table_in b)) (pipes_at path (table_in c))) b
        c
    later x v is on stands =
        let was : Was SparesBulk b.world x v = stayed.endpoints x v is on stands in
        record {
          before = was.before;
          on = was.on;
          stands = was.stands;
          so = spares_stays (pipes_at path (table_in b)) (pipes_at path (table_in c)) x
              was.before v stayed.pipes was.so;
        }

-- so does an item, by the bytes that it tells
moved_stands : (path : List ℕ) (device : Accepted) (told : List ToldItem) (due : Option Ask)
    (item : Item) (a b c : HostState) → StoodAt path device told a b
    → MovesAt path device due item b c
    → StoodAt path device (record { due = due; asked = b; item = item } ∷ told) a c
moved_stands path device told due item a b c stood moves =
    let t : ToldItem = record { due = due; asked = b; item = item } in
    record {
      listed = stood.listed;
      streams = streams_at_then path (Streams path told (pipes_at path (table_in a))
          (pipes_at path (table_in b))) (DeviceMoves path t (pipes_at path (table_in b))
          (pipes_at path (table_in c)))
          (Streams path (t ∷ told) (pipes_at path (table_in a)) (pipes_at path (table_in c)))
          (streams_move path t told (pipes_at path (table_in a)) (pipes_at path (table_in b))
          (pipes_at path (table_in c))) a b c stood.streams moves.moves;
    }

-- Parts

-- an event that comes leaves each device
stayed_came : (due : Option (Option Ask)) (a b : HostState) → Comes a (Ok due) b
    → (path : List ℕ) (device : Accepted) → accepted_device_at path b.entries ≡ Some device
    → StayedAt path device a b
stayed_came due a b comes = (stay_event a b (ap (λ (h : HostState). h.entries) comes.rests)
    (ap (λ (h : HostState). h.pipes) comes.rests) comes.takes.exact).each

-- and so does text that is written
wrote_stays : (text : List ℕ) (a b : HostState) → AppendsText text a b
    → (path : List ℕ) (device : Accepted) → accepted_device_at path b.entries ≡ Some device
    → StayedAt path device a b
wrote_stays text a b puts path device at = record {
  listed = ap (λ (h : HostState). accepted_device_at path h.entries) (sym puts.rest) ∙ at;
  pipes = record {
    same = ap (λ (h : HostState). function_of (pipes_at path (table_in h))) puts.rest;
  };
  endpoints = λ x s is on stands.
      let same : b.world ≡ a.world = ap (λ (h : HostState). h.world) puts.rest in
      record {
        before = s;
        on = ap (λ (w : World). reach_on w.roots x) (sym same) ∙ on;
        stands = ap (λ (w : World). state_on w.roots x) (sym same) ∙ stands;
        so = spares-same x s s refl;
      };
}

-- a round leaves it, or finds it anew
between_bulk : {a b : HostState} → LiesBetween a b → Knows a → b.world.fault ≡ None
    → (path : List ℕ) (device : Accepted) → accepted_device_at path b.entries ≡ Some device
    → StayedAt path device a b ⊎ ((done : Round) × RoundTells a (Ok done) b
    × RenewedAt path device a b)
between_bulk {a} {b} (round done tells) knows still path device at =
    pick ((tells.keeps.sound.keeps.bulk knows.sound still).each path device at)
  where
    pick : StayedAt path device a b ⊎ RenewedAt path device a b → StayedAt path device a b
        ⊎ ((done : Round) × RoundTells a (Ok done) b × RenewedAt path device a b)
    pick (inl stayed) = inl stayed
    pick (inr renewed) = inr (done, tells, renewed)
between_bulk {a} {b} (silent due comes is) knows still path device at =
    inl (stayed_came (Some due) a b comes path device at)
between_bulk {a} {b} (last comes) knows still path device at =
    inl (stayed_came None a b comes path device at)
between_bulk {a} {b} (wrote text puts) knows still path device at =
    inl (wrote_stays text a b puts path device at)

-- A stretch

module _ (path : List ℕ) (device : Accepted) where
  stood_on : {old h new : HostState} {told : List ToldItem} → Stretch old told h → LiesBetween h new
      → Knows h → new.world.fault ≡ None → accepted_device_at path new.entries ≡ Some device
      → (accepted_device_at path h.entries ≡ Some device → StoodOrFound path device told old h)
      → StoodOrFound path device told old new
  stood_on {old} {h} {new} {told} before between knows still at earlier =
      pick (between_bulk between knows still path device at)
    where
      later : StayedAt path device h new → StoodOrFound path device told old h
          → StoodOrFound path device told old new
      later stayed (inl stood) = inl (stayed_stands path device told old h new stood stayed)
      later stayed (inr f) = inr (record {
        earlier = f.earlier;
        before = f.before;
        up_to = f.up_to;
        asked = f.asked;
        then_told = f.then_told;
        found = f.found;
        call = f.call;
        renewed = f.renewed;
        head = f.head;
        starts = f.starts;
        since = f.since;
        behind = further f.behind between;
        stood = stayed_stands path device f.since f.found h new f.stood stayed;
        all = f.all;
      })

      pick : StayedAt path device h new ⊎ ((done : Round) × RoundTells h (Ok done) new
          × RenewedAt path device h new) → StoodOrFound path device told old new
      pick (inl stayed) = later stayed (earlier stayed.listed)
      pick (inr anew) = inr (record {
        earlier = told;
        before = h;
        up_to = before;
        asked = h;
        then_told = [];
        found = new;
        call = in_round anew.0 anew.1;
        renewed = anew.2;
        head = renewed_head path device h new anew.2 knows (between_onward between still).sound;
        starts = renewed_starts path device h new anew.2 (between_knows between knows) still at;
        since = [];
        behind = begun;
        stood = stood_none path device new (between_knows between knows) still at;
        all = refl;
      })

  stood_more : {old h mid new : HostState} {told : List ToldItem} (due : Option Ask) (item : Item)
      → Stretch old told h → Settled h → Comes h (Ok (Some due)) mid
      → IsItemOf due (Some item) mid new → new.world.fault ≡ None
      → accepted_device_at path new.entries ≡ Some device
      → (accepted_device_at path h.entries ≡ Some device → StoodOrFound path device told old h)
      → StoodOrFound path device (record { due = due; asked = mid; item = item } ∷ told) old new
  stood_more {old} {h} {mid} {new} {told} due item before settled comes is still at earlier =
      pick (item_moves path device mid new at known working
      (came_running h mid (Some due) comes ∙ settled.running) due item is still)
    where
      known : Knows mid
      known = arrival_knows h mid (Some due) comes settled.knows

      working : mid.world.fault ≡ None
      working = came_still (Some due) h.world mid.world comes.takes.took.ends

      on_to : (since : List ToldItem) (from : HostState) → MovesAt path device due item mid new
          → StoodAt path device since from h
          → StoodAt path device (record { due = due; asked = mid; item = item } ∷ since) from new
      on_to since from moves stood = moved_stands path device since due item from mid new
          (stayed_stands path device since from h mid stood
          (stayed_came (Some due) h mid comes path device moves.listed)) moves

      later : MovesAt path device due item mid new → StoodOrFound path device told old h
          → StoodOrFound path device (record { due = due; asked = mid; item = item } ∷ told) old new
      later moves (inl stood) = inl (on_to told old moves stood)
      later moves (inr f) = inr (record {
        earlier = f.earlier;
        before = f.before;
        up_to = f.up_to;
        asked = f.asked;
        then_told = f.then_told;
        found = f.found;
        call = f.call;
        renewed = f.renewed;
        head = f.head;
        starts = f.starts;
        since = record { due = due; asked = mid; item = item } ∷ f.since;
        behind = more due item f.behind settled comes is;
        stood = on_to f.since f.found moves f.stood;
        all = ap (λ l. record { due = due; asked = mid; item = item } ∷ l) f.all;
      })

      looked : LookFinds path device due mid new
          → FoundSince path device (record { due = due; asked = mid; item = item } ∷ told) old new
      looked f =
          let knows : Knows new = item_knows due (Some item) mid new is known in
          record {
            earlier = told;
            before = h;
            up_to = before;
            asked = mid;
            then_told = record { due = Some (Look f.to); asked = mid; item = item } ∷ [];
            found = new;
            call = in_look f.to item settled
                (subst (λ d. Comes h (Ok (Some d)) mid) f.asks comes)
                (subst (λ d. IsItemOf d (Some item) mid new) f.asks is);
            renewed = f.renewed;
            head = renewed_head path device mid new f.renewed known working;
            starts = renewed_starts path device mid new f.renewed knows still at;
            since = [];
            behind = begun;
            stood = stood_none path device new knows still at;
            all = ap (λ d. record { due = d; asked = mid; item = item } ∷ told) (sym f.asks);
          }

      pick : MovesAt path device due item mid new ⊎ LookFinds path device due mid new
          → StoodOrFound path device (record { due = due; asked = mid; item = item } ∷ told) old new
      pick (inl moves) = later moves (earlier
          (stayed_came (Some due) h mid comes path device moves.listed).listed)
      pick (inr finds) = inr (looked finds)

  stood : {old new : HostState} {told : List ToldItem} → Stretch old told new → Knows old
      → new.world.fault ≡ None → accepted_device_at path new.entries ≡ Some device
      → StoodOrFound path device told old new
  stood {old} begun knows still at = inl (stood_none path device old knows still at)
  stood (further {h = h} {new = new} before between) knows still at =
      stood_on before between (stretch_knows before knows) still at
      (stood before knows ((between_onward between) still).sound)
  stood (more {h = h} {mid = mid} {new = new} due item before settled comes is) knows still at =
      let mid_still = (item_onward due (Some item) mid new is still).sound in
      stood_more due item before settled comes is still at
      (stood before knows (comes_onward comes mid_still).sound)

pub stood_or_found : (old new : HostState) (told : List ToldItem) → Stretch old told new → Knows old
    → new.world.fault ≡ None → (path : List ℕ) (device : Accepted)
    → accepted_device_at path new.entries ≡ Some device → StoodOrFound path device told old new
stood_or_found old new told t knows still path device at = stood path device t knows still at
