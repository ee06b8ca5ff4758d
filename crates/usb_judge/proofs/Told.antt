-- What is told is what stands.
use Rattle.std.proofs.Common.{◌≡◌, ◌⊎◌, inl, inr, ℕ, List, [], ◌∷◌, refl, sym, ap, subst, ◌∙◌}
use Rattle.std.proofs.Common.{Bool, true, false, cond, Option, Some, is_some, option_map}
use Rattle.std.specs.Prelude.{Contains, flat_map}
use Rattle.std.specs.Str.{bytes_eq}
use Rattle.std.proofs.lemmas.Bool.{false≢true}
use Rattle.std.proofs.lemmas.Slice.Eq.{bytes_eq-Decides}
use Rattle.usb_judge.specs.declared.listed.ListedPort.{ListedPort}
use Rattle.usb_judge.specs.declared.judgement.Cause.{Cause}
use Rattle.usb_judge.specs.declared.judgement.Cause.TheVariants as cause
use Rattle.usb_judge.specs.declared.judgement.Judgement.{Judgement}
use Rattle.usb_judge.specs.declared.plugged.PluggedDevice.{PluggedDevice}
use Rattle.usb_judge.specs.{Scene, device_row, device_seen, scene_in, breaks, is_missing}
use Rattle.usb_judge.specs.{IsWrongFor, LacksDevice, Stands, listed_causes, told, told_at, told_for}
use Rattle.usb_judge.specs.{told_lack}
use Rattle.usb_judge.specs.Verdicts.{judged}
use Rattle.usb_judge.proofs.Membership.{Has, has_from, contains_from, has_left, has_right}
use Rattle.usb_judge.proofs.Membership.{has_cases, IsOf, of_flat, into_flat}

-- Of a port, for some causes

record IsToldFor (scene : Scene) (listing : List ListedPort) (port : ListedPort)
    (causes : List Cause) (j : Judgement) : Type 0 where
  pub at : port.path ≡ j.path
  pub among : Has causes j.cause
  pub broken : breaks scene listing port j.cause ≡ true

one_more : (scene : Scene) (listing : List ListedPort) (port : ListedPort) (c : Cause)
    (causes : List Cause) (j : Judgement) → IsToldFor scene listing port causes j
    → IsToldFor scene listing port (c ∷ causes) j
one_more scene listing port c causes j t =
    record { at = t.at; among = inr t.among; broken = t.broken }

for_first : (scene : Scene) (listing : List ListedPort) (port : ListedPort) (c : Cause)
    (causes : List Cause) (j : Judgement) (rest : List Judgement) (b : Bool)
    → breaks scene listing port c ≡ b → (Has rest j → IsToldFor scene listing port causes j)
    → Has (cond b (judged port.path c ∷ rest) rest) j
    → IsToldFor scene listing port (c ∷ causes) j
for_first scene listing port c causes j rest true e more (inl same) = record {
  at = ap (λ (x : Judgement). x.path) same;
  among = inl (ap (λ (x : Judgement). x.cause) same);
  broken = subst (λ (d : Cause). breaks scene listing port d ≡ true)
      (ap (λ (x : Judgement). x.cause) same) e;
}
for_first scene listing port c causes j rest true e more (inr h) =
    one_more scene listing port c causes j (more h)
for_first scene listing port c causes j rest false e more h =
    one_more scene listing port c causes j (more h)

for_from : (scene : Scene) (listing : List ListedPort) (port : ListedPort) (causes : List Cause)
    (j : Judgement) → Has (told_for scene listing port causes) j
    → IsToldFor scene listing port causes j
unfolding told_for
for_from scene listing port [] j h = absurd h
for_from scene listing port (c ∷ causes) j h =
    for_first scene listing port c causes j (told_for scene listing port causes)
    (breaks scene listing port c) refl (for_from scene listing port causes j) h

into_first : (scene : Scene) (listing : List ListedPort) (port : ListedPort) (c : Cause)
    (causes : List Cause) (j : Judgement) (rest : List Judgement) (b : Bool)
    → breaks scene listing port c ≡ b → (IsToldFor scene listing port causes j → Has rest j)
    → port.path ≡ j.path → (c ≡ j.cause) ⊎ Has causes j.cause
    → breaks scene listing port j.cause ≡ true → Has (cond b (judged port.path c ∷ rest) rest) j
into_first scene listing port c causes j rest true e more at (inl same) broken =
    inl (λ i. judged (at i) (same i))
into_first scene listing port c causes j rest false e more at (inl same) broken =
    absurd (false≢true (sym e ∙ ap (λ (d : Cause). breaks scene listing port d) same ∙ broken))
into_first scene listing port c causes j rest true e more at (inr h) broken =
    inr (more (record { at = at; among = h; broken = broken }))
into_first scene listing port c causes j rest false e more at (inr h) broken =
    more (record { at = at; among = h; broken = broken })

for_into : (scene : Scene) (listing : List ListedPort) (port : ListedPort) (causes : List Cause)
    (j : Judgement) → IsToldFor scene listing port causes j
    → Has (told_for scene listing port causes) j
unfolding told_for
for_into scene listing port [] j t = absurd t.among
for_into scene listing port (c ∷ causes) j t =
    into_first scene listing port c causes j (told_for scene listing port causes)
    (breaks scene listing port c) refl (for_into scene listing port causes j) t.at t.among t.broken

-- Of a port, for all causes

pub stands_wrong : (scene : Scene) (listing : List ListedPort) (path : List ℕ) (c : Cause)
    → IsWrongFor scene listing path c → Stands scene listing path c
stands_wrong scene listing path cause.Missing w = absurd (false≢true w.broken)
stands_wrong scene listing path other w = w

among_all : (scene : Scene) (listing : List ListedPort) (port : ListedPort) (c : Cause)
    → breaks scene listing port c ≡ true → Has listed_causes c
among_all scene listing port cause.Twice b = inl refl
among_all scene listing port cause.NotPlugged b = inr (inl refl)
among_all scene listing port cause.NoHub b = inr (inr (inl refl))
among_all scene listing port cause.SameAddress b = inr (inr (inr (inl refl)))
among_all scene listing port cause.Disabled b = inr (inr (inr (inr (inl refl))))
among_all scene listing port cause.OtherDescriptor b = inr (inr (inr (inr (inr (inl refl)))))
among_all scene listing port cause.OtherSpeed b = inr (inr (inr (inr (inr (inr (inl refl))))))
among_all scene listing port cause.OtherAddress b =
    inr (inr (inr (inr (inr (inr (inr (inl refl)))))))
among_all scene listing port cause.OtherConfiguration b =
    inr (inr (inr (inr (inr (inr (inr (inr (inl refl))))))))
among_all scene listing port cause.OtherPorts b =
    inr (inr (inr (inr (inr (inr (inr (inr (inr (inl refl)))))))))
among_all scene listing port cause.TooMuchPower b =
    inr (inr (inr (inr (inr (inr (inr (inr (inr (inr (inl refl))))))))))
among_all scene listing port cause.LeftEnabled b =
    inr (inr (inr (inr (inr (inr (inr (inr (inr (inr (inr (inl refl)))))))))))
among_all scene listing port cause.Missing b = absurd (false≢true b)

-- Of a device that is not listed

record IsToldLack (listing : List ListedPort) (d : PluggedDevice) (j : Judgement) : Type 0 where
  pub at : d.path ≡ j.path
  pub why : cause.Missing ≡ j.cause
  pub missing : is_missing listing d.path ≡ true

lack_by : (listing : List ListedPort) (d : PluggedDevice) (j : Judgement) (b : Bool)
    → is_missing listing d.path ≡ b → Has (cond b (judged d.path cause.Missing ∷ []) []) j
    → IsToldLack listing d j
lack_by listing d j true e (inl same) = record {
  at = ap (λ (x : Judgement). x.path) same;
  why = ap (λ (x : Judgement). x.cause) same;
  missing = e;
}
lack_by listing d j true e (inr h) = absurd h
lack_by listing d j false e h = absurd h

lack_from : (listing : List ListedPort) (d : PluggedDevice) (j : Judgement)
    → Has (told_lack listing d) j → IsToldLack listing d j
lack_from listing d j h = lack_by listing d j (is_missing listing d.path) refl h

lack_into : (listing : List ListedPort) (d : PluggedDevice) (j : Judgement) (b : Bool)
    → is_missing listing d.path ≡ b → b ≡ true → d.path ≡ j.path → cause.Missing ≡ j.cause
    → Has (cond b (judged d.path cause.Missing ∷ []) []) j
lack_into listing d j true e so at why = inl (λ i. judged (at i) (why i))
lack_into listing d j false e so at why = absurd (false≢true so)

-- What is plugged, by path

same_self : (p : List ℕ) → bytes_eq p p ≡ true
same_self p = (bytes_eq-Decides p p).1 refl

seen_by : (d : PluggedDevice) (rest : Option PluggedDevice) (b : Bool) → b ≡ true
    → is_some (option_map device_seen (cond b (Some d) rest)) ≡ true
seen_by d rest true e = refl
seen_by d rest false e = absurd (false≢true e)

seen_further : (d : PluggedDevice) (rest : Option PluggedDevice) (b : Bool)
    → is_some (option_map device_seen rest) ≡ true
    → is_some (option_map device_seen (cond b (Some d) rest)) ≡ true
seen_further d rest true h = refl
seen_further d rest false h = h

pub has_seen : (plugged : List PluggedDevice) (d : PluggedDevice) → Has plugged d
    → is_some (scene_in plugged d.path) ≡ true
has_seen [] d h = absurd h
has_seen (x ∷ plugged) d (inl e) = seen_by x (device_row plugged d.path) (bytes_eq x.path d.path)
    (ap (λ (y : PluggedDevice). bytes_eq y.path d.path) e ∙ same_self d.path)
has_seen (x ∷ plugged) d (inr h) = seen_further x (device_row plugged d.path)
    (bytes_eq x.path d.path) (has_seen plugged d h)

record IsPluggedAt (plugged : List PluggedDevice) (path : List ℕ) : Type 0 where
  pub device : PluggedDevice
  pub has : Has plugged device
  pub at : device.path ≡ path

at_first : (d : PluggedDevice) (plugged : List PluggedDevice) (path : List ℕ) (b : Bool)
    → bytes_eq d.path path ≡ b
    → (is_some (scene_in plugged path) ≡ true → IsPluggedAt plugged path)
    → is_some (option_map device_seen (cond b (Some d) (device_row plugged path))) ≡ true
    → IsPluggedAt (d ∷ plugged) path
at_first d plugged path true e more h =
    record { device = d; has = inl refl; at = (bytes_eq-Decides d.path path).0 e }
at_first d plugged path false e more h = record {
  device = (more h).device;
  has = inr (more h).has;
  at = (more h).at;
}

plugged_at : (plugged : List PluggedDevice) (path : List ℕ)
    → is_some (scene_in plugged path) ≡ true → IsPluggedAt plugged path
plugged_at [] path h = absurd (false≢true h)
plugged_at (d ∷ plugged) path h =
    at_first d plugged path (bytes_eq d.path path) refl (plugged_at plugged path) h

-- All that is told

lacks : (plugged : List PluggedDevice) (listing : List ListedPort) (d : PluggedDevice)
    (j : Judgement) → Has plugged d → IsToldLack listing d j
    → LacksDevice (scene_in plugged) listing j.path
lacks plugged listing d j h t = record {
  plugged = subst (λ (p : List ℕ). is_some (scene_in plugged p) ≡ true) t.at
      (has_seen plugged d h);
  missing = subst (λ (p : List ℕ). is_missing listing p ≡ true) t.at t.missing;
}

stands_either : (plugged : List PluggedDevice) (listing : List ListedPort) (j : Judgement)
    → IsOf (told_at (scene_in plugged) listing) listing j ⊎ IsOf (told_lack listing) plugged j
    → Stands (scene_in plugged) listing j.path j.cause
stands_either plugged listing j (inl o) =
    let t : IsToldFor (scene_in plugged) listing o.element listed_causes j =
    for_from (scene_in plugged) listing o.element listed_causes j o.gives in
    stands_wrong (scene_in plugged) listing j.path j.cause (record {
      port = o.element;
      listed = contains_from listing o.element o.has;
      at = t.at;
      broken = t.broken;
    })
stands_either plugged listing j (inr o) =
    let t : IsToldLack listing o.element j = lack_from listing o.element j o.gives in
    subst (λ (c : Cause). Stands (scene_in plugged) listing j.path c) t.why
    (lacks plugged listing o.element j o.has t)

either_of : {X Y : Type 0} (f : X → List Judgement) (g : Y → List Judgement) (xs : List X)
    (ys : List Y) (j : Judgement)
    → Has (flat_map f xs) j ⊎ Has (flat_map g ys) j
    → IsOf f xs j ⊎ IsOf g ys j
either_of f g xs ys j (inl h) = inl (of_flat f xs j h)
either_of f g xs ys j (inr h) = inr (of_flat g ys j h)

pub told_stands : (plugged : List PluggedDevice) (listing : List ListedPort) (j : Judgement)
    → Contains (told plugged listing) j → Stands (scene_in plugged) listing j.path j.cause
told_stands plugged listing j c = stands_either plugged listing j
    (either_of (told_at (scene_in plugged) listing) (told_lack listing) listing plugged j
    (has_cases _ _ j (has_from _ j c)))

told_wrong : (plugged : List PluggedDevice) (listing : List ListedPort) (j : Judgement)
    → IsWrongFor (scene_in plugged) listing j.path j.cause → Has (told plugged listing) j
told_wrong plugged listing j w = has_left _ _ j (into_flat (told_at (scene_in plugged) listing)
    listing w.port j (has_from listing w.port w.listed)
    (for_into (scene_in plugged) listing w.port listed_causes j (record {
      at = w.at;
      among = among_all (scene_in plugged) listing w.port j.cause w.broken;
      broken = w.broken;
    })))

told_missing : (plugged : List PluggedDevice) (listing : List ListedPort) (j : Judgement)
    → cause.Missing ≡ j.cause → LacksDevice (scene_in plugged) listing j.path
    → Has (told plugged listing) j
told_missing plugged listing j why l =
    let p : IsPluggedAt plugged j.path = plugged_at plugged j.path l.plugged in
    has_right _ _ j (into_flat (told_lack listing) plugged p.device j p.has
    (lack_into listing p.device j (is_missing listing p.device.path) refl
    (subst (λ (q : List ℕ). is_missing listing q ≡ true) (sym p.at) l.missing) p.at why))

told_by : (plugged : List PluggedDevice) (listing : List ListedPort) (path : List ℕ) (c : Cause)
    → Stands (scene_in plugged) listing path c → Has (told plugged listing) (judged path c)
told_by plugged listing path cause.Missing l =
    told_missing plugged listing (judged path cause.Missing) refl l
told_by plugged listing path other w = told_wrong plugged listing (judged path other) w

pub stands_told : (plugged : List PluggedDevice) (listing : List ListedPort) (j : Judgement)
    → Stands (scene_in plugged) listing j.path j.cause → Contains (told plugged listing) j
stands_told plugged listing j s =
    contains_from _ j (told_by plugged listing j.path j.cause s)
