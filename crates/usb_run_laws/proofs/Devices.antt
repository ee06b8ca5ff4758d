-- One device over the parts of a stretch, one after the other.
use Rattle.std.proofs.Common.{◌≡◌, ◌∙◌, refl, sym, ap, subst, Bool, true, false, ℕ, List, [], ◌∷◌}
use Rattle.std.proofs.Common.{◌++◌, Option, None, Some, append-nil}
use Rattle.std.specs.List.{AllByRecursion}
use Rattle.usb_device.specs.{GivesOn, Registers, State, Location, in_data, in_end, out_end}
use Rattle.usb_device.proofs.Interface.{gives-append}
use Rattle.usb_world.specs.{Was}
use Rattle.usb_transfer.specs.{PipeState, InPipeInSync}
use Rattle.usb_table.specs.{Pipes, Hub, Function, Absent, FitsIn, SparesBulk}
use Rattle.usb_table.specs.{SameSettings, function_of}
use Rattle.usb_table.proofs.Interface.{root, same_in_data, still_source}
use Rattle.usb_host.specs.{SameFunction, HostState}
use Rattle.usb_run_laws.specs.{AreGiven, ArePackets, AreTaken, ClearsNone, Endpoint, FailsPlain}
use Rattle.usb_run_laws.specs.{SetsNone, GaveNextBy, GaveTold, InStream, Joins, OutStream}
use Rattle.usb_run_laws.specs.{StreamsAt, ToldItem, bytes_for, endpoint_at, first_of, is_done}
use Rattle.usb_run_laws.specs.{is_this, pipe_of}
use Rattle.usb_run_laws.specs.Streams.{Streams}
use Rattle.usb_run_laws.proofs.Bytes.{SinkStep, given_bytes, given_none, given_then, joins_behind}
use Rattle.usb_run_laws.proofs.Bytes.{took_none, took_stay, took_then}
use Rattle.usb_run_laws.proofs.PipeEnds.{SinksStay}

-- Sources

-- such packets came next from an endpoint, through a pipe
pub record GaveSome (Are : List (List ℕ) → Type 0) (e : ℕ) (pipe : PipeState) (got : ℕ)
    (left : PipeState) (s v : State) : Type 0 where
  pub packets : List (List ℕ)
  pub are : Are packets
  pub behind : ℕ
  pub come : GivesOn (in_data s e) pipe.max got packets behind
  pub level : InPipeInSync left behind v

pub record Gives (Are : List (List ℕ) → Type 0) (e : ℕ) (pipe left : PipeState) (s v : State)
    : Type 0 where
  pub ep : left.ep ≡ pipe.ep
  pub max : left.max ≡ pipe.max
  pub some : (got : ℕ) → InPipeInSync pipe got s → GaveSome Are e pipe got left s v

abbrev pub GivesBy : (List (List ℕ) → Type 0) → ℕ → Option PipeState → Option PipeState → State
    → State → Type 0
GivesBy Are e None left s v = Are [] × (left ≡ None)
GivesBy Are e (Some pipe) None s v = ⊥
GivesBy Are e (Some pipe) (Some left) s v = Gives Are e pipe left s v

-- an IN pipe that stays as far as it was gives nothing
pub gives_nothing : (Are : List (List ℕ) → Type 0) (e : ℕ) (pipe left : Option PipeState)
    (s v : State) → Are [] → left ≡ pipe
    → ((p : PipeState) (got : ℕ) → pipe ≡ Some p → InPipeInSync p got s → InPipeInSync p got v)
    → GivesBy Are e pipe left s v
gives_nothing Are e None left s v none kept level = (none, kept)
gives_nothing Are e (Some pipe) left s v none kept level =
    subst (λ l. GivesBy Are e (Some pipe) l s v) (sym kept) (record {
      ep = refl;
      max = refl;
      some = λ got f. record {
        packets = [];
        are = none;
        behind = got;
        come = refl;
        level = level pipe got refl f;
      };
    })

-- what comes next, and what comes next behind it
gives_then : (A B C : List (List ℕ) → Type 0)
    → ((a b : List (List ℕ)) → A a → B b → C (a ++ b)) → (e : ℕ) (p q r : Option PipeState)
    (x : Location) (s u v : State) → SameSettings x s u → GivesBy A e p q s u
    → GivesBy B e q r u v → GivesBy C e p r s v
gives_then A B C join e None None r at s u v same x y = (join [] [] x.0 y.0, y.1)
gives_then A B C join e None (Some q) r at s u v same x y = absurd (cc x.1)
gives_then A B C join e (Some p) None r at s u v same x y = absurd x
gives_then A B C join e (Some p) (Some q) None at s u v same x y = absurd y
gives_then A B C join e (Some p) (Some q) (Some r) at s u v same x y = record {
  ep = y.ep ∙ x.ep;
  max = y.max ∙ x.max;
  some = λ got f.
      let first = x.some got f in
      let second = y.some first.behind first.level in
      let come : GivesOn (in_data s e) p.max first.behind second.packets second.behind =
      subst (λ content. GivesOn content p.max first.behind second.packets second.behind)
      (same_in_data e s u same)
      (subst (λ n. GivesOn (in_data u e) n first.behind second.packets second.behind) x.max
      second.come) in
      record {
        packets = first.packets ++ second.packets;
        are = join first.packets second.packets first.are second.are;
        behind = second.behind;
        come = gives-append (in_data s e) p.max got first.behind second.behind first.packets
            second.packets first.come come;
        level = second.level;
      };
}

-- what was told, as such packets
told_gives : (end : Endpoint) (told : List ToldItem) (pipe left : Option PipeState) (s v : State)
    → GaveNextBy end told pipe left s v → GivesBy (AreGiven end told) end.number pipe left s v
told_gives end told None left s v x = x
told_gives end told (Some pipe) None s v x = absurd x
told_gives end told (Some pipe) (Some left) s v x = record {
  ep = x.ep;
  max = x.max;
  some = λ got f.
      let gave : GaveTold end told pipe got left s v = x.next got f in
      record {
        packets = gave.packets;
        are = gave.given;
        behind = gave.behind;
        come = gave.come;
        level = gave.level;
      };
}

gives_told : (end : Endpoint) (told : List ToldItem) (pipe left : Option PipeState) (s v : State)
    → GivesBy (AreGiven end told) end.number pipe left s v → GaveNextBy end told pipe left s v
gives_told end told None left s v x = x
gives_told end told (Some pipe) None s v x = absurd x
gives_told end told (Some pipe) (Some left) s v x = record {
  ep = x.ep;
  max = x.max;
  next = λ got f.
      let gave : GaveSome (AreGiven end told) end.number pipe got left s v = x.some got f in
      record {
        packets = gave.packets;
        given = gave.are;
        joined = given_bytes end told gave.packets gave.are;
        behind = gave.behind;
        come = gave.come;
        level = gave.level;
      };
}

-- Parts

-- what lies between two items moves no byte
pub record DeviceStays (pipes left : Pipes) (s v : State) : Type 0 where
  pub sinks : SinksStay s v
  pub kept : (is_in : Bool) (e : ℕ) → pipe_of is_in e left ≡ pipe_of is_in e pipes
  pub first : (is_in : Bool) → first_of is_in left ≡ first_of is_in pipes
  pub into : (pipe : PipeState) (got : ℕ) → InPipeInSync pipe got s → InPipeInSync pipe got v
  pub settings : SameSettings root s v

-- the description and the registers stay, but for the alternate settings
pub record SameButSettings (s v : State) : Type 0 where
  pub spec : v.spec ≡ s.spec
  pub registers : v.registers ≡ record s.registers { settings = v.registers.settings }

pub same_but : (s v : State) → SameSettings root s v → SameButSettings s v
same_but s v same = record {
  spec = same.0;
  registers = same.1 ∙ ap (λ (g : Registers). record s.registers { settings = g.settings })
      (sym same.1);
}

pub same_set : (s v : State) → SameSettings root s v → v.registers.settings ≡ s.registers.settings
same_set s v same = ap (λ (g : Registers). g.settings) same.1

-- with the same settings all of them
all_settings : (s v : State) → v.registers ≡ record s.registers { settings = v.registers.settings }
    → v.registers.settings ≡ s.registers.settings → v.registers ≡ s.registers
all_settings s v rest same = rest ∙ ap (λ x. record s.registers { settings = x }) same

-- an item moves the bytes that it tells: through each OUT endpoint
pub record OutMoves (end : Endpoint) (t : ToldItem) (pipe left : Option PipeState) (s v : State)
    : Type 0 where
  pub there : SetsNone end.path t → left ≡ None → pipe ≡ None
  pub none : pipe ≡ None → (out_end v end.number).sink ≡ (out_end s end.number).sink
  pub sink : Joins (is_done t.item) (bytes_for end t.due) (out_end s end.number).sink
      (out_end v end.number).sink
  pub took : ClearsNone end t → SinkStep (is_done t.item) (bytes_for end t.due) pipe left
      (out_end s end.number).sink (out_end v end.number).sink

-- and through all
pub record DeviceMoves (path : List ℕ) (t : ToldItem) (pipes left : Pipes) (s v : State) : Type 0
  where
    pub outs : (e : ℕ) → OutMoves (endpoint_at path false e pipes) t (pipe_of false e pipes)
        (pipe_of false e left) s v
    pub ins : (e : ℕ) → ClearsNone (endpoint_at path true e pipes) t
        → GivesBy (ArePackets (endpoint_at path true e pipes) t.item) e (pipe_of true e pipes)
        (pipe_of true e left) s v
    pub first : (is_in : Bool) → first_of is_in left ≡ first_of is_in pipes
    pub plain : (is_in : Bool) → first_of is_in pipes ≡ None → FailsPlain is_in path t
    pub device : SameButSettings s v
    pub settings : SetsNone path t → v.registers.settings ≡ s.registers.settings

-- the same function has the same pipes

pub pipe_of_function : (is_in : Bool) (e : ℕ) (pipes left : Pipes)
    → function_of left ≡ function_of pipes → pipe_of is_in e left ≡ pipe_of is_in e pipes
pipe_of_function is_in e (Hub p) (Hub q) same = refl
pipe_of_function is_in e (Hub p) (Function q) same = absurd (cc same)
pipe_of_function is_in e (Hub p) (Absent said) same = refl
pipe_of_function is_in e (Function p) (Hub q) same = absurd (cc same)
pipe_of_function is_in e (Function p) (Function q) same =
    let it : q ≡ p = cc same in ap (λ f. pipe_of is_in e (Function f)) it
pipe_of_function is_in e (Function p) (Absent said) same = absurd (cc same)
pipe_of_function is_in e (Absent said) (Hub q) same = refl
pipe_of_function is_in e (Absent said) (Function q) same = absurd (cc same)
pipe_of_function is_in e (Absent said) (Absent other) same = refl

first_of_function : (is_in : Bool) (pipes left : Pipes)
    → function_of left ≡ function_of pipes → first_of is_in left ≡ first_of is_in pipes
first_of_function is_in (Hub p) (Hub q) same = refl
first_of_function is_in (Hub p) (Function q) same = absurd (cc same)
first_of_function is_in (Hub p) (Absent said) same = refl
first_of_function is_in (Function p) (Hub q) same = absurd (cc same)
first_of_function is_in (Function p) (Function q) same =
    let it : q ≡ p = cc same in ap (λ f. first_of is_in (Function f)) it
first_of_function is_in (Function p) (Absent said) same = absurd (cc same)
first_of_function is_in (Absent said) (Hub q) same = refl
first_of_function is_in (Absent said) (Function q) same = absurd (cc same)
first_of_function is_in (Absent said) (Absent other) same = refl

pub spares_stays : (pipes left : Pipes) (x : Location) (s v : State) → SameFunction pipes left
    → SparesBulk x s v → DeviceStays pipes left s v
spares_stays pipes left x s v same spares =
    let settings : SameSettings x s v =
    (ap (λ (d : State). d.spec) spares, ap (λ (d : State). d.registers) spares) in
    record {
      sinks = λ e. ap (λ (d : State). (out_end d e).sink) spares;
      kept = λ is_in e. pipe_of_function is_in e pipes left same.same;
      first = λ is_in. first_of_function is_in pipes left same.same;
      into = λ p got f. still_source p got s v settings
          (ap (λ (d : State). (in_end d p.ep).place) spares)
          (ap (λ (d : State). (in_end d p.ep).state) spares) f;
      settings = settings;
    }

-- Joins

pub streams_none : (path : List ℕ) (pipes : Pipes) (s : State)
    → ((e : ℕ) → FitsIn (pipe_of true e pipes) s) → Streams path [] pipes pipes s s
unfolding AreTaken
streams_none path pipes s had = record {
  outs = λ e. record {
    took = λ all. took_none (endpoint_at path false e pipes) (pipe_of false e pipes) s;
    sink = ([], refl, sym (append-nil (out_end s e).sink));
    none = λ unset none. refl;
  };
  ins = λ e. record {
    had = had e;
    gave = λ all. gives_told (endpoint_at path true e pipes) [] (pipe_of true e pipes)
        (pipe_of true e pipes) s s
        (gives_nothing (AreGiven (endpoint_at path true e pipes) []) e (pipe_of true e pipes)
        (pipe_of true e pipes) s s (given_none (endpoint_at path true e pipes)) refl
        (λ p got there f. f));
  };
  first = λ is_in. refl;
  plain = λ is_in none. tt;
  spec = refl;
  registers = record { rest = refl; settings = λ unset. refl };
}

-- where an endpoint does not begin again no setting is asked for
sets_none : (end : Endpoint) (told : List ToldItem) → AllByRecursion (ClearsNone end) told
    → AllByRecursion (SetsNone end.path) told
sets_none end [] all = tt
sets_none end (t ∷ told) all = (all.0.set, sets_none end told all.1)

-- and the device has the settings that it had
same_settings : (end : Endpoint) (told : List ToldItem) (p q : Pipes) (s u : State)
    → Streams end.path told p q s u → AllByRecursion (ClearsNone end) told → SameSettings root s u
same_settings end told p q s u x all =
    (x.spec, all_settings s u x.registers.rest (x.registers.settings (sets_none end told all)))

pub streams_stay : (path : List ℕ) (told : List ToldItem) (p q r : Pipes) (s u v : State)
    → Streams path told p q s u → DeviceStays q r u v → Streams path told p r s v
streams_stay path told p q r s u v x y = record {
  outs = λ e. out_stays e (x.outs e);
  ins = λ e. in_stays e (x.ins e);
  first = λ is_in. y.first is_in ∙ x.first is_in;
  plain = x.plain;
  spec = y.settings.0 ∙ x.spec;
  registers = record {
    rest = (same_but u v y.settings).registers
        ∙ ap (λ (g : Registers). record g { settings = v.registers.settings }) x.registers.rest;
    settings = λ unset. same_set u v y.settings ∙ x.registers.settings unset;
  };
}
  where
    out_stays : (e : ℕ) → OutStream (endpoint_at path false e p) told (pipe_of false e q) s u
        → OutStream (endpoint_at path false e p) told (pipe_of false e r) s v
    out_stays e o = record {
      took = λ all. took_stay (endpoint_at path false e p) told (pipe_of false e q)
          (pipe_of false e r) s u v (y.kept false e) (y.sinks e) (o.took all);
      sink = (o.sink.0, o.sink.1, y.sinks e ∙ o.sink.2);
      none = λ unset none. y.sinks e ∙ o.none unset (sym (y.kept false e) ∙ none);
    }

    in_stays : (e : ℕ) → InStream (endpoint_at path true e p) told (pipe_of true e p)
        (pipe_of true e q) s u → InStream (endpoint_at path true e p) told (pipe_of true e p)
        (pipe_of true e r) s v
    in_stays e i =
        let end : Endpoint = endpoint_at path true e p in
        record {
          had = i.had;
          gave = λ all. gives_told end told (pipe_of true e p) (pipe_of true e r) s v
              (gives_then (AreGiven end told) (λ l. l ≡ []) (AreGiven end told)
              (λ a b first none. subst (AreGiven end told)
              (sym (append-nil a) ∙ ap (λ l. a ++ l) (sym none)) first)
              e (pipe_of true e p) (pipe_of true e q) (pipe_of true e r) root s u v
              (same_settings end told p q s u x all)
              (told_gives end told (pipe_of true e p) (pipe_of true e q) s u (i.gave all))
              (gives_nothing (λ l. l ≡ []) e (pipe_of true e q) (pipe_of true e r) u v refl
              (y.kept true e) (λ pipe got there f. y.into pipe got f)));
        }

-- an endpoint is the same as long as the first bulk ones are
same_endpoint : (path : List ℕ) (is_in : Bool) (e : ℕ) (p q : Pipes)
    → first_of is_in q ≡ first_of is_in p
    → endpoint_at path is_in e q ≡ endpoint_at path is_in e p
same_endpoint path is_in e p q same = ap (λ first. record {
  path = path;
  is_in = is_in;
  number = e;
  is_first = is_this e first;
}) same

pub streams_move : (path : List ℕ) (t : ToldItem) (told : List ToldItem) (p q r : Pipes)
    (s u v : State) → Streams path told p q s u → DeviceMoves path t q r u v
    → Streams path (t ∷ told) p r s v
unfolding AreTaken
streams_move path t told p q r s u v x y = record {
  outs = λ e. out_moves e (x.outs e)
      (subst (λ end. OutMoves end t (pipe_of false e q) (pipe_of false e r) u v)
      (same_endpoint path false e p q (x.first false)) (y.outs e));
  ins = λ e. in_moves e (x.ins e)
      (subst (λ (end : Endpoint). ClearsNone end t → GivesBy (ArePackets end t.item) e
      (pipe_of true e q) (pipe_of true e r) u v)
      (same_endpoint path true e p q (x.first true)) (y.ins e));
  first = λ is_in. y.first is_in ∙ x.first is_in;
  plain = λ is_in none. (y.plain is_in (x.first is_in ∙ none), x.plain is_in none);
  spec = y.device.spec ∙ x.spec;
  registers = record {
    rest = y.device.registers
        ∙ ap (λ (g : Registers). record g { settings = v.registers.settings }) x.registers.rest;
    settings = λ unset. y.settings unset.0 ∙ x.registers.settings unset.1;
  };
}
  where
    out_moves : (e : ℕ) → OutStream (endpoint_at path false e p) told (pipe_of false e q) s u
        → OutMoves (endpoint_at path false e p) t (pipe_of false e q) (pipe_of false e r) u v
        → OutStream (endpoint_at path false e p) (t ∷ told) (pipe_of false e r) s v
    out_moves e o m =
        let end : Endpoint = endpoint_at path false e p in
        let went = joins_behind (is_done t.item) (bytes_for end t.due) (out_end s e).sink
        o.sink.0 (out_end u e).sink (out_end v e).sink o.sink.2 m.sink in
        let taken : AreTaken end (t ∷ told) went.0 = (o.sink.0, o.sink.1, went.1) in
        record {
          took = λ all. took_then end t told (pipe_of false e q) (pipe_of false e r) s u v
              (o.took all.1) (m.took all.0);
          sink = (went.0, taken, went.2);
          none = λ unset none.
              let before : pipe_of false e q ≡ None = m.there unset.0 none in
              m.none before ∙ o.none unset.1 before;
        }

    in_moves : (e : ℕ) → InStream (endpoint_at path true e p) told (pipe_of true e p)
        (pipe_of true e q) s u
        → (ClearsNone (endpoint_at path true e p) t
        → GivesBy (ArePackets (endpoint_at path true e p) t.item) e (pipe_of true e q)
        (pipe_of true e r) u v)
        → InStream (endpoint_at path true e p) (t ∷ told) (pipe_of true e p) (pipe_of true e r) s v
    in_moves e i m =
        let end : Endpoint = endpoint_at path true e p in
        record {
          had = i.had;
          gave = λ all. gives_told end (t ∷ told) (pipe_of true e p) (pipe_of true e r) s v
              (gives_then (AreGiven end told) (ArePackets end t.item) (AreGiven end (t ∷ told))
              (λ a b first second. given_then end t told a b first second) e
              (pipe_of true e p) (pipe_of true e q) (pipe_of true e r) root s u v
              (same_settings end told p q s u x all.1)
              (told_gives end told (pipe_of true e p) (pipe_of true e q) s u (i.gave all.1))
              (m all.0));
        }

-- At a path

pub streams_at_then : (path : List ℕ) (R S T : State → State → Type 0)
    → ((s u v : State) → R s u → S u v → T s v) → (a b c : HostState) → StreamsAt path R a b
    → StreamsAt path S b c → StreamsAt path T a c
streams_at_then path R S T join a b c first second x v is on stands =
    let late : Was (λ y s v. S s v) b.world x v = second x v is on stands in
    let early : Was (λ y s v. R s v) a.world x late.before =
    first x late.before is late.on late.stands in
    record {
      before = early.before;
      on = early.on;
      stands = early.stands;
      so = join early.before late.before v early.so late.so;
    }
