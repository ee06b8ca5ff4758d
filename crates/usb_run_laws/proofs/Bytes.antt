-- Bytes and packets join end to end.
use Rattle.std.proofs.Common.{◌≡◌, ◌⊎◌, inl, inr, ◌∙◌, refl, sym, ap, subst, Bool, true, false, ℕ}
use Rattle.std.proofs.Common.{List, [], ◌∷◌, ◌++◌, Option, None, Some, append-nil, append_assoc}
use Rattle.std.proofs.Common.{if◌then◌else◌}
use Rattle.std.specs.List.{concat}
use Rattle.usb_device.specs.{State, out_end}
use Rattle.usb_transfer.specs.{Condition, PipeState, report_in}
use Rattle.usb_transfer.specs.declared.condition.Condition.TheVariants.{Ready, Halted, Broken}
use Rattle.usb_table.specs.{At, bytes_in}
use Rattle.usb_run.specs.{Answer, Item, Polled, Received}
use Rattle.usb_run.specs.declared.item.Task.TheVariants as task
use Rattle.usb_run_laws.specs.{AreGiven, AreJoined, ArePackets, Endpoint, IsAtWork, IsFailedFront}
use Rattle.usb_run_laws.specs.{Joins, ToldItem, TookSent, bytes_for, bytes_from, is_done, is_of}
use Rattle.usb_run_laws.specs.{received_from, sent_to}

-- Packets

concat-append : (a b : List (List ℕ)) → concat (a ++ b) ≡ concat a ++ concat b
concat-append [] b = refl
concat-append (bytes ∷ a) b = ap (λ l. bytes ++ l) (concat-append a b)
    ∙ sym (append_assoc bytes (concat a) (concat b))

joined_bytes : (mine : Bool) (bytes : List ℕ) (packets : List (List ℕ))
    → AreJoined mine bytes packets → concat packets ≡ (if mine then bytes else [])
joined_bytes true bytes packets are = are
joined_bytes false bytes packets are = ap concat are

polled_bytes : (mine : Bool) (report packets : List (List ℕ))
    → packets ≡ (if mine then report else [])
    → concat packets ≡ (if mine then concat report else [])
polled_bytes true report packets are = ap concat are
polled_bytes false report packets are = ap concat are

-- packets that an item tells have the bytes that it tells
packet_bytes : (end : Endpoint) (item : Item) (packets : List (List ℕ))
    → ArePackets end item packets → concat packets ≡ bytes_from end item
packet_bytes end (Answer from (task.Receive choice) (Received told)) packets are =
    joined_bytes (is_of end from choice) (bytes_in told) packets are
packet_bytes end (Answer from (task.Poll address) (Polled told)) packets are =
    polled_bytes (is_of end from (At address)) (report_in told) packets are
packet_bytes end _ packets are = ap concat are

pub given_bytes : (end : Endpoint) (told : List ToldItem) (packets : List (List ℕ))
    → AreGiven end told packets → concat packets ≡ received_from end told
unfolding AreGiven received_from
given_bytes end [] packets are = ap concat are
given_bytes end (t ∷ told) packets are =
    ap concat are.2.2 ∙ concat-append are.0 are.2.0
    ∙ ap (λ l. l ++ concat are.2.0) (given_bytes end told are.0 are.1)
    ∙ ap (λ l. received_from end told ++ l) (packet_bytes end t.item are.2.0 are.2.1)

pub given_none : (end : Endpoint) → AreGiven end [] []
unfolding AreGiven
given_none end = refl

pub given_then : (end : Endpoint) (t : ToldItem) (told : List ToldItem) (a b : List (List ℕ))
    → AreGiven end told a → ArePackets end t.item b → AreGiven end (t ∷ told) (a ++ b)
unfolding AreGiven
given_then end t told a b first second = (a, first, (b, second, refl))

-- Bytes

-- what joins a sink joins what was taken before
pub joins_behind : (done : Bool) (bytes first taken old new : List ℕ) → old ≡ first ++ taken
    → Joins done bytes old new → (more : List ℕ) × Joins done bytes taken more
    × (new ≡ first ++ more)
joins_behind true bytes first taken old new is e =
    (taken ++ bytes, refl, e ∙ ap (λ l. l ++ bytes) is ∙ append_assoc first taken bytes)
joins_behind false bytes first taken old new is e = (
  taken ++ e.0,
  (e.0, e.1, e.2, refl),
  e.3 ∙ ap (λ l. l ++ e.0) is ∙ append_assoc first taken e.0,
)

-- where there is nothing to join nothing joins
pub joins_none : (done : Bool) (bytes old new : List ℕ) → bytes ≡ [] → new ≡ old
    → Joins done bytes old new
joins_none true bytes old new none same = same ∙ sym (append-nil old)
    ∙ ap (λ l. old ++ l) (sym none)
joins_none false bytes old new none same = ([], [], none, same ∙ sym (append-nil old))

-- nor where it failed at once
pub joins_failed : (done : Bool) (bytes old new : List ℕ) → done ≡ false → new ≡ old
    → Joins done bytes old new
joins_failed true bytes old new failed same = absurd (cc failed)
joins_failed false bytes old new failed same = ([], bytes, refl, same ∙ sym (append-nil old))

-- Sends

-- what joins a sink behind what was sent, and a front of a failed send behind it
front_joined : (first sent front bytes old new : List ℕ) → old ≡ first ++ (sent ++ front)
    → front ≡ [] → new ≡ old ++ bytes → new ≡ first ++ (sent ++ bytes)
front_joined first sent front bytes old new is none e =
    e ∙ ap (λ l. l ++ bytes) (is ∙ ap (λ l. first ++ (sent ++ l)) none
    ∙ ap (λ l. first ++ l) (append-nil sent)) ∙ append_assoc first sent bytes

-- what a send does to a sink: all bytes join it where it is told done, and a front
-- where it failed, which leaves no pipe that works; through a
-- pipe that does not work nothing goes, and such a pipe stays so
pub record SinkStep (done : Bool) (bytes : List ℕ) (pipe left : Option PipeState) (old new : List ℕ)
    : Type 0 where
  pub whole : done ≡ true → IsAtWork pipe → new ≡ old ++ bytes
  pub cut : done ≡ false → IsAtWork pipe → (front : List ℕ) × (rest : List ℕ)
      × (bytes ≡ front ++ rest) × (new ≡ old ++ front) × (IsAtWork left → front ≡ [])
  pub stuck : (IsAtWork pipe → ⊥) → (new ≡ old) × (done ≡ true → bytes ≡ [])
      × (IsAtWork left → ⊥)

-- what sends nothing
pub sink_step_none : (done : Bool) (pipe left : Option PipeState) (old new : List ℕ) → left ≡ pipe
    → new ≡ old → SinkStep done [] pipe left old new
sink_step_none done pipe left old new kept same = record {
  whole = λ told works. same ∙ sym (append-nil old);
  cut = λ told works. ([], [], refl, same ∙ sym (append-nil old), λ works. refl);
  stuck = λ stuck. (same, (λ told. refl), λ works. stuck (subst IsAtWork kept works));
}

-- what failed at once
pub sink_step_failed : (done : Bool) (bytes : List ℕ) (pipe left : Option PipeState)
    (old new : List ℕ) → done ≡ false → left ≡ pipe → new ≡ old
    → SinkStep done bytes pipe left old new
sink_step_failed done bytes pipe left old new failed kept same = record {
  whole = λ told works. absurd (cc (told, failed));
  cut = λ told works. ([], bytes, refl, same ∙ sym (append-nil old), λ works. refl);
  stuck = λ stuck. (
    same,
    (λ told. absurd (cc (told, failed))),
    λ works. stuck (subst IsAtWork kept works),
  );
}

pub works_or_not : (pipe : Option PipeState) → IsAtWork pipe ⊎ (IsAtWork pipe → ⊥)
works_or_not None = inl tt
works_or_not (Some pipe) = by_condition pipe.condition refl
  where
    by_condition : (c : Condition) → pipe.condition ≡ c → (pipe.condition ≡ Ready)
        ⊎ (pipe.condition ≡ Ready → ⊥)
    by_condition Ready e = inl e
    by_condition Halted e = inr (λ ready. cc (e, ready))
    by_condition Broken e = inr (λ ready. cc (e, ready))

none_done : (done : Bool) (bytes : List ℕ) → (done ≡ true → bytes ≡ [])
    → (if done then bytes else []) ≡ []
none_done true bytes empty = empty refl
none_done false bytes empty = refl

pub took_none : (end : Endpoint) (left : Option PipeState) (s : State) → TookSent end [] left s s
unfolding sent_to IsFailedFront
took_none end left s = record {
  front = [];
  failed = refl;
  sink = sym (append-nil (out_end s end.number).sink);
  works = λ works. refl;
}

-- the pipe stays
pub took_stay : (end : Endpoint) (told : List ToldItem) (pipe left : Option PipeState)
    (s u v : State) → left ≡ pipe → (out_end v end.number).sink ≡ (out_end u end.number).sink
    → TookSent end told pipe s u → TookSent end told left s v
took_stay end told pipe left s u v kept same x = subst (λ p. TookSent end told p s v) (sym kept)
    (record { front = x.front; failed = x.failed; sink = same ∙ x.sink; works = x.works })

pub took_then : (end : Endpoint) (t : ToldItem) (told : List ToldItem)
    (pipe left : Option PipeState) (s u v : State) → TookSent end told pipe s u
    → SinkStep (is_done t.item) (bytes_for end t.due) pipe left (out_end u end.number).sink
    (out_end v end.number).sink → TookSent end (t ∷ told) left s v
unfolding sent_to IsFailedFront
took_then end t told pipe left s u v x y = by_work (works_or_not pipe)
  where
    first : List ℕ
    first = (out_end s end.number).sink

    mid : List ℕ
    mid = (out_end u end.number).sink

    last : List ℕ
    last = (out_end v end.number).sink

    bytes : List ℕ
    bytes = bytes_for end t.due

    sent : List ℕ
    sent = sent_to end told

    by_done : (done : Bool) → is_done t.item ≡ done → IsAtWork pipe
        → TookSent end (t ∷ told) left s v
    by_done true e works = record {
      front = [];
      failed = inr (subst (IsFailedFront end told) (x.works works) x.failed);
      sink = front_joined first sent x.front bytes mid last x.sink (x.works works) (y.whole e works)
          ∙ ap (λ (d : Bool). first ++ (sent ++ (if d then bytes else []))) (sym e)
          ∙ ap (λ l. first ++ l)
          (sym (append-nil (sent ++ (if is_done t.item then bytes else []))));
      works = λ works. refl;
    }
    by_done false e works =
        let c = y.cut e works in
        record {
          front = c.0;
          failed = inl (e, (c.1, c.2));
          sink = front_joined first sent x.front c.0 mid last x.sink (x.works works) c.3
              ∙ ap (λ l. first ++ (l ++ c.0)) (sym (append-nil sent))
              ∙ ap (λ (d : Bool). first ++ ((sent ++ (if d then bytes else [])) ++ c.0))
              (sym e);
          works = c.4;
        }

    by_work : IsAtWork pipe ⊎ (IsAtWork pipe → ⊥) → TookSent end (t ∷ told) left s v
    by_work (inl works) = by_done (is_done t.item) refl works
    by_work (inr stuck) =
        let n = y.stuck stuck in
        record {
          front = x.front;
          failed = inr x.failed;
          sink = n.0 ∙ x.sink ∙ ap (λ l. first ++ (l ++ x.front)) (sym (append-nil sent)
              ∙ ap (λ l. sent ++ l) (sym (none_done (is_done t.item) bytes n.1)));
          works = λ works. absurd (n.2 works);
        }
