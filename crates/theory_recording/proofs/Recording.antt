-- Note 9, proved: what was recorded replays the same.
-- Assumes nothing.
use Rattle.std.specs.Prelude.{◌≡◌, ◌∷◌, ◌++◌, ◌⊎◌, ◌+◌, ◌-◌, ◌*◌, ◌≤◌, ◌<◌, Err, Ok}
use Rattle.laws.specs.Basics.{refl, sym, ◌∙◌, ap, Bool, true, false, not, List, [], map, append-nil, append_assoc, None, Some, inl, inr, ℕ, zero, suc, min, arith, eqb, ltb, length, get_or, take, drop, replicate, length-append, length-replicate, get_or-replicate, sets, length-take-le, lt-ltb, le-ltb, ltb-true, ltb-false, by_bool}
use Rattle.std.proofs.Common.{mul-le-mul, take-append-drop, take_all, drop-drop, take_at, drop_at}
use lib.Seq.{sets-eq, length-sets}
use Rattle.laws.specs.{Choice.pick_same, Front.written_front, Lists.gather, Tables.length_table, Tests.every, Elements.every_append, Truth.and_right}
use Rattle.model.specs.Shapes.{StartAnswer}
use Rattle.model.specs.declared.{Message.Message, Named.Named, Run.Run, Event.Event, Refusal.Refusal, Refusal.TheVariants.BufferTooShort}
use Rattle.model.specs.declared.Event.TheVariants.{Checkpoint, Send, Deliver, Lose, Recover}
use Rattle.model.specs.{Words.most_processes, Words.basic, Words.forced, Words.ones, Words.process, Words.failed, Sound.is_block_count_of, Sound.sound}
use Rattle.model.specs.Steps.{Deletion, start_state, checkpoint_deletions, forces, deliver_deletions, line_of, recover_deletions}
use Rattle.model.specs.Refusals.{number, first_of, start_refusal, short_deletions, short_line, checkpoint_refusal, deliver_refusal, line_refusal, recover_refusal}
use Rattle.model.specs.{laws.Refusals.by_refusal, Trace.decoded, Trace.is_record, Trace.fits}
use Rattle.whole_runs.specs.Outcomes.{pairs, written, start_outcome, deliver_answer, checkpoint_outcome, checkpoint_report, send_report, deliver_outcome, deliver_report, lose_report, line_outcome, recover_outcome, recover_report}
use Rattle.whole_runs.specs.{Earliest.earliest_refusal, Earliest.earliest_outcome, Survival.Surviving, Survival.beginning}
use Rattle.whole_runs.specs.Calls.{Call, checkpoint, send, deliver, lose, recover, line, earliest, Reply, answered, call}
use Rattle.whole_runs.specs.Listing.{deletions_text, accepted_text, line_text, call_of, perform, most_records, state_after_records, listing}
use Rattle.theory_recording.specs.Replay.{record_bytes, records_of, EventReply, replies_of, replayed_state, none_refused, lines_of}
use Rattle.theory_recording.specs.Recording.{unwritten, appended, recording, recorded_start, recorded_checkpoint, recorded_send, recorded_deliver, recorded_lose, recorded_recover, recorded_line, recorded_earliest, Tape, taped, recorded, begun, tape_after, event_of_call, entry_of, entered, entries, WritesAcceptedAlone, handed, trace_of, OneEach, ReplaysTheSame, RecordingReplays}
use Rattle.histories.proofs.Run.{Ideal, because, keeps, checkpointed, delivered, recovered, line as Line-of, begun as run-begun}
use Rattle.histories.proofs.{Invariant.Inv, Ledger.ledger_inv, Messages.underway_proper}
use Rattle.model.proofs.{simulation.View.message_of, simulation.View.state_of, simulation.View.Limits, simulation.Kept.kept_most, simulation.Lines.line_is}
use Rattle.model.proofs.{simulation.Checkpoint.checkpoint_deletions_lem, simulation.Deliver.deliver_deletions_lem, simulation.Recover.recover_deletions_lem}
use Rattle.model.proofs.simulation.Accepted.{start_out, start_in, checkpoint_out, checkpoint_in, deliver_out, deliver_in, recover_out, recover_in}
use Rattle.model.proofs.{simulation.SoundCalls.checkpoint_run, simulation.SoundCalls.deliver_run, simulation.SoundCalls.recover_run, Records.records_are_events}
use Rattle.whole_runs.proofs.{whole.Handed.listed_length, whole.Handed.gather_length, whole.Handed.room_one, whole.Handed.gone, whole.Pairs.length_pairs, whole.Pairs.double}
use Rattle.theory_recording.proofs.Replay.{fits_accepted, record_of, first_state, first_reply, lines_replayed, listing_started}
use Rattle.whole_runs.proofs.{Sizes.few_processes, whole.Because.because_state, whole.Because.because_limits, whole.Accepted.accepted_report}
use Rattle.whole_runs.proofs.whole.Reached.{Reached, refusal, refused_number, refused_state, refused_report}
use Rattle.whole_runs.proofs.WholeRuns.{started_state, start_reached, call_reached, same_start}
use Prim.{tt}

-- The lists of a replay are long enough for every sound state.
room : (s : Run) → sound s ≡ true → 2 * s.count * s.count ≤ length {A = ℕ} (replicate 512 0)
room s h =
    let few = few_processes s h in
    let most = mul-le-mul {n₁ = 2 * s.count} {m₁ = s.count} {n₂ = 32} {m₂ = 16} (omega (arith, few)) few in
    rw (length-replicate {A = ℕ} 512 0) (omega (arith, most))

-- The front of a lent list is what was written there.
front : (lent xs : List ℕ) (k : ℕ) → length xs ≡ k → k ≤ length lent → take k (written lent xs) ≡ xs
front lent xs k e h = rw (written_front lent xs (omega arith)) (take_at xs (drop (length xs) lent) k e)

front_pairs : (lent : List ℕ) (ds : List Deletion) → 2 * length ds ≤ length lent → take (2 * length ds) (written lent (pairs ds)) ≡ pairs ds
front_pairs lent ds h = front lent (pairs ds) (2 * length ds) (length_pairs ds) h

-- How many a delivery reports, whether it forces or not.
deliver_count : (s : Run) (x : Message) → (deliver_report (deliver_answer s x)).deletions ≡ length (deliver_deletions s x)
unfolding deliver_report deliver_answer
deliver_count s x = by_bool (forces (process s x.receiver) x.vector) (λ q. rw q) (λ q. rw q)

-- Where a call is accepted, the call of its record is: its lists are long enough. Of any state.
record_call : (s : Run) (c : Call) (e : Event) → refusal s c ≡ None → event_of_call c ≡ Some e → refusal s (call_of e) ≡ None
unfolding refusal event_of_call call_of
record_call s (checkpoint i deleted) e h q =
    let event : e ≡ Checkpoint i = cc in
    let f = checkpoint_out s i deleted h in
    rw event (checkpoint_in s i (replicate 512 0) (record { whole = f.whole; room = room s f.whole; present = f.present; early = f.early; blocks = f.blocks }))
record_call s (send i j) e h q = let event : e ≡ Send i j = cc in rw event h
record_call s (deliver m deleted) e h q =
    let event : e ≡ Deliver m = cc in
    let f = deliver_out s m deleted h in
    rw event (deliver_in s m (replicate 512 0) (record { whole = f.whole; room = room s f.whole; message = f.message; here = f.here; early = f.early; blocks = f.blocks }))
record_call s (lose m) e h q = let event : e ≡ Lose m = cc in rw event h
record_call s (recover F deleted lent) e h q =
    let event : e ≡ Recover F = cc in
    let f = recover_out s F deleted lent h in
    rw event (recover_in s F (replicate 512 0) (replicate 16 0) (record { whole = f.whole; room = room s f.whole; line_room = rw (length-replicate {A = ℕ} 16 0) (few_processes s f.whole); set = f.set; members = f.members }))
record_call s (line F lent) e h q = absurd (let z : ◌≡◌ {A = ℕ} 0 1 = cc in omega arith)
record_call s (earliest l lent) e h q = absurd (let z : ◌≡◌ {A = ℕ} 0 1 = cc in omega arith)

-- So the event of an accepted call fits the fields of a record.
pub fits_event : (s : Run) (c : Call) (e : Event) → refusal s c ≡ None → event_of_call c ≡ Some e → fits e ≡ true
fits_event s c e h q = fits_accepted s e (record_call s c e h q)

-- A call and the call of its record: one state, and one reply but for what the lent lists held before.
pub record Alike (n : ℕ) (s : Run) (c d : Call) : Type 0 where
  pub state : (call s d).run ≡ (call s c).run
  pub reply : handed n (call s d).reply ≡ handed n (call s c).reply

module _ (r : Ideal) (v : Inv r) (fit : Limits r) where
  few : r.n ≤ most_processes
  few = fit.few_processes

  -- The pairs that a call hands out have room in a list that it accepts.
  gone_most : (r' : Ideal) (i : ℕ) → 2 * length (gone r r' i) ≤ 2 * r.n * r.n
  gone_most r' i = room_one r.n (length (gone r r' i)) fit.some_process (omega (arith, listed_length r i (λ k. not (keeps r' i k)), kept_most r i))

  asked_checkpoint : (i : ℕ) → i < r.n → r.ledger.why ≡ basic → 2 * length (checkpoint_deletions (state_of r) i) ≤ 2 * r.n * r.n
  asked_checkpoint i hi asked = rw (checkpoint_deletions_lem r v i few hi asked) (gone_most (checkpointed r i) i)

  asked_deliver : (m : ℕ) → r.receiver m < r.n → r.ledger.why ≡ forced → 2 * length (deliver_deletions (state_of r) (message_of r m)) ≤ 2 * r.n * r.n
  asked_deliver m hi asked = rw (deliver_deletions_lem r v m few hi asked) (gone_most (delivered r m) (r.receiver m))

  recover_most : (F : ℕ) → 2 * length (recover_deletions (state_of r) F) ≤ 2 * r.n * r.n
  recover_most F =
      let all : length (gather r.n (gone r (recovered r (failed F)))) ≤ r.n * r.n = gather_length r.n r.n (gone r (recovered r (failed F)))
      (λ q h. omega (arith, kept_most r q, listed_length r q (λ k. not (keeps (recovered r (failed F)) q k)))) in
      rw (recover_deletions_lem r v few F) (omega arith)

module _ (r : Ideal) (v : Inv r) (fit : Limits r) where
  -- The same, whatever the reason for the next checkpoint is.
  checkpoint_most : (i : ℕ) → i < r.n → 2 * length (checkpoint_deletions (state_of r) i) ≤ 2 * r.n * r.n
  checkpoint_most i hi = rw (because_state basic r) at (asked_checkpoint (because basic r) (ledger_inv r _ v) (because_limits basic r fit) i hi refl)

  deliver_most : (m : ℕ) → r.receiver m < r.n → 2 * length (deliver_deletions (state_of r) (message_of r m)) ≤ 2 * r.n * r.n
  unfolding message_of
  deliver_most m hi = rw (because_state forced r) at (asked_deliver (because forced r) (ledger_inv r _ v) (because_limits forced r fit) m hi refl)

  small : 2 * r.n * r.n ≤ 512
  small = omega (arith, mul-le-mul {n₁ = 2 * r.n} {m₁ = r.n} {n₂ = 32} {m₂ = 16} (omega (arith, fit.few_processes)) fit.few_processes)

  line_length : (F : ℕ) → length (line_of (state_of r) F) ≡ r.n
  line_length F = rw (line_is r v fit.few_processes F) (length_table r.n (Line-of r (failed F)))

  pub same_call : (c : Call) (e : Event) → refusal (state_of r) c ≡ None → event_of_call c ≡ Some e → Alike r.n (state_of r) c (call_of e)
  unfolding refusal event_of_call call_of call answered handed checkpoint_outcome checkpoint_report deliver_outcome recover_outcome recover_report
  same_call (checkpoint i deleted) e h q =
      let w = checkpoint_run r v fit i deleted h in
      let most = checkpoint_most i w.0 in
      let there = record_call (state_of r) (checkpoint i deleted) (Checkpoint i) h refl in
      let event : e ≡ Checkpoint i = cc in
      rw event (record {
        state = rw (h, there);
        reply = rw (h, there) (rw (
          front_pairs deleted (checkpoint_deletions (state_of r) i) (omega (arith, most, w.2)),
          front_pairs (replicate 512 0) (checkpoint_deletions (state_of r) i) (rw (length-replicate {A = ℕ} 512 0) (omega (arith, most, small))),
        ));
      })
  same_call (send i j) e h q = let event : e ≡ Send i j = cc in rw event (record { state = refl; reply = refl })
  same_call (deliver m deleted) e h q =
      let there = record_call (state_of r) (deliver m deleted) (Deliver m) h refl in
      let w = deliver_run r v fit m deleted h in
      let most = deliver_most m (underway_proper r v m w.0).to in
      let event : e ≡ Deliver m = cc in
      rw event (record {
        state = rw (h, there);
        reply = rw (h, there, w.1, deliver_count) (rw (
          front_pairs deleted (deliver_deletions (state_of r) (message_of r m)) (omega (arith, most, w.2)),
          front_pairs (replicate 512 0) (deliver_deletions (state_of r) (message_of r m)) (rw (length-replicate {A = ℕ} 512 0) (omega (arith, most, small))),
        ));
      })
  same_call (lose m) e h q = let event : e ≡ Lose m = cc in rw event (record { state = refl; reply = refl })
  same_call (recover F deleted lent) e h q =
      let w = recover_run r v fit F deleted lent h in
      let there = record_call (state_of r) (recover F deleted lent) (Recover F) h refl in
      let most = recover_most r v fit F in
      let event : e ≡ Recover F = cc in
      rw event (record {
        state = rw (h, there);
        reply = rw (h, there) (rw (
          front_pairs deleted (recover_deletions (state_of r) F) (omega (arith, most, w.1)),
          front_pairs (replicate 512 0) (recover_deletions (state_of r) F) (rw (length-replicate {A = ℕ} 512 0) (omega (arith, most, small))),
          front lent (line_of (state_of r) F) r.n (line_length F) w.2,
          front (replicate 16 0) (line_of (state_of r) F) r.n (line_length F) (rw (length-replicate {A = ℕ} 16 0) fit.few_processes),
        ));
      })
  same_call (line F lent) e h q = absurd (let z : ◌≡◌ {A = ℕ} 0 1 = cc in omega arith)
  same_call (earliest l lent) e h q = absurd (let z : ◌≡◌ {A = ℕ} 0 1 = cc in omega arith)

-- What the writer does with a call that it would record, by the call's refusal and the room.
module _ (t : Tape) where
  refused_way : (c : Call) (e : Event) (x : Refusal) → event_of_call c ≡ Some e → refusal t.run c ≡ Some x
      → ((recorded t (c)).tape ≡ record { run = (call t.run c).run; buffer = t.buffer; place = t.place }) × ((recorded t (c)).reply ≡ (call t.run c).reply)
  unfolding refusal event_of_call recorded taped recording unwritten call answered recorded_checkpoint recorded_send recorded_deliver recorded_lose recorded_recover
  refused_way (checkpoint i deleted) e x q h = rw h (refl, refl)
  refused_way (send i j) e x q h = rw h (refl, refl)
  refused_way (deliver m deleted) e x q h = rw h (refl, refl)
  refused_way (lose m) e x q h = rw h (refl, refl)
  refused_way (recover F deleted lent) e x q h = rw h (refl, refl)
  refused_way (line F lent) e x q h = absurd (let z : ◌≡◌ {A = ℕ} 0 1 = cc in omega arith)
  refused_way (earliest l lent) e x q h = absurd (let z : ◌≡◌ {A = ℕ} 0 1 = cc in omega arith)

  short_way : (c : Call) (e : Event) → event_of_call c ≡ Some e → refusal t.run c ≡ None → ltb (length t.buffer - t.place) (length (record_bytes e)) ≡ true
      → ((recorded t (c)).tape ≡ t) × ((recorded t (c)).reply.report.refused ≡ 21)
  unfolding refusal event_of_call recorded taped answered recording unwritten recorded_checkpoint recorded_send recorded_deliver recorded_lose recorded_recover checkpoint_report send_report deliver_report lose_report recover_report number
  short_way (checkpoint i deleted) e q h b = let event : e ≡ Checkpoint i = cc in rw (h, rw event at b) (refl, refl)
  short_way (send i j) e q h b = let event : e ≡ Send i j = cc in rw (h, rw event at b) (refl, refl)
  short_way (deliver m deleted) e q h b = let event : e ≡ Deliver m = cc in rw (h, rw event at b) (refl, refl)
  short_way (lose m) e q h b = let event : e ≡ Lose m = cc in rw (h, rw event at b) (refl, refl)
  short_way (recover F deleted lent) e q h b = let event : e ≡ Recover F = cc in rw (h, rw event at b) (refl, refl)
  short_way (line F lent) e q h b = absurd (let z : ◌≡◌ {A = ℕ} 0 1 = cc in omega arith)
  short_way (earliest l lent) e q h b = absurd (let z : ◌≡◌ {A = ℕ} 0 1 = cc in omega arith)

  done_way : (c : Call) (e : Event) → event_of_call c ≡ Some e → refusal t.run c ≡ None → ltb (length t.buffer - t.place) (length (record_bytes e)) ≡ false
      → ((recorded t (c)).tape ≡ record { run = (call t.run c).run; buffer = sets t.buffer t.place (record_bytes e); place = t.place + length (record_bytes e) })
      × ((recorded t (c)).reply ≡ (call t.run c).reply)
  unfolding refusal event_of_call recorded taped recording appended call answered recorded_checkpoint recorded_send recorded_deliver recorded_lose recorded_recover
  done_way (checkpoint i deleted) e q h b = let event : e ≡ Checkpoint i = cc in rw (event, h, rw event at b) (refl, refl)
  done_way (send i j) e q h b = let event : e ≡ Send i j = cc in rw (event, h, rw event at b) (refl, refl)
  done_way (deliver m deleted) e q h b = let event : e ≡ Deliver m = cc in rw (event, h, rw event at b) (refl, refl)
  done_way (lose m) e q h b = let event : e ≡ Lose m = cc in rw (event, h, rw event at b) (refl, refl)
  done_way (recover F deleted lent) e q h b = let event : e ≡ Recover F = cc in rw (event, h, rw event at b) (refl, refl)
  done_way (line F lent) e q h b = absurd (let z : ◌≡◌ {A = ℕ} 0 1 = cc in omega arith)
  done_way (earliest l lent) e q h b = absurd (let z : ◌≡◌ {A = ℕ} 0 1 = cc in omega arith)

-- A call that leaves all as it was, and one that wrote its record.
pub record Still (t : Tape) (c : Call) : Type 0 where
  pub tape : (recorded t c).tape ≡ t
  pub none_entered : entered t c ≡ []

pub record Wrote (t : Tape) (c : Call) : Type 0 where
  pub event : Event
  pub asks : event_of_call c ≡ Some event
  pub fine : refusal t.run c ≡ None
  pub room : length (record_bytes event) ≤ length t.buffer - t.place
  pub tape : (recorded t c).tape ≡ record { run = (call t.run c).run; buffer = sets t.buffer t.place (record_bytes event); place = t.place + length (record_bytes event) }
  pub one_entered : entered t c ≡ record { event = event; reply = (call t.run c).reply } ∷ []

call_way : (t : Tape) (c : Call) (e : Event) → event_of_call c ≡ Some e → Still t c ⊎ Wrote t c
unfolding entered entry_of
call_way t c e q = by_refusal (refusal t.run c)
    (λ h. by_bool (ltb (length t.buffer - t.place) (length (record_bytes e)))
    (λ b. let w = short_way t c e q h b in inl (record { tape = w.0; none_entered = rw w.1 }))
    (λ b. let w = done_way t c e q h b in inr (record {
      event = e;
      asks = q;
      fine = h;
      room = ltb-false _ _ b;
      tape = w.0;
      one_entered = rw (w.1, accepted_report t.run c h, q);
    })))
    (λ x h. let w = refused_way t c e x q h in
    inl (record {
      tape = w.0 ∙ ap (λ (s : Run). record { run = s; buffer = t.buffer; place = t.place }) (refused_state t.run c x h);
      none_entered = rw (w.1, refused_report t.run c x h) (rw (refused_number x));
    }))

-- A line request writes nothing, nor does one for the earliest line.
line_still : (t : Tape) (F : ℕ) (lent : List ℕ) → Still t (line F lent)
unfolding recorded taped unwritten recorded_line line_outcome entered entry_of event_of_call
line_still t F lent = record {
  tape = by_refusal (line_refusal t.run F lent) (λ h. rw h) (λ x h. rw h);
  none_entered = pick_same (eqb (recorded t (line F lent)).reply.report.refused 0) [];
}

earliest_still : (t : Tape) (l : List Named) (lent : List ℕ) → Still t (earliest l lent)
unfolding recorded taped unwritten recorded_earliest earliest_outcome entered entry_of event_of_call
earliest_still t l lent = record {
  tape = by_refusal (earliest_refusal t.run l lent) (λ h. rw h) (λ x h. rw h);
  none_entered = pick_same (eqb (recorded t (earliest l lent)).reply.report.refused 0) [];
}

pub way : (t : Tape) (c : Call) → Still t c ⊎ Wrote t c
unfolding event_of_call
way t (checkpoint i deleted) = call_way t (checkpoint i deleted) (Checkpoint i) refl
way t (send i j) = call_way t (send i j) (Send i j) refl
way t (deliver m deleted) = call_way t (deliver m deleted) (Deliver m) refl
way t (lose m) = call_way t (lose m) (Lose m) refl
way t (recover F deleted lent) = call_way t (recover F deleted lent) (Recover F) refl
way t (line F lent) = inl (line_still t F lent)
way t (earliest l lent) = inl (earliest_still t l lent)

-- "A refused call writes no byte, and a line request, Note 8's too, writes none."
pub writes_accepted_alone : WritesAcceptedAlone
unfolding WritesAcceptedAlone entered entry_of
writes_accepted_alone t c h = elim (way t c) [
  | inl w ↦ w.tape
  | inr w ↦ absurd (clash _ _ (sym (nothing h) ∙ w.one_entered))
]
  where
    clash : (x : EventReply) (l : List EventReply) → ◌≡◌ {A = List EventReply} [] (x ∷ l) → ⊥
    clash x l e = let z : ◌≡◌ {A = ℕ} 0 1 = cc in omega arith

    nothing : (eqb (recorded t c).reply.report.refused 0 ≡ false) ⊎ (event_of_call c ≡ None) → entered t c ≡ []
    nothing (inl e) = rw e
    nothing (inr e) = rw e (pick_same (eqb (recorded t c).reply.report.refused 0) [])

-- What the calls after a tape leave, and that a replay from its state says the same.
pub record Follows (n : ℕ) (t u : Tape) (l : List EventReply) : Type 0 where
  pub written : u.buffer ≡ (take t.place t.buffer ++ trace_of l) ++ drop u.place t.buffer
  pub size : length (trace_of l) ≡ 4 * length l
  pub are_bytes : every (λ b. ltb b 256) (trace_of l) ≡ true
  pub place : u.place ≡ t.place + 4 * length l
  pub inside : u.place ≤ length t.buffer
  pub state : state_after_records t.run (trace_of l) ≡ u.run
  pub replies : map (handed n) (replies_of t.run (trace_of l)) ≡ map (λ x. handed n x.reply) l
  pub accepted : none_refused (map (λ x. x.reply) l) ≡ true

follows_none : (n : ℕ) (t : Tape) → t.place ≤ length t.buffer → Follows n t t []
unfolding records_of state_after_records replies_of every none_refused
follows_none n t h = record {
  written = sym (ap (λ (l : List ℕ). l ++ drop t.place t.buffer) (append-nil (take t.place t.buffer)) ∙ take-append-drop t.place t.buffer);
  size = refl;
  are_bytes = refl;
  place = omega arith;
  inside = h;
  state = refl;
  replies = refl;
  accepted = refl;
}

-- Bytes written at a place: what stands up to their end, and what stands further on.
module _ (buffer bytes : List ℕ) (p : ℕ) (fitting : p + length bytes ≤ length buffer) where
  in_front : length (take p buffer ++ bytes) ≡ p + length bytes
  in_front = rw (length-append (take p buffer) bytes, length-take-le p buffer (omega arith))

  pasted : sets buffer p bytes ≡ (take p buffer ++ bytes) ++ drop (p + length bytes) buffer
  pasted = sets-eq bytes buffer p fitting

  up_to : take (p + length bytes) (sets buffer p bytes) ≡ take p buffer ++ bytes
  up_to = rw pasted (take_at (take p buffer ++ bytes) (drop (p + length bytes) buffer) (p + length bytes) in_front)

  beyond : drop (p + length bytes) (sets buffer p bytes) ≡ drop (p + length bytes) buffer
  beyond = rw pasted (drop_at (take p buffer ++ bytes) (drop (p + length bytes) buffer) (p + length bytes) in_front)

  further : (k : ℕ) → drop ((p + length bytes) + k) (sets buffer p bytes) ≡ drop ((p + length bytes) + k) buffer
  further k = sym (drop-drop k (p + length bytes) (sets buffer p bytes)) ∙ ap (λ (l : List ℕ). drop k l) beyond ∙ drop-drop k (p + length bytes) buffer

-- One record more in front. `c` is the call that was made, with the record `bytes` of its event.
module _ (n : ℕ) (t u : Tape) (c : Call) (e : Event) (l : List EventReply) (four : length (record_bytes e) ≡ 4) (stands_for : decoded (record_bytes e) ≡ Some e) (small_bytes : every (λ b. ltb b 256) (record_bytes e) ≡ true)
    (fine : refusal t.run c ≡ None) (same : Alike n t.run c (call_of e)) (room : t.place + 4 ≤ length t.buffer) where
  abbrev next : Tape
  next = record { run = (call t.run c).run; buffer = sets t.buffer t.place (record_bytes e); place = t.place + length (record_bytes e) }

  abbrev entry : EventReply
  entry = record { event = e; reply = (call t.run c).reply }

  fitting : t.place + length (record_bytes e) ≤ length t.buffer
  fitting = omega arith

  performs : perform t.run (decoded (record_bytes e)) ≡ call t.run (call_of e)
  unfolding perform
  performs = rw stands_for

  follows_more : Follows n next u l → Follows n t u (entry ∷ l)
  unfolding records_of every none_refused
  follows_more w =
      let far : u.place ≡ (t.place + length (record_bytes e)) + 4 * length l = w.place in
      record {
        written =
            w.written
            ∙ ap (λ (x : List ℕ). (x ++ trace_of l) ++ drop u.place (sets t.buffer t.place (record_bytes e))) (up_to t.buffer (record_bytes e) t.place fitting)
            ∙ ap (λ (x : List ℕ). ((take t.place t.buffer ++ record_bytes e) ++ trace_of l) ++ x) (rw far (further t.buffer (record_bytes e) t.place fitting (4 * length l)))
            ∙ ap (λ (x : List ℕ). x ++ drop u.place t.buffer) (append_assoc (take t.place t.buffer) (record_bytes e) (trace_of l));
        size = omega (arith, length-append (record_bytes e) (trace_of l), w.size);
        are_bytes = every_append (λ b. ltb b 256) (record_bytes e) (trace_of l) small_bytes w.are_bytes;
        place = omega (arith, far);
        inside = omega (arith, w.inside, length-sets t.buffer t.place (record_bytes e));
        state = first_state t.run (record_bytes e) (trace_of l) four ∙ rw (performs, same.state) w.state;
        replies = rw (first_reply t.run (record_bytes e) (trace_of l) four, performs, same.state, same.reply) (λ j. handed n (call t.run c).reply ∷ w.replies j);
        accepted = rw (accepted_report t.run c fine) w.accepted;
      }

-- The bytes of a record are bytes.
record_bytes_lem : (e : Event) → fits e ≡ true → every (λ b. ltb b 256) (record_bytes e) ≡ true
unfolding record_bytes is_record
record_bytes_lem e h =
    let w = records_are_events.one_record e h in
    rw w.1 (and_right (eqb (length w.0) 4) (every (λ b. ltb b 256) w.0) w.2)

-- The states of a tape that starts with an accepted start.
pub record Good (n : ℕ) (s : Run) : Type 0 where
  pub history : Surviving
  pub ideal : Ideal
  pub reached : Reached n s history ideal

good_call : (n : ℕ) (s : Run) (c : Call) → Good n s → Good n (call s c).run
good_call n s c g = record { history = _; ideal = _; reached = call_reached n s g.history g.ideal g.reached c }

good_alike : (n : ℕ) (s : Run) (c : Call) (e : Event) → Good n s → refusal s c ≡ None → event_of_call c ≡ Some e → Alike n s c (call_of e) × (fits e ≡ true)
good_alike n s c e g h q =
    let v = g.reached in
    let same : Alike n s c (call_of e) = rw (← v.size, v.state) (same_call g.ideal v.inv v.limits c e (rw v.state at h) q) in
    (same, fits_event s c e h q)

-- Every list of calls.
pub all_follow : (n : ℕ) (t : Tape) → Good n t.run → t.place ≤ length t.buffer → (calls : List Call) → Follows n t (tape_after t calls) (entries t calls)
unfolding tape_after entries
all_follow n t g h [] = follows_none n t h
all_follow n t g h (c ∷ calls) = elim (way t c) [
  | inl w ↦ rw (w.none_entered, w.tape) (all_follow n t g h calls)
  | inr w ↦
      let z = good_alike n t.run c w.event g w.fine w.asks in
      let b = record_of w.event z.1 in
      let bytes = record_bytes_lem w.event z.1 in
      let more : t.place + 4 ≤ length t.buffer = omega (arith, w.room, b.0) in
      rw (w.one_entered, w.tape)
      (follows_more n t _ c w.event _ b.0 b.1 bytes w.fine z.0 more
      (all_follow n (next n t t c w.event [] b.0 b.1 bytes w.fine z.0 more) (good_call n t.run c g) (omega (arith, more, b.0, length-sets t.buffer t.place (record_bytes w.event))) calls))
]

-- The start.
start_begun : (n : ℕ) (block_counts buffer : List ℕ) → (recorded_start n block_counts buffer).outcome.answer ≡ Ok tt
    → (start_refusal n block_counts ≡ None) × (1 ≤ length buffer) × (begun n block_counts buffer ≡ record { run = start_state n block_counts; buffer = sets buffer 0 (n ∷ []); place = 1 })
unfolding recorded_start recording unwritten appended begun start_outcome
start_begun n block_counts buffer e = by_refusal (start_refusal n block_counts)
    (λ h. by_bool (ltb (length buffer - 0) (length (n ∷ [])))
    (λ b. absurd (not_started BufferTooShort (rw (h, b) at e)))
    (λ b. (h, omega (arith, ltb-false (length buffer - 0) (length (n ∷ [])) b), rw (h, b))))
    (λ x h. absurd (not_started x (rw h at e)))
  where
    not_started : (x : Refusal) → ◌≡◌ {A = StartAnswer} (Err x) (Ok tt) → ⊥
    not_started x e = let z : ◌≡◌ {A = ℕ} 0 1 = cc in omega arith

-- What the replay program prints depends on what the replies hand out alone.
deletions_front : (k : ℕ) (l : List ℕ) → deletions_text k (take (2 * k) l) ≡ deletions_text k l
unfolding deletions_text
deletions_front zero l = refl
deletions_front (suc k) [] = rw (double k)
deletions_front (suc k) (p ∷ []) = rw (double k)
deletions_front (suc k) (p ∷ i ∷ l) = rw (double k, deletions_front k l)

line_handed : (n k : ℕ) (r : Reply) → line_text k (handed n r) ≡ line_text k r
unfolding line_text accepted_text handed
line_handed n k r = rw (deletions_front r.report.deletions r.deleted)

lines_handed : (n done : ℕ) (l : List Reply) → lines_of done (map (handed n) l) ≡ lines_of done l
unfolding lines_of
lines_handed n done [] = refl
lines_handed n done (r ∷ l) = rw (line_handed n (done + 1) r, lines_handed n (done + 1) l)

entries_handed : (n done : ℕ) (l : List EventReply) → lines_of done (map (λ x. handed n x.reply) l) ≡ lines_of done (map (λ x. x.reply) l)
unfolding lines_of
entries_handed n done [] = refl
entries_handed n done (x ∷ l) = rw (line_handed n (done + 1) x.reply, entries_handed n (done + 1) l)

-- Whether a reply is a refusal is handed out.
none_handed : (n : ℕ) (l : List Reply) → none_refused (map (handed n) l) ≡ none_refused l
unfolding none_refused every handed
none_handed n [] = refl
none_handed n (r ∷ l) = rw (none_handed n l)

entries_refused : (n : ℕ) (l : List EventReply) → none_refused (map (λ x. handed n x.reply) l) ≡ none_refused (map (λ x. x.reply) l)
unfolding none_refused every handed
entries_refused n [] = refl
entries_refused n (x ∷ l) = rw (entries_refused n l)

replay_accepted : (n : ℕ) (s : Run) (l : List EventReply) → map (handed n) (replies_of s (trace_of l)) ≡ map (λ x. handed n x.reply) l → none_refused (map (λ x. x.reply) l) ≡ true
    → none_refused (replies_of s (trace_of l)) ≡ true
replay_accepted n s l e h = sym (none_handed n (replies_of s (trace_of l))) ∙ ap none_refused e ∙ entries_refused n l ∙ h

-- A start with block counts 1 is the start of a replay.
one_of : (n p : ℕ) → n ≤ most_processes → p < n → get_or ones p 0 ≡ 1
one_of n p few lt = get_or-replicate 16 p 1 0 (omega arith)

one_start : (n : ℕ) (block_counts : List ℕ) → n ≤ most_processes → OneEach n block_counts → start_state n block_counts ≡ start_state n ones
unfolding OneEach
one_start n block_counts few one = same_start n block_counts ones (λ p lt. one p lt ∙ sym (one_of n p few lt))

replay_starts : (n : ℕ) (block_counts : List ℕ) → start_refusal n block_counts ≡ None → start_refusal n ones ≡ None
replay_starts n block_counts ok =
    let w = start_out n block_counts ok in
    start_in n ones w.0 w.1 (λ p lt. ap is_block_count_of (one_of n p w.1 lt) ∙ one_fits_lem)
  where
    one_fits_lem : is_block_count_of 1 ≡ true
    one_fits_lem = unfold is_block_count_of in refl

-- What a replay does with n and the records of what was entered, by a replay from the start that was recorded.
module _ (n : ℕ) (block_counts : List ℕ) (l : List EventReply) (ok : start_refusal n block_counts ≡ None) (size : length (trace_of l) ≡ 4 * length l) (one : OneEach n block_counts) (most : length l ≤ most_records) where
  reaches : (s : Run) → state_after_records (start_state n block_counts) (trace_of l) ≡ s → replayed_state (n ∷ trace_of l) ≡ s
  unfolding replayed_state
  reaches s e =
      ap (state_after_records (start_state n ones)) (take_all (4 * most_records) (trace_of l) (omega arith))
      ∙ ap (λ (t : Run). state_after_records t (trace_of l)) (sym (one_start n block_counts (start_out n block_counts ok).1 one))
      ∙ e

  handed_alike : map (handed n) (replies_of (start_state n block_counts) (trace_of l)) ≡ map (λ x. handed n x.reply) l
      → map (handed n) (replies_of (start_state n ones) (trace_of l)) ≡ map (λ x. handed n x.reply) l
  handed_alike e = ap (λ (t : Run). map (handed n) (replies_of t (trace_of l))) (sym (one_start n block_counts (start_out n block_counts ok).1 one)) ∙ e

  prints : map (handed n) (replies_of (start_state n block_counts) (trace_of l)) ≡ map (λ x. handed n x.reply) l → none_refused (map (λ x. x.reply) l) ≡ true → (all : Bool)
      → listing all (n ∷ trace_of l) ≡ lines_of 0 (map (λ x. x.reply) l)
  prints e none_refused_lem all =
      listing_started all n (trace_of l) (replay_starts n block_counts ok)
      ∙ lines_replayed all (length l) 0 (start_state n ones) (trace_of l) size (omega arith) (replay_accepted n (start_state n ones) l (handed_alike e) none_refused_lem)
      ∙ sym (lines_handed n 0 (replies_of (start_state n ones) (trace_of l)))
      ∙ ap (lines_of 0) (handed_alike e)
      ∙ entries_handed n 0 l

-- What stands in front of the place.
stands : (n place : ℕ) (l : List EventReply) (buffer now-buffer : List ℕ) → now-buffer ≡ (n ∷ trace_of l) ++ drop place buffer → place ≡ length (n ∷ trace_of l)
    → take place now-buffer ≡ n ∷ trace_of l
stands n place l buffer now-buffer e far = ap (take place) e ∙ take_at (n ∷ trace_of l) (drop place buffer) place (sym far)

-- Note 9.
begun_follows : (n : ℕ) (block_counts buffer : List ℕ) (t u : Tape) (l : List EventReply) → start_refusal n block_counts ≡ None → 1 ≤ length buffer
    → t ≡ record { run = start_state n block_counts; buffer = sets buffer 0 (n ∷ []); place = 1 } → Follows n t u l → ReplaysTheSame n block_counts buffer u l
unfolding every
begun_follows n block_counts buffer t u l ok some-room is w₀ =
    let w : Follows n (record { run = start_state n block_counts; buffer = sets buffer 0 (n ∷ []); place = 1 }) u l = rw is at w₀ in
    let fitting : 0 + length (n ∷ []) ≤ length buffer = omega arith in
    let far : u.place ≡ (0 + length (n ∷ [])) + 4 * length l = omega (arith, w.place) in
    let whole : u.buffer ≡ (n ∷ trace_of l) ++ drop u.place buffer =
    w.written
    ∙ ap (λ (x : List ℕ). (x ++ trace_of l) ++ drop u.place (sets buffer 0 (n ∷ []))) (up_to buffer (n ∷ []) 0 fitting)
    ∙ ap (λ (x : List ℕ). (n ∷ trace_of l) ++ x) (rw far (further buffer (n ∷ []) 0 fitting (4 * length l))) in
    let front : take u.place u.buffer ≡ n ∷ trace_of l = stands n u.place l buffer u.buffer whole (omega (arith, far, w.size)) in
    record {
      written = whole;
      size = w.size;
      are_bytes = rw (lt-ltb n 256 (omega (arith, (start_out n block_counts ok).1))) w.are_bytes;
      place = w.place;
      inside = omega (arith, w.inside, length-sets buffer 0 (n ∷ []));
      same = w.state;
      replies = w.replies;
      accepted = w.accepted;
      state = λ one most. ap replayed_state front ∙ reaches n block_counts l ok w.size one most u.run w.state;
      printed = λ one most all. ap (listing all) front ∙ prints n block_counts l ok w.size one most w.replies w.accepted all;
    }

replays_from : (n : ℕ) (block_counts buffer : List ℕ) → (recorded_start n block_counts buffer).outcome.answer ≡ Ok tt → (calls : List Call)
    → ReplaysTheSame n block_counts buffer (tape_after (begun n block_counts buffer) calls) (entries (begun n block_counts buffer) calls)
replays_from n block_counts buffer e calls =
    let b = start_begun n block_counts buffer e in
    let good : Good n (start_state n block_counts) = record { history = beginning n block_counts; ideal = run-begun n block_counts; reached = rw (started_state n block_counts b.0) at (start_reached n block_counts b.0) } in
    begun_follows n block_counts buffer (begun n block_counts buffer) (tape_after (begun n block_counts buffer) calls) (entries (begun n block_counts buffer) calls) b.0 b.1 b.2
    (rw b.2 (all_follow n (record { run = start_state n block_counts; buffer = sets buffer 0 (n ∷ []); place = 1 }) good (omega (arith, length-sets buffer 0 (n ∷ []), b.1)) calls))

pub recording_replays : RecordingReplays
unfolding RecordingReplays
recording_replays = replays_from

-- For the code: a call's refusal looks at the length of a lent list alone, and 512 entries, or 16, are as good as more. So a call that has no room in
-- the buffer can be judged on lists of its own.
module _ (s : Run) where
  short_deletions_lem : (a b : List ℕ) → sound s ≡ true → length a ≡ min (length b) 512 → short_deletions s a ≡ short_deletions s b
  short_deletions_lem a b h e =
      let most : 2 * s.count * s.count ≤ 512 = rw (length-replicate {A = ℕ} 512 0) at (room s h) in
      by_bool (ltb (length b) (2 * s.count * s.count))
      (λ t. rw t (lt-ltb (length a) (2 * s.count * s.count) (omega (arith, ltb-true (length b) (2 * s.count * s.count) t))))
      (λ t. rw t (le-ltb (length a) (2 * s.count * s.count) (omega (arith, ltb-false (length b) (2 * s.count * s.count) t))))

  short_line_lem : (a b : List ℕ) → sound s ≡ true → length a ≡ min (length b) 16 → short_line s a ≡ short_line s b
  short_line_lem a b h e =
      let most = few_processes s h in
      by_bool (ltb (length b) s.count)
      (λ t. rw t (lt-ltb (length a) s.count (omega (arith, most, ltb-true (length b) s.count t))))
      (λ t. rw t (le-ltb (length a) s.count (omega (arith, most, ltb-false (length b) s.count t))))

  pub checkpoint_scratch : (i : ℕ) (a b : List ℕ) → length a ≡ min (length b) 512 → checkpoint_refusal s i a ≡ checkpoint_refusal s i b
  unfolding checkpoint_refusal first_of
  checkpoint_scratch i a b e = by_bool (sound s) (λ h. rw (h, short_deletions_lem a b h e)) (λ h. rw h)

  pub deliver_scratch : (m : ℕ) (a b : List ℕ) → length a ≡ min (length b) 512 → deliver_refusal s m a ≡ deliver_refusal s m b
  unfolding deliver_refusal first_of
  deliver_scratch m a b e = by_bool (sound s) (λ h. rw (h, short_deletions_lem a b h e)) (λ h. rw h)

  pub recover_scratch : (F : ℕ) (a b c d : List ℕ) → length a ≡ min (length b) 512 → length c ≡ min (length d) 16 → recover_refusal s F a c ≡ recover_refusal s F b d
  unfolding recover_refusal first_of
  recover_scratch F a b c d e f = by_bool (sound s) (λ h. rw (h, short_deletions_lem a b h e, short_line_lem c d h f)) (λ h. rw h)
