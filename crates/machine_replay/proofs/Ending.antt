-- The replay program ends after finitely many answers: a number falls with each.
-- Assumes nothing.
use Rattle.std.specs.Prelude.{◌≡◌, ◌&&◌, ◌++◌, ◌+◌, ◌-◌, ◌*◌, ◌≤◌, ◌<◌}
use Rattle.laws.specs.Basics.{refl, Bool, List, ℕ, arith, eqb, ltb, length, get_or, length-append, length-drop, eqb-false, by_bool}
use Rattle.model.specs.{Words.ones, Refusals.start_refusal, laws.Refusals.by_refusal}
use Rattle.whole_runs.specs.Listing.{most_records}
use Rattle.library_replay.specs.Taken.{outcome_of, block_outcome, BlocksGoOn}
use Rattle.library_replay.proofs.Onward.{blocks_go_on}
use Rattle.machines.specs.Machines.{Stop, Answer, Ends, stepped, heard}
use Rattle.machines.proofs.Answers.{by_read, by_done}
use Rattle.machine_replay.specs.Replaying.{Between, State, starting, counted, opening, reading, printing, ending, failing, stopped, most_to_read, asks, taking, onward, begun, opened, filled, wrote, next, replaying}

-- How many bytes it may still read, three for each of them, and those that it has read and not taken.
bytes_left : Between → ℕ
bytes_left b = 3 * (4 * most_records - (4 * b.done + length b.buffered)) + length b.buffered

pub left : State → ℕ
left starting = 12 * most_records + 7
left (counted single) = 12 * most_records + 6
left (opening all) = 12 * most_records + 5
left (reading b) = bytes_left b + 3
left (printing b lines) = bytes_left b + 4
left (ending lines) = 2
left (failing text) = 1
left stopped = 0

module _ (size room : ℕ) where
  begun_falls : (all : Bool) (n : ℕ) → left (begun all n (start_refusal n ones)) < 12 * most_records + 5
  unfolding left bytes_left begun
  begun_falls all n = by_refusal (start_refusal n ones) (λ e. rw e (omega arith)) (λ why e. rw e (omega arith))

  onward_falls : (b : Between) → left (onward room b) < bytes_left b + 4
  unfolding left bytes_left onward taking block_outcome outcome_of BlocksGoOn
  onward_falls b =
      let o = block_outcome b.all b.done b.run b.buffered room in
      let within = blocks_go_on b.all b.done b.run b.buffered room in
      by_bool (eqb o.taken 0)
      (λ e. rw e (omega arith))
      (λ e. by_bool (o.going && ltb (b.done + o.taken) most_records)
      (λ g. rw (e, g) (omega (arith, eqb-false o.taken 0 e, within.inside, length-drop (4 * o.taken) b.buffered)))
      (λ g. rw (e, g) (omega arith)))

  more_falls : (b : Between) (l : List ℕ) → 1 ≤ length l → length l ≤ most_to_read size b
      → left (onward room (record { all = b.all; done = b.done; run = b.run; buffered = b.buffered ++ l })) < bytes_left b + 3
  unfolding most_to_read bytes_left
  more_falls b l one most = omega (arith, onward_falls (record { all = b.all; done = b.done; run = b.run; buffered = b.buffered ++ l }), length-append b.buffered l)

  pub next_falls : (s : State) (a : Answer) → (asks size s ≡ Stop → ⊥) → left (stepped (replaying size room) s a) < left s
  unfolding stepped next asks heard left opened filled wrote
  next_falls starting a on = omega arith
  next_falls (counted single) a on = omega arith
  next_falls (opening all) a on = by_read (λ (x : Answer). left (opened all x) < 12 * most_records + 5) (omega arith) 1 (λ l some few. begun_falls all (get_or l 0 0)) (omega arith) a
  next_falls (reading b) a on = by_read (λ (x : Answer). left (filled room b x) < bytes_left b + 3) (omega arith) (most_to_read size b) (more_falls b) (omega arith) a
  next_falls (printing b lines) a on = by_done (λ (x : Answer). left (wrote (onward room b) x) < bytes_left b + 4) (omega arith) (onward_falls b) a
  next_falls (ending lines) a on = by_done (λ (x : Answer). left (wrote stopped x) < 2) (omega arith) (omega arith) a
  next_falls (failing text) a on = omega arith
  next_falls stopped a on = absurd (on refl)

  pub only_stopped : (s : State) → asks size s ≡ Stop → s ≡ stopped
  unfolding asks
  only_stopped starting e = cc
  only_stopped (counted single) e = cc
  only_stopped (opening all) e = cc
  only_stopped (reading b) e = cc
  only_stopped (printing b lines) e = cc
  only_stopped (ending lines) e = cc
  only_stopped (failing text) e = cc
  only_stopped stopped e = refl

  stays : (s : State) (a : Answer) → asks size s ≡ Stop → asks size (stepped (replaying size room) s a) ≡ Stop
  unfolding stepped next asks
  stays s a e = rw (only_stopped s e)

  pub ends : Ends (replaying size room)
  ends = record { left = left; falls = next_falls; stays = stays }
