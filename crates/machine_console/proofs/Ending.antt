-- The machine ends: a number falls with each answer.
-- Assumes nothing.
use Rattle.std.specs.Prelude.{◌≡◌, ◌++◌, ◌+◌, ◌-◌, ◌*◌, ◌≤◌, ◌<◌}
use Rattle.laws.specs.Basics.{refl, List, ℕ, arith, eqb, ltb, length, get_or, length-append, ltb-true, pick, by_bool}
use Rattle.machines.specs.Machines.{Stop, Answer, heard, stepped, Ends}
use Rattle.machines.proofs.Answers.{by_read, by_done}
use Rattle.machine_console.specs.Text.{call_size, refused_at}
use Rattle.machine_console.specs.Consoling.{most_calls, Between, State, Opening, Reading, Printing, Ending, Failing, Stopped, ask, next, begun, after_first_of, called, onward, at_end, after_read_of, further_on, after_write_of, consoling}

-- 10 answers a call are enough: 8 reads of one byte and a write.
abbrev pub left : State → ℕ
left Opening = 10 * most_calls + 13
left (Reading b) = 10 * (most_calls - b.done) + (8 - length b.buffered) + 4
left (Printing line b) = pick (ltb b.done most_calls) (10 * (most_calls - b.done) + 13) 3
left (Ending line) = 2
left (Failing name) = 1
left Stopped = 0

begun_falls : (n : ℕ) → left (begun n) < left Opening
unfolding begun
begun_falls n = by_bool (eqb (refused_at n) 0) (λ e. rw e (omega arith)) (λ e. rw e (omega arith))

called_falls : (b : Between) → left (called b) < 10 * (most_calls - b.done) + 4
unfolding called
called_falls b =
    by_bool (ltb (b.done + 1) most_calls)
    (λ e. rw e (omega (arith, ltb-true (b.done + 1) most_calls e)))
    (λ e. rw e (omega arith))

onward_falls : (b : Between) (more : List ℕ) → 1 ≤ length more → left (onward (record { done = b.done; run = b.run; buffered = b.buffered ++ more })) < left (Reading b)
unfolding onward
onward_falls b more h =
    let after : Between = record { done = b.done; run = b.run; buffered = b.buffered ++ more } in
    by_bool (ltb (length (b.buffered ++ more)) 8)
    (λ e. rw e (omega (arith, ltb-true (length (b.buffered ++ more)) 8 e, length-append b.buffered more)))
    (λ e. rw e (omega (arith, called_falls after)))

end_falls : (b : Between) → left (at_end b) < left (Reading b)
unfolding at_end
end_falls b = by_bool (eqb (length b.buffered) 0) (λ e. rw e (omega arith)) (λ e. rw e (omega arith))

further_falls : (line : List ℕ) (b : Between) → left (further_on b) < left (Printing line b)
unfolding further_on
further_falls line b = by_bool (ltb b.done most_calls) (λ e. rw e (omega arith)) (λ e. rw e (omega arith))

printed_more : (line : List ℕ) (b : Between) → 1 < left (Printing line b)
printed_more line b = by_bool (ltb b.done most_calls) (λ e. rw e (omega arith)) (λ e. rw e (omega arith))

pub falls : (s : State) (a : Answer) → (ask s ≡ Stop → ⊥) → left (stepped consoling s a) < left s
unfolding stepped ask next heard after_first_of after_read_of after_write_of
falls Opening a h = by_read (λ (x : Answer). left (after_first_of x) < left Opening) (omega arith) 1 (λ l some few. begun_falls (get_or l 0 0)) (omega arith) a
falls (Reading b) a h = by_read (λ (x : Answer). left (after_read_of b x) < left (Reading b)) (omega arith) (call_size - length b.buffered) (λ more some few. onward_falls b more some) (end_falls b) a
falls (Printing line b) a h = by_done (λ (x : Answer). left (after_write_of (further_on b) x) < left (Printing line b)) (printed_more line b) (further_falls line b) a
falls (Ending line) a h = by_done (λ (x : Answer). left (after_write_of Stopped x) < 2) (omega arith) (omega arith) a
falls (Failing name) a h = omega arith
falls Stopped a h = absurd (h refl)

pub stays : (s : State) (a : Answer) → ask s ≡ Stop → ask (stepped consoling s a) ≡ Stop
unfolding stepped ask next
stays Opening a e = cc
stays (Reading b) a e = cc
stays (Printing line b) a e = cc
stays (Ending line) a e = cc
stays (Failing name) a e = cc
stays Stopped a e = refl

abbrev pub consoling_ends : Ends consoling
consoling_ends = record { left = left; falls = falls; stays = stays }
