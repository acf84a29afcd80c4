-- The machine ends: a number falls with each answer.
-- Assumes nothing.
use Rattle.std.specs.Prelude.{◌≡◌, ◌||◌, ◌∷◌, ◌++◌, ◌+◌, ◌-◌, ◌≤◌, ◌<◌}
use Rattle.laws.specs.Basics.{refl, false, List, [], ℕ, arith, ltb, leb, length, length-append, leb-false, by_bool}
use Rattle.laws.specs.Truth.{or_none}
use Rattle.machines.specs.Machines.{Stop, Answer, heard, heard_read, heard_done, stepped, Ends}
use Rattle.machines.proofs.Answers.{by_read, by_done}
use Rattle.machine_judge.specs.Judging.{most_read, settled, wanted, State, Reading, Printing, Failing, Stopped, ask, next, onward, after_read_of, after_write_of, judging}

abbrev pub left : State → ℕ
left (Reading trace) = most_read - length trace + 3
left (Printing line) = 2
left (Failing name) = 1
left Stopped = 0

-- What does not settle the verdict is short of what may count.
pub unsettled_short : (trace : List ℕ) → settled trace ≡ false → length trace < most_read
unfolding settled
unsettled_short [] e = omega arith
unsettled_short (n ∷ l) e =
    let long = leb most_read (length (n ∷ l)) in
    leb-false most_read (length (n ∷ l)) (or_none (ltb 16 n) long (or_none (ltb n 1) (ltb 16 n || long) e).1).1

onward_falls : (trace more : List ℕ) → 1 ≤ length more → left (onward (trace ++ more)) < left (Reading trace)
unfolding onward
onward_falls trace more h =
    by_bool (settled (trace ++ more))
    (λ e. rw e (omega arith))
    (λ e. rw e (omega (arith, unsettled_short (trace ++ more) e, length-append trace more)))

read_falls : (trace : List ℕ) (most : ℕ) (a : Answer) → left (after_read_of trace (heard_read most a)) < left (Reading trace)
unfolding after_read_of
read_falls trace most a =
    by_read (λ (x : Answer). left (after_read_of trace x) < left (Reading trace)) (omega arith) most (λ more some few. onward_falls trace more some) (omega arith) a

write_falls : (a : Answer) → left (after_write_of (heard_done a)) < 2
unfolding after_write_of
write_falls a = by_done (λ (x : Answer). left (after_write_of x) < 2) (omega arith) (omega arith) a

pub falls : (s : State) (a : Answer) → (ask s ≡ Stop → ⊥) → left (stepped judging s a) < left s
unfolding stepped ask next heard
falls (Reading trace) a h = read_falls trace (wanted (length trace)) a
falls (Printing line) a h = write_falls a
falls (Failing name) a h = omega arith
falls Stopped a h = absurd (h refl)

pub stays : (s : State) (a : Answer) → ask s ≡ Stop → ask (stepped judging s a) ≡ Stop
unfolding stepped ask next
stays (Reading trace) a e = cc
stays (Printing line) a e = cc
stays (Failing name) a e = cc
stays Stopped a e = refl

abbrev pub judging_ends : Ends judging
judging_ends = record { left = left; falls = falls; stays = stays }
