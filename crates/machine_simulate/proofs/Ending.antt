-- The machine ends: a number falls with each answer.
-- Assumes nothing.
use Rattle.std.specs.Prelude.{◌≡◌, ◌+◌, ◌-◌, ◌≤◌, ◌<◌}
use Rattle.laws.specs.Basics.{refl, ap, Bool, true, false, List, ℕ, arith, ltb, ltb-true, ltb-false, pick, by_bool}
use Rattle.machines.specs.Machines.{Stop, Answer, heard, heard_count, heard_done, is_number, stepped, Ends}
use Rattle.machines.proofs.Answers.{by_done}
use Rattle.machine_simulate.specs.declared.arguments.Numbers.{Numbers}
use Rattle.machine_simulate.specs.{Arguments.is_wrong_of, Arguments.is_refused, Arguments.with_word, Text.result_text, Text.trial_of}
use Rattle.machine_simulate.specs.Simulating.{State, Counting, Asking, Printing, Tabling, Reporting, Failing, Stopped, ask, next, tabled, answered, decided, after_count, after_word, next_row_of, without_first, after_write_of, simulating}
use Rattle.machine_simulate.proofs.Numbers.{in_table}

abbrev pub left : State → ℕ
left Counting = 1007
left (Asking i k) = 1003 + (4 - i)
left (Printing text) = 2
left (Tabling text k) = 2 + (k.spacings.to + 1 - k.spacings.from)
left (Reporting text) = 1
left (Failing name) = 1
left Stopped = 0

-- A table that is not refused has no more than 1,000 rows.
tabled_left : (k : Numbers) → left (tabled k) ≤ 1002
unfolding tabled
tabled_left k =
    by_bool (is_refused k.n k.spacings.from k.spacings.to k.steps)
    (λ e. rw e (omega arith))
    (λ e. rw e (let t = in_table k.n k.spacings.from k.spacings.to k.steps e in omega (arith, t.0, t.1)))

pub answered_table : (k : Numbers) → k.spacings.many ≡ true → answered k ≡ tabled k
unfolding answered
answered_table k e = ap (λ (b : Bool). pick b (tabled k) (Printing (result_text (trial_of k.n k.spacings.from k.steps k.seed)))) e

pub answered_one : (k : Numbers) → k.spacings.many ≡ false → answered k ≡ Printing (result_text (trial_of k.n k.spacings.from k.steps k.seed))
unfolding answered
answered_one k e = ap (λ (b : Bool). pick b (tabled k) (Printing (result_text (trial_of k.n k.spacings.from k.steps k.seed)))) e

answered_left : (k : Numbers) → left (answered k) ≤ 1002
answered_left k = by_bool k.spacings.many (λ e. omega (arith, ap left (answered_table k e), tabled_left k)) (λ e. omega (arith, ap left (answered_one k e)))

decided_left : (k : Numbers) → left (decided k) ≤ 1002
unfolding decided
decided_left k = by_bool (is_wrong_of k.n k.spacings k.steps k.seed) (λ e. rw e (omega arith)) (λ e. rw e (answered_left k))

count_falls : (a : Answer) → left (after_count a) < 1007
unfolding after_count
count_falls a = by_bool (is_number a 5) (λ e. rw e (omega arith)) (λ e. rw e (omega arith))

word_falls : (i : ℕ) (k : Numbers) (word : List ℕ) → left (after_word i k word) < 1003 + (4 - i)
unfolding after_word
word_falls i k word =
    by_bool (ltb i 4)
    (λ e. rw e (let few = ltb-true i 4 e in omega (arith, few)))
    (λ e. rw e (omega (arith, decided_left (with_word i k word))))

row_falls : (k : Numbers) → left (next_row_of k) < 2 + (k.spacings.to + 1 - k.spacings.from)
unfolding next_row_of without_first
row_falls k =
    by_bool (ltb k.spacings.to k.spacings.from)
    (λ e. rw e (omega arith))
    (λ e. rw e (let some = ltb-false k.spacings.to k.spacings.from e in omega (arith, some)))

write_falls : (s : State) (most : ℕ) → left s < most → 1 < most → (a : Answer) → left (after_write_of s (heard_done a)) < most
unfolding after_write_of
write_falls s most h one a = by_done (λ (x : Answer). left (after_write_of s x) < most) one h a

pub falls : (s : State) (a : Answer) → (ask s ≡ Stop → ⊥) → left (stepped simulating s a) < left s
unfolding stepped ask next heard
falls Counting a h = count_falls (heard_count a)
falls (Asking i k) a h = word_falls i k _
falls (Printing text) a h = write_falls Stopped 2 (omega arith) (omega arith) a
falls (Tabling text k) a h = write_falls (next_row_of k) (2 + (k.spacings.to + 1 - k.spacings.from)) (row_falls k) (omega arith) a
falls (Reporting text) a h = omega arith
falls (Failing name) a h = omega arith
falls Stopped a h = absurd (h refl)

pub stays : (s : State) (a : Answer) → ask s ≡ Stop → ask (stepped simulating s a) ≡ Stop
unfolding stepped ask next
stays Counting a e = cc
stays (Asking i k) a e = cc
stays (Printing text) a e = cc
stays (Tabling text k) a e = cc
stays (Reporting text) a e = cc
stays (Failing name) a e = cc
stays Stopped a e = refl

abbrev pub simulating_ends : Ends simulating
simulating_ends = record { left = left; falls = falls; stays = stays }
