-- The machine ends: a number falls with each answer.
-- Assumes nothing.
use Rattle.std.specs.Prelude.{◌≡◌, ◌∷◌, ◌+◌, ◌-◌, ◌≤◌, ◌<◌}
use Rattle.laws.specs.Basics.{refl, List, [], ℕ, arith, eqb, ltb, length, take, ltb-true, by_bool}
use Rattle.machines.specs.programs.Numbers.{number_in, no_number}
use Rattle.machines.proofs.Answers.{by_word, by_read, by_done}
use Rattle.machines.specs.Machines.{Stop, Answer, heard, heard_count, heard_word, heard_read, heard_done, is_number, stepped, Ends}
use Rattle.machine_merge.specs.{Buffered.most_counted, Buffered.buffered_size, Buffered.wanted, Buffered.keeping, Printed.printed}
use Rattle.machine_merge.specs.Merging.{longest_word, longest_name, Stage, FirstHalf, SecondHalf, State, Counting, Setting, Naming, Opening, Reading, Writing, Reporting, Failing, Stopped, ask, shown, showing, half_read, ended, onward, after_count, after_set, after_name, after_open_of, after_read_of, after_write_of, next, merging}

abbrev pub stage_left : Stage → ℕ
stage_left (FirstHalf set) = most_counted + 6
stage_left (SecondHalf set first) = 3

abbrev pub left : State → ℕ
left Counting = most_counted + (most_counted + 10)
left Setting = most_counted + (most_counted + 9)
left (Naming stage) = most_counted + 2 + stage_left stage
left (Opening stage name) = most_counted + 1 + stage_left stage
left (Reading stage name kept total) = most_counted - total + stage_left stage
left (Writing trace) = 2
left (Reporting line) = 1
left (Failing name) = 1
left Stopped = 0

two_left : (stage : Stage) → 3 ≤ stage_left stage
two_left (FirstHalf set) = omega arith
two_left (SecondHalf set first) = omega arith

shown_falls : (trace line : List ℕ) → left (shown trace line) < 3
unfolding shown
shown_falls trace [] = omega arith
shown_falls trace (b ∷ line) = omega arith

ended_falls : (stage : Stage) (kept : List ℕ) (total : ℕ) → left (ended stage kept total) < stage_left stage
unfolding half_read showing
ended_falls (FirstHalf set) kept total = omega arith
ended_falls (SecondHalf set first) kept total = shown_falls (printed first (take (buffered_size total) kept) set).trace (printed first (take (buffered_size total) kept) set).refusal

count_falls : (a : Answer) → left (after_count a) < left Counting
unfolding after_count
count_falls a = by_bool (is_number a 4) (λ e. rw e (omega arith)) (λ e. rw e (omega arith))

set_falls : (a : Answer) → left (after_set (heard_word longest_word a)) < left Setting
unfolding after_set
set_falls a =
    by_word (λ (x : Answer). left (after_set x) < left Setting) (omega arith) longest_word
    (λ word few. by_bool (eqb (number_in word) no_number) (λ e. rw e (omega arith)) (λ e. rw e (omega arith)))
    a

name_falls : (stage : Stage) (a : Answer) → left (after_name stage (heard_word longest_name a)) < left (Naming stage)
unfolding after_name
name_falls stage a = by_word (λ (x : Answer). left (after_name stage x) < left (Naming stage)) (omega arith) longest_name (λ name few. omega arith) a

open_falls : (stage : Stage) (name : List ℕ) (a : Answer) → left (after_open_of stage name (heard_done a)) < left (Opening stage name)
unfolding after_open_of
open_falls stage name a = by_done (λ (x : Answer). left (after_open_of stage name x) < left (Opening stage name)) (omega arith) (omega arith) a

module _ (stage : Stage) (name kept : List ℕ) (total : ℕ) where
  onward_falls : (more : List ℕ) → 1 ≤ length more → left (onward stage name (keeping kept more) (total + length more)) < left (Reading stage name kept total)
  unfolding onward
  onward_falls more h =
      by_bool (ltb (total + length more) most_counted)
      (λ e. rw e (omega (arith, h, ltb-true (total + length more) most_counted e)))
      (λ e. rw e (omega (arith, ended_falls stage (keeping kept more) (total + length more))))

  read_falls : (most : ℕ) (a : Answer) → left (after_read_of stage name kept total (heard_read most a)) < left (Reading stage name kept total)
  unfolding after_read_of
  read_falls most a =
      by_read (λ (x : Answer). left (after_read_of stage name kept total x) < left (Reading stage name kept total)) (omega (arith, two_left stage)) most
      (λ more some few. onward_falls more some)
      (omega (arith, ended_falls stage kept total)) a

write_falls : (a : Answer) → left (after_write_of (heard_done a)) < 2
unfolding after_write_of
write_falls a = by_done (λ (x : Answer). left (after_write_of x) < 2) (omega arith) (omega arith) a

pub falls : (s : State) (a : Answer) → (ask s ≡ Stop → ⊥) → left (stepped merging s a) < left s
unfolding stepped ask next heard
falls Counting a h = count_falls (heard_count a)
falls Setting a h = set_falls a
falls (Naming stage) a h = name_falls stage a
falls (Opening stage name) a h = open_falls stage name a
falls (Reading stage name kept total) a h = read_falls stage name kept total (wanted total) a
falls (Writing trace) a h = write_falls a
falls (Reporting line) a h = omega arith
falls (Failing name) a h = omega arith
falls Stopped a h = absurd (h refl)

pub stays : (s : State) (a : Answer) → ask s ≡ Stop → ask (stepped merging s a) ≡ Stop
unfolding stepped ask next
stays Counting a e = cc
stays Setting a e = cc
stays (Naming stage) a e = cc
stays (Opening stage name) a e = cc
stays (Reading stage name kept total) a e = cc
stays (Writing trace) a e = cc
stays (Reporting line) a e = cc
stays (Failing name) a e = cc
stays Stopped a e = refl

abbrev pub merging_ends : Ends merging
merging_ends = record { left = left; falls = falls; stays = stays }
