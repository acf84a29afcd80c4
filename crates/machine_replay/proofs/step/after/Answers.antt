-- `machine_replay::step::after` meets its contract.
-- Assumes nothing.
use Rattle.std.specs.Prelude.{◌≡◌, ◌||◌}
use Rattle.laws.specs.Basics.{true, ℕ, arith, eqb, rules, eq-eqb, ne_eqb, eqb-true, eqb-false, by_eq}
use Rattle.laws.specs.Truth.{or_none}
use Rattle.machines.specs.Machines.{stepped, heard}
use Rattle.machine_replay.specs.{Replaying.asks, Replaying.next, Standing.between_in, Standing.FromStart}
use Rattle.machine_replay.specs.Ready.{bytes_state, read_state, lines_state}
use Rattle.machine_replay.proofs.Places.{in_lists, is_starting, is_counted, is_opening, is_reading, is_printing, is_ending, is_failing, is_stopped, text_stopped}
use Rattle.machine_replay.proofs.step.after.Goals as goal

-- A phase in which bytes were read or lines written, and is not the first of the two.
is_four : (k : ℕ) → (eqb k 3 || eqb k 4) ≡ true → (k ≡ 3 → ⊥) → k ≡ 4
is_four k e ne = eqb-true k 4 (rw (ne_eqb k 3 ne) at e)

pub after_bytes-requires : goal.after_bytes-requires
unfolding FromStart between_in
after_bytes-requires c = (
  c.requires.0,
  λ e. by_eq c.args.p.phase 3
      (λ three. rw (is_reading c.requires.0 three) at (c.requires.1 e))
      (λ ne. rw (is_printing c.requires.0 (is_four c.args.p.phase c.if-phase.true ne)) at (c.requires.1 e)),
)

pub returns-then-phase : goal.returns-then-phase
unfolding stepped next asks heard bytes_state read_state lines_state
returns-then-phase c =
    by_eq c.args.p.phase 3
    (λ three. rw (is_reading c.requires.0 three) (rw (eq-eqb c.args.p.phase 3 three) at c.after_bytes.ensures))
    (λ ne. rw (is_printing c.requires.0 (is_four c.args.p.phase c.if-phase.true ne)) (rw (ne_eqb c.args.p.phase 3 ne) at c.after_bytes.ensures))

pub after_word-requires : goal.after_word-requires
after_word-requires c =
    (c.requires.0.room, ((in_lists c.requires.0).front (λ e. omega (arith, c.in-1.is))).0)

pub after_first-requires : goal.after_first-requires
after_first-requires c =
    (c.requires.0.room, ((in_lists c.requires.0).front (λ e. omega (arith, c.in-2.is))).0)

pub returns-in-0 : goal.returns-in-0
unfolding stepped next asks heard
returns-in-0 c =
    rw (is_starting c.requires.0 c.in-0.is) c.after_count.ensures

pub returns-in-1 : goal.returns-in-1
unfolding stepped next asks heard
returns-in-1 c =
    rw (is_counted c.requires.0 c.in-1.is) c.after_word.ensures

pub returns-in-2 : goal.returns-in-2
unfolding stepped next asks heard
returns-in-2 c =
    rw (is_opening c.requires.0 c.in-2.is) c.after_first.ensures

pub returns-in-5 : goal.returns-in-5
unfolding stepped next asks heard
returns-in-5 c =
    rw (is_ending c.requires.0 c.in-5.is) c.after_last.ensures

pub returns-in_default : goal.returns-in_default
unfolding stepped next asks heard
returns-in_default c =
    let others = c.in_default.in_default-own.rest in let neither = or_none (eqb c.args.p.phase 3) (eqb c.args.p.phase 4) c.if-phase.false in let ends = text_stopped 0 c.args.words.now c.args.input.now c.args.out.now c.requires.0.room (omega arith) in rw c.with_text.ensures (by_eq c.args.p.phase 6
    (λ e. rw (is_failing c.requires.0 e) ends)
    (λ ne. rw (is_stopped c.requires.0 others.0.0.0.1 others.0.0.1 others.0.1 (eqb-false c.args.p.phase 3 neither.0) (eqb-false c.args.p.phase 4 neither.1) others.1 ne) ends))
