-- Which state an answer leads to, by its form.
-- Assumes nothing.
use Rattle.std.specs.Prelude.{◌≡◌, ◌+◌, ◌≤◌, ◌<◌}
use Rattle.laws.specs.Basics.{refl, sym, ◌∙◌, ap, Bool, true, false, List, ℕ, arith, eqb, ltb, length, get_or, take, ne_eqb, lt-ltb, le-ltb, le-leb, lt-leb, pick, by_bool}
use Rattle.model.specs.declared.Refusal.TheVariants.{TrialOutsideRange}
use Rattle.machines.specs.{programs.Texts.refused_text, Forms.answer_of, Forms.taken_of, Forms.Between}
use Rattle.machines.specs.Machines.{Answer, Done, Failed, heard, heard_count, heard_word, heard_done, is_number, brought, stepped}
use Rattle.machines.proofs.Driving.{still_stands}
use Rattle.machine_simulate.specs.declared.arguments.Numbers.{Numbers}
use Rattle.machine_simulate.specs.Arguments.{is_wrong_of, is_refused, no_numbers, with_word}
use Rattle.machine_simulate.specs.Text.{head_line, row_text, trial_of}
use Rattle.machine_simulate.specs.Simulating.{longest_word, usage, output_name, State, Counting, Asking, Printing, Tabling, Reporting, Failing, Stopped, ask, next, tabled, answered, decided, without_first, next_row_of, after_count, after_word, after_write_of, simulating}
use Rattle.machine_simulate.specs.Words.{EnoughRoom, lacks_room_of, kept_in, in_phase, state_of, StandsFor}
use Rattle.machine_simulate.proofs.Standing.{state_in, phase_tabling, phase_far}
use Rattle.machines.specs.declared.Request.TheVariants as request
use Rattle.machines.specs.declared.Answer as answers
use Rattle.machines.specs.declared.heard.Taken as takens
use Rattle.machines.specs.declared.heard.Taken.TheVariants as taken

-- How long a word is, by what an answer brings.
module _ (t : takens.Taken) (h : Between t 0 longest_word) where
  abbrev Sized : ℕ → Type 0
  Sized size = ((input : List ℕ) → brought (taken_of t 0 input) ≡ take size input) × (size ≤ longest_word)

  pub size_brought : (size : ℕ) → t ≡ taken.Brought size → Sized size
  unfolding brought taken_of Between
  size_brought size e = (λ input. rw e, let b : Between (taken.Brought size) 0 longest_word = rw e at h in b.1)

  pub size_ended : t ≡ taken.Ended → Sized 0
  unfolding brought taken_of
  size_ended e = (λ input. rw e, omega arith)

  pub size_failed : t ≡ taken.Failed → Sized 0
  unfolding brought taken_of
  size_failed e = (λ input. rw e, omega arith)

-- What an answer to the count comes to.
module _ (a : Answer) (b : Bool) (h : b ≡ is_number (heard_count a) 5) where
  pub led_counted : b ≡ true → stepped simulating Counting a ≡ Asking 1 no_numbers
  unfolding stepped ask next heard after_count
  led_counted e = rw (sym h ∙ e)

  pub led_miscounted : b ≡ false → stepped simulating Counting a ≡ Reporting usage
  unfolding stepped ask next heard after_count
  led_miscounted e = rw (sym h ∙ e)

-- What an answer to a word comes to.
module _ (input : List ℕ) (long : longest_word ≤ length input) (a : answers.Answer) (t : takens.Taken)
    (h : (at : ℕ) (l : List ℕ) → at + longest_word ≤ length l → heard_word longest_word (answer_of a at l) ≡ taken_of t at l) (size : ℕ)
    (s : (l : List ℕ) → brought (taken_of t 0 l) ≡ take size l) (i : ℕ) (k known : Numbers) (w : known ≡ with_word i k (take size input)) where
  led : stepped simulating (Asking i k) (answer_of a 0 input) ≡ pick (ltb i 4) (Asking (i + 1) known) (decided known)
  unfolding stepped ask next heard after_word
  led =
      ap (λ (x : Answer). after_word i k (brought x)) (h 0 input (omega (arith, long)))
      ∙ ap (after_word i k) (s input)
      ∙ ap (λ (x : Numbers). pick (ltb i 4) (Asking (i + 1) x) (decided x)) (sym w)

  pub led_asking : i < 4 → stepped simulating (Asking i k) (answer_of a 0 input) ≡ Asking (i + 1) known
  led_asking few = led ∙ rw (lt-ltb i 4 few)

  pub led_decided : 4 ≤ i → stepped simulating (Asking i k) (answer_of a 0 input) ≡ decided known
  led_decided all = led ∙ rw (le-ltb i 4 all)

-- What an answer to a write comes to.
module _ (a : Answer) (b : Bool) (h : heard_done a ≡ pick b Done Failed) (s : State) where
  pub write_done : b ≡ true → after_write_of s (heard_done a) ≡ s
  unfolding after_write_of
  write_done e = ap (after_write_of s) (h ∙ ap (λ (x : Bool). pick x Done Failed) e)

  pub write_failed : b ≡ false → after_write_of s (heard_done a) ≡ Failing output_name
  unfolding after_write_of
  write_failed e = ap (after_write_of s) (h ∙ ap (λ (x : Bool). pick x Done Failed) e)

-- What four numbers ask for, by the tests.
module _ (k : Numbers) where
  pub tabled_refused : is_refused k.n k.spacings.from k.spacings.to k.steps ≡ true → tabled k ≡ Printing (refused_text TrialOutsideRange)
  unfolding tabled
  tabled_refused e = rw e

  pub tabled_begins : is_refused k.n k.spacings.from k.spacings.to k.steps ≡ false → tabled k ≡ Tabling head_line k
  unfolding tabled
  tabled_begins e = rw e

  pub decided_wrong : is_wrong_of k.n k.spacings k.steps k.seed ≡ true → decided k ≡ Reporting usage
  unfolding decided
  decided_wrong e = rw e

  pub decided_right : is_wrong_of k.n k.spacings k.steps k.seed ≡ false → decided k ≡ answered k
  unfolding decided
  decided_right e = rw e

  pub row_none : k.spacings.to < k.spacings.from → next_row_of k ≡ Stopped
  unfolding next_row_of
  row_none h = rw (lt-ltb k.spacings.to k.spacings.from h)

  pub row_next : k.spacings.from ≤ k.spacings.to → next_row_of k ≡ Tabling (row_text k.spacings.from (trial_of k.n k.spacings.from k.steps k.seed)) (without_first k)
  unfolding next_row_of
  row_next h = rw (le-ltb k.spacings.to k.spacings.from h)

pub one_most : (x : ℕ) → (x ≡ 0 → ⊥) → 1 ≤ x
one_most x h = omega (arith, h)

stays : (s : State) (a : Answer) → s ≡ Stopped → stepped simulating s a ≡ Stopped
unfolding stepped next
stays s a e = ap (λ (x : State). stepped simulating x a) e

-- The state that the lent numbers stand for, by the phase.
module _ (memory input out : List ℕ) where
  abbrev phase : ℕ
  phase = get_or memory 0 0

  abbrev count : ℕ
  count = get_or memory 1 0

  pub no_room : (a : Answer) → lacks_room_of (length memory) (length input) (length out) ≡ true → StandsFor memory input out request.Stop (stepped simulating (state_of memory input out) a)
  unfolding stepped next ask state_of
  no_room a e = still_stands simulating (state_of memory input out) Stopped 0 input out a (rw e) refl refl

  module _ (room : EnoughRoom (length memory) (length input) (length out)) where
    pub is_counting : phase ≡ 0 → state_of memory input out ≡ Counting
    unfolding in_phase
    is_counting e = state_in memory input out room ∙ ap (λ (p : ℕ). in_phase p count (kept_in memory) out) e

    pub is_asking : (phase ≡ 0 → ⊥) → phase ≤ 4 → state_of memory input out ≡ Asking phase (kept_in memory)
    unfolding in_phase
    is_asking e h = state_in memory input out room ∙ rw (ne_eqb phase 0 e, le-leb phase 4 h)

    pub is_printing : phase ≡ 5 → state_of memory input out ≡ Printing (take count out)
    unfolding in_phase
    is_printing e = state_in memory input out room ∙ ap (λ (p : ℕ). in_phase p count (kept_in memory) out) e

    pub is_tabling : phase ≡ 6 → (k : Numbers) → k ≡ kept_in memory → k.spacings.to ≤ 1000 → state_of memory input out ≡ Tabling (take count out) k
    is_tabling e k w h =
        state_in memory input out room
        ∙ ap (λ (p : ℕ). in_phase p count (kept_in memory) out) e
        ∙ ap (λ (x : Numbers). in_phase 6 count x out) (sym w)
        ∙ phase_tabling count k out h

    pub tabled_too_far : (a : Answer) → phase ≡ 6 → (k : Numbers) → k ≡ kept_in memory → 1000 < k.spacings.to → stepped simulating (state_of memory input out) a ≡ Stopped
    tabled_too_far a e k w h =
        stays (state_of memory input out) a
        (state_in memory input out room
        ∙ ap (λ (p : ℕ). in_phase p count (kept_in memory) out) e
        ∙ ap (λ (x : Numbers). in_phase 6 count x out) (sym w)
        ∙ phase_far count k out h)

    pub then_stops : (a : Answer) → 4 < phase → (phase ≡ 5 → ⊥) → (phase ≡ 6 → ⊥) → stepped simulating (state_of memory input out) a ≡ Stopped
    unfolding stepped next in_phase
    then_stops a low p q =
        ap (λ (s : State). stepped simulating s a) (state_in memory input out room)
        ∙ by_bool (eqb phase 7)
        (λ e. rw (ne_eqb phase 0 (λ z. omega (arith, z, low)), lt-leb phase 4 low, ne_eqb phase 5 p, ne_eqb phase 6 q, e))
        (λ e. by_bool (eqb phase 8)
        (λ f. rw (ne_eqb phase 0 (λ z. omega (arith, z, low)), lt-leb phase 4 low, ne_eqb phase 5 p, ne_eqb phase 6 q, e, f))
        (λ f. rw (ne_eqb phase 0 (λ z. omega (arith, z, low)), lt-leb phase 4 low, ne_eqb phase 5 p, ne_eqb phase 6 q, e, f)))
