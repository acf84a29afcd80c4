-- Which state an answer leads to, by its form.
-- Assumes nothing.
use Rattle.std.specs.Prelude.{◌≡◌, ◌&&◌, ◌+◌, ◌≤◌, ◌<◌}
use Rattle.laws.specs.Basics.{refl, sym, ◌∙◌, ap, Bool, true, false, List, ℕ, arith, eqb, leb, length, get_or, take, length-take-le, ne_eqb, lt-leb, pick, by_bool}
use lib.Seq.{take-add}
use Rattle.machines.specs.Machines.{Answer, Done, Failed, heard, heard_done, stepped}
use Rattle.machines.specs.Forms.{answer_of, taken_of, Between}
use Rattle.machines.proofs.{Hearing.ReadAs, Driving.still_stands, Places.long_enough}
use Rattle.machine_judge.specs.{Text.longest_verdict, Words.EnoughRoom, Words.lacks_room_of, Words.in_phase, Words.state_of, Words.place_of, Words.StandsFor}
use Rattle.machine_judge.specs.Judging.{most_read, wanted, State, Reading, Printing, Failing, Stopped, input_name, output_name, ask, next, printing, onward, after_read_of, after_write_of, judging}
use Rattle.machine_judge.proofs.Standing.{wanted_fits, state_in, phase_read, phase_printed}
use Rattle.machines.specs.declared.Request.TheVariants as request
use Rattle.machines.specs.declared.Answer as answers
use Rattle.machines.specs.declared.heard.Taken as takens
use Rattle.machines.specs.declared.heard.Taken.TheVariants as taken

-- What an answer to a read comes to.
module _ (input : List ℕ) (buffered : ℕ) (fits : buffered ≤ most_read) (long : most_read ≤ length input) (a : answers.Answer) (most : ℕ) (asks : most ≡ wanted buffered) where
  abbrev Led : State
  Led = stepped judging (Reading (take buffered input)) (answer_of a buffered input)

  led : (t s : takens.Taken) → ReadAs a most t → t ≡ s → Led ≡ after_read_of (take buffered input) (taken_of s buffered input)
  unfolding stepped ask next heard
  led t s h e =
      rw (length-take-le buffered input (omega (arith, fits, long)), sym asks)
      (ap (after_read_of (take buffered input)) (h.0 buffered input (omega (arith, wanted_fits buffered fits, asks, long))))
      ∙ ap (λ (x : takens.Taken). after_read_of (take buffered input) (taken_of x buffered input)) e

  pub brought_fits : (t : takens.Taken) (size : ℕ) → ReadAs a most t → t ≡ taken.Brought size → buffered + size ≤ most_read
  unfolding Between
  brought_fits t size h e = let b : Between (taken.Brought size) 1 most = rw e at h.1 in omega (arith, b.1, wanted_fits buffered fits, asks)

  pub led_onward : (t : takens.Taken) (size : ℕ) → ReadAs a most t → t ≡ taken.Brought size → Led ≡ onward (take (buffered + size) input)
  unfolding taken_of after_read_of
  led_onward t size h e = led t (taken.Brought size) h e ∙ ap onward (sym (take-add buffered size input))

  pub led_end : (t : takens.Taken) → ReadAs a most t → t ≡ taken.Ended → Led ≡ printing (take buffered input)
  unfolding taken_of after_read_of
  led_end t h e = led t taken.Ended h e

  pub led_failed : (t : takens.Taken) → ReadAs a most t → t ≡ taken.Failed → Led ≡ Failing input_name
  unfolding taken_of after_read_of
  led_failed t h e = led t taken.Failed h e

-- What an answer to a write comes to.
module _ (line : List ℕ) (a : Answer) (b : Bool) (h : heard_done a ≡ pick b Done Failed) where
  pub led_written : b ≡ true → stepped judging (Printing line) a ≡ Stopped
  unfolding stepped ask next heard after_write_of
  led_written e = ap after_write_of (h ∙ ap (λ (x : Bool). pick x Done Failed) e)

  pub led_unwritten : b ≡ false → stepped judging (Printing line) a ≡ Failing output_name
  unfolding stepped ask next heard after_write_of
  led_unwritten e = ap after_write_of (h ∙ ap (λ (x : Bool). pick x Done Failed) e)

stays : (s : State) (a : Answer) → s ≡ Stopped → stepped judging s a ≡ Stopped
unfolding stepped next
stays s a e = ap (λ (x : State). stepped judging x a) e

module _ (memory input out : List ℕ) where
  abbrev phase : ℕ
  phase = get_or memory 0 0

  abbrev count : ℕ
  count = get_or memory 1 0

  -- Without room nothing happens.
  pub no_room : (a : Answer) → lacks_room_of (length memory) (length input) (length out) ≡ true → StandsFor memory input out request.Stop (stepped judging (state_of memory input out) a)
  unfolding stepped next ask state_of
  no_room a e = still_stands judging (state_of memory input out) Stopped (place_of memory) input out a (rw e) refl refl

  module _ (room : EnoughRoom (length memory) (length input) (length out)) where
    pub is_reading : phase ≡ 0 → count ≤ most_read → state_of memory input out ≡ Reading (take count input)
    is_reading e h = state_in memory input out room ∙ ap (λ (p : ℕ). in_phase p count input out) e ∙ phase_read count input out h

    pub is_printing : phase ≡ 1 → count ≤ length out → state_of memory input out ≡ Printing (take count out)
    is_printing e h = state_in memory input out room ∙ ap (λ (p : ℕ). in_phase p count input out) e ∙ phase_printed count input out h

    far_read : most_read < count → in_phase 0 count input out ≡ Stopped
    unfolding in_phase
    far_read h = rw (lt-leb count most_read h)

    far_printed : length out < count → in_phase 1 count input out ≡ Stopped
    unfolding in_phase
    far_printed h = rw (lt-leb count (length out) h)

    pub read_too_far : (a : Answer) → phase ≡ 0 → most_read < count → stepped judging (state_of memory input out) a ≡ Stopped
    read_too_far a e h = stays _ a (state_in memory input out room ∙ ap (λ (p : ℕ). in_phase p count input out) e ∙ far_read h)

    pub printed_too_far : (a : Answer) → phase ≡ 1 → length out < count → stepped judging (state_of memory input out) a ≡ Stopped
    printed_too_far a e h = stays _ a (state_in memory input out room ∙ ap (λ (p : ℕ). in_phase p count input out) e ∙ far_printed h)

    pub then_stops : (a : Answer) → (phase ≡ 0 → ⊥) → (phase ≡ 1 → ⊥) → stepped judging (state_of memory input out) a ≡ Stopped
    unfolding stepped next in_phase
    then_stops a p q =
        ap (λ (s : State). stepped judging s a) (state_in memory input out room)
        ∙ by_bool (eqb phase 2 && leb count (length out))
        (λ e. rw (ne_eqb phase 0 p, ne_eqb phase 1 q, e))
        (λ e. rw (ne_eqb phase 0 p, ne_eqb phase 1 q, e))

-- Room, by the test.
pub room_by : (memory input out : ℕ) → lacks_room_of memory input out ≡ false → EnoughRoom memory input out
unfolding lacks_room_of
room_by memory input out e = long_enough memory 2 input most_read out longest_verdict e
