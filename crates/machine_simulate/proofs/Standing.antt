-- Which state the lent numbers and buffers stand for once a phase, a count and the numbers of the words are put.
-- Assumes nothing.
use Rattle.std.specs.Prelude.{◌≡◌, ◌∷◌, ◌≤◌, ◌<◌}
use Rattle.laws.specs.Basics.{refl, ◌∙◌, ap, Bool, true, false, List, [], ℕ, arith, eqb, length, get_or, take, set, ne_eqb, le-ltb, le-leb, lt-leb, pick}
use Rattle.laws.specs.Choice.{pick_same}
use Rattle.listing.specs.Printed.{Printed}
use Rattle.machines.specs.{Machines.Say, Machines.Fail, Forms.request_of_def, Forms.Placed, Forms.GoesTo}
use Rattle.machines.proofs.{Places.long_enough, programs.Texts.printed_inside, programs.Texts.printed_front}
use Rattle.machine_simulate.specs.declared.arguments.Numbers.{Numbers}
use Rattle.machine_simulate.specs.Text.{longest_text}
use Rattle.machine_simulate.specs.Simulating.{longest_word, Counting, Asking, Printing, Tabling, Reporting, Failing, Stopped, ask}
use Rattle.machine_simulate.specs.Words.{EnoughRoom, lacks_room_of, kept_in, in_phase, state_of, Puts, StandsFor}
use Rattle.machines.specs.declared.Request.TheVariants as request

-- Eight numbers that are put are read back.
flag_back : (b : Bool) → eqb (pick b 1 0) 1 ≡ b
flag_back true = refl
flag_back false = refl

abbrev pub all_put : List ℕ → ℕ → ℕ → Numbers → ℕ → List ℕ
all_put m p c k b = set (set (set (set (set (set (set (set m 0 p) 1 c) 2 k.n) 3 b) 4 k.spacings.from) 5 k.spacings.to) 6 k.steps) 7 k.seed

pub puts_all : (m : List ℕ) → 8 ≤ length m → (p c : ℕ) (k : Numbers) (b : ℕ) → b ≡ pick k.spacings.many 1 0 → Puts (all_put m p c k b) p c k
unfolding kept_in
puts_all [] h p c k b e = absurd (omega (arith, h))
puts_all (m0 ∷ []) h p c k b e = absurd (omega (arith, h))
puts_all (m0 ∷ m1 ∷ []) h p c k b e = absurd (omega (arith, h))
puts_all (m0 ∷ m1 ∷ m2 ∷ []) h p c k b e = absurd (omega (arith, h))
puts_all (m0 ∷ m1 ∷ m2 ∷ m3 ∷ []) h p c k b e = absurd (omega (arith, h))
puts_all (m0 ∷ m1 ∷ m2 ∷ m3 ∷ m4 ∷ []) h p c k b e = absurd (omega (arith, h))
puts_all (m0 ∷ m1 ∷ m2 ∷ m3 ∷ m4 ∷ m5 ∷ []) h p c k b e = absurd (omega (arith, h))
puts_all (m0 ∷ m1 ∷ m2 ∷ m3 ∷ m4 ∷ m5 ∷ m6 ∷ []) h p c k b e = absurd (omega (arith, h))
puts_all (m0 ∷ m1 ∷ m2 ∷ m3 ∷ m4 ∷ m5 ∷ m6 ∷ m7 ∷ l) h p c k b e =
    let back = ap (λ (x : ℕ). eqb x 1) e ∙ flag_back k.spacings.many in
    (refl, refl, λ j. record { n = k.n; spacings = record { many = back j; from = k.spacings.from; to = k.spacings.to }; steps = k.steps; seed = k.seed })

-- Room, as a test and as a fact.
pub room_is : (memory input out : ℕ) → EnoughRoom memory input out → lacks_room_of memory input out ≡ false
unfolding lacks_room_of
room_is memory input out (a, b, c) = rw (le-ltb memory 8 a, le-ltb input longest_word b, le-ltb out longest_text c)

pub room_by : (memory input out : ℕ) → lacks_room_of memory input out ≡ false → EnoughRoom memory input out
unfolding lacks_room_of
room_by memory input out e = long_enough memory 8 input longest_word out longest_text e

module _ (memory input out : List ℕ) where
  pub state_in : EnoughRoom (length memory) (length input) (length out) → state_of memory input out ≡ in_phase (get_or memory 0 0) (get_or memory 1 0) (kept_in memory) out
  unfolding state_of
  state_in room = rw (room_is (length memory) (length input) (length out) room)

-- The state of each phase.
phase_asking : (i count : ℕ) (k : Numbers) (out : List ℕ) → 1 ≤ i → i ≤ 4 → in_phase i count k out ≡ Asking i k
unfolding in_phase
phase_asking i count k out low high = rw (ne_eqb i 0 (λ e. omega (arith, e, low)), le-leb i 4 high)

pub phase_tabling : (count : ℕ) (k : Numbers) (out : List ℕ) → k.spacings.to ≤ 1000 → in_phase 6 count k out ≡ Tabling (take count out) k
unfolding in_phase
phase_tabling count k out h = rw (le-leb k.spacings.to 1000 h)

pub phase_far : (count : ℕ) (k : Numbers) (out : List ℕ) → 1000 < k.spacings.to → in_phase 6 count k out ≡ Stopped
unfolding in_phase
phase_far count k out h = rw (lt-leb k.spacings.to 1000 h)

-- A machine that has stopped, whatever the buffers.
pub stopped_stands : (memory : List ℕ) (count : ℕ) (k : Numbers) → Puts memory 9 count k → (input out : List ℕ) → StandsFor memory input out request.Stop Stopped
unfolding state_of in_phase request_of_def Placed GoesTo ask
stopped_stands memory count k puts input out =
    let short = lacks_room_of (length memory) (length input) (length out) in
    record {
      state = ap (λ (p : ℕ). pick short Stopped (in_phase p (get_or memory 1 0) (kept_in memory) out)) puts.0 ∙ pick_same short Stopped;
      asks = record { stands = refl; inside = tt; there = tt };
    }

module _ (memory input out : List ℕ) (room : EnoughRoom (length memory) (length input) (length out)) (k : Numbers) where
  state_put : (phase count : ℕ) → Puts memory phase count k → state_of memory input out ≡ in_phase phase count k out
  state_put phase count puts =
      state_in memory input out room
      ∙ ap (λ (p : ℕ). in_phase p (get_or memory 1 0) (kept_in memory) out) puts.0
      ∙ ap (λ (c : ℕ). in_phase phase c (kept_in memory) out) puts.1
      ∙ ap (λ (x : Numbers). in_phase phase count x out) puts.2

  pub counting_stands : Puts memory 0 0 k → StandsFor memory input out request.Count Counting
  unfolding in_phase request_of_def Placed GoesTo ask
  counting_stands puts = record { state = state_put 0 0 puts; asks = record { stands = refl; inside = tt; there = tt } }

  pub asking_stands : (i : ℕ) → 1 ≤ i → i ≤ 4 → Puts memory i 0 k → StandsFor memory input out (request.Argument i 0 longest_word) (Asking i k)
  unfolding request_of_def Placed GoesTo ask
  asking_stands i low high puts = record {
    state = state_put i 0 puts ∙ phase_asking i 0 k out low high;
    asks = record { stands = refl; inside = omega (arith, room.1); there = refl };
  }

  pub printing_stands : (size : ℕ) → size ≤ length out → Puts memory 5 size k → StandsFor memory input out (request.Write size) (Printing (take size out))
  unfolding in_phase request_of_def Placed GoesTo ask
  printing_stands size fits puts = record { state = state_put 5 size puts; asks = record { stands = refl; inside = fits; there = tt } }

  pub tabling_stands : (size : ℕ) → size ≤ length out → k.spacings.to ≤ 1000 → Puts memory 6 size k → StandsFor memory input out (request.Write size) (Tabling (take size out) k)
  unfolding request_of_def Placed GoesTo ask
  tabling_stands size fits few puts = record {
    state = state_put 6 size puts ∙ phase_tabling size k out few;
    asks = record { stands = refl; inside = fits; there = tt };
  }

  -- A text that was printed to the front is reported.
  module _ (out₀ text : List ℕ) (size : ℕ) (fits : length text ≤ length out₀) (printed : Printed out₀ 0 text out size) where
    pub reporting_stands : Puts memory 7 size k → StandsFor memory input out (request.Say size) (Reporting text)
    unfolding in_phase request_of_def Placed GoesTo ask
    reporting_stands puts =
        let front = printed_front out₀ text out size fits printed in
        record { state = state_put 7 size puts ∙ ap Reporting front; asks = record { stands = ap Say front; inside = printed_inside out₀ text out size fits printed; there = tt } }

    pub failing_stands : Puts memory 8 size k → StandsFor memory input out (request.Fail size) (Failing text)
    unfolding in_phase request_of_def Placed GoesTo ask
    failing_stands puts =
        let front = printed_front out₀ text out size fits printed in
        record { state = state_put 8 size puts ∙ ap Failing front; asks = record { stands = ap Fail front; inside = printed_inside out₀ text out size fits printed; there = tt } }
