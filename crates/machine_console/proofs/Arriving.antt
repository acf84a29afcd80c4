-- The numbers of a state, and the states that they stand for.
-- Assumes nothing.
use Rattle.std.specs.Prelude.{◌≡◌, ◌∷◌, ◌+◌, ◌≤◌, ◌<◌}
use Rattle.laws.specs.Basics.{refl, sym, ◌∙◌, ap, true, false, List, [], ℕ, arith, eqb, length, get_or, take, length-take-le, eq-eqb, ne_eqb, lt-ltb, le-ltb, le-leb, by_bool}
use lib.Seq.{take-take}
use Rattle.model.specs.declared.Run.{Run}
use Rattle.model.specs.Refusals.{number}
use Rattle.listing.specs.Printed.{Printed}
use Rattle.machines.proofs.programs.Texts.{front_text, front_inside}
use Rattle.words.specs.Layout.{run_of}
use Rattle.machines.specs.Machines.{Answer, stepped}
use Rattle.machine_console.specs.{Made.made_on, Made.opened, Text.first_call, Text.line_text, Text.call_text, Text.refused_text, Text.refused_at, Replied.Makes}
use Rattle.machine_console.specs.Consoling.{most_calls, State, Reading, Printing, Ending, Stopped, next, begun, called, onward, at_end, further_on, consoling}
use Rattle.machine_console.specs.{script.Script.call_of, Lent.most_done_of, Lent.in_bounds_of, Lent.between_of, Lent.state_in, Lent.Arrives}
use Rattle.machine_console.specs.declared.marks.Marks.{Marks}

pub bounds : (m : Marks) (out : ℕ) → m.done ≤ most_done_of m.phase → m.kept ≤ 7 → m.size ≤ out → in_bounds_of m out ≡ true
unfolding in_bounds_of
bounds m out a b c = rw (le-leb m.done (most_done_of m.phase) a, le-leb m.kept 7 b, le-leb m.size out c) refl

module _ (words input : List ℕ) where
  -- A phase in which nothing is counted.
  pub arrives_at : (phase : ℕ) (out : List ℕ) → let m : Marks = record { phase = phase; done = 0; kept = 0; size = 0 } in Arrives m words input out (state_in m words input out)
  arrives_at phase out = record { bounds = bounds _ (length out) (omega arith) (omega arith) (omega arith); state = refl }

  -- A phase that has a text and nothing else.
  pub arrives_text : (phase : ℕ) (state : List ℕ → State) (out text out' : List ℕ) (size : ℕ) → size ≤ length out → Printed out 0 text out' size
      → let m : Marks = record { phase = phase; done = 0; kept = 0; size = size } in state_in m words input out' ≡ state (take size out') → Arrives m words input out' (state text)
  arrives_text phase state out text out' size h p is = record {
    bounds = bounds _ (length out') (omega arith) (omega arith) (front_inside out text out' size p h);
    state = is ∙ ap state (front_text out text out' size p h);
  }

  -- The first state after the start.
  pub arrives_begun : (out : List ℕ) (n : ℕ) → refused_at n ≡ 0 → run_of words ≡ (opened n).run → Arrives (record { phase = 2; done = 0; kept = 0; size = 0 }) words input out (begun n)
  unfolding state_in most_done_of begun
  arrives_begun out n e run = record {
    bounds = bounds _ (length out) (omega arith) (omega arith) (omega arith);
    state = rw (eq-eqb (refused_at n) 0 e) (ap (λ (s : Run). Reading (record { done = 0; run = s; buffered = [] })) run);
  }

  pub begun_refused : (n x : ℕ) → x ≡ refused_at n → (x ≡ 0 → ⊥) → begun n ≡ Ending (line_text 0 x [])
  unfolding begun
  begun_refused n x e h = rw (ne_eqb (refused_at n) 0 (λ k. h (e ∙ k))) (ap (λ (k : ℕ). Ending (line_text 0 k [])) (sym e))

  -- Another call may be read.
  pub arrives_read : (m : Marks) (out : List ℕ) → m.done < most_calls → m.kept ≤ 7
      → Arrives (record { phase = 2; done = m.done; kept = m.kept; size = 0 }) words input out (further_on (between_of m words input))
  unfolding state_in further_on most_done_of
  arrives_read m out a b = record {
    bounds = bounds _ (length out) (omega (arith, a)) b (omega arith);
    state = rw (lt-ltb m.done most_calls a) refl;
  }

  pub no_further : (m : Marks) → most_calls ≤ m.done → further_on (between_of m words input) ≡ Stopped
  unfolding further_on
  no_further m h = rw (le-ltb m.done most_calls h) refl

  -- The script ends.
  pub none_left : (m : Marks) → m.kept ≡ 0 → at_end (between_of m words input) ≡ Stopped
  unfolding at_end
  none_left m e = rw e refl

  pub some_left : (m : Marks) → (m.kept ≡ 0 → ⊥) → m.kept ≤ length input → at_end (between_of m words input) ≡ Ending (line_text (m.done + 1) 13 [])
  unfolding at_end refused_text number
  some_left m h k = rw (length-take-le m.kept input k, ne_eqb m.kept 0 h) refl

  -- More bytes are read until there are eight.
  pub arrives_more : (done buffered : ℕ) (out : List ℕ) → done < most_calls → buffered < 8 → buffered ≤ length input
      → Arrives (record { phase = 2; done = done; kept = buffered; size = 0 }) words input out (onward (record { done = done; run = run_of words; buffered = take buffered input }))
  unfolding state_in most_done_of onward
  arrives_more done buffered out a b k = record {
    bounds = bounds _ (length out) (omega (arith, a)) (omega (arith, b)) (omega arith);
    state = rw (length-take-le buffered input k, lt-ltb buffered 8 b) refl;
  }

  pub onward_called : (done buffered : ℕ) → 8 ≤ buffered → buffered ≤ 8 → 8 ≤ length input
      → onward (record { done = done; run = run_of words; buffered = take buffered input }) ≡ called (record { done = done; run = run_of words; buffered = take 8 input })
  unfolding onward
  onward_called done buffered a b k =
      let eight : buffered ≡ 8 = omega (arith, a, b) in
      rw (eight, length-take-le 8 input k) refl

-- A whole call is made.
pub arrives_called : (done : ℕ) (words words' input out' bytes : List ℕ) (size : ℕ) → done < most_calls → 8 ≤ length input → bytes ≡ take 8 input
    → Makes (run_of words) (done + 1) (call_of bytes) words' out' size
    → Arrives (record { phase = 3; done = done + 1; kept = 0; size = size }) words' input out' (called (record { done = done; run = run_of words; buffered = take 8 input }))
unfolding state_in most_done_of called
arrives_called done words words' input out' bytes size a k e makes =
    let same : call_of bytes ≡ first_call (take 8 input) = ap call_of (e ∙ sym (take-take 8 8 input (omega arith))) in
    record {
      bounds = bounds _ (length out') (omega (arith, a)) (omega arith) makes.inside;
      state = λ j. Printing ((makes.line ∙ ap (call_text (done + 1) (run_of words)) same) j) (record { done = done + 1; run = (makes.run ∙ ap (λ o. (made_on (run_of words) o).run) same) j; buffered = [] });
    }

-- What has failed stops.
pub rest_stops : (m : Marks) (words input out : List ℕ) (a : Answer) → eqb m.phase 1 ≡ false → eqb m.phase 2 ≡ false → eqb m.phase 3 ≡ false → eqb m.phase 4 ≡ false
    → stepped consoling (state_in m words input out) a ≡ Stopped
unfolding state_in stepped next
rest_stops m words input out a n1 n2 n3 n4 = rw (n1, n2, n3, n4) (by_bool (eqb m.phase 5) (λ p. rw p refl) (λ n. rw n refl))

-- Where a call is read, it is not the last one.
pub reading_done : (m : Marks) → m.phase ≡ 2 → m.done ≤ most_done_of m.phase → m.done < most_calls
unfolding most_done_of
reading_done m e h = let few = rw e at h in omega (arith, few)

pub eight : (l : List ℕ) → 8 ≤ length l → get_or l 0 0 ∷ get_or l 1 0 ∷ get_or l 2 0 ∷ get_or l 3 0 ∷ get_or l 4 0 ∷ get_or l 5 0 ∷ get_or l 6 0 ∷ get_or l 7 0 ∷ [] ≡ take 8 l
eight (a ∷ b ∷ c ∷ d ∷ e ∷ f ∷ g ∷ h ∷ l) k = refl
eight [] k = absurd (omega (arith, k))
eight (a ∷ []) k = absurd (omega (arith, k))
eight (a ∷ b ∷ []) k = absurd (omega (arith, k))
eight (a ∷ b ∷ c ∷ []) k = absurd (omega (arith, k))
eight (a ∷ b ∷ c ∷ d ∷ []) k = absurd (omega (arith, k))
eight (a ∷ b ∷ c ∷ d ∷ e ∷ []) k = absurd (omega (arith, k))
eight (a ∷ b ∷ c ∷ d ∷ e ∷ f ∷ []) k = absurd (omega (arith, k))
eight (a ∷ b ∷ c ∷ d ∷ e ∷ f ∷ g ∷ []) k = absurd (omega (arith, k))
