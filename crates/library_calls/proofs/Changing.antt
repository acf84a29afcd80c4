-- What a call leaves is a state of 1 to 16 processes whose causes have 8 bits, if it was made on one; what it says of words that were filled from a state.
-- Assumes nothing.
use Rattle.std.specs.Prelude.{◌≡◌, ◌&&◌, ◌≤◌}
use Rattle.laws.specs.Basics.{refl, sym, ◌∙◌, ap, Bool, true, false, not, false≢true, List, Option, None, Some, ℕ, arith, leb, le-leb, leb-true, by_bool}
use Rattle.laws.specs.Truth.{and_out}
use Rattle.model.specs.{declared.Refusal.Refusal, declared.Run.Run, Words.most_processes, Words.most_under_way, Refusals.send_refusal, Refusals.lose_refusal}
use Rattle.model.specs.{Words.process, Words.with_process, Steps.marked, Steps.send_state, Steps.others, Steps.lose_state, Sound.sound, laws.Sound.sound_state}
use Rattle.whole_runs.specs.Outcomes.{Outcome, judged, send_outcome, lose_outcome}
use Rattle.words.specs.Layout.{run_of}
use Rattle.library_calls.specs.{run_words.Filled.FilledFrom, run_words.Readable.Readable}
use Rattle.library_calls.proofs.{run_words.Sizes.Sized, run_words.ReadOut.readable}
use Rattle.library_calls.proofs.run_words.Causes.{Small, small_messages, small_process, small_kept}

-- Of two outcomes the state.
pub either_run : {A : Type 0} (P : Run → Type 0) (o : Option Refusal) (a : Refusal → Outcome A) (b : Outcome A) → ((r : Refusal) → P (a r).run) → P b.run → P (judged o a b).run
either_run P None a b x y = y
either_run P (Some r) a b x y = x r

pub sound_small : (s : Run) → Sized s → sound s ≡ true → Small s
sound_small s z h = let st = sound_state s h in record {
  count_some = st.count_some;
  count_few = st.count_most;
  rows = z.kept;
  causes = λ p k lt less. z.causes p k (omega (arith, st.count_most)) less;
}

pub small_readable : (w : List ℕ) (s : Run) → run_of w ≡ s → Small s → Readable w
small_readable w s is small = readable w s is small.count_some small.count_few small.causes

pub lose_small : (s : Run) (m : ℕ) → Small s → Small (lose_outcome s m).run
unfolding lose_outcome lose_state
lose_small s m small = either_run Small (lose_refusal s m) _ _ (λ r. small) (small_messages s small (others s m) s.last)

pub send_small : (s : Run) (i j : ℕ) → Small s → Small (send_outcome s i j).run
unfolding send_outcome send_state marked
send_small s i j small = either_run Small (send_refusal s i j) _ _ (λ r. small)
    (small_messages (with_process s i (marked (process s i))) (small_process s small i (marked (process s i)) (small_kept s small i)) _ _)

is_true : (r : Bool) → not r ≡ false → r ≡ true
is_true true t = refl
is_true false t = absurd (false≢true (sym t))

-- Whether there are places for the processes and the messages of a state. Where there are not, it is not sound.
module _ (s : Run) (few : Bool) (fit : few ≡ (leb s.count most_processes && leb s.underway most_under_way)) where
  pub over_unsound : not few ≡ true → sound s ≡ false
  over_unsound taken = by_bool (sound s)
      (λ e.
      let st = sound_state s e in
      let room : (leb s.count most_processes && leb s.underway most_under_way) ≡ true
      = rw (le-leb s.count most_processes st.count_most, le-leb s.underway most_under_way st.underway_most) in
      absurd (false≢true (sym (ap not (fit ∙ room)) ∙ taken)))
      (λ e. e)

  pub within : not few ≡ false → (s.count ≤ most_processes) × (s.underway ≤ most_under_way)
  within left =
      let both = and_out (leb s.count most_processes) (leb s.underway most_under_way) (sym fit ∙ is_true few left) in
      (leb-true s.count most_processes both.0, leb-true s.underway most_under_way both.1)

-- A call in place on words that were filled from a state. `said` is what it says where the state is not sound.
module _ (s : Run) (w : List ℕ) (from : FilledFrom s w) where
  -- What it says of the words it says of the state.
  pub says : {A : Type 0} (o : Run → A) (said : A) → ((t : Run) → sound t ≡ false → said ≡ o t) → o (run_of w) ≡ o s
  says o said unsound = by_bool (sound s) (λ e. ap o (from.1 e)) (λ e. sym (unsound (run_of w) (from.0 ∙ e)) ∙ unsound s e)

  -- A refused call leaves the words as they were, so the state that they were filled from is the one that it leaves.
  pub stays : (o : Run → Run) → ((t : Run) → sound t ≡ false → t ≡ o t) → (v : List ℕ) → v ≡ w → run_of v ≡ o (run_of w) → s ≡ o s
  stays o unsound v same left = by_bool (sound s) (λ e. sym (from.1 e) ∙ ap run_of (sym same) ∙ left ∙ ap o (from.1 e)) (λ e. unsound s e)

  -- If it says something else, the state is sound.
  pub accepted : {A : Type 0} (o : Run → A) (said : A) → ((t : Run) → sound t ≡ false → said ≡ o t) → (a : A) → a ≡ o (run_of w) → (a ≡ said → ⊥) → sound s ≡ true
  accepted o said unsound a is other = by_bool (sound s) (λ e. e) (λ e. absurd (other (is ∙ sym (unsound (run_of w) (from.0 ∙ e)))))
