-- Lists of checkpoints whose causes have 8 bits: what a process of a sound state keeps, and what is left of it or added to it.
-- Assumes nothing.
use Rattle.std.specs.Prelude.{◌≡◌, ◌∷◌, ◌++◌, ◌<◌}
use Rattle.laws.specs.Basics.{Bool, true, List, [], ℕ, zero, suc, arith, length, get_or, by_bool}
use Rattle.laws.specs.Lists.{select}
use Rattle.model.specs.declared.{Checkpoint.Checkpoint, Run.Run}
use Rattle.model.specs.{Words.no_checkpoint, Words.Process, Words.process, Steps.with_processes, Sound.sound, laws.Sound.sound_state}
use Rattle.library_calls.proofs.run_words.Causes.{Small, length_take_most, small_process, small_kept}

abbrev pub Few : List Checkpoint → Type 0
Few l = (k : ℕ) → k < length l → (get_or l k no_checkpoint).cause < 256

few_more : (c : Checkpoint) (l : List Checkpoint) → c.cause < 256 → Few l → Few (c ∷ l)
few_more c l h few zero b = h
few_more c l h few (suc k) b = few k (omega arith)

pub few_chosen : (t : Checkpoint → Bool) (l : List Checkpoint) → Few l → Few (select t l)
unfolding select
few_chosen t [] few = few
few_chosen t (c ∷ l) few = by_bool (t c)
    (λ e. rw e (few_more c (select t l) (few 0 (omega arith)) (few_chosen t l (λ k b. few (suc k) (omega arith)))))
    (λ e. rw e (few_chosen t l (λ k b. few (suc k) (omega arith))))

pub few_after : (l : List Checkpoint) (c : Checkpoint) → Few l → c.cause < 256 → Few (l ++ (c ∷ []))
few_after [] c few h = few_more c [] h few
few_after (x ∷ l) c few h = few_more x (l ++ (c ∷ [])) (few 0 (omega arith)) (few_after l c (λ k b. few (suc k) (omega arith)) h)

pub kept_few : (s : Run) → sound s ≡ true → Small s → (p : ℕ) → p < s.count → Few (process s p).kept
unfolding process
kept_few s whole small p lt k under =
    let st = sound_state s whole in
    small_kept s small p lt k under (omega (arith, under, length_take_most (get_or s.kept_count p 0) (get_or s.kept.0 p []), (st.processes p lt).kept_count_most, st.count_most))

-- Each process below n takes a part that keeps such checkpoints alone.
pub small_processes : (n : ℕ) (f : ℕ → Process) (s : Run) → Small s → ((p : ℕ) → p < n → Few (f p).kept) → Small (with_processes n f s)
unfolding with_processes
small_processes zero f s small few = small
small_processes (suc n) f s small few =
    small_process (with_processes n f s) (small_processes n f s small (λ p b. few p (omega arith))) n (f n) (λ lt k under less. few n (omega arith) k under)
