-- The start: the state that an accepted start returns stands for the run that has just begun.
-- Assumes nothing.
use Rattle.std.specs.Prelude.{◌≡◌, ◌∷◌, ◌-◌, ◌*◌, ◌<◌}
use Rattle.laws.specs.Basics.{refl, sym, ◌∙◌, ap, true, false, List, [], None, Some, ℕ, arith, eqb, ltb, get_or, set, eq-eqb, ne_eqb, lt-ltb, pick, by_eq}
use Rattle.laws.specs.{Choice.pick_same, Lists.placed, Search.any_in, Sums.sum_below, Sums.sum_same, Tables.table_same, Tables.table_set, Tables.table_replicate}
use Rattle.laws.specs.{Tests.count_below, Update.upd_same, Update.upd_other}
use Rattle.model.specs.Shapes.{Pin}
use Rattle.model.specs.declared.{Interval.Interval, Run.Run}
use Rattle.model.specs.Words.{most_processes, zero_vector, no_pins_of, blank, with_messages, with_disk}
use Rattle.model.specs.Steps.{with_processes, checkpoint_zero, started, opening, start_state}
use Rattle.histories.proofs.{Run.begin, Run.open_ledger, Run.begun, Run.keeps, Run.names, Counted.kept_in}
use Rattle.model.proofs.simulation.View.{passing, vector_of, pin_of_def, pins_of, checkpoint_of, kept_of, process_of, messages_of, disk_of, parts_of, state_of}
use Rattle.model.proofs.{simulation.Parts.all_agree, simulation.Parts.all_messages, simulation.Reads.vector_same}
use Rattle.model.proofs.simulation.Rows.{process_eq, vector_set}

-- The vector of zeros.
zeros : (n : ℕ) → zero_vector ≡ vector_of n (λ f. 0)
unfolding vector_of
zeros n = table_replicate {A = Interval} most_processes (record { 0 = 0 }) ∙ table_same most_processes _ _ (λ f lt. rw (pick_same {A = ℕ} (ltb f n) 0))

-- What a started process has, field by field.
module _ (n : ℕ) (block_counts : List ℕ) (p : ℕ) (lt : p < n) where
  start_vector : set zero_vector p (record { 0 = 1 }) ≡ vector_of n ((begun n block_counts).vector p ((begun n block_counts).own p))
  unfolding begin
  start_vector =
      ap (λ (l : List Interval). set l p (record { 0 = 1 })) (zeros n)
      ∙ vector_set n (λ f. 0) p 1 lt
      ∙ vector_same n _ _ (λ f hf. by_eq f p
      (λ e. rw (e, upd_same {A = ℕ} (λ f. 0) p 1, eq-eqb p p refl))
      (λ ne. rw (upd_other {A = ℕ} (λ f. 0) p 1 f ne, ne_eqb p f (omega arith))))

  start_pins : set no_pins_of p (Some (record { 0 = 0 })) ≡ pins_of (begun n block_counts) p
  unfolding begin pins_of pin_of_def
  start_pins =
      ap (λ (l : List Pin). set l p (Some (record { 0 = 0 }))) (table_replicate {A = Pin} most_processes None)
      ∙ table_set most_processes _ p (Some (record { 0 = 0 }))
      ∙ table_same most_processes _ _ (λ f hf. by_eq f p
      (λ e. rw (e, upd_same {A = Pin} (λ f. None) p (Some (record { 0 = 0 })), eq-eqb p p refl, lt-ltb p n lt))
      (λ ne. rw (upd_other {A = Pin} (λ f. None) p (Some (record { 0 = 0 })) f ne, ne_eqb p f (omega arith)) (sym (pick_same (ltb f n) None))))

  start_keeps : keeps (begun n block_counts) p 0 ≡ true
  unfolding begin keeps
  start_keeps = any_in n (λ f. names (pick (eqb p f) (Some 0) None) 0) p lt (rw (eq-eqb p p refl))

  start_kept : checkpoint_zero (get_or block_counts p 0) ∷ [] ≡ kept_of (begun n block_counts) p
  unfolding checkpoint_zero begin open_ledger kept_of checkpoint_of passing
  start_kept = rw start_keeps (ap (λ (v : List Interval). record { index = record { 0 = 0 }; vector = v; cause = 0; blocks = get_or block_counts p 0 } ∷ []) (zeros n))

  start_mark : false ≡ (begun n block_counts).mark p
  unfolding begin
  start_mark = refl

  -- Each process's part.
  start_process : started block_counts p ≡ process_of (begun n block_counts) p
  unfolding started process_of begin
  start_process = process_eq (started block_counts p) (process_of (begun n block_counts) p) start_vector start_pins start_mark start_kept

-- A blank state with no messages put in.
blank_messages : (n : ℕ) → with_messages (blank n) [] 0 ≡ blank n
unfolding with_messages blank placed
blank_messages n = refl

start_parts : (n : ℕ) (block_counts : List ℕ) → with_processes n (started block_counts) (blank n) ≡ parts_of (begun n block_counts)
unfolding parts_of begin messages_of passing
start_parts n block_counts =
    ap (λ (s : Run). with_processes n (started block_counts) s) (sym (blank_messages n))
    ∙ all_messages n (started block_counts) (blank n) [] 0
    ∙ ap (λ (s : Run). with_messages s [] 0) (all_agree n (started block_counts) (process_of (begun n block_counts)) (blank n) (λ p lt. start_process n block_counts p lt))

-- Each process keeps one checkpoint of its count: nothing is deleted.
one_kept : (n : ℕ) (block_counts : List ℕ) (p : ℕ) → p < n → count_below ((begun n block_counts).own p) (keeps (begun n block_counts) p) * (begun n block_counts).ledger.block_counts p ≡ get_or block_counts p 0
unfolding begin open_ledger count_below
one_kept n block_counts p lt = rw (start_keeps n block_counts p lt) (once (get_or block_counts p 0))
  where
    once : (x : ℕ) → 1 * x ≡ x
    once x = omega arith

pub start_kept_in : (n : ℕ) (block_counts : List ℕ) → kept_in (begun n block_counts) ≡ sum_below n (λ p. get_or block_counts p 0)
unfolding kept_in begin
start_kept_in n block_counts = sum_same n _ _ (λ p lt. one_kept n block_counts p lt)

start_disk : (n : ℕ) (block_counts : List ℕ) → opening n block_counts ≡ disk_of (begun n block_counts)
unfolding opening disk_of open_ledger
start_disk n block_counts =
    let none_deleted : 0 ≡ sum_below n (λ p. get_or block_counts p 0) - kept_in (begun n block_counts) = omega (arith, start_kept_in n block_counts) in
    λ j. record { written = sum_below n (λ p. get_or block_counts p 0); deleted = none_deleted j }

pub start_is : (n : ℕ) (block_counts : List ℕ) → start_state n block_counts ≡ state_of (begun n block_counts)
unfolding start_state state_of
start_is n block_counts = λ j. with_disk (start_parts n block_counts j) (start_disk n block_counts j)
