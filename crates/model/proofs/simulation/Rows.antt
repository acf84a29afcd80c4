-- One process's part of the state that stands for a run: its pins name what the run keeps, its states in order, when two parts are the same,
-- and what is left of a list of checkpoints once the pins have moved.
-- Assumes nothing.
use Rattle.std.specs.Prelude.{◌≡◌, ◌&&◌, ◌||◌, ◌∷◌, ◌++◌, ◌≤◌, ◌<◌}
use Rattle.laws.specs.Basics.{refl, sym, ◌∙◌, ap, Bool, true, not, [], Option, None, Some, ℕ, suc, arith, eqb, ltb, set, eq-eqb, ne_eqb, lt-ltb, le-ltb, leb-true, pick, by_bool, by_eq}
use native.Mathlib.Numerals.{add-one}
use Rattle.laws.specs.{Lists.select, Ranges.any_same, Ranges.any_wider, Select.some_table, Tables.table_same, Tables.table_set}
use Rattle.laws.specs.Update.{upd, upd_same, upd_other}
use Rattle.model.specs.declared.{Interval.Interval, CheckpointIndex.CheckpointIndex, Checkpoint.Checkpoint}
use Rattle.model.specs.{Words.most_processes, Words.names, Words.is_pinned, Words.Process, Words.live, Steps.advanced}
use Rattle.histories.proofs.Run.{Ideal, keeps}
use Rattle.model.proofs.simulation.View.{passing, vector_of, pin_of_def, pins_of, checkpoint_of, kept_of, process_of}
use Rattle.model.proofs.simulation.Passing.{passing_same, passing_yes, select_passing}
use Rattle.model.proofs.simulation.Reads.{entry_is, vector_same, live_is}
use Rattle.histories.proofs.Run as ideal

-- Two parts with the same fields are the same.
pub process_eq : (P Q : Process) → P.vector ≡ Q.vector → P.pins ≡ Q.pins → P.mark ≡ Q.mark → P.kept ≡ Q.kept → P ≡ Q
process_eq P Q a b c d = λ i. record { vector = a i; pins = b i; mark = c i; kept = d i }

-- A pin of the state names what the pin of the run names.
names_is : (o : Option ℕ) (a : CheckpointIndex) → names (pin_of_def o) a ≡ ideal.names o a.0
unfolding pin_of_def
names_is None a = refl
names_is (Some k) a = refl

-- A pin of the state names a checkpoint: the run keeps it.
pub pinned_is : (r : Ideal) (p : ℕ) (c : Checkpoint) → r.n ≤ most_processes → is_pinned (pins_of r p) c ≡ keeps r p c.index.0
unfolding is_pinned pins_of keeps
pinned_is r p c few =
    some_table (λ pin. names pin c.index) most_processes (λ f. pick (ltb f r.n) (pin_of_def (r.pin p f)) None)
    ∙ any_wider r.n most_processes _ few (λ f le lt. rw (le-ltb f r.n le))
    ∙ any_same r.n _ _ (λ f lt. rw (lt-ltb f r.n lt) (names_is (r.pin p f) c.index))

-- Pins that agree below n keep the same.
pub keeps_same : (r r' : Ideal) (p k : ℕ) → r'.n ≡ r.n → ((f : ℕ) → f < r.n → r'.pin p f ≡ r.pin p f) → keeps r' p k ≡ keeps r p k
unfolding keeps
keeps_same r r' p k en ep = rw en (any_same r.n _ _ (λ f lt. rw (ep f lt)))

pub pins_same : (r r' : Ideal) (p : ℕ) → r'.n ≡ r.n → ((f : ℕ) → f < r.n → r'.pin p f ≡ r.pin p f) → pins_of r' p ≡ pins_of r p
unfolding pins_of
pins_same r r' p en ep = rw en (table_same most_processes _ _ (λ f lt. by_bool (ltb f r.n)
    (λ e. rw (e, ep f (leb-true (suc f) r.n e)))
    (λ e. rw e)))

-- A stored checkpoint whose vector agrees below n, and whose cause and block count agree.
pub checkpoint_same : (r r' : Ideal) (p k : ℕ) → r'.n ≡ r.n → ((f : ℕ) → f < r.n → r'.vector p k f ≡ r.vector p k f)
    → k < r.own p → k < r'.own p → r'.ledger.cause p k ≡ r.ledger.cause p k → r'.ledger.block_counts p ≡ r.ledger.block_counts p → checkpoint_of r' p k ≡ checkpoint_of r p k
unfolding checkpoint_of
checkpoint_same r r' p k en ev lt lt' ec eb = rw (en, vector_same r.n (r'.vector p k) (r.vector p k) ev, lt-ltb k (r.own p) lt, lt-ltb k (r'.own p) lt', ec, eb)

-- Runs that agree about a process have the same part for it.
pub process_same : (r r' : Ideal) (p : ℕ) → r'.n ≡ r.n → r'.own p ≡ r.own p
    → ((k f : ℕ) → k ≤ r.own p → f < r.n → r'.vector p k f ≡ r.vector p k f)
    → r'.mark p ≡ r.mark p → ((f : ℕ) → f < r.n → r'.pin p f ≡ r.pin p f)
    → r'.ledger.cause p ≡ r.ledger.cause p → r'.ledger.block_counts p ≡ r.ledger.block_counts p → process_of r' p ≡ process_of r p
unfolding process_of kept_of
process_same r r' p en eo ev em ep ec eb = process_eq (process_of r' p) (process_of r p)
    (rw (en, eo) (vector_same r.n _ _ (λ f lt. ev (r.own p) f (omega arith) lt)))
    (pins_same r r' p en ep)
    em
    (rw eo (passing_same (r.own p) _ _ _ _
    (λ k lt. keeps_same r r' p k en ep)
    (λ k lt q. checkpoint_same r r' p k en (λ f hf. ev k f (omega arith) hf) lt (omega (arith, eo)) (ap (λ (c : ℕ → ℕ). c k) ec) eb)))

-- One entry of a vector, and one pin, changed.
pub vector_set : (n : ℕ) (v : ℕ → ℕ) (i x : ℕ) → i < n → set (vector_of n v) i (record { 0 = x }) ≡ vector_of n (upd v i x)
unfolding vector_of
vector_set n v i x hi = table_set most_processes _ i (record { 0 = x }) ∙ table_same most_processes _ _ (λ f lt. by_eq f i
    (λ e. rw (e, upd_same {A = Interval} (λ f. record { 0 = pick (ltb f n) (v f) 0 }) i (record { 0 = x }), upd_same v i x, lt-ltb i n hi))
    (λ ne. rw (upd_other {A = Interval} (λ f. record { 0 = pick (ltb f n) (v f) 0 }) i (record { 0 = x }) f ne, upd_other v i x f ne)))

pub advanced_is : (n : ℕ) (v : ℕ → ℕ) (i : ℕ) → n ≤ most_processes → i < n → advanced i (vector_of n v) ≡ vector_of n (upd v i (suc (v i)))
unfolding advanced
advanced_is n v i few hi = rw (entry_is n v i few hi, add-one (v i)) (vector_set n v i (suc (v i)) hi)

-- A state of process p that the rule of the line considers: the live one or a kept one.
abbrev pub standing : Ideal → ℕ → ℕ → Bool
standing r p k = eqb k (r.own p) || keeps r p k

-- The kept checkpoints of a process and its live state, in order.
pub states_are : (r : Ideal) (p : ℕ) → r.n ≤ most_processes → p < r.n → r.vector p (r.own p) p ≡ r.own p
    → kept_of r p ++ (live p (process_of r p) ∷ []) ≡ passing (suc (r.own p)) (standing r p) (checkpoint_of r p)
unfolding kept_of
states_are r p few lt self =
    rw (
      live_is r p few lt self,
      passing_same (r.own p) (keeps r p) (standing r p) (checkpoint_of r p) (checkpoint_of r p)
          (λ k h. rw (ne_eqb k (r.own p) (omega arith)))
          (λ k h q. refl),
    )
    (sym (passing_yes (r.own p) (standing r p) (checkpoint_of r p) (rw (eq-eqb (r.own p) (r.own p) refl))))

-- Once the pins have moved: of the checkpoints that pass a test, those stay that the run keeps, and the others go.
pub settled_kept : (r : Ideal) (p k : ℕ) (t : ℕ → Bool) → r.n ≤ most_processes → ((j : ℕ) → j < k → keeps r p j ≡ true → t j ≡ true)
    → select (is_pinned (pins_of r p)) (passing k t (checkpoint_of r p)) ≡ passing k (keeps r p) (checkpoint_of r p)
unfolding checkpoint_of
settled_kept r p k t few h = select_passing (is_pinned (pins_of r p)) k t (checkpoint_of r p) ∙ passing_same k _ _ _ _
    (λ j lt. rw (pinned_is r p (checkpoint_of r p j) few) (by_bool (keeps r p j)
    (λ e. rw (e, h j lt e))
    (λ e. rw e (by_bool (t j) (λ d. rw d) (λ d. rw d)))))
    (λ j lt q. refl)

pub settled_gone : (r : Ideal) (p k : ℕ) (t : ℕ → Bool) → r.n ≤ most_processes
    → select (λ c. not (is_pinned (pins_of r p) c)) (passing k t (checkpoint_of r p)) ≡ passing k (λ j. t j && not (keeps r p j)) (checkpoint_of r p)
unfolding checkpoint_of
settled_gone r p k t few = select_passing (λ c. not (is_pinned (pins_of r p) c)) k t (checkpoint_of r p) ∙ passing_same k _ _ _ _
    (λ j lt. rw (pinned_is r p (checkpoint_of r p j) few))
    (λ j lt q. refl)
