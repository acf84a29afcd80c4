-- Two states that are alike to an owner: as many processes, and the same part for each of its own. What states that console calls reach have in common, and what a
-- part that is put in leaves alike.
-- Assumes nothing.
use Rattle.std.specs.Prelude.{◌≡◌, ◌&&◌, ◌∷◌, ◌++◌, ◌≤◌, ◌<◌}
use Rattle.laws.specs.Basics.{refl, sym, ◌∙◌, ap, subst, true, false, List, [], Some, ℕ, suc, arith, eqb, ltb, eq-eqb, ne_eqb, ltb-true, by_eq}
use Rattle.std.specs.Option.{option_map}
use Rattle.laws.specs.{Lists.select, Lists.last_of, Search.latest, Search.latest_is, Search.latest_out}
use Rattle.laws.specs.Truth.{and_left, and_both, and_no_right, never_both}
use Rattle.model.specs.declared.Run.{Run}
use Rattle.model.specs.Words.{most_processes, Process, blank, in_set, process, with_process, with_messages, with_disk, failed}
use Rattle.model.specs.{Steps.states, Steps.member, Sound.sound, Refusals.no_member_of}
use Rattle.histories.proofs.{Run.Ideal, Run.safe, Run.line, Run.member as ideal-member, Invariant.Inv, Line.line_found}
use Rattle.model.proofs.simulation.View.{checkpoint_of, state_of, parts_of, process_of, Limits}
use Rattle.model.proofs.{simulation.Lines.states_is, simulation.Lines.member_is, simulation.Passing.select_passing, simulation.Passing.last_passing}
use Rattle.model.proofs.{simulation.Rows.standing, simulation.Parts.Room, simulation.Parts.room_all, simulation.Parts.room_blank, simulation.Parts.count_put}
use Rattle.model.proofs.simulation.Parts.{process_put, process_other}
use Rattle.model.proofs.{simulation.Reads.count_is_lem, simulation.Sound.state_sound}
use Rattle.whole_runs.specs.WholeRuns.{Reachable}
use Rattle.whole_runs.proofs.{WholeRuns.reachable_reached, whole.Refused.members_found}
use Rattle.theory_roles.specs.{Console.owns, Runs.ConsoleCall, Runs.console_call, Runs.state_after_console, Runs.ConsoleReached, Runs.ConsoleIsReachable}
use Rattle.theory_roles.proofs.Runs.{console_reachable}

pub record Alike (owned : ℕ) (s t : Run) : Type 0 where
  pub count : s.count ≡ t.count
  pub parts : (p : ℕ) → owns owned s.count p ≡ true → process s p ≡ process t p

pub owned_below : (owned n p : ℕ) → owns owned n p ≡ true → p < n
unfolding owns
owned_below owned n p e = ltb-true p n (and_left (ltb p n) (in_set owned p) e)

-- What is its own in one of two alike states is its own in the other.
pub owned_too : (owned : ℕ) (s t : Run) → s.count ≡ t.count → (p : ℕ) → owns owned s.count p ≡ owns owned t.count p
owned_too owned s t e p = ap (λ (n : ℕ). owns owned n p) e

pub alike_then : (owned : ℕ) (s t u : Run) → Alike owned s t → Alike owned t u → Alike owned s u
alike_then owned s t u a b = record {
  count = a.count ∙ b.count;
  parts = λ p e. a.parts p e ∙ b.parts p (sym (owned_too owned s t a.count p) ∙ e);
}

pub alike_back : (owned : ℕ) (s t : Run) → Alike owned s t → Alike owned t s
alike_back owned s t a = record { count = sym a.count; parts = λ p e. sym (a.parts p (owned_too owned s t a.count p ∙ e)) }

-- What is known of a state that stands for a run.
pub record Fit (s : Run) : Type 0 where
  pub whole : sound s ≡ true
  pub members : (F : ℕ) → no_member_of s F ≡ false
  pub room : (p : ℕ) → p < s.count → Room s p
  -- a member of a line is one of its process's states, and its index says which
  pub stands : (F p : ℕ) → p < s.count → last_of (select (λ c. eqb c.index.0 (member s F p).index.0) (states p (process s p))) ≡ Some (member s F p)

state_room : (r : Ideal) (p : ℕ) → p < most_processes → Room (state_of r) p
unfolding state_of parts_of with_disk with_messages
state_room r p lt = let w = room_all r.n (process_of r) (blank r.n) p (room_blank r.n p lt) in
    record { vectors = w.vectors; pins = w.pins; sent = w.sent; kept = w.kept; kept_count = w.kept_count }

state_stands : (r : Ideal) → Inv r → r.n ≤ most_processes → (F p : ℕ) → p < r.n
    → last_of (select (λ c. eqb c.index.0 (member (state_of r) F p).index.0) (states p (process (state_of r) p))) ≡ Some (member (state_of r) F p)
unfolding checkpoint_of
state_stands r v few F p lt =
    let k = line r (failed F) p in
    let w = latest_out (suc (r.own p)) (λ j. standing r p j && safe r (failed F) p j) k (line_member r v F p) in
    rw (member_is r v few F p lt, states_is r v few F p lt)
    (ap last_of (select_passing (λ c. eqb c.index.0 k) (suc (r.own p)) (standing r p) (checkpoint_of r p))
    ∙ last_passing (suc (r.own p)) (λ j. standing r p j && eqb j k) (checkpoint_of r p)
    ∙ ap (option_map (checkpoint_of r p)) (latest_is (suc (r.own p)) (λ j. standing r p j && eqb j k) k w.0
    (and_both (standing r p k) (eqb k k) (and_left (standing r p k) (safe r (failed F) p k) w.1) (eq-eqb k k refl))
    (λ j above under. and_no_right (standing r p j) (eqb j k) (ne_eqb j k (omega arith)))))
  where
    line_member : (r : Ideal) → Inv r → (F p : ℕ) → latest (suc (r.own p)) (λ j. standing r p j && safe r (failed F) p j) ≡ Some (line r (failed F) p)
    line_member r v F p = unfold ideal-member in line_found r v (failed F) p

state_fit : (r : Ideal) → Inv r → Limits r → Fit (state_of r)
state_fit r v fit = record {
  whole = state_sound r v fit;
  members = members_found r v fit;
  room = λ p lt. state_room r p (omega (arith, count_is_lem r, fit.few_processes, lt));
  stands = λ F p lt. state_stands r v fit.few_processes F p (omega (arith, count_is_lem r, lt));
}

pub reached_fit : (s : Run) → ConsoleReached s → Fit s
unfolding ConsoleIsReachable Reachable
reached_fit s v =
    let w = console_reachable s v in
    let x = reachable_reached w.0 w.1 w.2 w.3 in
    subst Fit (sym (w.4 ∙ x.state)) (state_fit _ x.inv x.limits)

-- A state that a console call reaches from such a state.
after_one : (s : Run) (calls : List ConsoleCall) (k : ConsoleCall) → state_after_console s (calls ++ (k ∷ [])) ≡ (console_call (state_after_console s calls) k).run
unfolding state_after_console
after_one s [] k = refl
after_one s (b ∷ calls) k = after_one (console_call s b).run calls k

pub reached_on : (s : Run) → ConsoleReached s → (k : ConsoleCall) → ConsoleReached (console_call s k).run
unfolding ConsoleReached
reached_on s v k = (v.0, v.1, v.2, v.3, v.4 ++ (k ∷ []), ap (λ (t : Run). (console_call t k).run) v.5 ∙ sym (after_one _ v.4 k))

-- The same part put in for one process of two alike states; and a part put in for a process that is not the owner's.
pub alike_put : (owned : ℕ) (s t : Run) → Fit s → Fit t → Alike owned s t → (i : ℕ) (P Q : Process) → P ≡ Q → Alike owned (with_process s i P) (with_process t i Q)
alike_put owned s t fs ft a i P Q e = record {
  count = count_put s i P ∙ a.count ∙ sym (count_put t i Q);
  parts = λ p o. let mine : owns owned s.count p ≡ true = sym (owned_too owned (with_process s i P) s (count_put s i P) p) ∙ o in
      let lt = owned_below owned s.count p mine in
      by_eq p i
      (λ same. subst (λ (q : ℕ). process (with_process s i P) q ≡ process (with_process t i Q) q) (sym same)
      (process_put s i P (fs.room i (subst (λ (q : ℕ). q < s.count) same lt)) ∙ e ∙ sym (process_put t i Q (ft.room i (subst (λ (n : ℕ). i < n) a.count (subst (λ (q : ℕ). q < s.count) same lt))))))
      (λ ne. process_other s p i P ne ∙ a.parts p mine ∙ sym (process_other t p i Q ne));
}

pub alike_other : (owned : ℕ) (s : Run) (i : ℕ) (P : Process) → owns owned s.count i ≡ false → Alike owned s (with_process s i P)
alike_other owned s i P foreign = record {
  count = sym (count_put s i P);
  parts = λ p o. sym (process_other s p i P (λ same. never_both (owns owned s.count i) (subst (λ (q : ℕ). owns owned s.count q ≡ true) same o) foreign));
}
