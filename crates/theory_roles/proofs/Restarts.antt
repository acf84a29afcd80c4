-- A recovery or sweep, alike to an owner: what it leaves of a process follows from the process's part, its member's index, and which of its pins then name a checkpoint.
-- Assumes nothing.
use Rattle.std.specs.Prelude.{◌≡◌, ◌&&◌, ◌<◌, None}
use Rattle.laws.specs.Basics.{refl, sym, ◌∙◌, ap, Bool, true, false, not, List, [], Option, Some, ℕ, eqb, ltb, leb, get_or, eqb-true, pick, by_bool}
use Rattle.laws.specs.{Lists.select, Lists.last_of, Lists.table, Tables.get_d_table, Tables.table_same, Truth.never_both}
use Rattle.model.specs.Shapes.{Pin}
use Rattle.model.specs.declared.{Checkpoint.Checkpoint, Interval.Interval, Run.Run}
use Rattle.model.specs.Words.{most_processes, entry, below, live_index_of, is_pinned, Process, process, own, with_messages, with_disk}
use Rattle.model.specs.Steps.{advanced, states, member, rolled_back, vector_after, not_lost, own_after, latest_pin, moved_pin, pin_after, pins_after, recovered, recover_state}
use Rattle.model.specs.Sound.{is_nothing_of}
use Rattle.model.proofs.simulation.Parts.{process_all, process_messages, process_disk, count_all}
use Rattle.model.proofs.{simulation.Rows.process_eq, simulation.SoundUnused.nothing_is}
use Rattle.theory_roles.specs.{Console.owns, Learned.Restart, Learned.restart, Learned.restarts}
use Rattle.theory_roles.proofs.Alike.{Alike, Fit, owned_below, owned_too}

not_not : (a b : Bool) → not a ≡ not b → a ≡ b
not_not true true e = refl
not_not true false e = never_both true refl (sym e)
not_not false true e = never_both true refl e
not_not false false e = refl

-- What is the same in both, of process p.
module _ (s t : Run) (F G p : ℕ) (part : process s p ≡ process t p) (same : member s F p ≡ member t G p) where
  rolled_same : rolled_back s F p ≡ rolled_back t G p
  unfolding rolled_back own
  rolled_same = λ i. ltb (same i).index.0 (live_index_of (entry (part i).vector p)).0

  vector_same : vector_after s F p ≡ vector_after t G p
  unfolding vector_after
  vector_same = λ i. pick (rolled_same i) (advanced p (same i).vector) (part i).vector

  not_lost_same : not_lost s F p ≡ not_lost t G p
  unfolding not_lost
  not_lost_same = λ i. select (λ c. leb c.index.0 (same i).index.0) (part i).kept

  -- Where an entry is current, the pin that a rolled-back process moves goes by the process's own vector.
  abbrev moved_own : List Interval → List Checkpoint → ℕ → Pin
  moved_own v l f = latest_pin (last_of (select (λ c. below (entry c.vector f) (entry v f)) l))

  moved_own_lem : (u : Run) (H f : ℕ) → eqb (entry (vector_after u H p) f).0 (own_after u H f).0 ≡ true → moved_pin u H p f ≡ moved_own (vector_after u H p) (not_lost u H p) f
  unfolding moved_pin
  moved_own_lem u H f e = ap (λ (o : ℕ). latest_pin (last_of (select (λ c. ltb (entry c.vector f).0 o) (not_lost u H p)))) (sym (eqb-true _ _ e))

  -- A pin that names a checkpoint is the one that the process has, or moves; its entry is current.
  abbrev pin_left : List Interval → List Checkpoint → Process → Bool → ℕ → Pin
  pin_left v l P back f = pick back (moved_own v l f) (get_or P.pins f None)

  pin_is_left : (u : Run) (H f : ℕ) → is_nothing_of (pin_after u H p f) ≡ false → pin_after u H p f ≡ pin_left (vector_after u H p) (not_lost u H p) (process u p) (rolled_back u H p) f
  unfolding pin_after is_nothing_of
  pin_is_left u H f = by_bool (eqb (entry (vector_after u H p) f).0 (own_after u H f).0)
      (λ d. rw d (λ e. by_bool (rolled_back u H p) (λ back. rw back (moved_own_lem u H f d)) (λ back. rw back)))
      (λ d. rw d (λ e. never_both true refl e))

  pin_same : (f : ℕ) → not (is_nothing_of (pin_after s F p f)) ≡ not (is_nothing_of (pin_after t G p f)) → pin_after s F p f ≡ pin_after t G p f
  pin_same f e = by_bool (is_nothing_of (pin_after t G p f))
      (λ d. nothing_is (pin_after s F p f) (not_not (is_nothing_of (pin_after s F p f)) (is_nothing_of (pin_after t G p f)) e ∙ d) ∙ sym (nothing_is (pin_after t G p f) d))
      (λ d. pin_is_left s F f (not_not (is_nothing_of (pin_after s F p f)) (is_nothing_of (pin_after t G p f)) e ∙ d)
      ∙ (λ j. pin_left (vector_same j) (not_lost_same j) (part j) (rolled_same j) f)
      ∙ sym (pin_is_left t G f d))

  recovered_same : ((f : ℕ) → f < most_processes → not (is_nothing_of (pin_after s F p f)) ≡ not (is_nothing_of (pin_after t G p f))) → recovered s F p ≡ recovered t G p
  unfolding recovered pins_after
  recovered_same pinned =
      let pins : table most_processes (pin_after s F p) ≡ table most_processes (pin_after t G p) = table_same most_processes (pin_after s F p) (pin_after t G p) (λ f lt. pin_same f (pinned f lt)) in
      process_eq (recovered s F p) (recovered t G p)
      vector_same
      pins
      (λ i. (part i).mark && not (rolled_same i))
      (λ i. select (is_pinned (pins i)) (not_lost_same i))

count_after : (u : Run) (H : ℕ) → (recover_state u H).count ≡ u.count
unfolding recover_state with_disk with_messages
count_after u H = count_all u.count (recovered u H) u

one : (x y : Checkpoint) → ◌≡◌ {A = Option Checkpoint} (Some x) (Some y) → x ≡ y
one x y e = cc

module _ (owned : ℕ) (s t : Run) (fs : Fit s) (ft : Fit t) (a : Alike owned s t) (F G : ℕ) (e : restarts owned s F ≡ restarts owned t G) where
  -- What is shown of one of its processes.
  shown_of : (u : Run) (H p : ℕ) → owns owned u.count p ≡ true → get_or (restarts owned u H) p (record { index = 0; pinned = [] }) ≡ restart u H p
  unfolding restarts
  shown_of u H p o = get_d_table u.count _ p _ (owned_below owned u.count p o) ∙ rw o

  module _ (p : ℕ) (o : owns owned s.count p ≡ true) where
    too : owns owned t.count p ≡ true
    too = sym (owned_too owned s t a.count p) ∙ o

    restart_same : restart s F p ≡ restart t G p
    restart_same = sym (shown_of s F p o) ∙ ap (λ (l : List Restart). get_or l p (record { index = 0; pinned = [] })) e ∙ shown_of t G p too

    index_same : (member s F p).index.0 ≡ (member t G p).index.0
    unfolding restart
    index_same = ap (λ (x : Restart). x.index) restart_same

    pinned_same : (f : ℕ) → f < most_processes → not (is_nothing_of (pin_after s F p f)) ≡ not (is_nothing_of (pin_after t G p f))
    unfolding restart
    pinned_same f lt =
        sym (get_d_table most_processes (λ f. not (is_nothing_of (pin_after s F p f))) f false lt)
        ∙ ap (λ (x : Restart). get_or x.pinned f false) restart_same
        ∙ get_d_table most_processes (λ f. not (is_nothing_of (pin_after t G p f))) f false lt

    member_same : member s F p ≡ member t G p
    member_same = one (member s F p) (member t G p) (
        sym (fs.stands F p (owned_below owned s.count p o))
        ∙ (λ i. last_of (select (λ c. eqb c.index.0 (index_same i)) (states p (a.parts p o i))))
        ∙ ft.stands G p (owned_below owned t.count p too))

    part_after : recovered s F p ≡ recovered t G p
    part_after = recovered_same s t F G p (a.parts p o) member_same pinned_same

  -- The part of a process after the recovery.
  read_after : (u : Run) → Fit u → (H p : ℕ) → owns owned u.count p ≡ true → process (recover_state u H) p ≡ recovered u H p
  unfolding recover_state
  read_after u fit H p o =
      let lt = owned_below owned u.count p o in
      process_disk _ _ p ∙ process_messages _ _ _ p ∙ process_all u.count (recovered u H) u p lt (fit.room p lt)

  pub recover_alike : Alike owned (recover_state s F) (recover_state t G)
  recover_alike = record {
    count = count_after s F ∙ a.count ∙ sym (count_after t G);
    parts = λ p o. let mine : owns owned s.count p ≡ true = sym (owned_too owned (recover_state s F) s (count_after s F) p) ∙ o in
        read_after s fs F p mine ∙ part_after p mine ∙ sym (read_after t ft G p (too p mine));
  }
