-- Every trace that is read to its end leaves a pattern with a trail: so its lists have vectors with their laws.
-- Assumes nothing.
use Rattle.std.specs.Prelude.{◌≡◌, ◌∷◌, ◌+◌}
use Rattle.laws.specs.Basics.{refl, sym, ◌∙◌, ap, Bool, true, false, not, false≢true, [], Option, None, Some, ℕ, suc, arith, length, by_eq}
use native.Mathlib.Numerals.{add-one}
use Rattle.laws.specs.{Options.none≢some, Update.upd, Update.upd_same, Update.upd_other}
use Rattle.model.specs.declared.{Event.Event, Refusal.Refusal}
use Rattle.model.specs.declared.Event.TheVariants.{Checkpoint, Send, Deliver, Lose, Recover}
use Rattle.histories.specs.History.{HistoryEvent, stored, sent, received, Lists}
use Rattle.model.specs.{Refusals.first_of}
use Rattle.whole_runs.specs.{Survival.added}
use Rattle.theory_patterns.specs.{Patterns.Pattern, Patterns.record_refusal, Patterns.taken, Paths.event_at}
use Rattle.theory_patterns.proofs.Trail.{Trail, Right, storing, storing_right, sending, sending_right, receiving, receiving_right}
use Rattle.theory_patterns.proofs.Adding.{event_old, event_new}

-- A message was sent.
abbrev pub Sent : Lists → ℕ → Type 0
Sent lists m = (p : ℕ) × (i : ℕ) × (event_at (lists p) i ≡ Some (sent m))

-- A pattern and a trail of the same lists and sends. Each message under way was sent.
pub record Followed (t : Pattern) : Type 0 where
  pub trail : Trail
  pub right : Right trail
  pub lists : t.lists ≡ trail.lists
  pub sends : t.sends ≡ trail.last
  pub under : (m : ℕ) → t.underway m ≡ true → Sent t.lists m

sent_still : (lists : Lists) (i m : ℕ) (x : HistoryEvent) → Sent lists m → Sent (added lists i x) m
sent_still lists i m x w = (w.0, w.1, event_old lists i x w.0 w.1 (sent m) w.2)

-- A message that is under way once m no longer is, was under way before.
pub still_under : (u : ℕ → Bool) (m x : ℕ) → upd u m false x ≡ true → u x ≡ true
still_under u m x e = by_eq x m
    (λ c. absurd (false≢true (sym (upd_same u m false) ∙ ap (upd u m false) (sym c) ∙ e)))
    (λ ne. sym (upd_other u m false x ne) ∙ e)

moved : {l k : Lists} (m : ℕ) → l ≡ k → Sent l m → Sent k m
moved m e w = rw e at w

module _ (t : Pattern) (f : Followed t) where
  stored_followed : (i : ℕ) → Followed (taken t (Some (Checkpoint i)))
  unfolding taken storing
  stored_followed i = record {
    trail = storing f.trail f.right i;
    right = storing_right f.trail f.right i;
    lists = ap (λ (l : Lists). added l i stored) f.lists;
    sends = f.sends;
    under = λ m e. sent_still t.lists i m stored (f.under m e);
  }

  sent_followed : (i j : ℕ) → Followed (taken t (Some (Send i j)))
  unfolding taken sending
  sent_followed i j =
      let number : t.sends + 1 ≡ suc f.trail.last = rw (add-one, f.sends) in
      record {
        trail = sending f.trail f.right i;
        right = sending_right f.trail f.right i;
        lists = rw (number, f.lists);
        sends = number;
        under = λ m e. by_eq m (t.sends + 1)
            (λ c. rw c (i, length (t.lists i), event_new t.lists i (sent (t.sends + 1))))
            (λ ne. sent_still t.lists i m (sent (t.sends + 1)) (f.under m (sym (upd_other t.underway (t.sends + 1) true m ne) ∙ e)));
      }

  lost_followed : (m : ℕ) → Followed (taken t (Some (Lose m)))
  unfolding taken
  lost_followed m = record {
    trail = f.trail;
    right = f.right;
    lists = f.lists;
    sends = f.sends;
    under = λ x e. f.under x (still_under t.underway m x e);
  }

  received_followed : (m : ℕ) → t.underway m ≡ true → Followed (taken t (Some (Deliver m)))
  unfolding taken receiving
  received_followed m u =
      let w = moved m f.lists (f.under m u) in
      let there = w.2 in
      record {
        trail = receiving f.trail f.right (t.receiver m) m w.0 w.1 there;
        right = receiving_right f.trail f.right (t.receiver m) m w.0 w.1 there;
        lists = ap (λ (l : Lists). added l (t.receiver m) (received m)) f.lists;
        sends = f.sends;
        under = λ x e. sent_still t.lists (t.receiver m) x (received m) (f.under x (still_under t.underway m x e));
      }

-- A record that is not refused keeps a trail.
pub on_way : (b : Bool) (r : Refusal) → first_of (record { holds = not b; gives = r } ∷ []) ≡ None → b ≡ true
unfolding first_of
on_way true r e = refl
on_way false r e = absurd (let z : ◌≡◌ {A = ℕ} 0 1 = cc in omega arith)

pub taken_followed : (n : ℕ) (t : Pattern) (e : Option Event) → record_refusal n t e ≡ None → Followed t → Followed (taken t e)
unfolding record_refusal
taken_followed n t None h f = absurd (none≢some (sym h))
taken_followed n t (Some (Checkpoint i)) h f = stored_followed t f i
taken_followed n t (Some (Send i j)) h f = sent_followed t f i j
taken_followed n t (Some (Deliver m)) h f = received_followed t f m (on_way (t.underway m) _ h)
taken_followed n t (Some (Lose m)) h f = lost_followed t f m
taken_followed n t (Some (Recover F)) h f = absurd (none≢some (sym h))
