-- What the step of an accepted call leaves alike to an owner: done alike to one of its processes it keeps two states alike, and done to another's it leaves its own.
-- Assumes nothing.
use Rattle.std.specs.Prelude.{◌≡◌}
use Rattle.laws.specs.Basics.{refl, ap, subst, true, false, List, ℕ}
use Rattle.model.specs.declared.{Disk.Disk, Message.Message, Run.Run}
use Rattle.model.specs.Words.{basic, Process, process, with_process, with_messages, with_disk}
use Rattle.model.specs.Steps.{settled, checkpointed, checkpoint_state, marked, send_state, delivered, deliver_state, lose_state}
use Rattle.theory_roles.specs.Console.{owns}
use Rattle.theory_roles.proofs.Alike.{Alike, Fit, alike_then, alike_back, alike_put, alike_other}

-- Messages and blocks are no part of a process.
with_messages_lem : (owned : ℕ) (s : Run) (l : List Message) (k : ℕ) → Alike owned s (with_messages s l k)
unfolding process with_messages
with_messages_lem owned s l k = record { count = refl; parts = λ p o. refl }

with_disk_lem : (owned : ℕ) (s : Run) (d : Disk) → Alike owned s (with_disk s d)
unfolding process with_disk
with_disk_lem owned s d = record { count = refl; parts = λ p o. refl }

-- Two states that are alike, each with something more that does not matter.
between : (owned : ℕ) (s t s' t' : Run) → Alike owned s s' → Alike owned t t' → Alike owned s t → Alike owned s' t'
between owned s t s' t' a b c = alike_then owned s' s t' (alike_back owned s s' a) (alike_then owned s t t' c b)

module _ (owned : ℕ) (s t : Run) (fs : Fit s) (ft : Fit t) (a : Alike owned s t) where
  pub checkpoint_alike : (i : ℕ) → owns owned s.count i ≡ true → Alike owned (checkpoint_state s i) (checkpoint_state t i)
  unfolding checkpoint_state
  checkpoint_alike i o = between owned _ _ _ _ (with_disk_lem owned _ _) (with_disk_lem owned _ _)
      (alike_put owned s t fs ft a i _ _ (ap (λ (P : Process). settled (checkpointed basic i P)) (a.parts i o)))

  pub send_alike : (i j k : ℕ) → owns owned s.count i ≡ true → Alike owned (send_state s i j) (send_state t i k)
  unfolding send_state
  send_alike i j k o = between owned _ _ _ _ (with_messages_lem owned _ _ _) (with_messages_lem owned _ _ _) (alike_put owned s t fs ft a i _ _ (ap marked (a.parts i o)))

  -- Of the message, its receiver and what it carries matter.
  pub deliver_alike : (x y : Message) → x.receiver ≡ y.receiver → x.vector ≡ y.vector → owns owned s.count x.receiver ≡ true
      → Alike owned (deliver_state s x) (deliver_state t y)
  unfolding deliver_state
  deliver_alike x y at carried o =
      between owned _ _ _ _
      (alike_then owned _ _ _ (with_messages_lem owned (with_process s x.receiver (settled (delivered x.receiver x.vector (process s x.receiver)))) _ _) (with_disk_lem owned _ _))
      (alike_then owned _ _ _ (with_messages_lem owned (with_process t y.receiver (settled (delivered y.receiver y.vector (process t y.receiver)))) _ _) (with_disk_lem owned _ _))
      (subst (λ (i : ℕ). Alike owned (with_process s x.receiver (settled (delivered x.receiver x.vector (process s x.receiver)))) (with_process t i (settled (delivered i y.vector (process t i))))) at
      (alike_put owned s t fs ft a x.receiver _ _ (λ j. settled (delivered x.receiver (carried j) (a.parts x.receiver o j)))))

module _ (owned : ℕ) (s : Run) where
  pub checkpoint_other : (i : ℕ) → owns owned s.count i ≡ false → Alike owned s (checkpoint_state s i)
  unfolding checkpoint_state
  checkpoint_other i o = alike_then owned s _ _ (alike_other owned s i _ o) (with_disk_lem owned _ _)

  pub send_other : (i j : ℕ) → owns owned s.count i ≡ false → Alike owned s (send_state s i j)
  unfolding send_state
  send_other i j o = alike_then owned s _ _ (alike_other owned s i _ o) (with_messages_lem owned _ _ _)

  pub deliver_other : (x : Message) → owns owned s.count x.receiver ≡ false → Alike owned s (deliver_state s x)
  unfolding deliver_state
  deliver_other x o = alike_then owned s _ _ (alike_other owned s x.receiver _ o) (alike_then owned _ _ _ (with_messages_lem owned _ _ _) (with_disk_lem owned _ _))

  pub lose_other : (m : ℕ) → Alike owned s (lose_state s m)
  unfolding lose_state
  lose_other m = with_messages_lem owned s _ _
