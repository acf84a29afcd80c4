-- What is denied, and that it is denied before anything else is looked at.
-- Assumes nothing.
use Rattle.std.specs.Prelude.{◌≡◌, ◌&&◌, ◌≤◌, ◌<◌}
use Rattle.laws.specs.Basics.{refl, ap, Bool, true, false, not, ℕ, ltb, lt-ltb, le-ltb}
use Rattle.laws.specs.Truth.{and_both, and_no_right}
use Rattle.model.specs.Words.{in_set}
use Rattle.theory_roles.specs.declared.Role.TheVariants.{JobOwner}
use Rattle.theory_roles.specs.Console.{may, owns, entitled_by, entitled, entitled_message_by, entitled_message, denied, denied_process, denied_message, console_start, console_checkpoint, console_send, console_deliver, console_lose, console_recover, console_line, console_earliest, console_list, console_counts}
use Rattle.theory_roles.specs.Denials.{OwnersAreDenied, OperatorsAreNot, DeniedBeforeAll}

-- What the table lets an owner do of a process, and of a message.
refused_both : (a b : Bool) → b ≡ false → not (a && b) ≡ true
refused_both a b e = rw (and_no_right a b e)

owns_past : (owned n p : ℕ) → n ≤ p → owns owned n p ≡ false
unfolding owns
owns_past owned n p le = ap (λ (b : Bool). b && in_set owned p) (le-ltb p n le)

owns_none : (owned n p : ℕ) → in_set owned p ≡ false → owns owned n p ≡ false
unfolding owns
owns_none owned n p e = and_no_right (ltb p n) (in_set owned p) e

owns_one : (owned n p : ℕ) → p < n → in_set owned p ≡ true → owns owned n p ≡ true
unfolding owns
owns_one owned n p lt e = and_both (ltb p n) (in_set owned p) (lt-ltb p n lt) e

pub owners_are_denied : OwnersAreDenied
unfolding OwnersAreDenied denied_process denied_message entitled entitled_by entitled_message entitled_message_by may
owners_are_denied owned s = record {
  not_its_own = λ o p e. refused_both (may JobOwner o) (owns owned s.count p) (owns_none owned s.count p e);
  at_n_or_above = λ o p le. refused_both (may JobOwner o) (owns owned s.count p) (owns_past owned s.count p le);
  its_own = λ p lt e. rw (owns_one owned s.count p lt e) (refl, refl);
  not_under_way = λ o m e. rw e (refused_both (may JobOwner o) false refl);
  to_another = λ o m x e d. rw e (refused_both (may JobOwner o) (owns owned s.count x.receiver) (owns_none owned s.count x.receiver d));
  to_its_own = λ m x e lt d. rw (e, owns_one owned s.count x.receiver lt d) (refl, refl);
}

pub operators_are_not : OperatorsAreNot
unfolding OperatorsAreNot denied denied_process denied_message entitled entitled_by entitled_message entitled_message_by may
operators_are_not c e s o k = rw e (refl, refl, refl)

pub denied_before_all : DeniedBeforeAll
unfolding DeniedBeforeAll console_start console_checkpoint console_send console_deliver console_lose console_recover console_line console_earliest console_list console_counts
denied_before_all c s = record {
  start = λ n sizes e. rw e (refl, refl, refl, refl, refl);
  checkpoint = λ i lent e. rw e (refl, refl, refl, refl, refl);
  send = λ i j e. rw e (refl, refl, refl, refl, refl);
  deliver = λ m lent e. rw e (refl, refl, refl, refl, refl);
  lose = λ m e. rw e (refl, refl, refl, refl, refl);
  recover = λ F deleted lent e. rw e (refl, refl, refl, refl, refl);
  line = λ F lent e. rw e (refl, refl, refl, refl, refl);
  earliest = λ l lent e. rw e (refl, refl, refl, refl, refl);
  list = λ lent e. rw e (refl, refl, refl, refl, refl);
  counts = λ lent e. rw e (refl, refl, refl, refl, refl);
}
