-- The owner of a set is its owner. Lists of console calls put together: the state after them, what they expose, what the tenant of specs/Real sees. And two lists of answers that differ in the last one.
-- Assumes nothing.
use Rattle.std.specs.Prelude.{◌≡◌, ◌∷◌, ◌++◌}
use Rattle.laws.specs.Basics.{refl, sym, ◌∙◌, ap, true, List, [], append_assoc, Some, ℕ, by_bool}
use Rattle.laws.specs.{Lists.last_of, Options.some_same, Search.all_in}
use Rattle.model.specs.declared.Run.{Run}
use Rattle.model.specs.Words.{in_set}
use Rattle.whole_runs.specs.Calls.{Call, Reply}
use Rattle.theory_roles.specs.{Runs.ConsoleCall, Runs.console_call, Runs.state_after_console, Isolation.owner}
use Rattle.theory_roles.specs.Learned.{is_owner_by, is_owner, sees, seen, Exposed, exposes, exposed}
use Rattle.theory_roles.specs.Real.{tenant}

pub owner_itself : (owned n : ℕ) → is_owner owned n (owner owned) ≡ true
unfolding is_owner is_owner_by
owner_itself owned n = all_in n _ (λ p lt. by_bool (in_set owned p) (λ e. rw e) (λ e. rw e))

pub after_append : (s : Run) (l m : List ConsoleCall) → state_after_console s (l ++ m) ≡ state_after_console (state_after_console s l) m
unfolding state_after_console
after_append s [] m = refl
after_append s (k ∷ l) m = after_append (console_call s k).run l m

pub exposed_append : (owned : ℕ) (s : Run) (l m : List ConsoleCall) → exposed owned s (l ++ m) ≡ exposed owned s l ++ exposed owned (state_after_console s l) m
unfolding exposed state_after_console
exposed_append owned s [] m = refl
exposed_append owned s (k ∷ l) m =
    ap (λ (z : List Exposed). exposes owned s k ++ z) (exposed_append owned (console_call s k).run l m)
    ∙ sym (append_assoc (exposes owned s k) _ _)

pub seen_append : (owned : ℕ) (s : Run) (l m : List ConsoleCall) → seen owned s (l ++ m) ≡ seen owned s l ++ seen owned (state_after_console s l) m
unfolding seen state_after_console
seen_append owned s [] m = refl
seen_append owned s (k ∷ l) m =
    ap (λ (z : List Reply). sees owned s k ++ z) (seen_append owned (console_call s k).run l m)
    ∙ sym (append_assoc (sees owned s k) _ _)

-- What the tenant sees of one call of its own.
pub last_seen : (s : Run) (k : Call) → seen 1 s (tenant k ∷ []) ≡ (console_call s (tenant k)).reply ∷ []
unfolding seen sees
last_seen s k = rw (owner_itself 1 s.count)

pub differing : (a b : ℕ) (x y : Reply) (l m : List Reply) → (a ≡ b → ⊥) → last_of l ≡ Some x → last_of m ≡ Some y → x.report.refused ≡ a → y.report.refused ≡ b → l ≡ m → ⊥
differing a b x y l m ne p q c d e = ne (sym c ∙ ap (λ (z : Reply). z.report.refused) (some_same (sym p ∙ ap last_of e ∙ q)) ∙ d)
