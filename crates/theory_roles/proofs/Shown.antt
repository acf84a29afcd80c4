-- An owner's line: its own members, the other places as lent.
-- Assumes nothing.
use Rattle.std.specs.Prelude.{◌≡◌, ◌<◌}
use Rattle.laws.specs.Basics.{refl, sym, ◌∙◌, true, false, List, ℕ, ltb, length, get_or, ltb-true, ltb-false, by_bool}
use lib.ListN.{get_or-eq_default}
use Rattle.laws.specs.{Choice.pick_same, Tables.length_table, Tables.get_d_table, Tables.get_d_table_past, Tables.table_is}
use Rattle.whole_runs.specs.Outcomes.{line_outcome}
use Rattle.theory_roles.specs.declared.{Caller.Caller, Operation.TheVariants.Line}
use Rattle.theory_roles.specs.{Console.entitled, Console.denied, Console.shown, Console.console_line, Shown.OwnMembersAlone}

module _ (c : Caller) (n : ℕ) (lent wrote : List ℕ) where
  pub length_shown : length (shown c n lent wrote) ≡ length lent
  unfolding shown
  length_shown = length_table (length lent) _

  -- An own place, and another's.
  pub shown_own : (p : ℕ) → entitled c n p ≡ true → p < length lent → get_or (shown c n lent wrote) p 0 ≡ get_or wrote p 0
  unfolding shown
  shown_own p e lt = get_d_table (length lent) _ p 0 lt ∙ rw e

  pub shown_other : (p : ℕ) → entitled c n p ≡ false → get_or (shown c n lent wrote) p 0 ≡ get_or lent p 0
  unfolding shown
  shown_other p e = by_bool (ltb p (length lent))
      (λ lt. get_d_table (length lent) _ p 0 (ltb-true p (length lent) lt) ∙ rw e)
      (λ ge. get_d_table_past (length lent) _ p 0 (ltb-false p (length lent) ge) ∙ sym (get_or-eq_default lent 0 (ltb-false p (length lent) ge)))

-- Where nothing was written all is as lent; who may see every process sees the whole.
pub shown_same : (c : Caller) (n : ℕ) (lent : List ℕ) → shown c n lent lent ≡ lent
unfolding shown
shown_same c n lent = sym (table_is 0 lent (length lent) _ refl (λ p lt. sym (pick_same (entitled c n p) (get_or lent p 0))))

pub own_members_alone : OwnMembersAlone
unfolding OwnMembersAlone console_line
own_members_alone c s F lent = record {
  size = by_bool (denied c Line) (λ d. rw d) (λ d. rw d (length_shown c s.count lent (line_outcome s F lent).line));
  others = λ p e. by_bool (denied c Line) (λ d. rw d) (λ d. rw d (shown_other c s.count lent (line_outcome s F lent).line p e));
  own = λ d p e lt. rw d (shown_own c s.count lent (line_outcome s F lent).line p e lt);
  answer = λ d. rw d;
}
