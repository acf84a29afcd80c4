-- Document 02, Note 13: what a list, the counts and a line show, by the history and by the library's line.
-- Assumes nothing.
use Rattle.std.specs.Prelude.{◌≡◌, ◌∷◌, ◌*◌, ◌≤◌, ◌<◌, Err, Ok}
use Rattle.laws.specs.Basics.{true, false, List, [], ℕ, length, get_or, pick}
use Rattle.laws.specs.{Lists.table, Lists.gather, Sums.sum_below, Tests.count_below}
use Prim.{tt}
use Rattle.model.specs.declared.{Run.Run, Refusal.TheVariants.ListTooShort}
use Rattle.whole_runs.specs.{Outcomes.line_outcome, Survival.Surviving, Answers.live_of, Answers.at_front}
use Rattle.theory_roles.specs.declared.{Operation.TheVariants.Line, Operation.TheVariants.List as Listing, Operation.TheVariants.Counts, Caller.Caller}
use Rattle.theory_roles.specs.Console.{entitled, denied, console_start, console_line, console_list, console_counts}
use Rattle.theory_roles.specs.Runs.{ConsoleCall, state_after_console, console_history}

-- By the history: how many checkpoints p keeps, and the pairs of all that the caller may see, "written as deletions are": by process, then index, ascending.
unfoldable pub kept_number : Surviving → ℕ → ℕ
kept_number h p = count_below (live_of h p) (h.kept p)

unfoldable pub kept_pairs : Caller → ℕ → Surviving → List ℕ
kept_pairs c n h = gather n (λ p. pick (entitled c n p) (gather (live_of h p) (λ k. pick (h.kept p k) (p ∷ k ∷ []) [])) [])

-- "A list gives exactly the kept checkpoints of the owner's processes, to an operator of all, written as deletions are, with 3 as for theirs, and their count":
-- kept by the pairs handed out.
pub record ListIsRight (n : ℕ) (s : Run) (h : Surviving) (c : Caller) (lent : List ℕ) : Type 0 where
  pub short : length lent < 2 * n * n → ((console_list c s lent).answer ≡ Err ListTooShort) × ((console_list c s lent).deleted ≡ lent)
  pub count : 2 * n * n ≤ length lent → (console_list c s lent).answer ≡ Ok (sum_below n (λ p. pick (entitled c n p) (kept_number h p) 0))
  pub pairs : 2 * n * n ≤ length lent → (console_list c s lent).deleted ≡ at_front (kept_pairs c n h) lent

-- "a viewer the number of checkpoints kept at each process, written as n entries to a lent line list, with 3 for a shorter one"
pub record CountsAreRight (n : ℕ) (s : Run) (h : Surviving) (c : Caller) (lent : List ℕ) : Type 0 where
  pub short : length lent < n → ((console_counts c s lent).answer ≡ Err ListTooShort) × ((console_counts c s lent).line ≡ lent)
  pub answer : n ≤ length lent → (console_counts c s lent).answer ≡ Ok tt
  pub numbers : n ≤ length lent → (console_counts c s lent).line ≡ at_front (table n (kept_number h)) lent

-- On every state that console calls reach, for every caller that the table lets list, or count.
unfoldable pub ListIsKept : Type 0
ListIsKept = (by : Caller) (n : ℕ) (sizes : List ℕ) → (console_start by n sizes).answer ≡ Ok tt → (calls : List ConsoleCall) (c : Caller) (lent : List ℕ)
    → denied c Listing ≡ false → ListIsRight n (state_after_console (console_start by n sizes).run calls) (console_history by n sizes calls) c lent

unfoldable pub CountsAreKept : Type 0
CountsAreKept = (by : Caller) (n : ℕ) (sizes : List ℕ) → (console_start by n sizes).answer ≡ Ok tt → (calls : List ConsoleCall) (c : Caller) (lent : List ℕ)
    → denied c Counts ≡ false → CountsAreRight n (state_after_console (console_start by n sizes).run calls) (console_history by n sizes calls) c lent

-- "and see its own members of a line for a failed set, other places left unchanged", on every state.
pub record LineIsOwn (c : Caller) (s : Run) (F : ℕ) (lent : List ℕ) : Type 0 where
  pub size : length (console_line c s F lent).line ≡ length lent
  pub others : (p : ℕ) → entitled c s.count p ≡ false → get_or (console_line c s F lent).line p 0 ≡ get_or lent p 0
  pub own : denied c Line ≡ false → (p : ℕ) → entitled c s.count p ≡ true → p < length lent → get_or (console_line c s F lent).line p 0 ≡ get_or (line_outcome s F lent).line p 0
  pub answer : denied c Line ≡ false → (console_line c s F lent).answer ≡ (line_outcome s F lent).answer

unfoldable pub OwnMembersAlone : Type 0
OwnMembersAlone = (c : Caller) (s : Run) (F : ℕ) (lent : List ℕ) → LineIsOwn c s F lent
