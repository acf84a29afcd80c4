-- Document 02, Note 13: what is denied, and that 25 comes "before every other". On every state, sound or not, and for all arguments.
-- Assumes nothing.
use Rattle.std.specs.Prelude.{◌≡◌, ◌≤◌, ◌<◌, Err}
use Rattle.laws.specs.Basics.{true, false, List, [], None, Some, ℕ}
use Rattle.model.specs.declared.{Run.Run, Named.Named, Message.Message, Refusal.TheVariants.Denied}
use Rattle.model.specs.{Words.blank, Words.in_set, Steps.found}
use Rattle.whole_runs.specs.Outcomes.{Outcome}
use Rattle.theory_roles.specs.{declared.Role.TheVariants.Operator, declared.Operation.Operation, declared.Caller.Caller, Isolation.owner}
use Rattle.theory_roles.specs.declared.Operation.TheVariants.{Start, Checkpoint, Send, Deliver, Lose, Recover, Line, Earliest, List as Listing, Counts}
use Rattle.theory_roles.specs.Console.{denied, denied_process, denied_message, console_start, console_checkpoint, console_send, console_deliver, console_lose, console_recover, console_line, console_earliest, console_list, console_counts}

-- "To an owner, a process not its own (a send's receiver and a failed set aside) and a message not under way to its own processes count as denied", and nothing
-- more of what the table lets it do; "whose bits at n or above count for nothing".
pub record DeniedToOwner (owned : ℕ) (s : Run) : Type 0 where
  pub not_its_own : (o : Operation) (p : ℕ) → in_set owned p ≡ false → denied_process (owner owned) s o p ≡ true
  pub at_n_or_above : (o : Operation) (p : ℕ) → s.count ≤ p → denied_process (owner owned) s o p ≡ true
  pub its_own : (p : ℕ) → p < s.count → in_set owned p ≡ true → (denied_process (owner owned) s Checkpoint p ≡ false) × (denied_process (owner owned) s Send p ≡ false)
  pub not_under_way : (o : Operation) (m : ℕ) → found s m ≡ None → denied_message (owner owned) s o m ≡ true
  pub to_another : (o : Operation) (m : ℕ) (x : Message) → found s m ≡ Some x → in_set owned x.receiver ≡ false → denied_message (owner owned) s o m ≡ true
  pub to_its_own : (m : ℕ) (x : Message) → found s m ≡ Some x → x.receiver < s.count → in_set owned x.receiver ≡ true
      → (denied_message (owner owned) s Deliver m ≡ false) × (denied_message (owner owned) s Lose m ≡ false)

unfoldable pub OwnersAreDenied : Type 0
OwnersAreDenied = (owned : ℕ) (s : Run) → DeniedToOwner owned s

-- "an operator everything"
unfoldable pub OperatorsAreNot : Type 0
OperatorsAreNot = (c : Caller) → c.role ≡ Operator → (s : Run) (o : Operation) (k : ℕ)
    → (denied c o ≡ false) × (denied_process c s o k ≡ false) × (denied_message c s o k ≡ false)

-- An outcome that answers a and leaves the state and the lent lists as they came.
abbrev pub Untouched : {A : Type 0} → Outcome A → A → Run → List ℕ → List ℕ → Type 0
Untouched o a s deleted line = (o.run ≡ s) × (o.answer ≡ a) × (o.rose ≡ 0) × (o.deleted ≡ deleted) × (o.line ≡ line)

-- "25, before every other"
pub record DeniedFirst (c : Caller) (s : Run) : Type 0 where
  pub start : (n : ℕ) (sizes : List ℕ) → denied c Start ≡ true → Untouched (console_start c n sizes) (Err Denied) (blank 0) [] []
  pub checkpoint : (i : ℕ) (lent : List ℕ) → denied_process c s Checkpoint i ≡ true → Untouched (console_checkpoint c s i lent) (Err Denied) s lent []
  pub send : (i j : ℕ) → denied_process c s Send i ≡ true → Untouched (console_send c s i j) (Err Denied) s [] []
  pub deliver : (m : ℕ) (lent : List ℕ) → denied_message c s Deliver m ≡ true → Untouched (console_deliver c s m lent) (Err Denied) s lent []
  pub lose : (m : ℕ) → denied_message c s Lose m ≡ true → Untouched (console_lose c s m) (Err Denied) s [] []
  pub recover : (F : ℕ) (deleted lent : List ℕ) → denied c Recover ≡ true → Untouched (console_recover c s F deleted lent) (Err Denied) s deleted lent
  pub line : (F : ℕ) (lent : List ℕ) → denied c Line ≡ true → Untouched (console_line c s F lent) (Err Denied) s [] lent
  pub earliest : (l : List Named) (lent : List ℕ) → denied c Earliest ≡ true → Untouched (console_earliest c s l lent) (Err Denied) s [] lent
  pub list : (lent : List ℕ) → denied c Listing ≡ true → Untouched (console_list c s lent) (Err Denied) s lent []
  pub counts : (lent : List ℕ) → denied c Counts ≡ true → Untouched (console_counts c s lent) (Err Denied) s [] lent

unfoldable pub DeniedBeforeAll : Type 0
DeniedBeforeAll = (c : Caller) (s : Run) → DeniedFirst c s
