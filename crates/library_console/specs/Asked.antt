-- Document 02, Note 13, for callers who give the number of a role and lend words: who asks, and what each call's outcome then is, by the definitions of `theory_roles`.
-- Assumes nothing.
use Rattle.std.specs.Prelude.{◌≡◌, ◌≤◌, Err, Option, None, Some}
use Rattle.laws.specs.Basics.{Bool, true, false, List, [], ℕ, eqb, length, pick}
use Rattle.model.specs.Shapes.{CheckpointAnswer, DeliverAnswer, LineAnswer, LoseAnswer, RecoverAnswer, SendAnswer, StartAnswer}
use Rattle.model.specs.declared.{Run.Run, Named.Named, Refusal.TheVariants.Denied}
use Rattle.whole_runs.specs.Outcomes.{Outcome}
use Rattle.words.specs.Layout.{state_size, run_of}
use Rattle.in_place.specs.Starting.{start_outcome_in, start_words}
use Rattle.theory_roles.specs.declared.{Role.Role, Role.TheVariants.Operator, Role.TheVariants.JobOwner, Role.TheVariants.Viewer, Caller.Caller}
use Rattle.theory_roles.specs.Console.{ListAnswer}
use Rattle.theory_roles.specs.declared.Operation.TheVariants.{Start}
use Rattle.theory_roles.specs.Console.{role_place, denied, denial, console_start, console_checkpoint, console_send, console_deliver, console_lose, console_recover, console_line, console_earliest, console_list, console_counts}

-- A role's number is its place in the table of roles and operations. Other numbers are no role's.
unfoldable pub claim_of : ℕ → Option Role
claim_of k = pick (eqb k 0) (Some Operator) (pick (eqb k 1) (Some JobOwner) (pick (eqb k 2) (Some Viewer) None))

unfoldable pub NumberedByPlace : Type 0
NumberedByPlace = (r : Role) → claim_of (role_place r) ≡ Some r

-- The outcome for a caller that claims a role, with the set of its processes; for no role "25, before every other".
unfoldable pub asked : {A : Type 0} → Option Role → ℕ → Outcome A → (Caller → Outcome A) → Outcome A
asked None owned refusal call = refusal
asked (Some r) owned refusal call = call (record { role = r; owned = owned })

-- Whether a caller that claims a role is denied, by a test of callers.
unfoldable pub denied_as : Option Role → ℕ → (Caller → Bool) → Bool
denied_as None owned test = true
denied_as (Some r) owned test = test (record { role = r; owned = owned })

-- A start on lent words. One that is denied leaves them: they may hold the run of others. One that is refused with another number makes them zero.
unfoldable pub console_start_in : Caller → List ℕ → ℕ → List ℕ → Outcome StartAnswer
console_start_in c w n block_counts = pick (denied c Start)
    (denial (run_of w) [] [])
    (start_outcome_in (length w) n block_counts)

-- Where enough is lent, it answers as the console's start, and is it where it is not denied.
unfoldable pub ConsoleStartsTheSame : Type 0
ConsoleStartsTheSame = (c : Caller) (w : List ℕ) (n : ℕ) (block_counts : List ℕ) → length w ≡ state_size → n ≤ length block_counts
    → ((console_start_in c w n block_counts).answer ≡ (console_start c n block_counts).answer) × (denied c Start ≡ false → console_start_in c w n block_counts ≡ console_start c n block_counts)

-- Each call by the number of a role.
unfoldable pub start_as : ℕ → ℕ → List ℕ → ℕ → List ℕ → Outcome StartAnswer
start_as role owned w n block_counts = asked (claim_of role) owned (denial (run_of w) [] []) (λ c. console_start_in c w n block_counts)

unfoldable pub start_words_as : ℕ → ℕ → List ℕ → ℕ → List ℕ → List ℕ
start_words_as role owned w n block_counts = pick (denied_as (claim_of role) owned (λ c. denied c Start)) w (start_words w n block_counts)

unfoldable pub checkpoint_as : ℕ → ℕ → Run → ℕ → List ℕ → Outcome CheckpointAnswer
checkpoint_as role owned s i deleted = asked (claim_of role) owned (denial s deleted []) (λ c. console_checkpoint c s i deleted)

unfoldable pub send_as : ℕ → ℕ → Run → ℕ → ℕ → Outcome SendAnswer
send_as role owned s i j = asked (claim_of role) owned (denial s [] []) (λ c. console_send c s i j)

unfoldable pub deliver_as : ℕ → ℕ → Run → ℕ → List ℕ → Outcome DeliverAnswer
deliver_as role owned s m deleted = asked (claim_of role) owned (denial s deleted []) (λ c. console_deliver c s m deleted)

unfoldable pub lose_as : ℕ → ℕ → Run → ℕ → Outcome LoseAnswer
lose_as role owned s m = asked (claim_of role) owned (denial s [] []) (λ c. console_lose c s m)

unfoldable pub recover_as : ℕ → ℕ → Run → ℕ → List ℕ → List ℕ → Outcome RecoverAnswer
recover_as role owned s F deleted line = asked (claim_of role) owned (denial s deleted line) (λ c. console_recover c s F deleted line)

unfoldable pub line_as : ℕ → ℕ → Run → ℕ → List ℕ → Outcome LineAnswer
line_as role owned s F line = asked (claim_of role) owned (denial s [] line) (λ c. console_line c s F line)

unfoldable pub earliest_as : ℕ → ℕ → Run → List Named → List ℕ → Outcome LineAnswer
earliest_as role owned s l line = asked (claim_of role) owned (denial s [] line) (λ c. console_earliest c s l line)

unfoldable pub list_as : ℕ → ℕ → Run → List ℕ → Outcome ListAnswer
list_as role owned s deleted = asked (claim_of role) owned (denial s deleted []) (λ c. console_list c s deleted)

unfoldable pub counts_as : ℕ → ℕ → Run → List ℕ → Outcome LineAnswer
counts_as role owned s line = asked (claim_of role) owned (denial s [] line) (λ c. console_counts c s line)
