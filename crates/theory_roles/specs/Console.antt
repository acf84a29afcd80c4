-- Document 02, Note 13, "A console for shared clusters": who may do what, and the outcome of each console call, by the library's own outcomes.
-- Assumes nothing.
use Rattle.std.specs.Prelude.{◌&&◌, ◌∷◌, Result, Err, Ok}
use Rattle.laws.specs.Basics.{Bool, true, false, not, List, [], Option, None, Some, ℕ, ltb, length, get_or, pick}
use Rattle.laws.specs.Lists.{table, gather}
use Rattle.model.specs.declared.{Run.Run, Named.Named, Message.Message, Refusal.Refusal, Refusal.TheVariants.ListTooShort, Refusal.TheVariants.Denied}
use Prim.{tt}
use Rattle.model.specs.Shapes.{CheckpointAnswer, DeliverAnswer, LineAnswer, LoseAnswer, RecoverAnswer, SendAnswer, StartAnswer}
use Rattle.model.specs.{Words.blank, Words.process, Words.in_set, Steps.Deletion, Steps.listed, Steps.found}
use Rattle.model.specs.Refusals.{first_of, unsound, short_deletions, short_line}
use Rattle.whole_runs.specs.Outcomes.{Outcome, judged, refused_outcome, pairs, written, Report, refusing, accepting, start_outcome, checkpoint_outcome, send_outcome, deliver_outcome, lose_outcome, line_outcome, recover_outcome}
use Rattle.whole_runs.specs.Earliest.{earliest_outcome}
use Rattle.theory_roles.specs.declared.{Role.Role, Role.TheVariants.Operator, Role.TheVariants.JobOwner, Role.TheVariants.Viewer, Operation.Operation}
use Rattle.theory_roles.specs.declared.Operation.TheVariants.{Start, Checkpoint, Send, Deliver, Lose, Recover, Line, Earliest, List as Listing, Counts}
use Rattle.theory_roles.specs.declared.Caller.{Caller}

-- "A table of roles and operations says who may do what: an operator everything; a job owner checkpoint, send from, deliver to, lose to and list its own
-- processes, and see its own members of a line for a failed set ..; a viewer the number of checkpoints kept at each process".
unfoldable pub may : Role → Operation → Bool
may Operator o = true
may JobOwner Start = false
may JobOwner Checkpoint = true
may JobOwner Send = true
may JobOwner Deliver = true
may JobOwner Lose = true
may JobOwner Recover = false
may JobOwner Line = true
may JobOwner Earliest = false
may JobOwner Listing = true
may JobOwner Counts = false
may Viewer Start = false
may Viewer Checkpoint = false
may Viewer Send = false
may Viewer Deliver = false
may Viewer Lose = false
may Viewer Recover = false
may Viewer Line = false
may Viewer Earliest = false
may Viewer Listing = false
may Viewer Counts = true

-- The places of the table that the code looks up.
abbrev pub role_place : Role → ℕ
role_place Operator = 0
role_place JobOwner = 1
role_place Viewer = 2

abbrev pub operation_place : Operation → ℕ
operation_place Start = 0
operation_place Checkpoint = 1
operation_place Send = 2
operation_place Deliver = 3
operation_place Lose = 4
operation_place Recover = 5
operation_place Line = 6
operation_place Earliest = 7
operation_place Listing = 8
operation_place Counts = 9

-- "a job owner a set of processes whose bits at n or above count for nothing"
unfoldable pub owns : ℕ → ℕ → ℕ → Bool
owns owned n p = ltb p n && in_set owned p

-- Process p is one that the caller's operations may concern: any process for an operator, its own for an owner.
unfoldable pub entitled_by : Role → ℕ → ℕ → ℕ → Bool
entitled_by Operator owned n p = true
entitled_by JobOwner owned n p = owns owned n p
entitled_by Viewer owned n p = false

unfoldable pub entitled : Caller → ℕ → ℕ → Bool
entitled c n p = entitled_by c.role c.owned n p

-- The same of a message: to an owner it must be "under way to its own processes".
unfoldable pub entitled_message_by : Role → ℕ → ℕ → Option Message → Bool
entitled_message_by Operator owned n x = true
entitled_message_by JobOwner owned n None = false
entitled_message_by JobOwner owned n (Some x) = owns owned n x.receiver
entitled_message_by Viewer owned n x = false

unfoldable pub entitled_message : Caller → ℕ → Option Message → Bool
entitled_message c n x = entitled_message_by c.role c.owned n x

-- "25 .. for an operation the table denies the caller".
unfoldable pub denied : Caller → Operation → Bool
denied c o = not (may c.role o)

-- "To an owner, a process not its own (a send's receiver and a failed set aside) and a message not under way to its own processes count as denied."
unfoldable pub denied_process : Caller → Run → Operation → ℕ → Bool
denied_process c s o p = not (may c.role o && entitled c s.count p)

unfoldable pub denied_message : Caller → Run → Operation → ℕ → Bool
denied_message c s o m = not (may c.role o && entitled_message c s.count (found s m))

-- "25, before every other": 1 and 2 among them. What a denied call leaves: the state and the lent lists as they came.
abbrev pub denial : {A : Type 0} → Run → List ℕ → List ℕ → Outcome (Result A Refusal)
denial s deleted line = refused_outcome s deleted line Denied

-- The console's start: the operator's alone. "A refused start returns a state of zeros with every pin none."
unfoldable pub console_start : Caller → ℕ → List ℕ → Outcome StartAnswer
console_start c n block_counts = pick (denied c Start) (denial (blank 0) [] [])
    (start_outcome n block_counts)

-- "a job owner checkpoint .. its own processes"
unfoldable pub console_checkpoint : Caller → Run → ℕ → List ℕ → Outcome CheckpointAnswer
console_checkpoint c s i deleted = pick (denied_process c s Checkpoint i) (denial s deleted [])
    (checkpoint_outcome s i deleted)

-- "send from"; "a send's receiver .. aside"
unfoldable pub console_send : Caller → Run → ℕ → ℕ → Outcome SendAnswer
console_send c s i j = pick (denied_process c s Send i) (denial s [] [])
    (send_outcome s i j)

-- "deliver to"
unfoldable pub console_deliver : Caller → Run → ℕ → List ℕ → Outcome DeliverAnswer
console_deliver c s m deleted = pick (denied_message c s Deliver m) (denial s deleted [])
    (deliver_outcome s m deleted)

-- "lose to"
unfoldable pub console_lose : Caller → Run → ℕ → Outcome LoseAnswer
console_lose c s m = pick (denied_message c s Lose m) (denial s [] [])
    (lose_outcome s m)

-- The operator's alone.
unfoldable pub console_recover : Caller → Run → ℕ → List ℕ → List ℕ → Outcome RecoverAnswer
console_recover c s F deleted line = pick (denied c Recover) (denial s deleted line)
    (recover_outcome s F deleted line)

-- "and see its own members of a line for a failed set, other places left unchanged": of what the call wrote, the caller's places.
unfoldable pub shown : Caller → ℕ → List ℕ → List ℕ → List ℕ
shown c n lent wrote = table (length lent) (λ p. pick (entitled c n p) (get_or wrote p 0) (get_or lent p 0))

unfoldable pub console_line : Caller → Run → ℕ → List ℕ → Outcome LineAnswer
console_line c s F line = pick (denied c Line) (denial s [] line)
    (record { run = s; answer = (line_outcome s F line).answer; rose = 0; deleted = []; line = shown c s.count line (line_outcome s F line).line })

-- The operator's alone.
unfoldable pub console_earliest : Caller → Run → List Named → List ℕ → Outcome LineAnswer
console_earliest c s l line = pick (denied c Earliest) (denial s [] line)
    (earliest_outcome s l line)

-- "A list gives exactly the kept checkpoints of the owner's processes, to an operator of all, written as deletions are, with 3 as for theirs, and their count."
unfoldable pub listed_to : Caller → Run → List Deletion
listed_to c s = gather s.count (λ p. pick (entitled c s.count p) (listed p (process s p).kept) [])

unfoldable pub list_refusal : Run → List ℕ → Option Refusal
list_refusal s deleted = first_of (
    unsound s
    ∷ record { holds = short_deletions s deleted; gives = ListTooShort }
    ∷ [])

-- The answer: how many checkpoints.
abbrev pub ListAnswer : Type 0
ListAnswer = Result ℕ Refusal

unfoldable pub console_list : Caller → Run → List ℕ → Outcome ListAnswer
console_list c s deleted = pick (denied c Listing) (denial s deleted [])
    (judged (list_refusal s deleted)
    (refused_outcome s deleted [])
    (record { run = s; answer = Ok (length (listed_to c s)); rose = 0; deleted = written deleted (pairs (listed_to c s)); line = [] }))

-- "a viewer the number of checkpoints kept at each process, written as n entries to a lent line list, with 3 for a shorter one"
unfoldable pub kept_counts : Run → List ℕ
kept_counts s = table s.count (λ p. length (process s p).kept)

unfoldable pub counts_refusal : Run → List ℕ → Option Refusal
counts_refusal s line = first_of (
    unsound s
    ∷ record { holds = short_line s line; gives = ListTooShort }
    ∷ [])

unfoldable pub console_counts : Caller → Run → List ℕ → Outcome LineAnswer
console_counts c s line = pick (denied c Counts) (denial s [] line)
    (judged (counts_refusal s line)
    (refused_outcome s [] line)
    (record { run = s; answer = Ok tt; rose = 0; deleted = []; line = written line (kept_counts s) }))

-- "Where an answer is an enum, a definition gives this paper's number and values for each of its cases": of a list the count of its pairs.
unfoldable pub list_report : ListAnswer → Report
list_report (Err r) = refusing r
list_report (Ok count) = accepting (Some count) 0
