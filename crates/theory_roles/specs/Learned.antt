-- What an owner can learn of others over lists of console calls: nothing but the named leaks (document 02, Note 13). This file is the whole statement; the
-- console's calls are those of roles/specs, and `LearnsNoMore` at the end is proved in proofs/Learned.
-- Assumes nothing.
use Rattle.std.specs.Prelude.{◌≡◌, ◌&&◌, ◌||◌, ◌∷◌, ◌++◌, Ok}
use Rattle.laws.specs.Basics.{Bool, true, false, not, List, [], map, Option, None, Some, ℕ, eqb, leb, get_or, pick}
use Rattle.laws.specs.{Lists.table, Search.all_below}
use Prim.{tt}
use Rattle.model.specs.declared.{Interval.Interval, Message.Message, Run.Run}
use Rattle.model.specs.{Words.most_processes, Words.most_under_way, Words.in_set, Steps.found, Steps.member, Steps.pin_after, Sound.is_nothing_of}
use Rattle.model.specs.Refusals.{past_blocks, forces_over}
use Rattle.whole_runs.specs.Calls.{checkpoint, send, deliver, lose, recover, line, earliest, Reply}
use Rattle.theory_roles.specs.declared.{Role.Role, Role.TheVariants.Operator, Role.TheVariants.JobOwner, Role.TheVariants.Viewer, Caller.Caller}
use Rattle.theory_roles.specs.{Console.owns, Console.entitled_message, Console.console_start, Isolation.owner}
use Rattle.theory_roles.specs.Runs.{Asked, made, list, counts, ConsoleCall, console_call}

-- THE OWNER of a set of processes: every job owner whose processes are all among them. So several owners who tell each other what they see are one, with the union
-- of their sets; a caller with a further process is another.
unfoldable pub is_owner_by : Role → ℕ → ℕ → ℕ → Bool
is_owner_by Operator set n owned = false
is_owner_by JobOwner set n owned = all_below n (λ p. not (in_set set p) || in_set owned p)
is_owner_by Viewer set n owned = false

unfoldable pub is_owner : ℕ → ℕ → Caller → Bool
is_owner owned n c = is_owner_by c.role c.owned n owned

-- WHAT IT SEES of a list of console calls made one after the other from a state: all that its own calls return besides the state, in order. A reply is the number and
-- the values, the set of entries that rose, and the lent lists as they then stand.
unfoldable pub sees : ℕ → Run → ConsoleCall → List Reply
sees owned s k = pick (is_owner owned s.count k.caller) ((console_call s k).reply ∷ []) []

unfoldable pub seen : ℕ → Run → List ConsoleCall → List Reply
seen owned s [] = []
seen owned s (k ∷ l) = sees owned s k ++ seen owned (console_call s k).run l

-- THE LEAKS, by their values in the state that a call meets. What arrives with message m: for which of its processes, and the vector that it carries. Nothing arrives
-- if m is not under way to one of its processes. The sender is not shown.
pub record Arrival : Type 0 where
  pub receiver : ℕ
  pub vector : List Interval

unfoldable pub arrival_of : ℕ → ℕ → Option Message → List Arrival
arrival_of owned n None = []
arrival_of owned n (Some x) = pick (owns owned n x.receiver) (record { receiver = x.receiver; vector = x.vector } ∷ []) []

unfoldable pub arrives : ℕ → Run → ℕ → List Arrival
arrives owned s m = arrival_of owned s.count (found s m)

unfoldable pub is_there : ℕ → Run → ℕ → Bool
is_there owned s m = entitled_message (owner owned) s.count (found s m)

pub data Leak : Type 0 where
  -- the call shows nothing of others
  nothing : Leak
  -- "A send may still meet 9 or 10 and shows a run-wide number": whether 64 are under way; the last number used
  room : Bool → ℕ → Leak
  -- "a stored checkpoint may meet 16": whether it would take the blocks written past the bound
  bound : Bool → Leak
  -- "deliveries and losses show what was sent to its processes": what arrives, and whether the checkpoint that it forces would meet 16; whether it is there
  arrival : List Arrival → Bool → Leak
  there : Bool → Leak
  -- "and line members": the indexes at its own processes, 0 in the place of another's
  members : List ℕ → Leak

-- What a call shows of others to the job owner of a set who makes it.
unfoldable pub leak : ℕ → Run → Asked → Leak
leak owned s (made (checkpoint i deleted)) = bound (owns owned s.count i && past_blocks s i)
leak owned s (made (send i j)) = pick (owns owned s.count i) (room (leb most_under_way s.underway) s.last) nothing
leak owned s (made (deliver m deleted)) = arrival (arrives owned s m) (is_there owned s m && forces_over s (found s m))
leak owned s (made (lose m)) = there (is_there owned s m)
leak owned s (made (recover F deleted lent)) = nothing
leak owned s (made (line F lent)) = members (table s.count (λ p. pick (owns owned s.count p) (member s F p).index.0 0))
leak owned s (made (earliest l lent)) = nothing
leak owned s (list deleted) = nothing
leak owned s (counts lent) = nothing

-- What a recovery or sweep for F does to process p follows from p's own part, its member of the line, and this: which of its pins then name a checkpoint. The others'
-- intervals decide that, so it is a leak besides those that Note 13 names: the owner's later lists show what was deleted.
pub record Restart : Type 0 where
  pub index : ℕ
  pub pinned : List Bool

unfoldable pub restart : Run → ℕ → ℕ → Restart
restart s F p = record { index = (member s F p).index.0; pinned = table most_processes (λ f. not (is_nothing_of (pin_after s F p f))) }

unfoldable pub restarts : ℕ → Run → ℕ → List Restart
restarts owned s F = table s.count (λ p. pick (owns owned s.count p) (restart s F p) (record { index = 0; pinned = [] }))

-- WHAT IS EXPOSED TO IT. A call of its own, with the set of the caller and with what it shows of others; of another's accepted call, by an operator or by an owner who shares a process, what it did to the
-- owner's processes: stored a checkpoint of one, sent from one, took in what arrived; and every accepted recovery or sweep. Nothing else that others do is exposed:
-- calls for their own processes, messages sent to whomever, losses, lists, counts, lines, and whatever is refused.
pub data Exposed : Type 0 where
  asked : ℕ → Asked → Leak → Exposed
  stored : ℕ → Exposed
  sent : ℕ → Exposed
  took : Arrival → Exposed
  restarted : List Restart → Exposed

unfoldable pub done : ℕ → Run → Asked → List Exposed
done owned s (made (checkpoint i deleted)) = pick (owns owned s.count i) (stored i ∷ []) []
done owned s (made (send i j)) = pick (owns owned s.count i) (sent i ∷ []) []
done owned s (made (deliver m deleted)) = map took (arrives owned s m)
done owned s (made (lose m)) = []
done owned s (made (recover F deleted lent)) = restarted (restarts owned s F) ∷ []
done owned s (made (line F lent)) = []
done owned s (made (earliest l lent)) = []
done owned s (list deleted) = []
done owned s (counts lent) = []

unfoldable pub exposes : ℕ → Run → ConsoleCall → List Exposed
exposes owned s k = pick (is_owner owned s.count k.caller)
    (asked k.caller.owned k.asked (leak k.caller.owned s k.asked) ∷ [])
    (pick (eqb (console_call s k).reply.report.refused 0) (done owned s k.asked) [])

unfoldable pub exposed : ℕ → Run → List ConsoleCall → List Exposed
exposed owned s [] = []
exposed owned s (k ∷ l) = exposes owned s k ++ exposed owned (console_call s k).run l

-- THE STATEMENT. Two runs of the same number of processes, in which the owner's processes have the same block counts, the others' any; then any two lists of calls by
-- any callers, of any lengths. If the same is exposed to the owner in the same order, it sees the same: whatever else the others do, and whoever started the runs.
unfoldable pub LearnsNoMore : Type 0
LearnsNoMore = (owned n : ℕ) (b c : Caller) (sizes others : List ℕ) → (console_start b n sizes).answer ≡ Ok tt → (console_start c n others).answer ≡ Ok tt
    → ((p : ℕ) → owns owned n p ≡ true → get_or sizes p 0 ≡ get_or others p 0)
    → (l m : List ConsoleCall)
    → exposed owned (console_start b n sizes).run l ≡ exposed owned (console_start c n others).run m
    → seen owned (console_start b n sizes).run l ≡ seen owned (console_start c n others).run m
