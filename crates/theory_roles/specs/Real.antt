-- Each leak is real: for each, two lists of console calls by a tenant and its neighbours that expose the same to the tenant but for this one leak, and of which it sees
-- different answers. So no leak could be left out of `exposed`. `EveryLeakIsReal` is proved in proofs/Real.
-- Assumes nothing.
use Rattle.std.specs.Prelude.{◌≡◌, ◌∷◌, ◌++◌, Ok}
use Rattle.laws.specs.Basics.{false, List, [], map, ℕ, zero, suc, eqb, replicate, pick}
use Prim.{tt}
use Rattle.model.specs.{declared.Run.Run, Words.ones}
use Rattle.whole_runs.specs.Calls.{Call, checkpoint, send, deliver, lose, recover, line}
use Rattle.theory_tables.specs.Exam.{deletion_list, line_list}
use Rattle.theory_roles.specs.{Console.console_start, Isolation.owner, Runs.made, Runs.list, Runs.ConsoleCall, Table.operator}
use Rattle.theory_roles.specs.Learned.{Leak, nothing, room, bound, arrival, there, members, Exposed, asked, stored, sent, took, restarted, exposed, seen}

-- The leaks, by what they tell. The number of a send and 10 are told by one value, the last number used.
pub data LeakName : Type 0 where
  -- "9": whether 64 are under way
  full : LeakName
  -- "a run-wide number"
  number : LeakName
  -- "10": whether all numbers are used
  used : LeakName
  -- "16"
  blocks : LeakName
  -- "what was sent to its processes": what it carries; whether there is a message
  carried : LeakName
  presence : LeakName
  -- "line members"
  place : LeakName
  -- of a recovery: where it put the tenant's processes, and which of their pins were left
  rollback : LeakName
  pins : LeakName

unfoldable pub code : LeakName → ℕ
code full = 0
code number = 1
code used = 2
code blocks = 3
code carried = 4
code presence = 5
code place = 6
code rollback = 7
code pins = 8

-- What is exposed, with one leak hidden: its value is a constant wherever it stands.
unfoldable pub hide : {A : Type 0} → LeakName → LeakName → A → A → A
hide x y constant value = pick (eqb (code x) (code y)) constant value

unfoldable pub hidden_leak : LeakName → Leak → Leak
hidden_leak x nothing = nothing
hidden_leak x (room b m) = room (hide x full false b) (hide x number 0 (hide x used 0 m))
hidden_leak x (bound b) = bound (hide x blocks false b)
hidden_leak x (arrival l b) = arrival (hide x carried [] l) (hide x blocks false b)
hidden_leak x (there b) = there (hide x presence false b)
hidden_leak x (members l) = members (hide x place [] l)

unfoldable pub hidden : LeakName → Exposed → Exposed
hidden x (asked set k l) = asked set k (hidden_leak x l)
hidden x (stored i) = stored i
hidden x (sent i) = sent i
hidden x (took a) = took a
hidden x (restarted l) = restarted (map (λ r. record { index = hide x rollback 0 r.index; pinned = hide x pins [] r.pinned }) l)

-- Three processes: the tenant owns process 0, its neighbour 1 and 2.
abbrev pub tenant : Call → ConsoleCall
tenant k = record { caller = owner 1; asked = made k }

abbrev pub neighbour : Call → ConsoleCall
neighbour k = record { caller = owner 6; asked = made k }

abbrev pub operators : Call → ConsoleCall
operators k = record { caller = operator; asked = made k }

abbrev pub tenants_list : ConsoleCall
tenants_list = record { caller = owner 1; asked = list (deletion_list 3) }

-- Two lists of calls after a start with these block counts.
pub record Pair : Type 0 where
  pub sizes : List ℕ
  pub one : List ConsoleCall
  pub another : List ConsoleCall

-- The tenant's process has received from the neighbour's, and stored a checkpoint since.
abbrev pub dependent : List ConsoleCall
dependent = neighbour (send 1 0) ∷ tenant (deliver 1 (deletion_list 3)) ∷ tenant (checkpoint 0 (deletion_list 3)) ∷ []

-- Messages 1 to c, each lost before the next is sent.
unfoldable pub messages : ℕ → List ConsoleCall
messages zero = []
messages (suc c) = messages c ++ (operators (send 2 1) ∷ operators (lose (suc c)) ∷ [])

-- Many blocks are written only if checkpoints are stored, rolled back and stored again. A round: process 2 sends message m to process 1, which stores k checkpoints after
-- it; then 2 fails, and 1 goes back to before the message.
unfoldable pub round : ℕ → ℕ → List ConsoleCall
round k m = operators (send 2 1) ∷ operators (deliver m (deletion_list 3)) ∷ (replicate k (operators (checkpoint 1 (deletion_list 3))) ++ (operators (recover 4 (deletion_list 3) (line_list 3)) ∷ []))

unfoldable pub rounds : ℕ → ℕ → List ConsoleCall
rounds k zero = []
rounds k (suc c) = rounds k c ++ round k (suc c)

unfoldable pub pair_of : LeakName → Pair
-- 64 messages are under way between the neighbour's processes, or one of them was lost: the tenant's send meets 9, or has the number 65
pair_of full = record {
  sizes = ones;
  one = replicate 64 (neighbour (send 1 2)) ++ (tenant (send 0 1) ∷ []);
  another = replicate 64 (neighbour (send 1 2)) ++ (neighbour (lose 1) ∷ tenant (send 0 1) ∷ []);
}
-- the neighbour has not sent, or has: the tenant's message has the number 1, or 2
pair_of number = record {
  sizes = ones;
  one = tenant (send 0 1) ∷ [];
  another = neighbour (send 1 2) ∷ tenant (send 0 1) ∷ [];
}
-- a million messages were sent, or one fewer: the tenant's send meets 10, or has the last number
pair_of used = record {
  sizes = ones;
  one = messages 1_000_000 ++ (tenant (send 0 1) ∷ []);
  another = messages 999_999 ++ (tenant (send 0 1) ∷ []);
}
-- process 1 has stored 21,894 checkpoints more, or not: 999,999,999,954,361 blocks are written, or 999,998,565,131,071, and a checkpoint of the tenant's has 65,535
pair_of blocks = record {
  sizes = 65_535 ∷ 65_535 ∷ 1 ∷ [];
  one = rounds 15_259 1_000_000 ++ (replicate 21_894 (operators (checkpoint 1 (deletion_list 3))) ++ (tenant (checkpoint 0 (deletion_list 3)) ∷ []));
  another = rounds 15_259 1_000_000 ++ (tenant (checkpoint 0 (deletion_list 3)) ∷ []);
}
-- the neighbour has stored no checkpoint between two messages to the tenant, or one: the second forces none, or one
pair_of carried = record {
  sizes = ones;
  one = neighbour (send 1 0) ∷ tenant (deliver 1 (deletion_list 3)) ∷ tenant (send 0 2) ∷ neighbour (send 1 0) ∷ tenant (deliver 3 (deletion_list 3)) ∷ [];
  another = neighbour (send 1 0) ∷ tenant (deliver 1 (deletion_list 3)) ∷ tenant (send 0 2) ∷ neighbour (checkpoint 1 (deletion_list 3)) ∷ neighbour (send 1 0) ∷ tenant (deliver 3 (deletion_list 3)) ∷ [];
}
-- the neighbour has not sent to the tenant, or has: the loss meets 25, or is accepted
pair_of presence = record {
  sizes = ones;
  one = tenant (lose 1) ∷ [];
  another = neighbour (send 1 0) ∷ tenant (lose 1) ∷ [];
}
-- the neighbour has stored no checkpoint since its message to the tenant, or one: the tenant's member, where the neighbour fails, is checkpoint 0, or the live state
pair_of place = record {
  sizes = ones;
  one = dependent ++ (tenant (line 2 (line_list 3)) ∷ []);
  another = dependent ++ (neighbour (checkpoint 1 (deletion_list 3)) ∷ tenant (line 2 (line_list 3)) ∷ []);
}
-- the same, and the operator recovers from the neighbour's failure: the tenant's list has checkpoint 0, or 1
pair_of rollback = record {
  sizes = ones;
  one = dependent ++ (operators (recover 2 (deletion_list 3) (line_list 3)) ∷ tenants_list ∷ []);
  another = dependent ++ (neighbour (checkpoint 1 (deletion_list 3)) ∷ operators (recover 2 (deletion_list 3) (line_list 3)) ∷ tenants_list ∷ []);
}
-- the same, and the operator sweeps: the tenant's list has checkpoints 0 and 1, or 1 alone
pair_of pins = record {
  sizes = ones;
  one = dependent ++ (operators (recover 0 (deletion_list 3) (line_list 3)) ∷ tenants_list ∷ []);
  another = dependent ++ (neighbour (checkpoint 1 (deletion_list 3)) ∷ operators (recover 0 (deletion_list 3) (line_list 3)) ∷ tenants_list ∷ []);
}

unfoldable pub begun : LeakName → Run
begun x = (console_start operator 3 (pair_of x).sizes).run

pub record Real (x : LeakName) : Type 0 where
  pub started : (console_start operator 3 (pair_of x).sizes).answer ≡ Ok tt
  pub alike : map (hidden x) (exposed 1 (begun x) (pair_of x).one) ≡ map (hidden x) (exposed 1 (begun x) (pair_of x).another)
  pub differs : seen 1 (begun x) (pair_of x).one ≡ seen 1 (begun x) (pair_of x).another → ⊥

unfoldable pub EveryLeakIsReal : Type 0
EveryLeakIsReal = (x : LeakName) → Real x

-- And what is not exposed is skipped: all that the neighbour does among its own processes, before the tenant asks for its list.
abbrev pub among_itself : List ConsoleCall
among_itself =
    neighbour (checkpoint 1 (deletion_list 3))
    ∷ neighbour (send 1 2)
    ∷ neighbour (deliver 1 (deletion_list 3))
    ∷ neighbour (send 2 1)
    ∷ neighbour (lose 2)
    ∷ neighbour (line 2 (line_list 3))
    ∷ neighbour (recover 2 (deletion_list 3) (line_list 3))
    ∷ []

unfoldable pub OthersAreSkipped : Type 0
OthersAreSkipped = exposed 1 (begun number) (among_itself ++ (tenants_list ∷ [])) ≡ exposed 1 (begun number) (tenants_list ∷ [])
