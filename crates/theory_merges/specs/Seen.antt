-- Note 14, "Nothing more could go": what a process sees of a run, and that no rule that goes by it could delete more. proofs/NothingMore has the theorems.
-- Assumes nothing.
use Rattle.std.specs.Prelude.{◌≡◌, ◌&&◌, ◌∷◌, ◌++◌, ◌^◌, ◌<◌}
use Rattle.laws.specs.Basics.{Bool, true, false, not, List, [], Option, None, Some, ℕ, eqb, replicate, pick}
use Rattle.model.specs.declared.{Interval.Interval, Run.Run}
use Rattle.model.specs.{Words.ones, Refusals.start_refusal}
use Rattle.whole_runs.specs.{Outcomes.message, Outcomes.start_outcome, Survival.surviving, Best.InBestLine}
use Rattle.whole_runs.specs.Calls.{Call, checkpoint, send, deliver, lose, recover, line, earliest, call, transcript}

-- "this process sees the same own events and the same carried vectors, message numbers set aside": an event of a process, as it sees it.
pub data Seen : Type 0 where
  -- a checkpoint that it took of its own accord
  took : Seen
  -- a checkpoint that a delivery forced
  forced : Seen
  -- a send, with its receiver
  sent_to : ℕ → Seen
  -- a receipt, with the sender of the message and the vector that it carried
  got : ℕ → List Interval → Seen

-- "the next checkpoint, if the answer names a forced one"
unfoldable pub forced_in : Option ℕ → List Seen
forced_in None = []
forced_in (Some index) = forced ∷ []

-- What process i sees of an accepted call on the state s. A message comes with its sender and its vector, which no answer repeats: they are those of the message
-- under way. Nobody sees that a message was lost or that somebody asked for a line; the runs of this note have no recovery.
unfoldable pub seen_of : ℕ → Run → Call → List Seen
seen_of i s (checkpoint p deleted) = pick (eqb p i) (took ∷ []) []
seen_of i s (send p q) = pick (eqb p i) (sent_to q ∷ []) []
seen_of i s (deliver m deleted) =
    let x = message s m in
    pick (eqb x.receiver i) (forced_in (call s (deliver m deleted)).reply.report.value ++ (got x.sender x.vector ∷ [])) []
seen_of i s (lose m) = []
seen_of i s (recover F deleted lent) = []
seen_of i s (line F lent) = []
seen_of i s (earliest l lent) = []

unfoldable pub is_accepted : Run → Call → Bool
is_accepted s c = eqb (call s c).reply.report.refused 0

-- What process i sees of a list of calls from the state s, the oldest event first. A refused call shows nothing.
unfoldable pub seen : ℕ → Run → List Call → List Seen
seen i s [] = []
seen i s (c ∷ l) = pick (is_accepted s c) (seen_of i s c) [] ++ seen i (call s c).run l

-- "a run, accepted by the same rules": no call of it is refused, by any number of document 01's table, those of the limits among them.
unfoldable pub all_accepted : Run → List Call → Bool
all_accepted s [] = true
all_accepted s (c ∷ l) = is_accepted s c && all_accepted (call s c).run l

-- "in runs without recovery or sweep": no recover call is accepted, for whatever failed set.
unfoldable pub is_recovery : Call → Bool
is_recovery (checkpoint p deleted) = false
is_recovery (send p q) = false
is_recovery (deliver m deleted) = false
is_recovery (lose m) = false
is_recovery (recover F deleted lent) = true
is_recovery (line F lent) = false
is_recovery (earliest l lent) = false

unfoldable pub unrecovered : Run → List Call → Bool
unrecovered s [] = true
unrecovered s (c ∷ l) = not (is_recovery c && is_accepted s c) && unrecovered (call s c).run l

-- What these definitions say of small runs of two processes; proofs/Examples has the theorem.
abbrev pub two : Run
two = (start_outcome 2 ones).run

abbrev pub room : List ℕ
room = replicate 8 0

abbrev pub entries : ℕ → ℕ → List Interval
entries a b = record { 0 = a } ∷ record { 0 = b } ∷ replicate 14 (record { 0 = 0 })

pub record SeenExamples : Type 0 where
  -- a message from 0 to 1: 0 sees where it goes, 1 where it comes from and its vector
  pub sender_sees : seen 0 two (send 0 1 ∷ deliver 1 room ∷ []) ≡ sent_to 1 ∷ []
  pub receiver_sees : seen 1 two (send 0 1 ∷ deliver 1 room ∷ []) ≡ got 0 (entries 1 0) ∷ []
  -- if 0 takes a checkpoint before, 1 sees another vector; if 0's first message is lost, 1 sees no difference, though the number is another
  pub other_vector : seen 1 two (checkpoint 0 room ∷ send 0 1 ∷ deliver 1 room ∷ []) ≡ got 0 (entries 2 0) ∷ []
  pub other_number : seen 1 two (send 0 1 ∷ lose 1 ∷ send 0 1 ∷ deliver 2 room ∷ []) ≡ got 0 (entries 1 0) ∷ []
  -- a process sees a checkpoint of its own accord and a forced one as two things
  pub own_checkpoints : seen 1 two (checkpoint 1 room ∷ send 1 0 ∷ send 0 1 ∷ deliver 2 room ∷ []) ≡ took ∷ sent_to 0 ∷ forced ∷ got 0 (entries 1 0) ∷ []
  -- refused calls, and events of others, show nothing
  pub refused_calls : seen 0 two (send 0 0 ∷ checkpoint 0 [] ∷ deliver 1 room ∷ []) ≡ []
  pub others_events : seen 0 two (checkpoint 1 room ∷ send 1 0 ∷ lose 1 ∷ line 1 room ∷ []) ≡ []
  -- a run with an accepted recovery or sweep is none without; a refused one does not count
  pub recovery : unrecovered two (send 0 1 ∷ recover 1 room room ∷ []) ≡ false
  pub sweep : unrecovered two (send 0 1 ∷ recover 0 room room ∷ []) ≡ false
  pub refused_recovery : unrecovered two (send 0 1 ∷ recover 4 room room ∷ []) ≡ true

-- As far as process i can see, checkpoint k of i may be needed: "there is a run, accepted by the same rules, in which this process sees the same own events and the
-- same carried vectors, message numbers set aside, and some one process's failure puts that checkpoint in the best line".
pub record MayBeNeeded (n : ℕ) (block_counts : List ℕ) (calls : List Call) (i k : ℕ) : Type 0 where
  pub others : List Call
  pub accepted : all_accepted (start_outcome n block_counts).run others ≡ true
  -- a run without recovery or sweep as well
  pub no_recovery : unrecovered (start_outcome n block_counts).run others ≡ true
  pub same : seen i (start_outcome n block_counts).run others ≡ seen i (start_outcome n block_counts).run calls
  pub failing : ℕ
  pub inside : failing < n
  pub used : InBestLine n (surviving n block_counts (transcript (start_outcome n block_counts).run others)).lists (2 ^ failing) i k

-- Note 14: "in runs without recovery or sweep: for each kept checkpoint of a process there is a run ..". Kept by the pairs handed out.
unfoldable pub NothingMoreCouldGo : Type 0
NothingMoreCouldGo = (n : ℕ) (block_counts : List ℕ) → start_refusal n block_counts ≡ None → (calls : List Call) → unrecovered (start_outcome n block_counts).run calls ≡ true
    → (i k : ℕ) → i < n → (surviving n block_counts (transcript (start_outcome n block_counts).run calls)).kept i k ≡ true → MayBeNeeded n block_counts calls i k

-- "A site asked whether a cleverer rule could delete more without extra messages." A rule says which checkpoints a process keeps: by the process, by what it has
-- seen, and by nothing else.
abbrev pub KeepingRule : Type 0
KeepingRule = ℕ → List Seen → ℕ → Bool

-- A rule is safe if in every run without recovery or sweep it keeps whatever the failure of one process would use.
unfoldable pub SafeRule : ℕ → List ℕ → KeepingRule → Type 0
SafeRule n block_counts rule = (calls : List Call) → all_accepted (start_outcome n block_counts).run calls ≡ true → unrecovered (start_outcome n block_counts).run calls ≡ true
    → (i k f : ℕ) → i < n → f < n → InBestLine n (surviving n block_counts (transcript (start_outcome n block_counts).run calls)).lists (2 ^ f) i k
    → rule i (seen i (start_outcome n block_counts).run calls) k ≡ true

-- "Show that it could not": a safe rule keeps all that the library keeps.
unfoldable pub NoRuleDeletesMore : Type 0
NoRuleDeletesMore = (n : ℕ) (block_counts : List ℕ) → start_refusal n block_counts ≡ None → (rule : KeepingRule) → SafeRule n block_counts rule
    → (calls : List Call) → unrecovered (start_outcome n block_counts).run calls ≡ true
    → (i k : ℕ) → i < n → (surviving n block_counts (transcript (start_outcome n block_counts).run calls)).kept i k ≡ true → rule i (seen i (start_outcome n block_counts).run calls) k ≡ true
