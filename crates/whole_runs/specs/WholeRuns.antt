-- Demand 3, "Right over whole runs", as one type. Its proof is in proofs/.
-- Assumes nothing.
use Rattle.std.specs.Prelude.{◌≡◌, ◌&&◌, ◌∷◌, ◌++◌, ◌⊎◌, ◌+◌, ◌*◌, ◌^◌, ◌≤◌, ◌<◌, Ok}
use Rattle.laws.specs.Basics.{true, not, List, [], Option, None, Some, ℕ, eqb, length, get_or}
use Rattle.laws.specs.{Search.all_below, Sums.sum_below, Tests.count_below, Tests.every, Tests.some_of}
use Prim.{tt}
use Rattle.model.specs.declared.{Checkpoint.Checkpoint, Named.Named, Run.Run, Event.Event}
use Rattle.model.specs.declared.Refusal.TheVariants.{ListTooShort, CausallyOrdered}
use Rattle.model.specs.{Words.ones, Words.last_stored_of, Words.comes_before, Words.names, Words.process, Words.keeps_in, Words.own, Words.failed, Sound.sound}
use Rattle.model.specs.{Steps.start_state, Steps.allowed, Steps.line_of, Refusals.start_refusal, Refusals.line_refusal, Refusals.recover_refusal}
use Rattle.histories.specs.History.{Line, checkpoints}
use Rattle.whole_runs.specs.{Outcomes.start_outcome, Outcomes.line_outcome, Outcomes.recover_outcome, Outcomes.start_report, Needed.Needed}
use Rattle.whole_runs.specs.{Earliest.greatest, Earliest.earliest_refusal, Calls.Call, Calls.state_after, Calls.transcript}
use Rattle.whole_runs.specs.{Listing.most_records, Listing.perform, Listing.state_after_records, Survival.Surviving, Survival.surviving}
use Rattle.whole_runs.specs.Answers.{lowest, start_reasons, RightLine, AnswersAreRight, RightEarliest, NoneThrough}

-- "The reported line is the n indexes that a line or recover call for the failed set then writes"
abbrev pub reported : Run → ℕ → Line
reported s F p = get_or (line_of s F) p 0

-- What is promised of a state s and the surviving history h before a line or recover call for the failed set F.
pub record LineIsRight (n : ℕ) (s : Run) (h : Surviving) (F : ℕ) : Type 0 where
  -- the state is sound; "on such a state this call meets no number but 3"
  pub state_sound : sound s ≡ true
  pub line_accepted : (lent : List ℕ) → n ≤ length lent → line_refusal s F lent ≡ None
  pub line_short : (lent : List ℕ) → length lent < n → line_refusal s F lent ≡ Some ListTooShort
  pub recover_accepted : (deleted lent : List ℕ) → 2 * n * n ≤ length deleted → n ≤ length lent → recover_refusal s F deleted lent ≡ None
  pub recover_short : (deleted lent : List ℕ) → (length deleted < 2 * n * n) ⊎ (length lent < n) → recover_refusal s F deleted lent ≡ Some ListTooShort
  -- both calls write the same line
  pub line_writes : (lent : List ℕ) → n ≤ length lent → (p : ℕ) → p < n → get_or (line_outcome s F lent).line p 0 ≡ reported s F p
  pub recover_writes : (deleted lent : List ℕ) → 2 * n * n ≤ length deleted → n ≤ length lent → (p : ℕ) → p < n
      → get_or (recover_outcome s F deleted lent).line p 0 ≡ reported s F p
  -- the line rule by precedence: it accepts a state exactly if the last stored checkpoint of no failed process comes causally before that state
  pub by_precedence : (c : Checkpoint) → allowed s F c ≡ all_below n (λ f. not (failed F f && comes_before (last_stored_of (own s f)) f c.vector))
  -- the line is right by the history
  pub right : RightLine n h F (reported s F)

-- What is promised of a state and its surviving history whoever fails: kept by the pairs handed out are exactly the checkpoints that the state keeps,
-- "the pins name exactly the kept ones", and "no process keeps more than n".
pub record KeptIsRight (n : ℕ) (s : Run) (h : Surviving) : Type 0 where
  pub kept_in_state : (p k : ℕ) → p < n → keeps_in s p k ≡ h.kept p k
  pub kept_by_pins : (p k : ℕ) → p < n → some_of (λ pin. names pin (record { 0 = k })) (process s p).pins ≡ h.kept p k
  pub at_most_n : (p : ℕ) → p < n → count_below (checkpoints (h.lists p)) (h.kept p) ≤ n
  -- and they are exactly those that the lists need, so that the pairs handed out are fixed by the history before them and the call
  pub needed : (p k : ℕ) → p < n → h.kept p k ≡ true → Needed n h p k
  pub kept_if_needed : (p k : ℕ) → p < n → Needed n h p k → h.kept p k ≡ true

-- Note 5, of a state and its surviving history.
pub record BlocksAreRight (n : ℕ) (s : Run) (h : Surviving) : Type 0 where
  -- "The state also carries blocks written and blocks deleted": those of the history
  pub written_in_state : s.disk.written ≡ h.written
  pub deleted_in_state : s.disk.deleted ≡ h.deleted
  -- "At every moment written equals blocks of all kept checkpoints plus blocks deleted", kept by the pairs handed out
  pub balance : h.written ≡ sum_below n (λ p. count_below (checkpoints (h.lists p)) (h.kept p) * h.block_counts p) + h.deleted
  -- "Each kept checkpoint now records its cause .. and its process's block count"
  pub recorded : (p : ℕ) → p < n → every (λ c. eqb c.cause (h.cause p c.index.0) && eqb c.blocks (h.block_counts p)) (process s p).kept ≡ true

-- The number of a start, 0 if it is accepted, by what it is handed alone.
unfoldable pub StartsAreRight : Type 0
StartsAreRight = (n : ℕ) (block_counts : List ℕ) → (start_report (start_outcome n block_counts).answer).refused ≡ lowest (start_reasons n block_counts)

-- Note 5: "those at n and above are neither judged nor stored": starts whose counts below n are the same have the same outcome.
unfoldable pub CountsBelowDecide : Type 0
CountsBelowDecide = (n : ℕ) (a b : List ℕ) → ((p : ℕ) → p < n → get_or a p 0 ≡ get_or b p 0) → start_outcome n a ≡ start_outcome n b

-- Demand 3: for every accepted start (n from 1 to 16, block counts from 1 to 65,535), every list of calls from the state that it returned, and every failed
-- set, the empty one of a sweep too. "A restart after a sweep is owed the same line as after any other call": a sweep is one of the calls. What every answer
-- is, by the surviving history before it, is in Answers; which checkpoints are kept, by the lists alone, is in Needed. Together they leave nothing in an
-- answer free.
unfoldable pub RightOverWholeRuns : Type 0
RightOverWholeRuns = (n : ℕ) (block_counts : List ℕ) → start_refusal n block_counts ≡ None → (calls : List Call) →
    let s₀ = (start_outcome n block_counts).run in
    let s = state_after s₀ calls in
    let h = surviving n block_counts (transcript s₀ calls) in
    ((start_outcome n block_counts).answer ≡ Ok tt) × (AnswersAreRight n block_counts (transcript s₀ calls)) × (KeptIsRight n s h) × (BlocksAreRight n s h)
    × ((F : ℕ) → F < 2 ^ n → LineIsRight n s h F)

-- A state that calls from an accepted start reach.
unfoldable pub Reachable : Run → Type 0
Reachable s = (n : ℕ) × (block_counts : List ℕ) × (start_refusal n block_counts ≡ None) × (calls : List Call) × (s ≡ state_after (start_outcome n block_counts).run calls)

-- Note 5: "a trace run uses 1". A state that calls from an accepted start with these block counts reach. The replay of a trace has no other states.
unfoldable pub Traced : Run → Type 0
Traced s = (n : ℕ) × (start_refusal n ones ≡ None) × (calls : List Call) × (s ≡ state_after (start_outcome n ones).run calls)

-- No record of a trace meets 16: whatever bytes stand before it, up to record 1,000,000,000, the last that the program reads.
unfoldable pub TraceMeetsNoBound : Type 0
TraceMeetsNoBound = (n : ℕ) → start_refusal n ones ≡ None → (bytes : List ℕ) → length bytes < 4 * most_records → (next : Option Event)
    → (perform (state_after_records (start_state n ones) bytes) next).reply.report.refused ≡ 16 → ⊥

-- Demand 3 as a line or recover call says it of the state s that it is handed: whatever calls from an accepted start led to s, the line for the
-- failed set F and the checkpoints that are kept are right, judged by the surviving history of those calls.
unfoldable pub LinePromise : Run → ℕ → Type 0
LinePromise s F = (n : ℕ) (block_counts : List ℕ) → start_refusal n block_counts ≡ None → (calls : List Call) → s ≡ state_after (start_outcome n block_counts).run calls → F < 2 ^ n →
    let h = surviving n block_counts (transcript (start_outcome n block_counts).run calls) in
    (LineIsRight n s h F) × (KeptIsRight n s h)

-- Note 8: what is promised of a state s and the surviving history h before a call for the named checkpoints l, with the line list as it is lent.
pub record EarliestIsRight (n : ℕ) (s : Run) (h : Surviving) (l : List Named) (lent : List ℕ) : Type 0 where
  -- the line of an accepted call is right by the history
  pub right : earliest_refusal s l lent ≡ None → RightEarliest n h l (greatest s l)
  -- 20 is given only where no consistent line passes through all of them
  pub none_through : earliest_refusal s l lent ≡ Some CausallyOrdered → NoneThrough n h l

-- Note 8 as the call says it of the state that it is handed: "On every state reached from a start".
unfoldable pub EarliestPromise : Run → List Named → List ℕ → Type 0
EarliestPromise s l lent = (n : ℕ) (block_counts : List ℕ) → start_refusal n block_counts ≡ None → (calls : List Call) → s ≡ state_after (start_outcome n block_counts).run calls
    → EarliestIsRight n s (surviving n block_counts (transcript (start_outcome n block_counts).run calls)) l lent

-- Demand 3 as a call c on the state s says it of the state t that it returns: whatever calls from an accepted start led to s, what t keeps and its blocks
-- are right, judged by the surviving history of those calls and of this one after them, refused or accepted.
unfoldable pub StatePromise : Run → Call → Run → Type 0
StatePromise s c t = (n : ℕ) (block_counts : List ℕ) → start_refusal n block_counts ≡ None → (calls : List Call) → s ≡ state_after (start_outcome n block_counts).run calls →
    let h = surviving n block_counts (transcript (start_outcome n block_counts).run (calls ++ (c ∷ []))) in
    (KeptIsRight n t h) × (BlocksAreRight n t h)

-- The same as an accepted start says it of the state t that it returns, by the history of no call.
unfoldable pub StartPromise : ℕ → List ℕ → Run → Type 0
StartPromise n block_counts t = start_refusal n block_counts ≡ None → let h = surviving n block_counts [] in (KeptIsRight n t h) × (BlocksAreRight n t h)
