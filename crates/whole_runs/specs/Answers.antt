-- What every answer of a list of calls is, by the surviving history before the call and the call's arguments, and by nothing in a state.
-- Document 01: the surviving history "is built from the calls and their answers, and from nothing in the state".
-- Assumes nothing.
use Rattle.std.specs.Prelude.{◌≡◌, ◌&&◌, ◌||◌, ◌∷◌, ◌++◌, ◌⊎◌, ◌+◌, ◌-◌, ◌*◌, ◌^◌, ◌≤◌, ◌<◌}
use Rattle.laws.specs.Basics.{Bool, true, false, not, List, [], Option, None, Some, ℕ, suc, eqb, ltb, leb, length, get_or, drop, pick}
use mathlib.Core.List.{Memᴰ}
use Rattle.laws.specs.{Lists.table, Lists.gather, Search.any_below, Tests.count_below, Tests.some_of}
use Rattle.model.specs.declared.Named.{Named}
use Rattle.model.specs.Words.{in_set, failed, most_blocks, most_processes, most_block_count, most_interval, most_under_way, most_messages}
use Rattle.histories.specs.History.{sent, Line, checkpoints, after_state, before_checkpoint, Consistent, before, ComesBefore}
use Rattle.whole_runs.specs.Calls.{Call, checkpoint, send, deliver, lose, recover, line, earliest, Exchange}
use Rattle.whole_runs.specs.{Earliest.some_absent, Earliest.unfit, Survival.Surviving, Survival.after, Survival.surviving, Best.Possible}

-- A reason to refuse a call, with its number.
pub record Reason : Type 0 where
  pub holds : Bool
  pub number : ℕ

-- "Where several hold, the lowest number is given. Each is given when its condition holds and at no other time." Each list below ascends by number;
-- 0 where none holds: the call is accepted.
unfoldable pub lowest : List Reason → ℕ
lowest [] = 0
lowest (x ∷ l) = pick x.holds x.number (lowest l)

-- How many messages are under way. Numbers run from 1 to the number of accepted sends.
unfoldable pub count_under_way : Surviving → ℕ
count_under_way h = count_below (suc h.sends) h.underway

-- "its index is one above the last checkpoint there": the index of p's live state, which is the number of checkpoints in its list.
abbrev pub live_of : Surviving → ℕ → ℕ
live_of h p = checkpoints (h.lists p)

-- "3: deletion list below 2 × n × n entries, or line list below n."
abbrev pub too_short : ℕ → List ℕ → Bool
too_short n deleted = ltb (length deleted) (2 * n * n)

-- One more checkpoint of p "would take written past 1,000,000,000,000,000".
abbrev pub past_bound : Surviving → ℕ → Bool
past_bound h p = ltb most_blocks (h.written + h.block_counts p)

-- "1: start with a count outside 1 to 16." Note 5: "15, at the start after 1, for a block count outside 1 to 65,535"; "those at n and above are neither judged
-- nor stored".
unfoldable pub start_reasons : ℕ → List ℕ → List Reason
start_reasons n block_counts =
    record { holds = ltb n 1 || ltb most_processes n; number = 1 }
    ∷ record { holds = any_below n (λ p. ltb (get_or block_counts p 0) 1 || ltb most_block_count (get_or block_counts p 0)); number = 15 }
    ∷ []

-- "4: process not below n. 5: sender is receiver." "7: failed set has a bit at n or above. 8: message not under way.
-- 9: send with 64 under way. 10: send with number 1,000,000 used. 11: a checkpoint, or a delivery that forces one, where the own entry is 65,535."
-- Note 5: "16, after 11, for a stored checkpoint that would take written past 1,000,000,000,000,000".
-- Note 8: "18, after 7, for a list that is empty, longer than n or names a process twice; 19 for a checkpoint not kept; 20 for two of which one comes causally
-- before the other. The list is judged for 4 before 18." Kept is by the pairs handed out.
-- Number 2 is never given on such a list of calls. `forcing` says whether the delivery would force a checkpoint, `ordered` whether one of two named
-- checkpoints comes before the other.
unfoldable pub reasons : ℕ → Surviving → Bool → Bool → Call → List Reason
reasons n h forcing ordered (checkpoint i deleted) =
    record { holds = too_short n deleted; number = 3 }
    ∷ record { holds = leb n i; number = 4 }
    ∷ record { holds = leb most_interval (live_of h i); number = 11 }
    ∷ record { holds = past_bound h i; number = 16 }
    ∷ []
reasons n h forcing ordered (send i j) =
    record { holds = leb n i || leb n j; number = 4 }
    ∷ record { holds = eqb i j; number = 5 }
    ∷ record { holds = leb most_under_way (count_under_way h); number = 9 }
    ∷ record { holds = leb most_messages h.sends; number = 10 }
    ∷ []
reasons n h forcing ordered (deliver m deleted) =
    record { holds = too_short n deleted; number = 3 }
    ∷ record { holds = not (h.underway m); number = 8 }
    ∷ record { holds = forcing && leb most_interval (live_of h (h.receiver m)); number = 11 }
    ∷ record { holds = forcing && past_bound h (h.receiver m); number = 16 }
    ∷ []
reasons n h forcing ordered (lose m) = record { holds = not (h.underway m); number = 8 } ∷ []
reasons n h forcing ordered (recover F deleted lent) =
    record { holds = too_short n deleted || ltb (length lent) n; number = 3 }
    ∷ record { holds = leb (2 ^ n) F; number = 7 }
    ∷ []
reasons n h forcing ordered (line F lent) =
    record { holds = ltb (length lent) n; number = 3 }
    ∷ record { holds = leb (2 ^ n) F; number = 7 }
    ∷ []
reasons n h forcing ordered (earliest l lent) =
    record { holds = ltb (length lent) n; number = 3 }
    ∷ record { holds = some_absent n l; number = 4 }
    ∷ record { holds = unfit n l; number = 18 }
    ∷ record { holds = some_of (λ c. not (h.kept c.process c.index.0)) l; number = 19 }
    ∷ record { holds = ordered; number = 20 }
    ∷ []

-- The value of an accepted call: "checkpoint: index; send: message number; deliver: forced index, if any; .. recover: how many rolled back".
-- A process rolled back "where the index written for a process is that of a checkpoint in its list".
unfoldable pub value_of : ℕ → Surviving → Bool → Call → List ℕ → Option ℕ
value_of n h forcing (checkpoint i deleted) indexes = Some (live_of h i)
value_of n h forcing (send i j) indexes = Some (h.sends + 1)
value_of n h forcing (deliver m deleted) indexes = pick forcing (Some (live_of h (h.receiver m))) None
value_of n h forcing (lose m) indexes = None
value_of n h forcing (recover F deleted lent) indexes = Some (count_below n (λ p. ltb (get_or indexes p 0) (live_of h p)))
value_of n h forcing (line F lent) indexes = None
value_of n h forcing (earliest l lent) indexes = None

-- The deletion list and the line list that a call is lent; one that it is not lent is empty. The failed set of a call that names one.
unfoldable pub lent_deletions : Call → List ℕ
lent_deletions (checkpoint i deleted) = deleted
lent_deletions (send i j) = []
lent_deletions (deliver m deleted) = deleted
lent_deletions (lose m) = []
lent_deletions (recover F deleted lent) = deleted
lent_deletions (line F lent) = []
lent_deletions (earliest l lent) = []

unfoldable pub lent_line : Call → List ℕ
lent_line (checkpoint i deleted) = []
lent_line (send i j) = []
lent_line (deliver m deleted) = []
lent_line (lose m) = []
lent_line (recover F deleted lent) = lent
lent_line (line F lent) = lent
lent_line (earliest l lent) = lent

unfoldable pub failed_set : Call → Option ℕ
failed_set (checkpoint i deleted) = None
failed_set (send i j) = None
failed_set (deliver m deleted) = None
failed_set (lose m) = None
failed_set (recover F deleted lent) = Some F
failed_set (line F lent) = Some F
failed_set (earliest l lent) = None

-- "what lies past the pairs is unchanged", "the rest of it is unchanged": numbers at the front of a lent list, the rest as it was lent.
abbrev pub at_front : List ℕ → List ℕ → List ℕ
at_front numbers lent = numbers ++ drop (length numbers) lent

-- "the deleted checkpoints .. as pairs process, index, by process, then index, ascending": those in the lists before that were kept before the call
-- and are not kept after it, both by the pairs handed out. So a pair names a checkpoint that was kept, never one that this call stores; each is
-- handed out once; and a kept checkpoint that a recovery takes from its list is among them. Which of the others go is defined in Needed.
unfoldable pub gone_pairs : ℕ → Surviving → Surviving → List ℕ
gone_pairs n old now = gather n (λ p. gather (live_of old p) (λ k. pick (old.kept p k && not (now.kept p k)) (p ∷ k ∷ []) []))

-- "Recover and line write n indexes", and so does Note 8's call; the others write none.
unfoldable pub indexes_of : ℕ → Call → List ℕ → List ℕ
indexes_of n (checkpoint i deleted) list = []
indexes_of n (send i j) list = []
indexes_of n (deliver m deleted) list = []
indexes_of n (lose m) list = []
indexes_of n (recover F deleted lent) list = table n (λ p. get_or list p 0)
indexes_of n (line F lent) list = table n (λ p. get_or list p 0)
indexes_of n (earliest l lent) list = table n (λ p. get_or list p 0)

-- "If the sent mark is set": a send stands after the last checkpoint of p's list.
unfoldable pub SentSince : Surviving → ℕ → Type 0
SentSince h p = (m : ℕ) × Memᴰ (sent m) (after_state (live_of h p - 1) (h.lists p))

-- ".. and some carried entry is greater than i's": "Checkpoint a of f comes causally before a state exactly if a is less than that state's entry f".
-- m brings its receiver news of f: a checkpoint of f comes before the sending of m, and not before the live state of m's receiver. The receiver then learns
-- of a later interval of f than it knew.
unfoldable pub BringsNewsOf : Surviving → ℕ → ℕ → Type 0
BringsNewsOf h m f = (a q : ℕ) × Memᴰ (sent m) (h.lists q) × ComesBefore h.lists f a q (before m (h.lists q))
    × (ComesBefore h.lists f a (h.receiver m) (h.lists (h.receiver m)) → ⊥)

-- It brings news of some process of the run.
unfoldable pub BringsNews : ℕ → Surviving → ℕ → Type 0
BringsNews n h m = (f : ℕ) × (f < n) × BringsNewsOf h m f

-- "first do a checkpoint at i (forced)"
unfoldable pub Forces : ℕ → Surviving → ℕ → Type 0
Forces n h m = SentSince h (h.receiver m) × BringsNews n h m

-- Note 1: "the set of entries that rose, as a number of 16 bits, exact in every case". What is promised of the set that an accepted delivery of m gives, judged
-- by the history h before that call.
pub record RightRisen (n : ℕ) (h : Surviving) (m : ℕ) (rose : ℕ) : Type 0 where
  pub small : rose < 65_536
  -- bit f is set exactly if m brings news of f, "whose news it brought"
  pub if_news : (f : ℕ) → f < n → BringsNewsOf h m f → in_set rose f ≡ true
  pub only_if_news : (f : ℕ) → f < n → in_set rose f ≡ true → BringsNewsOf h m f
  -- no bit stands for a process that the run does not have
  pub no_more : (f : ℕ) → n ≤ f → in_set rose f ≡ false

-- What is promised of the n indexes that a line or recover call for the failed set F writes, judged by the history h before that call.
pub record RightLine (n : ℕ) (h : Surviving) (F : ℕ) (written : Line) : Type 0 where
  -- "the reported line is consistent by the messages of the surviving history alone"
  pub consistent : Consistent n h.lists written
  -- "no other consistent line with the failed processes at stored checkpoints is later anywhere": of every line whose members are
  -- checkpoints of the lists, deleted or not, or live states
  pub maximal : (other : Line) → Possible n h.lists F other → (p : ℕ) → p < n → other p ≤ written p
  -- "each member is a live state of a process that has not failed, or a kept checkpoint", kept by the pairs handed out
  pub members : (p : ℕ) → p < n → ((written p ≡ live_of h p) × (failed F p ≡ false)) ⊎ ((written p < live_of h p) × (h.kept p (written p) ≡ true))

-- Note 8: "19 for a checkpoint not kept": all of a list are kept, by the pairs handed out.
unfoldable pub AllKept : ℕ → Surviving → List Named → Type 0
AllKept n h l = (c : Named) → Memᴰ c l → (c.process < n) × (h.kept c.process c.index.0 ≡ true)

-- "20 for two of which one comes causally before the other": by the messages alone. A checkpoint does not come before itself, so the two are two.
unfoldable pub SomeOrdered : Surviving → List Named → Type 0
SomeOrdered h l = (c d : Named) × Memᴰ c l × Memᴰ d l
    × ComesBefore h.lists c.process c.index.0 d.process (before_checkpoint d.index.0 (h.lists d.process))

-- A line "passes through every named one".
unfoldable pub Through : List Named → Line → Type 0
Through l members = (c : Named) → Memᴰ c l → members c.process ≡ c.index.0

-- Note 8: "it must be shown that the line is consistent by messages, passes through every named one, and is nowhere later than any other consistent line that
-- does". What is promised of the n indexes that an accepted call for the list l writes, judged by the history h before that call.
pub record RightEarliest (n : ℕ) (h : Surviving) (l : List Named) (written : Line) : Type 0 where
  -- its members are checkpoints of the lists, deleted or not, or live states
  pub within : (p : ℕ) → p < n → written p ≤ live_of h p
  pub consistent : Consistent n h.lists written
  pub through : Through l written
  pub nowhere_later : (other : Line) → ((p : ℕ) → p < n → other p ≤ live_of h p) → Consistent n h.lists other → Through l other → (p : ℕ) → p < n → written p ≤ other p

-- No consistent line passes through all of a list. Number 20 is given only then.
unfoldable pub NoneThrough : ℕ → Surviving → List Named → Type 0
NoneThrough n h l = (other : Line) → ((p : ℕ) → p < n → other p ≤ live_of h p) → Consistent n h.lists other → Through l other → ⊥

-- What is promised of an answer, where h is the surviving history before the call.
pub record AnswerIsRight (n : ℕ) (h : Surviving) (e : Exchange) : Type 0 where
  -- whether a delivery forces a checkpoint: of a message under way, exactly if the history says so
  pub forcing : Bool
  pub forces_if : (m : ℕ) (deleted : List ℕ) → e.made ≡ deliver m deleted → h.underway m ≡ true → Forces n h m → forcing ≡ true
  pub only_if : (m : ℕ) (deleted : List ℕ) → e.made ≡ deliver m deleted → h.underway m ≡ true → forcing ≡ true → Forces n h m
  -- whether one of two named checkpoints comes before the other: of a list of kept ones, exactly if the history says so
  pub ordered : Bool
  pub ordered_if : (l : List Named) (lent : List ℕ) → e.made ≡ earliest l lent → AllKept n h l → SomeOrdered h l → ordered ≡ true
  pub ordered_only_if : (l : List Named) (lent : List ℕ) → e.made ≡ earliest l lent → AllKept n h l → ordered ≡ true → SomeOrdered h l
  -- the number, 0 if accepted
  pub number : e.reply.report.refused ≡ lowest (reasons n h forcing ordered e.made)
  -- "A refusal returns its number ..; lent lists and buffers keep every entry." Note 1: "and 0 with a refusal"
  pub refused : (e.reply.report.refused ≡ 0 → ⊥)
      → (e.reply.report.value ≡ None) × (e.reply.report.deletions ≡ 0) × (e.reply.deleted ≡ lent_deletions e.made) × (e.reply.line ≡ lent_line e.made)
      × (e.reply.rose ≡ 0)
  -- if accepted: the value; the pairs, their number and the rest of the list; the line and the rest of its list
  pub value : e.reply.report.refused ≡ 0 → e.reply.report.value ≡ value_of n h forcing e.made e.reply.line
  pub pairs : e.reply.report.refused ≡ 0 → e.reply.deleted ≡ at_front (gone_pairs n h (after n h e)) (lent_deletions e.made)
  pub count : e.reply.report.refused ≡ 0 → 2 * e.reply.report.deletions ≡ length (gone_pairs n h (after n h e))
  pub line_list : e.reply.report.refused ≡ 0 → e.reply.line ≡ at_front (indexes_of n e.made e.reply.line) (lent_line e.made)
  -- the set of entries that rose; 0 of a call that is no delivery
  pub rose_right : e.reply.report.refused ≡ 0 → (m : ℕ) (deleted : List ℕ) → e.made ≡ deliver m deleted → RightRisen n h m e.reply.rose
  pub rose_none : ((m : ℕ) (deleted : List ℕ) → e.made ≡ deliver m deleted → ⊥) → e.reply.rose ≡ 0
  pub line_right : e.reply.report.refused ≡ 0 → (F : ℕ) → failed_set e.made ≡ Some F → RightLine n h F (λ p. get_or e.reply.line p 0)
  pub earliest_right : e.reply.report.refused ≡ 0 → (l : List Named) (lent : List ℕ) → e.made ≡ earliest l lent → RightEarliest n h l (λ p. get_or e.reply.line p 0)
  -- "20 for two of which one comes causally before the other": then no consistent line passes through all of them
  pub none_through : e.reply.report.refused ≡ 20 → (l : List Named) (lent : List ℕ) → e.made ≡ earliest l lent → NoneThrough n h l

-- Every answer of a transcript is right, judged by the surviving history of the exchanges before it.
unfoldable pub AnswersAreRight : ℕ → List ℕ → List Exchange → Type 0
AnswersAreRight n block_counts whole = (earlier later : List Exchange) (e : Exchange) → whole ≡ earlier ++ (e ∷ later) → AnswerIsRight n (surviving n block_counts earlier) e
