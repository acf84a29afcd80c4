-- The run as functions of process, state, message and so on: what the proofs about the whole run speak of. Beside what the state of the run holds it keeps
-- the vectors of all checkpoints of the surviving history, deleted or not, what each message carried, and the surviving history itself.
-- Each step is a total function; a proof uses it for accepted calls alone.
use Rattle.std.specs.Prelude.{◌&&◌, ◌||◌, ◌∷◌, ◌++◌, ◌+◌}
use Rattle.laws.specs.Basics.{Bool, true, false, not, List, [], Option, None, Some, ℕ, suc, max, eqb, ltb, leb, get_or, pick}
use Rattle.laws.specs.{Search.any_below, Search.all_below, Search.latest, Sums.sum_below, Update.upd}
use Rattle.histories.specs.History.{HistoryEvent, stored, sent, received, up_to}

-- What Note 5 of document 02 adds to a run: the cause of each checkpoint, each process's block count, the blocks written. And why the next checkpoint
-- is stored, if one is: `because` sets it before a step.
pub record Ledger : Type 0 where
  pub cause : ℕ → ℕ → ℕ
  pub block_counts : ℕ → ℕ
  pub written : ℕ
  pub why : ℕ

-- The run. States of process p are numbered: k below `own p` is a checkpoint of its surviving history, `own p` is its live state.
pub record Ideal : Type 0 where
  -- how many processes there are
  pub n : ℕ
  -- p's current interval, which is the index of its live state
  pub own : ℕ → ℕ
  -- `vector p k f` is entry f of state k of p
  pub vector : ℕ → ℕ → ℕ → ℕ
  -- p's sent mark
  pub mark : ℕ → Bool
  -- `pin p f` is the pin of p for f
  pub pin : ℕ → ℕ → Option ℕ
  -- message m is under way
  pub transit : ℕ → Bool
  -- `carried m f` is entry f of the vector that message m carried
  pub carried : ℕ → ℕ → ℕ
  -- the sender and the receiver of message m
  pub sender : ℕ → ℕ
  pub receiver : ℕ → ℕ
  -- the last used message number
  pub last : ℕ
  -- the surviving history, a list of events for each process
  pub events : ℕ → List HistoryEvent
  pub ledger : Ledger

-- A failed set, as a test of the process.
abbrev pub Failed : Type 0
Failed = ℕ → Bool

-- Start: each process stores checkpoint 0 with a vector of zeros; then own entries are 1, others 0. Own pins name checkpoint 0.
unfoldable pub begin : ℕ → Ideal
begin n = record {
  n = n;
  own = λ p. 1;
  vector = λ p k f. pick (eqb k 0) 0 (pick (eqb p f) 1 0);
  mark = λ p. false;
  pin = λ p f. pick (eqb p f) (Some 0) None;
  transit = λ m. false;
  carried = λ m f. 0;
  sender = λ m. 0;
  receiver = λ m. 0;
  last = 0;
  events = λ p. stored ∷ [];
  ledger = record { cause = λ p k. 0; block_counts = λ p. 0; written = 0; why = 0 };
}

-- The ledger once process i has stored its live state.
unfoldable pub stores : Ideal → ℕ → Ledger
stores r i = record {
  cause = upd r.ledger.cause i (upd (r.ledger.cause i) (r.own i) r.ledger.why);
  block_counts = r.ledger.block_counts;
  written = r.ledger.written + r.ledger.block_counts i;
  why = r.ledger.why;
}

-- The run with another ledger; with another reason for the next checkpoint.
abbrev pub with_ledger : Ideal → Ledger → Ideal
with_ledger r l = record {
  n = r.n;
  own = r.own;
  vector = r.vector;
  mark = r.mark;
  pin = r.pin;
  transit = r.transit;
  carried = r.carried;
  sender = r.sender;
  receiver = r.receiver;
  last = r.last;
  events = r.events;
  ledger = l;
}

abbrev pub because : ℕ → Ideal → Ideal
because why r = with_ledger r (record { cause = r.ledger.cause; block_counts = r.ledger.block_counts; written = r.ledger.written; why = why })

-- The start with block counts: each of the n processes has stored checkpoint 0.
unfoldable pub open_ledger : ℕ → List ℕ → Ledger
open_ledger n block_counts = record { cause = λ p k. 0; block_counts = λ p. get_or block_counts p 0; written = sum_below n (λ p. get_or block_counts p 0); why = 0 }

abbrev pub begun : ℕ → List ℕ → Ideal
begun n block_counts = with_ledger (begin n) (open_ledger n block_counts)

-- Checkpoint at i: its live state becomes checkpoint `own i`, which the own pin names; the new live state has one more at the own entry.
unfoldable pub checkpointed : Ideal → ℕ → Ideal
checkpointed r i = record {
  n = r.n;
  own = upd r.own i (suc (r.own i));
  vector = upd r.vector i (upd (r.vector i) (suc (r.own i)) (upd (r.vector i (r.own i)) i (suc (r.own i))));
  mark = upd r.mark i false;
  pin = upd r.pin i (upd (r.pin i) i (Some (r.own i)));
  transit = r.transit;
  carried = r.carried;
  sender = r.sender;
  receiver = r.receiver;
  last = r.last;
  events = upd r.events i (r.events i ++ (stored ∷ []));
  ledger = stores r i;
}

-- Send from i to j: the message carries i's vector; i's sent mark is set.
unfoldable pub sending : Ideal → ℕ → ℕ → Ideal
sending r i j = record {
  n = r.n;
  own = r.own;
  vector = r.vector;
  mark = upd r.mark i true;
  pin = r.pin;
  transit = upd r.transit (suc r.last) true;
  carried = upd r.carried (suc r.last) (r.vector i (r.own i));
  sender = upd r.sender (suc r.last) i;
  receiver = upd r.receiver (suc r.last) j;
  last = suc r.last;
  events = upd r.events i (r.events i ++ (sent (suc r.last) ∷ []));
  ledger = r.ledger;
}

-- Some entry that message m carries is greater than that of process i.
unfoldable pub newer : Ideal → ℕ → ℕ → Bool
newer r i m = any_below r.n (λ f. ltb (r.vector i (r.own i) f) (r.carried m f))

-- A delivery of m first takes a checkpoint: the sent mark is set and some carried entry is greater.
unfoldable pub forces : Ideal → ℕ → Bool
forces r m = r.mark (r.receiver m) && newer r (r.receiver m) m

-- The receiver i of m takes in what m carries: the greater of the two at each entry; the pin of each entry that rises becomes the own pin.
unfoldable pub taken_by : Ideal → ℕ → ℕ → Ideal
taken_by r m i = record {
  n = r.n;
  own = r.own;
  vector = upd r.vector i (upd (r.vector i) (r.own i) (λ f. max (r.vector i (r.own i) f) (r.carried m f)));
  mark = r.mark;
  pin = upd r.pin i (λ f. pick (ltb (r.vector i (r.own i) f) (r.carried m f)) (r.pin i i) (r.pin i f));
  transit = upd r.transit m false;
  carried = r.carried;
  sender = r.sender;
  receiver = r.receiver;
  last = r.last;
  events = upd r.events i (r.events i ++ (received m ∷ []));
  ledger = r.ledger;
}

-- The same, by the message alone.
unfoldable pub taken_in : Ideal → ℕ → Ideal
taken_in r m = taken_by r m (r.receiver m)

-- Deliver m: the forced checkpoint, if there is one, and then what the message carries is taken in.
unfoldable pub delivered : Ideal → ℕ → Ideal
delivered r m = taken_in (pick (forces r m) (checkpointed r (r.receiver m)) r) m

-- Lose m: it is no longer under way.
unfoldable pub lost : Ideal → ℕ → Ideal
lost r m = record {
  n = r.n;
  own = r.own;
  vector = r.vector;
  mark = r.mark;
  pin = r.pin;
  transit = upd r.transit m false;
  carried = r.carried;
  sender = r.sender;
  receiver = r.receiver;
  last = r.last;
  events = r.events;
  ledger = r.ledger;
}

-- State k of p passes the rule of the line: its entry f is less than f's current own entry, for every failed f.
unfoldable pub safe : Ideal → Failed → ℕ → ℕ → Bool
safe r F p k = all_below r.n (λ f. pick (F f) (ltb (r.vector p k f) (r.own f)) true)

-- A pin names checkpoint k.
abbrev pub names : Option ℕ → ℕ → Bool
names None k = false
names (Some j) k = eqb j k

-- Checkpoint k of p is kept: a pin of p names it.
unfoldable pub keeps : Ideal → ℕ → ℕ → Bool
keeps r p k = any_below r.n (λ f. names (r.pin p f) k)

-- The member of the line at p: the latest among kept checkpoints and the live state that passes the rule.
unfoldable pub member : Ideal → Failed → ℕ → Option ℕ
member r F p = latest (suc (r.own p)) (λ k. (eqb k (r.own p) || keeps r p k) && safe r F p k)

-- The line, as indexes.
abbrev pub or_zero : Option ℕ → ℕ
or_zero None = 0
or_zero (Some k) = k

-- The line at p, 0 where the rule accepts no state.
unfoldable pub line : Ideal → Failed → ℕ → ℕ
line r F p = or_zero (member r F p)

-- Process p rolls back: its live state does not pass the rule.
unfoldable pub rolled : Ideal → Failed → ℕ → Bool
rolled r F p = not (safe r F p (r.own p))

-- Recover: own entries, vectors and pins after it.
unfoldable pub own_after : Ideal → Failed → ℕ → ℕ
own_after r F p = pick (rolled r F p) (suc (line r F p)) (r.own p)

-- Of a process that rolls back, the new live state is its member's, with one added to its own entry.
unfoldable pub vector_after : Ideal → Failed → ℕ → ℕ → ℕ → ℕ
vector_after r F p = pick (rolled r F p)
    (upd (r.vector p) (suc (line r F p)) (upd (r.vector p (line r F p)) p (suc (line r F p))))
    (r.vector p)

-- A pin whose entry is not current becomes none; in a process that rolls back another pin names the latest checkpoint, kept before and not lost, whose entry is below.
unfoldable pub pin_after : Ideal → Failed → ℕ → ℕ → Option ℕ
pin_after r F p f = pick (eqb (vector_after r F p (own_after r F p) f) (own_after r F f))
    (pick (rolled r F p)
    (latest (suc (line r F p)) (λ k. keeps r p k && ltb (r.vector p k f) (own_after r F f)))
    (r.pin p f))
    None

-- A message outlives a recovery: it is under way, and was sent in an interval up to its sender's member.
unfoldable pub outlives : Ideal → Failed → ℕ → Bool
outlives r F m = r.transit m && leb (r.carried m (r.sender m)) (line r F (r.sender m))

-- Recover: each process whose member is stored goes back to it; the messages that were sent up to the line stay under way.
unfoldable pub recovered : Ideal → Failed → Ideal
recovered r F = record {
  n = r.n;
  own = own_after r F;
  vector = vector_after r F;
  mark = λ p. pick (rolled r F p) false (r.mark p);
  pin = pin_after r F;
  transit = outlives r F;
  carried = r.carried;
  sender = r.sender;
  receiver = r.receiver;
  last = r.last;
  events = λ p. pick (rolled r F p) (up_to (line r F p) (r.events p)) (r.events p);
  ledger = r.ledger;
}
