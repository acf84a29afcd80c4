-- Document 02, Note 7: the search for the first pair that breaks a pattern, by tests that follow the words of source document 001. What each test finds is
-- what Paths defines, no more and no less (proofs/Tested, proofs/Searched).
-- Assumes nothing.
use Rattle.std.specs.Prelude.{◌&&◌, ◌||◌}
use Rattle.laws.specs.Basics.{Bool, false, not, List, Option, None, Some, ℕ, zero, suc, eqb, ltb, leb, length, pick}
use Rattle.laws.specs.Search.{any_below}
use Rattle.histories.specs.History.{HistoryEvent, stored, sent, received, Lists, checkpoints}
use Rattle.theory_patterns.specs.{declared.BreakingPair.BreakingPair, Paths.event_at, Paths.interval}

-- An event, if there is one, is "sent m", or "received m".
unfoldable pub is_send : ℕ → Option HistoryEvent → Bool
is_send m None = false
is_send m (Some stored) = false
is_send m (Some (sent k)) = eqb k m
is_send m (Some (received k)) = false

unfoldable pub is_receipt : ℕ → Option HistoryEvent → Bool
is_receipt m None = false
is_receipt m (Some stored) = false
is_receipt m (Some (sent k)) = false
is_receipt m (Some (received k)) = eqb k m

-- Message m is sent, or received, in a list at a place that passes a test.
unfoldable pub sent_where : List HistoryEvent → ℕ → (ℕ → Bool) → Bool
sent_where l m test = any_below (length l) (λ i. is_send m (event_at l i) && test i)

unfoldable pub received_where : List HistoryEvent → ℕ → (ℕ → Bool) → Bool
received_where l m test = any_below (length l) (λ i. is_receipt m (event_at l i) && test i)

-- Definition 3, "(i) p_a sends m_1 after c": after checkpoint α of a.
unfoldable pub sent_after : Lists → ℕ → ℕ → ℕ → Bool
sent_after lists a α m = sent_where (lists a) m (λ i. ltb α (interval (lists a) i))

-- "(ii) if m_i .. is received by p_c, then m_{i+1} is sent by p_c in the same or a later checkpoint interval": m may come next after x.
unfoldable pub sent_onward : ℕ → Lists → ℕ → ℕ → Bool
sent_onward n lists x m = any_below n (λ c. received_where (lists c) x (λ j. sent_where (lists c) m (λ i. leb (interval (lists c) j) (interval (lists c) i))))

-- A path is causal "if the receipt of each message but the last one causally precedes the send event of the next one": the process that received x sends m
-- at a later place.
unfoldable pub sent_later : ℕ → Lists → ℕ → ℕ → Bool
sent_later n lists x m = any_below n (λ c. received_where (lists c) x (λ j. sent_where (lists c) m (λ i. ltb j i)))

-- "(iii) p_b receives m_k before c": before state β of b.
unfoldable pub received_before : Lists → ℕ → ℕ → ℕ → Bool
received_before lists b β m = received_where (lists b) m (λ j. leb (interval (lists b) j) β)

-- "A sequence of messages": m is the last one of a sequence of at most k messages, with numbers below a bound. The first message passes the test `first`, and each
-- later one, with the message before it, the test `onward`.
unfoldable pub is_last : ℕ → (ℕ → Bool) → (ℕ → ℕ → Bool) → ℕ → ℕ → Bool
is_last bound first onward zero m = false
is_last bound first onward (suc k) m = first m || any_below bound (λ x. is_last bound first onward k x && onward x m)

-- A pattern of n processes whose messages have the numbers 1 to `sends`. A sequence that has a message twice can be cut short, so none needs more messages than
-- there are numbers (proofs/Sequences: `closed`).
module _ (n sends : ℕ) (lists : Lists) (a α b β : ℕ) where
  -- A sequence of messages connects checkpoint α of a to state β of b: condition (i) holds of its first message, (iii) of its last, and the test `onward` of each
  -- message with the next one.
  unfoldable pub connects : (ℕ → ℕ → Bool) → Bool
  connects onward = any_below (suc sends) (λ m. is_last (suc sends) (sent_after lists a α) onward (suc sends) m && received_before lists b β m)

  -- Definition 3: a zigzag path.
  unfoldable pub has_zigzag : Bool
  has_zigzag = connects (sent_onward n lists)

  -- Definition 1, of states: causal precedence, within one process or by a causal path.
  unfoldable pub is_before : Bool
  is_before = (eqb a b && ltb α β) || connects (sent_later n lists)

  -- The pair breaks the rule.
  unfoldable pub is_breaking : Bool
  is_breaking = has_zigzag && not is_before

-- The first of two that may be there.
abbrev pub or_next : {A : Type 0} → Option A → Option A → Option A
or_next None y = y
or_next (Some x) y = Some x

-- The first that is there, of f 0, f 1, .., f (n - 1).
unfoldable pub first_of_all : {A : Type 0} → ℕ → (ℕ → Option A) → Option A
first_of_all zero f = None
first_of_all (suc n) f = or_next (first_of_all n f) (f n)

-- State α of a and state β of b, as the ends of a pair.
abbrev pub pair_of : ℕ → ℕ → ℕ → ℕ → BreakingPair
pair_of a α b β = record {
  near = record { process = a; index = record { 0 = α } };
  far = record { process = b; index = record { 0 = β } };
}

-- "it names the first pair that breaks this, by process and index of the near end, then of the far end; the two may be the same checkpoint". Near ends are
-- checkpoints; "live end states count as far ends".
unfoldable pub first_pair : ℕ → ℕ → Lists → Option BreakingPair
first_pair n sends lists =
    first_of_all n (λ a. first_of_all (checkpoints (lists a)) (λ α. first_of_all n (λ b. first_of_all (suc (checkpoints (lists b))) (λ β.
    pick (is_breaking n sends lists a α b β) (Some (pair_of a α b β)) None))))
