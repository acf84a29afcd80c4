-- Document 01, "The surviving history": "It is built from the calls and their answers, and from nothing in the state".
-- Assumes nothing.
use Rattle.std.specs.Prelude.{◌&&◌, ◌||◌, ◌∷◌, ◌++◌, ◌+◌, ◌*◌}
use Rattle.laws.specs.Basics.{Bool, true, false, not, List, [], Option, None, Some, ℕ, eqb, ltb, leb, get_or, pick}
use Rattle.laws.specs.{Search.any_below, Sums.sum_below, Update.upd}
use Rattle.model.specs.Words.{initial, basic, forced}
use Rattle.histories.specs.History.{HistoryEvent, stored, sent, received, Lists, checkpoints, up_to, still_sent}
use Rattle.whole_runs.specs.Calls.{Call, checkpoint, send, deliver, lose, recover, line, earliest, Reply, Exchange}

-- The surviving history: the lists, and what they were right after the last accepted recover, or the start; how many sends were accepted; the receiver that each send named; which messages are under way: sent by an accepted
-- send, neither delivered nor lost since by an accepted call, and not lost by a recovery; which checkpoints are kept.
-- Note 5: each process's block count, the cause of each checkpoint in the lists, the blocks written and the blocks deleted.
pub record Surviving : Type 0 where
  pub lists : Lists
  pub restart : Lists
  pub sends : ℕ
  pub receiver : ℕ → ℕ
  pub underway : ℕ → Bool
  pub kept : ℕ → ℕ → Bool
  pub block_counts : ℕ → ℕ
  pub cause : ℕ → ℕ → ℕ
  pub written : ℕ
  pub deleted : ℕ

-- "After the start each list is checkpoint 0."
-- Note 5: each of the n processes has then stored checkpoint 0, of cause "0 initial", with its block count, "fixed at the start for each process".
unfoldable pub beginning : ℕ → List ℕ → Surviving
beginning n block_counts = record {
  lists = λ p. stored ∷ [];
  restart = λ p. stored ∷ [];
  sends = 0;
  receiver = λ m. 0;
  underway = λ m. false;
  kept = λ p k. eqb k 0;
  block_counts = λ p. get_or block_counts p 0;
  cause = λ p k. initial;
  written = sum_below n (λ p. get_or block_counts p 0);
  deleted = 0;
}

-- An event at the end of a process's list.
unfoldable pub added : Lists → ℕ → HistoryEvent → Lists
added lists p e = upd lists p (lists p ++ (e ∷ []))

-- "the next checkpoint, if the answer names a forced one"
unfoldable pub forced_first : Lists → ℕ → Option ℕ → Lists
forced_first lists p None = lists
forced_first lists p (Some index) = added lists p stored

-- "At an accepted recover, where the index written for a process is that of a checkpoint in its list, all after that checkpoint goes from the list.
-- Other lists stay."
unfoldable pub cut : ℕ → Lists → List ℕ → Lists
cut n lists indexes p = pick (ltb p n && ltb (get_or indexes p 0) (checkpoints (lists p))) (up_to (get_or indexes p 0) (lists p)) (lists p)

-- The lists after an accepted call. "An accepted checkpoint at i adds to i's list the next checkpoint".
-- "Accepted sends are numbered 1, 2, 3 and on, over recoveries too; number m adds "sent m" to its sender's list."
-- "An accepted delivery of m adds to the list of the receiver its send named the next checkpoint, if the answer names a forced one, then "received m"."
-- "Lose, line .. change nothing." Nor does Note 8's call: "It changes no state."
unfoldable pub lists_after : ℕ → Surviving → Call → Reply → Lists
lists_after n h (checkpoint i deleted) r = added h.lists i stored
lists_after n h (send i j) r = added h.lists i (sent (h.sends + 1))
lists_after n h (deliver m deleted) r = added (forced_first h.lists (h.receiver m) r.report.value) (h.receiver m) (received m)
lists_after n h (lose m) r = h.lists
lists_after n h (recover F deleted lent) r = cut n h.lists r.line
lists_after n h (line F lent) r = h.lists
lists_after n h (earliest l lent) r = h.lists

-- What the lists were right after the last accepted recover.
unfoldable pub restart_after : ℕ → Surviving → Call → Reply → Lists
restart_after n h (checkpoint i deleted) r = h.restart
restart_after n h (send i j) r = h.restart
restart_after n h (deliver m deleted) r = h.restart
restart_after n h (lose m) r = h.restart
restart_after n h (recover F deleted lent) r = cut n h.lists r.line
restart_after n h (line F lent) r = h.restart
restart_after n h (earliest l lent) r = h.restart

-- How many sends were accepted, and whom each named.
unfoldable pub sends_after : Surviving → Call → ℕ
sends_after h (checkpoint i deleted) = h.sends
sends_after h (send i j) = h.sends + 1
sends_after h (deliver m deleted) = h.sends
sends_after h (lose m) = h.sends
sends_after h (recover F deleted lent) = h.sends
sends_after h (line F lent) = h.sends
sends_after h (earliest l lent) = h.sends

unfoldable pub receiver_after : Surviving → Call → ℕ → ℕ
receiver_after h (checkpoint i deleted) = h.receiver
receiver_after h (send i j) = upd h.receiver (h.sends + 1) j
receiver_after h (deliver m deleted) = h.receiver
receiver_after h (lose m) = h.receiver
receiver_after h (recover F deleted lent) = h.receiver
receiver_after h (line F lent) = h.receiver
receiver_after h (earliest l lent) = h.receiver

-- Which messages are under way; `lists` are the lists after the call. "Deliver: The message is no longer under way." "Lose: The message is no longer under way."
-- Note 2: "a recovery loses a message exactly if its sender's entry in the carried vector is above the sender's index in the line": by the lists, exactly if
-- its send goes from its sender's list. "The surviving history counts these sends": those of the others still stand there.
unfoldable pub underway_after : ℕ → Surviving → Lists → Call → ℕ → Bool
underway_after n h lists (checkpoint i deleted) = h.underway
underway_after n h lists (send i j) = upd h.underway (h.sends + 1) true
underway_after n h lists (deliver m deleted) = upd h.underway m false
underway_after n h lists (lose m) = upd h.underway m false
underway_after n h lists (recover F deleted lent) = λ m. h.underway m && still_sent n lists m
underway_after n h lists (line F lent) = h.underway
underway_after n h lists (earliest l lent) = h.underway

-- The answer hands out the pair p, k.
unfoldable pub handed_out_of : Reply → ℕ → ℕ → Bool
handed_out_of r p k = any_below r.report.deletions (λ d. eqb (get_or r.deleted (2 * d) 0) p && eqb (get_or r.deleted (2 * d + 1) 0) k)

-- "A checkpoint in a list is kept until a pair handed out after it was stored names it": it is in the list now, was kept before or was not there, and is not handed out.
unfoldable pub kept_after : Surviving → Lists → Reply → ℕ → ℕ → Bool
kept_after h lists r p k = ltb k (checkpoints (lists p)) && (h.kept p k || leb (checkpoints (h.lists p)) k) && not (handed_out_of r p k)

-- Note 5: the process whose checkpoint an accepted call stored, if it stored one: of a delivery, "if the answer names a forced one".
unfoldable pub forced_at : Surviving → ℕ → Option ℕ → Option ℕ
forced_at h m None = None
forced_at h m (Some index) = Some (h.receiver m)

unfoldable pub stored_by : Surviving → Call → Reply → Option ℕ
stored_by h (checkpoint i deleted) r = Some i
stored_by h (send i j) r = None
stored_by h (deliver m deleted) r = forced_at h m r.report.value
stored_by h (lose m) r = None
stored_by h (recover F deleted lent) r = None
stored_by h (line F lent) r = None
stored_by h (earliest l lent) r = None

-- Note 5: "its cause (0 initial, 1 basic, 2 forced)", by the call that stored it. The others store none.
unfoldable pub cause_of : Call → ℕ
cause_of (checkpoint i deleted) = basic
cause_of (send i j) = 0
cause_of (deliver m deleted) = forced
cause_of (lose m) = 0
cause_of (recover F deleted lent) = 0
cause_of (line F lent) = 0
cause_of (earliest l lent) = 0

-- The causes after it: the new checkpoint is "numbered one above the last there". Where a recovery took that number from the list, it is stored again, and the
-- cause is the new one's.
unfoldable pub cause_with : Surviving → ℕ → Option ℕ → ℕ → ℕ → ℕ
cause_with h cause None = h.cause
cause_with h cause (Some p) = upd h.cause p (upd (h.cause p) (checkpoints (h.lists p)) cause)

-- Note 5: "Written is defined from the history: each checkpoint ever stored, rolled back or not, counts once." So the blocks of the one that a call stored are
-- added, and nothing is taken back.
unfoldable pub count_of : Surviving → Option ℕ → ℕ
count_of h None = 0
count_of h (Some p) = h.block_counts p

-- Note 5: "deleted is defined from the pairs handed out": for each pair the block count of its process.
unfoldable pub handed_blocks : Surviving → Reply → ℕ
handed_blocks h r = sum_below r.report.deletions (λ d. h.block_counts (get_or r.deleted (2 * d) 0))

unfoldable pub accepted : ℕ → Surviving → Call → Reply → Surviving
accepted n h c r = record {
  lists = lists_after n h c r;
  restart = restart_after n h c r;
  sends = sends_after h c;
  receiver = receiver_after h c;
  underway = underway_after n h (lists_after n h c r) c;
  kept = kept_after h (lists_after n h c r) r;
  block_counts = h.block_counts;
  cause = cause_with h (cause_of c) (stored_by h c r);
  written = h.written + count_of h (stored_by h c r);
  deleted = h.deleted + handed_blocks h r;
}

-- ".. and every refused call change nothing."
unfoldable pub after : ℕ → Surviving → Exchange → Surviving
after n h e = pick (eqb e.reply.report.refused 0) (accepted n h e.made e.reply) h

-- The surviving history of a run of n processes with these counts and this transcript.
unfoldable pub surviving_from : ℕ → Surviving → List Exchange → Surviving
surviving_from n h [] = h
surviving_from n h (e ∷ l) = surviving_from n (after n h e) l

unfoldable pub surviving : ℕ → List ℕ → List Exchange → Surviving
surviving n block_counts = surviving_from n (beginning n block_counts)
