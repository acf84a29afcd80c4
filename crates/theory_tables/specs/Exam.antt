-- Document 01, "Exam sheet": the cases that P marks, as data, and the tests that compare them with the definitions. proofs/Exam has the theorem.
-- Assumes nothing.
use Rattle.std.specs.Prelude.{◌&&◌, ◌∷◌, ◌++◌, ◌*◌}
use Rattle.laws.specs.Basics.{Bool, true, false, List, [], map, Option, None, Some, ℕ, suc, eqb, length, get_or, take, drop, replicate}
use Rattle.laws.specs.{Lists.table, Tests.every, Tests.same}
use Rattle.model.specs.Shapes.{Pin}
use Rattle.model.specs.declared.{Checkpoint.Checkpoint, Run.Run}
use Rattle.model.specs.Words.{ones, entry, process}
use Rattle.whole_runs.specs.Outcomes.{start_outcome}
use Rattle.whole_runs.specs.Calls.{Call, checkpoint, send, deliver, recover, line, Reply, Exchange, call, state_after, transcript}

-- Two lists of rows are the same.
unfoldable pub same_rows : List (List ℕ) → List (List ℕ) → Bool
same_rows [] [] = true
same_rows [] (b ∷ m) = false
same_rows (a ∷ l) [] = false
same_rows (a ∷ l) (b ∷ m) = same a b && same_rows l m

-- A value that may be missing, as a list of at most one number.
unfoldable pub optional : Option ℕ → List ℕ
optional None = []
optional (Some v) = v ∷ []

-- What a call must answer: the refusal number or 0, its value if it has one, the set of entries that rose (Note 1), the numbers that its deletion list holds in
-- front, and its line list.
pub record Expected : Type 0 where
  pub refused : ℕ
  pub value : List ℕ
  pub rose : ℕ
  pub deleted : List ℕ
  pub line : List ℕ

-- A line for a failed set.
pub record ExpectedLine : Type 0 where
  pub failed : ℕ
  pub indexes : List ℕ

-- A pin, 0 for none and k + 1 for checkpoint k.
unfoldable pub pin_number : Pin → ℕ
pin_number None = 0
pin_number (Some a) = suc a.0

-- Note 5: what the disks hold. Of each process the indexes, the causes and the block counts of its kept checkpoints; blocks written, blocks deleted.
pub record Disks : Type 0 where
  pub kept : List (List ℕ)
  pub causes : List (List ℕ)
  pub block_counts : List (List ℕ)
  pub blocks : List ℕ

-- A case: the calls from a start with block counts of 1, their answers, and what they leave: vectors, pins, disks and lines.
pub record Case : Type 0 where
  pub count : ℕ
  pub calls : List Call
  pub answers : List Expected
  pub vectors : List (List ℕ)
  pub pins : List (List ℕ)
  pub disks : Disks
  pub lines : List ExpectedLine

-- The lent lists of the cases: 2 × n × n entries and n entries, all 9, so that what must stay unchanged is seen.
abbrev pub deletion_list : ℕ → List ℕ
deletion_list n = replicate (2 * n * n) 9

abbrev pub line_list : ℕ → List ℕ
line_list n = replicate n 9

-- An answer is as expected; the deletion list past the pairs still holds what it held. A line list of n entries is all written, or none of it.
unfoldable pub answer_right : Reply → Expected → Bool
answer_right r e =
    eqb r.report.refused e.refused
    && same (optional r.report.value) e.value
    && eqb r.rose e.rose
    && eqb (2 * r.report.deletions) (length e.deleted)
    && same (take (length e.deleted) r.deleted) e.deleted
    && every (eqb 9) (drop (length e.deleted) r.deleted)
    && same r.line e.line

unfoldable pub answers_right : List Exchange → List Expected → Bool
answers_right [] [] = true
answers_right [] (b ∷ m) = false
answers_right (a ∷ l) [] = false
answers_right (a ∷ l) (b ∷ m) = answer_right a.reply b && answers_right l m

unfoldable pub line_right : Run → ExpectedLine → Bool
line_right s e = same (call s (line e.failed (line_list s.count))).reply.line e.indexes

-- What a function says of the kept checkpoints, a row for each process.
unfoldable pub kept_rows : Run → (Checkpoint → ℕ) → List (List ℕ)
kept_rows s f = table s.count (λ p. map f (process s p).kept)

unfoldable pub disks_are : Run → Disks → Bool
disks_are s d =
    same_rows (kept_rows s (λ k. k.index.0)) d.kept
    && same_rows (kept_rows s (λ k. k.cause)) d.causes
    && same_rows (kept_rows s (λ k. k.blocks)) d.block_counts
    && same (s.disk.written ∷ s.disk.deleted ∷ []) d.blocks

unfoldable pub right : Case → Bool
right c =
    let s₀ = (start_outcome c.count ones).run in
    let s = state_after s₀ c.calls in
    answers_right (transcript s₀ c.calls) c.answers
    && same_rows (table c.count (λ p. table c.count (λ f. (entry (process s p).vector f).0))) c.vectors
    && same_rows (table c.count (λ p. table c.count (λ f. pin_number (get_or (process s p).pins f None)))) c.pins
    && disks_are s c.disks
    && every (line_right s) c.lines

-- The accepted answers. A send: the message's number.
abbrev pub sent : ℕ → Expected
sent m = record { refused = 0; value = m ∷ []; rose = 0; deleted = []; line = [] }

-- A checkpoint: its index and the pairs that it deletes.
abbrev pub stored : ℕ → List ℕ → Expected
stored k deleted = record { refused = 0; value = k ∷ []; rose = 0; deleted = deleted; line = [] }

-- A delivery that forces nothing: the entries that rose. One that forces: the index and the pairs that it deletes, too.
abbrev pub quiet : ℕ → Expected
quiet rose = record { refused = 0; value = []; rose = rose; deleted = []; line = [] }

abbrev pub forced : ℕ → ℕ → List ℕ → Expected
forced rose k deleted = record { refused = 0; value = k ∷ []; rose = rose; deleted = deleted; line = [] }

-- A recovery: how many rolled back, the pairs that it deletes and the line.
abbrev pub went_back : ℕ → List ℕ → List ℕ → Expected
went_back count deleted members = record { refused = 0; value = count ∷ []; rose = 0; deleted = deleted; line = members }

-- A refusal with its number.
abbrev pub refused_with : ℕ → Expected
refused_with number = record { refused = number; value = []; rose = 0; deleted = []; line = [] }

-- The line for a failed set.
abbrev pub line_for : ℕ → List ℕ → ExpectedLine
line_for failed indexes = record { failed = failed; indexes = indexes }

-- One of each of two processes.
abbrev pub both : {A : Type 0} → A → A → List A
both a b = a ∷ b ∷ []

-- Disks on which each kept checkpoint has one block.
abbrev pub disks_of_ones : List (List ℕ) → List (List ℕ) → ℕ → ℕ → Disks
disks_of_ones kept causes written deleted =
    record { kept = kept; causes = causes; block_counts = map (map (λ k. 1)) kept; blocks = written ∷ deleted ∷ [] }

-- "Cases 1 to 7 use the trace above": its ten records as calls, and their answers.
unfoldable pub trace_calls : List Call
trace_calls =
    send 0 1
    ∷ deliver 1 (deletion_list 2)
    ∷ checkpoint 1 (deletion_list 2)
    ∷ checkpoint 0 (deletion_list 2)
    ∷ send 1 0
    ∷ deliver 2 (deletion_list 2)
    ∷ send 0 1
    ∷ deliver 3 (deletion_list 2)
    ∷ recover 1 (deletion_list 2) (line_list 2)
    ∷ deliver 3 (deletion_list 2)
    ∷ []

unfoldable pub trace_answers : List Expected
trace_answers =
    sent 1
    ∷ quiet 1
    ∷ stored 1 []
    ∷ stored 1 (0 ∷ 0 ∷ [])
    ∷ sent 2
    ∷ quiet 2
    ∷ sent 3
    ∷ forced 1 2 (1 ∷ 0 ∷ 1 ∷ 1 ∷ [])
    ∷ went_back 2 [] (1 ∷ 2 ∷ [])
    ∷ refused_with 8
    ∷ []

-- Note 4: calls up to a sweep that deletes, and the delivery of a message that was under way.
unfoldable pub sweep_calls : List Call
sweep_calls =
    send 0 1
    ∷ checkpoint 1 (deletion_list 2)
    ∷ deliver 1 (deletion_list 2)
    ∷ checkpoint 1 (deletion_list 2)
    ∷ checkpoint 0 (deletion_list 2)
    ∷ send 0 1
    ∷ recover 0 (deletion_list 2) (line_list 2)
    ∷ deliver 2 (deletion_list 2)
    ∷ []

unfoldable pub sweep_answers : List Expected
sweep_answers = sent 1 ∷ stored 1 (1 ∷ 0 ∷ []) ∷ quiet 1 ∷ stored 2 [] ∷ stored 1 (0 ∷ 0 ∷ []) ∷ sent 2 ∷ went_back 0 (1 ∷ 1 ∷ []) (2 ∷ 3 ∷ []) ∷ quiet 1 ∷ []

-- The lines of all four failed sets after a sweep that leaves the processes in intervals 2 and 3.
abbrev pub swept_lines : List ExpectedLine
swept_lines = line_for 0 (both 2 3) ∷ line_for 1 (both 1 3) ∷ line_for 2 (both 2 2) ∷ line_for 3 (both 1 2) ∷ []

-- A case of two processes: calls and their answers, and the vectors, pins, disks and lines that they leave.
unfoldable pub of_two : List Call → List Expected → List (List ℕ) → List (List ℕ) → Disks → List ExpectedLine → Case
of_two calls answers vectors pins kept_count_of_def lines =
    record { count = 2; calls = calls; answers = answers; vectors = vectors; pins = pins; disks = kept_count_of_def; lines = lines }

-- The case after some records of the trace.
unfoldable pub after : ℕ → List (List ℕ) → List (List ℕ) → Disks → List ExpectedLine → Case
after k = of_two (take k trace_calls) (take k trace_answers)

-- Cases 1 to 9, in the order of the exam sheet, and after them three for Note 2 and two for Note 4. Pins are written 0 for none and k + 1 for checkpoint k.
unfoldable pub exam : List Case
exam =
    -- 1. "After record 2: vectors (1,0) and (1,1); 1's pins 0, 0. Failed {0}: line (0,0). Failed {1}: (1,0)."
    after 2 (both (both 1 0) (both 1 1)) (both (both 1 0) (both 1 1)) (disks_of_ones (both (0 ∷ []) (0 ∷ [])) (both (0 ∷ []) (0 ∷ [])) 2 0) (line_for 1 (both 0 0) ∷ line_for 2 (both 1 0) ∷ [])
    -- 2. "After 3: process 1 keeps 0 and 1. Failed {0}: (0,0). Failed {1}: (1,1)."
    ∷ after 3 (both (both 1 0) (both 1 2)) (both (both 1 0) (both 1 2)) (disks_of_ones (both (0 ∷ []) (0 ∷ 1 ∷ [])) (both (0 ∷ []) (0 ∷ 1 ∷ [])) 3 0) (line_for 1 (both 0 0) ∷ line_for 2 (both 1 1) ∷ [])
    -- 3. "After 4: failed {0}: (1,2); entry 1 equals last index 1, so process 1 stays live. Failed {1}: (2,1)."
    ∷ after 4 (both (both 2 0) (both 1 2)) (both (both 2 0) (both 1 2)) (disks_of_ones (both (1 ∷ []) (0 ∷ 1 ∷ [])) (both (1 ∷ []) (0 ∷ 1 ∷ [])) 4 1) (line_for 1 (both 1 2) ∷ line_for 2 (both 2 1) ∷ [])
    -- 4. "After 6: 0's vector (2,2), pins 1, 1. Failed {1}: (1,1)."
    ∷ after 6 (both (both 2 2) (both 1 2)) (both (both 2 2) (both 1 2)) (disks_of_ones (both (1 ∷ []) (0 ∷ 1 ∷ [])) (both (1 ∷ []) (0 ∷ 1 ∷ [])) 4 1) (line_for 2 (both 1 1) ∷ [])
    -- 5. "After 8: 1's vector (2,3), it keeps only 2. Failed {1}: (2,2). Failed {0}: (1,2)."
    ∷ after 8 (both (both 2 2) (both 2 3)) (both (both 2 2) (both 3 3)) (disks_of_ones (both (1 ∷ []) (2 ∷ [])) (both (1 ∷ []) (2 ∷ [])) 5 3) (line_for 2 (both 2 2) ∷ line_for 1 (both 1 2) ∷ [])
    -- 6. "After 9: vectors (2,0) and (1,3); each keeps one checkpoint."
    ∷ after 9 (both (both 2 0) (both 1 3)) (both (both 2 0) (both 0 3)) (disks_of_ones (both (1 ∷ []) (2 ∷ [])) (both (1 ∷ []) (2 ∷ [])) 5 3) []
    -- The whole trace: record 10 is refused, "10 8", and the state is as it came.
    ∷ after 10 (both (both 2 0) (both 1 3)) (both (both 2 0) (both 0 3)) (disks_of_ones (both (1 ∷ []) (2 ∷ [])) (both (1 ∷ []) (2 ∷ [])) 5 3) []
    -- 7. "After 4, recover {1} instead: line (2,1), deletion 1:0, 1's vector (1,2)."
    ∷ of_two
    (take 4 trace_calls ++ (recover 2 (deletion_list 2) (line_list 2) ∷ []))
    (take 4 trace_answers ++ (went_back 1 (1 ∷ 0 ∷ []) (2 ∷ 1 ∷ []) ∷ []))
    (both (both 2 0) (both 1 2))
    (both (both 2 0) (both 0 2))
    (disks_of_ones (both (1 ∷ []) (1 ∷ [])) (both (1 ∷ []) (1 ∷ [])) 4 2)
    []
    -- 8. "Three processes, 0 to 1 sent and delivered, then 1 to 2 sent and delivered: failed {0}: (0,0,0); {1}: (1,0,0); {2}: (1,1,0)."
    ∷ record {
      count = 3;
      calls = send 0 1 ∷ deliver 1 (deletion_list 3) ∷ send 1 2 ∷ deliver 2 (deletion_list 3) ∷ [];
      answers = sent 1 ∷ quiet 1 ∷ sent 2 ∷ quiet 3 ∷ [];
      vectors = (1 ∷ 0 ∷ 0 ∷ []) ∷ (1 ∷ 1 ∷ 0 ∷ []) ∷ (1 ∷ 1 ∷ 1 ∷ []) ∷ [];
      pins = (1 ∷ 0 ∷ 0 ∷ []) ∷ (1 ∷ 1 ∷ 0 ∷ []) ∷ (1 ∷ 1 ∷ 1 ∷ []) ∷ [];
      disks = disks_of_ones ((0 ∷ []) ∷ (0 ∷ []) ∷ (0 ∷ []) ∷ []) ((0 ∷ []) ∷ (0 ∷ []) ∷ (0 ∷ []) ∷ []) 3 0;
      lines = line_for 1 (0 ∷ 0 ∷ 0 ∷ []) ∷ line_for 2 (1 ∷ 0 ∷ 0 ∷ []) ∷ line_for 4 (1 ∷ 1 ∷ 0 ∷ []) ∷ [];
    }
    -- 9. "Two processes, send 0 to 1, recover {1}: line (1,0)"; Note 2: "deliver 1 is then accepted."
    ∷ of_two
    (send 0 1 ∷ recover 2 (deletion_list 2) (line_list 2) ∷ deliver 1 (deletion_list 2) ∷ [])
    (sent 1 ∷ went_back 1 [] (1 ∷ 0 ∷ []) ∷ quiet 1 ∷ [])
    (both (both 1 0) (both 1 1))
    (both (both 1 0) (both 1 1))
    (disks_of_ones (both (0 ∷ []) (0 ∷ [])) (both (0 ∷ []) (0 ∷ [])) 2 0)
    (line_for 1 (both 0 0) ∷ line_for 2 (both 1 0) ∷ [])
    -- Note 2, the sender rolls back to before its send: recover {0} instead, line (0,1); the message is lost, and deliver 1 is refused with 8.
    ∷ of_two
    (send 0 1 ∷ recover 1 (deletion_list 2) (line_list 2) ∷ deliver 1 (deletion_list 2) ∷ [])
    (sent 1 ∷ went_back 1 [] (0 ∷ 1 ∷ []) ∷ refused_with 8 ∷ [])
    (both (both 1 0) (both 0 1))
    (both (both 1 0) (both 0 1))
    (disks_of_ones (both (0 ∷ []) (0 ∷ [])) (both (0 ∷ []) (0 ∷ [])) 2 0)
    (line_for 1 (both 0 1) ∷ line_for 2 (both 1 0) ∷ [])
    -- Note 2, the sender rolls back between two sends: message 1, sent in the interval before its member, remains under way, and message 2 is lost.
    ∷ of_two
    (send 0 1 ∷ checkpoint 0 (deletion_list 2) ∷ send 0 1 ∷ recover 1 (deletion_list 2) (line_list 2) ∷ deliver 2 (deletion_list 2) ∷ deliver 1 (deletion_list 2) ∷ [])
    (sent 1 ∷ stored 1 (0 ∷ 0 ∷ []) ∷ sent 2 ∷ went_back 1 [] (1 ∷ 1 ∷ []) ∷ refused_with 8 ∷ quiet 1 ∷ [])
    (both (both 2 0) (both 1 1))
    (both (both 2 0) (both 1 1))
    (disks_of_ones (both (1 ∷ []) (0 ∷ [])) (both (1 ∷ []) (0 ∷ [])) 3 1)
    (line_for 1 (both 1 1) ∷ line_for 2 (both 2 0) ∷ line_for 3 (both 1 0) ∷ [])
    -- Note 4, a sweep that deletes, with the lines of all four failed sets after it: process 1 learnt of interval 1 of process 0, which is now in interval 2,
    -- so no failure could use checkpoint 1 of process 1.
    ∷ of_two
    (take 7 sweep_calls)
    (take 7 sweep_answers)
    (both (both 2 0) (both 1 3))
    (both (both 2 0) (both 0 3))
    (disks_of_ones (both (1 ∷ []) (2 ∷ [])) (both (1 ∷ []) (1 ∷ [])) 5 3)
    swept_lines
    -- "Messages under way stay": message 2, sent before the sweep, is then delivered.
    ∷ of_two sweep_calls sweep_answers (both (both 2 0) (both 2 3)) (both (both 2 0) (both 3 3)) (disks_of_ones (both (1 ∷ []) (2 ∷ [])) (both (1 ∷ []) (1 ∷ [])) 5 3) []
    -- For the wrong mark "Forcing whenever the sent mark is set, though nothing carried is newer": process 1 has sent, and message 2 brings it nothing.
    ∷ of_two
    (send 0 1 ∷ send 0 1 ∷ deliver 1 (deletion_list 2) ∷ send 1 0 ∷ deliver 2 (deletion_list 2) ∷ [])
    (sent 1 ∷ sent 2 ∷ quiet 1 ∷ sent 3 ∷ quiet 0 ∷ [])
    (both (both 1 0) (both 1 1))
    (both (both 1 0) (both 1 1))
    (disks_of_ones (both (0 ∷ []) (0 ∷ [])) (both (0 ∷ []) (0 ∷ [])) 2 0)
    (line_for 1 (both 0 0) ∷ [])
    ∷ []

-- The disks hold the first before the calls, and the others after each of them.
unfoldable pub disks_right : Run → List Call → List Disks → Bool
disks_right s l [] = false
disks_right s [] (d ∷ []) = disks_are s d
disks_right s [] (d ∷ e ∷ m) = false
disks_right s (c ∷ l) (d ∷ m) = disks_are s d && disks_right (call s c).run l m

-- Two processes with the block counts 3 and 5; those at 2 and above are 0, which no start accepts below n.
abbrev pub disk_counts : List ℕ
disk_counts = 3 ∷ 5 ∷ replicate 14 0

-- Calls that store a basic and a forced checkpoint, roll one back and store it again, and sweep.
unfoldable pub disk_calls : List Call
disk_calls =
    send 1 0
    ∷ send 0 1
    ∷ deliver 2 (deletion_list 2)
    ∷ checkpoint 1 (deletion_list 2)
    ∷ recover 1 (deletion_list 2) (line_list 2)
    ∷ checkpoint 1 (deletion_list 2)
    ∷ deliver 1 (deletion_list 2)
    ∷ checkpoint 0 (deletion_list 2)
    ∷ recover 0 (deletion_list 2) (line_list 2)
    ∷ []

unfoldable pub disk_cases : List Disks
disk_cases =
    record { kept = (0 ∷ []) ∷ (0 ∷ []) ∷ []; causes = (0 ∷ []) ∷ (0 ∷ []) ∷ []; block_counts = (3 ∷ []) ∷ (5 ∷ []) ∷ []; blocks = 8 ∷ 0 ∷ [] }
    ∷ record { kept = (0 ∷ []) ∷ (0 ∷ []) ∷ []; causes = (0 ∷ []) ∷ (0 ∷ []) ∷ []; block_counts = (3 ∷ []) ∷ (5 ∷ []) ∷ []; blocks = 8 ∷ 0 ∷ [] }
    ∷ record { kept = (0 ∷ []) ∷ (0 ∷ []) ∷ []; causes = (0 ∷ []) ∷ (0 ∷ []) ∷ []; block_counts = (3 ∷ []) ∷ (5 ∷ []) ∷ []; blocks = 8 ∷ 0 ∷ [] }
    -- a forced checkpoint of process 1, and its checkpoint 0 goes
    ∷ record { kept = (0 ∷ []) ∷ (1 ∷ []) ∷ []; causes = (0 ∷ []) ∷ (2 ∷ []) ∷ []; block_counts = (3 ∷ []) ∷ (5 ∷ []) ∷ []; blocks = 13 ∷ 5 ∷ [] }
    -- a basic one
    ∷ record { kept = (0 ∷ []) ∷ (1 ∷ 2 ∷ []) ∷ []; causes = (0 ∷ []) ∷ (2 ∷ 1 ∷ []) ∷ []; block_counts = (3 ∷ []) ∷ (5 ∷ 5 ∷ []) ∷ []; blocks = 18 ∷ 5 ∷ [] }
    -- "rolled back or not, counts once": it is deleted, and written stays
    ∷ record { kept = (0 ∷ []) ∷ (1 ∷ []) ∷ []; causes = (0 ∷ []) ∷ (2 ∷ []) ∷ []; block_counts = (3 ∷ []) ∷ (5 ∷ []) ∷ []; blocks = 18 ∷ 10 ∷ [] }
    -- the same index is stored again, and counts again
    ∷ record { kept = (0 ∷ []) ∷ (2 ∷ []) ∷ []; causes = (0 ∷ []) ∷ (1 ∷ []) ∷ []; block_counts = (3 ∷ []) ∷ (5 ∷ []) ∷ []; blocks = 23 ∷ 15 ∷ [] }
    ∷ record { kept = (0 ∷ []) ∷ (2 ∷ []) ∷ []; causes = (0 ∷ []) ∷ (1 ∷ []) ∷ []; block_counts = (3 ∷ []) ∷ (5 ∷ []) ∷ []; blocks = 23 ∷ 15 ∷ [] }
    ∷ record { kept = (0 ∷ 1 ∷ []) ∷ (2 ∷ []) ∷ []; causes = (0 ∷ 1 ∷ []) ∷ (1 ∷ []) ∷ []; block_counts = (3 ∷ 3 ∷ []) ∷ (5 ∷ []) ∷ []; blocks = 26 ∷ 15 ∷ [] }
    -- the sweep deletes checkpoint 0 of process 0
    ∷ record { kept = (1 ∷ []) ∷ (2 ∷ []) ∷ []; causes = (1 ∷ []) ∷ (1 ∷ []) ∷ []; block_counts = (3 ∷ []) ∷ (5 ∷ []) ∷ []; blocks = 26 ∷ 18 ∷ [] }
    ∷ []

unfoldable pub disks : Bool
disks =
    disks_right (start_outcome 2 disk_counts).run disk_calls disk_cases && every (line_right (state_after (start_outcome 2 disk_counts).run disk_calls)) swept_lines

-- The example of "The trace": its input bytes, and its whole output.
unfoldable pub example_trace : List ℕ
example_trace =
    0x02
    ∷ 0x20 ∷ 0x00 ∷ 0x00 ∷ 0x01
    ∷ 0x40 ∷ 0x00 ∷ 0x00 ∷ 0x01
    ∷ 0x02 ∷ 0x00 ∷ 0x00 ∷ 0x00
    ∷ 0x00 ∷ 0x00 ∷ 0x00 ∷ 0x00
    ∷ 0x22 ∷ 0x00 ∷ 0x00 ∷ 0x00
    ∷ 0x40 ∷ 0x00 ∷ 0x00 ∷ 0x02
    ∷ 0x20 ∷ 0x00 ∷ 0x00 ∷ 0x01
    ∷ 0x40 ∷ 0x00 ∷ 0x00 ∷ 0x03
    ∷ 0x80 ∷ 0x00 ∷ 0x00 ∷ 0x01
    ∷ 0x40 ∷ 0x00 ∷ 0x00 ∷ 0x03
    ∷ []

-- "1 0 1 0", "2 0 - 0", .., in ASCII.
unfoldable pub example_listing : List ℕ
example_listing =
    49 ∷ 32 ∷ 48 ∷ 32 ∷ 49 ∷ 32 ∷ 48 ∷ 10
    ∷ 50 ∷ 32 ∷ 48 ∷ 32 ∷ 45 ∷ 32 ∷ 48 ∷ 10
    ∷ 51 ∷ 32 ∷ 48 ∷ 32 ∷ 49 ∷ 32 ∷ 48 ∷ 10
    ∷ 52 ∷ 32 ∷ 48 ∷ 32 ∷ 49 ∷ 32 ∷ 49 ∷ 32 ∷ 48 ∷ 58 ∷ 48 ∷ 10
    ∷ 53 ∷ 32 ∷ 48 ∷ 32 ∷ 50 ∷ 32 ∷ 48 ∷ 10
    ∷ 54 ∷ 32 ∷ 48 ∷ 32 ∷ 45 ∷ 32 ∷ 48 ∷ 10
    ∷ 55 ∷ 32 ∷ 48 ∷ 32 ∷ 51 ∷ 32 ∷ 48 ∷ 10
    ∷ 56 ∷ 32 ∷ 48 ∷ 32 ∷ 50 ∷ 32 ∷ 50 ∷ 32 ∷ 49 ∷ 58 ∷ 48 ∷ 32 ∷ 49 ∷ 58 ∷ 49 ∷ 10
    ∷ 57 ∷ 32 ∷ 48 ∷ 32 ∷ 50 ∷ 32 ∷ 48 ∷ 10
    ∷ 49 ∷ 48 ∷ 32 ∷ 56 ∷ 10
    ∷ []
