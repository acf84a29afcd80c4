-- The outcome of each call, refused or accepted: the state, the answer, and every lent list as it then stands.
-- "A refusal returns its number and the state as it came; lent lists and buffers keep every entry. A refused start returns a state of zeros with every pin none."
-- Assumes nothing.
use Prim.{tt}
use Rattle.std.specs.Prelude.{◌∷◌, ◌+◌, Result, Ok, Err}
use Rattle.std.specs.Option.{option_map}
use Rattle.laws.specs.Basics.{List, [], Option, None, Some, ℕ, length, sets, pick}
use Rattle.laws.specs.Lists.{or_else}
use Rattle.model.specs.Shapes.{CheckpointAnswer, DeliverAnswer, LineAnswer, LoseAnswer, RecoverAnswer, SendAnswer, StartAnswer}
use Rattle.model.specs.declared.{Message.Message, Run.Run, Refusal.Refusal}
use Rattle.model.specs.Words.{no_message, blank, process, live}
use Rattle.model.specs.Steps.{Deletion, start_state, checkpoint_state, checkpoint_deletions, send_state, found, forces, deliver_state, deliver_risen, deliver_deletions, lose_state, line_of, recover_state, recover_deletions, rolled_back_count}
use Rattle.model.specs.Refusals.{number, start_refusal, checkpoint_refusal, send_refusal, deliver_refusal, lose_refusal, line_refusal, recover_refusal}

-- What a call leaves behind. A list that the call is not lent is empty. `rose` is the set of entries that rose (Note 1): "0 with a refusal", and 0 of a
-- call that takes no carried vector in.
pub record Outcome (A : Type 0) : Type 0 where
  pub run : Run
  pub answer : A
  pub rose : ℕ
  pub deleted : List ℕ
  pub line : List ℕ

-- One of two outcomes, or two of anything, by whether there is a refusal.
abbrev pub judged : {A : Type 0} → Option Refusal → (Refusal → A) → A → A
judged None refused accepted = accepted
judged (Some r) refused accepted = refused r

-- "A refusal returns its number and the state as it came; lent lists and buffers keep every entry."
abbrev pub refused_outcome : {A : Type 0} → Run → List ℕ → List ℕ → Refusal → Outcome (Result A Refusal)
refused_outcome s deleted line why = record { run = s; answer = Err why; rose = 0; deleted = deleted; line = line }

-- "pairs process, index .. what lies past the pairs is unchanged": the numbers of the pairs, one after the other.
unfoldable pub pairs : List Deletion → List ℕ
pairs [] = []
pairs (d ∷ l) = d.process ∷ d.index.0 ∷ pairs l

-- A lent list with numbers written to its front, the rest unchanged.
abbrev pub written : List ℕ → List ℕ → List ℕ
written lent numbers = sets lent 0 numbers

unfoldable pub start_outcome : ℕ → List ℕ → Outcome StartAnswer
start_outcome n block_counts = judged (start_refusal n block_counts) (refused_outcome (blank 0) [] [])
    (record { run = start_state n block_counts; answer = Ok tt; rose = 0; deleted = []; line = [] })

unfoldable pub checkpoint_outcome : Run → ℕ → List ℕ → Outcome CheckpointAnswer
checkpoint_outcome s i deleted = judged (checkpoint_refusal s i deleted) (refused_outcome s deleted [])
    (record {
      run = checkpoint_state s i;
      answer = Ok (record { index = (live i (process s i)).index; deleted = length (checkpoint_deletions s i) });
      rose = 0;
      deleted = written deleted (pairs (checkpoint_deletions s i));
      line = [];
    })

unfoldable pub send_outcome : Run → ℕ → ℕ → Outcome SendAnswer
send_outcome s i j = judged (send_refusal s i j) (refused_outcome s [] [])
    (record { run = send_state s i j; answer = Ok (s.last + 1); rose = 0; deleted = []; line = [] })

-- The answer of an accepted delivery: with a forced checkpoint its index, and in both cases how many were deleted.
unfoldable pub deliver_answer : Run → Message → DeliverAnswer
deliver_answer s x = pick (forces (process s x.receiver) x.vector)
    (Ok (record { forced = Some (live x.receiver (process s x.receiver)).index; deleted = length (deliver_deletions s x) }))
    (Ok (record { forced = None; deleted = length (deliver_deletions s x) }))

-- An accepted delivery has a message; the default is never reached.
abbrev pub message : Run → ℕ → Message
message s m = or_else (found s m) no_message

unfoldable pub deliver_outcome : Run → ℕ → List ℕ → Outcome DeliverAnswer
deliver_outcome s m deleted = judged (deliver_refusal s m deleted) (refused_outcome s deleted [])
    (record {
      run = deliver_state s (message s m);
      answer = deliver_answer s (message s m);
      rose = deliver_risen s (message s m);
      deleted = written deleted (pairs (deliver_deletions s (message s m)));
      line = [];
    })

unfoldable pub lose_outcome : Run → ℕ → Outcome LoseAnswer
lose_outcome s m = judged (lose_refusal s m) (refused_outcome s [] [])
    (record { run = lose_state s m; answer = Ok tt; rose = 0; deleted = []; line = [] })

unfoldable pub line_outcome : Run → ℕ → List ℕ → Outcome LineAnswer
line_outcome s F line = judged (line_refusal s F line) (refused_outcome s [] line)
    (record { run = s; answer = Ok tt; rose = 0; deleted = []; line = written line (line_of s F) })

unfoldable pub recover_outcome : Run → ℕ → List ℕ → List ℕ → Outcome RecoverAnswer
recover_outcome s F deleted line = judged (recover_refusal s F deleted line) (refused_outcome s deleted line)
    (record {
      run = recover_state s F;
      answer = Ok (record { rolled_back = rolled_back_count s F; deleted = length (recover_deletions s F) });
      rose = 0;
      deleted = written deleted (pairs (recover_deletions s F));
      line = written line (line_of s F);
    })

-- "Where an answer is an enum, a definition gives this paper's number and values for each of its cases": the number, 0 if accepted;
-- the value (checkpoint: index; send: message number; deliver: forced index, if any; recover: how many rolled back); the count of deletions.
pub record Report : Type 0 where
  pub refused : ℕ
  pub value : Option ℕ
  pub deletions : ℕ

abbrev pub refusing : Refusal → Report
refusing r = record { refused = number r; value = None; deletions = 0 }

abbrev pub accepting : Option ℕ → ℕ → Report
accepting value deletions = record { refused = 0; value = value; deletions = deletions }

unfoldable pub start_report : StartAnswer → Report
start_report (Err r) = refusing r
start_report (Ok tt) = accepting None 0

unfoldable pub checkpoint_report : CheckpointAnswer → Report
checkpoint_report (Err r) = refusing r
checkpoint_report (Ok stored) = accepting (Some stored.index.0) stored.deleted

unfoldable pub send_report : SendAnswer → Report
send_report (Err r) = refusing r
send_report (Ok m) = accepting (Some m) 0

unfoldable pub deliver_report : DeliverAnswer → Report
deliver_report (Err r) = refusing r
deliver_report (Ok delivery) = accepting (option_map (λ i. i.0) delivery.forced) delivery.deleted

unfoldable pub lose_report : LoseAnswer → Report
lose_report (Err r) = refusing r
lose_report (Ok tt) = accepting None 0

unfoldable pub line_report : LineAnswer → Report
line_report (Err r) = refusing r
line_report (Ok tt) = accepting None 0

unfoldable pub recover_report : RecoverAnswer → Report
recover_report (Err r) = refusing r
recover_report (Ok recovery) = accepting (Some recovery.rolled_back) recovery.deleted
