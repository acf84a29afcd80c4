-- Note 4, "Nobody failed": "An empty failed set now means a sweep". A sweep is a recover call for the failed set 0, and what it does is what Steps says of
-- every failed set. Here is what that comes to; proofs/Sweep has the theorems.
-- Assumes nothing.
use Rattle.std.specs.Prelude.{◌≡◌, ◌*◌, ◌≤◌, Ok}
use Rattle.laws.specs.Basics.{true, false, List, None, ℕ, eqb, length, get_or, pick}
use Rattle.laws.specs.Lists.{table}
use Prim.{tt}
use Rattle.model.specs.Shapes.{LineAnswer, RecoverAnswer}
use Rattle.model.specs.declared.Run.{Run}
use Rattle.model.specs.{Words.entry, Words.live_index_of, Words.process, Words.own, Words.under_way, Sound.sound}
use Rattle.model.specs.Steps.{line_of, rolled_back_count, pin_after, recover_state, recover_deletions}
use Rattle.model.specs.Refusals.{no_member_of, line_refusal, recover_refusal}
use Rattle.whole_runs.specs.{Outcomes.written, Outcomes.start_outcome, Outcomes.recover_outcome, Outcomes.start_report, Calls.Call, Calls.call}

-- "the line has every process live": the index of each live state.
abbrev pub live_line : Run → List ℕ
live_line s = table s.count (λ p. (live_index_of (own s p)).0)

-- What a sweep does to any state, sound or not.
pub record SweepIsQuiet (s : Run) : Type 0 where
  -- "the line has every process live": the line rule accepts every state
  pub line : line_of s 0 ≡ live_line s
  pub members : no_member_of s 0 ≡ false
  -- "nobody rolls back": none is counted, every vector and every sent mark stays
  pub nobody : rolled_back_count s 0 ≡ 0
  pub vectors : (recover_state s 0).vectors ≡ s.vectors
  pub marks : (recover_state s 0).sent ≡ s.sent
  -- "and recover's pin step deletes": a pin for f whose vector entry is not f's own entry becomes none, every other stays
  pub pins : (p f : ℕ) → pin_after s 0 p f ≡ pick (eqb (entry (process s p).vector f).0 (own s f).0) (get_or (process s p).pins f None) None

-- What it does to a sound one besides, whether calls reached it or not.
pub record SweepIsAccepted (s : Run) : Type 0 where
  -- with lists that are long enough a line call for the empty set and a sweep meet no number, not even the 2 for a process without a member
  pub line_accepted : (lent : List ℕ) → s.count ≤ length lent → line_refusal s 0 lent ≡ None
  pub accepted : (deleted lent : List ℕ) → 2 * s.count * s.count ≤ length deleted → s.count ≤ length lent → recover_refusal s 0 deleted lent ≡ None
  -- "Messages under way stay, by Note 2's rule."
  pub messages : under_way (recover_state s 0) ≡ under_way s

-- "A restart after a sweep is owed the same line as after any other call." Demand 3 owes it the right line, for a sweep is one of the calls. It is the line
-- from before the sweep, whoever fails.
unfoldable pub SweepLeavesLines : Run → Type 0
SweepLeavesLines s = (deleted lent : List ℕ) (F : ℕ) → line_of (recover_outcome s 0 deleted lent).run F ≡ line_of s F

-- "Refusal 6 never occurs any more": of no call, with any arguments on any state, and of no start.
pub record SixNeverOccurs : Type 0 where
  pub calls : (s : Run) (c : Call) → (call s c).reply.report.refused ≡ 6 → ⊥
  pub starts : (n : ℕ) (block_counts : List ℕ) → (start_report (start_outcome n block_counts).answer).refused ≡ 6 → ⊥

-- Note 4 as a line call for F on the state s says it of its answer and of the line list as it then stands: wherever s is sound, reached or not.
unfoldable pub EmptyLinePromise : Run → ℕ → List ℕ → LineAnswer → List ℕ → Type 0
EmptyLinePromise s F lent answer line = sound s ≡ true → F ≡ 0 → s.count ≤ length lent → (answer ≡ Ok tt) × (line ≡ written lent (live_line s))

-- What a sweep of the state s leaves: its answer, the line list, and the state t.
pub record Swept (s : Run) (lent : List ℕ) (answer : RecoverAnswer) (line : List ℕ) (t : Run) : Type 0 where
  -- "nobody rolls back"
  pub nobody : answer ≡ Ok (record { rolled_back = 0; deleted = length (recover_deletions s 0) })
  -- "the line has every process live"
  pub live : line ≡ written lent (live_line s)
  pub vectors : t.vectors ≡ s.vectors
  pub marks : t.sent ≡ s.sent
  -- "Messages under way stay"
  pub messages : under_way t ≡ under_way s

-- The same as a recover call says it.
unfoldable pub SweepPromise : Run → ℕ → List ℕ → List ℕ → RecoverAnswer → List ℕ → Run → Type 0
SweepPromise s F deleted lent answer line t = sound s ≡ true → F ≡ 0 → 2 * s.count * s.count ≤ length deleted → s.count ≤ length lent → Swept s lent answer line t
