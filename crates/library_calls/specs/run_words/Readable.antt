-- Words that stand for a state of the declared type: what a call in place leaves of words that stand for a sound one.
-- Assumes nothing.
use Rattle.std.specs.Prelude.{◌≡◌, ◌≤◌, ◌<◌}
use Rattle.laws.specs.Basics.{true, List, ℕ}
use Rattle.model.specs.declared.Run.{Run}
use Rattle.model.specs.Words.{most_processes}
use Rattle.words.specs.Layout.{word, count_of, cause_at_of, is_kept_in, fits}

pub record Readable (w : List ℕ) : Type 0 where
  pub fit : fits w ≡ true
  -- A state has rows for 16 processes,
  pub few : count_of w ≤ most_processes
  -- and a cause is a number of 8 bits.
  pub causes : (p k : ℕ) → p < count_of w → k < most_processes → is_kept_in w p k ≡ true → word w (cause_at_of p k) < 256

-- What a send or a loss changes of a run s, taken from the run r after it.
unfoldable pub after_messages : Run → Run → Run
after_messages s r = record {
  count = s.count;
  vectors = s.vectors;
  pins = s.pins;
  sent = r.sent;
  kept = s.kept;
  kept_count = s.kept_count;
  messages = r.messages;
  underway = r.underway;
  last = r.last;
  disk = s.disk;
}
