-- `words_line::sifted::is_lost` meets its contract. Assumes nothing.
use Rattle.std.specs.Prelude.{◌≡◌, ◌+◌, ◌<◌}
use Rattle.laws.specs.Basics.{◌∙◌, List, ℕ, ltb, get_or, rules}
use Rattle.model.specs.declared.{CheckpointIndex.CheckpointIndex, Interval.Interval}
use Rattle.words.specs.Layout.{word, sender_at_of, carried_at, interval_of, message_in}
use Rattle.words.proofs.Same.{vector_word}
use Rattle.words_line.specs.Sifted.{lost_to}
use Rattle.words_line.proofs.sifted.is_lost.Goals as goal

lost_by : (w : List ℕ) (k : ℕ) (indexes : List CheckpointIndex) (carried : Interval) → word w (sender_at_of k) < 16 → carried ≡ interval_of (word w (carried_at k + word w (sender_at_of k)))
    → ltb (get_or indexes (word w (sender_at_of k)) (record { 0 = 0 })).0 carried.0 ≡ lost_to indexes (message_in w k)
unfolding lost_to message_in
lost_by w k indexes carried lt e = rw (vector_word w (carried_at k) (word w (sender_at_of k)) lt, e)

pub returns : goal.returns
returns c =
    lost_by c.args.w.now c.args.k _ _ c.requires.2 c.interval_of-carried.ensures
