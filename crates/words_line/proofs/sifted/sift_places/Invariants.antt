-- `words_line::sifted::sift_places` meets its contract. The loop's invariant: the places passed so far are without the lost messages, and that many are left in them.
-- Assumes nothing.
use Rattle.std.specs.Prelude.{◌≡◌, ◌∷◌, ◌+◌, ◌-◌, ◌≤◌, ◌<◌}
use Rattle.laws.specs.Basics.{refl, sym, ◌∙◌, ap, true, List, [], ℕ, arith, length, length-append, rules, pick, by_bool}
use native.Mathlib.Numerals.{add-one}
use Rattle.laws.specs.Lists.{select, table}
use Rattle.model.specs.declared.{CheckpointIndex.CheckpointIndex, Message.Message}
use Rattle.words.specs.Layout.{state_size, word, sender_at_of, message_in, is_message}
use Rattle.words.proofs.messages.Selected.{select_more, select_less}
use Rattle.words_line.specs.Sifted.{remains, sifted_place, sifted_below}
use Rattle.words_line.proofs.{Sifting.sifted_below_lem}
use Rattle.words_line.proofs.sifted.sift_places.Given as goal

abbrev left_of : List CheckpointIndex → List ℕ → ℕ → ℕ
left_of indexes w k = length (select (remains indexes) (table k (message_in w)))

abbrev pub invariant-loop-k : goal.invariant-loop-k
invariant-loop-k l = (l.k ≤ l.end) × (l.left ≤ l.k) × (length l.w ≡ length l.initial.w) × (l.w ≡ sifted_below l.indexes l.initial.w l.k) × (l.left ≡ left_of l.indexes l.initial.w l.k)
