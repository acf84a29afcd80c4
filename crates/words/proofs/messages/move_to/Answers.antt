-- `words::messages::move_to` meets its contract. Assumes nothing.
use Rattle.std.specs.Prelude.{◌≡◌}
use Rattle.laws.specs.Basics.{◌∙◌, List, ℕ, arith, length-set, rules}
use Rattle.model.specs.declared.Interval.{Interval}
use Rattle.words.specs.{Layout.word, Layout.sender_at_of, Layout.receiver_at_of, Layout.carried_at, Layout.vector_in, Layout.message_in, Puts.puts}
use Rattle.words.proofs.{Reading.set_is_put}
use Rattle.words.specs.messages.Places.{message_puts, moved_to}
use Rattle.words.proofs.messages.move_to.Goals as goal

-- What was read is the message that stands there.
moved_by : (w : List ℕ) (from to n : ℕ) (v : List Interval) → n ≡ (message_in w from).number → v ≡ vector_in w (carried_at from)
    → puts w (message_puts to (record { number = n; sender = word w (sender_at_of from); receiver = word w (receiver_at_of from); vector = v })) ≡ moved_to w from to
unfolding moved_to message_in
moved_by w from to n v e f = rw (e, f)

pub bounds-w-to-2 : goal.bounds-w-to-2
bounds-w-to-2 c =
    simp length-set (omega arith)

pub bounds-w-to-3 : goal.bounds-w-to-3
bounds-w-to-3 c =
    simp length-set (omega arith)

pub bounds-w-to-4 : goal.bounds-w-to-4
bounds-w-to-4 c =
    simp length-set (omega arith)

pub put_vector-requires : goal.put_vector-requires
put_vector-requires c =
    simp length-set (omega arith)

pub shape_of-w : goal.shape_of-w
shape_of-w c =
    c.put_vector.auto.w ∙ simp length-set

pub returns : goal.returns
returns c =
    let a = c.args in c.put_vector.ensures ∙ simp set_is_put (moved_by a.w.now a.from a.to _ _ c.number_at-number.ensures c.vector_at-row.ensures)
