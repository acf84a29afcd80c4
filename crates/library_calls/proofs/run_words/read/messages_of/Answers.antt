-- `library_calls::run_words::read::messages_of` meets its contract. Assumes nothing.
use Rattle.std.specs.Prelude.{◌≡◌}
use Rattle.laws.specs.Basics.{refl, ◌∙◌, ap, arith, replicate, rules}
use Rattle.laws.specs.{Lists.select, Lists.table, Prefixes.placed_none}
use Rattle.model.specs.declared.Message.{Message}
use Rattle.model.specs.Words.{no_message}
use Rattle.words.specs.Layout.{end_of, messages_in}
use Rattle.library_calls.proofs.run_words.Tables.{first_messages_used, first_messages_unused}
use Rattle.library_calls.proofs.run_words.read.messages_of.Goals as goal
use Rattle.library_calls.proofs.run_words.read.messages_of.Goals.{then-x-ne0, else-x-ne0}

pub loop-k-init : goal.loop-k-init
unfolding select table
loop-k-init c =
    (search rules, search rules, refl, ap (λ (x : Message). replicate 64 x) c.no_message-none.ensures ∙ placed_none 64 no_message)

pub loop-k-preserved : goal.loop-k-preserved
loop-k-preserved c =
    let l = c.loop-k in let a = c.args in elim c.if-x-ne0.branch [
      | then-x-ne0 t ↦
          let n = first_messages_used a.w.now l.k l.many l.messages _ (search rules) c.message_at-x.ensures l.invariant.2 l.invariant.3 t.if-x-ne0.true in
          (search rules, omega (arith, t.many-is), t.many-is ∙ n.0, t.messages-is ∙ n.1)
      | else-x-ne0 t ↦
          let n = first_messages_unused a.w.now l.k l.many l.messages _ (search rules) c.message_at-x.ensures l.invariant.2 l.invariant.3 t.if-x-ne0.false in
          (search rules, omega (arith, t.many-is), t.many-is ∙ n.0, t.messages-is ∙ n.1)
    ]

pub returns : goal.returns
unfolding messages_in
returns c =
    let l = c.loop-k in let e : l.k ≡ end_of c.args.w.now = omega (arith, c.requires.1) in
    rw e at l.invariant.3
