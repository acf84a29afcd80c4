-- `words_process::kept::split` meets its contract. Assumes nothing.
use Rattle.std.specs.Prelude.{◌≡◌, ◌+◌, ◌-◌, ◌*◌, ◌≤◌, ◌<◌}
use Rattle.laws.specs.Basics.{refl, sym, ◌∙◌, ap, true, false, List, [], ℕ, arith, length, set, sets, rules}
use Rattle.laws.specs.{Loops.either, Tests.some_of}
use Rattle.model.specs.{Words.names, Words.is_pinned, Steps.listed}
use Rattle.model.specs.declared.{Checkpoint.Checkpoint, CheckpointIndex.CheckpointIndex}
use Rattle.whole_runs.specs.Outcomes.{pairs}
use Rattle.words.specs.Layout.{word, index_at_of, index_of_def, checkpoint_in}
use Rattle.words_process.specs.{Kept.Used, Kept.Split, Pins.pin_row}
use Rattle.words_process.proofs.Collecting.{pinned_is, index_is, index_there, split_first, split_stays, split_moves, unpinned, unpinned_none, unpinned_same, one_more, pair_more, pairs_none}
use Rattle.words_process.proofs.kept.split.Goals as goal
use Rattle.words_process.proofs.kept.split.Goals.{then-pinned, else-pinned}

used_at : (w : List ℕ) (p n : ℕ) → Used w p n → (k : ℕ) → k < n → 1 ≤ word w (index_at_of p k)
unfolding Used
used_at w p n used k lt = used k lt

nothing_yet : (l : List ℕ) (at p : ℕ) (gone : List Checkpoint) → gone ≡ [] → l ≡ sets l at (pairs (listed p gone))
unfolding sets
nothing_yet l at p gone e = sym (ap (λ (q : List Checkpoint). sets l at (pairs (listed p q))) e ∙ ap (sets l at) (pairs_none p))

pub loop-k-init : goal.loop-k-init
loop-k-init c =
    let none = unpinned_none c.args.w.now c.args.p (pin_row c.args.pins) c.args.from c.requires.w_len.5 in (
      search rules,
      c.requires.w_len.2,
      refl,
      refl,
      split_first c.args.w.now c.requires.w_len.0 c.args.p c.requires.w_len.1 (pin_row c.args.pins) c.args.from c.args.kept_count c.requires.w_len.2 c.requires.w_len.3 c.requires.w_len.4 c.requires.w_len.5,
      nothing_yet c.args.deleted.now (2 * c.args.before) c.args.p _ none,
      rw none (omega arith),
    )

pub is_pinned-pinned-requires : goal.is_pinned-pinned-requires
is_pinned-pinned-requires c =
    let there : c.loop-k.k < c.args.kept_count → 1 ≤ word c.loop-k.w (index_at_of c.args.p c.loop-k.k) = λ lt. omega (
      arith,
      used_at c.args.w.now c.args.p c.args.kept_count c.requires.w_len.4 c.loop-k.k lt,
      index_there c.args.w.now c.requires.w_len.0 c.args.p c.requires.w_len.1 (pin_row c.args.pins) c.loop-k.k c.loop-k.w c.loop-k.to c.loop-k.invariant.4 (omega (arith, c.requires.w_len.3)),
    ) in
    there (omega arith)

pub move_up-requires : goal.move_up-requires
move_up-requires c =
    let l = c.loop-k in (l.invariant.2 ∙ c.requires.w_len.0, c.requires.w_len.1, omega (arith, c.requires.w_len.3), omega (arith, c.requires.w_len.3, l.invariant.4.most))

pub overflow_sub-before : goal.overflow_sub-before
overflow_sub-before c =
    let l = c.loop-k in omega (arith, l.invariant.6)

pub index_of-requires : goal.index_of-requires
index_of-requires c =
    let there : c.loop-k.k < c.args.kept_count → 1 ≤ word c.loop-k.w (index_at_of c.args.p c.loop-k.k) = λ lt. omega (
      arith,
      used_at c.args.w.now c.args.p c.args.kept_count c.requires.w_len.4 c.loop-k.k lt,
      index_there c.args.w.now c.requires.w_len.0 c.args.p c.requires.w_len.1 (pin_row c.args.pins) c.loop-k.k c.loop-k.w c.loop-k.to c.loop-k.invariant.4 (omega (arith, c.requires.w_len.3)),
    ) in
    there (omega arith)

pub write_pair-requires : goal.write_pair-requires
write_pair-requires c =
    let l = c.loop-k in (omega (arith, c.requires.kept_count_in_bounds.0, l.invariant.3, l.invariant.6), c.requires.w_len.1, omega (arith, c.requires.kept_count_in_bounds.1, c.requires.w_len.3))

pub loop-k-preserved : goal.loop-k-preserved
loop-k-preserved c =
    let l = c.loop-k in let lt : l.k < c.args.kept_count = omega arith in
    let room : l.k < 16 = omega (arith, c.requires.w_len.3) in
    let w = c.args.w.now in let p = c.args.p in let pins = pin_row c.args.pins in let same = index_there w c.requires.w_len.0 p c.requires.w_len.1 pins l.k l.w l.to l.invariant.4 room in let test = pinned_is w p l.k pins ∙ ap (λ (x : ℕ). some_of (λ pin. names pin (index_of_def x)) pins) (sym same) ∙ sym c.is_pinned-pinned.ensures in elim c.if-pinned.branch [
      | then-pinned t ↦
          let e : is_pinned pins (checkpoint_in w p l.k) ≡ true = test ∙ t.if-pinned.true in
          let none = unpinned_same w p pins l.k e in (
            omega (arith, l.invariant.0),
            search rules,
            ap length t.w-is ∙ t.move_up.auto.w ∙ l.invariant.2,
            ap length t.deleted-is ∙ l.invariant.3,
            rw (t.w-is, t.to-is, t.move_up.ensures) (split_moves w c.requires.w_len.0 p c.requires.w_len.1 pins l.k l.w l.to l.invariant.4 room (used_at w p c.args.kept_count c.requires.w_len.4 l.k lt) e),
            t.deleted-is ∙ l.invariant.5 ∙ ap (λ (q : List Checkpoint). sets c.args.deleted.now (2 * c.args.before) (pairs (listed p q))) (sym none),
            omega (arith, t.to-is, l.invariant.6, ap length none),
          )
      | else-pinned t ↦
          let e : is_pinned pins (checkpoint_in w p l.k) ≡ false = test ∙ t.if-pinned.false in
          let more = one_more w p pins l.k e in (
            omega (arith, l.invariant.0),
            search rules,
            ap length t.w-is ∙ l.invariant.2,
            ap length t.deleted-is ∙ t.write_pair.auto.deleted ∙ l.invariant.3,
            rw (t.w-is, t.to-is) (split_stays w c.requires.w_len.0 p c.requires.w_len.1 pins l.k l.w l.to l.invariant.4 room e),
            t.deleted-is ∙ t.write_pair.ensures ∙ ap (λ (x : CheckpointIndex). set (set l.deleted _ p) _ x.0) (t.index_of.ensures ∙ ap (λ (x : ℕ). index_of_def x) same ∙ sym (index_is w p l.k))
                ∙ pair_more w p pins l.k e c.args.deleted.now l.deleted (2 * c.args.before) _ l.invariant.5 (omega (arith, l.invariant.6)),
            omega (arith, t.to-is, l.invariant.6, more),
          )
    ]

pub shape_of-w : goal.shape_of-w
shape_of-w c =
    c.loop-k.invariant.2

pub shape_of-deleted : goal.shape_of-deleted
shape_of-deleted c =
    c.loop-k.invariant.3

pub returns : goal.returns
returns c =
    let l = c.loop-k in let e : l.k ≡ c.args.kept_count = omega arith in record { split = rw e at l.invariant.4; deleted_after = rw e at l.invariant.5; kept_count_value = rw e at l.invariant.6 }
